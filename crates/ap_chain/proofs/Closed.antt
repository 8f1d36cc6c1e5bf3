-- What a step's reduction is from, and reductions that lead to no clause.
use Rattle.std.proofs.Common.{◌≡◌, List, [], ◌∷◌, ◌++◌, Option, Some, None, IfSome, Result, Ok, Err, IfOk, option_map, refl, ap, sym, ◌∙◌, subst}
use Rattle.ap_list.specs.Lists.{Each}
use Rattle.ap_term.specs.declared.term.Clause.{Clause}
use Rattle.ap_world.specs.World.{Shown}
use Rattle.ap_walk.specs.declared.act.Out.{Out}
use Rattle.ap_kernel.specs.declared.reductions.Inference.{Inference}
use Rattle.ap_kernel.specs.declared.reductions.Reduction.{Reduction}
use Rattle.ap_kernel.specs.Reductions.{Reduces, claims, all_from, all_to, chained}
use Rattle.ap_strategy.specs.Goals.{Goal}
use Rattle.ap_strategy.specs.Leads.{once, clauses_of, said_once, to_children, reduction_of}
use Rattle.ap_strategy.specs.Steps.{reduced_to, step_of}
use Rattle.ap_chain.specs.Closing.{Closes}

same_from : (i j : Inference) → Some (once i) ≡ Some (once j) → i.from ≡ j.from
same_from i j h = let e : once i ≡ once j = cc in ap (λ (k : Inference). k.from) e

from_children : (r : Reduction) (c : Clause) (out : Out Goal) → Some (said_once r) ≡ to_children c out → r.says.from ≡ c
from_children r c (Out.Split gs) h = same_from r.says (reduced_to c (clauses_of gs)) h
from_children r c Out.Push h = absurd (cc)
from_children r c (Out.Stop why) h = absurd (cc)

-- a reduction by a goal's step is from the goal's clause
pub step_from : (g : Goal) (o : Option Reduction) → option_map said_once o ≡ reduction_of g → IfSome o (λ (r : Reduction). r.says.from ≡ g.clause)
unfolding reduction_of
step_from g None h = tt
step_from g (Some r) h = from_children r g.clause (step_of g).out h

-- reductions that lead to no clause stand, and lead to none together
pub close_each : (w v : Shown) (rs : List Reduction) → v ≡ w → Each (Closes w) rs → Each (Reduces v) rs
close_each w v [] same h = tt
close_each w v (r ∷ rs) same h = (subst (λ (x : Shown). Reduces x r) (sym same) h.0.stands, close_each w v rs same h.1)

pub close_none : (w : Shown) (rs : List Reduction) → Each (Closes w) rs → all_to (claims rs) ≡ []
close_none w [] h = refl
close_none w (r ∷ rs) h = ap (λ cs. cs ++ all_to (claims rs)) h.0.none ∙ close_none w rs h.1

-- chained behind another one they lead to none
pub close_chained : {E : Type 0} (o : Result Reduction E) (w v : Shown) (a : Reduction) (rs : List Reduction) → v ≡ w → IfOk o (Reduces v)
    → IfOk o (λ (r : Reduction). r.says ≡ chained a.says (claims rs)) → Each (Closes w) rs → IfOk o (Closes w)
close_chained (Err e) w v a rs same stands made each = tt
close_chained (Ok r) w v a rs same stands made each =
    record { stands = subst (λ (x : Shown). Reduces x r) same stands; none = ap (λ (i : Inference). i.to) made ∙ close_none w rs each }

pub chained_from : {E : Type 0} (o : Result Reduction E) (a : Reduction) (rs : List Reduction) → IfOk o (λ (r : Reduction). r.says ≡ chained a.says (claims rs)) → IfOk o (λ (r : Reduction). r.says.from ≡ a.says.from)
chained_from (Err e) a rs made = tt
chained_from (Ok r) a rs made = ap (λ (i : Inference). i.from) made

-- one more reduction
pub close_more : (w : Shown) (rs : List Reduction) (r : Reduction) → Each (Closes w) rs → Closes w r → Each (Closes w) (rs ++ r ∷ [])
close_more w [] r hs h = (h, tt)
close_more w (s ∷ rs) r hs h = (hs.0, close_more w rs r hs.1 h)

pub from_more : (rs : List Reduction) (r : Reduction) → all_from (claims (rs ++ r ∷ [])) ≡ all_from (claims rs) ++ r.says.from ∷ []
from_more [] r = refl
from_more (s ∷ rs) r = ap (λ cs. s.says.from ∷ cs) (from_more rs r)
