-- The parts of theorems: which rule a conjunct gives, and that its instance stands where its hypotheses are relieved.
use Rattle.std.proofs.Common.{◌≡◌, ◌≢◌, ℕ, zero, suc, ◌+◌, Bool, true, false, List, [], ◌∷◌, IfSome, ◌↔◌, Option, Some, None, is_some, slice_get, refl, ap, sym, ◌∙◌, subst, Bor, IsTrue, IfOk, Result, Ok, Err}
use Rattle.std.specs.Option.{option_copied}
use Rattle.ap_list.specs.Lists.{Each}
use Rattle.ap_value.specs.declared.symbol.Symbol.{Symbol}
use Rattle.ap_value.specs.Values.{V}
use Rattle.ap_term.specs.declared.term.Term.{Term}
use Rattle.ap_term.specs.Terms.{subst_of}
use Rattle.ap_term.specs.Matching.{Pairs}
use Rattle.ap_world.specs.declared.entry.Theorem.{Theorem}
use Rattle.ap_world.specs.Primitives.{nil}
use Rattle.ap_world.specs.Meaning.{Env, Total}
use Rattle.ap_world.specs.Clauses.{conjuncts}
use Rattle.ap_world.specs.Facts.{KnownFacts, FactsHold}
use Rattle.ap_world.specs.Holding.{KnownPairs, AgreeUnder, RuleHolds, part_at, part_of}
use Rattle.ap_world.specs.Rules.{Rule, stated, sides, rules_from}
use Rattle.ap_world.specs.Sound.{Sound}
use Rattle.ap_world.specs.World.{Shown, function_of, theorem_of}
use Rattle.ap_world.proofs.Equations.{t_isnt_nil, val_t_constant}
use Rattle.ap_world.proofs.Instances.{known_subst}
use Rattle.ap_world.proofs.RulesStand.{rule_same, parts_hold}
use Rattle.ap_world.proofs.TotalMeaning.{Apply, Models, models, val}
use Rattle.ap_kernel.specs.declared.objects.Ctx.{Ctx}
use Rattle.ap_kernel.specs.declared.objects.Sequent.{Sequent}
use Rattle.ap_kernel.specs.declared.objects.Equiv.{Equiv}
use Rattle.ap_kernel.specs.Standing.{DefinesNot, Same, Holds, Stands}
use Rattle.ap_kernel.specs.Applying.{mode_in, applied_made, AllLead, PartRelieved, conjunct_at}
use Rattle.ap_kernel.proofs.Standing.{agree, stand}
use Rattle.ap_kernel.proofs.CallsStand.{both_nil}

-- the rule that a conjunct of a theorem's conclusion gives
abbrev pub rule_at : Symbol → ℕ → List Term → Term → Rule
rule_at x i hs c = record { theorem = x; part = i; iff = (sides c).0; lhs = (sides c).1; rhs = (sides c).2; hyps = hs }

from_found : (x : Symbol) (hs : List Term) (k : ℕ) (us : List Term) (i : ℕ) (c : Term) → slice_get us i ≡ Some c → (j : ℕ) × (slice_get (rules_from x hs k us) i ≡ Some (rule_at x j hs c))
from_found x hs k [] i c h = cc
from_found x hs k (u ∷ us) zero c h = let same : u ≡ c = cc in (k, ap (λ c. Some (rule_at x k hs c)) same)
from_found x hs k (u ∷ us) (suc i) c h = from_found x hs (k + 1) us i c h

from_none : (x : Symbol) (hs : List Term) (k : ℕ) (us : List Term) (i : ℕ) → slice_get us i ≡ None → slice_get (rules_from x hs k us) i ≡ None
from_none x hs k [] i h = refl
from_none x hs k (u ∷ us) zero h = cc
from_none x hs k (u ∷ us) (suc i) h = from_none x hs (k + 1) us i h

-- the part that is read from a conjunct
pub part_found : (x : Symbol) (i : ℕ) (o : Option Theorem) (c : Term) → conjunct_at i o ≡ Some c → (j : ℕ) × (hs : List Term) × (part_at x i o ≡ Some (rule_at x j hs c))
part_found x i None c h = cc
part_found x i (Some u) c h = let r = from_found x (stated u.term).0 0 (conjuncts (stated u.term).1) i c h in (r.0, (stated u.term).0, r.1)

pub part_none : (x : Symbol) (i : ℕ) (o : Option Theorem) → conjunct_at i o ≡ None → part_at x i o ≡ None
part_none x i None h = refl
part_none x i (Some u) h = from_none x (stated u.term).0 0 (conjuncts (stated u.term).1) i h

pub part_there : (x : Symbol) (i : ℕ) (o : Option Theorem) → is_some (conjunct_at i o) ≡ is_some (part_at x i o)
part_there x i o = go (conjunct_at i o) refl
  where
    go : (c : Option Term) → conjunct_at i o ≡ c → is_some c ≡ is_some (part_at x i o)
    go None q = ap (λ o. is_some o) (sym (part_none x i o q))
    go (Some c) q = ap (λ o. is_some o) (sym (part_found x i o c q).2)

same_under : (b : Bool) (v w : V) → AgreeUnder b v w → Same (mode_in b) v w
same_under true v w h = h
same_under false v w h = h

-- where each hypothesis's instance leads to 'T, none of the instances is nil
hyps_held : (w : Shown) (c : Ctx) (s : Pairs) (A : Apply) → Models (function_of w.entries) A → (e : Env) → FactsHold (function_of w.entries) e c.0 → (hs : List Term) (qs : List Equiv)
    → Each (Stands w) qs → AllLead c s hs qs → Each (λ h. val A (subst_of s h) e ≢ nil) hs
hyps_held w c s A ms e k [] [] ss rs = tt
hyps_held w c s A ms e k (h ∷ hs) (q ∷ qs) ss rs =
    let l = rs.0 in
    let facts : FactsHold (function_of w.entries) e q.says.ctx.0 = subst (λ (c : Ctx). FactsHold (function_of w.entries) e c.0) (sym l.facts) k in
    let nils = both_nil q.says.mode (val A q.says.lhs e) (val A q.says.rhs e) (agree (function_of w.entries) A ms q.says ss.0.says e facts) in (
      (λ z. t_isnt_nil (sym (ap (λ u. val A u e) l.right ∙ val_t_constant A e) ∙ nils.0 (ap (λ u. val A u e) l.left ∙ z))),
      hyps_held w c s A ms e k hs qs ss.1 rs.1,
    )
hyps_held w c s A ms e k [] (q ∷ qs) ss rs = absurd rs
hyps_held w c s A ms e k (h ∷ hs) [] ss rs = absurd rs

-- the instance of a rule that holds
pub rule_stands : (w : Shown) → Total (function_of w.entries) → (c : Ctx) (g : Rule) (s : Pairs) (qs : List Equiv) → KnownFacts (function_of w.entries) c.0 → RuleHolds (function_of w.entries) g
    → KnownPairs (function_of w.entries) s → Each (Stands w) qs → AllLead c s g.hyps qs → Holds (function_of w.entries) (applied_made c s g)
rule_stands w total c g s qs facts holds ks ss rs =
    let (A, ms) = models (function_of w.entries) total in
    stand (function_of w.entries) A ms (applied_made c s g) facts
    (known_subst (function_of w.entries) s ks g.lhs holds.left) (known_subst (function_of w.entries) s ks g.rhs holds.right)
    (λ e h. same_under g.iff (val A (subst_of s g.lhs) e) (val A (subst_of s g.rhs) e) (rule_same (function_of w.entries) A ms g holds s e (hyps_held w c s A ms e h g.hyps qs ss rs)))

-- the instance of a part of a theorem of a sound world
pub apply_stands : (w : Shown) → Sound w.entries → DefinesNot (function_of w.entries) → (c : Ctx) (x : Symbol) (i : ℕ) (g : Rule) (s : Pairs) (qs : List Equiv) → part_of w.entries x i ≡ Some g
    → KnownFacts (function_of w.entries) c.0 → KnownPairs (function_of w.entries) s → Each (Stands w) qs → PartRelieved c s (part_of w.entries x i) qs → Holds (function_of w.entries) (applied_made c s g)
apply_stands w sound ground c x i g s qs here facts ks ss rs =
    rule_stands w sound.total c g s qs facts (parts_hold w.entries sound ground x i g here) ks ss (subst (λ o. PartRelieved c s o qs) here rs)

pub copied_there : (o : Option (Bor Term)) → is_some o ≡ is_some (option_copied o)
copied_there None = refl
copied_there (Some u) = refl

-- what is said of a conjunct's sides
abbrev pub conjunct_made : Ctx → Pairs → Term → Sequent
conjunct_made c s u = record { ctx = c; mode = mode_in (sides u).0; lhs = subst_of s (sides u).1; rhs = subst_of s (sides u).2 }

-- it is what the part says, and stands where the part's hypotheses are relieved
pub conjunct_said : (c : Ctx) (s : Pairs) (x : Symbol) (i : ℕ) (o : Option Theorem) (u : Term) (q : Sequent) → conjunct_at i o ≡ Some u → q ≡ conjunct_made c s u
    → IfSome (part_at x i o) (λ g. q ≡ applied_made c s g)
conjunct_said c s x i o u q h e = subst (λ p. IfSome p (λ g. q ≡ applied_made c s g)) (sym (part_found x i o u h).2) e

pub conjunct_stands : (w : Shown) → Sound w.entries → DefinesNot (function_of w.entries) → (c : Ctx) (x : Symbol) (i : ℕ) (s : Pairs) (qs : List Equiv) (u : Term)
    → conjunct_at i (theorem_of w.entries x) ≡ Some u → KnownFacts (function_of w.entries) c.0 → KnownPairs (function_of w.entries) s → Each (Stands w) qs → PartRelieved c s (part_of w.entries x i) qs
    → Holds (function_of w.entries) (conjunct_made c s u)
conjunct_stands w sound ground c x i s qs u h facts ks ss rs =
    let r = part_found x i (theorem_of w.entries x) u h in
    apply_stands w sound ground c x i (rule_at x r.0 r.1 u) s qs r.2 facts ks ss rs

-- no part that isn't there is relieved
pub relieved_none : (c : Ctx) (s : Pairs) (x : Symbol) (i : ℕ) (o : Option Theorem) (qs : List Equiv) → conjunct_at i o ≡ None → PartRelieved c s (part_at x i o) qs → ⊥
relieved_none c s x i o qs h rs = subst (λ p. PartRelieved c s p qs) (part_none x i o h) rs

-- each rule of a theorem has all the theorem's hypotheses
from_hyps : (x : Symbol) (hs : List Term) (k : ℕ) (us : List Term) (i : ℕ) (g : Rule) → slice_get (rules_from x hs k us) i ≡ Some g → hs ≡ g.hyps
from_hyps x hs k [] i g h = cc
from_hyps x hs k (u ∷ us) zero g h = let same : rule_at x k hs u ≡ g = cc in ap (λ (g : Rule). g.hyps) same
from_hyps x hs k (u ∷ us) (suc i) g h = from_hyps x hs (k + 1) us i g h

-- so a part that is there is relieved where the theorem's hypotheses are
pub relieved_part : (c : Ctx) (s : Pairs) (x : Symbol) (i : ℕ) (o : Option Theorem) (u : Theorem) (qs : List Equiv) → o ≡ Some u → is_some (part_at x i o) ≡ true
    → AllLead c s (stated u.term).0 qs ↔ PartRelieved c s (part_at x i o) qs
relieved_part c s x i o u qs is there = go (part_at x i o) (ap (part_at x i) (sym is)) there
  where
    go : (p : Option Rule) → part_at x i (Some u) ≡ p → is_some p ≡ true → AllLead c s (stated u.term).0 qs ↔ PartRelieved c s p qs
    go None q h = cc
    go (Some g) q h =
        let same = from_hyps x (stated u.term).0 0 (conjuncts (stated u.term).1) i g q in
        (λ r. subst (λ hs. AllLead c s hs qs) same r, λ r. subst (λ hs. AllLead c s hs qs) (sym same) r)

-- a test of one fact is a test of another that is as good
pub told_by : {E : Type 0} (r : Result Bool E) (P Q : Type 0) → (P ↔ Q) → IfOk r (λ b. IsTrue b ↔ P) → IfOk r (λ b. IsTrue b ↔ Q)
told_by (Ok b) P Q k h = (λ p. k.0 (h.0 p), λ q. h.1 (k.1 q))
told_by (Err e) P Q k h = tt
