-- What a derivation gives: each row from what its own derivations give, nothing where a condition isn't met.
use Rattle.std.specs.Prelude.{ℕ, Bool, true, false, cond, ◌&&◌, List, [], ◌∷◌, ◌++◌, map, Option, Some, None}
use Rattle.std.specs.Option.{option_map}
use Rattle.ap_list.specs.Lists.{all_true, all_some}
use Rattle.ap_term.specs.declared.term.Term.{Term, Call}
use Rattle.ap_term.specs.Matching.{Pairs}
use Rattle.ap_world.specs.Facts.{Facts}
use Rattle.ap_world.specs.Sound.{known}
use Rattle.ap_world.specs.World.{Shown, function_of}
use Rattle.ap_kernel.specs.declared.derivations.Derivation.{Derivation, fold-Derivation, Leaf, One, Many}
use Rattle.ap_kernel.specs.declared.derivations.Derivation.TheOpen.{Derivation-F}
use Rattle.ap_kernel.specs.declared.derivations.Row.{Row}
use Rattle.ap_kernel.specs.declared.derivations.Row.TheVariants as row
use Rattle.ap_kernel.specs.declared.objects.Ctx.{Ctx}
use Rattle.ap_kernel.specs.declared.objects.Equiv.{Equiv}
use Rattle.ap_kernel.specs.declared.objects.Mode.{Mode}
use Rattle.ap_kernel.specs.declared.objects.Sequent.{Sequent}
use Rattle.ap_kernel.specs.declared.reductions.Inference.{Inference}
use Rattle.ap_kernel.specs.Certificates.{certificate_says, sources_terms}
use Rattle.ap_kernel.specs.Fertilising.{fertilise_made}
use Rattle.ap_kernel.specs.Hinting.{cased}
use Rattle.ap_kernel.specs.Rows.{refl_says, trans_says, weaken_says, cong_says, branch_says, choose_says, open_says, apply_says, fold_says, type_says, fact_says, equal_says, shape_says, double_says, not_less_says, rewrite_says, alone, drop_says, generalise_says, eliminate_says, use_says, induct_says, chain_says}
use Rattle.ap_kernel.specs.Saying.{is_unchanged}
use Rattle.ap_kernel.specs.Solving.{solved_made}
use Rattle.ap_kernel.specs.Splits.{and_then, split_made}
use Rattle.ap_kernel.specs.Tidying.{tidy_made}

-- what an object says
pub data Said : Type 0 where
  equiv : Sequent → Said
  reduction : Inference → Said

-- a row and what it was handed: nothing, one, or a list
abbrev pub listed : Row → List Derivation → Derivation
listed r ds = Many r ds

abbrev pub node : Row → List Derivation → Derivation
node r [] = Leaf r
node r (d ∷ []) = One r d
node r ds = Many r ds

-- how an equivalence was made: one of which nothing is kept leads from a term to itself
abbrev pub why_by : Ctx → Mode → Term → Option Derivation → Derivation
why_by c m t (Some d) = d
why_by c m t None = node (row.Refl c m t) []

abbrev pub why_of : Equiv → Derivation
why_of q = why_by q.says.ctx q.says.mode q.says.lhs q.why

-- what is kept of an `if` of what its parts lead to: nothing where all parts are unchanged
abbrev pub branch_why : Mode → Equiv → Equiv → Equiv → Option Derivation
branch_why m test on off = cond (is_unchanged test && (is_unchanged on && is_unchanged off)) None (Some (node (row.Branch m) (why_of test ∷ why_of on ∷ why_of off ∷ [])))

-- all of a list are equivalences, or reductions: what they say
abbrev pub equiv_in : Said → Option Sequent
equiv_in (equiv s) = Some s
equiv_in (reduction i) = None

abbrev pub reduction_in : Said → Option Inference
reduction_in (equiv s) = None
reduction_in (reduction i) = Some i

abbrev pub equivs_in : List Said → Option (List Sequent)
equivs_in ss = all_some (map equiv_in ss)

abbrev pub reductions_in : List Said → Option (List Inference)
reductions_in ss = all_some (map reduction_in ss)

-- a row that is handed equivalences and answers one, one that answers a reduction, and the row that is handed those
abbrev pub to_equiv : (List Sequent → Option Sequent) → List Said → Option Said
to_equiv k ss = and_then (equivs_in ss) (λ qs. option_map equiv (k qs))

abbrev pub to_reduction : (List Sequent → Option Inference) → List Said → Option Said
to_reduction k ss = and_then (equivs_in ss) (λ qs. option_map reduction (k qs))

abbrev pub from_reductions : (List Inference → Option Inference) → List Said → Option Said
from_reductions k ss = and_then (reductions_in ss) (λ is. option_map reduction (k is))

-- what a row answers
abbrev pub row_says : Shown → Row → List Said → Option Said
row_says w (row.Refl c m t) = to_equiv (refl_says c m t)
row_says w row.Trans = to_equiv trans_says
row_says w row.WeakenMode = to_equiv weaken_says
row_says w (row.Cong c f) = to_equiv (cong_says (function_of w.entries) c f)
row_says w (row.Branch m) = to_equiv (branch_says m)
row_says w (row.ChooseBranch m s a b) = to_equiv (choose_says m s a b)
row_says w (row.OpenDef c t) = to_equiv (open_says (function_of w.entries) c t)
row_says w (row.ApplyTheorem c f i s) = to_equiv (apply_says w c f i s.0)
row_says w (row.Fold c t v) = to_equiv (fold_says (function_of w.entries) c t v)
row_says w (row.ByType c t m v) = to_equiv (type_says w c t m v)
row_says w (row.ByFact c i) = to_equiv (fact_says c i)
row_says w (row.ConsEqual c t) = to_equiv (equal_says c t)
row_says w (row.IfShape c o t m) = to_equiv (shape_says w c o t m)
row_says w (row.DoubleNot c o t m) = to_equiv (double_says w c o t m)
row_says w (row.ByCertificate c t s ps fs ks) = to_equiv (certificate_says w c t s ps fs ks)
row_says w (row.BothNotLess c m n) = to_equiv (not_less_says w c m n)
row_says w (row.RewriteLiteral c i) = to_reduction (rewrite_says c i)
row_says w (row.DropLiteral c i) = to_reduction (alone (drop_says c i))
row_says w (row.SplitIf c i is) = to_reduction (alone (split_made c i is))
row_says w (row.Tidy c) = to_reduction (alone (Some (tidy_made c)))
row_says w (row.UseEquality c i) = to_reduction (alone (solved_made c i))
row_says w (row.Fertilise c i j) = to_reduction (alone (fertilise_made c i j))
row_says w (row.Generalise c t v m) = to_reduction (alone (generalise_says w c t v m))
row_says w (row.Eliminate c v a b) = to_reduction (alone (eliminate_says c v a b))
row_says w (row.UseFact c f s) = to_reduction (alone (use_says w c f s.0))
row_says w (row.Cases c ts) = to_reduction (alone (Some (cased c ts)))
row_says w (row.Induct c f ts) = to_reduction (alone (induct_says (function_of w.entries) c f ts))
row_says w row.Chain = from_reductions chain_says

-- the terms among a row's arguments
abbrev pub facts_terms : Facts → List Term
facts_terms fs = map (λ f. f.0) fs

abbrev pub pairs_terms : Pairs → List Term
pairs_terms s = map (λ p. p.1) s

abbrev pub row_terms : Row → List Term
row_terms (row.Refl c m t) = t ∷ facts_terms c.0
row_terms row.Trans = []
row_terms row.WeakenMode = []
row_terms (row.Cong c f) = facts_terms c.0
row_terms (row.Branch m) = []
row_terms (row.ChooseBranch m s a b) = a ∷ b ∷ []
row_terms (row.OpenDef c t) = t ∷ facts_terms c.0
row_terms (row.ApplyTheorem c f i s) = pairs_terms s.0 ++ facts_terms c.0
row_terms (row.Fold c t v) = t ∷ facts_terms c.0
row_terms (row.ByType c t m v) = t ∷ facts_terms c.0
row_terms (row.ByFact c i) = facts_terms c.0
row_terms (row.ConsEqual c t) = t ∷ facts_terms c.0
row_terms (row.IfShape c o t m) = t ∷ facts_terms c.0
row_terms (row.DoubleNot c o t m) = t ∷ facts_terms c.0
row_terms (row.ByCertificate c t s ps fs ks) = t ∷ (sources_terms fs ++ facts_terms c.0)
row_terms (row.BothNotLess c m n) = facts_terms c.0
row_terms (row.RewriteLiteral c i) = c.0
row_terms (row.DropLiteral c i) = c.0
row_terms (row.SplitIf c i is) = c.0
row_terms (row.Tidy c) = c.0
row_terms (row.UseEquality c i) = c.0
row_terms (row.Fertilise c i j) = c.0
row_terms (row.Generalise c t v m) = t ∷ c.0
row_terms (row.Eliminate c v a b) = c.0
row_terms (row.UseFact c f s) = pairs_terms s.0 ++ c.0
row_terms (row.Cases c ts) = ts ++ c.0
row_terms (row.Induct c f ts) = Call f ts ∷ c.0
row_terms row.Chain = []

-- a row's terms are terms of the world
abbrev pub row_known : Shown → Row → Bool
row_known w r = all_true (map (known (function_of w.entries)) (row_terms r))

-- what a derivation gives
abbrev pub said_row : Shown → Row → List (Option Said) → Option Said
said_row w r os = cond (row_known w r) (and_then (all_some os) (row_says w r)) None

abbrev pub said_step : Shown → Derivation-F (Option Said) → Option Said
said_step w (Derivation-F.Leaf r) = said_row w r []
said_step w (Derivation-F.One r o) = said_row w r (o ∷ [])
said_step w (Derivation-F.Many r os) = said_row w r os

unfoldable pub said_of : Shown → Derivation → Option Said
said_of w = fold-Derivation (Option Said) (said_step w)
