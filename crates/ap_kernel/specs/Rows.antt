-- What each row answers from what the objects say that it is handed: where its condition isn't met, nothing.
use Rattle.std.specs.Prelude.{ℕ, Bool, true, false, cond, not, nat_lt, nat_eq, ◌&&◌, ◌||◌, List, [], ◌∷◌, map, length, Option, Some, None, slice_get}
use Rattle.std.specs.Option.{option_map}
use Rattle.ap_list.specs.Lists.{all_true}
use Rattle.ap_value.specs.declared.symbol.Symbol.{Symbol}
use Rattle.ap_value.specs.declared.value.Value.{Value}
use Rattle.ap_value.specs.Equal.{constant_eq}
use Rattle.ap_value.specs.Values.{symbol_eq, val_of}
use Rattle.ap_term.specs.declared.term.Term.{Term, Quote, out-Term}
use Rattle.ap_term.specs.declared.term.Term.TheOpen.{Term-F}
use Rattle.ap_term.specs.declared.term.Clause.{Clause}
use Rattle.ap_term.specs.Equal.{term_eq}
use Rattle.ap_term.specs.Terms.{subst_of}
use Rattle.ap_term.specs.Matching.{Pairs}
use Rattle.ap_world.specs.declared.entry.Mask.{Mask}
use Rattle.ap_world.specs.declared.entry.Theorem.{Theorem}
use Rattle.ap_world.specs.Assume.{assume}
use Rattle.ap_world.specs.Facts.{Facts}
use Rattle.ap_world.specs.Holding.{part_of}
use Rattle.ap_world.specs.Meaning.{Defs}
use Rattle.ap_world.specs.Names.{not_name, less_name}
use Rattle.ap_world.specs.Primitives.{prim_of}
use Rattle.ap_world.specs.Recursion.{t_constant}
use Rattle.ap_world.specs.Rules.{Rule}
use Rattle.ap_world.specs.Shapes.{is_constant, shape_of}
use Rattle.ap_world.specs.Sound.{is_head}
use Rattle.ap_world.specs.Typing.{types}
use Rattle.ap_world.specs.Units.{Outcome, gives, metered}
use Rattle.ap_world.specs.World.{Shown, function_of, theorem_of}
use Rattle.ap_kernel.specs.declared.objects.Ctx.{Ctx}
use Rattle.ap_kernel.specs.declared.objects.Mode.{Mode}
use Rattle.ap_kernel.specs.declared.objects.Mode.TheVariants.{Equal}
use Rattle.ap_kernel.specs.declared.objects.Sequent.{Sequent}
use Rattle.ap_kernel.specs.declared.reductions.Inference.{Inference}
use Rattle.ap_kernel.specs.Applying.{applied_made}
use Rattle.ap_kernel.specs.Choices.{bare_test, is_truth, is_choice, choice_made, double_not_made}
use Rattle.ap_kernel.specs.Eliminating.{eliminated}
use Rattle.ap_kernel.specs.Equations.{equation_leads, equation_made}
use Rattle.ap_kernel.specs.Fertilising.{fertilise_made}
use Rattle.ap_kernel.specs.Generalising.{generalised}
use Rattle.ap_kernel.specs.Hinting.{cased, used}
use Rattle.ap_kernel.specs.Induction.{leads_induction, induct_made}
use Rattle.ap_kernel.specs.Inferences.{others, all_false, dropped, rewritten, all_from, chained}
use Rattle.ap_kernel.specs.Linear.{is_within_integers, not_less_made, equal_made}
use Rattle.ap_kernel.specs.Masks.{leads_to, typed_made}
use Rattle.ap_kernel.specs.Opening.{opened, is_constant_call}
use Rattle.ap_kernel.specs.Sameness.{mode_eq, facts_eq, clauses_eq, sequent_eq, where_so}
use Rattle.ap_kernel.specs.Saying.{refl_made, trans_made, weakened, branch_made, chosen_made, cong_made, fact_made}
use Rattle.ap_kernel.specs.Solving.{occurs_in, solved_made}
use Rattle.ap_kernel.specs.Splits.{and_then, split_made}
use Rattle.ap_kernel.specs.Tidying.{tidy_made}

-- refl
abbrev pub refl_says : Ctx → Mode → Term → List Sequent → Option Sequent
refl_says c m t [] = Some (refl_made c m t)
refl_says c m t ss = None

-- trans
abbrev pub goes_on : Sequent → Sequent → Bool
goes_on a b = facts_eq a.ctx.0 b.ctx.0 && (mode_eq a.mode b.mode && term_eq a.rhs b.lhs)

abbrev pub trans_says : List Sequent → Option Sequent
trans_says (a ∷ b ∷ []) = where_so (goes_on a b) (trans_made a b)
trans_says ss = None

-- weaken_mode
abbrev pub weaken_says : List Sequent → Option Sequent
weaken_says (a ∷ []) = where_so (mode_eq a.mode Equal) (weakened a)
weaken_says ss = None

-- cong
abbrev pub fits_call : Ctx → Symbol → Sequent → Bool
fits_call c f s = facts_eq s.ctx.0 c.0 && (symbol_eq f not_name || mode_eq s.mode Equal)

abbrev pub cong_says : Defs → Ctx → Symbol → List Sequent → Option Sequent
cong_says D c f ss = where_so (is_head D f (prim_of f) (length ss) && all_true (map (fits_call c f) ss)) (cong_made c f ss)

-- branch: the branches lead under the test's facts and the new test's truth, or its falsehood
abbrev pub is_branch : Mode → Sequent → Bool → Sequent → Bool
is_branch m test s q = mode_eq q.mode m && facts_eq q.ctx.0 (assume test.ctx.0 test.rhs s)

abbrev pub branch_says : Mode → List Sequent → Option Sequent
branch_says m (test ∷ on ∷ off ∷ []) = where_so (is_branch m test true on && is_branch m test false off) (branch_made m test on off)
branch_says m ss = None

-- choose_branch
abbrev pub choose_says : Mode → Bool → Term → Term → List Sequent → Option Sequent
choose_says m s b c (test ∷ []) = where_so (is_constant s test.rhs) (chosen_made m test s b c)
choose_says m s b c ss = None

-- open_def
abbrev pub open_says : Defs → Ctx → Term → List Sequent → Option Sequent
open_says D c u [] = option_map (equation_made c u) (opened D u)
open_says D c u ss = None

-- apply_theorem: one equivalence for each hypothesis, in order, from its instance to 'T
abbrev pub leads_to_true : Ctx → Pairs → Term → Sequent → Bool
leads_to_true c s h q = facts_eq q.ctx.0 c.0 && (term_eq q.lhs (subst_of s h) && term_eq q.rhs t_constant)

abbrev pub all_lead : Ctx → Pairs → List Term → List Sequent → Bool
all_lead c s [] [] = true
all_lead c s (h ∷ hs) (q ∷ qs) = leads_to_true c s h q && all_lead c s hs qs
all_lead c s hs qs = false

abbrev pub apply_says : Shown → Ctx → Symbol → ℕ → Pairs → List Sequent → Option Sequent
apply_says w c f i s qs = and_then (part_of w.entries f i) (λ (g : Rule). where_so (all_lead c s g.hyps qs) (applied_made c s g))

-- fold: it is run with 2,000 units
abbrev pub gives_value : Value → Outcome Value → Bool
gives_value v (gives u n) = constant_eq u v
gives_value v o = false

abbrev pub fold_says : Defs → Ctx → Term → Value → List Sequent → Option Sequent
fold_says D c t v [] = where_so (is_constant_call t && gives_value v (metered D t [] 2000)) (equation_made c t (Quote v))
fold_says D c t v ss = None

-- a mask is what the types of a term are
abbrev pub is_mask : Shown → Facts → Term → Mask → Bool
is_mask w fs u m = nat_eq m.0 (types w fs u)

-- by_type
abbrev pub type_says : Shown → Ctx → Term → Mask → Value → List Sequent → Option Sequent
type_says w c u m v [] = where_so (is_mask w c.0 u m && leads_to m (val_of v)) (typed_made c u m v)
type_says w c u m v ss = None

-- by_fact
abbrev pub fact_says : Ctx → ℕ → List Sequent → Option Sequent
fact_says c i [] = option_map (λ f. fact_made c f.0 f.1) (slice_get c.0 i)
fact_says c i ss = None

-- cons_equal
abbrev pub equal_says : Ctx → Term → List Sequent → Option Sequent
equal_says c u [] = option_map (equation_made c u) (equation_leads c.0 u)
equal_says c u ss = None

-- if_shape: the mask is that of the test without the calls of `not` around it
abbrev pub shape_says : Shown → Ctx → Mode → Term → Mask → List Sequent → Option Sequent
shape_says w c o u m [] = where_so (is_choice (shape_of u) && is_mask w c.0 (bare_test u) m) (choice_made c o u m)
shape_says w c o u m ss = None

-- double_not
abbrev pub double_says : Shown → Ctx → Mode → Term → Mask → List Sequent → Option Sequent
double_says w c o u m [] = where_so (is_mask w c.0 u m && is_truth o m) (double_not_made c o u)
double_says w c o u m ss = None

-- both_not_less: the sides of a call of `<`
abbrev pub less_sides : Term-F Term → Option (Term × Term)
less_sides (Term-F.Call f (a ∷ b ∷ [])) = where_so (symbol_eq f less_name) (a, b)
less_sides y = None

abbrev pub neither_less : Shown → Ctx → Mask → Mask → Sequent → Sequent → Term × Term → Bool
neither_less w c m n p q s =
    (sequent_eq p (not_less_made c s.0 s.1) && sequent_eq q (not_less_made c s.1 s.0))
    && ((is_mask w c.0 s.0 m && is_mask w c.0 s.1 n) && (is_within_integers m && is_within_integers n))

abbrev pub not_less_says : Shown → Ctx → Mask → Mask → List Sequent → Option Sequent
not_less_says w c m n (p ∷ q ∷ []) = and_then (less_sides (out-Term p.lhs)) (λ s. where_so (neither_less w c m n p q s) (equal_made c s.0 s.1))
not_less_says w c m n ss = None

-- rewrite_literal
abbrev pub rewrites : Clause → ℕ → Sequent → Term → Bool
rewrites c i s u = term_eq u s.lhs && facts_eq s.ctx.0 (all_false (others i c.0))

abbrev pub rewrite_says : Clause → ℕ → List Sequent → Option Inference
rewrite_says c i (s ∷ []) = and_then (slice_get c.0 i) (λ u. where_so (rewrites c i s u) (rewritten c i s.rhs))
rewrite_says c i ss = None

-- a row on a clause that is handed no object
abbrev pub alone : Option Inference → List Sequent → Option Inference
alone o [] = o
alone o ss = None

-- drop_literal
abbrev pub drop_says : Clause → ℕ → Option Inference
drop_says c i = where_so (nat_lt i (length c.0)) (dropped c i)

-- generalise: a new variable, and the mask is that of the term without facts
abbrev pub generalise_says : Shown → Clause → Term → Symbol → Mask → Option Inference
generalise_says w c t v m = where_so (is_mask w [] t m && not (occurs_in v c.0)) (generalised c t v m)

-- eliminate: two new variables
abbrev pub eliminate_says : Clause → Symbol → Symbol → Symbol → Option Inference
eliminate_says c v a b = where_so (not (occurs_in a c.0) && (not (occurs_in b c.0) && not (symbol_eq b a))) (eliminated c v a b)

-- use_fact
abbrev pub use_says : Shown → Clause → Symbol → Pairs → Option Inference
use_says w c f s = option_map (λ (u : Theorem). used c u.term s) (theorem_of w.entries f)

-- induct
abbrev pub induct_says : Defs → Clause → Symbol → List Term → Option Inference
induct_says D c f actuals = cond (leads_induction (D f) actuals) (induct_made (D f) c actuals) None

-- chain
abbrev pub chain_says : List Inference → Option Inference
chain_says [] = None
chain_says (a ∷ is) = where_so (clauses_eq (all_from is) a.to) (chained a is)
