-- What the derivation gives of each row that answers a reduction.
use Rattle.std.proofs.Common.{◌≡◌, ℕ, Bool, true, false, cond, not, nat_lt, ◌<◌, ◌&&◌, List, [], ◌∷◌, ◌++◌, map, length, Option, Some, None, slice_get, refl, ap, sym, ◌∙◌, subst, append-nil, arith}
use Rattle.std.specs.Option.{option_map}
use Rattle.std.proofs.lemmas.Bool.Decides.{nat_tests}
use Rattle.ap_list.specs.Lists.{Each, all_true}
use Rattle.ap_value.specs.declared.symbol.Symbol.{Symbol}
use Rattle.ap_value.specs.Values.{symbol_eq}
use Rattle.ap_value.proofs.Equals.{and_true}
use Rattle.ap_term.specs.declared.term.Term.{Term, Call}
use Rattle.ap_term.specs.declared.term.Clause.{Clause}
use Rattle.ap_term.specs.declared.term.Subst.{Subst}
use Rattle.ap_term.proofs.Equals.{term_eq-same}
use Rattle.ap_world.specs.declared.entry.Mask.{Mask}
use Rattle.ap_world.specs.declared.entry.Theorem.{Theorem}
use Rattle.ap_world.specs.Holding.{KnownPairs}
use Rattle.ap_world.specs.Sound.{known}
use Rattle.ap_world.specs.Typing.{types}
use Rattle.ap_world.specs.World.{Shown, function_of, theorem_of}
use Rattle.ap_world.proofs.Knowing.{true_each}
use Rattle.ap_kernel.specs.declared.derivations.Row.{Row}
use Rattle.ap_kernel.specs.declared.derivations.Row.TheVariants as row
use Rattle.ap_kernel.specs.declared.objects.Equiv.{Equiv}
use Rattle.ap_kernel.specs.declared.reductions.Inference.{Inference}
use Rattle.ap_kernel.specs.declared.reductions.Reduction.{Reduction}
use Rattle.ap_kernel.specs.Deriving.{equiv, reduction, node, listed, why_of, said_of, row_says, row_known}
use Rattle.ap_kernel.specs.Eliminating.{eliminated}
use Rattle.ap_kernel.specs.Fertilising.{fertilise_made}
use Rattle.ap_kernel.specs.Generalising.{generalised}
use Rattle.ap_kernel.specs.Hinting.{cased, used}
use Rattle.ap_kernel.specs.Induction.{leads_induction, induct_made}
use Rattle.ap_kernel.specs.Reductions.{KnownClause, Reduces, others, all_false, to_one, dropped, rewritten, claims, all_from, chained}
use Rattle.ap_kernel.specs.Rows
use Rattle.ap_kernel.specs.Rows.{rewrites}
use Rattle.ap_kernel.specs.Sameness.{clauses_eq, where_so}
use Rattle.ap_kernel.specs.Solving.{occurs_in, solved_made}
use Rattle.ap_kernel.specs.Splits.{and_then, split_made}
use Rattle.ap_kernel.specs.Tidying.{tidy_made}
use Rattle.ap_kernel.proofs.Derived.{derived_by, listed_by, one_said, Gives, whys, all_reduced, reductions_all, facts_eq-is, clauses_eq-same, is_mask-is, is_so, pairs_known, both_known, clause_known}

-- a row that is handed nothing
alone_gives : (w : Shown) (r : Row) (i : Inference) → row_known w r ≡ true → row_says w r [] ≡ Some (reduction i) → said_of w (node r []) ≡ Some (reduction i)
alone_gives w r i k e = derived_by w r [] [] (reduction i) k refl e

-- a test that is false, denied
denied : (b : Bool) → b ≡ false → not b ≡ true
denied b h = ap not h

-- rewrite_literal
pub rewrite_derived : (w : Shown) (c : Clause) (i : ℕ) (q : Equiv) → KnownClause (function_of w.entries) c → Gives w q → slice_get c.0 i ≡ Some q.says.lhs → q.says.ctx.0 ≡ all_false (others i c.0)
    → said_of w (node (row.RewriteLiteral c i) (why_of q ∷ [])) ≡ Some (reduction (rewritten c i q.says.rhs))
rewrite_derived w c i q k h at facts =
    derived_by w (row.RewriteLiteral c i) (why_of q ∷ []) (equiv q.says ∷ []) (reduction (rewritten c i q.says.rhs)) (clause_known (function_of w.entries) c k) (one_said w (why_of q) (equiv q.says) h)
    (ap (λ o. option_map reduction (and_then o (λ u. where_so (rewrites c i q.says u) (rewritten c i q.says.rhs)))) at
    ∙ ap (option_map reduction) (is_so (rewrites c i q.says q.says.lhs) (rewritten c i q.says.rhs) (and_true _ _ (term_eq-same q.says.lhs) (facts_eq-is q.says.ctx.0 (all_false (others i c.0)) facts))))

-- drop_literal
within : (i n : ℕ) → i < n → nat_lt i n ≡ true
within i n h = grind (arith, nat_tests)

pub drop_derived : (w : Shown) (c : Clause) (i : ℕ) → KnownClause (function_of w.entries) c → i < length c.0 → said_of w (node (row.DropLiteral c i) []) ≡ Some (reduction (dropped c i))
drop_derived w c i k h =
    alone_gives w (row.DropLiteral c i) (dropped c i) (clause_known (function_of w.entries) c k) (ap (option_map reduction) (is_so _ (dropped c i) (within i (length c.0) h)))

-- split_if
pub split_derived : (w : Shown) (c : Clause) (i : ℕ) (is : List ℕ) (s : Inference) → KnownClause (function_of w.entries) c → split_made c i is ≡ Some s
    → said_of w (node (row.SplitIf c i is) []) ≡ Some (reduction s)
split_derived w c i is s k e = alone_gives w (row.SplitIf c i is) s (clause_known (function_of w.entries) c k) (ap (option_map reduction) e)

-- tidy
pub tidy_derived : (w : Shown) (c : Clause) → KnownClause (function_of w.entries) c → said_of w (node (row.Tidy c) []) ≡ Some (reduction (tidy_made c))
tidy_derived w c k = alone_gives w (row.Tidy c) (tidy_made c) (clause_known (function_of w.entries) c k) refl

-- use_equality
pub solve_derived : (w : Shown) (c : Clause) (i : ℕ) (s : Inference) → KnownClause (function_of w.entries) c → solved_made c i ≡ Some s → said_of w (node (row.UseEquality c i) []) ≡ Some (reduction s)
solve_derived w c i s k e = alone_gives w (row.UseEquality c i) s (clause_known (function_of w.entries) c k) (ap (option_map reduction) e)

-- fertilise
pub fertilise_derived : (w : Shown) (c : Clause) (i j : ℕ) (s : Inference) → KnownClause (function_of w.entries) c → fertilise_made c i j ≡ Some s
    → said_of w (node (row.Fertilise c i j) []) ≡ Some (reduction s)
fertilise_derived w c i j s k e = alone_gives w (row.Fertilise c i j) s (clause_known (function_of w.entries) c k) (ap (option_map reduction) e)

-- generalise
pub generalise_derived : (w : Shown) (c : Clause) (t : Term) (v : Symbol) (m : Mask) → KnownClause (function_of w.entries) c → known (function_of w.entries) t ≡ true → m.0 ≡ types w [] t
    → occurs_in v c.0 ≡ false → said_of w (node (row.Generalise c t v m) []) ≡ Some (reduction (generalised c t v m))
generalise_derived w c t v m k kt exact new =
    alone_gives w (row.Generalise c t v m) (generalised c t v m) (and_true _ _ kt (clause_known (function_of w.entries) c k))
    (ap (option_map reduction) (is_so _ (generalised c t v m) (and_true _ _ (is_mask-is w [] t m exact) (denied (occurs_in v c.0) new))))

-- eliminate
pub eliminate_derived : (w : Shown) (c : Clause) (v a b : Symbol) → KnownClause (function_of w.entries) c → occurs_in a c.0 ≡ false → occurs_in b c.0 ≡ false → symbol_eq b a ≡ false
    → said_of w (node (row.Eliminate c v a b) []) ≡ Some (reduction (eliminated c v a b))
eliminate_derived w c v a b k first second apart =
    alone_gives w (row.Eliminate c v a b) (eliminated c v a b) (clause_known (function_of w.entries) c k)
    (ap (option_map reduction) (is_so _ (eliminated c v a b) (and_true _ _ (denied (occurs_in a c.0) first) (and_true _ _ (denied (occurs_in b c.0) second) (denied (symbol_eq b a) apart)))))

-- use_fact
pub use_derived : (w : Shown) (c : Clause) (f : Symbol) (z : Subst) (u : Theorem) → KnownClause (function_of w.entries) c → KnownPairs (function_of w.entries) z.0 → theorem_of w.entries f ≡ Some u
    → said_of w (node (row.UseFact c f z) []) ≡ Some (reduction (used c u.term z.0))
use_derived w c f z u k pairs e =
    alone_gives w (row.UseFact c f z) (used c u.term z.0) (both_known _ _ _ (pairs_known (function_of w.entries) z.0 pairs) (clause_known (function_of w.entries) c k))
    (ap (λ o. option_map reduction (option_map (λ (u : Theorem). used c u.term z.0) o)) e)

-- cases, and keep
pub cases_derived : (w : Shown) (c : Clause) (on : List Term) → KnownClause (function_of w.entries) c → Each (λ u. known (function_of w.entries) u ≡ true) on
    → said_of w (node (row.Cases c on) []) ≡ Some (reduction (cased c on))
cases_derived w c on k ks =
    alone_gives w (row.Cases c on) (cased c on) (both_known _ _ _ (true_each (known (function_of w.entries)) on ks) (clause_known (function_of w.entries) c k)) refl

-- induct
pub induct_derived : (w : Shown) (c : Clause) (f : Symbol) (actuals : List Term) (s : Inference) → KnownClause (function_of w.entries) c → known (function_of w.entries) (Call f actuals) ≡ true
    → leads_induction (function_of w.entries f) actuals ≡ true → induct_made (function_of w.entries f) c actuals ≡ Some s
    → said_of w (node (row.Induct c f actuals) []) ≡ Some (reduction s)
induct_derived w c f actuals s k call leads e =
    alone_gives w (row.Induct c f actuals) s (and_true _ _ call (clause_known (function_of w.entries) c k))
    (ap (λ b. option_map reduction (cond b (induct_made (function_of w.entries f) c actuals) None)) leads ∙ ap (option_map reduction) e)

-- chain, and of one
pub chain_derived : (w : Shown) (a : Reduction) (rs : List Reduction) → Reduces w a → Each (Reduces w) rs → all_from (claims rs) ≡ a.says.to
    → said_of w (listed row.Chain (a.why ∷ map (λ (r : Reduction). r.why) rs)) ≡ Some (reduction (chained a.says (claims rs)))
chain_derived w a rs h hs e =
    let same : clauses_eq (all_from (claims rs)) a.says.to ≡ true = subst (λ cs. clauses_eq (all_from (claims rs)) cs ≡ true) e (clauses_eq-same (all_from (claims rs))) in
    listed_by w row.Chain (a.why ∷ whys rs) (reduction a.says ∷ map reduction (claims rs)) (reduction (chained a.says (claims rs))) refl (all_reduced w (a ∷ rs) (h, hs))
    (ap (λ o. and_then o (λ is. option_map reduction (Rows.chain_says is))) (reductions_all (a.says ∷ claims rs)) ∙ ap (option_map reduction) (is_so _ (chained a.says (claims rs)) same))

pub then_derived : (w : Shown) (a b : Reduction) → Reduces w a → Reduces w b → a.says.to ≡ b.says.from ∷ []
    → said_of w (node row.Chain (a.why ∷ b.why ∷ [])) ≡ Some (reduction (record { from = a.says.from; to = b.says.to }))
then_derived w a b h k e = chain_derived w a (b ∷ []) h (k, tt) (sym e) ∙ ap (λ cs. Some (reduction (record { from = a.says.from; to = cs }))) (append-nil b.says.to)
