-- Where each polynomial of a certificate comes from, and when multipliers are a certificate.
use Rattle.std.specs.Prelude.{ℕ, Bool, true, false, cond, ◌&&◌, ℤ, pos, ◌+ℤ◌, ◌*ℤ◌, int_lt, List, [], ◌∷◌, ◌++◌, map, Option, Some, None, slice_get}
use Rattle.ap_list.specs.Lists.{all_true, is_among, joined}
use Rattle.ap_value.specs.Values.{symbol_eq, int_eq}
use Rattle.ap_term.specs.declared.term.Term.{Term, out-Term}
use Rattle.ap_term.specs.declared.term.Term.TheOpen.{Term-F}
use Rattle.ap_term.specs.Equal.{term_eq}
use Rattle.ap_term.specs.Terms.{subst_of}
use Rattle.ap_term.specs.Matching.{Pairs}
use Rattle.ap_world.specs.declared.entry.RuleClass.{RuleClass}
use Rattle.ap_world.specs.declared.entry.RuleClass.TheVariants as class
use Rattle.ap_world.specs.declared.entry.Theorem.{Theorem}
use Rattle.ap_world.specs.Clauses.{conjuncts}
use Rattle.ap_world.specs.Names.{not_name}
use Rattle.ap_world.specs.Recursion.{t_constant}
use Rattle.ap_world.specs.Rules.{stated}
use Rattle.ap_world.specs.Typing.{types}
use Rattle.ap_world.specs.World.{Shown, theorem_of}
use Rattle.ap_poly.specs.Bounds.{bound, first_atoms}
use Rattle.ap_poly.specs.Literals.{of_literal}
use Rattle.ap_poly.specs.Polynomials.{Parts, Polynomial}
use Rattle.ap_kernel.specs.declared.derivations.Source.{Source}
use Rattle.ap_kernel.specs.declared.derivations.Source.TheVariants as source
use Rattle.ap_kernel.specs.declared.objects.Ctx.{Ctx}
use Rattle.ap_kernel.specs.declared.linear.Why.{Why}
use Rattle.ap_kernel.specs.declared.linear.Why.TheVariants as why
use Rattle.ap_kernel.specs.declared.objects.Equiv.{Equiv}
use Rattle.ap_kernel.specs.declared.objects.Sequent.{Sequent}
use Rattle.ap_kernel.specs.Linear.{is_comparison, refuted_made}
use Rattle.ap_kernel.specs.Sameness.{facts_eq, poly_eq, where_so}

-- a conjunct as a literal: of (not a) that a is nil
abbrev pub signed_by : Bool → List Term → Term → Term × Bool
signed_by true (a ∷ []) u = (a, false)
signed_by b ts u = (u, true)

abbrev pub signed_in : Term-F Term → Term → Term × Bool
signed_in (Term-F.Call f ts) u = signed_by (symbol_eq f not_name) ts u
signed_in y u = (u, true)

abbrev pub signed : Term → Term × Bool
signed u = signed_in (out-Term u) u

-- the classes have that of linear rules
abbrev pub is_linear : List RuleClass → Bool
is_linear [] = false
is_linear (class.Linear ∷ cs) = true
is_linear (c ∷ cs) = is_linear cs

-- what the instance of a conjunct says of integers, and that of a linear theorem
abbrev pub conjunct_polys : Pairs → Term → List Polynomial
conjunct_polys z u = of_literal (subst_of z (signed u).0) (signed u).1

abbrev pub theorem_polys : Pairs → Option Theorem → List Polynomial
theorem_polys z None = []
theorem_polys z (Some u) = cond (is_linear u.classes) (joined (map (conjunct_polys z) (conjuncts (stated u.term).1))) []

abbrev pub fact_polys : Option (Term × Bool) → List Polynomial
fact_polys None = []
fact_polys (Some f) = of_literal f.0 f.1

-- the polynomials that a source gives
abbrev pub polys_of : Shown → Ctx → Term → Bool → Source → List Polynomial
polys_of w c u s source.Literal = of_literal u s
polys_of w c u s (source.Fact k) = fact_polys (slice_get c.0 k)
polys_of w c u s (source.Bound x) = bound x (types w c.0 x)
polys_of w c u s (source.Theorem f z) = theorem_polys z.0 (theorem_of w.entries f)

-- the terms that are to be shown for it: the instances of a theorem's hypotheses
abbrev pub theorem_asks : Pairs → Option Theorem → List Term
theorem_asks z None = []
theorem_asks z (Some u) = map (subst_of z) (stated u.term).0

abbrev pub asks_of : Shown → Source → List Term
asks_of w (source.Theorem f z) = theorem_asks z.0 (theorem_of w.entries f)
asks_of w y = []

abbrev pub all_asked : Shown → List Source → List Term
all_asked w fs = joined (map (asks_of w) fs)

-- each polynomial is one that its source gives
abbrev pub each_comes : Shown → Ctx → Term → Bool → List Polynomial → List Source → Bool
each_comes w c u s [] [] = true
each_comes w c u s (p ∷ ps) (f ∷ fs) = is_among poly_eq p (polys_of w c u s f) && each_comes w c u s ps fs
each_comes w c u s ps fs = false

-- one equivalence for each term that is to be shown, in order, from it to 'T
abbrev pub all_shown : Ctx → List Term → List Sequent → Bool
all_shown c [] [] = true
all_shown c (h ∷ hs) (q ∷ qs) = (facts_eq q.ctx.0 c.0 && (term_eq q.lhs h && term_eq q.rhs t_constant)) && all_shown c hs qs
all_shown c hs qs = false

-- how often an atom stands in a polynomial, and in a weighted sum
abbrev pub share : Term → Parts → ℤ
share x [] = pos 0
share x (p ∷ ps) = cond (term_eq p.0 x) p.1 (pos 0) +ℤ share x ps

abbrev pub sum_by : (Polynomial → ℤ) → List ℕ → List Polynomial → ℤ
sum_by k (n ∷ ns) (p ∷ ps) = pos n *ℤ k p +ℤ sum_by k ns ps
sum_by k ns ps = pos 0

-- a multiplier for each polynomial
abbrev pub one_each : List ℕ → List Polynomial → Bool
one_each [] [] = true
one_each (n ∷ ns) (p ∷ ps) = one_each ns ps
one_each ns ps = false

-- no atom is left in the sum, and its constant is negative
abbrev pub is_left_out : List ℕ → List Polynomial → Term → Bool
is_left_out ns ps x = int_eq (sum_by (λ (p : Polynomial). share x p.parts) ns ps) (pos 0)

abbrev pub is_certificate : List Polynomial → List ℕ → Bool
is_certificate ps ns =
    one_each ns ps && (all_true (map (is_left_out ns ps) (first_atoms ps)) && int_lt (sum_by (λ (p : Polynomial). p.constant) ns ps) (pos 0))

-- the terms among sources
abbrev pub source_terms : Source → List Term
source_terms source.Literal = []
source_terms (source.Fact k) = []
source_terms (source.Bound x) = x ∷ []
source_terms (source.Theorem f z) = map (λ p. p.1) z.0

abbrev pub sources_terms : List Source → List Term
sources_terms fs = joined (map source_terms fs)

-- where a polynomial comes from, without what shows a theorem's hypotheses, and that
abbrev pub source_of : Why → Source
source_of why.Literal = source.Literal
source_of (why.Fact k) = source.Fact k
source_of (why.Bound x) = source.Bound x
source_of (why.Theorem f z qs) = source.Theorem f z

abbrev pub shown_of : Why → List Equiv
shown_of (why.Theorem f z qs) = qs
shown_of y = []

-- by_certificate
abbrev pub is_refuted : Shown → Ctx → Term → Bool → List Polynomial → List Source → List ℕ → List Sequent → Bool
is_refuted w c u s ps fs ns qs =
    is_comparison u && (each_comes w c u s ps fs && (all_shown c (all_asked w fs) qs && is_certificate ps ns))

abbrev pub certificate_says : Shown → Ctx → Term → Bool → List Polynomial → List Source → List ℕ → List Sequent → Option Sequent
certificate_says w c u s ps fs ns qs = where_so (is_refuted w c u s ps fs ns qs) (refuted_made c u s)
