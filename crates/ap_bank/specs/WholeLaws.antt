-- The test of equality on terms that are looked up says what it says.
use Rattle.std.proofs.Common.{◌≡◌, IsTrue, true, ap, subst}
use Rattle.std.specs.Cmp.{IsPartialEquivalence, IsEquivalence, partial_equiv_from_equiv}
use Rattle.std.specs.Hash as fed
use Rattle.ap_term.specs.Equal.{term_eq}
use Rattle.ap_term.specs.Hashes.{term_hash}
use Rattle.ap_term.proofs.Equals.{term_eq-true, term_eq-same, tests_same}
use Rattle.ap_bank.specs.declared.whole.Whole.{Whole}
use Rattle.ap_bank.specs.Whole.{whole_eq, whole_writes}

pub whole_equiv : IsEquivalence whole_eq
whole_equiv = record {
  refl = λ x. term_eq-same x.term;
  symm = λ x y. tests_same (whole_eq x y) (whole_eq y x) (turned x y) (turned y x);
  congr = λ x y z h. ap (λ w. term_eq w z.term) (term_eq-true x.term y.term h);
}
  where
    turned : (x y : Whole) → whole_eq x y ≡ true → whole_eq y x ≡ true
    turned x y h = subst (λ c. term_eq c x.term ≡ true) (term_eq-true x.term y.term h) (term_eq-same x.term)

pub whole_per : IsPartialEquivalence whole_eq
whole_per = partial_equiv_from_equiv whole_equiv

-- what the test takes for one is hashed alike
pub whole_alike : (x y : Whole) → IsTrue (whole_eq x y) → whole_writes x ≡ whole_writes y
whole_alike x y h = ap (λ z. fed.u64 (term_hash z)) (term_eq-true x.term y.term h)
