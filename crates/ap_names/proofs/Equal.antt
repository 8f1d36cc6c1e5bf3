-- The test by which definitions tell names apart.
use Rattle.std.proofs.Common.{◌≡◌, ◌&&◌, ◌↔◌, IsTrue, Bool, true, false, true≢false, nat_eq, ℕ, Option, Some, None, List, refl, sym, ap, ◌∙◌, arith}
use Rattle.std.proofs.lemmas.Bool.{eqb-true}
use Rattle.std.specs.Cmp.Lexicographic.{pointwise, same_text, other_text}
use Rattle.ap_names.specs.Names.{Name, case_eq, name_eq}

both : (a b : Bool) → (a && b) ≡ true → (a ≡ true) × (b ≡ true)
both true true h = (refl, refl)
both true false h = absurd (cc)
both false b h = absurd (cc)

text_same : (xs : List ℕ) → pointwise nat_eq xs xs ≡ true
text_same xs = go (pointwise nat_eq xs xs) refl
  where
    go : (b : Bool) → pointwise nat_eq xs xs ≡ b → b ≡ true
    go true q = refl
    go false q = absurd (other_text xs xs (sym q) refl)

number_same : (n : ℕ) → nat_eq n n ≡ true
number_same n = grind arith

case_true : (a b : Option ℕ) → case_eq a b ≡ true → a ≡ b
case_true None None h = refl
case_true (Some a) (Some b) h = ap Some (eqb-true a b h)
case_true None (Some b) h = absurd (cc)
case_true (Some a) None h = absurd (cc)

case_same : (a : Option ℕ) → case_eq a a ≡ true
case_same None = refl
case_same (Some a) = number_same a

abbrev made : List ℕ → Option ℕ → List ℕ → ℕ → Name
made i c s n = record { induction = i; case = c; path = s; primes = n }

same_made : (i j : List ℕ) (c d : Option ℕ) (s t : List ℕ) (n m : ℕ) → i ≡ j → c ≡ d → s ≡ t → n ≡ m → made i c s n ≡ made j d t m
same_made i j c d s t n m p q r e = cc

pub name_eq-true : (a b : Name) → name_eq a b ≡ true → a ≡ b
name_eq-true a b h =
    let p = both (pointwise nat_eq a.induction b.induction) _ h in
    let q = both (case_eq a.case b.case) _ p.1 in
    let r = both (pointwise nat_eq a.path b.path) _ q.1 in
    same_made a.induction b.induction a.case b.case a.path b.path a.primes b.primes (same_text a.induction b.induction (sym p.0)) (case_true a.case b.case q.0)
    (same_text a.path b.path (sym r.0)) (eqb-true a.primes b.primes r.1)

pub name_eq-same : (a : Name) → name_eq a a ≡ true
name_eq-same a = rw (text_same a.induction, case_same a.case, text_same a.path, number_same a.primes) refl

-- a test that tells whether two names are one
pub name_decided : (r : Bool) (a b : Name) → (IsTrue r ↔ (a ≡ b)) → r ≡ name_eq a b
name_decided r a b h = go r (name_eq a b) refl h.0 h.1
  where
    go : (r e : Bool) → name_eq a b ≡ e → (IsTrue r → a ≡ b) → (a ≡ b → IsTrue r) → r ≡ e
    go true true q f g = refl
    go false false q f g = refl
    go true false q f g = absurd (true≢false (sym (ap (name_eq a) (sym (f refl)) ∙ name_eq-same a) ∙ q))
    go false true q f g = absurd (true≢false (sym (g (name_eq-true a b q))))
