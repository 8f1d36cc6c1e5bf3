-- That `less` holds of terms with natural values gives the order of their numbers.
use Rattle.std.proofs.Common.{◌≡◌, ◌≢◌, ℕ, ◌<◌, Bool, true, false, cond, List, [], ◌∷◌, map, inl, inr, refl, ap, ◌∙◌, arith, pos, int_lt}
use Rattle.std.proofs.lemmas.Int.{ints}
use Rattle.ap_list.specs.Lists.{Each}
use Rattle.ap_value.specs.Values.{V, int, value_eq}
use Rattle.ap_value.proofs.Equals.{value_eq-true}
use Rattle.ap_value.specs.declared.value.Value.TheVariants.{Sym}
use Rattle.ap_term.specs.declared.term.Term.{Term, Call}
use Rattle.ap_world.specs.Names.{nil_name, if_name, equal_name, less_name}
use Rattle.ap_world.specs.Primitives.{nil, truth, int_of}
use Rattle.ap_world.specs.Meaning.{Env}
use Rattle.ap_world.specs.Recursion.{less, t_constant, nil_constant}
use Rattle.ap_world.proofs.TotalMeaning.{Apply, val, val_quote}
use Rattle.ap_world.proofs.Equations.{val_if, val_less, val_equal, val_of_nil, eq-not_nil}
use Rattle.ap_world.proofs.Lex.{LexLess}

-- the number that a value is
abbrev pub nat_of : V → ℕ
nat_of (int (pos n)) = n
nat_of v = 0

truth_is : (b : Bool) → truth b ≢ nil → b ≡ true
truth_is true h = refl
truth_is false h = absurd (h refl)

below : (m n : ℕ) → int_lt (pos m) (pos n) ≡ true → m < n
below m n h = omega (arith, ints)

module _ (A : Apply) (e : Env) where
  -- the term has a natural number
  abbrev pub IsNat : Term → Type 0
  IsNat u = val A u e ≡ int (pos (nat_of (val A u e)))

  abbrev nat : Term → ℕ
  nat u = nat_of (val A u e)

  lt_is : (a b : Term) → IsNat a → IsNat b → val A (Call less_name (a ∷ b ∷ [])) e ≢ nil → nat a < nat b
  lt_is a b h k l =
      let v : val A (Call less_name (a ∷ b ∷ [])) e ≡ truth (int_lt (pos (nat a)) (pos (nat b))) = val_less A a b e ∙ (λ i. truth (int_lt (int_of (h i)) (int_of (k i)))) in
      below (nat a) (nat b) (truth_is _ (λ same. l (v ∙ same)))

  eq_is : (a b : Term) → IsNat a → IsNat b → val A (Call equal_name (a ∷ b ∷ [])) e ≢ nil → nat a ≡ nat b
  eq_is a b h k l = ap nat_of (value_eq-true (val A a e) (val A b e) (truth_is _ (λ same. l (val_equal A a b e ∙ same))))

  more : (a b : Term) (xs ys : List Term) → IsNat a → IsNat b → (val A (less xs ys) e ≢ nil → LexLess (map nat xs) (map nat ys))
      → val A (Call if_name (Call less_name (a ∷ b ∷ []) ∷ t_constant ∷ Call if_name (Call equal_name (a ∷ b ∷ []) ∷ less xs ys ∷ nil_constant ∷ []) ∷ [])) e ≢ nil
      → LexLess (nat a ∷ map nat xs) (nat b ∷ map nat ys)
  more a b xs ys h k rest_less l = first (value_eq (val A (Call less_name (a ∷ b ∷ [])) e) nil) refl
    where
      rest : Term
      rest = Call if_name (Call equal_name (a ∷ b ∷ []) ∷ less xs ys ∷ nil_constant ∷ [])

      whole : (t : Bool) → value_eq (val A (Call less_name (a ∷ b ∷ [])) e) nil ≡ t
          → val A (Call if_name (Call less_name (a ∷ b ∷ []) ∷ t_constant ∷ Call if_name (Call equal_name (a ∷ b ∷ []) ∷ less xs ys ∷ nil_constant ∷ []) ∷ [])) e
          ≡ cond t (val A (Call if_name (Call equal_name (a ∷ b ∷ []) ∷ less xs ys ∷ nil_constant ∷ [])) e) (val A t_constant e)
      whole t q = val_if A (Call less_name (a ∷ b ∷ [])) t_constant (Call if_name (Call equal_name (a ∷ b ∷ []) ∷ less xs ys ∷ nil_constant ∷ [])) e
          ∙ ap (λ x. cond x (val A (Call if_name (Call equal_name (a ∷ b ∷ []) ∷ less xs ys ∷ nil_constant ∷ [])) e) (val A t_constant e)) q

      inner : (t : Bool) → value_eq (val A (Call equal_name (a ∷ b ∷ [])) e) nil ≡ t
          → val A (Call if_name (Call equal_name (a ∷ b ∷ []) ∷ less xs ys ∷ nil_constant ∷ [])) e ≡ cond t (val A nil_constant e) (val A (less xs ys) e)
      inner t q = val_if A (Call equal_name (a ∷ b ∷ [])) (less xs ys) nil_constant e ∙ ap (λ x. cond x (val A nil_constant e) (val A (less xs ys) e)) q

      second : (t : Bool) → value_eq (val A (Call equal_name (a ∷ b ∷ [])) e) nil ≡ t → val A (Call if_name (Call equal_name (a ∷ b ∷ []) ∷ less xs ys ∷ nil_constant ∷ [])) e ≢ nil
          → LexLess (nat a ∷ map nat xs) (nat b ∷ map nat ys)
      second true q m = absurd (m (inner true q ∙ val_quote A (Sym nil_name) e ∙ val_of_nil))
      second false q m = inr (eq_is a b h k (eq-not_nil _ q), rest_less (λ same. m (inner false q ∙ same)))

      first : (t : Bool) → value_eq (val A (Call less_name (a ∷ b ∷ [])) e) nil ≡ t → LexLess (nat a ∷ map nat xs) (nat b ∷ map nat ys)
      first true q = second (value_eq (val A (Call equal_name (a ∷ b ∷ [])) e) nil) refl (λ same. l (whole true q ∙ same))
      first false q = inl (lt_is a b h k (eq-not_nil _ q))

  pub less_is : (xs ys : List Term) → Each IsNat xs → Each IsNat ys → val A (less xs ys) e ≢ nil → LexLess (map nat xs) (map nat ys)
  less_is (a ∷ []) (b ∷ []) h k l = inl (lt_is a b h.0 k.0 l)
  less_is (a ∷ xs) (b ∷ ys) h k l = more a b xs ys h.0 k.0 (less_is xs ys h.1 k.1) l
  less_is xs ys h k l = absurd (l (val_quote A (Sym nil_name) e ∙ val_of_nil))
