-- The test by bits is right.
use Rattle.std.proofs.Common.{◌≡◌, ℕ, zero, suc, ◌≤◌, ◌^◌, Bool, true, false, cond, not, ◌&&◌, ◌||◌, nat_eq, eq-eqb, ℤ, pos, int_lt, List, [], ◌∷◌, map, None, refl, ap, sym, subst, ◌∙◌, min, arith, true≢false}
use Rattle.std.specs.Int.{bit_at}
use Rattle.std.specs.Int.Bits.{bit_and, bit_or}
use Rattle.std.proofs.lemmas.Nat.Bits.{bit_at_and, bit_at_or, bit_at-zero, same_from_bits}
use Rattle.ap_term.specs.declared.term.Term.{Term}
use Rattle.ap_term.specs.Equal.{term_eq}
use Rattle.ap_term.proofs.Equals.{term_eq-true}
use Rattle.ap_value.proofs.Equals.{both}
use Rattle.ap_poly.specs.Polynomials.{Parts, Polynomial}
use Rattle.ap_poly.specs.Elimination.{lin}
use Rattle.ap_linear.specs.OneSign.{has_sign, stands_in, stands, is_lone, has_lone, none_negative, NoCertificate, chosen, StruckIn}
use Rattle.ap_linear.specs.declared.marks.Marked.{Marked}
use Rattle.ap_linear.specs.Marks.{bits_after, marked, word, words_after, is_struck, unmarked, marks_left, no_mark_negative, marks_hopeless}
use Rattle.ap_linear.proofs.Lone.{none_negative_none}
use Rattle.ap_linear.proofs.Struck.{striking_safe, none_found}

-- each bit of one word is in another
abbrev Inside : ℕ → ℕ → Type 0
Inside a b = (i : ℕ) → bit_at a i ≤ bit_at b i

inside_own : (a : ℕ) → Inside a a
inside_own a i = omega arith

inside_left : (a b c : ℕ) → Inside a b → Inside a (bit_or b c)
inside_left a b c h i = let e = bit_at_or b c i in let l = h i in omega arith

inside_right : (a b c : ℕ) → Inside a c → Inside a (bit_or b c)
inside_right a b c h i = let e = bit_at_or b c i in let l = h i in omega arith

inside_both : (a b c : ℕ) → Inside a c → Inside b c → Inside (bit_or a b) c
inside_both a b c h k i = let e = bit_at_or a b i in let l = h i in let m = k i in omega arith

inside_none : (c : ℕ) → Inside 0 c
inside_none c i = let e = bit_at-zero i in omega arith

inside_and : (a b : ℕ) → Inside a b → bit_and a b ≡ a
inside_and a b h = same_from_bits (bit_and a b) a (λ i. bit_at_and a b i ∙ least (bit_at a i) (bit_at b i) (h i))
  where
    least : (m n : ℕ) → m ≤ n → min m n ≡ m
    least m n h = omega arith

or_false : (a b : Bool) → (a || b) ≡ false → (a ≡ false) × (b ≡ false)
or_false true b h = cc
or_false false b h = (refl, h)

-- what is in a word stays in it
bits_keep : (g : Term → ℕ) (s : Bool) (a n : ℕ) (ps : Parts) → Inside a n → Inside a (bits_after g s n ps)
bits_keep g s a n [] h = h
bits_keep g s a n (p ∷ ps) h = bits_keep g s a (cond (has_sign s p.1) (bit_or n (2 ^ g p.0)) n) ps (go (has_sign s p.1))
  where
    go : (b : Bool) → Inside a (cond b (bit_or n (2 ^ g p.0)) n)
    go true = inside_left a n (2 ^ g p.0) h
    go false = h

words_keep : (s : Bool) (a n : ℕ) (ms : List Marked) → Inside a n → Inside a (words_after s n ms)
words_keep s a n [] h = h
words_keep s a n (m ∷ ms) h = words_keep s a (bit_or n (word s m)) ms (inside_left a n (word s m) h)

module _ (g : Term → ℕ) where
  -- an atom that stands with a sign has its bit
  bit_in : (s : Bool) (x : Term) (n : ℕ) (ps : Parts) → stands_in s x ps ≡ true → Inside (2 ^ g x) (bits_after g s n ps)
  bit_in s x n [] h = cc
  bit_in s x n (p ∷ ps) h = go (term_eq x p.0 && has_sign s p.1) refl (bit_in s x (cond (has_sign s p.1) (bit_or n (2 ^ g p.0)) n) ps) h
    where
      here : (term_eq x p.0 ≡ true) × (has_sign s p.1 ≡ true) → Inside (2 ^ g x) (cond (has_sign s p.1) (bit_or n (2 ^ g p.0)) n)
      here (e, f) = subst (λ c. Inside (2 ^ g x) (cond c (bit_or n (2 ^ g p.0)) n)) (sym f)
          (subst (λ z. Inside (2 ^ g x) (bit_or n (2 ^ g z))) (term_eq-true x p.0 e) (inside_right (2 ^ g x) n (2 ^ g x) (inside_own (2 ^ g x))))

      go : (b : Bool) → (term_eq x p.0 && has_sign s p.1) ≡ b → (stands_in s x ps ≡ true → Inside (2 ^ g x) (bits_after g s n (p ∷ ps))) → (b || stands_in s x ps) ≡ true
          → Inside (2 ^ g x) (bits_after g s n (p ∷ ps))
      go true e later k = bits_keep g s (2 ^ g x) (cond (has_sign s p.1) (bit_or n (2 ^ g p.0)) n) ps (here (both (term_eq x p.0) (has_sign s p.1) e))
      go false e later k = later k

  own_word : (s : Bool) (p : Polynomial) → word s (marked g p) ≡ bits_after g s 0 p.parts
  own_word true p = refl
  own_word false p = refl

  abbrev all_bits : Bool → ℕ → List Polynomial → ℕ
  all_bits s n ps = words_after s n (map (marked g) ps)

  bit_among : (s : Bool) (x : Term) (n : ℕ) (qs : List Polynomial) → stands s x qs ≡ true → Inside (2 ^ g x) (all_bits s n qs)
  bit_among s x n [] h = cc
  bit_among s x n (q ∷ qs) h = go (stands_in s x q.parts) refl (bit_among s x (bit_or n (word s (marked g q))) qs) h
    where
      go : (b : Bool) → stands_in s x q.parts ≡ b → (stands s x qs ≡ true → Inside (2 ^ g x) (all_bits s n (q ∷ qs))) → (b || stands s x qs) ≡ true → Inside (2 ^ g x) (all_bits s n (q ∷ qs))
      go true e later k =
          words_keep s (2 ^ g x) (bit_or n (word s (marked g q))) (map (marked g) qs)
          (inside_right (2 ^ g x) n (word s (marked g q)) (subst (Inside (2 ^ g x)) (sym (own_word s q)) (bit_in s x 0 q.parts e)))
      go false e later k = later k

  -- where no atom has one sign alone, each bit stands with the other sign somewhere
  other_sign : (a b : Bool) → (a && not b) ≡ false → a ≡ true → b ≡ true
  other_sign true true h k = refl
  other_sign true false h k = cc
  other_sign false b h k = cc

  part_inside : (s : Bool) (qs : List Polynomial) (n : ℕ) (q : Term × ℤ) → (has_sign s q.1 && not (stands (not s) q.0 qs)) ≡ false → Inside n (all_bits (not s) 0 qs)
      → Inside (cond (has_sign s q.1) (bit_or n (2 ^ g q.0)) n) (all_bits (not s) 0 qs)
  part_inside s qs n q h k = go (has_sign s q.1) refl
    where
      go : (b : Bool) → has_sign s q.1 ≡ b → Inside (cond b (bit_or n (2 ^ g q.0)) n) (all_bits (not s) 0 qs)
      go true e = inside_both n (2 ^ g q.0) (all_bits (not s) 0 qs) k (bit_among (not s) q.0 0 qs (other_sign (has_sign s q.1) (stands (not s) q.0 qs) h e))
      go false e = k

  parts_inside : (qs : List Polynomial) (n m : ℕ) (ps : Parts) → has_lone qs ps ≡ false → Inside n (all_bits false 0 qs) → Inside m (all_bits true 0 qs)
      → Inside (bits_after g true n ps) (all_bits false 0 qs) × Inside (bits_after g false m ps) (all_bits true 0 qs)
  parts_inside qs n m [] h i j = (i, j)
  parts_inside qs n m (q ∷ ps) h i j =
      let (here, rest) = or_false (is_lone qs q) (has_lone qs ps) h in
      let (ups, downs) = or_false (has_sign true q.1 && not (stands false q.0 qs)) (has_sign false q.1 && not (stands true q.0 qs)) here in
      parts_inside qs (cond (has_sign true q.1) (bit_or n (2 ^ g q.0)) n) (cond (has_sign false q.1) (bit_or m (2 ^ g q.0)) m) ps rest
      (part_inside true qs n q ups i) (part_inside false qs m q downs j)

  abbrev struck_in : List Polynomial → Polynomial → Bool
  struck_in qs p = is_struck (all_bits true 0 qs) (all_bits false 0 qs) (marked g p)

  same_test : (a b : ℕ) → a ≡ b → not (nat_eq a b) ≡ false
  same_test a b e = ap not (eq-eqb a b e)

  -- what is struck has an atom of one sign
  struck_lone : (qs : List Polynomial) (p : Polynomial) → struck_in qs p ≡ true → has_lone qs p.parts ≡ true
  struck_lone qs p h = go (has_lone qs p.parts) refl
    where
      ups : ℕ
      ups = bits_after g true 0 p.parts

      downs : ℕ
      downs = bits_after g false 0 p.parts

      none : has_lone qs p.parts ≡ false → struck_in qs p ≡ false
      none e =
          let (i, j) = parts_inside qs 0 0 p.parts e (inside_none (all_bits false 0 qs)) (inside_none (all_bits true 0 qs)) in
          ap (λ b. b || not (nat_eq (bit_and downs (all_bits true 0 qs)) downs)) (same_test (bit_and ups (all_bits false 0 qs)) ups (inside_and ups (all_bits false 0 qs) i))
          ∙ same_test (bit_and downs (all_bits true 0 qs)) downs (inside_and downs (all_bits true 0 qs) j)

      go : (b : Bool) → has_lone qs p.parts ≡ b → b ≡ true
      go true e = refl
      go false e = absurd (true≢false (sym h ∙ none e))

  -- one round, as flags
  abbrev flags : List Polynomial → List Polynomial → List Bool
  flags qs [] = []
  flags qs (p ∷ ps) = not (struck_in qs p) ∷ flags qs ps

  not_false : (b : Bool) → not b ≡ false → b ≡ true
  not_false true h = refl
  not_false false h = cc

  flags_strike : (qs ps : List Polynomial) → StruckIn qs (flags qs ps) ps
  flags_strike qs [] = tt
  flags_strike qs (p ∷ ps) = (λ e. struck_lone qs p (not_false (struck_in qs p) e), flags_strike qs ps)

  flags_leave : (qs ps : List Polynomial) → unmarked (all_bits true 0 qs) (all_bits false 0 qs) (map (marked g) ps) ≡ map (marked g) (chosen (flags qs ps) ps)
  flags_leave qs [] = refl
  flags_leave qs (p ∷ ps) = go (struck_in qs p) (flags_leave qs ps)
    where
      go : (b : Bool) → unmarked (all_bits true 0 qs) (all_bits false 0 qs) (map (marked g) ps) ≡ map (marked g) (chosen (flags qs ps) ps)
          → cond b (unmarked (all_bits true 0 qs) (all_bits false 0 qs) (map (marked g) ps)) (marked g p ∷ unmarked (all_bits true 0 qs) (all_bits false 0 qs) (map (marked g) ps))
          ≡ map (marked g) (cond (not b) (p ∷ chosen (flags qs ps) ps) (chosen (flags qs ps) ps))
      go true h = h
      go false h = ap (λ l. marked g p ∷ l) h

  constants_same : (ps : List Polynomial) → no_mark_negative (map (marked g) ps) ≡ none_negative ps
  constants_same [] = refl
  constants_same (p ∷ ps) = ap (λ b. not (int_lt p.constant (pos 0)) && b) (constants_same ps)

  hopeless_none : (n : ℕ) (ps : List Polynomial) → marks_hopeless n (map (marked g) ps) ≡ true → NoCertificate ps
  hopeless_none zero ps h = none_negative_none ps (sym (constants_same ps) ∙ h)
  hopeless_none (suc n) ps h =
      striking_safe (flags ps ps) ps (flags_strike ps ps) (hopeless_none n (chosen (flags ps ps) ps) (ap (λ ms. no_mark_negative (marks_left n ms)) (sym (flags_leave ps ps)) ∙ h))

pub marks_right : (g : Term → ℕ) (n : ℕ) (ps : List Polynomial) → marks_hopeless n (map (marked g) ps) ≡ true → lin ps ≡ None
marks_right g n ps h = none_found ps (hopeless_none g n ps h)
