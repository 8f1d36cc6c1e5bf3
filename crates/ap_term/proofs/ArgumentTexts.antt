-- The arguments of two calls, one after another.
use Rattle.std.proofs.Common.{◌≡◌, ℕ, suc, ◌+◌, ◌-◌, ◌<◌, ◌≤◌, min, true, false, List, [], ◌∷◌, ◌++◌, map, take, drop, length, get_or, Option, Some, refl, sym, ap, subst, ◌∙◌, arith, add-one, length-drop, drop-cons}
use Rattle.std.proofs.lemmas.List.{length-map, take_rest}
use Rattle.std.specs.Ordering.{nat_cmp, is_ne}
use Rattle.std.specs.declared.cmp.Ordering.{Ordering}
use Rattle.std.specs.declared.cmp.Ordering.TheVariants.{Equal}
use Rattle.ap_term.specs.declared.term.Term.{Term}
use Rattle.ap_term.specs.Printed.{term_text}
use Rattle.ap_term.specs.Compared.{bytes_order, follow, Decided, FirstIs}
use Rattle.ap_term.specs.Starts.{arguments_text}
use Rattle.ap_term.proofs.Compares.{cmp-less, cmp-greater, cmp-same}
use Rattle.ap_term.proofs.Parts.{along, behind_byte, bytes_differ, parts_apart}

-- before the first of some arguments stands a space
pub first_argument : (xs : List Term) → 1 ≤ length xs → FirstIs 32 (arguments_text (map term_text xs))
first_argument [] h = absurd (omega arith)
first_argument (x ∷ xs) h = refl

-- texts that compare as two others do
pub continued : (r : Ordering) (v w v' w' : List ℕ) (x y : Option ℕ) → ((s t : List ℕ) → bytes_order (v ++ s) (w ++ t) ≡ bytes_order (v' ++ s) (w' ++ t))
    → Decided r v' x w' y → Decided r v x w y
continued r v w v' w' x y h k = (λ s t. h (follow x s) (follow y t) ∙ k.0 s t, k.1)

-- the first arguments that differ decide
pub argument_apart : (r : Ordering) (p : List ℕ) (ps : List (List ℕ)) (q : List ℕ) (qs : List (List ℕ)) (c d : ℕ) (x y : Option ℕ)
    → Decided r p (Some c) q (Some d) → FirstIs c (arguments_text ps) → FirstIs d (arguments_text qs) → (r ≡ Equal → ⊥)
    → Decided r (arguments_text (p ∷ ps)) x (arguments_text (q ∷ qs)) y
argument_apart r p ps q qs c d x y h f g ne =
    behind_byte 32 r (p ++ arguments_text ps) x (q ++ arguments_text qs) y
    (parts_apart r p (arguments_text ps) q (arguments_text qs) c d x y h f g ne)

-- the shorter list of arguments is closed where the other goes on
arguments_end : (r : Ordering) (us vs : List (List ℕ)) (m n : ℕ) (x y : Option ℕ) → r ≡ nat_cmp n m → (r ≡ Equal → ⊥)
    → length us + min m n ≡ m → length vs + min m n ≡ n → Decided r (arguments_text us) x (arguments_text vs) y
arguments_end r [] [] m n x y e ne h k =
    let same : n ≡ m = omega arith in
    absurd (ne (e ∙ ap (nat_cmp n) (sym same) ∙ cmp-same n))
arguments_end r [] (v ∷ vs) m n x y e ne h k =
    bytes_differ 41 32 r [] x (v ++ arguments_text vs) y (λ z. omega (arith, z)) (e ∙ cmp-greater n m (omega arith) ∙ sym (cmp-greater 41 32 (omega arith)))
arguments_end r (u ∷ us) [] m n x y e ne h k =
    bytes_differ 32 41 r (u ++ arguments_text us) x [] y (λ z. omega (arith, z)) (e ∙ cmp-less n m (omega arith) ∙ sym (cmp-less 32 41 (omega arith)))
arguments_end r (u ∷ us) (v ∷ vs) m n x y e ne h k = absurd (omega arith)

left_over : (xs : List Term) (i : ℕ) → length (map term_text (drop i xs)) ≡ length xs - i
left_over xs i = simp (length-map, length-drop)

pub lengths_apart : (r : Ordering) (xs ys : List Term) (i : ℕ) (x y : Option ℕ) → i ≤ length xs → i ≤ length ys → min (length xs) (length ys) ≤ i
    → r ≡ nat_cmp (length ys) (length xs) → (r ≡ Equal → ⊥)
    → Decided r (arguments_text (map term_text (drop i xs))) x (arguments_text (map term_text (drop i ys))) y
lengths_apart r xs ys i x y h k m e ne =
    arguments_end r (map term_text (drop i xs)) (map term_text (drop i ys)) (length xs) (length ys) x y e ne
    (omega (arith, left_over xs i)) (omega (arith, left_over ys i))

-- what stands from an index on begins with the element there
from_index : (xs : List Term) (i : ℕ) (a : Term) → i < length xs → a ≡ get_or xs i a → drop i xs ≡ a ∷ drop (i + 1) xs
from_index xs i a h e = drop-cons xs i a h ∙ ap (λ z. z ∷ drop (suc i) xs) (sym e) ∙ ap (λ k. a ∷ drop k xs) (sym (add-one i))

pub not_equal : (r : Ordering) → true ≡ is_ne r → r ≡ Equal → ⊥
not_equal r h e = let k : true ≡ false = h ∙ ap is_ne e in cc

-- the first arguments that differ decide, at an index of both lists
pub argument_at : (r : Ordering) (xs ys : List Term) (i : ℕ) (a b : Term) (c d : ℕ) (x y : Option ℕ)
    → i < length xs → i < length ys → a ≡ get_or xs i a → b ≡ get_or ys i b → Decided r (term_text a) (Some c) (term_text b) (Some d)
    → FirstIs c (arguments_text (map term_text (take (length xs - (i + 1)) (drop (i + 1) xs))))
    → FirstIs d (arguments_text (map term_text (take (length ys - (i + 1)) (drop (i + 1) ys)))) → (r ≡ Equal → ⊥)
    → Decided r (arguments_text (map term_text (drop i xs))) x (arguments_text (map term_text (drop i ys))) y
argument_at r xs ys i a b c d x y h k e f z u v ne =
    along r (whole (drop i xs)) (whole (a ∷ drop (i + 1) xs)) x (whole (drop i ys)) (whole (b ∷ drop (i + 1) ys)) y
    (ap whole (from_index xs i a h e)) (ap whole (from_index ys i b k f))
    (argument_apart r (term_text a) (map term_text (drop (i + 1) xs)) (term_text b) (map term_text (drop (i + 1) ys)) c d x y z
    (subst (λ l. FirstIs c (whole l)) (take_rest xs (i + 1)) u) (subst (λ l. FirstIs d (whole l)) (take_rest ys (i + 1)) v) ne)
  where
    whole : List Term → List ℕ
    whole l = arguments_text (map term_text l)
