-- The test by two words for each polynomial: each atom has the bit of a number that any function gives it. Where two
-- atoms share a bit, the test says less, and what it says is still so.
use Rattle.std.specs.Prelude.{◌≡◌, ℕ, zero, suc, ◌^◌, ◌%◌, Bool, true, false, cond, not, ◌&&◌, ◌||◌, nat_eq, pos, int_lt, List, [], ◌∷◌, map, None}
use Rattle.std.specs.Int.Bits.{bit_and, bit_or}
use Rattle.ap_term.specs.declared.term.Term.{Term}
use Rattle.ap_term.specs.Equal.{term_eq}
use Rattle.ap_poly.specs.Polynomials.{Parts, Polynomial}
use Rattle.ap_poly.specs.Elimination.{lin}
use Rattle.ap_linear.specs.OneSign.{has_sign}
use Rattle.ap_linear.specs.declared.marks.Marked.{Marked}

-- a word with the bits of the atoms whose coefficients have the sign
abbrev pub bits_after : (Term → ℕ) → Bool → ℕ → Parts → ℕ
bits_after g s n [] = n
bits_after g s n (p ∷ ps) = bits_after g s (cond (has_sign s p.1) (bit_or n (2 ^ g p.0)) n) ps

-- what the test keeps of a polynomial
abbrev pub marked : (Term → ℕ) → Polynomial → Marked
marked g p = record { up = bits_after g true 0 p.parts; down = bits_after g false 0 p.parts; negative = int_lt p.constant (pos 0) }

abbrev pub word : Bool → Marked → ℕ
word true m = m.up
word false m = m.down

-- a word with those of all
abbrev pub words_after : Bool → ℕ → List Marked → ℕ
words_after s n [] = n
words_after s n (m ∷ ms) = words_after s (bit_or n (word s m)) ms

-- a bit is up here and nowhere down, or down here and nowhere up: these are the bits that stand anywhere
abbrev pub is_struck : ℕ → ℕ → Marked → Bool
is_struck ups downs m = not (nat_eq (bit_and m.up downs) m.up) || not (nat_eq (bit_and m.down ups) m.down)

abbrev pub unmarked : ℕ → ℕ → List Marked → List Marked
unmarked ups downs [] = []
unmarked ups downs (m ∷ ms) = cond (is_struck ups downs m) (unmarked ups downs ms) (m ∷ unmarked ups downs ms)

abbrev pub next_marks : List Marked → List Marked
next_marks ms = unmarked (words_after true 0 ms) (words_after false 0 ms) ms

abbrev pub marks_left : ℕ → List Marked → List Marked
marks_left zero ms = ms
marks_left (suc n) ms = marks_left n (next_marks ms)

abbrev pub no_mark_negative : List Marked → Bool
no_mark_negative [] = true
no_mark_negative (m ∷ ms) = not m.negative && no_mark_negative ms

abbrev pub marks_hopeless : ℕ → List Marked → Bool
marks_hopeless n ms = no_mark_negative (marks_left n ms)

-- after any number of rounds, with any numbering of atoms
abbrev pub MarksAreRight : Type 0
MarksAreRight = (g : Term → ℕ) (n : ℕ) (ps : List Polynomial) → marks_hopeless n (map (marked g) ps) ≡ true → lin ps ≡ None

-- a term's place among others, behind them all where it isn't there, and as a bit of a word of 64
abbrev pub place : List Term → Term → ℕ
place [] t = 0
place (u ∷ us) t = cond (term_eq t u) 0 (suc (place us t))

abbrev pub bit_number : List Term → Term → ℕ
bit_number us t = place us t % 64
