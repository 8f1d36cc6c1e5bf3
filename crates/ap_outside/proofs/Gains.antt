-- What a sink gains over several calls, and how its count of faults rises.
use Rattle.std.proofs.Common.{◌≡◌, ℕ, ◌+◌, ◌-◌, ◌<◌, ◌≤◌, ◌⊎◌, inl, inr, List, [], ◌++◌, length, take, drop, Option, Some, None, refl, sym, ap, ◌∙◌, append_assoc, arith}
use Rattle.std.specs.Prelude.{option_map}
use Rattle.std.proofs.lemmas.List.{append-nil, take-append-drop, take-take, drop-take, take_rest}
use Rattle.std.proofs.Math.Nat.{eq-or-lt_of_le}
use Rattle.ap_outside.specs.Faults.{Rose}
use Rattle.ap_outside.specs.Gains.{Gained, GainedPart}

-- no text is gained by what stays
pub gained_nothing : (before : Option (List ℕ)) → Gained before before []
gained_nothing None = refl
gained_nothing (Some content) = ap Some (sym (append-nil content))

-- one text and then another
pub gained_more : (a b c : Option (List ℕ)) (s t : List ℕ) → Gained a b s → Gained b c t → Gained a c (s ++ t)
gained_more None b c s t p q = q ∙ ap (option_map (λ content. content ++ t)) p
gained_more (Some content) b c s t p q =
    q ∙ ap (option_map (λ content. content ++ t)) p ∙ ap Some (append_assoc content s t)

-- the same text under another name
pub gained_to : (a b : Option (List ℕ)) (s t : List ℕ) → Gained a b s → s ≡ t → Gained a b t
gained_to a b s t p e = p ∙ ap (λ text. option_map (λ content. content ++ text) a) e

-- a call that fails within the first of two texts
pub part_first : (a b : Option (List ℕ)) (s t : List ℕ) → GainedPart a b s → GainedPart a b (s ++ t)
part_first a b s t p = record {
  part = p.part;
  rest = p.rest ++ t;
  whole = ap (λ text. text ++ t) p.whole ∙ append_assoc p.part p.rest t;
  gained = p.gained;
}

-- a call that fails within the second of two texts
pub part_next : (a b c : Option (List ℕ)) (s t : List ℕ) → Gained a b s → GainedPart b c t → GainedPart a c (s ++ t)
part_next a b c s t p q = record {
  part = s ++ q.part;
  rest = q.rest;
  whole = ap (λ text. s ++ text) q.whole ∙ sym (append_assoc s q.part q.rest);
  gained = gained_more a b c s q.part p q.gained;
}

-- what stays gained a prefix of any text
pub part_none : (a : Option (List ℕ)) (text : List ℕ) → GainedPart a a text
part_none a text = record { part = []; rest = text; whole = refl; gained = gained_nothing a }

-- a whole text is a prefix of it
pub part_all : (a b : Option (List ℕ)) (text : List ℕ) → Gained a b text → GainedPart a b text
part_all a b text p = record { part = text; rest = []; whole = sym (append-nil text); gained = p }

-- the same text under another name
pub part_to : (a b : Option (List ℕ)) (s t : List ℕ) → GainedPart a b s → s ≡ t → GainedPart a b t
part_to a b s t p e = record { part = p.part; rest = p.rest; whole = sym e ∙ p.whole; gained = p.gained }

-- the first bytes of a text, gained, are a prefix of it
pub part_begun : (a b c : Option (List ℕ)) (n : ℕ) (text : List ℕ) → Gained a b (take n text) → c ≡ b → GainedPart a c text
part_begun a b c n text p e = record {
  part = take n text;
  rest = drop n text;
  whole = sym (take-append-drop n text);
  gained = e ∙ p;
}

-- a count that rose within a call rose over it
pub rose_within : (a b c d : ℕ) → a ≤ b → b ≤ c → Rose b c → c ≤ d → Rose a d
rose_within a b c d first kept (inl more) last = inl (omega arith)
rose_within a b c d first kept (inr full) last = from_full (eq-or-lt_of_le first)
  where
    from_full : (a ≡ b) ⊎ (a < b) → Rose a d
    from_full (inl same) = inr (same ∙ full)
    from_full (inr less) = inl (omega arith)

-- the first bytes of a piece, and then the first of what is left
pub take_on : (done n : ℕ) (piece : List ℕ) → take done piece ++ take n (take (length piece - done) (drop done piece)) ≡ take (done + n) piece
take_on done n piece =
    let left = take-take done (done + n) piece (omega arith) in
    let right = drop-take done n piece in
    ap (λ rest. take done piece ++ take n rest) (take_rest piece done) ∙ (sym (ap (λ xs. xs ++ take n (drop done piece)) left) ∙ (sym (ap (λ xs. take done (take (done + n) piece) ++ xs) right) ∙ take-append-drop done (take (done + n) piece)))

-- for functions that put several texts in a row
pub ruleset gains = (gained_nothing, gained_more, part_first, part_next, part_none, part_all, rose_within)
