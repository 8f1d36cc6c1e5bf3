-- A character's byte or name is read as the character.
use Rattle.std.proofs.Common.{◌≡◌, inl, inr, ℕ, ◌==◌, Bool, true, false, List, [], ◌∷◌, ◌++◌, Some, codes, refl, ap, subst, sym, arith}
use Rattle.std.specs.Prelude.{if◌then◌else◌, IsTrue, is_some}
use Rattle.ap_tokens.specs.declared.token.Kind.TheVariants as kinds
use Rattle.ap_tokens.specs.Bytes.{is_blank, ends_atom}
use Rattle.ap_tokens.specs.Hashes.{char_name}
use Rattle.ap_tokens.specs.Grammar.{Run, run_byte}
use Rattle.ap_tokens.specs.Grammar as spells
use Rattle.ap_tokens.proofs.Sound.{same}
use Rattle.ap_reader.specs.declared.form.Body.TheVariants as body
use Rattle.ap_reader.specs.declared.leaf.Leaf.TheVariants as leaves
use Rattle.ap_reader.specs.Leaves.{leaf_of, chr_of}
use Rattle.ap_reader.specs.Strings.{coded}
use Rattle.ap_term.specs.Printed.{character_name, character_text}
use Rattle.ap_round_trip.proofs.Tokens.{Ends, IsLeaf, run_ends}

abbrev Character : ℕ → List ℕ → Type 0
Character c name = IsLeaf (35 ∷ 92 ∷ name) (body.Chr c)

-- a byte that has no name
one_byte : (c : ℕ) → Character c (c ∷ [])
unfolding is_blank leaf_of
one_byte c = record {
  kind = kinds.Character;
  leaf = leaves.Character;
  head = refl;
  body = refl;
  some = omega arith;
  here = λ u. refl;
  spelled = λ u h. spells.character c [] u (run_ends h) (inl refl);
}

-- a name of which no byte ends an atom
abbrev runs : List ℕ → Type 0
runs name = (u : List ℕ) → Ends u → Run (name ++ u) u

named : (c d e : ℕ) (name : List ℕ) → char_name (d ∷ e ∷ name) ≡ Some c → runs (e ∷ name) → Character c (d ∷ e ∷ name)
unfolding is_blank leaf_of
named c d e name is run = record {
  kind = kinds.Character;
  leaf = leaves.Character;
  head = refl;
  body = ap (λ o. chr_of (coded o)) is;
  some = omega arith;
  here = λ u. refl;
  spelled = λ u h. spells.character d (e ∷ name) u (run u h) (inr (subst (λ o. IsTrue (is_some o)) (sym is) refl));
}

space_run : runs (codes "pace")
unfolding ends_atom is_blank
space_run u h = run_byte 112 _ u refl (run_byte 97 _ u refl (run_byte 99 _ u refl (run_byte 101 _ u refl (run_ends h))))

newline_run : runs (codes "ewline")
unfolding ends_atom is_blank
newline_run u h =
    run_byte 101 _ u refl (run_byte 119 _ u refl (run_byte 108 _ u refl (run_byte 105 _ u refl (run_byte 110 _ u refl (run_byte 101 _ u refl (run_ends h))))))

tab_run : runs (codes "ab")
unfolding ends_atom is_blank
tab_run u h = run_byte 97 _ u refl (run_byte 98 _ u refl (run_ends h))

page_run : runs (codes "age")
unfolding ends_atom is_blank
page_run u h = run_byte 97 _ u refl (run_byte 103 _ u refl (run_byte 101 _ u refl (run_ends h)))

rubout_run : runs (codes "ubout")
unfolding ends_atom is_blank
rubout_run u h = run_byte 117 _ u refl (run_byte 98 _ u refl (run_byte 111 _ u refl (run_byte 117 _ u refl (run_byte 116 _ u refl (run_ends h)))))

space_leaf : Character 32 (codes "Space")
unfolding char_name
space_leaf = named 32 83 112 (codes "ace") refl space_run

newline_leaf : Character 10 (codes "Newline")
unfolding char_name
newline_leaf = named 10 78 101 (codes "wline") refl newline_run

tab_leaf : Character 9 (codes "Tab")
unfolding char_name
tab_leaf = named 9 84 97 (codes "b") refl tab_run

page_leaf : Character 12 (codes "Page")
unfolding char_name
page_leaf = named 12 80 97 (codes "ge") refl page_run

rubout_leaf : Character 127 (codes "Rubout")
unfolding char_name
rubout_leaf = named 127 82 117 (codes "bout") refl rubout_run

-- a character by a test on its code
by_code : (c d : ℕ) (b : Bool) (name other : List ℕ) → (c == d) ≡ b → Character d name → Character c other → Character c (if b then name else other)
by_code c d true name other e h k = subst (λ n. Character n name) (sym (same c d e)) h
by_code c d false name other e h k = k

pub character_leaf : (c : ℕ) → IsLeaf (character_text c) (body.Chr c)
unfolding character_text character_name
character_leaf c =
    by_code c 32 (c == 32) (codes "Space") _ refl space_leaf
    (by_code c 10 (c == 10) (codes "Newline") _ refl newline_leaf
    (by_code c 9 (c == 9) (codes "Tab") _ refl tab_leaf
    (by_code c 12 (c == 12) (codes "Page") _ refl page_leaf
    (by_code c 127 (c == 127) (codes "Rubout") (c ∷ []) refl rubout_leaf (one_byte c)))))
