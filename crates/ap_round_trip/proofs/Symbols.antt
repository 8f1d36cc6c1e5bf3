-- A printed symbol is read as the symbol.
use Rattle.std.proofs.Common.{◌≡◌, ℕ, ◌<◌, ◌==◌, ◌||◌, ◌&&◌, Bool, true, false, List, [], ◌∷◌, ◌++◌, length, map, Ok, codes, refl, ap, ◌∙◌, arith}
use Rattle.std.specs.Prelude.{if◌then◌else◌}
use Rattle.std.specs.Char.{is_ascii_lowercase, to_ascii_uppercase}
use Rattle.std.proofs.lemmas.Bool.{ne_eqb, eq-eqb}
use Rattle.std.proofs.lemmas.Bool.Decides.{nat_tests}
use Rattle.ap_list.specs.Lists.{Each}
use Rattle.ap_value.specs.declared.symbol.Symbol.{Symbol}
use Rattle.ap_tokens.specs.declared.token.Kind.TheVariants as kinds
use Rattle.ap_tokens.specs.Bytes.{is_blank, ends_atom}
use Rattle.ap_tokens.specs.Tokens.{lead_of}
use Rattle.ap_tokens.specs.Grammar.{Named, name_bar}
use Rattle.ap_tokens.specs.Grammar as spells
use Rattle.ap_tokens.proofs.Sound.{differ, and_both}
use Rattle.ap_reader.specs.declared.form.Body.TheVariants as body
use Rattle.ap_reader.specs.declared.leaf.Leaf.TheVariants as leaves
use Rattle.ap_reader.specs.declared.name.Letter.{Letter}
use Rattle.ap_reader.specs.declared.number.Shape.TheVariants as shapes
use Rattle.ap_reader.specs.Leaves.{sym_of, atom_of, leaf_of}
use Rattle.ap_reader.specs.Names.{letters_of, has_colon, symbol_of, taken}
use Rattle.ap_reader.specs.Numbers.{shape_of}
use Rattle.ap_term.specs.Atoms as printed
use Rattle.ap_term.specs.Atoms.{is_plain, all_plain, all_dots, begins_with, is_symbol_text, reads_back}
use Rattle.ap_term.specs.Printed.{escaped, quoted, colon_text, symbol_text}
use Rattle.ap_round_trip.proofs.Bytes.{Inner, starts, atom_spelled}
use Rattle.ap_round_trip.proofs.Names.{false_and, escaped_named, escaped_letters, home_symbol, key_symbol, takens_colon, taken_bytes}
use Rattle.ap_round_trip.proofs.Shapes.{not_true, symbolic}
use Rattle.ap_round_trip.proofs.Strings.{or_false, after_quoted}
use Rattle.ap_round_trip.proofs.Tokens.{IsLeaf}

-- what the printer's test of a byte says
record Plain (c : ℕ) : Type 0 where
  inner : Inner c
  colon : (c == 58) ≡ false
  upper : to_ascii_uppercase c ≡ c

upper_kept : (c : ℕ) → is_ascii_lowercase c ≡ false → to_ascii_uppercase c ≡ c
upper_kept c h = grind (arith, nat_tests)

plain : (c : ℕ) → is_plain c ≡ true → Plain c
unfolding is_plain printed.ends_atom ends_atom is_blank
plain c h =
    let p = or_false (printed.ends_atom c || c == 124 || c == 92 || c == 58) (is_ascii_lowercase c) (not_true (printed.ends_atom c || c == 124 || c == 92 || c == 58 || is_ascii_lowercase c) h) in
    let q = or_false (printed.ends_atom c || c == 124 || c == 92) (c == 58) p.0 in
    let r = or_false (printed.ends_atom c || c == 124) (c == 92) q.0 in
    let s = or_false (printed.ends_atom c) (c == 124) r.0 in
    record { inner = record { taken = differ c 92 r.1; bar = differ c 124 s.1; ends = s.0 }; colon = q.1; upper = upper_kept c p.1 }

plains : (cs : List ℕ) → all_plain cs ≡ true → Each Plain cs
plains [] h = tt
plains (c ∷ cs) h = let p = and_both (is_plain c) (all_plain cs) h in (plain c p.0, plains cs p.1)

inners : (cs : List ℕ) → Each Plain cs → Each Inner cs
inners [] h = tt
inners (c ∷ cs) h = (h.0.inner, inners cs h.1)

-- a byte that nothing escapes and that is as it is
abbrev bare : ℕ → Letter
bare c = record { byte = c; escaped = false }

bare_letters : (cs : List ℕ) → Each Plain cs → letters_of false false cs ≡ map bare cs
bare_letters [] h = refl
bare_letters (c ∷ cs) h =
    rw (ne_eqb c 92 h.0.inner.taken, ne_eqb c 124 h.0.inner.bar) (ap (λ b. record { byte = b; escaped = false } ∷ letters_of false false cs) h.0.upper ∙ ap (λ x. bare c ∷ x) (bare_letters cs h.1))

bares_colon : (cs : List ℕ) → Each Plain cs → has_colon (map bare cs) ≡ false
bares_colon [] h = refl
bares_colon (c ∷ cs) h = rw (false_and (c == 58) true h.0.colon) (bares_colon cs h.1)

bare_bytes : (cs : List ℕ) → map (λ (l : Letter). l.byte) (map bare cs) ≡ cs
bare_bytes [] = refl
bare_bytes (c ∷ cs) = ap (λ x. c ∷ x) (bare_bytes cs)

atom_symbol : (t : List ℕ) (s : Symbol) → shape_of t ≡ shapes.Name → symbol_of t ≡ Ok s → leaf_of leaves.Atom t ≡ Ok (body.Sym s)
unfolding leaf_of
atom_symbol t s e i = ap (λ x. atom_of x t) e ∙ ap sym_of i

abbrev IsSymbol : List ℕ → Bool → List ℕ → Type 0
IsSymbol t keyword name = IsLeaf t (body.Sym (record { keyword = keyword; name = name }))

home_barred : (cs : List ℕ) → IsSymbol (quoted 124 cs) false cs
unfolding is_blank
home_barred cs = record {
  kind = kinds.Atom;
  leaf = leaves.Atom;
  head = refl;
  body = atom_symbol (quoted 124 cs) (record { keyword = false; name = cs }) refl (home_symbol (quoted 124 cs) (map taken cs) cs (escaped_letters cs) (takens_colon cs) (taken_bytes cs));
  some = omega arith;
  here = λ u. refl;
  spelled = λ u h. rw (after_quoted 124 cs u) (spells.barred_atom (escaped 124 cs ++ 124 ∷ u) u (escaped_named cs u h));
}

key_barred : (cs : List ℕ) → IsSymbol (58 ∷ quoted 124 cs) true cs
unfolding is_blank lead_of
key_barred cs = record {
  kind = kinds.Atom;
  leaf = leaves.Atom;
  head = refl;
  body = atom_symbol (58 ∷ quoted 124 cs) (record { keyword = true; name = cs }) refl
      (key_symbol (quoted 124 cs) (map taken cs) cs (ap (λ x. bare 58 ∷ x) (escaped_letters cs)) (takens_colon cs) (taken_bytes cs));
  some = omega arith;
  here = λ u. refl;
  spelled = λ u h. rw (after_quoted 124 cs u)
      (spells.atom 58 (124 ∷ (escaped 124 cs ++ 124 ∷ u)) u refl (λ e. omega arith) (λ e. omega arith) (λ e. omega arith) (name_bar false (escaped 124 cs ++ 124 ∷ u) u (escaped_named cs u h)));
}

colon_inner : Inner 58
unfolding ends_atom is_blank
colon_inner = record { taken = λ e. omega arith; bar = λ e. omega arith; ends = refl }

key_plain : (cs : List ℕ) → Each Plain cs → IsSymbol (58 ∷ cs) true cs
key_plain cs p = record {
  kind = kinds.Atom;
  leaf = leaves.Atom;
  head = refl;
  body = atom_symbol (58 ∷ cs) (record { keyword = true; name = cs }) refl (key_symbol cs (map bare cs) cs (ap (λ x. bare 58 ∷ x) (bare_letters cs p)) (bares_colon cs p) (bare_bytes cs));
  some = omega arith;
  here = λ u. starts 58 (cs ++ u) colon_inner.ends refl;
  spelled = λ u h. atom_spelled 58 cs u (colon_inner, inners cs p) refl (λ e. omega arith) h;
}

home_plain : (cs : List ℕ) → Each Plain cs → is_symbol_text cs ≡ true → IsSymbol cs false cs
home_plain [] p h = absurd cc
home_plain (c ∷ cs) p h =
    let s = symbolic (c ∷ cs) h in
    record {
      kind = kinds.Atom;
      leaf = leaves.Atom;
      head = refl;
      body = atom_symbol (c ∷ cs) (record { keyword = false; name = c ∷ cs }) s.shape
          (home_symbol (c ∷ cs) (map bare (c ∷ cs)) (c ∷ cs) (bare_letters (c ∷ cs) p) (bares_colon (c ∷ cs) p) (bare_bytes (c ∷ cs)));
      some = omega arith;
      here = λ u. starts c (cs ++ u) p.0.inner.ends s.sharp;
      spelled = λ u h. atom_spelled c cs u (inners (c ∷ cs) p) s.sharp (λ e. not_dot cs e s.dots) h;
    }
  where
    not_dot : (t : List ℕ) → c ≡ 46 → all_dots (c ∷ t) ≡ false → 0 < length t
    not_dot [] e d = let k : (c == 46) ≡ true = eq-eqb c 46 e in let m : (c == 46 && true) ≡ true = ap (λ b. b && true) k in absurd cc
    not_dot (d ∷ t) e f = omega arith

pub symbol_leaf : (s : Symbol) → IsLeaf (symbol_text s) (body.Sym s)
unfolding symbol_text colon_text reads_back
symbol_leaf s = by_test s.keyword s.name (all_plain s.name && (s.keyword || is_symbol_text s.name)) refl
  where
    by_test : (k : Bool) (cs : List ℕ) (b : Bool) → (all_plain cs && (k || is_symbol_text cs)) ≡ b → IsSymbol ((if k then codes ":" else []) ++ (if b then cs else quoted 124 cs)) k cs
    by_test true cs true e = key_plain cs (plains cs (and_both (all_plain cs) true e).0)
    by_test true cs false e = key_barred cs
    by_test false cs true e = let p = and_both (all_plain cs) (is_symbol_text cs) e in home_plain cs (plains cs p.0) p.1
    by_test false cs false e = home_barred cs
