-- A printed value stands in the text as a form that means it.
use Rattle.std.proofs.Common.{◌≡◌, ℕ, ◌+◌, ◌≤◌, Bool, true, false, List, [], ◌∷◌, ◌++◌, Some, codes, ℤ, zero, suc, refl, sym, ap, subst, ◌∙◌, arith, append_assoc}
use Rattle.std.specs.Prelude.{if◌then◌else◌, max}
use Rattle.std.specs.Fmt.{signed_decimal}
use Rattle.ap_value.specs.declared.symbol.Symbol.{Symbol}
use Rattle.ap_value.specs.declared.value.Value.{Value, Int, Chr, Str, Sym, Cons}
use Rattle.ap_value.specs.Values.{acl2}
use Rattle.ap_value.proofs.Equals.{symbol_eq-true}
use Rattle.ap_tokens.specs.Gaps.{at}
use Rattle.ap_tokens.proofs.Sound.{and_both}
use Rattle.ap_reader.specs.declared.form.Body.{Body}
use Rattle.ap_reader.specs.declared.form.Body.TheVariants as body
use Rattle.ap_term.specs.Printed.{quoted, symbol_text, character_text, is_nil, dotted_rest, atom_written, written_step, written, value_text, rest_text}
use Rattle.ap_value.specs.Fits.{fit_step, all_fit}
use Rattle.ap_round_trip.specs.ReadBack.{nested_step, nested, nesting}
use Rattle.ap_round_trip.proofs.Meant.{value_of, int_value, chr_value, str_value, sym_value}
use Rattle.ap_value.proofs.Induction.{value_ind, fold_int, fold_chr, fold_str, fold_sym, fold_cons}
use Rattle.ap_round_trip.proofs.Tokens.{Ends, space, close, IsLeaf}
use Rattle.ap_round_trip.proofs.Strings.{string_leaf}
use Rattle.ap_round_trip.proofs.Characters.{character_leaf}
use Rattle.ap_round_trip.proofs.Integers.{integer_leaf}
use Rattle.ap_round_trip.proofs.Symbols.{symbol_leaf}
use Rattle.ap_round_trip.proofs.Stands.{Stands, StandsRest, leaf_stands, space_stands, close_rest, dot_rest, more_rest, list_stands}

-- what holds of each value: it stands where its text does, and as the rest of a list where that text does
pub record ReadBack (v : Value) : Type 0 where
  pub alone : (n p : ℕ) (u : List ℕ) → Ends u → all_fit v ≡ true → nesting v ≤ n → Stands n (at p (value_text v ++ u)) v u
  pub rest : (n p : ℕ) (u : List ℕ) → all_fit v ≡ true → (nested v).rest ≤ n → StandsRest n (at p (rest_text v ++ u)) v u
  pub ends : (u : List ℕ) → Ends (rest_text v ++ u)

dot_text : (w u : List ℕ) → dotted_rest w ++ u ≡ 32 ∷ 46 ∷ 32 ∷ (w ++ 41 ∷ u)
unfolding dotted_rest
dot_text w u = ap (λ x. 32 ∷ 46 ∷ 32 ∷ x) (append_assoc w (41 ∷ []) u)

-- a value of one token
atom_back : (v : Value) (w : List ℕ) (b : Body) → written v ≡ atom_written w → (all_fit v ≡ true → IsLeaf w b) → value_of b ≡ Some v → ReadBack v
atom_back v w b e leaf is = record {
  alone = λ n p u ends fit deep. subst (λ t. Stands n (at p (t ++ u)) v u) (sym (ap (λ x. x.alone) e)) (leaf_stands n p w u b v (leaf fit) is ends);
  rest = λ n p u fit deep. subst (λ t. StandsRest n (at p (t ++ u)) v u) (sym (ap (λ x. x.rest) e))
      (subst (λ t. StandsRest n (at p t) v u) (sym (dot_text w u)) (dot_rest n p (w ++ 41 ∷ u) v u (leaf_stands n (p + 1 + 1 + 1) w (41 ∷ u) b v (leaf fit) is (close u))));
  ends = λ u. subst (λ t. Ends (t ++ u)) (sym (ap (λ x. x.rest) e)) (subst Ends (sym (dot_text w u)) (space (46 ∷ 32 ∷ (w ++ 41 ∷ u))));
}

int_back : (n : ℤ) → ReadBack (Int n)
int_back n = atom_back (Int n) (signed_decimal n) (body.Int n) (fold_int written_step n) (λ h. integer_leaf n (sym (fold_int fit_step n) ∙ h)) (int_value n)

chr_back : (c : ℕ) → ReadBack (Chr c)
chr_back c = atom_back (Chr c) (character_text c) (body.Chr c) (fold_chr written_step c) (λ h. character_leaf c) (chr_value c)

str_back : (s : List ℕ) → ReadBack (Str s)
str_back s = atom_back (Str s) (quoted 34 s) (body.Str s) (fold_str written_step s) (λ h. string_leaf s) (str_value s)

-- `nil` closes a list
nil_back : (s : Symbol) → is_nil s ≡ true → written (Sym s) ≡ record { alone = symbol_text s; rest = codes ")" } → ReadBack (Sym s)
unfolding is_nil
nil_back s same e = record {
  alone = λ n p u ends fit deep. subst (λ t. Stands n (at p (t ++ u)) (Sym s) u) (sym (ap (λ x. x.alone) e)) (leaf_stands n p (symbol_text s) u (body.Sym s) (Sym s) (symbol_leaf s) (sym_value s) ends);
  rest = λ n p u fit deep. subst (λ t. StandsRest n (at p (t ++ u)) (Sym s) u) (sym (ap (λ x. x.rest) e))
      (subst (λ v. StandsRest n (at p (41 ∷ u)) v u) (ap Sym (sym (symbol_eq-true s (acl2 (codes "NIL")) same))) (close_rest n p u));
  ends = λ u. subst (λ t. Ends (t ++ u)) (sym (ap (λ x. x.rest) e)) (close u);
}

sym_back : (s : Symbol) → ReadBack (Sym s)
sym_back s = by_test (is_nil s) refl (fold_sym written_step s)
  where
    by_test : (b : Bool) → is_nil s ≡ b → written (Sym s) ≡ record { alone = symbol_text s; rest = if is_nil s then codes ")" else dotted_rest (symbol_text s) } → ReadBack (Sym s)
    by_test true q e = nil_back s q (e ∙ ap (λ b. record { alone = symbol_text s; rest = if b then codes ")" else dotted_rest (symbol_text s) }) q)
    by_test false q e =
        atom_back (Sym s) (symbol_text s) (body.Sym s) (e ∙ ap (λ b. record { alone = symbol_text s; rest = if b then codes ")" else dotted_rest (symbol_text s) }) q) (λ h. symbol_leaf s) (sym_value s)

-- a cons: its first part, and its second as the rest of the list
module _ (a b : Value) (f : ReadBack a) (g : ReadBack b) where
  cons_fit : all_fit (Cons a b) ≡ true → (all_fit a ≡ true) × (all_fit b ≡ true)
  cons_fit h = and_both (all_fit a) (all_fit b) (sym (fold_cons fit_step a b) ∙ h)

  first_part : (n p : ℕ) (u : List ℕ) → all_fit a ≡ true → nesting a ≤ n → Stands n (at p ((value_text a ++ rest_text b) ++ u)) a (rest_text b ++ u)
  first_part n p u fit deep =
      subst (λ t. Stands n (at p t) a (rest_text b ++ u)) (sym (append_assoc (value_text a) (rest_text b) u)) (f.alone n p (rest_text b ++ u) (g.ends u) fit deep)

  cons_alone : (n p : ℕ) (u : List ℕ) → all_fit (Cons a b) ≡ true → 1 + max (nesting a) (nested b).rest ≤ n → Stands n (at p (40 ∷ ((value_text a ++ rest_text b) ++ u))) (Cons a b) u
  cons_alone zero p u fit deep = absurd (omega arith)
  cons_alone (suc n) p u fit deep =
      let h = cons_fit fit in
      list_stands n p ((value_text a ++ rest_text b) ++ u) a b (rest_text b ++ u) u (first_part n (p + 1) u h.0 (omega arith)) (λ q. g.rest n q u h.1 (omega arith))

  cons_rest : (n p : ℕ) (u : List ℕ) → all_fit (Cons a b) ≡ true → max (nesting a) (nested b).rest ≤ n → StandsRest n (at p (32 ∷ ((value_text a ++ rest_text b) ++ u))) (Cons a b) u
  cons_rest n p u fit deep =
      let h = cons_fit fit in
      more_rest n (at p (32 ∷ ((value_text a ++ rest_text b) ++ u))) a b (rest_text b ++ u) u
      (space_stands n p ((value_text a ++ rest_text b) ++ u) a (rest_text b ++ u) (first_part n (p + 1) u h.0 (omega arith))) (λ q. g.rest n q u h.1 (omega arith))

  cons_back : ReadBack (Cons a b)
  cons_back =
      let e : written (Cons a b) ≡ record { alone = 40 ∷ (value_text a ++ rest_text b); rest = 32 ∷ (value_text a ++ rest_text b) } = fold_cons written_step a b in
      let d : nested (Cons a b) ≡ record { alone = 1 + max (nesting a) (nested b).rest; rest = max (nesting a) (nested b).rest } = fold_cons nested_step a b in
      record {
        alone = λ n p u ends fit deep.
            subst (λ t. Stands n (at p (t ++ u)) (Cons a b) u) (sym (ap (λ x. x.alone) e)) (cons_alone n p u fit (subst (λ k. k ≤ n) (ap (λ x. x.alone) d) deep));
        rest = λ n p u fit deep. subst (λ t. StandsRest n (at p (t ++ u)) (Cons a b) u) (sym (ap (λ x. x.rest) e)) (cons_rest n p u fit (subst (λ k. k ≤ n) (ap (λ x. x.rest) d) deep));
        ends = λ u. subst (λ t. Ends (t ++ u)) (sym (ap (λ x. x.rest) e)) (space ((value_text a ++ rest_text b) ++ u));
      }

pub read_back : (v : Value) → ReadBack v
read_back = value_ind ReadBack int_back chr_back str_back sym_back cons_back
