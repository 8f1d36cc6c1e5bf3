-- A name's primitive stands among the primitives whose names are as long.
use Rattle.std.proofs.Common.{◌≡◌, sym, ◌∙◌, ap, refl, ℕ, ◌≤◌, ◌<◌, cond, true, false, Bool, nat_eq, length, List, [], ◌∷◌, Option, Some, None, arith, subst}
use Rattle.std.proofs.lemmas.Bool.{ne_eqb, eqb-false}
use Rattle.ap_list.specs.Lists.{Each, lookup_by}
use Rattle.ap_value.specs.declared.symbol.Symbol.{Symbol}
use Rattle.ap_value.specs.Values.{symbol_eq}
use Rattle.ap_value.proofs.Equals.{symbol_eq-true}
use Rattle.ap_world.specs.Names.{if_name, equal_name, consp_name, integerp_name, symbolp_name, stringp_name, characterp_name, cons_name, car_name, cdr_name, plus_name, times_name, minus_name, less_name, char_code_name, code_char_name, symbol_name_name, coerce_name}
use Rattle.ap_world.specs.Primitives.{Prim, primitives, prim_of}

-- those whose names have so many letters
abbrev pub of_length : ℕ → List (Symbol × Prim) → List (Symbol × Prim)
of_length n [] = []
of_length n (p ∷ ps) = cond (nat_eq (length p.0.name) n) (p ∷ of_length n ps) (of_length n ps)

-- symbols of other lengths are others
other_length : (a b : Symbol) → nat_eq (length b.name) (length a.name) ≡ false → symbol_eq a b ≡ false
other_length a b h = go (symbol_eq a b) refl
  where
    go : (x : Bool) → symbol_eq a b ≡ x → symbol_eq a b ≡ false
    go false e = e
    go true e = absurd (eqb-false (length b.name) (length a.name) h (ap (λ (s : Symbol). length s.name) (sym (symbol_eq-true a b e))))

by_length : (ps : List (Symbol × Prim)) (s : Symbol) → lookup_by symbol_eq (of_length (length s.name) ps) s ≡ lookup_by symbol_eq ps s
by_length [] s = refl
by_length (p ∷ ps) s = go (nat_eq (length p.0.name) (length s.name)) refl (by_length ps s)
  where
    go : (x : Bool) → nat_eq (length p.0.name) (length s.name) ≡ x → lookup_by symbol_eq (of_length (length s.name) ps) s ≡ lookup_by symbol_eq ps s
        → lookup_by symbol_eq (of_length (length s.name) (p ∷ ps)) s ≡ lookup_by symbol_eq (p ∷ ps) s
    go true e rest = rw e (ap (cond (symbol_eq s p.0) (Some p.1)) rest)
    go false e rest = rw (e, other_length s p.0 e) rest

-- a name's primitive is looked up among those of its length
pub at_length : (n : ℕ) (s : Symbol) → length s.name ≡ n → lookup_by symbol_eq (of_length n primitives) s ≡ prim_of s
unfolding prim_of
at_length n s e = rw (← e) (by_length primitives s)

-- none is so long where each is of another length
none_in : (n : ℕ) (ps : List (Symbol × Prim)) → Each (λ p. nat_eq (length p.0.name) n ≡ false) ps → of_length n ps ≡ []
none_in n [] h = refl
none_in n (p ∷ ps) h = rw h.0 (none_in n ps h.1)

-- there is no primitive without letters, and none of more than eleven
pub none_of : (n : ℕ) → (1 ≤ n → 11 < n) → of_length n primitives ≡ []
unfolding primitives if_name equal_name consp_name integerp_name symbolp_name stringp_name characterp_name cons_name car_name cdr_name plus_name times_name minus_name less_name char_code_name code_char_name symbol_name_name coerce_name
none_of n h = none_in n primitives (two, (five, (five, (eight, (seven, (seven, (ten, (four, (three, (three, (eight, (eight, (seven, (one, (nine, (nine, (eleven, (six, tt))))))))))))))))))
  where
    far : (k : ℕ) → 1 ≤ k → k ≤ 11 → (1 ≤ n → 11 < n) → k ≡ n → 11 < k
    far k one most h e = subst (λ m. 11 < m) (sym e) (h (subst (λ m. 1 ≤ m) e one))

    no : (k : ℕ) → 1 ≤ k → k ≤ 11 → nat_eq k n ≡ false
    no k low most = ne_eqb k n (λ e. past k most (far k low most h e))
      where
        past : (k : ℕ) → k ≤ 11 → 11 < k → ⊥
        past k most more = omega arith

    one : nat_eq 1 n ≡ false
    one = no 1 (omega arith) (omega arith)

    two : nat_eq 2 n ≡ false
    two = no 2 (omega arith) (omega arith)

    three : nat_eq 3 n ≡ false
    three = no 3 (omega arith) (omega arith)

    four : nat_eq 4 n ≡ false
    four = no 4 (omega arith) (omega arith)

    five : nat_eq 5 n ≡ false
    five = no 5 (omega arith) (omega arith)

    six : nat_eq 6 n ≡ false
    six = no 6 (omega arith) (omega arith)

    seven : nat_eq 7 n ≡ false
    seven = no 7 (omega arith) (omega arith)

    eight : nat_eq 8 n ≡ false
    eight = no 8 (omega arith) (omega arith)

    nine : nat_eq 9 n ≡ false
    nine = no 9 (omega arith) (omega arith)

    ten : nat_eq 10 n ≡ false
    ten = no 10 (omega arith) (omega arith)

    eleven : nat_eq 11 n ≡ false
    eleven = no 11 (omega arith) (omega arith)
