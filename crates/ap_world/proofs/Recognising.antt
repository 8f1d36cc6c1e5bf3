-- What recognisers and `not` give: whether the type is among those that they are true of.
use Rattle.std.proofs.Common.{◌≡◌, ℕ, zero, suc, ◌+◌, Bool, true, false, cond, nat_eq, [], ◌∷◌, zip, length, Option, Some, None, pos, negsuc, int_lt, refl, sym, ap, ◌∙◌, subst, arith}
use Rattle.std.specs.Int.{bit_at}
use Rattle.std.proofs.lemmas.Int.{ints}
use Rattle.ap_value.specs.declared.symbol.Symbol.{Symbol}
use Rattle.ap_value.specs.Values.{V, int, chr, str, sym as symbol, cons, symbol_eq, value_eq}
use Rattle.ap_value.proofs.Equals.{symbol_eq-true, value_eq-same}
use Rattle.ap_term.specs.declared.term.Term.{Term, Call}
use Rattle.ap_world.specs.declared.entry.Function.{Function}
use Rattle.ap_world.specs.Names.{not_name, consp_name, integerp_name, symbolp_name, stringp_name, characterp_name, true_listp_name, x_name}
use Rattle.ap_world.specs.Primitives.{nil, t, truth, is_cons, is_integer, is_symbol, is_string, is_character, int_of, prim_of}
use Rattle.ap_world.specs.Meaning.{Env, Defs}
use Rattle.ap_world.specs.Types.{is_true_list, zero_bit, positive_bit, negative_bit, nil_bit, t_bit, symbol_bit, proper_bit, improper_bit, string_bit, character_bit}
use Rattle.ap_world.specs.Sound.{DefinedAlike, known, not_function, is_head, takes}
use Rattle.ap_world.specs.Ground.{true_listp_function}
use Rattle.ap_world.specs.Rows.{recognisers, recognised, tested}
use Rattle.ap_world.proofs.Knowing.{known_head}
use Rattle.ap_world.proofs.TotalMeaning.{Apply, Models, val, apply_is}
use Rattle.ap_world.proofs.Equations.{names_open, vals, t-not_nil, val_defined, val_consp, val_integerp, val_symbolp, val_stringp, val_characterp}
use Rattle.ap_world.proofs.Starting.{val_not}
use Rattle.ap_world.proofs.Sets.{recognises, nil_recognised}

conses_recognised : (x : V) → is_cons x ≡ recognises (proper_bit + improper_bit) x
conses_recognised (int (pos zero)) = refl
conses_recognised (int (pos (suc n))) = refl
conses_recognised (int (negsuc n)) = refl
conses_recognised (chr c) = refl
conses_recognised (str s) = refl
conses_recognised (cons a b) = go (is_true_list b)
  where
    go : (c : Bool) → true ≡ nat_eq (bit_at (proper_bit + improper_bit) (cond c 6 7)) 1
    go true = refl
    go false = refl
conses_recognised (symbol k s) = go (value_eq (symbol k s) nil) (value_eq (symbol k s) t)
  where
    go : (b c : Bool) → false ≡ nat_eq (bit_at (proper_bit + improper_bit) (cond b 3 (cond c 4 5))) 1
    go true c = refl
    go false true = refl
    go false false = refl

integers_recognised : (x : V) → is_integer x ≡ recognises (zero_bit + positive_bit + negative_bit) x
integers_recognised (int (pos zero)) = refl
integers_recognised (int (pos (suc n))) = refl
integers_recognised (int (negsuc n)) = refl
integers_recognised (chr c) = refl
integers_recognised (str s) = refl
integers_recognised (cons a b) = go (is_true_list b)
  where
    go : (c : Bool) → false ≡ nat_eq (bit_at (zero_bit + positive_bit + negative_bit) (cond c 6 7)) 1
    go true = refl
    go false = refl
integers_recognised (symbol k s) = go (value_eq (symbol k s) nil) (value_eq (symbol k s) t)
  where
    go : (b c : Bool) → false ≡ nat_eq (bit_at (zero_bit + positive_bit + negative_bit) (cond b 3 (cond c 4 5))) 1
    go true c = refl
    go false true = refl
    go false false = refl

symbols_recognised : (x : V) → is_symbol x ≡ recognises (nil_bit + t_bit + symbol_bit) x
symbols_recognised (int (pos zero)) = refl
symbols_recognised (int (pos (suc n))) = refl
symbols_recognised (int (negsuc n)) = refl
symbols_recognised (chr c) = refl
symbols_recognised (str s) = refl
symbols_recognised (cons a b) = go (is_true_list b)
  where
    go : (c : Bool) → false ≡ nat_eq (bit_at (nil_bit + t_bit + symbol_bit) (cond c 6 7)) 1
    go true = refl
    go false = refl
symbols_recognised (symbol k s) = go (value_eq (symbol k s) nil) (value_eq (symbol k s) t)
  where
    go : (b c : Bool) → true ≡ nat_eq (bit_at (nil_bit + t_bit + symbol_bit) (cond b 3 (cond c 4 5))) 1
    go true c = refl
    go false true = refl
    go false false = refl

strings_recognised : (x : V) → is_string x ≡ recognises string_bit x
strings_recognised (int (pos zero)) = refl
strings_recognised (int (pos (suc n))) = refl
strings_recognised (int (negsuc n)) = refl
strings_recognised (chr c) = refl
strings_recognised (str s) = refl
strings_recognised (cons a b) = go (is_true_list b)
  where
    go : (c : Bool) → false ≡ nat_eq (bit_at string_bit (cond c 6 7)) 1
    go true = refl
    go false = refl
strings_recognised (symbol k s) = go (value_eq (symbol k s) nil) (value_eq (symbol k s) t)
  where
    go : (b c : Bool) → false ≡ nat_eq (bit_at string_bit (cond b 3 (cond c 4 5))) 1
    go true c = refl
    go false true = refl
    go false false = refl

characters_recognised : (x : V) → is_character x ≡ recognises character_bit x
characters_recognised (int (pos zero)) = refl
characters_recognised (int (pos (suc n))) = refl
characters_recognised (int (negsuc n)) = refl
characters_recognised (chr c) = refl
characters_recognised (str s) = refl
characters_recognised (cons a b) = go (is_true_list b)
  where
    go : (c : Bool) → false ≡ nat_eq (bit_at character_bit (cond c 6 7)) 1
    go true = refl
    go false = refl
characters_recognised (symbol k s) = go (value_eq (symbol k s) nil) (value_eq (symbol k s) t)
  where
    go : (b c : Bool) → false ≡ nat_eq (bit_at character_bit (cond b 3 (cond c 4 5))) 1
    go true c = refl
    go false true = refl
    go false false = refl

lists_recognised : (x : V) → is_true_list x ≡ recognises (nil_bit + proper_bit) x
unfolding value_eq nil names_open
lists_recognised (int (pos zero)) = refl
lists_recognised (int (pos (suc n))) = refl
lists_recognised (int (negsuc n)) = refl
lists_recognised (chr c) = refl
lists_recognised (str s) = refl
lists_recognised (cons a b) = go (is_true_list b)
  where
    go : (c : Bool) → c ≡ nat_eq (bit_at (nil_bit + proper_bit) (cond c 6 7)) 1
    go true = refl
    go false = refl
lists_recognised (symbol k s) = go (value_eq (symbol k s) nil) (value_eq (symbol k s) t)
  where
    go : (b c : Bool) → b ≡ nat_eq (bit_at (nil_bit + proper_bit) (cond b 3 (cond c 4 5))) 1
    go true c = refl
    go false true = refl
    go false false = refl

-- the signs of the integers
pub negatives_recognised : (x : V) → recognises negative_bit x ≡ int_lt (int_of x) (pos 0)
negatives_recognised (int (pos n)) = go n
  where
    none : (n : ℕ) → int_lt (pos n) (pos 0) ≡ false
    none n = no (int_lt (pos n) (pos 0)) refl
      where
        no : (b : Bool) → int_lt (pos n) (pos 0) ≡ b → b ≡ false
        no true h = absurd (omega (arith, ints, h))
        no false h = refl

    go : (n : ℕ) → recognises negative_bit (int (pos n)) ≡ int_lt (pos n) (pos 0)
    go zero = refl
    go (suc n) = sym (none (suc n))
negatives_recognised (int (negsuc n)) = refl
negatives_recognised (chr c) = refl
negatives_recognised (str s) = refl
negatives_recognised (cons a b) = go (is_true_list b)
  where
    go : (c : Bool) → nat_eq (bit_at negative_bit (cond c 6 7)) 1 ≡ false
    go true = refl
    go false = refl
negatives_recognised (symbol k s) = go (value_eq (symbol k s) nil) (value_eq (symbol k s) t)
  where
    go : (b c : Bool) → nat_eq (bit_at negative_bit (cond b 3 (cond c 4 5))) 1 ≡ false
    go true c = refl
    go false true = refl
    go false false = refl

pub positives_recognised : (x : V) → recognises positive_bit x ≡ int_lt (pos 0) (int_of x)
positives_recognised (int (pos zero)) = refl
positives_recognised (int (pos (suc n))) = sym (so (int_lt (pos 0) (pos (suc n))) refl)
  where
    so : (b : Bool) → int_lt (pos 0) (pos (suc n)) ≡ b → b ≡ true
    so true h = refl
    so false h = absurd (omega (arith, ints, h))
positives_recognised (int (negsuc n)) = refl
positives_recognised (chr c) = refl
positives_recognised (str s) = refl
positives_recognised (cons a b) = go (is_true_list b)
  where
    go : (c : Bool) → nat_eq (bit_at positive_bit (cond c 6 7)) 1 ≡ false
    go true = refl
    go false = refl
positives_recognised (symbol k s) = go (value_eq (symbol k s) nil) (value_eq (symbol k s) t)
  where
    go : (b c : Bool) → nat_eq (bit_at positive_bit (cond b 3 (cond c 4 5))) 1 ≡ false
    go true c = refl
    go false true = refl
    go false false = refl

-- `true-listp` is defined as it is in the ground world, where it is defined
abbrev pub TrueLists : Defs → Type 0
TrueLists D = (g : Function) → D true_listp_name ≡ Some g → DefinedAlike g true_listp_function

prim_of_true_listp : prim_of true_listp_name ≡ None
unfolding names_open
prim_of_true_listp = refl

nil-is_nil : value_eq nil nil ≡ true
nil-is_nil = value_eq-same nil

module _ (D : Defs) (A : Apply) (m : Models D A) where
  val_true_listp : (a : Term) (e : Env) → val A (Call true_listp_name (a ∷ [])) e ≡ A true_listp_name (val A a e ∷ [])
  val_true_listp a e = val_defined A true_listp_name (a ∷ []) e prim_of_true_listp

  opened : (g : Function) → D true_listp_name ≡ Some g → DefinedAlike g true_listp_function → (v : V)
      → A true_listp_name (v ∷ []) ≡ val A true_listp_function.body (zip true_listp_function.formals (v ∷ []))
  unfolding true_listp_function
  opened g here alike v = apply_is D A m true_listp_name g (v ∷ []) here (ap length alike.formals) ∙ (rw (alike.body, alike.formals) refl)

  true_listp_val : (g : Function) → D true_listp_name ≡ Some g → DefinedAlike g true_listp_function → (v : V) → A true_listp_name (v ∷ []) ≡ truth (is_true_list v)
  unfolding true_listp_function x_name
  true_listp_val g here alike (cons a b) = opened g here alike (cons a b) ∙ simp (vals, val_true_listp, t-not_nil, true_listp_val g here alike b)
  true_listp_val g here alike v = opened g here alike v ∙ simp (vals, nil-is_nil)

  -- a known name is defined
  defined_here : (o : Option Function) (n : ℕ) → takes o n ≡ true → (g : Function) × (o ≡ Some g)
  defined_here (Some g) n h = (g, refl)
  defined_here None n h = cc

  true_listp_here : (a : Term) → known D (Call true_listp_name (a ∷ [])) ≡ true → (g : Function) × (D true_listp_name ≡ Some g)
  true_listp_here a k =
      let h : is_head D true_listp_name (prim_of true_listp_name) 1 ≡ true = known_head D true_listp_name (a ∷ []) k in
      defined_here (D true_listp_name) 1 (subst (λ o. is_head D true_listp_name o 1 ≡ true) prim_of_true_listp h)

  -- what a call of a name that tests types gives
  pub tests : D not_name ≡ Some not_function → TrueLists D → (f : Symbol) (r : ℕ) → tested f ≡ Some r → (a : Term) (e : Env) → known D (Call f (a ∷ [])) ≡ true
      → val A (Call f (a ∷ [])) e ≡ truth (recognises r (val A a e))
  unfolding recognised recognisers
  tests ground lists f r h a e k = go (symbol_eq f not_name) refl (symbol_eq f consp_name) refl (symbol_eq f integerp_name) refl (symbol_eq f symbolp_name) refl (symbol_eq f stringp_name) refl (symbol_eq f characterp_name) refl (symbol_eq f true_listp_name) refl h
    where
      Goal : Symbol → ℕ → Type 0
      Goal g q = known D (Call g (a ∷ [])) ≡ true → val A (Call g (a ∷ [])) e ≡ truth (recognises q (val A a e))

      at : (g : Symbol) (q : ℕ) → Goal g q → symbol_eq f g ≡ true → Some q ≡ Some r → val A (Call f (a ∷ [])) e ≡ truth (recognises r (val A a e))
      at g q goal p s =
          let same : q ≡ r = cc in
          subst (λ z. val A (Call z (a ∷ [])) e ≡ truth (recognises r (val A a e))) (sym (symbol_eq-true f g p))
          (subst (λ z. val A (Call g (a ∷ [])) e ≡ truth (recognises z (val A a e))) same (goal (subst (λ z. known D (Call z (a ∷ [])) ≡ true) (symbol_eq-true f g p) k)))

      listed : Goal true_listp_name (nil_bit + proper_bit)
      listed k =
          let (g, here) = true_listp_here a k in
          val_true_listp a e ∙ true_listp_val g here (lists g here) (val A a e) ∙ ap truth (lists_recognised (val A a e))

      go : (n : Bool) → symbol_eq f not_name ≡ n → (c : Bool) → symbol_eq f consp_name ≡ c → (i : Bool) → symbol_eq f integerp_name ≡ i → (s : Bool) → symbol_eq f symbolp_name ≡ s
          → (x : Bool) → symbol_eq f stringp_name ≡ x → (y : Bool) → symbol_eq f characterp_name ≡ y → (z : Bool) → symbol_eq f true_listp_name ≡ z
          → cond n (Some nil_bit) (cond c (Some (proper_bit + improper_bit)) (cond i (Some (zero_bit + positive_bit + negative_bit)) (cond s (Some (nil_bit + t_bit + symbol_bit)) (cond x (Some string_bit) (cond y (Some character_bit) (cond z (Some (nil_bit + proper_bit)) None)))))) ≡ Some r
          → val A (Call f (a ∷ [])) e ≡ truth (recognises r (val A a e))
      go true p c pc i pi s ps x px y py z pz q = at not_name nil_bit (λ k. val_not D A m ground a e ∙ ap truth (sym (nil_recognised (val A a e)))) p q
      go false p true pc i pi s ps x px y py z pz q = at consp_name (proper_bit + improper_bit) (λ k. val_consp A a e ∙ ap truth (conses_recognised (val A a e))) pc q
      go false p false pc true pi s ps x px y py z pz q = at integerp_name (zero_bit + positive_bit + negative_bit) (λ k. val_integerp A a e ∙ ap truth (integers_recognised (val A a e))) pi q
      go false p false pc false pi true ps x px y py z pz q = at symbolp_name (nil_bit + t_bit + symbol_bit) (λ k. val_symbolp A a e ∙ ap truth (symbols_recognised (val A a e))) ps q
      go false p false pc false pi false ps true px y py z pz q = at stringp_name string_bit (λ k. val_stringp A a e ∙ ap truth (strings_recognised (val A a e))) px q
      go false p false pc false pi false ps false px true py z pz q = at characterp_name character_bit (λ k. val_characterp A a e ∙ ap truth (characters_recognised (val A a e))) py q
      go false p false pc false pi false ps false px false py true pz q = at true_listp_name (nil_bit + proper_bit) listed pz q
      go false p false pc false pi false ps false px false py false pz q = cc

no : recognised not_name ≡ None
unfolding recognised recognisers names_open
no = refl

-- a recogniser's name isn't `not`
pub recognised_tested : (f : Symbol) (r : ℕ) → recognised f ≡ Some r → tested f ≡ Some r
recognised_tested f r h = go (symbol_eq f not_name) refl
  where
    go : (b : Bool) → symbol_eq f not_name ≡ b → cond b (Some nil_bit) (recognised f) ≡ Some r
    go true p = let e : recognised f ≡ None = ap recognised (symbol_eq-true f not_name p) ∙ no in cc
    go false p = h
