-- What a call of each primitive means, and that it is known: one equation a name. The rulesets compute
-- written terms: `heads` which primitive a name is, `vals` what a term means, `knowing` that it is known.
use Rattle.std.proofs.Common.{◌≡◌, ℕ, Bool, true, false, cond, ◌+ℤ◌, ◌*ℤ◌, neg_ℤ, int_lt, List, [], ◌∷◌, map, Some, None, ◌≢◌, ℤ, true≢false, refl, ap, sym, ◌∙◌}
use Rattle.ap_value.specs.declared.symbol.Symbol.{Symbol}
use Rattle.ap_value.specs.declared.value.Value.{Value, fold-roll-Value}
use Rattle.ap_value.specs.declared.value.Value.TheOpen.{Value-F}
use Rattle.ap_value.specs.declared.value.Value.TheVariants.{Int, Chr, Str, Sym, Cons as Pair, rolls-Int, rolls-Chr, rolls-Str, rolls-Sym, rolls-Cons}
use Rattle.ap_value.specs.Values.{V, int, chr, str, cons, byte_of, val_step, val_of, value_eq}
use Rattle.ap_value.proofs.Equals.{value_eq-true, value_eq-same}
use Rattle.ap_term.specs.declared.term.Term.{Term, Call}
use Rattle.ap_world.specs.Names.{nil_name, t_name, list_name, if_name, equal_name, consp_name, integerp_name, symbolp_name, stringp_name, characterp_name, cons_name, car_name, cdr_name, plus_name, times_name, minus_name, less_name, char_code_name, code_char_name, symbol_name_name, coerce_name, not_name, implies_name, natp_name, acl2_count_name, iff_name, atom_name, endp_name, null_name, eq_name, eql_name, numeric_equal_name, acl2_numberp_name, rationalp_name, booleanp_name, fix_name, ifix_name, posp_name, nfix_name, zp_name, zip_name, zerop_name, plusp_name, minusp_name, max_name, min_name, abs_name, integer_abs_name, true_listp_name, len_name, length_name, append_name, member_equal_name, make_character_list_name, p_name, q_name, a_name, x_name, y_name, z_name, string_name}
use Rattle.ap_world.specs.Primitives.{symbol_value, nil, t, truth, Prim, If, Equal, Consp, Integerp, Symbolp, Stringp, Characterp, Cons, Car, Cdr, Plus, Times, Minus, Less, CharCode, CodeChar, SymbolName, Coerce, primitives, prim_of, is_cons, is_integer, is_symbol, is_string, is_character, car_of, cdr_of, int_of, char_code_of, code_char_of, symbol_name_of, coerce_of}
use Rattle.ap_world.specs.Meaning.{Env}
use Rattle.ap_world.specs.Recursion.{nil_constant, t_constant}
use Rattle.ap_world.proofs.Knowing.{known_var, known_quote, known_call}
use Rattle.ap_world.proofs.TotalMeaning.{Apply, head_val, val, values_of, val_var, val_quote, val_call}

-- a proof that computes with names lists this one on its `unfolding` line
unfoldable pub names_open : ℕ
unfolding prim_of primitives nil_name t_name list_name if_name equal_name consp_name integerp_name symbolp_name stringp_name characterp_name cons_name car_name cdr_name plus_name times_name minus_name less_name char_code_name code_char_name symbol_name_name coerce_name not_name implies_name natp_name acl2_count_name iff_name atom_name endp_name null_name eq_name eql_name numeric_equal_name acl2_numberp_name rationalp_name booleanp_name fix_name ifix_name posp_name nfix_name zp_name zip_name zerop_name plusp_name minusp_name max_name min_name abs_name integer_abs_name true_listp_name len_name length_name append_name member_equal_name make_character_list_name p_name q_name a_name x_name y_name z_name string_name
names_open = 0

pub prim_of_if : prim_of if_name ≡ Some If
unfolding names_open
prim_of_if = refl

pub prim_of_equal : prim_of equal_name ≡ Some Equal
unfolding names_open
prim_of_equal = refl

pub prim_of_consp : prim_of consp_name ≡ Some Consp
unfolding names_open
prim_of_consp = refl

pub prim_of_integerp : prim_of integerp_name ≡ Some Integerp
unfolding names_open
prim_of_integerp = refl

pub prim_of_symbolp : prim_of symbolp_name ≡ Some Symbolp
unfolding names_open
prim_of_symbolp = refl

pub prim_of_stringp : prim_of stringp_name ≡ Some Stringp
unfolding names_open
prim_of_stringp = refl

pub prim_of_characterp : prim_of characterp_name ≡ Some Characterp
unfolding names_open
prim_of_characterp = refl

pub prim_of_cons : prim_of cons_name ≡ Some Cons
unfolding names_open
prim_of_cons = refl

pub prim_of_car : prim_of car_name ≡ Some Car
unfolding names_open
prim_of_car = refl

pub prim_of_cdr : prim_of cdr_name ≡ Some Cdr
unfolding names_open
prim_of_cdr = refl

pub prim_of_plus : prim_of plus_name ≡ Some Plus
unfolding names_open
prim_of_plus = refl

pub prim_of_times : prim_of times_name ≡ Some Times
unfolding names_open
prim_of_times = refl

pub prim_of_minus : prim_of minus_name ≡ Some Minus
unfolding names_open
prim_of_minus = refl

pub prim_of_less : prim_of less_name ≡ Some Less
unfolding names_open
prim_of_less = refl

pub prim_of_char_code : prim_of char_code_name ≡ Some CharCode
unfolding names_open
prim_of_char_code = refl

pub prim_of_code_char : prim_of code_char_name ≡ Some CodeChar
unfolding names_open
prim_of_code_char = refl

pub prim_of_symbol_name : prim_of symbol_name_name ≡ Some SymbolName
unfolding names_open
prim_of_symbol_name = refl

pub prim_of_coerce : prim_of coerce_name ≡ Some Coerce
unfolding names_open
prim_of_coerce = refl

pub prim_of_not : prim_of not_name ≡ None
unfolding names_open
prim_of_not = refl

pub prim_of_implies : prim_of implies_name ≡ None
unfolding names_open
prim_of_implies = refl

pub prim_of_natp : prim_of natp_name ≡ None
unfolding names_open
prim_of_natp = refl

pub prim_of_acl2_count : prim_of acl2_count_name ≡ None
unfolding names_open
prim_of_acl2_count = refl

-- which primitive each name is
pub ruleset heads = (prim_of_if, prim_of_equal, prim_of_consp, prim_of_integerp, prim_of_symbolp, prim_of_stringp, prim_of_characterp, prim_of_cons, prim_of_car, prim_of_cdr, prim_of_plus, prim_of_times, prim_of_minus, prim_of_less, prim_of_char_code, prim_of_code_char, prim_of_symbol_name, prim_of_coerce, prim_of_not, prim_of_implies, prim_of_natp, prim_of_acl2_count)

-- a call whose head is a primitive, and one whose head is none
pub val_prim : (A : Apply) (f : Symbol) (p : Prim) (ts : List Term) (e : Env) → prim_of f ≡ Some p → val A (Call f ts) e ≡ head_val A f (Some p) (values_of A ts e)
val_prim A f p ts e h = val_call A f ts e ∙ ap (λ o. head_val A f o (values_of A ts e)) h

pub val_defined : (A : Apply) (f : Symbol) (ts : List Term) (e : Env) → prim_of f ≡ None → val A (Call f ts) e ≡ A f (values_of A ts e)
val_defined A f ts e h = val_call A f ts e ∙ ap (λ o. head_val A f o (values_of A ts e)) h

pub val_if : (A : Apply) (a b c : Term) (e : Env) → val A (Call if_name (a ∷ b ∷ c ∷ [])) e ≡ cond (value_eq (val A a e) nil) (val A c e) (val A b e)
val_if A a b c e = val_prim A if_name If (a ∷ b ∷ c ∷ []) e prim_of_if

pub val_equal : (A : Apply) (a b : Term) (e : Env) → val A (Call equal_name (a ∷ b ∷ [])) e ≡ truth (value_eq (val A a e) (val A b e))
val_equal A a b e = val_prim A equal_name Equal (a ∷ b ∷ []) e prim_of_equal

pub val_consp : (A : Apply) (a : Term) (e : Env) → val A (Call consp_name (a ∷ [])) e ≡ truth (is_cons (val A a e))
val_consp A a e = val_prim A consp_name Consp (a ∷ []) e prim_of_consp

pub val_integerp : (A : Apply) (a : Term) (e : Env) → val A (Call integerp_name (a ∷ [])) e ≡ truth (is_integer (val A a e))
val_integerp A a e = val_prim A integerp_name Integerp (a ∷ []) e prim_of_integerp

pub val_symbolp : (A : Apply) (a : Term) (e : Env) → val A (Call symbolp_name (a ∷ [])) e ≡ truth (is_symbol (val A a e))
val_symbolp A a e = val_prim A symbolp_name Symbolp (a ∷ []) e prim_of_symbolp

pub val_stringp : (A : Apply) (a : Term) (e : Env) → val A (Call stringp_name (a ∷ [])) e ≡ truth (is_string (val A a e))
val_stringp A a e = val_prim A stringp_name Stringp (a ∷ []) e prim_of_stringp

pub val_characterp : (A : Apply) (a : Term) (e : Env) → val A (Call characterp_name (a ∷ [])) e ≡ truth (is_character (val A a e))
val_characterp A a e = val_prim A characterp_name Characterp (a ∷ []) e prim_of_characterp

pub val_cons : (A : Apply) (a b : Term) (e : Env) → val A (Call cons_name (a ∷ b ∷ [])) e ≡ cons (val A a e) (val A b e)
val_cons A a b e = val_prim A cons_name Cons (a ∷ b ∷ []) e prim_of_cons

pub val_car : (A : Apply) (a : Term) (e : Env) → val A (Call car_name (a ∷ [])) e ≡ car_of (val A a e)
val_car A a e = val_prim A car_name Car (a ∷ []) e prim_of_car

pub val_cdr : (A : Apply) (a : Term) (e : Env) → val A (Call cdr_name (a ∷ [])) e ≡ cdr_of (val A a e)
val_cdr A a e = val_prim A cdr_name Cdr (a ∷ []) e prim_of_cdr

pub val_plus : (A : Apply) (a b : Term) (e : Env) → val A (Call plus_name (a ∷ b ∷ [])) e ≡ int (int_of (val A a e) +ℤ int_of (val A b e))
val_plus A a b e = val_prim A plus_name Plus (a ∷ b ∷ []) e prim_of_plus

pub val_times : (A : Apply) (a b : Term) (e : Env) → val A (Call times_name (a ∷ b ∷ [])) e ≡ int (int_of (val A a e) *ℤ int_of (val A b e))
val_times A a b e = val_prim A times_name Times (a ∷ b ∷ []) e prim_of_times

pub val_minus : (A : Apply) (a : Term) (e : Env) → val A (Call minus_name (a ∷ [])) e ≡ int (neg_ℤ (int_of (val A a e)))
val_minus A a e = val_prim A minus_name Minus (a ∷ []) e prim_of_minus

pub val_less : (A : Apply) (a b : Term) (e : Env) → val A (Call less_name (a ∷ b ∷ [])) e ≡ truth (int_lt (int_of (val A a e)) (int_of (val A b e)))
val_less A a b e = val_prim A less_name Less (a ∷ b ∷ []) e prim_of_less

pub val_char_code : (A : Apply) (a : Term) (e : Env) → val A (Call char_code_name (a ∷ [])) e ≡ char_code_of (val A a e)
val_char_code A a e = val_prim A char_code_name CharCode (a ∷ []) e prim_of_char_code

pub val_code_char : (A : Apply) (a : Term) (e : Env) → val A (Call code_char_name (a ∷ [])) e ≡ code_char_of (val A a e)
val_code_char A a e = val_prim A code_char_name CodeChar (a ∷ []) e prim_of_code_char

pub val_symbol_name : (A : Apply) (a : Term) (e : Env) → val A (Call symbol_name_name (a ∷ [])) e ≡ symbol_name_of (val A a e)
val_symbol_name A a e = val_prim A symbol_name_name SymbolName (a ∷ []) e prim_of_symbol_name

pub val_coerce : (A : Apply) (a b : Term) (e : Env) → val A (Call coerce_name (a ∷ b ∷ [])) e ≡ coerce_of (val A a e) (val A b e)
val_coerce A a b e = val_prim A coerce_name Coerce (a ∷ b ∷ []) e prim_of_coerce

-- what a constant means
pub val_of_int : (n : ℤ) → val_of (Int n) ≡ int n
val_of_int n = ap val_of (sym (rolls-Int n)) ∙ fold-roll-Value V val_step (Value-F.Int n)

pub val_of_chr : (c : ℕ) → val_of (Chr c) ≡ chr (byte_of c)
val_of_chr c = ap val_of (sym (rolls-Chr c)) ∙ fold-roll-Value V val_step (Value-F.Chr c)

pub val_of_str : (s : List ℕ) → val_of (Str s) ≡ str (map byte_of s)
val_of_str s = ap val_of (sym (rolls-Str s)) ∙ fold-roll-Value V val_step (Value-F.Str s)

pub val_of_sym : (s : Symbol) → val_of (Sym s) ≡ symbol_value s
val_of_sym s = ap val_of (sym (rolls-Sym s)) ∙ fold-roll-Value V val_step (Value-F.Sym s)

pub val_of_cons : (a b : Value) → val_of (Pair a b) ≡ cons (val_of a) (val_of b)
val_of_cons a b = ap val_of (sym (rolls-Cons a b)) ∙ fold-roll-Value V val_step (Value-F.Cons a b)

pub val_of_nil : val_of (Sym nil_name) ≡ nil
unfolding nil
val_of_nil = val_of_sym nil_name

pub val_of_t : val_of (Sym t_name) ≡ t
unfolding t
val_of_t = val_of_sym t_name

-- t is another value than nil, and the test for nil tells
pub t-not_nil : value_eq t nil ≡ false
unfolding value_eq t nil names_open
t-not_nil = refl

pub t_isnt_nil : t ≢ nil
t_isnt_nil h = let p = value_eq-same nil in let q = rw h at t-not_nil in absurd (true≢false (sym p ∙ q))

pub nil-eq : (v : V) → value_eq v nil ≡ true → v ≡ nil
nil-eq v h = value_eq-true v nil h

pub not_nil-eq : (v : V) → v ≢ nil → value_eq v nil ≡ false
not_nil-eq v h = go (value_eq v nil) refl
  where
    go : (b : Bool) → value_eq v nil ≡ b → b ≡ false
    go false e = refl
    go true e = absurd (h (nil-eq v e))

pub eq-not_nil : (v : V) → value_eq v nil ≡ false → v ≢ nil
eq-not_nil v h e = absurd (true≢false (sym (value_eq-same nil) ∙ (rw e at h)))

-- the constants nil and t
pub val_nil_constant : (A : Apply) (e : Env) → val A nil_constant e ≡ nil
val_nil_constant A e = val_quote A _ e ∙ val_of_nil

pub val_t_constant : (A : Apply) (e : Env) → val A t_constant e ≡ t
val_t_constant A e = val_quote A _ e ∙ val_of_t

-- what each written term means
pub ruleset vals = (val_var, val_quote, val_of_nil, val_of_t, val_if, val_equal, val_consp, val_integerp, val_symbolp, val_stringp, val_characterp, val_cons, val_car, val_cdr, val_plus, val_times, val_minus, val_less, val_char_code, val_code_char, val_symbol_name, val_coerce)

-- that a written term is known
pub ruleset knowing = (known_var, known_quote, known_call, heads)
