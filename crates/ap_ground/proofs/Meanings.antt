-- No function of the ground world is a primitive, and what a call of one means.
use Rattle.std.proofs.Common.{◌≡◌, List, [], ◌∷◌, map, Some, None, refl, ap, ◌∙◌}
use Rattle.ap_list.specs.Lists.{all_some}
use Rattle.ap_value.specs.declared.symbol.Symbol.{Symbol}
use Rattle.ap_term.specs.declared.term.Term.{Term, Call}
use Rattle.ap_world.specs.Names.{not_name, acl2_count_name, iff_name, atom_name, endp_name, null_name, eq_name, eql_name, numeric_equal_name, acl2_numberp_name, rationalp_name, booleanp_name, fix_name, ifix_name, posp_name, nfix_name, zp_name, zip_name, zerop_name, plusp_name, minusp_name, max_name, min_name, abs_name, integer_abs_name, true_listp_name, len_name, length_name, append_name, member_equal_name, make_character_list_name, if_name, equal_name, consp_name, integerp_name, stringp_name, characterp_name, cons_name, car_name, cdr_name, plus_name, minus_name, less_name, code_char_name, coerce_name}
use Rattle.ap_world.specs.Primitives.{prim, prim_of}
use Rattle.ap_world.specs.declared.primitive.Primitive.{Primitive as Prim}
use Rattle.ap_world.specs.declared.primitive.Primitive.TheVariants.{If, Equal, Consp, Integerp, Stringp, Characterp, Cons, Car, Cdr, Plus, Minus, Less, CodeChar, Coerce}
use Rattle.ap_world.specs.Meaning.{Env, Calls, applied, if_of, head_call, meaning}
use Rattle.ap_world.proofs.Fuel.{meaning_var, meaning_quote, meaning_call}
use Rattle.ap_world.proofs.Equations.{names_open, heads, prim_of_if, prim_of_equal, prim_of_consp, prim_of_integerp, prim_of_stringp, prim_of_characterp, prim_of_cons, prim_of_car, prim_of_cdr, prim_of_plus, prim_of_minus, prim_of_less, prim_of_code_char, prim_of_coerce, prim_of_not, prim_of_acl2_count}

pub prim_of_iff : prim_of iff_name ≡ None
unfolding names_open
prim_of_iff = refl

pub prim_of_atom : prim_of atom_name ≡ None
unfolding names_open
prim_of_atom = refl

pub prim_of_endp : prim_of endp_name ≡ None
unfolding names_open
prim_of_endp = refl

pub prim_of_null : prim_of null_name ≡ None
unfolding names_open
prim_of_null = refl

pub prim_of_eq : prim_of eq_name ≡ None
unfolding names_open
prim_of_eq = refl

pub prim_of_eql : prim_of eql_name ≡ None
unfolding names_open
prim_of_eql = refl

pub prim_of_numeric_equal : prim_of numeric_equal_name ≡ None
unfolding names_open
prim_of_numeric_equal = refl

pub prim_of_acl2_numberp : prim_of acl2_numberp_name ≡ None
unfolding names_open
prim_of_acl2_numberp = refl

pub prim_of_rationalp : prim_of rationalp_name ≡ None
unfolding names_open
prim_of_rationalp = refl

pub prim_of_booleanp : prim_of booleanp_name ≡ None
unfolding names_open
prim_of_booleanp = refl

pub prim_of_fix : prim_of fix_name ≡ None
unfolding names_open
prim_of_fix = refl

pub prim_of_ifix : prim_of ifix_name ≡ None
unfolding names_open
prim_of_ifix = refl

pub prim_of_posp : prim_of posp_name ≡ None
unfolding names_open
prim_of_posp = refl

pub prim_of_nfix : prim_of nfix_name ≡ None
unfolding names_open
prim_of_nfix = refl

pub prim_of_zp : prim_of zp_name ≡ None
unfolding names_open
prim_of_zp = refl

pub prim_of_zip : prim_of zip_name ≡ None
unfolding names_open
prim_of_zip = refl

pub prim_of_zerop : prim_of zerop_name ≡ None
unfolding names_open
prim_of_zerop = refl

pub prim_of_plusp : prim_of plusp_name ≡ None
unfolding names_open
prim_of_plusp = refl

pub prim_of_minusp : prim_of minusp_name ≡ None
unfolding names_open
prim_of_minusp = refl

pub prim_of_max : prim_of max_name ≡ None
unfolding names_open
prim_of_max = refl

pub prim_of_min : prim_of min_name ≡ None
unfolding names_open
prim_of_min = refl

pub prim_of_abs : prim_of abs_name ≡ None
unfolding names_open
prim_of_abs = refl

pub prim_of_integer_abs : prim_of integer_abs_name ≡ None
unfolding names_open
prim_of_integer_abs = refl

pub prim_of_true_listp : prim_of true_listp_name ≡ None
unfolding names_open
prim_of_true_listp = refl

pub prim_of_len : prim_of len_name ≡ None
unfolding names_open
prim_of_len = refl

pub prim_of_length : prim_of length_name ≡ None
unfolding names_open
prim_of_length = refl

pub prim_of_append : prim_of append_name ≡ None
unfolding names_open
prim_of_append = refl

pub prim_of_member_equal : prim_of member_equal_name ≡ None
unfolding names_open
prim_of_member_equal = refl

pub prim_of_make_character_list : prim_of make_character_list_name ≡ None
unfolding names_open
prim_of_make_character_list = refl

-- which heads are primitives, and which are none
pub ruleset ground_heads = (heads, prim_of_iff, prim_of_atom, prim_of_endp, prim_of_null, prim_of_eq, prim_of_eql, prim_of_numeric_equal, prim_of_acl2_numberp, prim_of_rationalp, prim_of_booleanp, prim_of_fix, prim_of_ifix, prim_of_posp, prim_of_nfix, prim_of_zp, prim_of_zip, prim_of_zerop, prim_of_plusp, prim_of_minusp, prim_of_max, prim_of_min, prim_of_abs, prim_of_integer_abs, prim_of_true_listp, prim_of_len, prim_of_length, prim_of_append, prim_of_member_equal, prim_of_make_character_list)

-- a call of a primitive, and of a function, by the number of arguments
meaning_prim : (c : Calls) (f : Symbol) (p : Prim) (ts : List Term) (e : Env) → prim_of f ≡ Some p → meaning c (Call f ts) e ≡ head_call c f (Some p) (map (λ m. m e) (map (meaning c) ts))
meaning_prim c f p ts e h = meaning_call c f ts e ∙ ap (λ o. head_call c f o (map (λ m. m e) (map (meaning c) ts))) h

meaning_defined : (c : Calls) (f : Symbol) (ts : List Term) (e : Env) → prim_of f ≡ None → meaning c (Call f ts) e ≡ applied (c f) (all_some (map (λ m. m e) (map (meaning c) ts)))
meaning_defined c f ts e h = meaning_call c f ts e ∙ ap (λ o. head_call c f o (map (λ m. m e) (map (meaning c) ts))) h

pub meaning_if : (c : Calls) (a b d : Term) (e : Env) → meaning c (Call if_name (a ∷ b ∷ d ∷ [])) e ≡ if_of (meaning c a e ∷ meaning c b e ∷ meaning c d e ∷ [])
meaning_if c a b d e = meaning_prim c if_name If (a ∷ b ∷ d ∷ []) e prim_of_if

pub meaning_consp : (c : Calls) (a : Term) (e : Env) → meaning c (Call consp_name (a ∷ [])) e ≡ applied (prim Consp) (all_some (meaning c a e ∷ []))
meaning_consp c a e = meaning_prim c consp_name Consp (a ∷ []) e prim_of_consp

pub meaning_integerp : (c : Calls) (a : Term) (e : Env) → meaning c (Call integerp_name (a ∷ [])) e ≡ applied (prim Integerp) (all_some (meaning c a e ∷ []))
meaning_integerp c a e = meaning_prim c integerp_name Integerp (a ∷ []) e prim_of_integerp

pub meaning_stringp : (c : Calls) (a : Term) (e : Env) → meaning c (Call stringp_name (a ∷ [])) e ≡ applied (prim Stringp) (all_some (meaning c a e ∷ []))
meaning_stringp c a e = meaning_prim c stringp_name Stringp (a ∷ []) e prim_of_stringp

pub meaning_characterp : (c : Calls) (a : Term) (e : Env) → meaning c (Call characterp_name (a ∷ [])) e ≡ applied (prim Characterp) (all_some (meaning c a e ∷ []))
meaning_characterp c a e = meaning_prim c characterp_name Characterp (a ∷ []) e prim_of_characterp

pub meaning_car : (c : Calls) (a : Term) (e : Env) → meaning c (Call car_name (a ∷ [])) e ≡ applied (prim Car) (all_some (meaning c a e ∷ []))
meaning_car c a e = meaning_prim c car_name Car (a ∷ []) e prim_of_car

pub meaning_cdr : (c : Calls) (a : Term) (e : Env) → meaning c (Call cdr_name (a ∷ [])) e ≡ applied (prim Cdr) (all_some (meaning c a e ∷ []))
meaning_cdr c a e = meaning_prim c cdr_name Cdr (a ∷ []) e prim_of_cdr

pub meaning_minus : (c : Calls) (a : Term) (e : Env) → meaning c (Call minus_name (a ∷ [])) e ≡ applied (prim Minus) (all_some (meaning c a e ∷ []))
meaning_minus c a e = meaning_prim c minus_name Minus (a ∷ []) e prim_of_minus

pub meaning_code_char : (c : Calls) (a : Term) (e : Env) → meaning c (Call code_char_name (a ∷ [])) e ≡ applied (prim CodeChar) (all_some (meaning c a e ∷ []))
meaning_code_char c a e = meaning_prim c code_char_name CodeChar (a ∷ []) e prim_of_code_char

pub meaning_equal : (c : Calls) (a b : Term) (e : Env) → meaning c (Call equal_name (a ∷ b ∷ [])) e ≡ applied (prim Equal) (all_some (meaning c a e ∷ meaning c b e ∷ []))
meaning_equal c a b e = meaning_prim c equal_name Equal (a ∷ b ∷ []) e prim_of_equal

pub meaning_cons : (c : Calls) (a b : Term) (e : Env) → meaning c (Call cons_name (a ∷ b ∷ [])) e ≡ applied (prim Cons) (all_some (meaning c a e ∷ meaning c b e ∷ []))
meaning_cons c a b e = meaning_prim c cons_name Cons (a ∷ b ∷ []) e prim_of_cons

pub meaning_plus : (c : Calls) (a b : Term) (e : Env) → meaning c (Call plus_name (a ∷ b ∷ [])) e ≡ applied (prim Plus) (all_some (meaning c a e ∷ meaning c b e ∷ []))
meaning_plus c a b e = meaning_prim c plus_name Plus (a ∷ b ∷ []) e prim_of_plus

pub meaning_less : (c : Calls) (a b : Term) (e : Env) → meaning c (Call less_name (a ∷ b ∷ [])) e ≡ applied (prim Less) (all_some (meaning c a e ∷ meaning c b e ∷ []))
meaning_less c a b e = meaning_prim c less_name Less (a ∷ b ∷ []) e prim_of_less

pub meaning_coerce : (c : Calls) (a b : Term) (e : Env) → meaning c (Call coerce_name (a ∷ b ∷ [])) e ≡ applied (prim Coerce) (all_some (meaning c a e ∷ meaning c b e ∷ []))
meaning_coerce c a b e = meaning_prim c coerce_name Coerce (a ∷ b ∷ []) e prim_of_coerce

pub meaning_not : (c : Calls) (a : Term) (e : Env) → meaning c (Call not_name (a ∷ [])) e ≡ applied (c not_name) (all_some (meaning c a e ∷ []))
meaning_not c a e = meaning_defined c not_name (a ∷ []) e prim_of_not

pub meaning_endp : (c : Calls) (a : Term) (e : Env) → meaning c (Call endp_name (a ∷ [])) e ≡ applied (c endp_name) (all_some (meaning c a e ∷ []))
meaning_endp c a e = meaning_defined c endp_name (a ∷ []) e prim_of_endp

pub meaning_integer_abs : (c : Calls) (a : Term) (e : Env) → meaning c (Call integer_abs_name (a ∷ [])) e ≡ applied (c integer_abs_name) (all_some (meaning c a e ∷ []))
meaning_integer_abs c a e = meaning_defined c integer_abs_name (a ∷ []) e prim_of_integer_abs

pub meaning_true_listp : (c : Calls) (a : Term) (e : Env) → meaning c (Call true_listp_name (a ∷ [])) e ≡ applied (c true_listp_name) (all_some (meaning c a e ∷ []))
meaning_true_listp c a e = meaning_defined c true_listp_name (a ∷ []) e prim_of_true_listp

pub meaning_len : (c : Calls) (a : Term) (e : Env) → meaning c (Call len_name (a ∷ [])) e ≡ applied (c len_name) (all_some (meaning c a e ∷ []))
meaning_len c a e = meaning_defined c len_name (a ∷ []) e prim_of_len

pub meaning_length : (c : Calls) (a : Term) (e : Env) → meaning c (Call length_name (a ∷ [])) e ≡ applied (c length_name) (all_some (meaning c a e ∷ []))
meaning_length c a e = meaning_defined c length_name (a ∷ []) e prim_of_length

pub meaning_acl2_count : (c : Calls) (a : Term) (e : Env) → meaning c (Call acl2_count_name (a ∷ [])) e ≡ applied (c acl2_count_name) (all_some (meaning c a e ∷ []))
meaning_acl2_count c a e = meaning_defined c acl2_count_name (a ∷ []) e prim_of_acl2_count

pub meaning_make_character_list : (c : Calls) (a : Term) (e : Env) → meaning c (Call make_character_list_name (a ∷ [])) e ≡ applied (c make_character_list_name) (all_some (meaning c a e ∷ []))
meaning_make_character_list c a e = meaning_defined c make_character_list_name (a ∷ []) e prim_of_make_character_list

pub meaning_append : (c : Calls) (a b : Term) (e : Env) → meaning c (Call append_name (a ∷ b ∷ [])) e ≡ applied (c append_name) (all_some (meaning c a e ∷ meaning c b e ∷ []))
meaning_append c a b e = meaning_defined c append_name (a ∷ b ∷ []) e prim_of_append

pub meaning_member_equal : (c : Calls) (a b : Term) (e : Env) → meaning c (Call member_equal_name (a ∷ b ∷ [])) e ≡ applied (c member_equal_name) (all_some (meaning c a e ∷ meaning c b e ∷ []))
meaning_member_equal c a b e = meaning_defined c member_equal_name (a ∷ b ∷ []) e prim_of_member_equal

-- what a written body means, with the calls as they are
pub ruleset meanings = (meaning_var, meaning_quote, meaning_if, meaning_consp, meaning_integerp, meaning_stringp, meaning_characterp, meaning_car, meaning_cdr, meaning_minus, meaning_code_char, meaning_equal, meaning_cons, meaning_plus, meaning_less, meaning_coerce, meaning_not, meaning_endp, meaning_integer_abs, meaning_true_listp, meaning_len, meaning_length, meaning_acl2_count, meaning_make_character_list, meaning_append, meaning_member_equal)
