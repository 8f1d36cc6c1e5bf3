-- The ground functions keep the masks that their bodies give back, by computing on sketches of the bodies.
use Rattle.std.proofs.Common.{◌≡◌, ℕ, zero, suc, cond, nat_eq, true, [], ◌∷◌, ◌++◌, List, refl, sym, ap, ◌∙◌}
use Rattle.ap_value.specs.declared.symbol.Symbol.{Symbol}
use Rattle.ap_value.specs.Values.{value_eq}
use Rattle.ap_world.specs.declared.entry.Function.{Function}
use Rattle.ap_world.specs.Names.{a_name, acl2_count_name, append_name, car_name, cdr_name, characterp_name, code_char_name, coerce_name, cons_name, consp_name, endp_name, equal_name, integer_abs_name, integerp_name, len_name, length_name, less_name, list_name, make_character_list_name, member_equal_name, minus_name, natp_name, nil_name, not_name, p_name, plus_name, q_name, stringp_name, t_name, true_listp_name, x_name, y_name}
use Rattle.ap_world.specs.Primitives.{nil, t}
use Rattle.ap_world.specs.Ground.{ground_functions, not_function, implies_function, iff_function, atom_function, endp_function, null_function, eq_function, eql_function, numeric_equal_function, acl2_numberp_function, rationalp_function, booleanp_function, fix_function, ifix_function, natp_function, posp_function, nfix_function, zp_function, zip_function, zerop_function, plusp_function, minusp_function, max_function, min_function, abs_function, integer_abs_function, true_listp_function, len_function, length_function, acl2_count_function, append_function, member_equal_function, make_character_list_function}
use Rattle.ap_world.specs.World.{Shown}
use Rattle.ap_world.specs.Rows.{recognisers, recognised}
use Rattle.ap_world.specs.KeptTypes.{types_with, body_types, settled, kept_types}
use Rattle.ap_world.proofs.Equations.{names_open}
use Rattle.ap_types.specs.Laws.{shown, Keeps, GroundMasksAreKept}
use Rattle.ap_types.proofs.Sketches.{Sketch, variable, number, named, one, two, choose, term, tests_plainly, sketch_types, types_are}

settled_same : (give made : ℕ → ℕ) → ((m : ℕ) → give m ≡ made m) → (n m : ℕ) → settled give n m ≡ settled made n m
settled_same give made is zero m = refl
settled_same give made is (suc n) m =
    ap (λ k. cond (nat_eq k m) m (settled give n k)) (is m) ∙ ap (λ k. cond (nat_eq (made m) m) m k) (settled_same give made is n (made m))

abbrev kept_by : Shown → Symbol → Sketch → ℕ
kept_by w name s = settled (λ m. sketch_types (types_with w name m) s []) 11 0

keeps : (before : List Function) (f : Function) (s : Sketch) → term s ≡ f.body → tests_plainly s ≡ true → kept_by (shown before) f.name s ≡ f.mask.0 → Keeps before f
keeps before f s is plain kept =
    sym kept
    ∙ sym (settled_same (body_types (shown before) f.name (term s)) (λ m. sketch_types (types_with (shown before) f.name m) s []) (λ m. types_are (types_with (shown before) f.name m) s [] plain) 11 0)
    ∙ ap (kept_types (shown before) f.name) is

abbrev p : Sketch
p = variable p_name

abbrev q : Sketch
q = variable q_name

abbrev x : Sketch
x = variable x_name

abbrev y : Sketch
y = variable y_name

abbrev a : Sketch
a = variable a_name

abbrev t_s : Sketch
t_s = named t_name

abbrev nil_s : Sketch
nil_s = named nil_name

keeps_not : Keeps [] not_function
unfolding names_open value_eq nil t recognised recognisers not_function
keeps_not = keeps [] not_function (choose p nil_s t_s) refl refl refl

abbrev before_implies : List Function
before_implies = [] ++ not_function ∷ []

keeps_implies : Keeps before_implies implies_function
unfolding names_open value_eq nil t recognised recognisers not_function implies_function
keeps_implies = keeps before_implies implies_function (choose p (choose q t_s nil_s) t_s) refl refl refl

abbrev before_iff : List Function
before_iff = before_implies ++ implies_function ∷ []

keeps_iff : Keeps before_iff iff_function
unfolding names_open value_eq nil t recognised recognisers not_function implies_function iff_function
keeps_iff = keeps before_iff iff_function (choose p (choose q t_s nil_s) (choose q nil_s t_s)) refl refl refl

abbrev before_atom : List Function
before_atom = before_iff ++ iff_function ∷ []

keeps_atom : Keeps before_atom atom_function
unfolding names_open value_eq nil t recognised recognisers not_function implies_function iff_function atom_function
keeps_atom = keeps before_atom atom_function (one not_name (one consp_name x)) refl refl refl

abbrev before_endp : List Function
before_endp = before_atom ++ atom_function ∷ []

keeps_endp : Keeps before_endp endp_function
unfolding names_open value_eq nil t recognised recognisers not_function implies_function iff_function atom_function endp_function
keeps_endp = keeps before_endp endp_function (one not_name (one consp_name x)) refl refl refl

abbrev before_null : List Function
before_null = before_endp ++ endp_function ∷ []

keeps_null : Keeps before_null null_function
unfolding names_open value_eq nil t recognised recognisers not_function implies_function iff_function atom_function endp_function null_function
keeps_null = keeps before_null null_function (two equal_name x nil_s) refl refl refl

abbrev before_eq : List Function
before_eq = before_null ++ null_function ∷ []

keeps_eq : Keeps before_eq eq_function
unfolding names_open value_eq nil t recognised recognisers not_function implies_function iff_function atom_function endp_function null_function eq_function
keeps_eq = keeps before_eq eq_function (two equal_name x y) refl refl refl

abbrev before_eql : List Function
before_eql = before_eq ++ eq_function ∷ []

keeps_eql : Keeps before_eql eql_function
unfolding names_open value_eq nil t recognised recognisers not_function implies_function iff_function atom_function endp_function null_function eq_function eql_function
keeps_eql = keeps before_eql eql_function (two equal_name x y) refl refl refl

abbrev before_numeric_equal : List Function
before_numeric_equal = before_eql ++ eql_function ∷ []

keeps_numeric_equal : Keeps before_numeric_equal numeric_equal_function
unfolding names_open value_eq nil t recognised recognisers not_function implies_function iff_function atom_function endp_function null_function eq_function eql_function numeric_equal_function
keeps_numeric_equal = keeps before_numeric_equal numeric_equal_function (two equal_name x y) refl refl refl

abbrev before_acl2_numberp : List Function
before_acl2_numberp = before_numeric_equal ++ numeric_equal_function ∷ []

keeps_acl2_numberp : Keeps before_acl2_numberp acl2_numberp_function
unfolding names_open value_eq nil t recognised recognisers not_function implies_function iff_function atom_function endp_function null_function eq_function eql_function numeric_equal_function acl2_numberp_function
keeps_acl2_numberp = keeps before_acl2_numberp acl2_numberp_function (one integerp_name x) refl refl refl

abbrev before_rationalp : List Function
before_rationalp = before_acl2_numberp ++ acl2_numberp_function ∷ []

keeps_rationalp : Keeps before_rationalp rationalp_function
unfolding names_open value_eq nil t recognised recognisers not_function implies_function iff_function atom_function endp_function null_function eq_function eql_function numeric_equal_function acl2_numberp_function rationalp_function
keeps_rationalp = keeps before_rationalp rationalp_function (one integerp_name x) refl refl refl

abbrev before_booleanp : List Function
before_booleanp = before_rationalp ++ rationalp_function ∷ []

keeps_booleanp : Keeps before_booleanp booleanp_function
unfolding names_open value_eq nil t recognised recognisers not_function implies_function iff_function atom_function endp_function null_function eq_function eql_function numeric_equal_function acl2_numberp_function rationalp_function booleanp_function
keeps_booleanp = keeps before_booleanp booleanp_function (choose (two equal_name x t_s) t_s (two equal_name x nil_s)) refl refl refl

abbrev before_fix : List Function
before_fix = before_booleanp ++ booleanp_function ∷ []

keeps_fix : Keeps before_fix fix_function
unfolding names_open value_eq nil t recognised recognisers not_function implies_function iff_function atom_function endp_function null_function eq_function eql_function numeric_equal_function acl2_numberp_function rationalp_function booleanp_function fix_function
keeps_fix = keeps before_fix fix_function (choose (one integerp_name x) x (number 0)) refl refl refl

abbrev before_ifix : List Function
before_ifix = before_fix ++ fix_function ∷ []

keeps_ifix : Keeps before_ifix ifix_function
unfolding names_open value_eq nil t recognised recognisers not_function implies_function iff_function atom_function endp_function null_function eq_function eql_function numeric_equal_function acl2_numberp_function rationalp_function booleanp_function fix_function ifix_function
keeps_ifix = keeps before_ifix ifix_function (choose (one integerp_name x) x (number 0)) refl refl refl

abbrev before_natp : List Function
before_natp = before_ifix ++ ifix_function ∷ []

keeps_natp : Keeps before_natp natp_function
unfolding names_open value_eq nil t recognised recognisers not_function implies_function iff_function atom_function endp_function null_function eq_function eql_function numeric_equal_function acl2_numberp_function rationalp_function booleanp_function fix_function ifix_function natp_function
keeps_natp = keeps before_natp natp_function (choose (one integerp_name x) (one not_name (two less_name x (number 0))) nil_s) refl refl refl

abbrev before_posp : List Function
before_posp = before_natp ++ natp_function ∷ []

keeps_posp : Keeps before_posp posp_function
unfolding names_open value_eq nil t recognised recognisers not_function implies_function iff_function atom_function endp_function null_function eq_function eql_function numeric_equal_function acl2_numberp_function rationalp_function booleanp_function fix_function ifix_function natp_function posp_function
keeps_posp = keeps before_posp posp_function (choose (one integerp_name x) (two less_name (number 0) x) nil_s) refl refl refl

abbrev before_nfix : List Function
before_nfix = before_posp ++ posp_function ∷ []

keeps_nfix : Keeps before_nfix nfix_function
unfolding names_open value_eq nil t recognised recognisers not_function implies_function iff_function atom_function endp_function null_function eq_function eql_function numeric_equal_function acl2_numberp_function rationalp_function booleanp_function fix_function ifix_function natp_function posp_function nfix_function
keeps_nfix = keeps before_nfix nfix_function (choose (one natp_name x) x (number 0)) refl refl refl

abbrev before_zp : List Function
before_zp = before_nfix ++ nfix_function ∷ []

keeps_zp : Keeps before_zp zp_function
unfolding names_open value_eq nil t recognised recognisers not_function implies_function iff_function atom_function endp_function null_function eq_function eql_function numeric_equal_function acl2_numberp_function rationalp_function booleanp_function fix_function ifix_function natp_function posp_function nfix_function zp_function
keeps_zp = keeps before_zp zp_function (choose (one integerp_name x) (one not_name (two less_name (number 0) x)) t_s) refl refl refl

abbrev before_zip : List Function
before_zip = before_zp ++ zp_function ∷ []

keeps_zip : Keeps before_zip zip_function
unfolding names_open value_eq nil t recognised recognisers not_function implies_function iff_function atom_function endp_function null_function eq_function eql_function numeric_equal_function acl2_numberp_function rationalp_function booleanp_function fix_function ifix_function natp_function posp_function nfix_function zp_function zip_function
keeps_zip = keeps before_zip zip_function (choose (one integerp_name x) (two equal_name x (number 0)) t_s) refl refl refl

abbrev before_zerop : List Function
before_zerop = before_zip ++ zip_function ∷ []

keeps_zerop : Keeps before_zerop zerop_function
unfolding names_open value_eq nil t recognised recognisers not_function implies_function iff_function atom_function endp_function null_function eq_function eql_function numeric_equal_function acl2_numberp_function rationalp_function booleanp_function fix_function ifix_function natp_function posp_function nfix_function zp_function zip_function zerop_function
keeps_zerop = keeps before_zerop zerop_function (two equal_name x (number 0)) refl refl refl

abbrev before_plusp : List Function
before_plusp = before_zerop ++ zerop_function ∷ []

keeps_plusp : Keeps before_plusp plusp_function
unfolding names_open value_eq nil t recognised recognisers not_function implies_function iff_function atom_function endp_function null_function eq_function eql_function numeric_equal_function acl2_numberp_function rationalp_function booleanp_function fix_function ifix_function natp_function posp_function nfix_function zp_function zip_function zerop_function plusp_function
keeps_plusp = keeps before_plusp plusp_function (two less_name (number 0) x) refl refl refl

abbrev before_minusp : List Function
before_minusp = before_plusp ++ plusp_function ∷ []

keeps_minusp : Keeps before_minusp minusp_function
unfolding names_open value_eq nil t recognised recognisers not_function implies_function iff_function atom_function endp_function null_function eq_function eql_function numeric_equal_function acl2_numberp_function rationalp_function booleanp_function fix_function ifix_function natp_function posp_function nfix_function zp_function zip_function zerop_function plusp_function minusp_function
keeps_minusp = keeps before_minusp minusp_function (two less_name x (number 0)) refl refl refl

abbrev before_max : List Function
before_max = before_minusp ++ minusp_function ∷ []

keeps_max : Keeps before_max max_function
unfolding names_open value_eq nil t recognised recognisers not_function implies_function iff_function atom_function endp_function null_function eq_function eql_function numeric_equal_function acl2_numberp_function rationalp_function booleanp_function fix_function ifix_function natp_function posp_function nfix_function zp_function zip_function zerop_function plusp_function minusp_function max_function
keeps_max = keeps before_max max_function (choose (two less_name y x) x y) refl refl refl

abbrev before_min : List Function
before_min = before_max ++ max_function ∷ []

keeps_min : Keeps before_min min_function
unfolding names_open value_eq nil t recognised recognisers not_function implies_function iff_function atom_function endp_function null_function eq_function eql_function numeric_equal_function acl2_numberp_function rationalp_function booleanp_function fix_function ifix_function natp_function posp_function nfix_function zp_function zip_function zerop_function plusp_function minusp_function max_function min_function
keeps_min = keeps before_min min_function (choose (two less_name x y) x y) refl refl refl

abbrev before_abs : List Function
before_abs = before_min ++ min_function ∷ []

keeps_abs : Keeps before_abs abs_function
unfolding names_open value_eq nil t recognised recognisers not_function implies_function iff_function atom_function endp_function null_function eq_function eql_function numeric_equal_function acl2_numberp_function rationalp_function booleanp_function fix_function ifix_function natp_function posp_function nfix_function zp_function zip_function zerop_function plusp_function minusp_function max_function min_function abs_function
keeps_abs = keeps before_abs abs_function (choose (two less_name x (number 0)) (one minus_name x) x) refl refl refl

abbrev before_integer_abs : List Function
before_integer_abs = before_abs ++ abs_function ∷ []

keeps_integer_abs : Keeps before_integer_abs integer_abs_function
unfolding names_open value_eq nil t recognised recognisers not_function implies_function iff_function atom_function endp_function null_function eq_function eql_function numeric_equal_function acl2_numberp_function rationalp_function booleanp_function fix_function ifix_function natp_function posp_function nfix_function zp_function zip_function zerop_function plusp_function minusp_function max_function min_function abs_function integer_abs_function
keeps_integer_abs = keeps before_integer_abs integer_abs_function (choose (one integerp_name x) (choose (two less_name x (number 0)) (one minus_name x) x) (number 0)) refl refl refl

abbrev before_true_listp : List Function
before_true_listp = before_integer_abs ++ integer_abs_function ∷ []

keeps_true_listp : Keeps before_true_listp true_listp_function
unfolding names_open value_eq nil t recognised recognisers not_function implies_function iff_function atom_function endp_function null_function eq_function eql_function numeric_equal_function acl2_numberp_function rationalp_function booleanp_function fix_function ifix_function natp_function posp_function nfix_function zp_function zip_function zerop_function plusp_function minusp_function max_function min_function abs_function integer_abs_function true_listp_function
keeps_true_listp = keeps before_true_listp true_listp_function (choose (one consp_name x) (one true_listp_name (one cdr_name x)) (two equal_name x nil_s)) refl refl refl

abbrev before_len : List Function
before_len = before_true_listp ++ true_listp_function ∷ []

keeps_len : Keeps before_len len_function
unfolding names_open value_eq nil t recognised recognisers not_function implies_function iff_function atom_function endp_function null_function eq_function eql_function numeric_equal_function acl2_numberp_function rationalp_function booleanp_function fix_function ifix_function natp_function posp_function nfix_function zp_function zip_function zerop_function plusp_function minusp_function max_function min_function abs_function integer_abs_function true_listp_function len_function
keeps_len = keeps before_len len_function (choose (one consp_name x) (two plus_name (number 1) (one len_name (one cdr_name x))) (number 0)) refl refl refl

abbrev before_length : List Function
before_length = before_len ++ len_function ∷ []

keeps_length : Keeps before_length length_function
unfolding names_open value_eq nil t recognised recognisers not_function implies_function iff_function atom_function endp_function null_function eq_function eql_function numeric_equal_function acl2_numberp_function rationalp_function booleanp_function fix_function ifix_function natp_function posp_function nfix_function zp_function zip_function zerop_function plusp_function minusp_function max_function min_function abs_function integer_abs_function true_listp_function len_function length_function
keeps_length = keeps before_length length_function (choose (one stringp_name x) (one len_name (two coerce_name x (named list_name))) (one len_name x)) refl refl refl

abbrev before_acl2_count : List Function
before_acl2_count = before_length ++ length_function ∷ []

keeps_acl2_count : Keeps before_acl2_count acl2_count_function
unfolding names_open value_eq nil t recognised recognisers not_function implies_function iff_function atom_function endp_function null_function eq_function eql_function numeric_equal_function acl2_numberp_function rationalp_function booleanp_function fix_function ifix_function natp_function posp_function nfix_function zp_function zip_function zerop_function plusp_function minusp_function max_function min_function abs_function integer_abs_function true_listp_function len_function length_function acl2_count_function
keeps_acl2_count = keeps before_acl2_count acl2_count_function (choose (one consp_name x) (two plus_name (number 1) (two plus_name (one acl2_count_name (one car_name x)) (one acl2_count_name (one cdr_name x)))) (choose (one integerp_name x) (one integer_abs_name x) (choose (one stringp_name x) (one length_name x) (number 0)))) refl refl refl

abbrev before_append : List Function
before_append = before_acl2_count ++ acl2_count_function ∷ []

keeps_append : Keeps before_append append_function
unfolding names_open value_eq nil t recognised recognisers not_function implies_function iff_function atom_function endp_function null_function eq_function eql_function numeric_equal_function acl2_numberp_function rationalp_function booleanp_function fix_function ifix_function natp_function posp_function nfix_function zp_function zip_function zerop_function plusp_function minusp_function max_function min_function abs_function integer_abs_function true_listp_function len_function length_function acl2_count_function append_function
keeps_append = keeps before_append append_function (choose (one endp_name x) y (two cons_name (one car_name x) (two append_name (one cdr_name x) y))) refl refl refl

abbrev before_member_equal : List Function
before_member_equal = before_append ++ append_function ∷ []

keeps_member_equal : Keeps before_member_equal member_equal_function
unfolding names_open value_eq nil t recognised recognisers not_function implies_function iff_function atom_function endp_function null_function eq_function eql_function numeric_equal_function acl2_numberp_function rationalp_function booleanp_function fix_function ifix_function natp_function posp_function nfix_function zp_function zip_function zerop_function plusp_function minusp_function max_function min_function abs_function integer_abs_function true_listp_function len_function length_function acl2_count_function append_function member_equal_function
keeps_member_equal = keeps before_member_equal member_equal_function (choose (one endp_name x) nil_s (choose (two equal_name a (one car_name x)) x (two member_equal_name a (one cdr_name x)))) refl refl refl

abbrev before_make_character_list : List Function
before_make_character_list = before_member_equal ++ member_equal_function ∷ []

keeps_make_character_list : Keeps before_make_character_list make_character_list_function
unfolding names_open value_eq nil t recognised recognisers not_function implies_function iff_function atom_function endp_function null_function eq_function eql_function numeric_equal_function acl2_numberp_function rationalp_function booleanp_function fix_function ifix_function natp_function posp_function nfix_function zp_function zip_function zerop_function plusp_function minusp_function max_function min_function abs_function integer_abs_function true_listp_function len_function length_function acl2_count_function append_function member_equal_function make_character_list_function
keeps_make_character_list = keeps before_make_character_list make_character_list_function (choose (one endp_name x) nil_s (two cons_name (choose (one characterp_name (one car_name x)) (one car_name x) (one code_char_name (number 0))) (one make_character_list_name (one cdr_name x)))) refl refl refl

pub ground_kept : GroundMasksAreKept
unfolding ground_functions
ground_kept =
    (keeps_not, (keeps_implies, (keeps_iff, (keeps_atom, (keeps_endp, (keeps_null, (keeps_eq, (keeps_eql, (keeps_numeric_equal, (keeps_acl2_numberp, (keeps_rationalp, (keeps_booleanp, (keeps_fix, (keeps_ifix, (keeps_natp, (keeps_posp, (keeps_nfix, (keeps_zp, (keeps_zip, (keeps_zerop, (keeps_plusp, (keeps_minusp, (keeps_max, (keeps_min, (keeps_abs, (keeps_integer_abs, (keeps_true_listp, (keeps_len, (keeps_length, (keeps_acl2_count, (keeps_append, (keeps_member_equal, (keeps_make_character_list, tt)))))))))))))))))))))))))))))))))
