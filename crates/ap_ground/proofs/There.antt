-- Each function of the ground world is found under its name.
use Rattle.std.proofs.Common.{◌≡◌, Bool, true, Some, refl}
use Rattle.ap_world.specs.Names.{not_name, implies_name, iff_name, atom_name, endp_name, null_name, eq_name, eql_name, numeric_equal_name, acl2_numberp_name, rationalp_name, booleanp_name, fix_name, ifix_name, natp_name, posp_name, nfix_name, zp_name, zip_name, zerop_name, plusp_name, minusp_name, max_name, min_name, abs_name, integer_abs_name, true_listp_name, len_name, length_name, acl2_count_name, append_name, member_equal_name, make_character_list_name}
use Rattle.ap_world.specs.Ground.{ground_rules, car_cons, cdr_cons, car_cdr_elim, commutativity_of_plus, associativity_of_plus, commutativity_2_of_plus, unicity_of_0, commutativity_of_times, associativity_of_times, commutativity_2_of_times, unicity_of_1, times_zero, distributivity, code_char_char_code, coerce_inverse, not_function, implies_function, iff_function, atom_function, endp_function, null_function, eq_function, eql_function, numeric_equal_function, acl2_numberp_function, rationalp_function, booleanp_function, fix_function, ifix_function, natp_function, posp_function, nfix_function, zp_function, zip_function, zerop_function, plusp_function, minusp_function, max_function, min_function, abs_function, integer_abs_function, true_listp_function, len_function, length_function, acl2_count_function, append_function, member_equal_function, make_character_list_function, ground_functions}
use Rattle.ap_world.specs.Sound.{HasFunctions}
use Rattle.ap_world.proofs.Equations.{names_open}
use Rattle.ap_ground.proofs.Totality.{G}

-- a proof that computes with the list of the functions lists this one on its `unfolding` line
unfoldable pub functions_open : Bool
unfolding names_open ground_functions not_function implies_function iff_function atom_function endp_function null_function eq_function eql_function numeric_equal_function acl2_numberp_function rationalp_function booleanp_function fix_function ifix_function natp_function posp_function nfix_function zp_function zip_function zerop_function plusp_function minusp_function max_function min_function abs_function integer_abs_function true_listp_function len_function length_function acl2_count_function append_function member_equal_function make_character_list_function
functions_open = true

unfoldable pub rules_open : Bool
unfolding names_open ground_rules car_cons cdr_cons car_cdr_elim commutativity_of_plus associativity_of_plus commutativity_2_of_plus unicity_of_0 commutativity_of_times associativity_of_times commutativity_2_of_times unicity_of_1 times_zero distributivity code_char_char_code coerce_inverse
rules_open = true

pub has_not : G not_name ≡ Some not_function
unfolding functions_open
has_not = refl

pub has_implies : G implies_name ≡ Some implies_function
unfolding functions_open
has_implies = refl

pub has_iff : G iff_name ≡ Some iff_function
unfolding functions_open
has_iff = refl

pub has_atom : G atom_name ≡ Some atom_function
unfolding functions_open
has_atom = refl

pub has_endp : G endp_name ≡ Some endp_function
unfolding functions_open
has_endp = refl

pub has_null : G null_name ≡ Some null_function
unfolding functions_open
has_null = refl

pub has_eq : G eq_name ≡ Some eq_function
unfolding functions_open
has_eq = refl

pub has_eql : G eql_name ≡ Some eql_function
unfolding functions_open
has_eql = refl

pub has_numeric_equal : G numeric_equal_name ≡ Some numeric_equal_function
unfolding functions_open
has_numeric_equal = refl

pub has_acl2_numberp : G acl2_numberp_name ≡ Some acl2_numberp_function
unfolding functions_open
has_acl2_numberp = refl

pub has_rationalp : G rationalp_name ≡ Some rationalp_function
unfolding functions_open
has_rationalp = refl

pub has_booleanp : G booleanp_name ≡ Some booleanp_function
unfolding functions_open
has_booleanp = refl

pub has_fix : G fix_name ≡ Some fix_function
unfolding functions_open
has_fix = refl

pub has_ifix : G ifix_name ≡ Some ifix_function
unfolding functions_open
has_ifix = refl

pub has_natp : G natp_name ≡ Some natp_function
unfolding functions_open
has_natp = refl

pub has_posp : G posp_name ≡ Some posp_function
unfolding functions_open
has_posp = refl

pub has_nfix : G nfix_name ≡ Some nfix_function
unfolding functions_open
has_nfix = refl

pub has_zp : G zp_name ≡ Some zp_function
unfolding functions_open
has_zp = refl

pub has_zip : G zip_name ≡ Some zip_function
unfolding functions_open
has_zip = refl

pub has_zerop : G zerop_name ≡ Some zerop_function
unfolding functions_open
has_zerop = refl

pub has_plusp : G plusp_name ≡ Some plusp_function
unfolding functions_open
has_plusp = refl

pub has_minusp : G minusp_name ≡ Some minusp_function
unfolding functions_open
has_minusp = refl

pub has_max : G max_name ≡ Some max_function
unfolding functions_open
has_max = refl

pub has_min : G min_name ≡ Some min_function
unfolding functions_open
has_min = refl

pub has_abs : G abs_name ≡ Some abs_function
unfolding functions_open
has_abs = refl

pub has_integer_abs : G integer_abs_name ≡ Some integer_abs_function
unfolding functions_open
has_integer_abs = refl

pub has_true_listp : G true_listp_name ≡ Some true_listp_function
unfolding functions_open
has_true_listp = refl

pub has_len : G len_name ≡ Some len_function
unfolding functions_open
has_len = refl

pub has_length : G length_name ≡ Some length_function
unfolding functions_open
has_length = refl

pub has_acl2_count : G acl2_count_name ≡ Some acl2_count_function
unfolding functions_open
has_acl2_count = refl

pub has_append : G append_name ≡ Some append_function
unfolding functions_open
has_append = refl

pub has_member_equal : G member_equal_name ≡ Some member_equal_function
unfolding functions_open
has_member_equal = refl

pub has_make_character_list : G make_character_list_name ≡ Some make_character_list_function
unfolding functions_open
has_make_character_list = refl

-- what stands under each name
pub ruleset there = (has_not, has_implies, has_iff, has_atom, has_endp, has_null, has_eq, has_eql, has_numeric_equal, has_acl2_numberp, has_rationalp, has_booleanp, has_fix, has_ifix, has_natp, has_posp, has_nfix, has_zp, has_zip, has_zerop, has_plusp, has_minusp, has_max, has_min, has_abs, has_integer_abs, has_true_listp, has_len, has_length, has_acl2_count, has_append, has_member_equal, has_make_character_list)

-- so each of them is there as it is given
pub has_functions : HasFunctions G
unfolding functions_open
has_functions =
    (has_not, (has_implies, (has_iff, (has_atom, (has_endp, (has_null, (has_eq, (has_eql, (has_numeric_equal, (has_acl2_numberp, (has_rationalp, (has_booleanp, (has_fix, (has_ifix, (has_natp, (has_posp, (has_nfix, (has_zp, (has_zip, (has_zerop, (has_plusp, (has_minusp, (has_max, (has_min, (has_abs, (has_integer_abs, (has_true_listp, (has_len, (has_length, (has_acl2_count, (has_append, (has_member_equal, (has_make_character_list, tt)))))))))))))))))))))))))))))))))
