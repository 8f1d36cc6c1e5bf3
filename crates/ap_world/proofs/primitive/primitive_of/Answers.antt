use Rattle.std.proofs.Common.{rules, ◌≡◌, sym, ◌∙◌, ap, ◌≤◌, ◌<◌, length, refl, arith}
use Rattle.ap_list.specs.Lists.{lookup_by}
use Rattle.ap_value.specs.Values.{symbol_eq}
use Rattle.ap_world.specs.Names.{if_name, equal_name, consp_name, integerp_name, symbolp_name, stringp_name, characterp_name, cons_name, car_name, cdr_name, plus_name, times_name, minus_name, less_name, char_code_name, code_char_name, symbol_name_name, coerce_name}
use Rattle.ap_world.specs.Primitives.{primitives, prim_of}
use Rattle.ap_world.proofs.ByLength.{at_length, none_of}
use Rattle.ap_world.proofs.primitive.primitive_of.Goals as goal

-- the rows of an arm are the definition's of that length

pub returns-in-1 : goal.returns-in-1
unfolding primitives if_name equal_name consp_name integerp_name symbolp_name stringp_name characterp_name cons_name car_name cdr_name plus_name times_name minus_name less_name char_code_name code_char_name symbol_name_name coerce_name
returns-in-1 c =
    let e : length c.args.name.now.name ≡ 1 = search rules in
    c.find_named.ensures ∙ at_length 1 c.args.name.now e

pub returns-in-2 : goal.returns-in-2
unfolding primitives if_name equal_name consp_name integerp_name symbolp_name stringp_name characterp_name cons_name car_name cdr_name plus_name times_name minus_name less_name char_code_name code_char_name symbol_name_name coerce_name
returns-in-2 c =
    let e : length c.args.name.now.name ≡ 2 = search rules in
    c.find_named-in-2.ensures ∙ at_length 2 c.args.name.now e

pub returns-in-3 : goal.returns-in-3
unfolding primitives if_name equal_name consp_name integerp_name symbolp_name stringp_name characterp_name cons_name car_name cdr_name plus_name times_name minus_name less_name char_code_name code_char_name symbol_name_name coerce_name
returns-in-3 c =
    let e : length c.args.name.now.name ≡ 3 = search rules in
    c.find_named-in-3.ensures ∙ at_length 3 c.args.name.now e

pub returns-in-4 : goal.returns-in-4
unfolding primitives if_name equal_name consp_name integerp_name symbolp_name stringp_name characterp_name cons_name car_name cdr_name plus_name times_name minus_name less_name char_code_name code_char_name symbol_name_name coerce_name
returns-in-4 c =
    let e : length c.args.name.now.name ≡ 4 = search rules in
    c.find_named-in-4.ensures ∙ at_length 4 c.args.name.now e

pub returns-in-5 : goal.returns-in-5
unfolding primitives if_name equal_name consp_name integerp_name symbolp_name stringp_name characterp_name cons_name car_name cdr_name plus_name times_name minus_name less_name char_code_name code_char_name symbol_name_name coerce_name
returns-in-5 c =
    let e : length c.args.name.now.name ≡ 5 = search rules in
    c.find_named-in-5.ensures ∙ at_length 5 c.args.name.now e

pub returns-in-6 : goal.returns-in-6
unfolding primitives if_name equal_name consp_name integerp_name symbolp_name stringp_name characterp_name cons_name car_name cdr_name plus_name times_name minus_name less_name char_code_name code_char_name symbol_name_name coerce_name
returns-in-6 c =
    let e : length c.args.name.now.name ≡ 6 = search rules in
    c.find_named-in-6.ensures ∙ at_length 6 c.args.name.now e

pub returns-in-7 : goal.returns-in-7
unfolding primitives if_name equal_name consp_name integerp_name symbolp_name stringp_name characterp_name cons_name car_name cdr_name plus_name times_name minus_name less_name char_code_name code_char_name symbol_name_name coerce_name
returns-in-7 c =
    let e : length c.args.name.now.name ≡ 7 = search rules in
    c.find_named-in-7.ensures ∙ at_length 7 c.args.name.now e

pub returns-in-8 : goal.returns-in-8
unfolding primitives if_name equal_name consp_name integerp_name symbolp_name stringp_name characterp_name cons_name car_name cdr_name plus_name times_name minus_name less_name char_code_name code_char_name symbol_name_name coerce_name
returns-in-8 c =
    let e : length c.args.name.now.name ≡ 8 = search rules in
    c.find_named-in-8.ensures ∙ at_length 8 c.args.name.now e

pub returns-in-9 : goal.returns-in-9
unfolding primitives if_name equal_name consp_name integerp_name symbolp_name stringp_name characterp_name cons_name car_name cdr_name plus_name times_name minus_name less_name char_code_name code_char_name symbol_name_name coerce_name
returns-in-9 c =
    let e : length c.args.name.now.name ≡ 9 = search rules in
    c.find_named-in-9.ensures ∙ at_length 9 c.args.name.now e

pub returns-in-10 : goal.returns-in-10
unfolding primitives if_name equal_name consp_name integerp_name symbolp_name stringp_name characterp_name cons_name car_name cdr_name plus_name times_name minus_name less_name char_code_name code_char_name symbol_name_name coerce_name
returns-in-10 c =
    let e : length c.args.name.now.name ≡ 10 = search rules in
    c.find_named-in-10.ensures ∙ at_length 10 c.args.name.now e

pub returns-in-11 : goal.returns-in-11
unfolding primitives if_name equal_name consp_name integerp_name symbolp_name stringp_name characterp_name cons_name car_name cdr_name plus_name times_name minus_name less_name char_code_name code_char_name symbol_name_name coerce_name
returns-in-11 c =
    let e : length c.args.name.now.name ≡ 11 = search rules in
    c.find_named-in-11.ensures ∙ at_length 11 c.args.name.now e

pub returns-in_default : goal.returns-in_default
returns-in_default c =
    let far : 1 ≤ length c.args.name.now.name → 11 < length c.args.name.now.name = λ one. omega arith in
    ap (λ ps. lookup_by symbol_eq ps c.args.name.now) (sym (none_of (length c.args.name.now.name) far)) ∙ at_length (length c.args.name.now.name) c.args.name.now refl
