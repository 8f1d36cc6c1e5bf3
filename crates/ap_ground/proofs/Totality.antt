-- Every function of the ground world has a value at all arguments: one after another, in their order.
use Rattle.std.proofs.Common.{◌≡◌, Bool, true, false, ◌||◌, List, [], ◌∷◌, ◌++◌, map, length, Some, refl, sym, ap, ◌∙◌, subst}
use Rattle.std.proofs.lemmas.List.{append-nil, append_assoc}
use Rattle.ap_list.specs.Lists.{Each, is_among}
use Rattle.ap_value.specs.declared.symbol.Symbol.{Symbol}
use Rattle.ap_value.specs.Values.{V, symbol_eq}
use Rattle.ap_value.proofs.Equals.{symbol_eq-true}
use Rattle.ap_world.specs.declared.entry.Function.{Function}
use Rattle.ap_world.specs.declared.entry.Entry.{Entry}
use Rattle.ap_world.specs.declared.entry.Entry.TheVariants as entry
use Rattle.ap_world.specs.Names.{acl2_count_name, append_name, endp_name, integer_abs_name, len_name, length_name, make_character_list_name, member_equal_name, natp_name, not_name, true_listp_name}
use Rattle.ap_world.specs.Meaning.{Defs, Total, CallValue}
use Rattle.ap_world.specs.Sound.{known}
use Rattle.ap_world.specs.World.{function_of, has_name, are_taken}
use Rattle.ap_world.specs.Ground.{not_function, implies_function, iff_function, atom_function, endp_function, null_function, eq_function, eql_function, numeric_equal_function, acl2_numberp_function, rationalp_function, booleanp_function, fix_function, ifix_function, natp_function, posp_function, nfix_function, zp_function, zip_function, zerop_function, plusp_function, minusp_function, max_function, min_function, abs_function, integer_abs_function, true_listp_function, len_function, length_function, acl2_count_function, append_function, member_equal_function, make_character_list_function, ground_functions}
use Rattle.ap_world.proofs.Knowing.{each_same}
use Rattle.ap_world.proofs.Extending.{call_extend, known_extend, extends-append, function_of-here, function_of-other}
use Rattle.ap_world.proofs.Adding.{total-define}
use Rattle.ap_world.proofs.Places.{neither, free_after}
use Rattle.ap_world.proofs.Equations.{names_open, knowing}
use Rattle.ap_ground.proofs.Meanings.{ground_heads}
use Rattle.ap_ground.proofs.Valued.{true_listp_valued, len_valued, acl2_count_valued, append_valued, member_equal_valued, make_character_list_valued}

-- a new function that has a value at all arguments keeps the world total
total-here : (W : List Entry) (f : Function) → Total (function_of W) → has_name W f.name ≡ false
    → ((vs : List V) → length f.formals ≡ length vs → (v : V) × CallValue (function_of (W ++ entry.Function f ∷ [])) f.name vs v)
    → Total (function_of (W ++ entry.Function f ∷ []))
total-here W f total fresh here = λ x g vs e l. at x g vs e l (symbol_eq x f.name) refl
  where
    E : Defs
    E = function_of (W ++ entry.Function f ∷ [])

    at : (x : Symbol) (g : Function) (vs : List V) → E x ≡ Some g → length g.formals ≡ length vs → (b : Bool) → symbol_eq x f.name ≡ b → (v : V) × CallValue E x vs v
    at x g vs e l true q =
        let p = symbol_eq-true x f.name q in
        let found : Some f ≡ Some g = sym (function_of-here W f fresh) ∙ ap E (sym p) ∙ e in
        let same : f ≡ g = cc in
        subst (λ y. (v : V) × CallValue E y vs v) (sym p) (here vs (ap (λ (k : Function). length k.formals) same ∙ l))
    at x g vs e l false q =
        let (v, h) = total x g vs (sym (function_of-other W f x q) ∙ e) l in
        (v, call_extend (function_of W) E (extends-append W (entry.Function f ∷ [])) x vs v h)

-- so do new functions whose bodies are known before the first of them
total-all : (W : List Entry) (fs : List Function) → Total (function_of W) → are_taken W fs ≡ false → Each (λ f. known (function_of W) f.body ≡ true) fs
    → Total (function_of (W ++ map entry.Function fs))
total-all W [] total free ks = rw (append-nil W) total
total-all W (f ∷ fs) total free ks =
    let first = neither (has_name W f.name || is_among symbol_eq f.name (map (λ g. g.name) fs)) (are_taken W fs) free in
    let here = neither (has_name W f.name) (is_among symbol_eq f.name (map (λ g. g.name) fs)) first.0 in
    subst (λ Z. Total (function_of Z)) (append_assoc W (entry.Function f ∷ []) (map entry.Function fs))
    (total-all (W ++ entry.Function f ∷ []) fs (total-define W f total here.0 ks.0) (free_after W f fs here.1 first.1)
    (each_same fs (λ g k. known_extend (function_of W) (function_of (W ++ entry.Function f ∷ [])) (extends-append W (entry.Function f ∷ [])) g.body k) ks.1))

-- all arguments, where there are so many
pub one_argument : (P : List V → Type 0) → ((v : V) → P (v ∷ [])) → (vs : List V) → 1 ≡ length vs → P vs
one_argument P h (v ∷ []) l = h v
one_argument P h [] l = cc
one_argument P h (v ∷ w ∷ ws) l = cc

two_arguments : (P : List V → Type 0) → ((v w : V) → P (v ∷ w ∷ [])) → (vs : List V) → 2 ≡ length vs → P vs
two_arguments P h (v ∷ w ∷ []) l = h v w
two_arguments P h [] l = cc
two_arguments P h (v ∷ []) l = cc
two_arguments P h (v ∷ w ∷ x ∷ xs) l = cc

-- the world of `not` alone
abbrev first : List Entry
first = entry.Function not_function ∷ []

first-total : Total (function_of first)
unfolding not_function names_open
first-total = total-define [] not_function (λ x g vs e l. cc) refl (simp knowing)

first-not : function_of first not_name ≡ Some not_function
unfolding not_function names_open
first-not = refl

-- those that call primitives and `not` alone, up to `posp`
abbrev logical : List Function
logical = implies_function ∷ iff_function ∷ atom_function ∷ endp_function ∷ null_function ∷ eq_function ∷ eql_function ∷ numeric_equal_function ∷ acl2_numberp_function ∷ rationalp_function ∷ booleanp_function ∷ fix_function ∷ ifix_function ∷ natp_function ∷ posp_function ∷ []

logical_free : are_taken first logical ≡ false
unfolding not_function implies_function iff_function atom_function endp_function null_function eq_function eql_function numeric_equal_function acl2_numberp_function rationalp_function booleanp_function fix_function ifix_function natp_function posp_function names_open
logical_free = refl

logical_known : Each (λ f. known (function_of first) f.body ≡ true) logical
unfolding not_function implies_function iff_function atom_function endp_function null_function eq_function eql_function numeric_equal_function acl2_numberp_function rationalp_function booleanp_function fix_function ifix_function natp_function posp_function
logical_known = (simp knowing, (simp knowing, (simp (first-not, knowing), (simp (first-not, knowing), (simp knowing, (simp knowing, (simp knowing, (simp knowing, (simp knowing, (simp knowing, (simp knowing, (simp knowing, (simp knowing, (simp (first-not, knowing), (simp knowing, tt)))))))))))))))

abbrev second : List Entry
second = first ++ map entry.Function logical

second-total : Total (function_of second)
second-total = total-all first logical first-total logical_free logical_known

second-not : function_of second not_name ≡ Some not_function
unfolding not_function names_open
second-not = refl

second-natp : function_of second natp_name ≡ Some natp_function
unfolding not_function implies_function iff_function atom_function endp_function null_function eq_function eql_function numeric_equal_function acl2_numberp_function rationalp_function booleanp_function fix_function ifix_function natp_function names_open
second-natp = refl

-- the others that call none of the recursive ones
abbrev arithmetic : List Function
arithmetic = nfix_function ∷ zp_function ∷ zip_function ∷ zerop_function ∷ plusp_function ∷ minusp_function ∷ max_function ∷ min_function ∷ abs_function ∷ integer_abs_function ∷ []

arithmetic_free : are_taken second arithmetic ≡ false
unfolding not_function implies_function iff_function atom_function endp_function null_function eq_function eql_function numeric_equal_function acl2_numberp_function rationalp_function booleanp_function fix_function ifix_function natp_function posp_function nfix_function zp_function zip_function zerop_function plusp_function minusp_function max_function min_function abs_function integer_abs_function names_open
arithmetic_free = refl

arithmetic_known : Each (λ f. known (function_of second) f.body ≡ true) arithmetic
unfolding not_function natp_function nfix_function zp_function zip_function zerop_function plusp_function minusp_function max_function min_function abs_function integer_abs_function
arithmetic_known = (simp (second-natp, knowing, ground_heads), (simp (second-not, knowing), (simp knowing, (simp knowing, (simp knowing, (simp knowing, (simp knowing, (simp knowing, (simp knowing, (simp knowing, tt))))))))))

abbrev third : List Entry
third = second ++ map entry.Function arithmetic

third-total : Total (function_of third)
third-total = total-all second arithmetic second-total arithmetic_free arithmetic_known

-- and true-listp
abbrev fourth : List Entry
fourth = third ++ entry.Function true_listp_function ∷ []

fourth-free : has_name third true_listp_function.name ≡ false
unfolding not_function implies_function iff_function atom_function endp_function null_function eq_function eql_function numeric_equal_function acl2_numberp_function rationalp_function booleanp_function fix_function ifix_function natp_function posp_function nfix_function zp_function zip_function zerop_function plusp_function minusp_function max_function min_function abs_function integer_abs_function true_listp_function names_open
fourth-free = refl

fourth-there : function_of fourth true_listp_name ≡ Some true_listp_function
unfolding true_listp_function
fourth-there = function_of-here third true_listp_function fourth-free

fourth-total : Total (function_of fourth)
unfolding true_listp_function
fourth-total = total-here third true_listp_function third-total fourth-free (one_argument (λ vs. (v : V) × CallValue (function_of fourth) true_listp_name vs v) (true_listp_valued (function_of fourth) fourth-there))

-- and len
abbrev fifth : List Entry
fifth = fourth ++ entry.Function len_function ∷ []

fifth-free : has_name fourth len_function.name ≡ false
unfolding not_function implies_function iff_function atom_function endp_function null_function eq_function eql_function numeric_equal_function acl2_numberp_function rationalp_function booleanp_function fix_function ifix_function natp_function posp_function nfix_function zp_function zip_function zerop_function plusp_function minusp_function max_function min_function abs_function integer_abs_function true_listp_function len_function names_open
fifth-free = refl

fifth-there : function_of fifth len_name ≡ Some len_function
unfolding len_function
fifth-there = function_of-here fourth len_function fifth-free

fifth-total : Total (function_of fifth)
unfolding len_function
fifth-total = total-here fourth len_function fourth-total fifth-free (one_argument (λ vs. (v : V) × CallValue (function_of fifth) len_name vs v) (len_valued (function_of fifth) fifth-there))

-- and length
abbrev sixth : List Entry
sixth = fifth ++ entry.Function length_function ∷ []

sixth-free : has_name fifth length_function.name ≡ false
unfolding not_function implies_function iff_function atom_function endp_function null_function eq_function eql_function numeric_equal_function acl2_numberp_function rationalp_function booleanp_function fix_function ifix_function natp_function posp_function nfix_function zp_function zip_function zerop_function plusp_function minusp_function max_function min_function abs_function integer_abs_function true_listp_function len_function length_function names_open
sixth-free = refl

fifth-len : function_of fifth len_name ≡ Some len_function
unfolding len_function
fifth-len = function_of-here fourth len_function fifth-free

length_known : known (function_of fifth) length_function.body ≡ true
unfolding length_function len_function
length_known = simp (fifth-len, knowing, ground_heads)

sixth-total : Total (function_of sixth)
sixth-total = total-define fifth length_function fifth-total sixth-free length_known

-- and acl2-count
abbrev seventh : List Entry
seventh = sixth ++ entry.Function acl2_count_function ∷ []

seventh-free : has_name sixth acl2_count_function.name ≡ false
unfolding not_function implies_function iff_function atom_function endp_function null_function eq_function eql_function numeric_equal_function acl2_numberp_function rationalp_function booleanp_function fix_function ifix_function natp_function posp_function nfix_function zp_function zip_function zerop_function plusp_function minusp_function max_function min_function abs_function integer_abs_function true_listp_function len_function length_function acl2_count_function names_open
seventh-free = refl

seventh-there : function_of seventh acl2_count_name ≡ Some acl2_count_function
unfolding acl2_count_function
seventh-there = function_of-here sixth acl2_count_function seventh-free

sixth-integer_abs : function_of sixth integer_abs_name ≡ Some integer_abs_function
unfolding not_function implies_function iff_function atom_function endp_function null_function eq_function eql_function numeric_equal_function acl2_numberp_function rationalp_function booleanp_function fix_function ifix_function natp_function posp_function nfix_function zp_function zip_function zerop_function plusp_function minusp_function max_function min_function abs_function integer_abs_function true_listp_function len_function length_function names_open
sixth-integer_abs = refl

sixth-length : function_of sixth length_name ≡ Some length_function
unfolding not_function implies_function iff_function atom_function endp_function null_function eq_function eql_function numeric_equal_function acl2_numberp_function rationalp_function booleanp_function fix_function ifix_function natp_function posp_function nfix_function zp_function zip_function zerop_function plusp_function minusp_function max_function min_function abs_function integer_abs_function true_listp_function len_function length_function names_open
sixth-length = refl

-- what the world had before has a value still
earlier : (f : Symbol) (g : Function) → function_of sixth f ≡ Some g → 1 ≡ length g.formals → (v : V) → (w : V) × CallValue (function_of seventh) f (v ∷ []) w
earlier f g here l v =
    let (w, h) = sixth-total f g (v ∷ []) here (sym l) in
    (w, call_extend (function_of sixth) (function_of seventh) (extends-append sixth (entry.Function acl2_count_function ∷ [])) f (v ∷ []) w h)

seventh-total : Total (function_of seventh)
unfolding acl2_count_function integer_abs_function length_function
seventh-total = total-here sixth acl2_count_function sixth-total seventh-free (one_argument (λ vs. (v : V) × CallValue (function_of seventh) acl2_count_name vs v) (acl2_count_valued (function_of seventh) seventh-there (earlier integer_abs_name integer_abs_function sixth-integer_abs refl) (earlier length_name length_function sixth-length refl)))

-- and binary-append
abbrev eighth : List Entry
eighth = seventh ++ entry.Function append_function ∷ []

eighth-free : has_name seventh append_function.name ≡ false
unfolding not_function implies_function iff_function atom_function endp_function null_function eq_function eql_function numeric_equal_function acl2_numberp_function rationalp_function booleanp_function fix_function ifix_function natp_function posp_function nfix_function zp_function zip_function zerop_function plusp_function minusp_function max_function min_function abs_function integer_abs_function true_listp_function len_function length_function acl2_count_function append_function names_open
eighth-free = refl

eighth-there : function_of eighth append_name ≡ Some append_function
unfolding append_function
eighth-there = function_of-here seventh append_function eighth-free

eighth-not : function_of eighth not_name ≡ Some not_function
unfolding not_function implies_function iff_function atom_function endp_function names_open
eighth-not = refl

eighth-endp : function_of eighth endp_name ≡ Some endp_function
unfolding not_function implies_function iff_function atom_function endp_function names_open
eighth-endp = refl

eighth-total : Total (function_of eighth)
unfolding append_function
eighth-total = total-here seventh append_function seventh-total eighth-free (two_arguments (λ vs. (v : V) × CallValue (function_of eighth) append_name vs v) (append_valued (function_of eighth) eighth-not eighth-endp eighth-there))

-- and member-equal
abbrev ninth : List Entry
ninth = eighth ++ entry.Function member_equal_function ∷ []

ninth-free : has_name eighth member_equal_function.name ≡ false
unfolding not_function implies_function iff_function atom_function endp_function null_function eq_function eql_function numeric_equal_function acl2_numberp_function rationalp_function booleanp_function fix_function ifix_function natp_function posp_function nfix_function zp_function zip_function zerop_function plusp_function minusp_function max_function min_function abs_function integer_abs_function true_listp_function len_function length_function acl2_count_function append_function member_equal_function names_open
ninth-free = refl

ninth-there : function_of ninth member_equal_name ≡ Some member_equal_function
unfolding member_equal_function
ninth-there = function_of-here eighth member_equal_function ninth-free

ninth-not : function_of ninth not_name ≡ Some not_function
unfolding not_function implies_function iff_function atom_function endp_function names_open
ninth-not = refl

ninth-endp : function_of ninth endp_name ≡ Some endp_function
unfolding not_function implies_function iff_function atom_function endp_function names_open
ninth-endp = refl

ninth-total : Total (function_of ninth)
unfolding member_equal_function
ninth-total = total-here eighth member_equal_function eighth-total ninth-free (two_arguments (λ vs. (v : V) × CallValue (function_of ninth) member_equal_name vs v) (member_equal_valued (function_of ninth) ninth-not ninth-endp ninth-there))

-- and make-character-list
abbrev tenth : List Entry
tenth = ninth ++ entry.Function make_character_list_function ∷ []

tenth-free : has_name ninth make_character_list_function.name ≡ false
unfolding not_function implies_function iff_function atom_function endp_function null_function eq_function eql_function numeric_equal_function acl2_numberp_function rationalp_function booleanp_function fix_function ifix_function natp_function posp_function nfix_function zp_function zip_function zerop_function plusp_function minusp_function max_function min_function abs_function integer_abs_function true_listp_function len_function length_function acl2_count_function append_function member_equal_function make_character_list_function names_open
tenth-free = refl

tenth-there : function_of tenth make_character_list_name ≡ Some make_character_list_function
unfolding make_character_list_function
tenth-there = function_of-here ninth make_character_list_function tenth-free

tenth-not : function_of tenth not_name ≡ Some not_function
unfolding not_function implies_function iff_function atom_function endp_function names_open
tenth-not = refl

tenth-endp : function_of tenth endp_name ≡ Some endp_function
unfolding not_function implies_function iff_function atom_function endp_function names_open
tenth-endp = refl

tenth-total : Total (function_of tenth)
unfolding make_character_list_function
tenth-total = total-here ninth make_character_list_function ninth-total tenth-free (one_argument (λ vs. (v : V) × CallValue (function_of tenth) make_character_list_name vs v) (make_character_list_valued (function_of tenth) tenth-not tenth-endp tenth-there))

-- the ground world's functions
abbrev pub G : Defs
G = function_of (map entry.Function ground_functions)

pub ground_total : Total G
unfolding ground_functions
ground_total = tenth-total
