-- The ground world: the functions and rules that every book begins with, as the table of them has them,
-- oldest first. See the manual's topics on each function; the rules are those of its axioms.
use Rattle.std.specs.Prelude.{codes, cond, pos, List, [], ◌∷◌, ◌++◌, map, Option, Some, None}
use Rattle.ap_value.specs.declared.symbol.Symbol.{Symbol}
use Rattle.ap_value.specs.declared.value.Value.TheVariants.{Int, Sym}
use Rattle.ap_value.specs.Values.{acl2, symbol_eq}
use Rattle.ap_term.specs.declared.term.Term.{Term, Var, Quote, Call}
use Rattle.ap_world.specs.declared.entry.Mask.{Mask}
use Rattle.ap_world.specs.declared.entry.Function.{Function}
use Rattle.ap_world.specs.declared.entry.RuleClass.{RuleClass}
use Rattle.ap_world.specs.declared.entry.RuleClass.TheVariants.{Rewrite, Elim}
use Rattle.ap_world.specs.declared.entry.Theorem.{Theorem}
use Rattle.ap_world.specs.declared.entry.Entry.{Entry}
use Rattle.ap_world.specs.declared.entry.Entry.TheVariants as entry
use Rattle.ap_world.specs.Names.{a_name, abs_name, acl2_count_name, acl2_numberp_name, append_name, atom_name, booleanp_name, car_name, cdr_name, char_code_name, characterp_name, code_char_name, coerce_name, cons_name, consp_name, endp_name, eq_name, eql_name, equal_name, fix_name, if_name, iff_name, ifix_name, implies_name, integer_abs_name, integerp_name, len_name, length_name, less_name, list_name, make_character_list_name, max_name, member_equal_name, min_name, minus_name, minusp_name, natp_name, nfix_name, not_name, null_name, numeric_equal_name, p_name, plus_name, plusp_name, posp_name, q_name, rationalp_name, string_name, stringp_name, times_name, true_listp_name, x_name, y_name, z_name, zerop_name, zip_name, zp_name}
use Rattle.ap_world.specs.Types.{truths, integers, naturals, true_lists, no_negatives, all_types}
use Rattle.ap_world.specs.Recursion.{cases_of, count_of, t_constant, nil_constant}

-- calls, by the number of their arguments
abbrev pub one : Symbol → Term → Term
one f a = Call f (a ∷ [])

abbrev pub two : Symbol → Term → Term → Term
two f a b = Call f (a ∷ b ∷ [])

abbrev pub if_term : Term → Term → Term → Term
if_term a b c = Call if_name (a ∷ b ∷ c ∷ [])

-- the constants 0 and 1
abbrev pub zero_constant : Term
zero_constant = Quote (Int (pos 0))

abbrev pub one_constant : Term
one_constant = Quote (Int (pos 1))

-- the formals as terms
abbrev pub p : Term
p = Var p_name

abbrev pub q : Term
q = Var q_name

abbrev pub a : Term
a = Var a_name

abbrev pub x : Term
x = Var x_name

abbrev pub y : Term
y = Var y_name

abbrev pub z : Term
z = Var z_name

-- a function that doesn't call itself, and one that does, whose measure is the count of x; the last
-- argument is the mask of the values of its calls
abbrev pub plain : Symbol → List Symbol → Term → Mask → Function
plain f formals body mask = record { name = f; formals = formals; body = body; measure = None; cases = []; mask = mask }

abbrev pub recursive : Symbol → List Symbol → Term → Mask → Function
recursive f formals body mask = record { name = f; formals = formals; body = body; measure = Some (record { 0 = count_of x_name ∷ [] }); cases = cases_of f body; mask = mask }

-- the functions, each with its body and the types that a call of it can have: reached by
-- rounds of the body, where the formals have any type and the functions before it have theirs

-- (not p) is (if p nil t)
unfoldable pub not_function : Function
not_function = plain not_name (p_name ∷ []) (if_term p nil_constant t_constant) truths

-- (if p (if q t nil) t)
unfoldable pub implies_function : Function
implies_function = plain implies_name (p_name ∷ q_name ∷ []) (if_term p (if_term q t_constant nil_constant) t_constant) truths

-- (if p (if q t nil) (if q nil t))
unfoldable pub iff_function : Function
iff_function = plain iff_name (p_name ∷ q_name ∷ []) (if_term p (if_term q t_constant nil_constant) (if_term q nil_constant t_constant)) truths

-- (not (consp x))
unfoldable pub atom_function : Function
atom_function = plain atom_name (x_name ∷ []) (one not_name (one consp_name x)) truths

-- (not (consp x))
unfoldable pub endp_function : Function
endp_function = plain endp_name (x_name ∷ []) (one not_name (one consp_name x)) truths

-- (equal x nil)
unfoldable pub null_function : Function
null_function = plain null_name (x_name ∷ []) (two equal_name x nil_constant) truths

-- (equal x y)
unfoldable pub eq_function : Function
eq_function = plain eq_name (x_name ∷ y_name ∷ []) (two equal_name x y) truths

-- (equal x y)
unfoldable pub eql_function : Function
eql_function = plain eql_name (x_name ∷ y_name ∷ []) (two equal_name x y) truths

-- (equal x y)
unfoldable pub numeric_equal_function : Function
numeric_equal_function = plain numeric_equal_name (x_name ∷ y_name ∷ []) (two equal_name x y) truths

-- (integerp x)
unfoldable pub acl2_numberp_function : Function
acl2_numberp_function = plain acl2_numberp_name (x_name ∷ []) (one integerp_name x) truths

-- (integerp x)
unfoldable pub rationalp_function : Function
rationalp_function = plain rationalp_name (x_name ∷ []) (one integerp_name x) truths

-- (if (equal x t) t (equal x nil))
unfoldable pub booleanp_function : Function
booleanp_function = plain booleanp_name (x_name ∷ []) (if_term (two equal_name x t_constant) t_constant (two equal_name x nil_constant)) truths

-- (if (integerp x) x 0)
unfoldable pub fix_function : Function
fix_function = plain fix_name (x_name ∷ []) (if_term (one integerp_name x) x zero_constant) integers

-- (if (integerp x) x 0)
unfoldable pub ifix_function : Function
ifix_function = plain ifix_name (x_name ∷ []) (if_term (one integerp_name x) x zero_constant) integers

-- (if (integerp x) (not (< x 0)) nil)
unfoldable pub natp_function : Function
natp_function = plain natp_name (x_name ∷ []) (if_term (one integerp_name x) (one not_name (two less_name x zero_constant)) nil_constant) truths

-- (if (integerp x) (< 0 x) nil)
unfoldable pub posp_function : Function
posp_function = plain posp_name (x_name ∷ []) (if_term (one integerp_name x) (two less_name zero_constant x) nil_constant) truths

-- (if (natp x) x 0)
unfoldable pub nfix_function : Function
nfix_function = plain nfix_name (x_name ∷ []) (if_term (one natp_name x) x zero_constant) all_types

-- (if (integerp x) (not (< 0 x)) t)
unfoldable pub zp_function : Function
zp_function = plain zp_name (x_name ∷ []) (if_term (one integerp_name x) (one not_name (two less_name zero_constant x)) t_constant) truths

-- (if (integerp x) (equal x 0) t)
unfoldable pub zip_function : Function
zip_function = plain zip_name (x_name ∷ []) (if_term (one integerp_name x) (two equal_name x zero_constant) t_constant) truths

-- (equal x 0)
unfoldable pub zerop_function : Function
zerop_function = plain zerop_name (x_name ∷ []) (two equal_name x zero_constant) truths

-- (< 0 x)
unfoldable pub plusp_function : Function
plusp_function = plain plusp_name (x_name ∷ []) (two less_name zero_constant x) truths

-- (< x 0)
unfoldable pub minusp_function : Function
minusp_function = plain minusp_name (x_name ∷ []) (two less_name x zero_constant) truths

-- (if (< y x) x y)
unfoldable pub max_function : Function
max_function = plain max_name (x_name ∷ y_name ∷ []) (if_term (two less_name y x) x y) all_types

-- (if (< x y) x y)
unfoldable pub min_function : Function
min_function = plain min_name (x_name ∷ y_name ∷ []) (if_term (two less_name x y) x y) all_types

-- (if (< x 0) (unary-- x) x)
unfoldable pub abs_function : Function
abs_function = plain abs_name (x_name ∷ []) (if_term (two less_name x zero_constant) (one minus_name x) x) no_negatives

-- (if (integerp x) (if (< x 0) (unary-- x) x) 0)
unfoldable pub integer_abs_function : Function
integer_abs_function = plain integer_abs_name (x_name ∷ []) (if_term (one integerp_name x) (if_term (two less_name x zero_constant) (one minus_name x) x) zero_constant) naturals

-- (if (consp x) (true-listp (cdr x)) (equal x nil))
unfoldable pub true_listp_function : Function
true_listp_function = recursive true_listp_name (x_name ∷ []) (if_term (one consp_name x) (one true_listp_name (one cdr_name x)) (two equal_name x nil_constant)) truths

-- (if (consp x) (+ 1 (len (cdr x))) 0)
unfoldable pub len_function : Function
len_function = recursive len_name (x_name ∷ []) (if_term (one consp_name x) (two plus_name one_constant (one len_name (one cdr_name x))) zero_constant) naturals

-- (if (stringp x) (len (coerce x 'list)) (len x))
unfoldable pub length_function : Function
length_function = plain length_name (x_name ∷ []) (if_term (one stringp_name x) (one len_name (two coerce_name x (Quote (Sym list_name)))) (one len_name x)) naturals

-- (if (consp x) (+ 1 (+ (acl2-count (car x)) (acl2-count (cdr x)))) (if (integerp x) (integer-abs x) (if (stringp x) (length x) 0)))
unfoldable pub acl2_count_function : Function
acl2_count_function = recursive acl2_count_name (x_name ∷ []) (if_term (one consp_name x) (two plus_name one_constant (two plus_name (one acl2_count_name (one car_name x)) (one acl2_count_name (one cdr_name x)))) (if_term (one integerp_name x) (one integer_abs_name x) (if_term (one stringp_name x) (one length_name x) zero_constant))) naturals

-- (binary-append x y) is (if (endp x) y (cons (car x) (binary-append (cdr x) y)))
unfoldable pub append_function : Function
append_function = recursive append_name (x_name ∷ y_name ∷ []) (if_term (one endp_name x) y (two cons_name (one car_name x) (two append_name (one cdr_name x) y))) all_types

-- (if (endp x) nil (if (equal a (car x)) x (member-equal a (cdr x))))
unfoldable pub member_equal_function : Function
member_equal_function = recursive member_equal_name (a_name ∷ x_name ∷ []) (if_term (one endp_name x) nil_constant (if_term (two equal_name a (one car_name x)) x (two member_equal_name a (one cdr_name x)))) all_types

-- (if (endp x) nil (cons (if (characterp (car x)) (car x) (code-char 0)) (make-character-list (cdr x))))
unfoldable pub make_character_list_function : Function
make_character_list_function = recursive make_character_list_name (x_name ∷ []) (if_term (one endp_name x) nil_constant (two cons_name (if_term (one characterp_name (one car_name x)) (one car_name x) (one code_char_name zero_constant)) (one make_character_list_name (one cdr_name x)))) true_lists

unfoldable pub ground_functions : List Function
ground_functions =
    not_function ∷ implies_function ∷ iff_function ∷ atom_function
    ∷ endp_function ∷ null_function ∷ eq_function ∷ eql_function
    ∷ numeric_equal_function ∷ acl2_numberp_function ∷ rationalp_function ∷ booleanp_function
    ∷ fix_function ∷ ifix_function ∷ natp_function ∷ posp_function
    ∷ nfix_function ∷ zp_function ∷ zip_function ∷ zerop_function
    ∷ plusp_function ∷ minusp_function ∷ max_function ∷ min_function
    ∷ abs_function ∷ integer_abs_function ∷ true_listp_function ∷ len_function
    ∷ length_function ∷ acl2_count_function ∷ append_function ∷ member_equal_function
    ∷ make_character_list_function ∷ []

-- a theorem by its name, its term and its one class
abbrev pub rule : Symbol → Term → RuleClass → Theorem
rule f u class = record { name = f; term = u; classes = class ∷ [] }

-- the rules, each a theorem

-- (equal (car (cons x y)) x)
unfoldable pub car_cons : Theorem
car_cons = rule (acl2 (codes "CAR-CONS")) (two equal_name (one car_name (two cons_name x y)) x) Rewrite

-- (equal (cdr (cons x y)) y)
unfoldable pub cdr_cons : Theorem
cdr_cons = rule (acl2 (codes "CDR-CONS")) (two equal_name (one cdr_name (two cons_name x y)) y) Rewrite

-- (implies (consp x) (equal (cons (car x) (cdr x)) x)), of class elim alone
unfoldable pub car_cdr_elim : Theorem
car_cdr_elim = rule (acl2 (codes "CAR-CDR-ELIM")) (two implies_name (one consp_name x) (two equal_name (two cons_name (one car_name x) (one cdr_name x)) x)) Elim

-- (equal (+ x y) (+ y x))
unfoldable pub commutativity_of_plus : Theorem
commutativity_of_plus = rule (acl2 (codes "COMMUTATIVITY-OF-+")) (two equal_name (two plus_name x y) (two plus_name y x)) Rewrite

-- (equal (+ (+ x y) z) (+ x (+ y z)))
unfoldable pub associativity_of_plus : Theorem
associativity_of_plus = rule (acl2 (codes "ASSOCIATIVITY-OF-+")) (two equal_name (two plus_name (two plus_name x y) z) (two plus_name x (two plus_name y z))) Rewrite

-- (equal (+ x (+ y z)) (+ y (+ x z)))
unfoldable pub commutativity_2_of_plus : Theorem
commutativity_2_of_plus = rule (acl2 (codes "COMMUTATIVITY-2-OF-+")) (two equal_name (two plus_name x (two plus_name y z)) (two plus_name y (two plus_name x z))) Rewrite

-- (equal (+ 0 x) (fix x))
unfoldable pub unicity_of_0 : Theorem
unicity_of_0 = rule (acl2 (codes "UNICITY-OF-0")) (two equal_name (two plus_name zero_constant x) (one fix_name x)) Rewrite

-- (equal (* x y) (* y x))
unfoldable pub commutativity_of_times : Theorem
commutativity_of_times = rule (acl2 (codes "COMMUTATIVITY-OF-*")) (two equal_name (two times_name x y) (two times_name y x)) Rewrite

-- (equal (* (* x y) z) (* x (* y z)))
unfoldable pub associativity_of_times : Theorem
associativity_of_times = rule (acl2 (codes "ASSOCIATIVITY-OF-*")) (two equal_name (two times_name (two times_name x y) z) (two times_name x (two times_name y z))) Rewrite

-- (equal (* x (* y z)) (* y (* x z)))
unfoldable pub commutativity_2_of_times : Theorem
commutativity_2_of_times = rule (acl2 (codes "COMMUTATIVITY-2-OF-*")) (two equal_name (two times_name x (two times_name y z)) (two times_name y (two times_name x z))) Rewrite

-- (equal (* 1 x) (fix x))
unfoldable pub unicity_of_1 : Theorem
unicity_of_1 = rule (acl2 (codes "UNICITY-OF-1")) (two equal_name (two times_name one_constant x) (one fix_name x)) Rewrite

-- (equal (* 0 x) 0)
unfoldable pub times_zero : Theorem
times_zero = rule (acl2 (codes "TIMES-ZERO")) (two equal_name (two times_name zero_constant x) zero_constant) Rewrite

-- (equal (* x (+ y z)) (+ (* x y) (* x z)))
unfoldable pub distributivity : Theorem
distributivity = rule (acl2 (codes "DISTRIBUTIVITY")) (two equal_name (two times_name x (two plus_name y z)) (two plus_name (two times_name x y) (two times_name x z))) Rewrite

-- (implies (characterp x) (equal (code-char (char-code x)) x))
unfoldable pub code_char_char_code : Theorem
code_char_char_code = rule (acl2 (codes "CODE-CHAR-CHAR-CODE")) (two implies_name (one characterp_name x) (two equal_name (one code_char_name (one char_code_name x)) x)) Rewrite

-- (implies (stringp x) (equal (coerce (coerce x 'list) 'string) x))
unfoldable pub coerce_inverse : Theorem
coerce_inverse = rule (acl2 (codes "COERCE-INVERSE")) (two implies_name (one stringp_name x) (two equal_name (two coerce_name (two coerce_name x (Quote (Sym list_name))) (Quote (Sym string_name))) x)) Rewrite

unfoldable pub ground_rules : List Theorem
ground_rules =
    car_cons ∷ cdr_cons ∷ car_cdr_elim ∷ commutativity_of_plus
    ∷ associativity_of_plus ∷ commutativity_2_of_plus ∷ unicity_of_0 ∷ commutativity_of_times
    ∷ associativity_of_times ∷ commutativity_2_of_times ∷ unicity_of_1 ∷ times_zero
    ∷ distributivity ∷ code_char_char_code ∷ coerce_inverse ∷ []

-- the entries of the ground world
abbrev pub ground : List Entry
ground = map entry.Function ground_functions ++ map entry.Theorem ground_rules

-- the function of a list that has this name
abbrev pub named_in : List Function → Symbol → Option Function
named_in [] f = None
named_in (g ∷ gs) f = cond (symbol_eq f g.name) (Some g) (named_in gs f)
