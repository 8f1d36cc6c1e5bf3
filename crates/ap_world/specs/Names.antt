-- The names that the definitions speak of, each one a definition of its own, so that goals show names.
use Rattle.std.specs.Prelude.{codes}
use Rattle.ap_value.specs.declared.symbol.Symbol.{Symbol}
use Rattle.ap_value.specs.Values.{acl2}
unfoldable pub use Rattle.ap_term.specs.Names.{if_name}

unfoldable pub nil_name : Symbol
nil_name = acl2 (codes "NIL")

unfoldable pub t_name : Symbol
t_name = acl2 (codes "T")

unfoldable pub list_name : Symbol
list_name = acl2 (codes "LIST")

-- primitives beside `if`
unfoldable pub equal_name : Symbol
equal_name = acl2 (codes "EQUAL")

unfoldable pub consp_name : Symbol
consp_name = acl2 (codes "CONSP")

unfoldable pub integerp_name : Symbol
integerp_name = acl2 (codes "INTEGERP")

unfoldable pub symbolp_name : Symbol
symbolp_name = acl2 (codes "SYMBOLP")

unfoldable pub stringp_name : Symbol
stringp_name = acl2 (codes "STRINGP")

unfoldable pub characterp_name : Symbol
characterp_name = acl2 (codes "CHARACTERP")

unfoldable pub cons_name : Symbol
cons_name = acl2 (codes "CONS")

unfoldable pub car_name : Symbol
car_name = acl2 (codes "CAR")

unfoldable pub cdr_name : Symbol
cdr_name = acl2 (codes "CDR")

unfoldable pub plus_name : Symbol
plus_name = acl2 (codes "BINARY-+")

unfoldable pub times_name : Symbol
times_name = acl2 (codes "BINARY-*")

unfoldable pub minus_name : Symbol
minus_name = acl2 (codes "UNARY--")

unfoldable pub less_name : Symbol
less_name = acl2 (codes "<")

unfoldable pub char_code_name : Symbol
char_code_name = acl2 (codes "CHAR-CODE")

unfoldable pub code_char_name : Symbol
code_char_name = acl2 (codes "CODE-CHAR")

unfoldable pub symbol_name_name : Symbol
symbol_name_name = acl2 (codes "SYMBOL-NAME")

unfoldable pub coerce_name : Symbol
coerce_name = acl2 (codes "COERCE")

-- functions of the ground world
unfoldable pub not_name : Symbol
not_name = acl2 (codes "NOT")

unfoldable pub implies_name : Symbol
implies_name = acl2 (codes "IMPLIES")

unfoldable pub natp_name : Symbol
natp_name = acl2 (codes "NATP")

unfoldable pub acl2_count_name : Symbol
acl2_count_name = acl2 (codes "ACL2-COUNT")

unfoldable pub iff_name : Symbol
iff_name = acl2 (codes "IFF")

unfoldable pub atom_name : Symbol
atom_name = acl2 (codes "ATOM")

unfoldable pub endp_name : Symbol
endp_name = acl2 (codes "ENDP")

unfoldable pub null_name : Symbol
null_name = acl2 (codes "NULL")

unfoldable pub eq_name : Symbol
eq_name = acl2 (codes "EQ")

unfoldable pub eql_name : Symbol
eql_name = acl2 (codes "EQL")

unfoldable pub numeric_equal_name : Symbol
numeric_equal_name = acl2 (codes "=")

unfoldable pub acl2_numberp_name : Symbol
acl2_numberp_name = acl2 (codes "ACL2-NUMBERP")

unfoldable pub rationalp_name : Symbol
rationalp_name = acl2 (codes "RATIONALP")

unfoldable pub booleanp_name : Symbol
booleanp_name = acl2 (codes "BOOLEANP")

unfoldable pub fix_name : Symbol
fix_name = acl2 (codes "FIX")

unfoldable pub ifix_name : Symbol
ifix_name = acl2 (codes "IFIX")

unfoldable pub posp_name : Symbol
posp_name = acl2 (codes "POSP")

unfoldable pub nfix_name : Symbol
nfix_name = acl2 (codes "NFIX")

unfoldable pub zp_name : Symbol
zp_name = acl2 (codes "ZP")

unfoldable pub zip_name : Symbol
zip_name = acl2 (codes "ZIP")

unfoldable pub zerop_name : Symbol
zerop_name = acl2 (codes "ZEROP")

unfoldable pub plusp_name : Symbol
plusp_name = acl2 (codes "PLUSP")

unfoldable pub minusp_name : Symbol
minusp_name = acl2 (codes "MINUSP")

unfoldable pub max_name : Symbol
max_name = acl2 (codes "MAX")

unfoldable pub min_name : Symbol
min_name = acl2 (codes "MIN")

unfoldable pub abs_name : Symbol
abs_name = acl2 (codes "ABS")

unfoldable pub integer_abs_name : Symbol
integer_abs_name = acl2 (codes "INTEGER-ABS")

unfoldable pub true_listp_name : Symbol
true_listp_name = acl2 (codes "TRUE-LISTP")

unfoldable pub len_name : Symbol
len_name = acl2 (codes "LEN")

unfoldable pub length_name : Symbol
length_name = acl2 (codes "LENGTH")

unfoldable pub append_name : Symbol
append_name = acl2 (codes "BINARY-APPEND")

unfoldable pub member_equal_name : Symbol
member_equal_name = acl2 (codes "MEMBER-EQUAL")

unfoldable pub make_character_list_name : Symbol
make_character_list_name = acl2 (codes "MAKE-CHARACTER-LIST")

-- their formals
unfoldable pub p_name : Symbol
p_name = acl2 (codes "P")

unfoldable pub q_name : Symbol
q_name = acl2 (codes "Q")

unfoldable pub a_name : Symbol
a_name = acl2 (codes "A")

unfoldable pub x_name : Symbol
x_name = acl2 (codes "X")

unfoldable pub y_name : Symbol
y_name = acl2 (codes "Y")

unfoldable pub z_name : Symbol
z_name = acl2 (codes "Z")

unfoldable pub string_name : Symbol
string_name = acl2 (codes "STRING")
