-- Each row of the table has the type of what the primitive gives.
use Rattle.std.proofs.Common.{◌≡◌, ◌≢◌, ℕ, zero, suc, ◌+◌, ◌*◌, ◌<◌, Bool, true, false, cond, true≢false, List, [], ◌∷◌, Some, ℤ, pos, negsuc, ◌+ℤ◌, ◌*ℤ◌, neg_ℤ, int_lt, refl, sym, ◌∙◌, subst, arith}
use Rattle.std.specs.Int.{bit_at}
use Rattle.std.proofs.lemmas.Int.{ints}
use Rattle.std.proofs.Math.Nat.{mul-pos}
use Rattle.ap_value.specs.Values.{V, Byte, int, chr, str, sym as symbol, cons, value_eq}
use Rattle.ap_value.proofs.Equals.{value_eq-true, value_eq-same}
use Rattle.ap_world.specs.declared.primitive.Primitive.{Primitive as Prim}
use Rattle.ap_world.specs.declared.primitive.Primitive.TheVariants.{Equal, Cons, Car, Cdr, Plus, Times, Minus, Less, CharCode, CodeChar, SymbolName}
use Rattle.ap_world.specs.Names.{list_name}
use Rattle.ap_world.specs.Primitives.{nil, t, truth, symbol_value, int_of, car_of, cdr_of, char_code_of, code_char_of, symbol_name_of, chars_to, chars_from, to_list, coerce_of, prim}
use Rattle.ap_world.specs.Types.{is_true_list, type_of, zero_bit, positive_bit, negative_bit, nil_bit, t_bit, proper_bit, string_bit, character_bit}
use Rattle.ap_world.proofs.Equations.{names_open}
use Rattle.ap_world.proofs.Starting.{has_truth}
use Rattle.ap_world.specs.declared.kinds.Sign.TheVariants as sign
use Rattle.ap_world.specs.declared.kinds.Sign.{Sign}
use Rattle.ap_world.specs.declared.kinds.Kind.{Kind}
use Rattle.ap_world.specs.declared.kinds.Kind.TheVariants.{Zero, Positive, Negative, Nil, True, OtherSymbol, Proper, Improper, Text, Character}
use Rattle.ap_world.specs.Kinds.{bit, kind_of, without, meets}
use Rattle.ap_world.specs.Rows.{sign_of, sign_bit, plus_row, times_row, minus_row, less_row, is_single, equal_row, cons_row, car_row, cdr_row, char_code_row, row_one, row_two}
use Rattle.ap_world.proofs.Sets.{In, int_cases, symbol_cases, cons_cases, all_in, in_own, meets_own, nil_has, t_has}

nil_type : type_of nil ≡ 3
unfolding nil value_eq names_open
nil_type = refl

-- the sign of an integer
abbrev pub sign_z : ℤ → Sign
sign_z (pos zero) = sign.Zero
sign_z (pos (suc n)) = sign.Positive
sign_z (negsuc n) = sign.Negative

pub signed_as : (x : V) → sign_of (kind_of x) ≡ sign_z (int_of x)
signed_as (int (pos zero)) = refl
signed_as (int (pos (suc n))) = refl
signed_as (int (negsuc n)) = refl
signed_as (chr c) = refl
signed_as (str s) = refl
signed_as (symbol k s) = symbol_cases (λ j. sign_of j ≡ sign.Zero) refl refl refl (symbol k s)
signed_as (cons a b) = cons_cases (λ j. sign_of j ≡ sign.Zero) refl refl b

own_sign : (z : ℤ) → In (sign_bit (sign_z z)) (int z)
own_sign (pos zero) = refl
own_sign (pos (suc n)) = refl
own_sign (negsuc n) = refl

positive_in : (n : ℕ) → 0 < n → In positive_bit (int (pos n))
positive_in zero h = absurd (omega arith)
positive_in (suc n) h = refl

negative_in : (n : ℕ) → 0 < n → In negative_bit (int (neg_ℤ (pos n)))
negative_in zero h = absurd (omega arith)
negative_in (suc n) h = refl

integer_in : (z : ℤ) → In (zero_bit + positive_bit + negative_bit) (int z)
integer_in (pos zero) = refl
integer_in (pos (suc n)) = refl
integer_in (negsuc n) = refl

natural_in : (n : ℕ) → In (zero_bit + positive_bit) (int (pos n))
natural_in zero = refl
natural_in (suc n) = refl

zero_plus : (z : ℤ) → pos 0 +ℤ z ≡ z
zero_plus z = omega (arith, ints)

plus_zero : (z : ℤ) → z +ℤ pos 0 ≡ z
plus_zero z = omega (arith, ints)

zero_times : (z : ℤ) → pos 0 *ℤ z ≡ pos 0
zero_times z = omega (arith, ints)

times_zero : (z : ℤ) → z *ℤ pos 0 ≡ pos 0
times_zero z = omega (arith, ints)

plus_in : (m n : ℤ) → In (plus_row (sign_z m) (sign_z n)) (int (m +ℤ n))
plus_in (pos zero) n = subst (λ z. In (plus_row sign.Zero (sign_z n)) (int z)) (sym (zero_plus n)) (own_sign n)
plus_in (pos (suc a)) (pos zero) = subst (λ z. In positive_bit (int z)) (sym (plus_zero (pos (suc a)))) refl
plus_in (negsuc a) (pos zero) = subst (λ z. In negative_bit (int z)) (sym (plus_zero (negsuc a))) refl
plus_in (pos (suc a)) (pos (suc b)) = positive_in (suc a + suc b) (omega arith)
plus_in (negsuc a) (negsuc b) = refl
plus_in (pos (suc a)) (negsuc b) = integer_in (pos (suc a) +ℤ negsuc b)
plus_in (negsuc a) (pos (suc b)) = integer_in (negsuc a +ℤ pos (suc b))

product_positive : (a b : ℕ) → 0 < suc a * suc b
product_positive a b = mul-pos (omega arith) (omega arith)

times_in : (m n : ℤ) → In (times_row (sign_z m) (sign_z n)) (int (m *ℤ n))
times_in (pos zero) n = subst (λ z. In zero_bit (int z)) (sym (zero_times n)) refl
times_in (pos (suc a)) (pos zero) = subst (λ z. In zero_bit (int z)) (sym (times_zero (pos (suc a)))) refl
times_in (negsuc a) (pos zero) = subst (λ z. In zero_bit (int z)) (sym (times_zero (negsuc a))) refl
times_in (pos (suc a)) (pos (suc b)) = positive_in (suc a * suc b) (product_positive a b)
times_in (pos (suc a)) (negsuc b) = negative_in (suc a * suc b) (product_positive a b)
times_in (negsuc a) (pos (suc b)) = negative_in (suc a * suc b) (product_positive a b)
times_in (negsuc a) (negsuc b) = positive_in (suc a * suc b) (product_positive a b)

minus_in : (n : ℤ) → In (minus_row (sign_z n)) (int (neg_ℤ n))
minus_in (pos zero) = refl
minus_in (pos (suc n)) = refl
minus_in (negsuc n) = refl

less_is : (m n : ℤ) (b : Bool) → int_lt m n ≡ b → In (bit (cond b True Nil)) (truth (int_lt m n))
less_is m n true h = rw h t_has
less_is m n false h = rw h nil_has

zero_positive : (n : ℕ) → int_lt (pos 0) (pos (suc n)) ≡ true
zero_positive n = go (int_lt (pos 0) (pos (suc n))) refl
  where
    go : (b : Bool) → int_lt (pos 0) (pos (suc n)) ≡ b → b ≡ true
    go true h = refl
    go false h = absurd (omega (arith, ints, h))

not_below : (n : ℕ) → int_lt (pos n) (pos 0) ≡ false
not_below n = go (int_lt (pos n) (pos 0)) refl
  where
    go : (b : Bool) → int_lt (pos n) (pos 0) ≡ b → b ≡ false
    go true h = absurd (omega (arith, ints, h))
    go false h = refl

less_in : (m n : ℤ) → In (less_row (sign_z m) (sign_z n)) (truth (int_lt m n))
less_in (pos zero) (pos zero) = nil_has
less_in (pos zero) (pos (suc n)) = rw (zero_positive n) t_has
less_in (pos zero) (negsuc n) = nil_has
less_in (pos (suc m)) (pos zero) = rw (not_below (suc m)) nil_has
less_in (pos (suc m)) (pos (suc n)) = has_truth (int_lt (pos (suc m)) (pos (suc n)))
less_in (pos (suc m)) (negsuc n) = nil_has
less_in (negsuc m) (pos zero) = t_has
less_in (negsuc m) (pos (suc n)) = t_has
less_in (negsuc m) (negsuc n) = has_truth (int_lt (negsuc m) (negsuc n))

-- types that share their bit are one
pub same_kind : (j k : Kind) → meets (bit j) (bit k) ≡ true → j ≡ k
same_kind Zero Zero h = refl
same_kind Positive Positive h = refl
same_kind Negative Negative h = refl
same_kind Nil Nil h = refl
same_kind True True h = refl
same_kind OtherSymbol OtherSymbol h = refl
same_kind Proper Proper h = refl
same_kind Improper Improper h = refl
same_kind Text Text h = refl
same_kind Character Character h = refl
same_kind j k h = cc

-- the one value of a type that has one
abbrev pub IsOne : Kind → V → Type 0
IsOne Zero x = x ≡ int (pos 0)
IsOne Nil x = x ≡ nil
IsOne True x = x ≡ t
IsOne k x = Unit {0}

is_one : (x : V) → IsOne (kind_of x) x
is_one (int (pos zero)) = refl
is_one (int (pos (suc n))) = tt
is_one (int (negsuc n)) = tt
is_one (chr c) = tt
is_one (str s) = tt
is_one (cons a b) = cons_cases (λ k. IsOne k (cons a b)) tt tt b
is_one (symbol k s) = go (value_eq (symbol k s) nil) refl (value_eq (symbol k s) t) refl
  where
    go : (b : Bool) → value_eq (symbol k s) nil ≡ b → (c : Bool) → value_eq (symbol k s) t ≡ c → IsOne (cond b Nil (cond c True OtherSymbol)) (symbol k s)
    go true p c q = value_eq-true (symbol k s) nil p
    go false p true q = value_eq-true (symbol k s) t q
    go false p false q = tt

pub ones_same : (k : Kind) (x y : V) → is_single k ≡ true → IsOne k x → IsOne k y → x ≡ y
ones_same Zero x y s p q = p ∙ sym q
ones_same Nil x y s p q = p ∙ sym q
ones_same True x y s p q = p ∙ sym q
ones_same k x y s p q = cc

pub single_same : (x y : V) → kind_of x ≡ kind_of y → is_single (kind_of y) ≡ true → x ≡ y
single_same x y h s = ones_same (kind_of y) x y s (subst (λ k. IsOne k x) h (is_one x)) (is_one y)

pub kinds_apart : (x y : V) → value_eq x y ≡ false → is_single (kind_of y) ≡ true → kind_of x ≢ kind_of y
kinds_apart x y h s e = absurd (true≢false (sym (subst (λ z. value_eq x z ≡ true) (single_same x y e s) (value_eq-same x)) ∙ h))

pub equal_in : (x y : V) → In (equal_row (kind_of x) (kind_of y)) (truth (value_eq x y))
equal_in x y = go (meets (bit (kind_of x)) (bit (kind_of y))) refl
  where
    single : (s : Bool) → is_single (kind_of x) ≡ s → kind_of x ≡ kind_of y → In (cond s t_bit (nil_bit + t_bit)) (truth (value_eq x y))
    single true s e = rw (subst (λ z. value_eq x z ≡ true) (single_same x y e (subst (λ k. is_single k ≡ true) e s)) (value_eq-same x)) t_has
    single false s e = has_truth (value_eq x y)

    apart : (b : Bool) → value_eq x y ≡ b → meets (bit (kind_of x)) (bit (kind_of y)) ≡ false → In nil_bit (truth b)
    apart true e h = absurd (true≢false (sym (subst (λ z. meets (bit (kind_of x)) (bit (kind_of z)) ≡ true) (value_eq-true x y e) (meets_own (bit (kind_of x)) x (in_own x))) ∙ h))
    apart false e h = nil_has

    go : (b : Bool) → meets (bit (kind_of x)) (bit (kind_of y)) ≡ b → In (cond b (cond (is_single (kind_of x)) t_bit (nil_bit + t_bit)) nil_bit) (truth (value_eq x y))
    go true h = single (is_single (kind_of x)) refl (same_kind (kind_of x) (kind_of y) h)
    go false h = apart (value_eq x y) refl h

cons_in : (x y : V) → In (cons_row (kind_of y)) (cons x y)
unfolding value_eq nil names_open
cons_in x (int (pos zero)) = refl
cons_in x (int (pos (suc n))) = refl
cons_in x (int (negsuc n)) = refl
cons_in x (chr c) = refl
cons_in x (str s) = refl
cons_in x (cons a b) = go (is_true_list b)
  where
    go : (c : Bool) → bit_at (cons_row (cond c Proper Improper)) (cond c 6 7) ≡ 1
    go true = refl
    go false = refl
cons_in x (symbol k s) = go (value_eq (symbol k s) nil) (value_eq (symbol k s) t)
  where
    go : (b c : Bool) → bit_at (cons_row (cond b Nil (cond c True OtherSymbol))) (cond b 6 7) ≡ 1
    go true c = refl
    go false true = refl
    go false false = refl

car_in : (x : V) → In (car_row (kind_of x)) (car_of x)
car_in (cons a b) = cons_cases (λ k. In (car_row k) a) (all_in a) (all_in a) b
car_in (int n) = int_cases (λ k. In (car_row k) nil) nil_has nil_has nil_has n
car_in (symbol k s) = symbol_cases (λ k. In (car_row k) nil) nil_has nil_has nil_has (symbol k s)
car_in (chr c) = nil_has
car_in (str s) = nil_has

-- a true list, and another value
pub listed_in : (b : V) → is_true_list b ≡ true → In (nil_bit + proper_bit) b
listed_in (cons c d) h = rw h refl
listed_in b h = subst (In (nil_bit + proper_bit)) (sym (value_eq-true b nil h)) nil_listed
  where
    nil_listed : In (nil_bit + proper_bit) nil
    nil_listed = subst (λ n. bit_at (nil_bit + proper_bit) n ≡ 1) (sym nil_type) refl

unlisted_in : (b : V) → is_true_list b ≡ false → In (without (nil_bit + proper_bit)) b
unlisted_in (cons c d) h = rw h refl
unlisted_in (int (pos zero)) h = refl
unlisted_in (int (pos (suc n))) h = refl
unlisted_in (int (negsuc n)) h = refl
unlisted_in (chr c) h = refl
unlisted_in (str s) h = refl
unlisted_in (symbol k s) h = rw h (go (value_eq (symbol k s) t))
  where
    go : (c : Bool) → bit_at (without (nil_bit + proper_bit)) (cond c 4 5) ≡ 1
    go true = refl
    go false = refl

cdr_in : (x : V) → In (cdr_row (kind_of x)) (cdr_of x)
cdr_in (cons a b) = go (is_true_list b) refl
  where
    go : (c : Bool) → is_true_list b ≡ c → In (cdr_row (cond c Proper Improper)) b
    go true h = listed_in b h
    go false h = unlisted_in b h
cdr_in (int n) = int_cases (λ k. In (cdr_row k) nil) nil_has nil_has nil_has n
cdr_in (symbol k s) = symbol_cases (λ k. In (cdr_row k) nil) nil_has nil_has nil_has (symbol k s)
cdr_in (chr c) = nil_has
cdr_in (str s) = nil_has

char_code_in : (x : V) → In (char_code_row (kind_of x)) (char_code_of x)
char_code_in (chr c) = natural_in c.code
char_code_in (int n) = int_cases (λ k. In (char_code_row k) (int (pos 0))) refl refl refl n
char_code_in (symbol k s) = symbol_cases (λ k. In (char_code_row k) (int (pos 0))) refl refl refl (symbol k s)
char_code_in (cons a b) = cons_cases (λ k. In (char_code_row k) (int (pos 0))) refl refl b
char_code_in (str s) = refl

code_char_in : (x : V) → In character_bit (code_char_of x)
code_char_in (int (pos n)) = refl
code_char_in (int (negsuc n)) = refl
code_char_in (chr c) = refl
code_char_in (str s) = refl
code_char_in (symbol k s) = refl
code_char_in (cons a b) = refl

symbol_name_in : (x : V) → In string_bit (symbol_name_of x)
symbol_name_in (int n) = refl
symbol_name_in (chr c) = refl
symbol_name_in (str s) = refl
symbol_name_in (symbol k s) = refl
symbol_name_in (cons a b) = refl

chars_listed : (s : List Byte) → is_true_list (chars_to s) ≡ true
unfolding value_eq nil names_open
chars_listed [] = refl
chars_listed (c ∷ cs) = chars_listed cs

to_listed : (x : V) → is_true_list (to_list x) ≡ true
to_listed (str s) = chars_listed s
to_listed x = chars_listed []

to_list_in : (x : V) → In (nil_bit + proper_bit) (to_list x)
to_list_in x = listed_in (to_list x) (to_listed x)

pub coerce_constant : (x y : V) → In (cond (value_eq y (symbol_value list_name)) (nil_bit + proper_bit) string_bit) (coerce_of x y)
coerce_constant x y = go (value_eq y (symbol_value list_name))
  where
    go : (b : Bool) → In (cond b (nil_bit + proper_bit) string_bit) (cond b (to_list x) (str (chars_from x)))
    go true = to_list_in x
    go false = refl

pub coerce_any : (x y : V) → In (nil_bit + proper_bit + string_bit) (coerce_of x y)
coerce_any x y = go (value_eq y (symbol_value list_name))
  where
    wide : (v : V) → is_true_list v ≡ true → In (nil_bit + proper_bit + string_bit) v
    wide (cons a b) h = rw h refl
    wide v h = subst (In (nil_bit + proper_bit + string_bit)) (sym (value_eq-true v nil h)) (subst (λ n. bit_at (nil_bit + proper_bit + string_bit) n ≡ 1) (sym nil_type) refl)

    go : (b : Bool) → In (nil_bit + proper_bit + string_bit) (cond b (to_list x) (str (chars_from x)))
    go true = wide (to_list x) (to_listed x)
    go false = refl

-- a primitive of one argument, and of two
pub one_in : (p : Prim) (x v : V) → prim p (x ∷ []) ≡ Some v → In (row_one p (kind_of x)) v
one_in Car x v h = let e : car_of x ≡ v = cc in subst (In (car_row (kind_of x))) e (car_in x)
one_in Cdr x v h = let e : cdr_of x ≡ v = cc in subst (In (cdr_row (kind_of x))) e (cdr_in x)
one_in Minus x v h = let e : int (neg_ℤ (int_of x)) ≡ v = cc in subst (In (minus_row (sign_of (kind_of x)))) e (rw (signed_as x) (minus_in (int_of x)))
one_in CharCode x v h = let e : char_code_of x ≡ v = cc in subst (In (char_code_row (kind_of x))) e (char_code_in x)
one_in CodeChar x v h = let e : code_char_of x ≡ v = cc in subst (In character_bit) e (code_char_in x)
one_in SymbolName x v h = let e : symbol_name_of x ≡ v = cc in subst (In string_bit) e (symbol_name_in x)
one_in p x v h = all_in v

pub two_in : (p : Prim) (x y v : V) → prim p (x ∷ y ∷ []) ≡ Some v → In (row_two p (kind_of x) (kind_of y)) v
two_in Equal x y v h = let e : truth (value_eq x y) ≡ v = cc in subst (In (equal_row (kind_of x) (kind_of y))) e (equal_in x y)
two_in Less x y v h = let e : truth (int_lt (int_of x) (int_of y)) ≡ v = cc in subst (In (less_row (sign_of (kind_of x)) (sign_of (kind_of y)))) e (rw (signed_as x, signed_as y) (less_in (int_of x) (int_of y)))
two_in Plus x y v h = let e : int (int_of x +ℤ int_of y) ≡ v = cc in subst (In (plus_row (sign_of (kind_of x)) (sign_of (kind_of y)))) e (rw (signed_as x, signed_as y) (plus_in (int_of x) (int_of y)))
two_in Times x y v h = let e : int (int_of x *ℤ int_of y) ≡ v = cc in subst (In (times_row (sign_of (kind_of x)) (sign_of (kind_of y)))) e (rw (signed_as x, signed_as y) (times_in (int_of x) (int_of y)))
two_in Cons x y v h = let e : cons x y ≡ v = cc in subst (In (cons_row (kind_of y))) e (cons_in x y)
two_in p x y v h = all_in v
