-- What a primitive gives on values means what it gives on what they mean.
use Rattle.std.proofs.Common.{◌≡◌, ℕ, ◌%◌, Bool, true, false, cond, ℤ, pos, negsuc, ◌+ℤ◌, ◌*ℤ◌, neg_ℤ, nat_lt, List, [], ◌∷◌, map, Some, None, refl, ap, sym, ◌∙◌}
use Rattle.ap_value.specs.declared.value.Value.{Value, fold-roll-Value, roll-Value, out-Value, roll-out-Value}
use Rattle.ap_value.specs.declared.value.Value.TheOpen.{Value-F}
use Rattle.ap_value.specs.declared.value.Value.TheVariants.{Int, Chr, Str, Cons as Pair}
use Rattle.ap_value.specs.Values.{Byte, byte_of, V, int, chr, str, cons, val_step, val_of, value_eq}
use Rattle.ap_value.proofs.Bytes.{byte_of_code}
use Rattle.ap_world.specs.declared.primitive.Primitive.{Primitive as Prim}
use Rattle.ap_world.specs.declared.primitive.Primitive.TheVariants.{Equal, Consp, Integerp, Symbolp, Stringp, Characterp, Cons, Car, Cdr, Plus, Times, Minus, Less, CharCode, CodeChar, SymbolName, Coerce}
use Rattle.ap_world.specs.Names.{list_name}
use Rattle.ap_world.specs.Primitives.{symbol_value, truth, prim, car_of, cdr_of, int_of, char_code_of, code_char_of, symbol_name_of, chars_to, chars_from, to_list, coerce_of}
use Rattle.ap_world.specs.Units.{truth_constant, narrow, is_narrow, int_constant, first_part, rest_part, code_part, character_part, name_part, characters, list_part, codes_in, coerced, unary, binary, prim_value}
use Rattle.ap_world.proofs.Equations.{val_of_int, val_of_chr, val_of_str, val_of_cons, val_of_nil, val_of_t}

-- what one level over other values means
level : (y : Value-F Value) → V
level (Value-F.Int n) = int n
level (Value-F.Chr c) = chr (byte_of c)
level (Value-F.Str s) = str (map byte_of s)
level (Value-F.Sym s) = symbol_value s
level (Value-F.Cons a b) = cons (val_of a) (val_of b)

val_level : (y : Value-F Value) → val_of (roll-Value y) ≡ level y
unfolding level
val_level (Value-F.Int n) = fold-roll-Value V val_step (Value-F.Int n)
val_level (Value-F.Chr c) = fold-roll-Value V val_step (Value-F.Chr c)
val_level (Value-F.Str s) = fold-roll-Value V val_step (Value-F.Str s)
val_level (Value-F.Sym s) = fold-roll-Value V val_step (Value-F.Sym s)
val_level (Value-F.Cons a b) = fold-roll-Value V val_step (Value-F.Cons a b)

-- a value means what its level means
val_out : (v : Value) → val_of v ≡ level (out-Value v)
val_out v = ap val_of (sym (roll-out-Value v)) ∙ val_level (out-Value v)

truth_means : (b : Bool) → val_of (truth_constant b) ≡ truth b
truth_means true = val_of_t
truth_means false = val_of_nil

-- each part means that of what the value means
first_means : (y : Value-F Value) → val_of (first_part y) ≡ car_of (level y)
unfolding level
first_means (Value-F.Int n) = val_of_nil
first_means (Value-F.Chr n) = val_of_nil
first_means (Value-F.Str n) = val_of_nil
first_means (Value-F.Sym n) = val_of_nil
first_means (Value-F.Cons a b) = refl

rest_means : (y : Value-F Value) → val_of (rest_part y) ≡ cdr_of (level y)
unfolding level
rest_means (Value-F.Int n) = val_of_nil
rest_means (Value-F.Chr n) = val_of_nil
rest_means (Value-F.Str n) = val_of_nil
rest_means (Value-F.Sym n) = val_of_nil
rest_means (Value-F.Cons a b) = refl

code_means : (y : Value-F Value) → val_of (code_part y) ≡ char_code_of (level y)
unfolding level
code_means (Value-F.Int n) = val_of_int (pos 0)
code_means (Value-F.Chr n) = val_of_int (pos (n % 256))
code_means (Value-F.Str n) = val_of_int (pos 0)
code_means (Value-F.Sym n) = val_of_int (pos 0)
code_means (Value-F.Cons a b) = val_of_int (pos 0)

character_means : (y : Value-F Value) → val_of (character_part y) ≡ code_char_of (level y)
unfolding level
character_means (Value-F.Int (pos n)) = val_of_chr (cond (nat_lt n 256) n 0)
character_means (Value-F.Int (negsuc n)) = val_of_chr 0
character_means (Value-F.Chr n) = val_of_chr 0
character_means (Value-F.Str n) = val_of_chr 0
character_means (Value-F.Sym n) = val_of_chr 0
character_means (Value-F.Cons a b) = val_of_chr 0

name_means : (y : Value-F Value) → val_of (name_part y) ≡ symbol_name_of (level y)
unfolding level
name_means (Value-F.Int n) = val_of_str []
name_means (Value-F.Chr n) = val_of_str []
name_means (Value-F.Str n) = val_of_str []
name_means (Value-F.Sym n) = val_of_str n.name
name_means (Value-F.Cons a b) = val_of_str []

characters_mean : (s : List ℕ) → val_of (characters s) ≡ chars_to (map byte_of s)
characters_mean [] = val_of_nil
characters_mean (c ∷ cs) = val_of_cons (Chr c) (characters cs) ∙ (λ i. cons (val_of_chr c i) (characters_mean cs i))

list_means : (y : Value-F Value) → val_of (list_part y) ≡ to_list (level y)
unfolding level
list_means (Value-F.Int n) = val_of_nil
list_means (Value-F.Chr n) = val_of_nil
list_means (Value-F.Str n) = characters_mean n
list_means (Value-F.Sym n) = val_of_nil
list_means (Value-F.Cons a b) = val_of_nil

codes_mean : (bs : List Byte) → map byte_of (map (λ (b : Byte). b.code) bs) ≡ bs
codes_mean [] = refl
codes_mean (b ∷ bs) = λ i. byte_of_code b i ∷ codes_mean bs i

coerced_means : (x y : Value) → val_of (coerced x y) ≡ coerce_of (val_of x) (val_of y)
coerced_means x y = choose (value_eq (val_of y) (symbol_value list_name))
  where
    choose : (b : Bool) → val_of (cond b (list_part (out-Value x)) (Str (codes_in x))) ≡ cond b (to_list (val_of x)) (str (chars_from (val_of x)))
    choose true = list_means (out-Value x) ∙ ap to_list (sym (val_out x))
    choose false = val_of_str (codes_in x) ∙ ap str (codes_mean (chars_from (val_of x)))

-- the value of an integer that 128 bits hold
int_means : (z : ℤ) (w : Value) → int_constant (narrow z) ≡ Some w → int z ≡ val_of w
int_means z w h = go (is_narrow z) h
  where
    go : (b : Bool) → int_constant (cond b (Some z) None) ≡ Some w → int z ≡ val_of w
    go true k = let e : Int z ≡ w = cc in sym (val_of_int z) ∙ ap val_of e
    go false k = absurd (no k)
      where
        no : None ≡ Some w → ⊥
        no q = cc

-- a value that is given is the one that is said
given : (u w : Value) (v : V) → val_of u ≡ v → Some u ≡ Some w → Some v ≡ Some (val_of w)
given u w v m h = let e : u ≡ w = cc in ap Some (sym m ∙ ap val_of e)

none : (w : Value) {A : Type 0} → None ≡ Some w → A
none w h = absurd (no h)
  where
    no : None ≡ Some w → ⊥
    no q = cc

unary_means : (p : Prim) (x w : Value) → unary p x ≡ Some w → prim p (val_of x ∷ []) ≡ Some (val_of w)
unary_means Consp x w h = given _ w _ (truth_means _) h
unary_means Integerp x w h = given _ w _ (truth_means _) h
unary_means Symbolp x w h = given _ w _ (truth_means _) h
unary_means Stringp x w h = given _ w _ (truth_means _) h
unary_means Characterp x w h = given _ w _ (truth_means _) h
unary_means Car x w h = given (first_part (out-Value x)) w (car_of (val_of x)) (first_means (out-Value x) ∙ ap car_of (sym (val_out x))) h
unary_means Cdr x w h = given (rest_part (out-Value x)) w (cdr_of (val_of x)) (rest_means (out-Value x) ∙ ap cdr_of (sym (val_out x))) h
unary_means Minus x w h = ap Some (int_means (neg_ℤ (int_of (val_of x))) w h)
unary_means CharCode x w h = given (code_part (out-Value x)) w (char_code_of (val_of x)) (code_means (out-Value x) ∙ ap char_code_of (sym (val_out x))) h
unary_means CodeChar x w h = given (character_part (out-Value x)) w (code_char_of (val_of x)) (character_means (out-Value x) ∙ ap code_char_of (sym (val_out x))) h
unary_means SymbolName x w h = given (name_part (out-Value x)) w (symbol_name_of (val_of x)) (name_means (out-Value x) ∙ ap symbol_name_of (sym (val_out x))) h
unary_means p x w h = none w h

binary_means : (p : Prim) (x y w : Value) → binary p x y ≡ Some w → prim p (val_of x ∷ val_of y ∷ []) ≡ Some (val_of w)
binary_means Equal x y w h = given _ w _ (truth_means _) h
binary_means Cons x y w h = given (Pair x y) w (cons (val_of x) (val_of y)) (val_of_cons x y) h
binary_means Plus x y w h = ap Some (int_means (int_of (val_of x) +ℤ int_of (val_of y)) w h)
binary_means Times x y w h = ap Some (int_means (int_of (val_of x) *ℤ int_of (val_of y)) w h)
binary_means Less x y w h = given _ w _ (truth_means _) h
binary_means Coerce x y w h = given (coerced x y) w (coerce_of (val_of x) (val_of y)) (coerced_means x y) h
binary_means p x y w h = none w h

-- a primitive's value means the primitive's value at what the arguments mean
pub prim_means : (p : Prim) (vs : List Value) (w : Value) → prim_value p vs ≡ Some w → prim p (map val_of vs) ≡ Some (val_of w)
prim_means p (x ∷ []) w h = unary_means p x w h
prim_means p (x ∷ y ∷ []) w h = binary_means p x y w h
prim_means p [] w h = none w h
prim_means p (x ∷ y ∷ z ∷ vs) w h = none w h
