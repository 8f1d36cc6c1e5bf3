-- A primitive has no value exactly where an integer leaves 128 bits.
use Rattle.std.proofs.Common.{◌≡◌, Bool, true, false, cond, ◌↔◌, ℤ, ◌+ℤ◌, ◌*ℤ◌, neg_ℤ, List, [], ◌∷◌, map, Some, None, refl, ap, sym, ◌∙◌}
use Rattle.ap_value.specs.declared.value.Value.{Value}
use Rattle.ap_value.specs.declared.value.Value.TheVariants.{Int}
use Rattle.ap_value.specs.Values.{V, int, val_of}
use Rattle.ap_world.specs.declared.primitive.Primitive.{Primitive as Prim}
use Rattle.ap_world.specs.declared.primitive.Primitive.TheVariants.{If, Equal, Consp, Integerp, Symbolp, Stringp, Characterp, Cons, Car, Cdr, Plus, Times, Minus, Less, CharCode, CodeChar, SymbolName, Coerce}
use Rattle.ap_world.specs.Primitives.{prim, int_of}
use Rattle.ap_world.specs.Units.{is_narrow, narrow, int_constant, unary, binary, prim_value, is_choice}
use Rattle.ap_eval.specs.Laws.{is_arithmetic, Overflows}

-- what is made of an integer is none exactly where 128 bits don't hold it
made : (p : Prim) (z : ℤ) (v : V) → is_arithmetic p ≡ true → Some (int z) ≡ Some v → (int_constant (narrow z) ≡ None) ↔ Overflows p v
made p z v arithmetic same = (there (is_narrow z) refl, back)
  where
    is : v ≡ int z
    is = cc

    there : (b : Bool) → is_narrow z ≡ b → int_constant (cond b (Some z) None) ≡ None → Overflows p v
    there true e h = absurd (no h)
      where
        no : Some (Int z) ≡ None → ⊥
        no q = cc
    there false e h = record { arithmetic = arithmetic; integer = z; is = is; leaves = e }

    back : Overflows p v → int_constant (narrow z) ≡ None
    back o =
        let i : int z ≡ int o.integer = sym is ∙ o.is in
        let j : z ≡ o.integer = cc in
        let wide : is_narrow z ≡ false = ap is_narrow j ∙ o.leaves in
        ap (λ b. int_constant (cond b (Some z) None)) wide

-- another primitive has its value
valued : (p : Prim) (w : Value) (v : V) → is_arithmetic p ≡ false → (Some w ≡ None) ↔ Overflows p v
valued p w v plain = (λ h. absurd (no h), λ o. absurd (both o.arithmetic))
  where
    no : Some w ≡ None → ⊥
    no q = cc

    both : is_arithmetic p ≡ true → ⊥
    both q = cc

-- without a meaning nothing is said
meant : (v : V) {A : Type 0} → None ≡ Some v → A
meant v h = absurd (no h)
  where
    no : None ≡ Some v → ⊥
    no q = cc

unary_overflow : (p : Prim) (x : Value) (v : V) → prim p (val_of x ∷ []) ≡ Some v → (unary p x ≡ None) ↔ Overflows p v
unary_overflow Consp x v h = valued Consp _ v refl
unary_overflow Integerp x v h = valued Integerp _ v refl
unary_overflow Symbolp x v h = valued Symbolp _ v refl
unary_overflow Stringp x v h = valued Stringp _ v refl
unary_overflow Characterp x v h = valued Characterp _ v refl
unary_overflow Car x v h = valued Car _ v refl
unary_overflow Cdr x v h = valued Cdr _ v refl
unary_overflow Minus x v h = made Minus (neg_ℤ (int_of (val_of x))) v refl h
unary_overflow CharCode x v h = valued CharCode _ v refl
unary_overflow CodeChar x v h = valued CodeChar _ v refl
unary_overflow SymbolName x v h = valued SymbolName _ v refl
unary_overflow p x v h = meant v h

binary_overflow : (p : Prim) (x y : Value) (v : V) → prim p (val_of x ∷ val_of y ∷ []) ≡ Some v → (binary p x y ≡ None) ↔ Overflows p v
binary_overflow Equal x y v h = valued Equal _ v refl
binary_overflow Cons x y v h = valued Cons _ v refl
binary_overflow Plus x y v h = made Plus (int_of (val_of x) +ℤ int_of (val_of y)) v refl h
binary_overflow Times x y v h = made Times (int_of (val_of x) *ℤ int_of (val_of y)) v refl h
binary_overflow Less x y v h = valued Less _ v refl
binary_overflow Coerce x y v h = valued Coerce _ v refl
binary_overflow p x y v h = meant v h

strict_three : (p : Prim) (x y z : V) (vs : List V) (v : V) → is_choice p ≡ false → prim p (x ∷ y ∷ z ∷ vs) ≡ Some v → ⊥
strict_three If x y z vs v c h = absurd (no c)
  where
    no : true ≡ false → ⊥
    no q = cc
strict_three p x y z vs v c h = meant v h

none_empty : (p : Prim) (v : V) → prim p [] ≡ Some v → ⊥
none_empty If v h = meant v h
none_empty p v h = meant v h

pub wide_overflow : (p : Prim) (vs : List Value) (v : V) → is_choice p ≡ false → prim p (map val_of vs) ≡ Some v → (prim_value p vs ≡ None) ↔ Overflows p v
wide_overflow p (x ∷ []) v c h = unary_overflow p x v h
wide_overflow p (x ∷ y ∷ []) v c h = binary_overflow p x y v h
wide_overflow p [] v c h = absurd (none_empty p v h)
wide_overflow p (x ∷ y ∷ z ∷ vs) v c h = absurd (strict_three p (val_of x) (val_of y) (val_of z) (map val_of vs) v c h)
