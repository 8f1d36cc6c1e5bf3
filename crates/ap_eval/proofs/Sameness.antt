-- Tests of equal values, as the definitions compute them.
use Rattle.std.proofs.Common.{◌≡◌, ℕ, ◌↔◌, Bool, true, false, IsTrue, List, map, refl, ap, sym, ◌∙◌}
use Rattle.ap_value.specs.declared.symbol.Symbol.{Symbol}
use Rattle.ap_value.specs.declared.value.Value.{Value}
use Rattle.ap_value.specs.declared.value.Value.TheVariants.{Sym}
use Rattle.ap_value.specs.Values.{Byte, byte_of, V, sym as symbol, val_of, acl2, value_eq}
use Rattle.ap_value.proofs.Equals.{value_eq-true, value_eq-same}
use Rattle.ap_world.specs.Primitives.{symbol_value}
use Rattle.ap_world.proofs.Equations.{val_of_sym}

-- a test that tells whether two values are one is the test of equality
pub test_is : (b : Bool) (v w : V) → (IsTrue b ↔ (v ≡ w)) → b ≡ value_eq v w
test_is true v w h = sym (ap (value_eq v) (sym (h.0 refl)) ∙ value_eq-same v)
test_is false v w h = go (value_eq v w) refl
  where
    go : (k : Bool) → value_eq v w ≡ k → false ≡ k
    go true e = h.1 (value_eq-true v w e)
    go false e = refl

spelt : (b : Bool) (xs ys : List Byte) → (IsTrue b ↔ (xs ≡ ys)) → b ≡ value_eq (symbol false xs) (symbol false ys)
spelt b xs ys h = test_is b (symbol false xs) (symbol false ys) (λ k. ap (symbol false) (h.0 k), λ e. h.1 (ap name e))
  where
    name : V → List Byte
    name (symbol k s) = s
    name v = xs

-- a symbol of package ACL2 is one of this name where the names are spelt alike
pub spelt_named : (v : Value) (s : Symbol) (name : List ℕ) (b : Bool) → v ≡ Sym s → s.keyword ≡ false
    → (IsTrue b ↔ (map byte_of s.name ≡ map byte_of name)) → b ≡ value_eq (val_of v) (symbol_value (acl2 name))
spelt_named v s name b is plain h = spelt b (map byte_of s.name) (map byte_of name) h
    ∙ ap (λ k. value_eq (symbol k (map byte_of s.name)) (symbol_value (acl2 name))) (sym plain)
    ∙ ap (λ w. value_eq w (symbol_value (acl2 name))) (sym (ap val_of is ∙ val_of_sym s))

-- a keyword is none
pub keyword_named : (v : Value) (s : Symbol) (name : List ℕ) → v ≡ Sym s → s.keyword ≡ true → false ≡ value_eq (val_of v) (symbol_value (acl2 name))
unfolding value_eq
keyword_named v s name is key = ap (λ k. value_eq (symbol k (map byte_of s.name)) (symbol_value (acl2 name))) (sym key)
    ∙ ap (λ w. value_eq w (symbol_value (acl2 name))) (sym (ap val_of is ∙ val_of_sym s))
