-- What a sound world says of the entries that are looked up in it.
use Rattle.std.proofs.Common.{◌≡◌, ℕ, zero, suc, Bool, true, false, cond, List, [], ◌∷◌, length, Option, Some, None, slice_get, refl, ap, sym, ◌∙◌, subst}
use Rattle.ap_list.specs.Lists.{Each}
use Rattle.ap_value.specs.declared.symbol.Symbol.{Symbol}
use Rattle.ap_value.specs.Values.{V, symbol_eq}
use Rattle.ap_value.proofs.Equals.{symbol_eq-true}
use Rattle.ap_world.specs.declared.entry.Function.{Function}
use Rattle.ap_world.specs.declared.entry.Theorem.{Theorem}
use Rattle.ap_world.specs.declared.entry.Entry.{Entry}
use Rattle.ap_world.specs.declared.entry.Entry.TheVariants as entry
use Rattle.ap_world.specs.Meaning.{CallValue}
use Rattle.ap_world.specs.Types.{Has}
use Rattle.ap_world.specs.Sound.{GoodFunction, GoodTheorem, Good, Sound}
use Rattle.ap_world.specs.World.{name_in, entry_of, as_function, as_theorem, function_of, theorem_of}
use Rattle.ap_world.proofs.Adding.{call_defined}

-- the entry that is found has the name, and what holds of each entry holds of it
pub found_entry : (P : Entry → Type 0) (W : List Entry) (x : Symbol) (y : Entry) → Each P W → entry_of W x ≡ Some y → P y × (name_in y ≡ x)
found_entry P [] x y ps h = absurd (no h)
  where
    no : None ≡ Some y → ⊥
    no k = cc
found_entry P (z ∷ W) x y ps h = choose (symbol_eq x (name_in z)) refl (found_entry P W x y ps.1) h
  where
    choose : (b : Bool) → symbol_eq x (name_in z) ≡ b → (entry_of W x ≡ Some y → P y × (name_in y ≡ x)) → cond b (Some z) (entry_of W x) ≡ Some y → P y × (name_in y ≡ x)
    choose true q k l =
        let same : z ≡ y = cc in
        (subst P same ps.0, ap name_in (sym same) ∙ sym (symbol_eq-true x (name_in z) q))
    choose false q k l = k l

-- the entry at a place
pub entry_at : (P : Entry → Type 0) (W : List Entry) (i : ℕ) (y : Entry) → Each P W → slice_get W i ≡ Some y → P y
entry_at P [] i y ps h = absurd (no h)
  where
    no : None ≡ Some y → ⊥
    no k = cc
entry_at P (z ∷ W) zero y ps h = let same : z ≡ y = cc in subst P same ps.0
entry_at P (z ∷ W) (suc i) y ps h = entry_at P W i y ps.1 h

-- a function of a sound world is good, and has the name under which it stands
pub good_of : (W : List Entry) → Sound W → (f : Symbol) (g : Function) → function_of W f ≡ Some g → GoodFunction (function_of W) g × (g.name ≡ f)
good_of W sound f g h = go (entry_of W f) refl h
  where
    go : (o : Option Entry) → entry_of W f ≡ o → as_function o ≡ Some g → GoodFunction (function_of W) g × (g.name ≡ f)
    go (Some (entry.Function k)) e l =
        let p = found_entry (Good (function_of W)) W f (entry.Function k) sound.good e in
        let same : k ≡ g = cc in
        (subst (GoodFunction (function_of W)) same p.0, ap (λ (j : Function). j.name) (sym same) ∙ p.1)
    go (Some (entry.Theorem u)) e l = absurd (no l)
      where
        no : None ≡ Some g → ⊥
        no k = cc
    go (Some (entry.Constant c v)) e l = absurd (no l)
      where
        no : None ≡ Some g → ⊥
        no k = cc
    go None e l = absurd (no l)
      where
        no : None ≡ Some g → ⊥
        no k = cc

-- a theorem of a sound world is known and valid
pub theorem_good : (W : List Entry) → Sound W → (x : Symbol) (u : Theorem) → theorem_of W x ≡ Some u → GoodTheorem (function_of W) u
theorem_good W sound x u h = go (entry_of W x) refl h
  where
    no : None ≡ Some u → ⊥
    no k = cc

    go : (o : Option Entry) → entry_of W x ≡ o → as_theorem o ≡ Some u → GoodTheorem (function_of W) u
    go (Some (entry.Theorem k)) e l =
        let p = found_entry (Good (function_of W)) W x (entry.Theorem k) sound.good e in
        let same : k ≡ u = cc in
        subst (GoodTheorem (function_of W)) same p.0
    go (Some (entry.Function k)) e l = absurd (no l)
    go (Some (entry.Constant c v)) e l = absurd (no l)
    go None e l = absurd (no l)

-- what a call of a function gives is in the function's mask
pub mask_holds : (W : List Entry) → Sound W → (f : Symbol) (g : Function) → function_of W f ≡ Some g → (vs : List V) (v : V) → CallValue (function_of W) f vs v → Has g.mask v
mask_holds W sound f g h vs v value =
    let p = good_of W sound f g h in
    let (k, e, l) = call_defined (function_of W) f vs v value in
    let same : k ≡ g = cc in
    p.0.mask vs v (ap (λ (j : Function). length j.formals) (sym same) ∙ l) (subst (λ x. CallValue (function_of W) x vs v) (sym p.1) value)
