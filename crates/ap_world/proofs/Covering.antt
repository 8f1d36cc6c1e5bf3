-- A world covers another one where it has each entry of that, masks aside.
use Rattle.std.proofs.Common.{◌≡◌, Bool, true, false, cond, List, [], ◌∷◌, ◌++◌, Option, Some, None, is_some, refl, ap, ◌∙◌, sym, subst}
use Rattle.ap_value.specs.declared.symbol.Symbol.{Symbol}
use Rattle.ap_value.specs.Values.{symbol_eq}
use Rattle.ap_value.proofs.Equals.{symbol_eq-true, symbol_eq-same}
use Rattle.ap_world.specs.declared.entry.Function.{Function}
use Rattle.ap_world.specs.declared.entry.Entry.{Entry}
use Rattle.ap_world.specs.declared.entry.Entry.TheVariants as entry
use Rattle.ap_world.specs.Alike.{SameButMask, DefinesAlike, Covers}
use Rattle.ap_world.specs.Including.{has_clash, NoClash, with_missing}
use Rattle.ap_world.specs.Primitives.{prim_of}
use Rattle.ap_world.specs.World.{name_in, entry_of, as_function, function_of, has_name, are_distinct}
use Rattle.ap_world.proofs.Alikes.{alike-same, alike_self}
use Rattle.ap_world.proofs.Extending.{entry_of-kept, entry_of-passed}
use Rattle.ap_world.proofs.Included.{entry_function, included_old, included_new, without_clash, clash_without}
use Rattle.ap_world.proofs.Places.{free_prim, free_entry, not_either}

-- to be one but for a mask is an equality
pub same_self : (y : Entry) → SameButMask y y
same_self y = alike-same y y (alike_self y)

pub same_turned : (y z : Entry) → SameButMask y z → SameButMask z y
same_turned (entry.Function f) (entry.Function g) s =
    record { name = sym s.name; formals = sym s.formals; body = sym s.body; measure = sym s.measure; cases = sym s.cases }
same_turned (entry.Theorem t) (entry.Theorem u) s = sym s
same_turned (entry.Constant c v) (entry.Constant d w) s = sym s
same_turned y z s = absurd (cc s)

pub same_through : (x y z : Entry) → SameButMask x y → SameButMask y z → SameButMask x z
same_through (entry.Function f) (entry.Function g) (entry.Function h) s r =
    record { name = s.name ∙ r.name; formals = s.formals ∙ r.formals; body = s.body ∙ r.body; measure = s.measure ∙ r.measure; cases = s.cases ∙ r.cases }
same_through (entry.Function f) (entry.Function g) z s r = absurd (cc r)
same_through (entry.Theorem t) (entry.Theorem u) (entry.Theorem v) s r = s ∙ r
same_through (entry.Theorem t) (entry.Theorem u) z s r = absurd (cc r)
same_through (entry.Constant c v) (entry.Constant d w) (entry.Constant e x) s r = s ∙ r
same_through (entry.Constant c v) (entry.Constant d w) z s r = absurd (cc r)
same_through x y z s r = absurd (cc s)

same_name : (y z : Entry) → SameButMask y z → name_in y ≡ name_in z
same_name (entry.Function f) (entry.Function g) s = s.name
same_name (entry.Theorem t) (entry.Theorem u) s = ap name_in s
same_name (entry.Constant c v) (entry.Constant d w) s = ap name_in s
same_name y z s = absurd (cc s)

-- covering
pub covers_self : (W : List Entry) → Covers W W
covers_self W x y h = (y, h, same_self y)

pub covers_through : (V W U : List Entry) → Covers V W → Covers W U → Covers V U
covers_through V W U a b x y h =
    let (z, e, s) = a x y h in
    let (u, d, r) = b x z e in
    (u, d, same_through y z u s r)

pub covers_grown : (W X : List Entry) → Covers W (W ++ X)
covers_grown W X x y h = (y, entry_of-kept W X x y h, same_self y)

pub covers_defines : (W U : List Entry) → Covers W U → DefinesAlike (function_of W) (function_of U)
covers_defines W U covered f g h =
    let (z, e, s) = covered f (entry.Function g) (entry_function W f g h) in
    at z e s
  where
    at : (z : Entry) → entry_of U f ≡ Some z → SameButMask (entry.Function g) z → (j : Function) × (function_of U f ≡ Some j) × (g.formals ≡ j.formals) × (g.body ≡ j.body)
    at (entry.Function j) e s = (j, ap as_function e, s.formals, s.body)
    at (entry.Theorem u) e s = absurd (cc s)
    at (entry.Constant c v) e s = absurd (cc s)

-- a name that is free in the larger world is free in the smaller one
pub covers_free : (V U : List Entry) → Covers V U → (x : Symbol) → entry_of U x ≡ None → entry_of V x ≡ None
covers_free V U covered x free = go (entry_of V x) refl
  where
    go : (o : Option Entry) → entry_of V x ≡ o → o ≡ None
    go None e = refl
    go (Some y) e = let (z, d, s) = covered x y e in absurd (cc (d, free))

pub covers_untaken : (V U : List Entry) → Covers V U → (x : Symbol) → has_name U x ≡ false → has_name V x ≡ false
covers_untaken V U covered x h =
    not_either (is_some (prim_of x)) (is_some (entry_of V x)) (free_prim U x h) (ap is_some (covers_free V U covered x (none (entry_of U x) (free_entry U x h))))
  where
    none : (o : Option Entry) → is_some o ≡ false → o ≡ None
    none None k = refl
    none (Some y) k = absurd (cc k)

-- an entry that is added to both, masks aside
pub covers_added : (V U : List Entry) (y z : Entry) → Covers V U → SameButMask y z → entry_of U (name_in y) ≡ None → Covers (V ++ y ∷ []) (U ++ z ∷ [])
covers_added V U y z covered same free x w h = go (entry_of V x) refl (symbol_eq x (name_in y)) refl
  where
    go : (o : Option Entry) → entry_of V x ≡ o → (b : Bool) → symbol_eq x (name_in y) ≡ b → (u : Entry) × (entry_of (U ++ z ∷ []) x ≡ Some u) × SameButMask w u
    go (Some v) e b q =
        let is : v ≡ w = cc (entry_of-kept V (y ∷ []) x v e, h) in
        let (u, d, s) = covered x v e in
        (u, entry_of-kept U (z ∷ []) x u d, subst (λ k. SameButMask k u) is s)
    go None e true q =
        let named : x ≡ name_in y = symbol_eq-true x (name_in y) q in
        let last : entry_of (V ++ y ∷ []) x ≡ Some y = entry_of-passed V (y ∷ []) x e ∙ ap (λ b. cond b (Some y) None) q in
        let is : y ≡ w = cc (last, h) in
        let there : symbol_eq x (name_in z) ≡ true = ap (symbol_eq x) (sym (named ∙ same_name y z same)) ∙ symbol_eq-same x in
        (z, entry_of-passed U (z ∷ []) x (ap (entry_of U) named ∙ free) ∙ ap (λ b. cond b (Some z) None) there, subst (λ k. SameButMask k z) is same)
    go None e false q =
        let last : entry_of (V ++ y ∷ []) x ≡ None = entry_of-passed V (y ∷ []) x e ∙ ap (λ b. cond b (Some y) None) q in
        absurd (cc (last, h))

-- what includes a book covers what it was, and the book
pub covers_world : (W K : List Entry) → Covers W (with_missing W K)
covers_world W K x y h = (y, included_old W K x y h, same_self y)

pub covers_book : (W K : List Entry) → NoClash W K → Covers K (with_missing W K)
covers_book W K none x y h = go (entry_of W x) refl
  where
    go : (o : Option Entry) → entry_of W x ≡ o → (z : Entry) × (entry_of (with_missing W K) x ≡ Some z) × SameButMask y z
    go (Some z) e = (z, included_old W K x z e, none x y z h e)
    go None e = (y, included_new W K x e ∙ h, same_self y)

-- a book that the larger world includes, the smaller one includes too
covers_clash : (V U K : List Entry) → Covers V U → NoClash U K → NoClash V K
covers_clash V U K covered none x y z there here =
    let (u, d, s) = covered x z here in
    same_through y u z (none x y u there d) (same_turned z u s)

covers_both : (V U K : List Entry) → Covers V U → NoClash U K → Covers (with_missing V K) (with_missing U K)
covers_both V U K covered none x y h = go (entry_of V x) refl (entry_of U x) refl
  where
    go : (o : Option Entry) → entry_of V x ≡ o → (p : Option Entry) → entry_of U x ≡ p → (z : Entry) × (entry_of (with_missing U K) x ≡ Some z) × SameButMask y z
    go (Some v) e p q =
        let is : v ≡ y = cc (included_old V K x v e, h) in
        let (u, d, s) = covered x v e in
        (u, included_old U K x u d, subst (λ k. SameButMask k u) is s)
    go None e (Some u) q = (u, included_old U K x u q, none x y u (sym (included_new V K x e) ∙ h) q)
    go None e None q = (y, included_new U K x q ∙ sym (included_new V K x e) ∙ h, same_self y)

pub covers_included : (V U K : List Entry) → are_distinct K ≡ true → Covers V U → has_clash U K ≡ false
    → (has_clash V K ≡ false) × Covers (with_missing V K) (with_missing U K)
covers_included V U K distinct covered h =
    let none = without_clash U K h in
    (clash_without V K distinct (covers_clash V U K covered none), covers_both V U K covered none)
