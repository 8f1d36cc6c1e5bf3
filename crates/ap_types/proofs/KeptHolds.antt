-- The types of a term, and the mask that a function keeps, hold in a sound world.
use Rattle.std.proofs.Common.{◌≡◌, ◌≢◌, ◌-◌, arith, ◌⊎◌, inl, inr, ℕ, zero, suc, Bool, true, false, cond, nat_eq, IfSome, List, [], ◌∷◌, ◌++◌, length, zip, Some, None, refl, sym, ap, ◌∙◌, subst, eqb-true}
use Rattle.ap_value.specs.declared.symbol.Symbol.{Symbol}
use Rattle.ap_value.specs.Values.{V, symbol_eq}
use Rattle.ap_value.proofs.Equals.{symbol_eq-true}
use Rattle.ap_term.specs.declared.term.Term.{Term}
use Rattle.ap_world.specs.declared.entry.Function.{Function}
use Rattle.ap_world.specs.declared.entry.Entry.{Entry}
use Rattle.ap_world.specs.declared.entry.Entry.TheVariants as entry
use Rattle.ap_world.specs.Names.{not_name, true_listp_name}
use Rattle.ap_world.specs.Primitives.{prim_of}
use Rattle.ap_world.specs.Meaning.{Env, Defs, meaning, body_value, calls, HasValue, CallValue, Total}
use Rattle.ap_world.specs.Sound.{known, given_function, DefinedAlike, Sound}
use Rattle.ap_world.specs.Ground.{ground_functions, not_function, implies_function, iff_function, atom_function, endp_function, null_function, eq_function, eql_function, numeric_equal_function, acl2_numberp_function, rationalp_function, booleanp_function, fix_function, ifix_function, natp_function, posp_function, nfix_function, zp_function, zip_function, zerop_function, plusp_function, minusp_function, max_function, min_function, abs_function, integer_abs_function, true_listp_function}
use Rattle.ap_world.specs.World.{Shown, as_function, function_of, has_name}
use Rattle.ap_world.specs.Facts.{Facts, KnownFacts, FactsHold}
use Rattle.ap_world.specs.Kinds.{all}
use Rattle.ap_world.specs.Typing.{function_types, types}
use Rattle.ap_world.specs.KeptTypes.{types_with, body_types, settled, kept_types}
use Rattle.ap_world.proofs.Fuel.{call_unique}
use Rattle.ap_world.proofs.TotalMeaning.{models, value_is}
use Rattle.ap_world.proofs.Equations.{names_open}
use Rattle.ap_world.proofs.Extending.{Extends, call_extend, extends-append, function_of-here, function_of-other, not_taken}
use Rattle.ap_world.proofs.Adding.{call_defined}
use Rattle.ap_world.proofs.Looking.{good_of}
use Rattle.ap_world.proofs.Sets.{In, all_in}
use Rattle.ap_world.proofs.Recognising.{TrueLists}
use Rattle.ap_kernel.specs.Standing.{DefinesNot}
use Rattle.ap_kernel.specs.Masks.{MaskHolds}
use Rattle.ap_types.specs.Laws.{KeptMaskHolds}
use Rattle.ap_types.proofs.TypesHold.{types_hold}
use Rattle.ap_types.proofs.RulesHold.{function_in}

true_listp_given : given_function true_listp_name ≡ Some true_listp_function
unfolding names_open ground_functions not_function implies_function iff_function atom_function endp_function null_function eq_function eql_function numeric_equal_function acl2_numberp_function rationalp_function booleanp_function fix_function ifix_function natp_function posp_function nfix_function zp_function zip_function zerop_function plusp_function minusp_function max_function min_function abs_function integer_abs_function true_listp_function
true_listp_given = refl

-- a function that is defined as its name is given, where that name is `true-listp`
alike_given : (f : Function) → f.name ≡ true_listp_name → IfSome (given_function f.name) (DefinedAlike f) → DefinedAlike f true_listp_function
alike_given f is h = subst (λ o. IfSome o (DefinedAlike f)) (ap given_function is ∙ true_listp_given) h

pub lists_of : (W : List Entry) → Sound W → TrueLists (function_of W)
lists_of W sound g here = let (good, is) = good_of W sound true_listp_name g here in alike_given g is good.given

pub types_mask : (w : Shown) → Sound w.entries → DefinesNot (function_of w.entries) → (fs : Facts) (u : Term) → KnownFacts (function_of w.entries) fs → known (function_of w.entries) u ≡ true
    → MaskHolds (function_of w.entries) fs u (record { 0 = types w fs u })
types_mask w sound ground fs u ks k = λ e hs v is. at e hs v is
  where
    D : Defs
    D = function_of w.entries

    at : (e : Env) → FactsHold D e fs → (v : V) → HasValue D u e v → In (types w fs u) v
    at e hs v (n, is) =
        let (A, m) = models D sound.total in
        let lists = lists_of w.entries sound in
        types_hold D A m ground lists (function_types w) (calls n D) (λ u e v h. value_is D A m u e v (n, h)) (λ f vs v p h. function_in w sound ground lists f vs v p (n, h)) u e fs v k ks hs is

-- a round that gives another mask
pub settled_next : (give : ℕ → ℕ) (n m k : ℕ) → (n ≢ 0) → give m ≡ k → k ≢ m → settled give n m ≡ settled give (n - 1) k
settled_next give zero m k z is other = absurd (z refl)
settled_next give (suc n) m k z is other = go (nat_eq (give m) m) refl
  where
    rest : suc n - 1 ≡ n
    rest = omega arith

    go : (b : Bool) → nat_eq (give m) m ≡ b → cond b m (settled give n (give m)) ≡ settled give (suc n - 1) k
    go true q = absurd (other (sym is ∙ eqb-true (give m) m q))
    go false q = rw (rest, is) refl

-- a mask that is settled is given back as it was, or has all types
settled_is : (give : ℕ → ℕ) (n m : ℕ) → (settled give n m ≡ all) ⊎ (give (settled give n m) ≡ settled give n m)
settled_is give zero m = inl refl
settled_is give (suc n) m = go (nat_eq (give m) m) refl (settled_is give n (give m))
  where
    go : (b : Bool) → nat_eq (give m) m ≡ b → (settled give n (give m) ≡ all) ⊎ (give (settled give n (give m)) ≡ settled give n (give m))
        → (cond b m (settled give n (give m)) ≡ all) ⊎ (give (cond b m (settled give n (give m))) ≡ cond b m (settled give n (give m)))
    go true q h = inr (eqb-true (give m) m q)
    go false q h = h

-- what is given back by the kept mask is in it
kept_in : (w : Shown) (name : Symbol) (body : Term) (v : V) → In (body_types w name body (kept_types w name body)) v → In (kept_types w name body) v
kept_in w name body v h = go (settled_is (body_types w name body) 11 0)
  where
    go : (kept_types w name body ≡ all) ⊎ (body_types w name body (kept_types w name body) ≡ kept_types w name body) → In (kept_types w name body) v
    go (inl e) = subst (λ k. In k v) (sym e) (all_in v)
    go (inr e) = subst (λ k. In k v) e h

-- a free name isn't defined
undefined : (W : List Entry) (x : Symbol) → has_name W x ≡ false → (g : Function) → function_of W x ≡ Some g → ⊥
undefined W x fresh g h =
    let none : function_of W x ≡ None = ap as_function (not_taken W x fresh).1 in
    no (sym none ∙ h)
  where
    no : None ≡ Some g → ⊥
    no k = cc

pub plain_kept : (w : Shown) (name : Symbol) (body : Term) → Sound w.entries → DefinesNot (function_of w.entries) → has_name w.entries name ≡ false → known (function_of w.entries) body ≡ true
    → (e : Env) (v : V) → HasValue (function_of w.entries) body e v → In (kept_types w name body) v
plain_kept w name body sound ground fresh k e v (n, is) =
    let (A, m) = models D sound.total in
    kept_in w name body v (types_hold D A m ground lists (types_with w name mask) (calls n D) (λ u e v h. value_is D A m u e v (n, h)) called body e [] v k tt tt is)
  where
    D : Defs
    D = function_of w.entries

    mask : ℕ
    mask = kept_types w name body

    lists : TrueLists D
    lists = lists_of w.entries sound

    called : (f : Symbol) (vs : List V) (v : V) → prim_of f ≡ None → calls n D f vs ≡ Some v → In (types_with w name mask f) v
    called f vs v p h = go (symbol_eq f name) refl
      where
        go : (b : Bool) → symbol_eq f name ≡ b → In (cond b mask (function_types w f)) v
        go true q =
            let (g, here, l) = call_defined D f vs v (n, h) in
            absurd (undefined w.entries name fresh g (subst (λ x. D x ≡ Some g) (symbol_eq-true f name q) here))
        go false q = function_in w sound ground lists f vs v p (n, h)

module _ (w : Shown) (f : Function) (sound : Sound w.entries) (ground : DefinesNot (function_of w.entries)) (fresh : has_name w.entries f.name ≡ false)
    (total : Total (function_of (w.entries ++ entry.Function f ∷ []))) (body_known : known (function_of (w.entries ++ entry.Function f ∷ [])) f.body ≡ true)
    (given : IfSome (given_function f.name) (DefinedAlike f)) where
  abbrev D : Defs
  D = function_of w.entries

  abbrev E : Defs
  E = function_of (w.entries ++ entry.Function f ∷ [])

  abbrev mask : ℕ
  mask = kept_types w f.name f.body

  extends : Extends D E
  extends = extends-append w.entries (entry.Function f ∷ [])

  ground_with : DefinesNot E
  ground_with = extends not_name not_function ground

  lists_with : TrueLists E
  lists_with g here = go (symbol_eq true_listp_name f.name) refl
    where
      go : (b : Bool) → symbol_eq true_listp_name f.name ≡ b → DefinedAlike g true_listp_function
      go true q =
          let is = symbol_eq-true true_listp_name f.name q in
          let found : Some f ≡ Some g = sym (function_of-here w.entries f fresh) ∙ ap E (sym is) ∙ here in
          let same : f ≡ g = cc in
          subst (λ k. DefinedAlike k true_listp_function) same (alike_given f (sym is) given)
      go false q = lists_of w.entries sound g (sym (function_of-other w.entries f true_listp_name q) ∙ here)

  -- another function's calls are those of the world without f
  other_call : (g : Symbol) (vs : List V) (v : V) → symbol_eq g f.name ≡ false → CallValue E g vs v → CallValue D g vs v
  other_call g vs v q value =
      let (k, here, l) = call_defined E g vs v value in
      let (x, h) = sound.total g k vs (sym (function_of-other w.entries f g q) ∙ here) l in
      subst (CallValue D g vs) (call_unique E g vs x v (call_extend D E extends g vs x h) value) h

  opened : (n : ℕ) (vs : List V) (v : V) → calls (suc n) E f.name vs ≡ Some v → meaning (calls n E) f.body (zip f.formals vs) ≡ Some v
  opened n vs v h = go (nat_eq (length f.formals) (length vs)) (subst (λ o. body_value (calls n E) o vs ≡ Some v) (function_of-here w.entries f fresh) h)
    where
      go : (b : Bool) → cond b (meaning (calls n E) f.body (zip f.formals vs)) None ≡ Some v → meaning (calls n E) f.body (zip f.formals vs) ≡ Some v
      go true k = k
      go false k = cc

  by_fuel : (n : ℕ) (vs : List V) (v : V) → calls n E f.name vs ≡ Some v → In mask v
  by_fuel zero vs v h = cc
  by_fuel (suc n) vs v h = step n (by_fuel n) vs v (opened n vs v h)
    where
      step : (n : ℕ) → ((vs : List V) (v : V) → calls n E f.name vs ≡ Some v → In mask v) → (vs : List V) (v : V) → meaning (calls n E) f.body (zip f.formals vs) ≡ Some v → In mask v
      step n below vs v is =
          let (A, m) = models E total in
          kept_in w f.name f.body v (types_hold E A m ground_with lists_with (types_with w f.name mask) (calls n E) (λ u e v h. value_is E A m u e v (n, h)) called f.body (zip f.formals vs) [] v body_known tt tt is)
        where
          called : (g : Symbol) (vs : List V) (v : V) → prim_of g ≡ None → calls n E g vs ≡ Some v → In (types_with w f.name mask g) v
          called g vs v p h = go (symbol_eq g f.name) refl
            where
              go : (b : Bool) → symbol_eq g f.name ≡ b → In (cond b mask (function_types w g)) v
              go true q = below vs v (subst (λ x. calls n E x vs ≡ Some v) (symbol_eq-true g f.name q) h)
              go false q = function_in w sound ground (lists_of w.entries sound) g vs v p (other_call g vs v q (n, h))

  kept_call : (vs : List V) (v : V) → CallValue E f.name vs v → In mask v
  kept_call vs v (n, h) = by_fuel n vs v h

pub kept_holds : KeptMaskHolds
kept_holds w f sound ground fresh total k given vs v l value = kept_call w f sound ground fresh total k given vs v value
