-- A mask that leaves one value, or excludes nil, and a fact: what they lead to.
use Rattle.std.proofs.Common.{◌≡◌, ◌≢◌, ◌↔◌, ℕ, zero, suc, Bool, true, false, cond, not, ◌&&◌, ◌||◌, IsTrue, List, [], ◌∷◌, Some, None, slice_get, pos, negsuc, refl, ap, sym, ◌∙◌, subst, eqb-true}
use Rattle.std.specs.Int.{bit_at}
use Rattle.std.specs.Int.Bits.{bit_and}
use Rattle.ap_list.specs.Lists.{Each}
use Rattle.ap_value.specs.declared.value.Value.{Value}
use Rattle.ap_value.specs.Values.{V, int, chr, str, sym as symbol, cons, val_of, value_eq}
use Rattle.ap_value.proofs.Equals.{value_eq-true, value_eq-same}
use Rattle.ap_term.specs.declared.term.Term.{Term, Quote}
use Rattle.ap_world.specs.declared.entry.Mask.{Mask}
use Rattle.ap_world.specs.Primitives.{nil, t}
use Rattle.ap_world.specs.Meaning.{Env, Defs, Total, FactHolds}
use Rattle.ap_world.specs.Types.{is_true_list, type_of, Has}
use Rattle.ap_world.specs.Sound.{known}
use Rattle.ap_world.specs.Facts.{KnownFacts, FactsHold}
use Rattle.ap_world.proofs.Knowing.{known_quote}
use Rattle.ap_world.proofs.TotalMeaning.{Apply, Models, models, val, val_is, val_quote}
use Rattle.ap_world.proofs.Equations.{val_of_nil, val_of_t, eq-not_nil, t_isnt_nil, names_open}
use Rattle.ap_world.proofs.Starting.{has_all}
use Rattle.ap_world.proofs.Assumed.{fact_says}
use Rattle.ap_world.proofs.Sets.{apart}
use Rattle.ap_kernel.specs.declared.objects.Ctx.{Ctx}
use Rattle.ap_kernel.specs.declared.objects.Mode.TheVariants.{Equal, Iff}
use Rattle.ap_kernel.specs.Standing.{Same, Holds}
use Rattle.ap_kernel.specs.Masks.{MaskHolds, types_of_others, has_only, lacks_nil, leads_to, typed_mode, typed_made}
use Rattle.ap_kernel.specs.Answers.{fact_made}
use Rattle.ap_kernel.proofs.Standing.{stand}

nil_type : type_of nil ≡ 3
unfolding nil value_eq names_open
nil_type = refl

-- a value of another type than nil, t or zero has the type among the others
not_nil_type : (v : V) → value_eq v nil ≡ false → bit_at 1015 (type_of v) ≡ 1
not_nil_type (int (pos zero)) h = refl
not_nil_type (int (pos (suc n))) h = refl
not_nil_type (int (negsuc n)) h = refl
not_nil_type (chr c) h = refl
not_nil_type (str s) h = refl
not_nil_type (cons a b) h = go (is_true_list b)
  where
    go : (x : Bool) → bit_at 1015 (cond x 6 7) ≡ 1
    go true = refl
    go false = refl
not_nil_type (symbol k s) h = rw h (go (value_eq (symbol k s) t))
  where
    go : (y : Bool) → bit_at 1015 (cond y 4 5) ≡ 1
    go true = refl
    go false = refl

not_t_type : (v : V) → value_eq v t ≡ false → bit_at 1007 (type_of v) ≡ 1
not_t_type (int (pos zero)) h = refl
not_t_type (int (pos (suc n))) h = refl
not_t_type (int (negsuc n)) h = refl
not_t_type (chr c) h = refl
not_t_type (str s) h = refl
not_t_type (cons a b) h = go (is_true_list b)
  where
    go : (x : Bool) → bit_at 1007 (cond x 6 7) ≡ 1
    go true = refl
    go false = refl
not_t_type (symbol k s) h = rw h (go (value_eq (symbol k s) nil))
  where
    go : (y : Bool) → bit_at 1007 (cond y 3 5) ≡ 1
    go true = refl
    go false = refl

not_zero_type : (v : V) → value_eq v (int (pos 0)) ≡ false → bit_at 1022 (type_of v) ≡ 1
unfolding value_eq
not_zero_type (int (pos zero)) h = cc
not_zero_type (int (pos (suc n))) h = refl
not_zero_type (int (negsuc n)) h = refl
not_zero_type (chr c) h = refl
not_zero_type (str s) h = refl
not_zero_type (cons a b) h = go (is_true_list b)
  where
    go : (x : Bool) → bit_at 1022 (cond x 6 7) ≡ 1
    go true = refl
    go false = refl
not_zero_type (symbol k s) h = go (value_eq (symbol k s) nil) (value_eq (symbol k s) t)
  where
    go : (x y : Bool) → bit_at 1022 (cond x 3 (cond y 4 5)) ≡ 1
    go true y = refl
    go false true = refl
    go false false = refl

-- a test that tells whether two values are one
pub test_is : (b : Bool) (x y : V) → (IsTrue b ↔ (x ≡ y)) → b ≡ value_eq x y
test_is b x y h = go b refl (value_eq x y) refl
  where
    no : true ≡ false → ⊥
    no q = cc

    go : (a : Bool) → b ≡ a → (k : Bool) → value_eq x y ≡ k → b ≡ value_eq x y
    go true p true q = p ∙ sym q
    go false p false q = p ∙ sym q
    go true p false q = absurd (no (sym (subst (λ z. value_eq x z ≡ true) (h.0 p) (value_eq-same x)) ∙ q))
    go false p true q = absurd (no (sym (h.1 (value_eq-true x y q)) ∙ p))

-- what is within a mask that has no other value is that value
pub only_says : (k : Mask) (v w : V) → has_only k v ≡ true → Has k w → w ≡ v
only_says k v w h has = by_nil (value_eq v nil) refl (eqb-true (bit_and k.0 (types_of_others v)) 0 h)
  where
    same : (u : V) → value_eq v u ≡ true → (o : ℕ) → ((x : V) → value_eq x u ≡ false → bit_at o (type_of x) ≡ 1) → bit_and k.0 o ≡ 0 → w ≡ v
    same u q o typed z = go (value_eq w u) refl
      where
        go : (b : Bool) → value_eq w u ≡ b → w ≡ v
        go true r = value_eq-true w u r ∙ sym (value_eq-true v u q)
        go false r = absurd (apart k.0 o (type_of w) z has (typed w r))

    by_zero : (b : Bool) → value_eq v (int (pos 0)) ≡ b → bit_and k.0 (cond b 1022 1023) ≡ 0 → w ≡ v
    by_zero true q z = same (int (pos 0)) q 1022 not_zero_type z
    by_zero false q z = absurd (apart k.0 1023 (type_of w) z has (has_all w))

    by_t : (b : Bool) → value_eq v t ≡ b → bit_and k.0 (cond b 1007 (cond (value_eq v (int (pos 0))) 1022 1023)) ≡ 0 → w ≡ v
    by_t true q z = same t q 1007 not_t_type z
    by_t false q z = by_zero (value_eq v (int (pos 0))) refl z

    by_nil : (b : Bool) → value_eq v nil ≡ b → bit_and k.0 (cond b 1015 (cond (value_eq v t) 1007 (cond (value_eq v (int (pos 0))) 1022 1023))) ≡ 0 → w ≡ v
    by_nil true q z = same nil q 1015 not_nil_type z
    by_nil false q z = by_t (value_eq v t) refl z

-- what is within a mask that excludes nil is another value
pub lacks_says : (k : Mask) (w : V) → lacks_nil k ≡ true → Has k w → w ≢ nil
lacks_says k w h has e =
    let three : bit_at k.0 3 ≡ 1 = subst (λ n. bit_at k.0 n ≡ 1) (ap type_of e ∙ nil_type) has in
    apart k.0 8 3 (eqb-true (bit_and k.0 8) 0 h) three refl

pub typed_stands : (D : Defs) → Total D → (c : Ctx) (u : Term) (k : Mask) (v : Value) → KnownFacts D c.0 → known D u ≡ true → MaskHolds D c.0 u k
    → leads_to k (val_of v) ≡ true → Holds D (typed_made c u k v)
typed_stands D total c u k v facts u_known holds leads =
    let (A, ms) = models D total in
    stand D A ms (typed_made c u k v) facts u_known (known_quote D v) (λ e h. agrees A ms e h)
  where
    agrees : (A : Apply) → Models D A → (e : Env) → FactsHold D e c.0 → Same (typed_mode k (val_of v)) (val A u e) (val A (Quote v) e)
    agrees A ms e h = subst (Same (typed_mode k (val_of v)) (val A u e)) (sym (val_quote A v e)) (go (has_only k (val_of v)) refl leads)
      where
        has : Has k (val A u e)
        has = holds e h (val A u e) (val_is D A ms u u_known e)

        nots : (b : Bool) → value_eq (val_of v) nil ≡ b → (not b && lacks_nil k) ≡ true → Same Iff (val A u e) (val_of v)
        nots true q l = cc
        nots false q l = (λ z. absurd (lacks_says k (val A u e) l has z), λ z. absurd (eq-not_nil (val_of v) q z))

        go : (b : Bool) → has_only k (val_of v) ≡ b → (b || (not (value_eq (val_of v) nil) && lacks_nil k)) ≡ true → Same (cond b Equal Iff) (val A u e) (val_of v)
        go true q l = only_says k (val_of v) (val A u e) q has
        go false q l = nots (value_eq (val_of v) nil) refl l

-- what holds of each element holds of the one at a place
pub each_at : {A : Type 0} (P : A → Type 0) (xs : List A) (i : ℕ) (x : A) → Each P xs → slice_get xs i ≡ Some x → P x
each_at P [] i x ps h = absurd (no h)
  where
    no : None ≡ Some x → ⊥
    no k = cc
each_at P (y ∷ ys) zero x ps h = let same : y ≡ x = cc in subst P same ps.0
each_at P (y ∷ ys) (suc i) x ps h = each_at P ys i x ps.1 h

pub fact_stands : (D : Defs) → Total D → (c : Ctx) (i : ℕ) (u : Term) (s : Bool) → KnownFacts D c.0 → slice_get c.0 i ≡ Some (u, s) → Holds D (fact_made c u s)
fact_stands D total c i u s facts at =
    let (A, ms) = models D total in go A ms s at
  where
    u_known : known D u ≡ true
    u_known = each_at (λ (f : Term × Bool). known D f.0 ≡ true) c.0 i (u, s) facts at

    go : (A : Apply) → Models D A → (s : Bool) → slice_get c.0 i ≡ Some (u, s) → Holds D (fact_made c u s)
    go A ms true at = stand D A ms (fact_made c u true) facts u_known (known_quote D _)
        (λ e h. let is_t = val_quote A _ e ∙ val_of_t in
        (λ z. absurd (fact_says D A ms e u true (each_at (FactHolds D e) c.0 i (u, true) h at) z), λ z. absurd (t_isnt_nil (sym is_t ∙ z))))
    go A ms false at = stand D A ms (fact_made c u false) facts u_known (known_quote D _)
        (λ e h. fact_says D A ms e u false (each_at (FactHolds D e) c.0 i (u, false) h at) ∙ sym (val_quote A _ e ∙ val_of_nil))
