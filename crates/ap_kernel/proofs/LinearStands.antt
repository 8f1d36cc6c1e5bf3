-- The two rows of the kernel that linear arithmetic asks for.
use Rattle.std.proofs.Common.{◌≡◌, ℕ, Bool, true, false, cond, not, ℤ, pos, negsuc, int_lt, bit_and, ◌≤◌, List, [], ◌∷◌, Option, Some, refl, ap, sym, subst, ◌∙◌, true≢false, ltb-false, eqb-true, arith}
use Rattle.std.specs.Int.{bit_at}
use Rattle.ap_list.specs.Lists.{Each}
use Rattle.ap_value.specs.declared.symbol.Symbol.{Symbol}
use Rattle.ap_value.specs.Values.{V, int, chr, str, sym as symbol, cons, value_eq}
use Rattle.ap_value.proofs.Equals.{value_eq-same}
use Rattle.ap_term.specs.declared.term.Term.{Term, out-Term, Call}
use Rattle.ap_term.specs.declared.term.Term.TheOpen.{Term-F}
use Rattle.ap_term.proofs.Induction.{OutSays, out_says}
use Rattle.ap_world.specs.declared.primitive.Primitive.{Primitive as Prim}
use Rattle.ap_world.specs.declared.entry.Mask.{Mask}
use Rattle.ap_world.specs.declared.primitive.Primitive.TheVariants as prim
use Rattle.ap_world.specs.Names.{less_name}
use Rattle.ap_world.specs.Primitives.{nil, t, truth, prim_of, int_of}
use Rattle.ap_world.specs.Recursion.{t_constant}
use Rattle.ap_world.specs.Meaning.{Env, Defs, Total}
use Rattle.ap_world.specs.Types.{is_true_list, type_of, Has}
use Rattle.ap_world.specs.Sound.{known}
use Rattle.ap_world.proofs.Knowing.{known_quote, known_args, each_true}
use Rattle.ap_world.proofs.TotalMeaning.{Apply, Models, val, val_is, models, prim_val, values_of}
use Rattle.ap_world.proofs.Equations.{t_isnt_nil, val_prim, val_less, val_equal}
use Rattle.ap_kernel.specs.declared.objects.Ctx.{Ctx}
use Rattle.ap_kernel.specs.declared.objects.Sequent.{Sequent}
use Rattle.ap_world.specs.Facts.{KnownFacts, FactsHold}
use Rattle.ap_kernel.specs.Standing.{Holds}
use Rattle.ap_kernel.specs.Linear.{compares, form_compares, is_comparison, PolysHold, refuted_made, is_within_integers, not_less_made, equal_made, NeitherLess}
use Rattle.ap_kernel.proofs.Standing.{stand, agree}
use Rattle.ap_kernel.specs.Masks.{MaskHolds}
use Rattle.ap_kernel.specs.Equations.{equal_of, truth_constant}
use Rattle.ap_world.proofs.Assumed.{Signed, fact_of}
use Rattle.ap_kernel.proofs.EquationsStand.{val_truth_constant, known_equal}
use Rattle.ap_world.proofs.Sets.{apart}
use Rattle.ap_poly.specs.Polynomials.{Polynomial}
use Rattle.ap_poly.specs.Holding.{IsCertificate}
use Rattle.ap_poly.proofs.Certified.{certificates_refute}
use Rattle.ap_poly.proofs.LiteralsHold.{truth_signed}

-- a truth that hasn't the sign has the other
other : (s b : Bool) → (Signed s (truth b) → ⊥) → b ≡ not s
other true true h = absurd (h t_isnt_nil)
other true false h = refl
other false true h = refl
other false false h = absurd (h refl)

truth_known : (D : Defs) (b : Bool) → known D (truth_constant b) ≡ true
truth_known D true = known_quote D _
truth_known D false = known_quote D _

-- calls of `<` and of `equal` are t or nil
less_truth : (vs : List V) → (b : Bool) × (prim_val prim.Less vs ≡ truth b)
less_truth [] = (false, refl)
less_truth (x ∷ []) = (false, refl)
less_truth (x ∷ y ∷ []) = (int_lt (int_of x) (int_of y), refl)
less_truth (x ∷ y ∷ z ∷ vs) = (false, refl)

equal_truth : (vs : List V) → (b : Bool) × (prim_val prim.Equal vs ≡ truth b)
equal_truth [] = (false, refl)
equal_truth (x ∷ []) = (false, refl)
equal_truth (x ∷ y ∷ []) = (value_eq x y, refl)
equal_truth (x ∷ y ∷ z ∷ vs) = (false, refl)

-- a call of such a primitive is t or nil
comparison_truth : (p : Option Prim) → compares p ≡ true → (A : Apply) (f : Symbol) → prim_of f ≡ p → (ts : List Term) (e : Env) → (b : Bool) × (val A (Call f ts) e ≡ truth b)
comparison_truth (Some prim.Less) c A f h ts e = let b = less_truth (values_of A ts e) in (b.0, val_prim A f prim.Less ts e h ∙ b.1)
comparison_truth (Some prim.Equal) c A f h ts e = let b = equal_truth (values_of A ts e) in (b.0, val_prim A f prim.Equal ts e h ∙ b.1)
comparison_truth p c A f h ts e = absurd (true≢false (sym c))

is_a_truth : (u : Term) → is_comparison u ≡ true → (A : Apply) (e : Env) → (b : Bool) × (val A u e ≡ truth b)
is_a_truth u c A e = go (out-Term u) (out_says u) c
  where
    go : (y : Term-F Term) → OutSays u y → form_compares y ≡ true → (b : Bool) × (val A u e ≡ truth b)
    go (Term-F.Var x) says k = absurd (true≢false (sym k))
    go (Term-F.Quote v) says k = absurd (true≢false (sym k))
    go (Term-F.Call f ts) says k = let b = comparison_truth (prim_of f) k A f refl ts e in (b.0, ap (λ z. val A z e) says ∙ b.1)

pub refuted_stands : (D : Defs) → Total D → (c : Ctx) → KnownFacts D c.0 → (u : Term) (s : Bool) → known D u ≡ true → is_comparison u ≡ true
    → (ps : List Polynomial) (by : List ℕ) → PolysHold D c u s ps → IsCertificate ps by → Holds D (refuted_made c u s)
refuted_stands D total c facts u s uk compared ps by all cert =
    stand D (models D total).0 (models D total).1 (refuted_made c u s) facts uk (truth_known D (not s)) (λ e hs. leads e hs (is_a_truth u compared (models D total).0 e))
  where
    A : Apply
    A = (models D total).0

    ms : Models D (models D total).0
    ms = (models D total).1

    leads : (e : Env) → FactsHold D e c.0 → (b : Bool) × (val A u e ≡ truth b) → val A u e ≡ val A (truth_constant (not s)) e
    leads e hs (b, q) = q ∙ ap truth (other s b (λ h. certificates_refute D total e ps by cert
        (all e hs (fact_of D A ms e u s uk (subst (Signed s) (sym q) h))))) ∙ sym (val_truth_constant A (not s) e)

-- integers of which none is less
squeezed : (a b : ℕ) → b ≤ a → a ≤ b → a ≡ b
squeezed a b h k = omega arith

neither : (x y : ℤ) → int_lt x y ≡ false → int_lt y x ≡ false → x ≡ y
neither (pos a) (pos b) p q = ap pos (squeezed a b (ltb-false a b p) (ltb-false b a q))
neither (pos a) (negsuc b) p q = absurd (true≢false q)
neither (negsuc a) (pos b) p q = absurd (true≢false p)
neither (negsuc a) (negsuc b) p q = ap negsuc (squeezed a b (ltb-false a b q) (ltb-false b a p))

-- a value within a mask that has integers alone
an_integer : (k : Mask) (v : V) → is_within_integers k ≡ true → Has k v → v ≡ int (int_of v)
an_integer k (int n) h has = refl
an_integer k (chr c) h has = absurd (apart k.0 1016 9 (eqb-true (bit_and k.0 1016) 0 h) has refl)
an_integer k (str s) h has = absurd (apart k.0 1016 8 (eqb-true (bit_and k.0 1016) 0 h) has refl)
an_integer k (cons a b) h has = absurd (apart k.0 1016 (type_of (cons a b)) (eqb-true (bit_and k.0 1016) 0 h) has (go (is_true_list b)))
  where
    go : (x : Bool) → bit_at 1016 (cond x 6 7) ≡ 1
    go true = refl
    go false = refl
an_integer k (symbol j s) h has = absurd (apart k.0 1016 (type_of (symbol j s)) (eqb-true (bit_and k.0 1016) 0 h) has (go (value_eq (symbol j s) nil) (value_eq (symbol j s) t)))
  where
    go : (x y : Bool) → bit_at 1016 (cond x 3 (cond y 4 5)) ≡ 1
    go true y = refl
    go false true = refl
    go false false = refl

equal_stands : (D : Defs) → Total D → (c : Ctx) (a b : Term) → Holds D (not_less_made c a b) → Holds D (not_less_made c b a)
    → (m n : Mask) → MaskHolds D c.0 a m → MaskHolds D c.0 b n → is_within_integers m ≡ true → is_within_integers n ≡ true
    → Holds D (equal_made c a b)
equal_stands D total c a b less more m n hm hn im in' =
    stand D (models D total).0 (models D total).1 (equal_made c a b) less.facts (known_equal D a b ks.0 ks.1.0) (truth_known D true) leads
  where
    A : Apply
    A = (models D total).0

    ms : Models D (models D total).0
    ms = (models D total).1

    ks : Each (λ u. known D u ≡ true) (a ∷ b ∷ [])
    ks = each_true (known D) (a ∷ b ∷ []) (known_args D less_name (a ∷ b ∷ []) less.left)

    not_less : (a b : Term) → Holds D (not_less_made c a b) → (e : Env) → FactsHold D e c.0 → int_lt (int_of (val A a e)) (int_of (val A b e)) ≡ false
    not_less a b q e hs =
        truth_signed false (int_lt (int_of (val A a e)) (int_of (val A b e)))
        (sym (val_less A a b e) ∙ agree D A ms (not_less_made c a b) q e hs ∙ val_truth_constant A false e)

    leads : (e : Env) → FactsHold D e c.0 → val A (equal_of a b) e ≡ val A t_constant e
    leads e hs =
        let left = an_integer m (val A a e) im (hm e hs (val A a e) (val_is D A ms a ks.0 e)) in
        let right = an_integer n (val A b e) in' (hn e hs (val A b e) (val_is D A ms b ks.1.0 e)) in
        let same : val A a e ≡ val A b e = left ∙ ap int (neither (int_of (val A a e)) (int_of (val A b e)) (not_less a b less e hs) (not_less b a more e hs)) ∙ sym right in
        val_equal A a b e ∙ ap truth (ap (λ v. value_eq v (val A b e)) same ∙ value_eq-same (val A b e)) ∙ sym (val_truth_constant A true e)

pub neither_stands : (D : Defs) → Total D → (c : Ctx) (p q : Sequent) (m n : Mask) → Holds D p → Holds D q → (k : NeitherLess D c p q m n)
    → is_within_integers m ≡ true → is_within_integers n ≡ true → Holds D (equal_made c k.left k.right)
neither_stands D total c p q m n hp hq k im in' =
    equal_stands D total c k.left k.right (subst (Holds D) k.less hp) (subst (Holds D) k.more hq) m n k.left_mask k.right_mask im in'
