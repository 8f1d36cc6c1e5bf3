-- What facts leave of a term's types holds where the facts hold.
use Rattle.std.proofs.Common.{◌≡◌, ◌⊎◌, inl, inr, ℕ, Bool, true, false, cond, not, ◌&&◌, List, [], ◌∷◌, Option, Some, None, pos, int_lt, refl, sym, ap, ◌∙◌, subst}
use Rattle.std.specs.Int.{bit_at}
use Rattle.std.specs.Int.Bits.{bit_and}
use Rattle.ap_list.specs.Lists.{Each}
use Rattle.ap_value.specs.declared.symbol.Symbol.{Symbol}
use Rattle.ap_value.specs.declared.value.Value.{Value}
use Rattle.ap_value.specs.Values.{V, int, val_of, value_eq}
use Rattle.ap_value.proofs.Equals.{value_eq-true, value_eq-same}
use Rattle.ap_term.specs.declared.term.Term.{Term, out-Term, Var, Quote, Call}
use Rattle.ap_term.specs.declared.term.Term.TheVariants.{outs-Var, outs-Quote, outs-Call}
use Rattle.ap_term.specs.Equal.{term_eq}
use Rattle.ap_term.proofs.Equals.{term_eq-true}
use Rattle.ap_term.proofs.Induction.{term_ind}
use Rattle.ap_world.specs.declared.primitive.Primitive.{Primitive as Prim}
use Rattle.ap_world.specs.declared.primitive.Primitive.TheVariants.{Equal, Less}
use Rattle.ap_world.specs.Primitives.{nil, truth, int_of, prim_of}
use Rattle.ap_world.specs.Meaning.{Env, Defs}
use Rattle.ap_world.specs.Types.{type_of, positive_bit, negative_bit, nil_bit}
use Rattle.ap_world.specs.Sound.{known}
use Rattle.ap_world.specs.Facts.{Facts, KnownFacts, FactsHold}
use Rattle.ap_world.specs.Shapes.{Shape, constant, shape_of}
use Rattle.ap_world.specs.Kinds.{bit, kind_of, all, without}
use Rattle.ap_world.specs.Rows.{recognised, is_single}
use Rattle.ap_world.specs.Narrowing.{signed, by_itself, by_recogniser, by_kind, by_constant, by_equation, is_zero, by_bound, by_pair, by_parts, leaves, cut}
use Rattle.ap_world.proofs.TotalMeaning.{Apply, Models, val, val_quote}
use Rattle.ap_world.proofs.Equations.{val_prim, not_nil-eq, t_isnt_nil}
use Rattle.ap_world.proofs.Shaped.{Says, shape_says}
use Rattle.ap_world.proofs.Assumed.{Signed, fact_says}
use Rattle.ap_world.proofs.Sets.{In, in_own, all_in, in_both, in_without, one_or_none, meets_own, recognises, nil_recognised, without_recognised, signed_in}
use Rattle.ap_world.proofs.Recognising.{TrueLists, tests, recognised_tested, negatives_recognised, positives_recognised}
use Rattle.ap_kernel.specs.Standing.{DefinesNot}
use Rattle.ap_term.proofs.Equals.{tests_same}
use Rattle.ap_types.proofs.RowsHold.{same_kind, kinds_apart}

-- the sign of a test's value
truth_sign : (s b : Bool) → Signed s (truth b) → b ≡ s
truth_sign true true h = refl
truth_sign true false h = absurd (h refl)
truth_sign false true h = absurd (t_isnt_nil h)
truth_sign false false h = refl

-- the sign of a value, as what its type is
nil_sign : (s : Bool) (v : V) → Signed s v → recognises (without nil_bit) v ≡ s
nil_sign s v h = without_recognised nil_bit v ∙ ap not (nil_recognised v) ∙ go s h
  where
    go : (s : Bool) → Signed s v → not (value_eq v nil) ≡ s
    go true h = ap not (not_nil-eq v h)
    go false h = ap not (subst (λ x. value_eq x nil ≡ true) (sym h) (value_eq-same nil))

-- an equation with a value
kind_in : (s : Bool) (x y : V) → value_eq x y ≡ s → In (by_kind s (kind_of y)) x
kind_in true x y h = subst (λ z. In (bit (kind_of z)) x) (value_eq-true x y h) (in_own x)
kind_in false x y h = go (is_single (kind_of y)) refl
  where
    out : is_single (kind_of y) ≡ true → (bit_at (bit (kind_of y)) (type_of x) ≡ 1) ⊎ (bit_at (bit (kind_of y)) (type_of x) ≡ 0) → bit_at (bit (kind_of y)) (type_of x) ≡ 0
    out p (inl e) = absurd (kinds_apart x y h p (sym (same_kind (kind_of y) (kind_of x) (meets_own (bit (kind_of y)) x e))))
    out p (inr e) = e

    go : (b : Bool) → is_single (kind_of y) ≡ b → In (cond b (without (bit (kind_of y))) all) x
    go true p = in_without (bit (kind_of y)) x (out p (one_or_none (bit (kind_of y)) (type_of x)))
    go false p = all_in x

value_eq-turned : (x y : V) → value_eq x y ≡ value_eq y x
value_eq-turned x y = tests_same (value_eq x y) (value_eq y x) (turn x y) (turn y x)
  where
    turn : (a b : V) → value_eq a b ≡ true → value_eq b a ≡ true
    turn a b h = subst (λ z. value_eq z a ≡ true) (value_eq-true a b h) (value_eq-same a)

module _ (D : Defs) (A : Apply) (m : Models D A) (ground : DefinesNot D) (lists : TrueLists D) (e : Env) where
  constant_in : (s : Bool) (x : V) (b : Term) (y : Shape Term) → Says b y → value_eq x (val A b e) ≡ s → In (by_constant s y) x
  constant_in s x b (constant w) says h =
      let is : val A b e ≡ val_of w = ap (λ u. val A u e) says ∙ val_quote A w e in
      kind_in s x (val_of w) (subst (λ z. value_eq x z ≡ s) is h)
  constant_in s x b y says h = all_in x

  equation_in : (u : Term) (s : Bool) (a b : Term) → value_eq (val A a e) (val A b e) ≡ s → In (by_equation u s a b) (val A u e)
  equation_in u s a b h = go (term_eq a u) refl
    where
      go : (c : Bool) → term_eq a u ≡ c → In (cond c (by_constant s (shape_of b)) all) (val A u e)
      go true p = constant_in s (val A u e) b (shape_of b) (shape_says b) (subst (λ z. value_eq (val A z e) (val A b e) ≡ s) (term_eq-true a u p) h)
      go false p = all_in (val A u e)

  zero_is : (b : Term) (y : Shape Term) → Says b y → is_zero y ≡ true → val A b e ≡ int (pos 0)
  zero_is b (constant w) says h = ap (λ u. val A u e) says ∙ val_quote A w e ∙ value_eq-true (val_of w) (int (pos 0)) h
  zero_is b y says h = cc

  -- what a test of a term's sign says, where the other side is zero
  bound_in : (u : Term) (s : Bool) (r : ℕ) (a b : Term) → ((x : V) → val A b e ≡ int (pos 0) → val A a e ≡ x → recognises r x ≡ s) → In (by_bound u s r a b) (val A u e)
  bound_in u s r a b h = go (term_eq a u) refl (is_zero (shape_of b)) refl
    where
      go : (c : Bool) → term_eq a u ≡ c → (z : Bool) → is_zero (shape_of b) ≡ z → In (cond (c && z) (signed s r) all) (val A u e)
      go true p true q = signed_in s r (val A u e) (h (val A u e) (zero_is b (shape_of b) (shape_says b) q) (ap (λ z. val A z e) (term_eq-true a u p)))
      go true p false q = all_in (val A u e)
      go false p z q = all_in (val A u e)

  pair_in : (u : Term) (s : Bool) (g : Symbol) (a b : Term) → Signed s (val A (Call g (a ∷ b ∷ [])) e) → (o : Option Prim) → prim_of g ≡ o → In (by_pair u s o a b) (val A u e)
  pair_in u s g a b h (Some Equal) q =
      let is : value_eq (val A a e) (val A b e) ≡ s = truth_sign s (value_eq (val A a e) (val A b e)) (subst (Signed s) (val_prim A g Equal (a ∷ b ∷ []) e q) h) in
      in_both (by_equation u s a b) (by_equation u s b a) (type_of (val A u e)) (equation_in u s a b is)
      (equation_in u s b a (value_eq-turned (val A b e) (val A a e) ∙ is))
  pair_in u s g a b h (Some Less) q =
      let is : int_lt (int_of (val A a e)) (int_of (val A b e)) ≡ s = truth_sign s (int_lt (int_of (val A a e)) (int_of (val A b e))) (subst (Signed s) (val_prim A g Less (a ∷ b ∷ []) e q) h) in
      in_both (by_bound u s negative_bit a b) (by_bound u s positive_bit b a) (type_of (val A u e))
      (bound_in u s negative_bit a b (λ x z y. negatives_recognised x ∙ ap (λ k. int_lt (int_of k) (pos 0)) (sym y) ∙ ap (λ k. int_lt (int_of (val A a e)) (int_of k)) (sym z) ∙ is))
      (bound_in u s positive_bit b a (λ x z y. positives_recognised x ∙ ap (λ k. int_lt (pos 0) (int_of k)) (sym y) ∙ ap (λ k. int_lt (int_of k) (int_of (val A b e))) (sym z) ∙ is))
  pair_in u s g a b h o q = all_in (val A u e)

  itself_in : (u f : Term) (s : Bool) → Signed s (val A f e) → In (by_itself u f s) (val A u e)
  itself_in u f s h = go (term_eq f u) refl
    where
      go : (c : Bool) → term_eq f u ≡ c → In (cond c (signed s (without nil_bit)) all) (val A u e)
      go true p = signed_in s (without nil_bit) (val A u e) (nil_sign s (val A u e) (subst (λ z. Signed s (val A z e)) (term_eq-true f u p) h))
      go false p = all_in (val A u e)

  parts_in : (u f : Term) (s : Bool) → known D f ≡ true → Signed s (val A f e) → In (by_parts u s (out-Term f)) (val A u e)
  parts_in u f s = term_ind Goal variable quoted call f
    where
      Goal : Term → Type 0
      Goal f = known D f ≡ true → Signed s (val A f e) → In (by_parts u s (out-Term f)) (val A u e)

      variable : (x : Symbol) → Goal (Var x)
      variable x k h = rw (outs-Var x) (all_in (val A u e))

      quoted : (v : Value) → Goal (Quote v)
      quoted v k h = rw (outs-Quote v) (all_in (val A u e))

      recogniser : (g : Symbol) (a : Term) → known D (Call g (a ∷ [])) ≡ true → Signed s (val A (Call g (a ∷ [])) e) → term_eq a u ≡ true → (o : Option ℕ) → recognised g ≡ o → In (by_recogniser s o) (val A u e)
      recogniser g a k h p (Some r) q =
          let is = tests D A m ground lists g r (recognised_tested g r q) a e k in
          let b : recognises r (val A a e) ≡ s = truth_sign s (recognises r (val A a e)) (subst (Signed s) is h) in
          signed_in s r (val A u e) (subst (λ z. recognises r (val A z e) ≡ s) (term_eq-true a u p) b)
      recogniser g a k h p None q = all_in (val A u e)

      one : (g : Symbol) (a : Term) → known D (Call g (a ∷ [])) ≡ true → Signed s (val A (Call g (a ∷ [])) e) → (c : Bool) → term_eq a u ≡ c → In (cond c (by_recogniser s (recognised g)) all) (val A u e)
      one g a k h true p = recogniser g a k h p (recognised g) refl
      one g a k h false p = all_in (val A u e)

      call : (g : Symbol) (ts : List Term) → Each Goal ts → Goal (Call g ts)
      call g [] es k h = rw (outs-Call g []) (all_in (val A u e))
      call g (a ∷ []) es k h = rw (outs-Call g (a ∷ [])) (one g a k h (term_eq a u) refl)
      call g (a ∷ b ∷ []) es k h = rw (outs-Call g (a ∷ b ∷ [])) (pair_in u s g a b h (prim_of g) refl)
      call g (a ∷ b ∷ c ∷ ts) es k h = rw (outs-Call g (a ∷ b ∷ c ∷ ts)) (all_in (val A u e))

  -- a mask of the term's value stays one where it is cut by facts that hold
  pub cut_in : (fs : Facts) (u : Term) (n : ℕ) → KnownFacts D fs → FactsHold D e fs → In n (val A u e) → In (cut fs u n) (val A u e)
  cut_in [] u n ks hs h = h
  cut_in (f ∷ fs) u n ks hs h =
      let says : Signed f.1 (val A f.0 e) = fact_says D A m e f.0 f.1 hs.0 in
      cut_in fs u (bit_and n (leaves u f.0 f.1)) ks.1 hs.1
      (in_both n (leaves u f.0 f.1) (type_of (val A u e)) h
      (in_both (by_itself u f.0 f.1) (by_parts u f.1 (out-Term f.0)) (type_of (val A u e)) (itself_in u f.0 f.1 says) (parts_in u f.0 f.1 ks.0 says)))
