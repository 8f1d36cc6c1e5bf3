-- The polynomials of a literal hold where the literal has the sign.
use Rattle.std.proofs.Common.{◌≡◌, Bool, true, false, ℤ, pos, negsuc, ◌+ℤ◌, ◌*ℤ◌, neg_ℤ, ◌≤ℤ◌, int_lt, List, [], ◌∷◌, map, Option, Some, None, unwrap_or, refl, ap, sym, subst, ◌∙◌, arith}
use Rattle.std.proofs.Math.IntN.{+ℤ_assoc}
use Rattle.std.proofs.lemmas.Int.{ints}
use Rattle.ap_list.specs.Lists.{Each}
use Rattle.ap_value.specs.declared.symbol.Symbol.{Symbol}
use Rattle.ap_value.specs.declared.value.Value.{Value}
use Rattle.ap_value.specs.Values.{val_of, value_eq}
use Rattle.ap_term.specs.declared.term.Term.{Term, out-Term, Var, Quote, Call}
use Rattle.ap_term.specs.declared.term.Term.TheOpen.{Term-F}
use Rattle.ap_term.proofs.Induction.{OutSays, out_says, term_ind, para_var, para_quote, para_call}
use Rattle.ap_world.specs.declared.primitive.Primitive.{Primitive as Prim}
use Rattle.ap_world.specs.declared.primitive.Primitive.TheVariants as prim
use Rattle.ap_world.specs.Primitives.{truth, prim_of, int_of}
use Rattle.ap_world.specs.Meaning.{Env, Defs, Total, FactHolds}
use Rattle.ap_world.specs.Sound.{known}
use Rattle.ap_world.proofs.Knowing.{known_args, each_true}
use Rattle.ap_world.proofs.TotalMeaning.{Apply, Models, val, val_is, val_quote, models}
use Rattle.ap_world.proofs.Equations.{val_prim, t_isnt_nil}
use Rattle.ap_value.proofs.Equals.{value_eq-true}
use Rattle.ap_world.proofs.Assumed.{Signed, fact_says}
use Rattle.ap_poly.specs.Polynomials.{Parts, Polynomial, parts_value, value, Holds, and_then, narrow, put}
use Rattle.ap_poly.specs.Literals.{Into, add_constant, add_atom, add_product, add_call, into_step, into, paired, difference, polys_by, polys_in, of_literal}
use Rattle.ap_poly.specs.Holding.{Reads, PolyHolds}
use Rattle.ap_poly.proofs.Integers.{over_times, times_assoc, times_negated, negated, one_times}
use Rattle.ap_poly.proofs.Sums.{some_is, both_gave, narrow_is, put_value}

firsts_same : (ts : List Term) → map (λ (p : Term × Into). p.0) (paired ts) ≡ ts
firsts_same [] = refl
firsts_same (t ∷ ts) = ap (λ us. t ∷ us) (firsts_same ts)

pub into_call : (f : Symbol) (ts : List Term) → into (Call f ts) ≡ add_call (prim_of f) (paired ts) (add_atom (Call f ts))
into_call f ts = para_call into_step f ts ∙ ap (λ us. add_call (prim_of f) (paired ts) (add_atom (Call f us))) (firsts_same ts)

onto_constant : (c m v : ℤ) → (c +ℤ m) +ℤ v ≡ (c +ℤ v) +ℤ m
onto_constant c m v = omega (arith, ints)

onto_parts : (c m v : ℤ) → c +ℤ (m +ℤ v) ≡ (c +ℤ v) +ℤ m
onto_parts c m v = omega (arith, ints)

add_constant_value : (r : Term → ℤ) (n k : ℤ) (p q : Polynomial) → add_constant n k p ≡ Some q → value r q ≡ value r p +ℤ k *ℤ n
add_constant_value r n k p q h = go (both_gave (narrow (k *ℤ n)) _ q h)
  where
    inner : (m : ℤ) → narrow (k *ℤ n) ≡ Some m → (c : ℤ) × ((narrow (p.constant +ℤ m) ≡ Some c) × (Some (record { constant = c; parts = p.parts }) ≡ Some q)) → value r q ≡ value r p +ℤ k *ℤ n
    inner m e (c, w) = ap (value r) (some_is w.1) ∙ ap (λ z. z +ℤ parts_value r p.parts) (narrow_is (p.constant +ℤ m) c w.0)
        ∙ onto_constant p.constant m (parts_value r p.parts) ∙ ap (λ z. value r p +ℤ z) (narrow_is (k *ℤ n) m e)

    go : (m : ℤ) × ((narrow (k *ℤ n) ≡ Some m) × (and_then (narrow (p.constant +ℤ m)) (λ c. Some (record { constant = c; parts = p.parts })) ≡ Some q)) → value r q ≡ value r p +ℤ k *ℤ n
    go (m, w) = inner m w.0 (both_gave (narrow (p.constant +ℤ m)) (λ c. Some (record { constant = c; parts = p.parts })) q w.1)

module _ (D : Defs) (A : Apply) (ms : Models D A) (e : Env) (r : Term → ℤ) (reads : Reads D e r) where
  abbrev Known : Term → Type 0
  Known u = known D u ≡ true

  -- the integer that a term reads as
  abbrev int_at : Term → ℤ
  int_at u = int_of (val A u e)

  read : (u : Term) → Known u → r u ≡ int_at u
  read u k = reads u (val A u e) (val_is D A ms u k e)

  abbrev Adds : Into → ℤ → Type 0
  Adds f n = (k : ℤ) (p q : Polynomial) → f k p ≡ Some q → value r q ≡ value r p +ℤ k *ℤ n

  atom_adds : (u : Term) → Known u → Adds (add_atom u) (int_at u)
  atom_adds u uk k p q h = go (both_gave (put u k p.parts) _ q h)
    where
      go : (ps : Parts) × ((put u k p.parts ≡ Some ps) × (Some (record { constant = p.constant; parts = ps }) ≡ Some q)) → value r q ≡ value r p +ℤ k *ℤ int_at u
      go (ps, w) = ap (value r) (some_is w.1) ∙ ap (λ z. p.constant +ℤ z) (put_value r u k p.parts ps w.0)
          ∙ onto_parts p.constant (k *ℤ r u) (parts_value r p.parts) ∙ ap (λ z. value r p +ℤ k *ℤ z) (read u uk)

  abbrev Goal : Term → Type 0
  Goal u = Known u → Adds (into u) (int_at u)

  into_adds : (u : Term) → Goal u
  into_adds u = term_ind Goal variable constant call u
    where
      variable : (x : Symbol) → Goal (Var x)
      variable x uk k p q h = atom_adds (Var x) uk k p q (rw (para_var into_step x) at h)

      constant : (v : Value) → Goal (Quote v)
      constant v uk k p q h = add_constant_value r (int_of (val_of v)) k p q (rw (para_quote into_step v) at h) ∙ ap (λ z. value r p +ℤ k *ℤ int_of z) (sym (val_quote A v e))

      plus : (a b : Term) → Adds (into a) (int_at a) → Adds (into b) (int_at b) → Adds (add_call (Some prim.Plus) (paired (a ∷ b ∷ [])) (add_atom a)) (int_at a +ℤ int_at b)
      plus a b fa fb k p q h = go (both_gave (into a k p) (into b k) q h)
        where
          go : (s : Polynomial) × ((into a k p ≡ Some s) × (into b k s ≡ Some q)) → value r q ≡ value r p +ℤ k *ℤ (int_at a +ℤ int_at b)
          go (s, w) = fb k s q w.1 ∙ ap (λ z. z +ℤ k *ℤ int_at b) (fa k p s w.0) ∙ +ℤ_assoc (value r p) (k *ℤ int_at a) (k *ℤ int_at b)
              ∙ ap (λ z. value r p +ℤ z) (sym (over_times k (int_at a) (int_at b)))

      minus : (a : Term) → Adds (into a) (int_at a) → Adds (add_call (Some prim.Minus) (paired (a ∷ [])) (add_atom a)) (neg_ℤ (int_at a))
      minus a fa k p q h = go (both_gave (narrow (neg_ℤ k)) _ q h)
        where
          go : (m : ℤ) × ((narrow (neg_ℤ k) ≡ Some m) × (into a m p ≡ Some q)) → value r q ≡ value r p +ℤ k *ℤ neg_ℤ (int_at a)
          go (m, w) = fa m p q w.1 ∙ ap (λ z. value r p +ℤ z *ℤ int_at a) (narrow_is (neg_ℤ k) m w.0)
              ∙ ap (λ z. value r p +ℤ z) (times_negated k (int_at a) ∙ sym (negated k (int_at a)))

      times : (u a b : Term) → Known u → int_at u ≡ int_at a *ℤ int_at b → Adds (into b) (int_at b) → (y : Term-F Term) → OutSays a y → Adds (add_product y (into b) (add_atom u)) (int_at u)
      times u a b uk is fb (Term-F.Var x) says k p q h = atom_adds u uk k p q h
      times u a b uk is fb (Term-F.Call g us) says k p q h = atom_adds u uk k p q h
      times u a b uk is fb (Term-F.Quote v) says k p q h = go (both_gave (narrow (k *ℤ int_of (val_of v))) _ q h)
        where
          go : (m : ℤ) × ((narrow (k *ℤ int_of (val_of v)) ≡ Some m) × (into b m p ≡ Some q)) → value r q ≡ value r p +ℤ k *ℤ int_at u
          go (m, w) = fb m p q w.1 ∙ ap (λ z. value r p +ℤ z *ℤ int_at b) (narrow_is (k *ℤ int_of (val_of v)) m w.0)
              ∙ ap (λ z. value r p +ℤ z) (times_assoc k (int_of (val_of v)) (int_at b))
              ∙ ap (λ z. value r p +ℤ k *ℤ (int_of z *ℤ int_at b)) (sym (ap (λ t. val A t e) says ∙ val_quote A v e))
              ∙ ap (λ z. value r p +ℤ k *ℤ z) (sym is)

      by : (f : Symbol) (o : Option Prim) → prim_of f ≡ o → (ts : List Term) → Known (Call f ts) → Each Goal ts → Each Known ts
          → Adds (add_call o (paired ts) (add_atom (Call f ts))) (int_at (Call f ts))
      by f (Some prim.Plus) x (a ∷ b ∷ []) uk gs ks k p q h =
          plus a b (gs.0 ks.0) (gs.1.0 ks.1.0) k p q h ∙ ap (λ v. value r p +ℤ k *ℤ int_of v) (sym (val_prim A f prim.Plus (a ∷ b ∷ []) e x))
      by f (Some prim.Minus) x (a ∷ []) uk gs ks k p q h =
          minus a (gs.0 ks.0) k p q h ∙ ap (λ v. value r p +ℤ k *ℤ int_of v) (sym (val_prim A f prim.Minus (a ∷ []) e x))
      by f (Some prim.Times) x (a ∷ b ∷ []) uk gs ks k p q h =
          times (Call f (a ∷ b ∷ [])) a b uk (ap int_of (val_prim A f prim.Times (a ∷ b ∷ []) e x)) (gs.1.0 ks.1.0) (out-Term a) (out_says a) k p q h
      by f o x ts uk gs ks k p q h = atom_adds (Call f ts) uk k p q h

      call : (f : Symbol) (ts : List Term) → Each Goal ts → Goal (Call f ts)
      call f ts gs uk k p q h = by f (prim_of f) refl ts uk gs (each_true (known D) ts (known_args D f ts uk)) k p q (rw (into_call f ts) at h)

  difference_sum : (a b n : ℤ) → ((pos 0 +ℤ pos 0) +ℤ a) +ℤ neg_ℤ b +ℤ n ≡ a +ℤ (neg_ℤ b +ℤ n)
  difference_sum a b n = omega (arith, ints)

  difference_value : (a b : Term) (n : ℤ) (q : Polynomial) → Known a → Known b → difference a b n ≡ Some q → value r q ≡ int_at a +ℤ (neg_ℤ (int_at b) +ℤ n)
  difference_value a b n q ak bk h = go (both_gave (into a (pos 1) (record { constant = pos 0; parts = [] })) _ q h)
    where
      zeroed : Polynomial
      zeroed = record { constant = pos 0; parts = [] }

      minus_one : (x : ℤ) → negsuc 0 *ℤ x ≡ neg_ℤ x
      minus_one x = times_negated (pos 1) x ∙ ap neg_ℤ (one_times x)

      inner : (s : Polynomial) → into a (pos 1) zeroed ≡ Some s → (t : Polynomial) × ((into b (negsuc 0) s ≡ Some t) × (add_constant n (pos 1) t ≡ Some q)) → value r q ≡ int_at a +ℤ (neg_ℤ (int_at b) +ℤ n)
      inner s l (t, w) = add_constant_value r n (pos 1) t q w.1
          ∙ ap (λ z. z +ℤ pos 1 *ℤ n) (into_adds b bk (negsuc 0) s t w.0)
          ∙ ap (λ z. (z +ℤ negsuc 0 *ℤ int_at b) +ℤ pos 1 *ℤ n) (into_adds a ak (pos 1) zeroed s l)
          ∙ ap (λ z. (((pos 0 +ℤ pos 0) +ℤ z) +ℤ negsuc 0 *ℤ int_at b) +ℤ pos 1 *ℤ n) (one_times (int_at a))
          ∙ ap (λ z. (((pos 0 +ℤ pos 0) +ℤ int_at a) +ℤ z) +ℤ pos 1 *ℤ n) (minus_one (int_at b))
          ∙ ap (λ z. (((pos 0 +ℤ pos 0) +ℤ int_at a) +ℤ neg_ℤ (int_at b)) +ℤ z) (one_times n)
          ∙ difference_sum (int_at a) (int_at b) n

      go : (s : Polynomial) × ((into a (pos 1) zeroed ≡ Some s) × (and_then (into b (negsuc 0) s) (λ q. add_constant n (pos 1) q) ≡ Some q)) → value r q ≡ int_at a +ℤ (neg_ℤ (int_at b) +ℤ n)
      go (s, w) = inner s w.0 (both_gave (into b (negsuc 0) s) (λ q. add_constant n (pos 1) q) q w.1)

  -- a difference holds where the integers say so
  difference_holds : (a b : Term) (n : ℤ) (q : Polynomial) → Known a → Known b → difference a b n ≡ Some q → pos 0 ≤ℤ (int_at a +ℤ (neg_ℤ (int_at b) +ℤ n)) → Holds r q
  difference_holds a b n q ak bk h le = subst (λ z. pos 0 ≤ℤ z) (sym (difference_value a b n q ak bk h)) le

less_says : (x y : ℤ) → int_lt x y ≡ true → pos 0 ≤ℤ (y +ℤ (neg_ℤ x +ℤ negsuc 0))
less_says x y h = grind (arith, ints)

not_less_says : (x y : ℤ) → int_lt x y ≡ false → pos 0 ≤ℤ (x +ℤ (neg_ℤ y +ℤ pos 0))
not_less_says x y h = grind (arith, ints)

same_says : (x y : ℤ) → x ≡ y → pos 0 ≤ℤ (x +ℤ (neg_ℤ y +ℤ pos 0))
same_says x y h = omega (arith, ints)

-- t only where the test is true, nil only where it is false
pub truth_signed : (s b : Bool) → Signed s (truth b) → b ≡ s
truth_signed true true h = refl
truth_signed true false h = absurd (h refl)
truth_signed false true h = absurd (t_isnt_nil h)
truth_signed false false h = refl

module _ (D : Defs) (total : Total D) (e : Env) where
  literal_holds : (o : Option Prim) (f : Symbol) → prim_of f ≡ o → (ts : List Term) (s : Bool) → known D (Call f ts) ≡ true → FactHolds D e (Call f ts, s) → (A : Apply) (ms : Models D A)
      → (ps : List Polynomial) → polys_by o ts s ≡ Some ps → Each (PolyHolds D e) ps
  literal_holds (Some prim.Less) f x (a ∷ b ∷ []) true uk h A ms ps l = go (both_gave (difference b a (negsuc 0)) _ ps l)
    where
      go : (p : Polynomial) × ((difference b a (negsuc 0) ≡ Some p) × (Some (p ∷ []) ≡ Some ps)) → Each (PolyHolds D e) ps
      go (p, w) =
          let ks = each_true (known D) (a ∷ b ∷ []) (known_args D f (a ∷ b ∷ []) uk) in
          let is = truth_signed true (int_lt (int_of (val A a e)) (int_of (val A b e))) (subst (Signed true) (val_prim A f prim.Less (a ∷ b ∷ []) e x) (fact_says D A ms e (Call f (a ∷ b ∷ [])) true h)) in
          subst (Each (PolyHolds D e)) (sym (some_is w.1)) ((λ r reads. difference_holds D A ms e r reads b a (negsuc 0) p ks.1.0 ks.0 w.0 (less_says (int_of (val A a e)) (int_of (val A b e)) is)), tt)
  literal_holds (Some prim.Less) f x (a ∷ b ∷ []) false uk h A ms ps l = go (both_gave (difference a b (pos 0)) _ ps l)
    where
      go : (p : Polynomial) × ((difference a b (pos 0) ≡ Some p) × (Some (p ∷ []) ≡ Some ps)) → Each (PolyHolds D e) ps
      go (p, w) =
          let ks = each_true (known D) (a ∷ b ∷ []) (known_args D f (a ∷ b ∷ []) uk) in
          let is = truth_signed false (int_lt (int_of (val A a e)) (int_of (val A b e))) (subst (Signed false) (val_prim A f prim.Less (a ∷ b ∷ []) e x) (fact_says D A ms e (Call f (a ∷ b ∷ [])) false h)) in
          subst (Each (PolyHolds D e)) (sym (some_is w.1)) ((λ r reads. difference_holds D A ms e r reads a b (pos 0) p ks.0 ks.1.0 w.0 (not_less_says (int_of (val A a e)) (int_of (val A b e)) is)), tt)
  literal_holds (Some prim.Equal) f x (a ∷ b ∷ []) true uk h A ms ps l = go (both_gave (difference a b (pos 0)) _ ps l)
    where
      ks : Each (λ u. known D u ≡ true) (a ∷ b ∷ [])
      ks = each_true (known D) (a ∷ b ∷ []) (known_args D f (a ∷ b ∷ []) uk)

      is : int_of (val A a e) ≡ int_of (val A b e)
      is = ap int_of (value_eq-true (val A a e) (val A b e) (truth_signed true (value_eq (val A a e) (val A b e)) (subst (Signed true) (val_prim A f prim.Equal (a ∷ b ∷ []) e x) (fact_says D A ms e (Call f (a ∷ b ∷ [])) true h))))

      inner : (p : Polynomial) → difference a b (pos 0) ≡ Some p → (q : Polynomial) × ((difference b a (pos 0) ≡ Some q) × (Some (p ∷ q ∷ []) ≡ Some ps)) → Each (PolyHolds D e) ps
      inner p k (q, w) = subst (Each (PolyHolds D e)) (sym (some_is w.1)) (
        (λ r reads. difference_holds D A ms e r reads a b (pos 0) p ks.0 ks.1.0 k (same_says (int_of (val A a e)) (int_of (val A b e)) is)),
        ((λ r reads. difference_holds D A ms e r reads b a (pos 0) q ks.1.0 ks.0 w.0 (same_says (int_of (val A b e)) (int_of (val A a e)) (sym is))), tt),
      )

      go : (p : Polynomial) × ((difference a b (pos 0) ≡ Some p) × (and_then (difference b a (pos 0)) (λ q. Some (p ∷ q ∷ [])) ≡ Some ps)) → Each (PolyHolds D e) ps
      go (p, w) = inner p w.0 (both_gave (difference b a (pos 0)) (λ q. Some (p ∷ q ∷ [])) ps w.1)
  literal_holds o f x ts s uk h A ms ps l = absurd (no l)
    where
      no : None ≡ Some ps → ⊥
      no k = cc

  pub literals_hold : (u : Term) (s : Bool) → known D u ≡ true → FactHolds D e (u, s) → Each (PolyHolds D e) (of_literal u s)
  literals_hold u s uk h = go (out-Term u) (out_says u)
    where
      given : (o : Option (List Polynomial)) → ((ps : List Polynomial) → o ≡ Some ps → Each (PolyHolds D e) ps) → Each (PolyHolds D e) (unwrap_or o [])
      given None k = tt
      given (Some ps) k = k ps refl

      go : (y : Term-F Term) → OutSays u y → Each (PolyHolds D e) (unwrap_or (polys_in y s) [])
      go (Term-F.Var x) says = tt
      go (Term-F.Quote v) says = tt
      go (Term-F.Call f ts) says = given (polys_by (prim_of f) ts s)
          (λ ps l. literal_holds (prim_of f) f refl ts s (subst (λ u. known D u ≡ true) says uk) (subst (λ u. FactHolds D e (u, s)) says h) (models D total).0 (models D total).1 ps l)
