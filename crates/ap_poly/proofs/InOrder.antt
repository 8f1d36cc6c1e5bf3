-- The polynomials that are made are in order.
use Rattle.std.proofs.Common.{◌≡◌, ℕ, Bool, true, false, ℤ, pos, negsuc, ◌+ℤ◌, ◌*ℤ◌, neg_ℤ, List, [], ◌∷◌, Option, Some, None, unwrap_or, refl, sym, subst}
use Rattle.ap_list.specs.Lists.{Each}
use Rattle.ap_value.specs.declared.symbol.Symbol.{Symbol}
use Rattle.ap_value.specs.declared.value.Value.{Value}
use Rattle.ap_value.specs.Values.{val_of}
use Rattle.ap_term.specs.declared.term.Term.{Term, out-Term, Var, Quote, Call}
use Rattle.ap_term.specs.declared.term.Term.TheOpen.{Term-F}
use Rattle.ap_term.proofs.Induction.{term_ind, para_var, para_quote}
use Rattle.ap_world.specs.declared.primitive.Primitive.{Primitive as Prim}
use Rattle.ap_world.specs.declared.primitive.Primitive.TheVariants as prim
use Rattle.ap_world.specs.Primitives.{prim_of, int_of}
use Rattle.ap_poly.specs.Polynomials.{Parts, Polynomial, IsPoly, and_then, narrow, put, add, scale}
use Rattle.ap_poly.specs.Literals.{Into, add_constant, add_atom, add_product, add_call, into_step, into, paired, difference, polys_by, polys_in, of_literal}
use Rattle.ap_poly.proofs.Sums.{some_is, both_gave}
use Rattle.ap_poly.proofs.LiteralsHold.{into_call}
use Rattle.ap_poly.proofs.Ordering.{put_ordered, add_parts_ordered, scale_parts_ordered}
use Rattle.ap_poly.proofs.Left.{add_inside, scale_inside}

pub sums_ordered : (p q s : Polynomial) → IsPoly p → IsPoly q → add p q ≡ Some s → IsPoly s
sums_ordered p q s hp hq h = add_parts_ordered p.parts q.parts s.parts (add_inside p q s h) hq

pub multiples_ordered : (k : ℕ) (p s : Polynomial) → IsPoly p → scale k p ≡ Some s → IsPoly s
multiples_ordered k p s hp h = scale_parts_ordered k p.parts s.parts (scale_inside k p s h) hp

abbrev Keeps : Into → Type 0
Keeps f = (k : ℤ) (p q : Polynomial) → f k p ≡ Some q → IsPoly p → IsPoly q

constant_keeps : (n : ℤ) → Keeps (add_constant n)
constant_keeps n k p q h hp = first (both_gave (narrow (k *ℤ n)) _ q h)
  where
    second : (m : ℤ) → (c : ℤ) × ((narrow (p.constant +ℤ m) ≡ Some c) × (Some (record { constant = c; parts = p.parts }) ≡ Some q)) → IsPoly q
    second m (c, w) = subst IsPoly (sym (some_is w.1)) hp

    first : (m : ℤ) × ((narrow (k *ℤ n) ≡ Some m) × (and_then (narrow (p.constant +ℤ m)) (λ c. Some (record { constant = c; parts = p.parts })) ≡ Some q)) → IsPoly q
    first (m, w) = second m (both_gave (narrow (p.constant +ℤ m)) (λ c. Some (record { constant = c; parts = p.parts })) q w.1)

atom_keeps : (u : Term) → Keeps (add_atom u)
atom_keeps u k p q h hp = go (both_gave (put u k p.parts) _ q h)
  where
    go : (ps : Parts) × ((put u k p.parts ≡ Some ps) × (Some (record { constant = p.constant; parts = ps }) ≡ Some q)) → IsPoly q
    go (ps, w) = subst IsPoly (sym (some_is w.1)) (put_ordered u k p.parts ps w.0 hp)

then_keeps : (n : ℤ) (f : Into) (p q : Polynomial) → Keeps f → and_then (narrow n) (λ m. f m p) ≡ Some q → IsPoly p → IsPoly q
then_keeps n f p q kf h hp = go (both_gave (narrow n) (λ m. f m p) q h)
  where
    go : (m : ℤ) × ((narrow n ≡ Some m) × (f m p ≡ Some q)) → IsPoly q
    go (m, w) = kf m p q w.1 hp

into_keeps : (u : Term) → Keeps (into u)
into_keeps u = term_ind (λ u. Keeps (into u)) variable constant call u
  where
    variable : (x : Symbol) → Keeps (into (Var x))
    variable x k p q h hp = atom_keeps (Var x) k p q (rw (para_var into_step x) at h) hp

    constant : (v : Value) → Keeps (into (Quote v))
    constant v k p q h hp = constant_keeps (int_of (val_of v)) k p q (rw (para_quote into_step v) at h) hp

    plus : (a b : Term) → Keeps (into a) → Keeps (into b) → (k : ℤ) (p q : Polynomial) → and_then (into a k p) (into b k) ≡ Some q → IsPoly p → IsPoly q
    plus a b ka kb k p q h hp = go (both_gave (into a k p) (into b k) q h)
      where
        go : (s : Polynomial) × ((into a k p ≡ Some s) × (into b k s ≡ Some q)) → IsPoly q
        go (s, w) = kb k s q w.1 (ka k p s w.0 hp)

    times : (u b : Term) → Keeps (into b) → (y : Term-F Term) → Keeps (add_product y (into b) (add_atom u))
    times u b kb (Term-F.Var x) k p q h hp = atom_keeps u k p q h hp
    times u b kb (Term-F.Call f ts) k p q h hp = atom_keeps u k p q h hp
    times u b kb (Term-F.Quote v) k p q h hp = then_keeps (k *ℤ int_of (val_of v)) (into b) p q kb h hp

    by : (o : Option Prim) (u : Term) (ts : List Term) → Each (λ u. Keeps (into u)) ts → Keeps (add_call o (paired ts) (add_atom u))
    by (Some prim.Plus) u (a ∷ b ∷ []) ks k p q h hp = plus a b ks.0 ks.1.0 k p q h hp
    by (Some prim.Minus) u (a ∷ []) ks k p q h hp = then_keeps (neg_ℤ k) (into a) p q ks.0 h hp
    by (Some prim.Times) u (a ∷ b ∷ []) ks k p q h hp = times u b ks.1.0 (out-Term a) k p q h hp
    by o u ts ks k p q h hp = atom_keeps u k p q h hp

    call : (f : Symbol) (ts : List Term) → Each (λ u. Keeps (into u)) ts → Keeps (into (Call f ts))
    call f ts ks k p q h hp = by (prim_of f) (Call f ts) ts ks k p q (rw (into_call f ts) at h) hp

difference_ordered : (a b : Term) (n : ℤ) (q : Polynomial) → difference a b n ≡ Some q → IsPoly q
difference_ordered a b n q h = first (both_gave (into a (pos 1) (record { constant = pos 0; parts = [] })) _ q h)
  where
    second : (s : Polynomial) → IsPoly s → (t : Polynomial) × ((into b (negsuc 0) s ≡ Some t) × (add_constant n (pos 1) t ≡ Some q)) → IsPoly q
    second s hs (t, w) = constant_keeps n (pos 1) t q w.1 (into_keeps b (negsuc 0) s t w.0 hs)

    first : (s : Polynomial) × ((into a (pos 1) (record { constant = pos 0; parts = [] }) ≡ Some s) × (and_then (into b (negsuc 0) s) (λ q. add_constant n (pos 1) q) ≡ Some q)) → IsPoly q
    first (s, w) = second s (into_keeps a (pos 1) (record { constant = pos 0; parts = [] }) s w.0 tt) (both_gave (into b (negsuc 0) s) (λ q. add_constant n (pos 1) q) q w.1)

polys_ordered : (o : Option Prim) (ts : List Term) (s : Bool) (ps : List Polynomial) → polys_by o ts s ≡ Some ps → Each IsPoly ps
polys_ordered (Some prim.Less) (a ∷ b ∷ []) true ps h = go (both_gave (difference b a (negsuc 0)) _ ps h)
  where
    go : (p : Polynomial) × ((difference b a (negsuc 0) ≡ Some p) × (Some (p ∷ []) ≡ Some ps)) → Each IsPoly ps
    go (p, w) = subst (Each IsPoly) (sym (some_is w.1)) (difference_ordered b a (negsuc 0) p w.0, tt)
polys_ordered (Some prim.Less) (a ∷ b ∷ []) false ps h = go (both_gave (difference a b (pos 0)) _ ps h)
  where
    go : (p : Polynomial) × ((difference a b (pos 0) ≡ Some p) × (Some (p ∷ []) ≡ Some ps)) → Each IsPoly ps
    go (p, w) = subst (Each IsPoly) (sym (some_is w.1)) (difference_ordered a b (pos 0) p w.0, tt)
polys_ordered (Some prim.Equal) (a ∷ b ∷ []) true ps h = first (both_gave (difference a b (pos 0)) _ ps h)
  where
    second : (p : Polynomial) → IsPoly p → (q : Polynomial) × ((difference b a (pos 0) ≡ Some q) × (Some (p ∷ q ∷ []) ≡ Some ps)) → Each IsPoly ps
    second p hp (q, w) = subst (Each IsPoly) (sym (some_is w.1)) (hp, (difference_ordered b a (pos 0) q w.0, tt))

    first : (p : Polynomial) × ((difference a b (pos 0) ≡ Some p) × (and_then (difference b a (pos 0)) (λ q. Some (p ∷ q ∷ [])) ≡ Some ps)) → Each IsPoly ps
    first (p, w) = second p (difference_ordered a b (pos 0) p w.0) (both_gave (difference b a (pos 0)) (λ q. Some (p ∷ q ∷ [])) ps w.1)
polys_ordered o ts s ps h = absurd (no h)
  where
    no : None ≡ Some ps → ⊥
    no k = cc

pub literals_ordered : (u : Term) (s : Bool) → Each IsPoly (of_literal u s)
literals_ordered u s = given (polys_in (out-Term u) s) (go (out-Term u))
  where
    given : (o : Option (List Polynomial)) → ((ps : List Polynomial) → o ≡ Some ps → Each IsPoly ps) → Each IsPoly (unwrap_or o [])
    given None k = tt
    given (Some ps) k = k ps refl

    go : (y : Term-F Term) (ps : List Polynomial) → polys_in y s ≡ Some ps → Each IsPoly ps
    go (Term-F.Var x) ps h = absurd (no h)
      where
        no : None ≡ Some ps → ⊥
        no k = cc
    go (Term-F.Quote v) ps h = absurd (no h)
      where
        no : None ≡ Some ps → ⊥
        no k = cc
    go (Term-F.Call f ts) ps h = polys_ordered (prim_of f) ts s ps h
