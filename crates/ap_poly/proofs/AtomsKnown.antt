-- The polynomials of known terms have known atoms.
use Rattle.std.proofs.Common.{◌≡◌, Bool, true, false, cond, ℤ, pos, negsuc, ◌+ℤ◌, ◌*ℤ◌, neg_ℤ, List, [], ◌∷◌, ◌++◌, Option, Some, None, unwrap_or, refl, sym, subst}
use Rattle.ap_list.specs.Lists.{Each, is_among}
use Rattle.ap_value.specs.declared.symbol.Symbol.{Symbol}
use Rattle.ap_value.specs.declared.value.Value.{Value}
use Rattle.ap_value.specs.Values.{val_of}
use Rattle.ap_term.specs.declared.term.Term.{Term, out-Term, Var, Quote, Call}
use Rattle.ap_term.specs.declared.term.Term.TheOpen.{Term-F}
use Rattle.ap_term.specs.Equal.{term_eq}
use Rattle.ap_term.proofs.Induction.{OutSays, out_says, term_ind, para_var, para_quote}
use Rattle.ap_world.specs.declared.primitive.Primitive.{Primitive as Prim}
use Rattle.ap_world.specs.declared.primitive.Primitive.TheVariants as prim
use Rattle.ap_world.specs.Primitives.{prim_of, int_of}
use Rattle.ap_world.specs.Meaning.{Defs}
use Rattle.ap_world.specs.Sound.{known}
use Rattle.ap_world.proofs.Knowing.{known_args, each_true}
use Rattle.ap_list.proofs.Eachs.{each_append}
use Rattle.ap_poly.specs.Polynomials.{Parts, Polynomial, and_then, narrow, put}
use Rattle.ap_poly.specs.Literals.{Into, add_constant, add_atom, add_product, add_call, into_step, into, paired, difference, polys_by, polys_in, of_literal}
use Rattle.ap_poly.specs.Bounds.{seen_in, seen_after, first_atoms, PolyKnown}
use Rattle.ap_poly.proofs.Sums.{some_is, both_gave}
use Rattle.ap_poly.proofs.LiteralsHold.{into_call}
use Rattle.ap_poly.proofs.Ordering.{put_keeps}

module _ (D : Defs) where
  abbrev Known : Term → Type 0
  Known u = known D u ≡ true

  abbrev Keeps : Into → Type 0
  Keeps f = (k : ℤ) (p q : Polynomial) → f k p ≡ Some q → PolyKnown D p → PolyKnown D q

  constant_keeps : (n : ℤ) → Keeps (add_constant n)
  constant_keeps n k p q h hp = first (both_gave (narrow (k *ℤ n)) _ q h)
    where
      second : (m : ℤ) → (c : ℤ) × ((narrow (p.constant +ℤ m) ≡ Some c) × (Some (record { constant = c; parts = p.parts }) ≡ Some q)) → PolyKnown D q
      second m (c, w) = subst (PolyKnown D) (sym (some_is w.1)) hp

      first : (m : ℤ) × ((narrow (k *ℤ n) ≡ Some m) × (and_then (narrow (p.constant +ℤ m)) (λ c. Some (record { constant = c; parts = p.parts })) ≡ Some q)) → PolyKnown D q
      first (m, w) = second m (both_gave (narrow (p.constant +ℤ m)) (λ c. Some (record { constant = c; parts = p.parts })) q w.1)

  atom_keeps : (u : Term) → Known u → Keeps (add_atom u)
  atom_keeps u uk k p q h hp = go (both_gave (put u k p.parts) _ q h)
    where
      go : (ps : Parts) × ((put u k p.parts ≡ Some ps) × (Some (record { constant = p.constant; parts = ps }) ≡ Some q)) → PolyKnown D q
      go (ps, w) = subst (PolyKnown D) (sym (some_is w.1)) (put_keeps Known u k p.parts ps w.0 uk hp)

  then_keeps : (n : ℤ) (f : Into) (p q : Polynomial) → Keeps f → and_then (narrow n) (λ m. f m p) ≡ Some q → PolyKnown D p → PolyKnown D q
  then_keeps n f p q kf h hp = go (both_gave (narrow n) (λ m. f m p) q h)
    where
      go : (m : ℤ) × ((narrow n ≡ Some m) × (f m p ≡ Some q)) → PolyKnown D q
      go (m, w) = kf m p q w.1 hp

  into_keeps : (u : Term) → Known u → Keeps (into u)
  into_keeps u = term_ind (λ u. Known u → Keeps (into u)) variable constant call u
    where
      variable : (x : Symbol) → Known (Var x) → Keeps (into (Var x))
      variable x uk k p q h hp = atom_keeps (Var x) uk k p q (rw (para_var into_step x) at h) hp

      constant : (v : Value) → Known (Quote v) → Keeps (into (Quote v))
      constant v uk k p q h hp = constant_keeps (int_of (val_of v)) k p q (rw (para_quote into_step v) at h) hp

      plus : (a b : Term) → Keeps (into a) → Keeps (into b) → (k : ℤ) (p q : Polynomial) → and_then (into a k p) (into b k) ≡ Some q → PolyKnown D p → PolyKnown D q
      plus a b ka kb k p q h hp = go (both_gave (into a k p) (into b k) q h)
        where
          go : (s : Polynomial) × ((into a k p ≡ Some s) × (into b k s ≡ Some q)) → PolyKnown D q
          go (s, w) = kb k s q w.1 (ka k p s w.0 hp)

      times : (u b : Term) → Known u → Keeps (into b) → (y : Term-F Term) → Keeps (add_product y (into b) (add_atom u))
      times u b uk kb (Term-F.Var x) k p q h hp = atom_keeps u uk k p q h hp
      times u b uk kb (Term-F.Call f ts) k p q h hp = atom_keeps u uk k p q h hp
      times u b uk kb (Term-F.Quote v) k p q h hp = then_keeps (k *ℤ int_of (val_of v)) (into b) p q kb h hp

      by : (o : Option Prim) (u : Term) (ts : List Term) → Known u → Each (λ u. Known u → Keeps (into u)) ts → Each Known ts → Keeps (add_call o (paired ts) (add_atom u))
      by (Some prim.Plus) u (a ∷ b ∷ []) uk gs ks k p q h hp = plus a b (gs.0 ks.0) (gs.1.0 ks.1.0) k p q h hp
      by (Some prim.Minus) u (a ∷ []) uk gs ks k p q h hp = then_keeps (neg_ℤ k) (into a) p q (gs.0 ks.0) h hp
      by (Some prim.Times) u (a ∷ b ∷ []) uk gs ks k p q h hp = times u b uk (gs.1.0 ks.1.0) (out-Term a) k p q h hp
      by o u ts uk gs ks k p q h hp = atom_keeps u uk k p q h hp

      call : (f : Symbol) (ts : List Term) → Each (λ u. Known u → Keeps (into u)) ts → Known (Call f ts) → Keeps (into (Call f ts))
      call f ts gs uk k p q h hp = by (prim_of f) (Call f ts) ts uk gs (each_true (known D) ts (known_args D f ts uk)) k p q (rw (into_call f ts) at h) hp

  difference_known : (a b : Term) (n : ℤ) (q : Polynomial) → Known a → Known b → difference a b n ≡ Some q → PolyKnown D q
  difference_known a b n q ak bk h = first (both_gave (into a (pos 1) (record { constant = pos 0; parts = [] })) _ q h)
    where
      second : (s : Polynomial) → PolyKnown D s → (t : Polynomial) × ((into b (negsuc 0) s ≡ Some t) × (add_constant n (pos 1) t ≡ Some q)) → PolyKnown D q
      second s hs (t, w) = constant_keeps n (pos 1) t q w.1 (into_keeps b bk (negsuc 0) s t w.0 hs)

      first : (s : Polynomial) × ((into a (pos 1) (record { constant = pos 0; parts = [] }) ≡ Some s) × (and_then (into b (negsuc 0) s) (λ q. add_constant n (pos 1) q) ≡ Some q)) → PolyKnown D q
      first (s, w) = second s (into_keeps a ak (pos 1) (record { constant = pos 0; parts = [] }) s w.0 tt) (both_gave (into b (negsuc 0) s) (λ q. add_constant n (pos 1) q) q w.1)

  polys_known : (o : Option Prim) (ts : List Term) (s : Bool) (ps : List Polynomial) → Each Known ts → polys_by o ts s ≡ Some ps → Each (PolyKnown D) ps
  polys_known (Some prim.Less) (a ∷ b ∷ []) true ps ks h = go (both_gave (difference b a (negsuc 0)) _ ps h)
    where
      go : (p : Polynomial) × ((difference b a (negsuc 0) ≡ Some p) × (Some (p ∷ []) ≡ Some ps)) → Each (PolyKnown D) ps
      go (p, w) = subst (Each (PolyKnown D)) (sym (some_is w.1)) (difference_known b a (negsuc 0) p ks.1.0 ks.0 w.0, tt)
  polys_known (Some prim.Less) (a ∷ b ∷ []) false ps ks h = go (both_gave (difference a b (pos 0)) _ ps h)
    where
      go : (p : Polynomial) × ((difference a b (pos 0) ≡ Some p) × (Some (p ∷ []) ≡ Some ps)) → Each (PolyKnown D) ps
      go (p, w) = subst (Each (PolyKnown D)) (sym (some_is w.1)) (difference_known a b (pos 0) p ks.0 ks.1.0 w.0, tt)
  polys_known (Some prim.Equal) (a ∷ b ∷ []) true ps ks h = first (both_gave (difference a b (pos 0)) _ ps h)
    where
      second : (p : Polynomial) → PolyKnown D p → (q : Polynomial) × ((difference b a (pos 0) ≡ Some q) × (Some (p ∷ q ∷ []) ≡ Some ps)) → Each (PolyKnown D) ps
      second p hp (q, w) = subst (Each (PolyKnown D)) (sym (some_is w.1)) (hp, (difference_known b a (pos 0) q ks.1.0 ks.0 w.0, tt))

      first : (p : Polynomial) × ((difference a b (pos 0) ≡ Some p) × (and_then (difference b a (pos 0)) (λ q. Some (p ∷ q ∷ [])) ≡ Some ps)) → Each (PolyKnown D) ps
      first (p, w) = second p (difference_known a b (pos 0) p ks.0 ks.1.0 w.0) (both_gave (difference b a (pos 0)) (λ q. Some (p ∷ q ∷ [])) ps w.1)
  polys_known o ts s ps ks h = absurd (no h)
    where
      no : None ≡ Some ps → ⊥
      no k = cc

  literal_known : (u : Term) (s : Bool) → Known u → Each (PolyKnown D) (of_literal u s)
  literal_known u s uk = given (polys_in (out-Term u) s) (go (out-Term u) (out_says u))
    where
      given : (o : Option (List Polynomial)) → ((ps : List Polynomial) → o ≡ Some ps → Each (PolyKnown D) ps) → Each (PolyKnown D) (unwrap_or o [])
      given None k = tt
      given (Some ps) k = k ps refl

      go : (y : Term-F Term) → OutSays u y → (ps : List Polynomial) → polys_in y s ≡ Some ps → Each (PolyKnown D) ps
      go (Term-F.Var x) says ps h = absurd (no h)
        where
          no : None ≡ Some ps → ⊥
          no k = cc
      go (Term-F.Quote v) says ps h = absurd (no h)
        where
          no : None ≡ Some ps → ⊥
          no k = cc
      go (Term-F.Call f ts) says ps h = polys_known (prim_of f) ts s ps (each_true (known D) ts (known_args D f ts (subst Known says uk))) h

  seen_known : (ps : Parts) (us : List Term) → Each (λ (q : Term × ℤ). Known q.0) ps → Each Known us → Each Known (seen_in ps us)
  seen_known [] us h g = g
  seen_known (p ∷ ps) us h g = seen_known ps (cond (is_among term_eq p.0 us) us (us ++ p.0 ∷ [])) h.1 (go (is_among term_eq p.0 us))
    where
      go : (b : Bool) → Each Known (cond b us (us ++ p.0 ∷ []))
      go true = g
      go false = each_append Known us (p.0 ∷ []) g (h.0, tt)

  after_known : (ps : List Polynomial) (us : List Term) → Each (PolyKnown D) ps → Each Known us → Each Known (seen_after ps us)
  after_known [] us h g = g
  after_known (p ∷ ps) us h g = after_known ps (seen_in p.parts us) h.1 (seen_known p.parts us h.0 g)

pub literals_known : (D : Defs) (u : Term) (s : Bool) → known D u ≡ true → Each (PolyKnown D) (of_literal u s)
literals_known D u s k = literal_known D u s k

pub atoms_known : (D : Defs) (ps : List Polynomial) → Each (PolyKnown D) ps → Each (λ x. known D x ≡ true) (first_atoms ps)
atoms_known D ps h = after_known D ps [] h tt
