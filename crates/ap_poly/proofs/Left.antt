-- Once every atom is eliminated, constants alone are left.
use Rattle.std.proofs.Common.{◌≡◌, inl, inr, ℕ, zero, suc, ◌/◌, Bool, true, false, cond, ℤ, pos, ◌+ℤ◌, ◌*ℤ◌, int_lt, unsigned_abs, List, [], ◌∷◌, ◌++◌, map, take, Option, Some, None, refl, ap, sym, subst, ◌∙◌, true≢false}
use Rattle.std.proofs.Math.IntN.{*ℤ-zero, *ℤ_comm, +ℤ_idl, +ℤ_idr}
use Rattle.ap_list.specs.Lists.{Each, AnyOf}
use Rattle.ap_value.specs.Values.{int_eq}
use Rattle.ap_value.proofs.Equals.{int_eq-true, int_eq-same}
use Rattle.ap_term.specs.declared.term.Term.{Term}
use Rattle.ap_term.specs.Equal.{term_eq}
use Rattle.ap_term.specs.Order.{term_less}
use Rattle.ap_term.proofs.Equals.{term_eq-true, term_eq-same}
use Rattle.ap_list.proofs.Eachs.{each_append}
use Rattle.ap_poly.specs.Polynomials.{Parts, Polynomial, Later, Ordered, IsPoly, parts_value, and_then, narrow, add_parts, add, scale_parts, scale}
use Rattle.ap_poly.specs.Elimination.{Row, behind, rows_of, coefficient_in, coefficient, multiplier, mixed, combined, meeting, gcd, or_less, without, with_negative, with_positive, eliminated, with_atom, with_atoms, atoms_of, left_after, no_parts}
use Rattle.ap_poly.proofs.Integers.{one_times}
use Rattle.ap_poly.proofs.Sums.{some_is, both_gave, add_parts_value, scale_parts_value}
use Rattle.ap_poly.proofs.Certified.{multiplier_is}
use Rattle.ap_poly.proofs.Ordering.{Atoms, add_parts_keep, scale_parts_keep, add_parts_ordered, scale_parts_ordered}
use Rattle.ap_poly.proofs.Divisors.{vanish}

pub add_inside : (p q s : Polynomial) → add p q ≡ Some s → add_parts p.parts q.parts ≡ Some s.parts
add_inside p q s h = first (both_gave (narrow (p.constant +ℤ q.constant)) _ s h)
  where
    second : (c : ℤ) → (ps : Parts) × ((add_parts p.parts q.parts ≡ Some ps) × (Some (record { constant = c; parts = ps }) ≡ Some s)) → add_parts p.parts q.parts ≡ Some s.parts
    second c (ps, w) = w.0 ∙ ap (λ (z : Polynomial). Some z.parts) (sym (some_is w.1))

    first : (c : ℤ) × ((narrow (p.constant +ℤ q.constant) ≡ Some c) × (and_then (add_parts p.parts q.parts) (λ ps. Some (record { constant = c; parts = ps })) ≡ Some s)) → add_parts p.parts q.parts ≡ Some s.parts
    first (c, w) = second c (both_gave (add_parts p.parts q.parts) (λ ps. Some (record { constant = c; parts = ps })) s w.1)

pub scale_inside : (k : ℕ) (p s : Polynomial) → scale k p ≡ Some s → scale_parts k p.parts ≡ Some s.parts
scale_inside k p s h = first (both_gave (narrow (pos k *ℤ p.constant)) _ s h)
  where
    second : (c : ℤ) → (ps : Parts) × ((scale_parts k p.parts ≡ Some ps) × (Some (record { constant = c; parts = ps }) ≡ Some s)) → scale_parts k p.parts ≡ Some s.parts
    second c (ps, w) = w.0 ∙ ap (λ (z : Polynomial). Some z.parts) (sym (some_is w.1))

    first : (c : ℤ) × ((narrow (pos k *ℤ p.constant) ≡ Some c) × (and_then (scale_parts k p.parts) (λ ps. Some (record { constant = c; parts = ps })) ≡ Some s)) → scale_parts k p.parts ≡ Some s.parts
    first (c, w) = second c (both_gave (scale_parts k p.parts) (λ ps. Some (record { constant = c; parts = ps })) s w.1)

abbrev In : List Term → Term → Type 0
In xs t = AnyOf (λ x. x ≡ t) xs

abbrev Gone : List Term → Term → Type 0
Gone [] t = Unit {0}
Gone (x ∷ xs) t = Gone xs t × (term_eq x t ≡ false)

nowhere : (xs : List Term) (t : Term) → In xs t → Gone xs t → ⊥
nowhere [] t h g = h
nowhere (x ∷ xs) t (inl e) g = true≢false (sym (subst (λ u. term_eq x u ≡ true) e (term_eq-same x)) ∙ g.1)
nowhere (x ∷ xs) t (inr h) g = nowhere xs t h g.0

-- a reading by which the atom x alone counts
abbrev only : Term → Term → ℤ
only x u = cond (term_eq x u) (pos 1) (pos 0)

abbrev Absent : Term → Parts → Type 0
Absent x ps = Each (λ (q : Term × ℤ). term_eq x q.0 ≡ false) ps

times_one : (n : ℤ) → n *ℤ pos 1 ≡ n
times_one n = *ℤ_comm n (pos 1) ∙ one_times n

absent_value : (x : Term) (ps : Parts) → Absent x ps → parts_value (only x) ps ≡ pos 0
absent_value x [] h = refl
absent_value x (p ∷ ps) h = ap (λ b. p.1 *ℤ cond b (pos 1) (pos 0) +ℤ parts_value (only x) ps) h.0 ∙ ap (λ z. z +ℤ parts_value (only x) ps) (*ℤ-zero p.1) ∙ +ℤ_idl (parts_value (only x) ps) ∙ absent_value x ps h.1

others_absent : (x : Term) (p : Term × ℤ) (ps : Parts) → term_eq x p.0 ≡ true → Each (Later p.0) ps → Absent x ps
others_absent x p [] e h = tt
others_absent x p (q ∷ ps) e h = (subst (λ u. term_eq u q.0 ≡ false) (sym (term_eq-true x p.0 e)) h.0.1, others_absent x p ps e h.1)

only_value : (x : Term) (ps : Parts) → Ordered ps → parts_value (only x) ps ≡ coefficient_in x ps
only_value x [] h = refl
only_value x (p ∷ ps) h = go (only_value x ps h.2) (term_eq x p.0) refl
  where
    go : parts_value (only x) ps ≡ coefficient_in x ps → (b : Bool) → term_eq x p.0 ≡ b → p.1 *ℤ cond b (pos 1) (pos 0) +ℤ parts_value (only x) ps ≡ cond b p.1 (coefficient_in x ps)
    go next true e = ap (λ z. z +ℤ parts_value (only x) ps) (times_one p.1) ∙ ap (λ z. p.1 +ℤ z) (absent_value x ps (others_absent x p ps e h.0)) ∙ +ℤ_idr p.1
    go next false e = ap (λ z. z +ℤ parts_value (only x) ps) (*ℤ-zero p.1) ∙ +ℤ_idl (parts_value (only x) ps) ∙ next

-- an atom whose coefficient is 0 isn't there
zero_absent : (x : Term) (ps : Parts) → Ordered ps → coefficient_in x ps ≡ pos 0 → Absent x ps
zero_absent x [] h e = tt
zero_absent x (p ∷ ps) h e = go (zero_absent x ps h.2) (term_eq x p.0) refl e
  where
    go : (coefficient_in x ps ≡ pos 0 → Absent x ps) → (b : Bool) → term_eq x p.0 ≡ b → cond b p.1 (coefficient_in x ps) ≡ pos 0 → Absent x (p ∷ ps)
    go next true k l = absurd (true≢false (sym (int_eq-same (pos 0)) ∙ ap (λ z. int_eq z (pos 0)) (sym l) ∙ h.1))
    go next false k l = (k, next l)

-- a row in order, of atoms of the list, those in xs gone
record Tidy (all xs : List Term) (w : Row) : Type 0 where
  ordered : Ordered w.poly.parts
  among : Atoms (In all) w.poly.parts
  gone : Atoms (Gone xs) w.poly.parts

gone_too : (x : Term) (xs : List Term) (ps : Parts) → Atoms (Gone xs) ps → Absent x ps → Atoms (Gone (x ∷ xs)) ps
gone_too x xs [] h g = tt
gone_too x xs (p ∷ ps) h g = ((h.0, g.0), gone_too x xs ps h.1 g.1)

module _ (all xs : List Term) (x : Term) where
  abbrev Before : Row → Type 0
  Before = Tidy all xs

  abbrev After : Row → Type 0
  After = Tidy all (x ∷ xs)

  tidier : (w : Row) → Before w → coefficient x w ≡ pos 0 → After w
  tidier w h e = record { ordered = h.ordered; among = h.among; gone = gone_too x xs w.poly.parts h.gone (zero_absent x w.poly.parts h.ordered e) }

  abbrev summed : ℕ → Row → ℕ → Row → Option Row
  summed k p l q = and_then (scale k p.poly) (λ a. and_then (scale l q.poly) (λ b. and_then (add a b) (λ c. and_then (mixed k p.by l q.by) (λ by. Some (record { poly = c; by = by })))))

  summed_tidy : (k l : ℕ) (p q w : Row) → Before p → Before q → pos k *ℤ coefficient x p +ℤ pos l *ℤ coefficient x q ≡ pos 0 → summed k p l q ≡ Some w → After w
  summed_tidy k l p q w hp hq e h = first (both_gave (scale k p.poly) _ w h)
    where
      made : (a b c : Parts) → scale_parts k p.poly.parts ≡ Some a → scale_parts l q.poly.parts ≡ Some b → add_parts a b ≡ Some c → w.poly.parts ≡ c → After w
      made a b c i j n v =
          let in_order : Ordered c = add_parts_ordered a b c n (scale_parts_ordered l q.poly.parts b j hq.ordered) in
          tidier w (record {
            ordered = subst Ordered (sym v) in_order;
            among = subst (Atoms (In all)) (sym v) (add_parts_keep (In all) a b c n (scale_parts_keep (In all) k p.poly.parts a i hp.among) (scale_parts_keep (In all) l q.poly.parts b j hq.among));
            gone = subst (Atoms (Gone xs)) (sym v) (add_parts_keep (Gone xs) a b c n (scale_parts_keep (Gone xs) k p.poly.parts a i hp.gone) (scale_parts_keep (Gone xs) l q.poly.parts b j hq.gone));
          })
          (ap (coefficient_in x) v ∙ sym (only_value x c in_order) ∙ add_parts_value (only x) a b c n
          ∙ ap (λ z. z +ℤ parts_value (only x) b) (scale_parts_value (only x) k p.poly.parts a i ∙ ap (λ z. pos k *ℤ z) (only_value x p.poly.parts hp.ordered))
          ∙ ap (λ z. pos k *ℤ coefficient x p +ℤ z) (scale_parts_value (only x) l q.poly.parts b j ∙ ap (λ z. pos l *ℤ z) (only_value x q.poly.parts hq.ordered)) ∙ e)

      fourth : (a b c : Polynomial) → scale k p.poly ≡ Some a → scale l q.poly ≡ Some b → add a b ≡ Some c
          → (by : List ℕ) × ((mixed k p.by l q.by ≡ Some by) × (Some (record { poly = c; by = by }) ≡ Some w)) → After w
      fourth a b c i j n (by, v) = made a.parts b.parts c.parts (scale_inside k p.poly a i) (scale_inside l q.poly b j) (add_inside a b c n) (ap (λ (z : Row). z.poly.parts) (some_is v.1))

      third : (a b : Polynomial) → scale k p.poly ≡ Some a → scale l q.poly ≡ Some b
          → (c : Polynomial) × ((add a b ≡ Some c) × (and_then (mixed k p.by l q.by) (λ by. Some (record { poly = c; by = by })) ≡ Some w)) → After w
      third a b i j (c, v) = fourth a b c i j v.0 (both_gave (mixed k p.by l q.by) (λ by. Some (record { poly = c; by = by })) w v.1)

      second : (a : Polynomial) → scale k p.poly ≡ Some a
          → (b : Polynomial) × ((scale l q.poly ≡ Some b) × (and_then (add a b) (λ c. and_then (mixed k p.by l q.by) (λ by. Some (record { poly = c; by = by }))) ≡ Some w)) → After w
      second a i (b, v) = third a b i v.0 (both_gave (add a b) (λ c. and_then (mixed k p.by l q.by) (λ by. Some (record { poly = c; by = by }))) w v.1)

      first : (a : Polynomial) × ((scale k p.poly ≡ Some a) × (and_then (scale l q.poly) (λ b. and_then (add a b) (λ c. and_then (mixed k p.by l q.by) (λ by. Some (record { poly = c; by = by })))) ≡ Some w)) → After w
      first (a, v) = second a v.0 (both_gave (scale l q.poly) (λ b. and_then (add a b) (λ c. and_then (mixed k p.by l q.by) (λ by. Some (record { poly = c; by = by })))) w v.1)

  combined_tidy : (k l : ℕ) (p q w : Row) → Before p → Before q → pos k *ℤ coefficient x p +ℤ pos l *ℤ coefficient x q ≡ pos 0 → combined k p l q ≡ Some w → After w
  combined_tidy k l p q w hp hq e h = first (both_gave (multiplier k) _ w h)
    where
      second : (i : ℕ) → i ≡ k → (j : ℕ) × ((multiplier l ≡ Some j) × (summed i p j q ≡ Some w)) → After w
      second i m (j, v) = summed_tidy i j p q w hp hq
          (ap (λ (n : ℕ). pos n *ℤ coefficient x p +ℤ pos j *ℤ coefficient x q) m ∙ ap (λ (n : ℕ). pos k *ℤ coefficient x p +ℤ pos n *ℤ coefficient x q) (multiplier_is l j v.0) ∙ e) v.1

      first : (i : ℕ) × ((multiplier k ≡ Some i) × (and_then (multiplier l) (λ j. summed i p j q) ≡ Some w)) → After w
      first (i, v) = second i (multiplier_is k i v.0) (both_gave (multiplier l) (λ j. summed i p j q) w v.1)

  either_tidy : (b : Bool) (us vs : List Row) → (b ≡ true → Each After us) → Each After vs → Each After (cond b us vs)
  either_tidy true us vs h g = h refl
  either_tidy false us vs h g = g

  less_tidy : (o : Option Row) (ws : List Row) → ((w : Row) → o ≡ Some w → After w) → Each After ws → Each After (or_less o ws)
  less_tidy None ws h hs = hs
  less_tidy (Some w) ws h hs = (h w refl, hs)

  take_tidy : (n : ℕ) (ws : List Row) → Each After ws → Each After (take n ws)
  take_tidy zero ws h = tt
  take_tidy (suc n) [] h = tt
  take_tidy (suc n) (w ∷ ws) h = (h.0, take_tidy n ws h.1)

  without_tidy : (ws : List Row) → Each Before ws → Each After (without x ws)
  without_tidy [] h = tt
  without_tidy (w ∷ ws) h =
      let rest = without_tidy ws h.1 in
      either_tidy (int_eq (coefficient x w) (pos 0)) (w ∷ without x ws) (without x ws) (λ e. (tidier w h.0 (int_eq-true (coefficient x w) (pos 0) e), rest)) rest

  negative_tidy : (p : Row) (qs : List Row) → int_lt (pos 0) (coefficient x p) ≡ true → Before p → Each Before qs → Each After (with_negative x p qs)
  negative_tidy p [] e h hs = tt
  negative_tidy p (q ∷ qs) e h hs =
      let rest = negative_tidy p qs e h hs.1 in
      either_tidy (int_lt (coefficient x q) (pos 0)) _ (with_negative x p qs)
      (λ k. less_tidy (meeting (unsigned_abs (coefficient x p)) p (unsigned_abs (coefficient x q)) q) (with_negative x p qs)
      (λ w l. combined_tidy (unsigned_abs (coefficient x q) / gcd (unsigned_abs (coefficient x p)) (unsigned_abs (coefficient x q))) (unsigned_abs (coefficient x p) / gcd (unsigned_abs (coefficient x p)) (unsigned_abs (coefficient x q)))
      p q w h hs.0 (vanish (coefficient x p) (coefficient x q) e k) l) rest)
      rest

  positive_tidy : (us qs : List Row) → Each Before us → Each Before qs → Each After (with_positive x us qs)
  positive_tidy [] qs h hs = tt
  positive_tidy (p ∷ us) qs h hs =
      let rest = positive_tidy us qs h.1 hs in
      either_tidy (int_lt (pos 0) (coefficient x p)) _ (with_positive x us qs)
      (λ e. each_append After (with_negative x p qs) (with_positive x us qs) (negative_tidy p qs e h.0 hs) rest) rest

  eliminated_tidy : (ws : List Row) → Each Before ws → Each After (eliminated x ws)
  eliminated_tidy ws h = take_tidy 64 (without x ws ++ with_positive x ws ws) (each_append After (without x ws) (with_positive x ws ws) (without_tidy ws h) (positive_tidy ws ws h h))

left_tidy : (all xs : List Term) (ws : List Row) → Each (Tidy all []) ws → Each (Tidy all xs) (left_after xs ws)
left_tidy all [] ws h = h
left_tidy all (x ∷ xs) ws h = eliminated_tidy all xs x (left_after xs ws) (left_tidy all xs ws h)

-- the atoms are all there
with_atom_has : (t : Term) (us : List Term) → In (with_atom t us) t
with_atom_has t [] = inl refl
with_atom_has t (u ∷ us) = go (with_atom_has t us) (term_eq t u) refl (term_less t u)
  where
    go : In (with_atom t us) t → (b : Bool) → term_eq t u ≡ b → (c : Bool) → In (cond b (u ∷ us) (cond c (t ∷ u ∷ us) (u ∷ with_atom t us))) t
    go next true e c = inl (sym (term_eq-true t u e))
    go next false e true = inl refl
    go next false e false = inr next

with_atom_keeps : (t x : Term) (us : List Term) → In us x → In (with_atom t us) x
with_atom_keeps t x [] h = absurd h
with_atom_keeps t x (u ∷ us) h = go (with_atom_keeps t x us) (term_eq t u) (term_less t u) h
  where
    go : (In us x → In (with_atom t us) x) → (b c : Bool) → In (u ∷ us) x → In (cond b (u ∷ us) (cond c (t ∷ u ∷ us) (u ∷ with_atom t us))) x
    go next true c k = k
    go next false true k = inr k
    go next false false (inl e) = inl e
    go next false false (inr k) = inr (next k)

with_atoms_keeps : (ps : Parts) (x : Term) (us : List Term) → In us x → In (with_atoms ps us) x
with_atoms_keeps [] x us h = h
with_atoms_keeps (p ∷ ps) x us h = with_atom_keeps p.0 x (with_atoms ps us) (with_atoms_keeps ps x us h)

atoms_more : (us vs : List Term) → ((x : Term) → In us x → In vs x) → (ps : Parts) → Atoms (In us) ps → Atoms (In vs) ps
atoms_more us vs k [] h = tt
atoms_more us vs k (p ∷ ps) h = (k p.0 h.0, atoms_more us vs k ps h.1)

with_atoms_has : (ps : Parts) (us : List Term) → Atoms (In (with_atoms ps us)) ps
with_atoms_has [] us = tt
with_atoms_has (p ∷ ps) us = (with_atom_has p.0 (with_atoms ps us), atoms_more (with_atoms ps us) (with_atoms (p ∷ ps) us) (λ x. with_atom_keeps p.0 x (with_atoms ps us)) ps (with_atoms_has ps us))

each_more : (us vs : List Term) → ((x : Term) → In us x → In vs x) → (ps : List Polynomial) → Each (λ (p : Polynomial). Atoms (In us) p.parts) ps → Each (λ (p : Polynomial). Atoms (In vs) p.parts) ps
each_more us vs k [] h = tt
each_more us vs k (p ∷ ps) h = (atoms_more us vs k p.parts h.0, each_more us vs k ps h.1)

atoms_cover : (ps : List Polynomial) → Each (λ (p : Polynomial). Atoms (In (atoms_of ps)) p.parts) ps
atoms_cover [] = tt
atoms_cover (p ∷ ps) = (with_atoms_has p.parts (atoms_of ps), each_more (atoms_of ps) (atoms_of (p ∷ ps)) (λ x. with_atoms_keeps p.parts x (atoms_of ps)) ps (atoms_cover ps))

none_gone : (ps : Parts) → Atoms (Gone []) ps
none_gone [] = tt
none_gone (p ∷ ps) = (tt, none_gone ps)

behind_tidy : (all : List Term) (ws : List Row) → Each (Tidy all []) ws → Each (Tidy all []) (map behind ws)
behind_tidy all [] h = tt
behind_tidy all (w ∷ ws) h = (record { ordered = h.0.ordered; among = h.0.among; gone = h.0.gone }, behind_tidy all ws h.1)

rows_tidy : (all : List Term) (ps : List Polynomial) → Each IsPoly ps → Each (λ (p : Polynomial). Atoms (In all) p.parts) ps → Each (Tidy all []) (rows_of ps)
rows_tidy all [] h g = tt
rows_tidy all (p ∷ ps) h g = (record { ordered = h.0; among = g.0; gone = none_gone p.parts }, behind_tidy all (rows_of ps) (rows_tidy all ps h.1 g.1))

constant_row : (all : List Term) (ws : List Row) → Each (Tidy all all) ws → Each (λ (w : Row). no_parts w.poly.parts ≡ true) ws
constant_row all [] h = tt
constant_row all (w ∷ ws) h = (go w.poly.parts h.0.among h.0.gone, constant_row all ws h.1)
  where
    go : (ps : Parts) → Atoms (In all) ps → Atoms (Gone all) ps → no_parts ps ≡ true
    go [] k l = refl
    go (p ∷ ps) k l = absurd (nowhere all p.0 k.0 l.0)

pub constants_left : (ps : List Polynomial) → Each IsPoly ps → Each (λ (w : Row). no_parts w.poly.parts ≡ true) (left_after (atoms_of ps) (rows_of ps))
constants_left ps h = constant_row (atoms_of ps) (left_after (atoms_of ps) (rows_of ps)) (left_tidy (atoms_of ps) (atoms_of ps) (rows_of ps) (rows_tidy (atoms_of ps) ps h (atoms_cover ps)))
