-- What is answered is a certificate, and polynomials that have one don't all hold.
use Rattle.std.proofs.Common.{◌≡◌, ℕ, zero, suc, ◌+◌, ◌*◌, ◌/◌, Bool, true, false, cond, ℤ, pos, ◌+ℤ◌, ◌*ℤ◌, ◌≤ℤ◌, ◌<ℤ◌, int_lt, unsigned_abs, nat_lt, List, [], ◌∷◌, ◌++◌, map, take, Option, Some, None, refl, ap, sym, subst, ◌∙◌, arith}
use Rattle.std.proofs.Math.IntN.{zero-*ℤ, *ℤ-zero, +ℤ_idl, +ℤ_idr}
use Rattle.std.proofs.lemmas.Int.{ints}
use Rattle.ap_list.specs.Lists.{Each}
use Rattle.ap_value.specs.Values.{int_eq}
use Rattle.ap_value.proofs.Equals.{both}
use Rattle.ap_term.specs.declared.term.Term.{Term}
use Rattle.ap_world.specs.Primitives.{int_of}
use Rattle.ap_world.specs.Meaning.{Env, Defs, Total}
use Rattle.ap_world.proofs.TotalMeaning.{Apply, val, value_is, models}
use Rattle.ap_list.proofs.Eachs.{each_append}
use Rattle.ap_poly.specs.Polynomials.{Parts, Polynomial, value, Holds, and_then, add, scale}
use Rattle.ap_poly.specs.Elimination.{Row, behind, rows_of, coefficient, multiplier, mixed, combined, meeting, gcd, or_less, without, with_negative, with_positive, eliminated, left_after, atoms_of, no_parts, is_negative, first_negative, lin}
use Rattle.ap_poly.specs.Holding.{Reads, PolyHolds, weighted, OneEach, IsCertificate}
use Rattle.ap_poly.proofs.Integers.{swap4, times_over, over_times, times_assoc, natural_times, natural_sum, one_times}
use Rattle.ap_poly.proofs.Sums.{some_is, both_gave, add_value, scale_value}

-- a row's polynomial is the sum of the given ones, each so often as its multiplier says
pub record Sums (ps : List Polynomial) (w : Row) : Type 0 where
  pub each : OneEach w.by ps
  pub same : (r : Term → ℤ) → value r w.poly ≡ weighted r w.by ps

pub multiplier_is : (n c : ℕ) → multiplier n ≡ Some c → c ≡ n
multiplier_is n c h = go (nat_lt n _) h
  where
    go : (b : Bool) → cond b (Some n) None ≡ Some c → c ≡ n
    go true k = cc
    go false k = cc

zeros_each : (ps : List Polynomial) → OneEach (map (λ q. 0) ps) ps
zeros_each [] = tt
zeros_each (p ∷ ps) = zeros_each ps

zeros_weigh : (r : Term → ℤ) (ps : List Polynomial) → weighted r (map (λ q. 0) ps) ps ≡ pos 0
zeros_weigh r [] = refl
zeros_weigh r (p ∷ ps) = ap (λ z. z +ℤ weighted r (map (λ q. 0) ps) ps) (zero-*ℤ (value r p)) ∙ +ℤ_idl _ ∙ zeros_weigh r ps

behind_sums : (p : Polynomial) (ps : List Polynomial) (ws : List Row) → Each (Sums ps) ws → Each (Sums (p ∷ ps)) (map behind ws)
behind_sums p ps [] h = tt
behind_sums p ps (w ∷ ws) h = (
  record { each = h.0.each; same = λ r. h.0.same r ∙ sym (ap (λ z. z +ℤ weighted r w.by ps) (zero-*ℤ (value r p)) ∙ +ℤ_idl (weighted r w.by ps)) },
  behind_sums p ps ws h.1,
)

rows_sum : (ps : List Polynomial) → Each (Sums ps) (rows_of ps)
rows_sum [] = tt
rows_sum (p ∷ ps) = (
  record { each = zeros_each ps; same = λ r. sym (ap (λ z. z +ℤ weighted r (map (λ q. 0) ps) ps) (one_times (value r p)) ∙ ap (λ z. value r p +ℤ z) (zeros_weigh r ps) ∙ +ℤ_idr (value r p)) },
  behind_sums p ps (rows_of ps) (rows_sum ps),
)

-- the weighted sum of mixed multipliers
record Mixes (k : ℕ) (xs : List ℕ) (l : ℕ) (ys : List ℕ) (ps : List Polynomial) (zs : List ℕ) : Type 0 where
  each : OneEach zs ps
  same : (r : Term → ℤ) → weighted r zs ps ≡ pos k *ℤ weighted r xs ps +ℤ pos l *ℤ weighted r ys ps

nothing : (k l : ℤ) → pos 0 ≡ k *ℤ pos 0 +ℤ l *ℤ pos 0
nothing k l = sym (ap (λ z. z +ℤ l *ℤ pos 0) (*ℤ-zero k) ∙ +ℤ_idl (l *ℤ pos 0) ∙ *ℤ-zero l)

mixed_weighs : (k l : ℕ) (ps : List Polynomial) (xs ys zs : List ℕ) → OneEach xs ps → OneEach ys ps → mixed k xs l ys ≡ Some zs → Mixes k xs l ys ps zs
mixed_weighs k l [] [] [] zs h g e = subst (Mixes k [] l [] []) (sym (some_is e)) (record { each = tt; same = λ r. nothing (pos k) (pos l) })
mixed_weighs k l [] (x ∷ xs) ys zs h g e = absurd h
mixed_weighs k l [] [] (y ∷ ys) zs h g e = absurd g
mixed_weighs k l (p ∷ ps) [] ys zs h g e = absurd h
mixed_weighs k l (p ∷ ps) (x ∷ xs) [] zs h g e = absurd g
mixed_weighs k l (p ∷ ps) (x ∷ xs) (y ∷ ys) zs h g e = first (mixed_weighs k l ps xs ys) (both_gave (multiplier (k * x)) _ zs e)
  where
    Next : Type 0
    Next = (us : List ℕ) → OneEach xs ps → OneEach ys ps → mixed k xs l ys ≡ Some us → Mixes k xs l ys ps us

    head_value : (z : ℤ) (a b c : ℕ) → a ≡ k * x → b ≡ l * y → c ≡ a + b → pos c *ℤ z ≡ pos k *ℤ (pos x *ℤ z) +ℤ pos l *ℤ (pos y *ℤ z)
    head_value z a b c i j n =
        ap (λ (m : ℕ). pos m *ℤ z) (n ∙ ap (λ (m : ℕ). m + b) i ∙ ap (λ (m : ℕ). k * x + m) j) ∙ times_over (pos (k * x)) (pos (l * y)) z
        ∙ ap (λ w. w +ℤ pos (l * y) *ℤ z) (times_assoc (pos k) (pos x) z) ∙ ap (λ w. pos k *ℤ (pos x *ℤ z) +ℤ w) (times_assoc (pos l) (pos y) z)

    last : Next → (a b c : ℕ) → a ≡ k * x → b ≡ l * y → c ≡ a + b → (us : List ℕ) × ((mixed k xs l ys ≡ Some us) × (Some (c ∷ us) ≡ Some zs)) → Mixes k (x ∷ xs) l (y ∷ ys) (p ∷ ps) zs
    last next a b c i j n (us, w) =
        let m = next us h g w.0 in
        subst (Mixes k (x ∷ xs) l (y ∷ ys) (p ∷ ps)) (sym (some_is w.1)) (record {
          each = m.each;
          same = λ r. ap (λ z. z +ℤ weighted r us ps) (head_value (value r p) a b c i j n) ∙ ap (λ z. (pos k *ℤ (pos x *ℤ value r p) +ℤ pos l *ℤ (pos y *ℤ value r p)) +ℤ z) (m.same r)
              ∙ swap4 (pos k *ℤ (pos x *ℤ value r p)) (pos l *ℤ (pos y *ℤ value r p)) (pos k *ℤ weighted r xs ps) (pos l *ℤ weighted r ys ps)
              ∙ ap (λ z. z +ℤ (pos l *ℤ (pos y *ℤ value r p) +ℤ pos l *ℤ weighted r ys ps)) (sym (over_times (pos k) (pos x *ℤ value r p) (weighted r xs ps)))
              ∙ ap (λ z. pos k *ℤ (pos x *ℤ value r p +ℤ weighted r xs ps) +ℤ z) (sym (over_times (pos l) (pos y *ℤ value r p) (weighted r ys ps)));
        })

    third : Next → (a b : ℕ) → a ≡ k * x → b ≡ l * y → (c : ℕ) × ((multiplier (a + b) ≡ Some c) × (and_then (mixed k xs l ys) (λ cs. Some (c ∷ cs)) ≡ Some zs)) → Mixes k (x ∷ xs) l (y ∷ ys) (p ∷ ps) zs
    third next a b i j (c, w) = last next a b c i j (multiplier_is (a + b) c w.0) (both_gave (mixed k xs l ys) (λ cs. Some (c ∷ cs)) zs w.1)

    second : Next → (a : ℕ) → a ≡ k * x → (b : ℕ) × ((multiplier (l * y) ≡ Some b) × (and_then (multiplier (a + b)) (λ c. and_then (mixed k xs l ys) (λ cs. Some (c ∷ cs))) ≡ Some zs)) → Mixes k (x ∷ xs) l (y ∷ ys) (p ∷ ps) zs
    second next a i (b, w) = third next a b i (multiplier_is (l * y) b w.0) (both_gave (multiplier (a + b)) (λ c. and_then (mixed k xs l ys) (λ cs. Some (c ∷ cs))) zs w.1)

    first : Next → (a : ℕ) × ((multiplier (k * x) ≡ Some a) × (and_then (multiplier (l * y)) (λ b. and_then (multiplier (a + b)) (λ c. and_then (mixed k xs l ys) (λ cs. Some (c ∷ cs)))) ≡ Some zs)) → Mixes k (x ∷ xs) l (y ∷ ys) (p ∷ ps) zs
    first next (a, w) = second next a (multiplier_is (k * x) a w.0) (both_gave (multiplier (l * y)) (λ b. and_then (multiplier (a + b)) (λ c. and_then (mixed k xs l ys) (λ cs. Some (c ∷ cs)))) zs w.1)

module _ (ps : List Polynomial) where
  -- the last steps of a combination, its multipliers being of their type
  abbrev mix : ℕ → Row → ℕ → Row → Polynomial → Option Row
  mix k p l q c = and_then (mixed k p.by l q.by) (λ by. Some (record { poly = c; by = by }))

  abbrev summed : ℕ → Row → ℕ → Row → Option Row
  summed k p l q = and_then (scale k p.poly) (λ a. and_then (scale l q.poly) (λ b. and_then (add a b) (mix k p l q)))

  summed_sums : (k l : ℕ) (p q w : Row) → Sums ps p → Sums ps q → summed k p l q ≡ Some w → Sums ps w
  summed_sums k l p q w hp hq h = first (both_gave (scale k p.poly) _ w h)
    where
      last : (a b c : Polynomial) → scale k p.poly ≡ Some a → scale l q.poly ≡ Some b → add a b ≡ Some c
          → (by : List ℕ) × ((mixed k p.by l q.by ≡ Some by) × (Some (record { poly = c; by = by }) ≡ Some w)) → Sums ps w
      last a b c i j n (by, v) =
          let m = mixed_weighs k l ps p.by q.by by hp.each hq.each v.0 in
          subst (Sums ps) (sym (some_is v.1)) (record {
            each = m.each;
            same = λ r. add_value r a b c n ∙ ap (λ z. z +ℤ value r b) (scale_value r k p.poly a i ∙ ap (λ z. pos k *ℤ z) (hp.same r))
                ∙ ap (λ z. pos k *ℤ weighted r p.by ps +ℤ z) (scale_value r l q.poly b j ∙ ap (λ z. pos l *ℤ z) (hq.same r)) ∙ sym (m.same r);
          })

      third : (a b : Polynomial) → scale k p.poly ≡ Some a → scale l q.poly ≡ Some b → (c : Polynomial) × ((add a b ≡ Some c) × (mix k p l q c ≡ Some w)) → Sums ps w
      third a b i j (c, v) = last a b c i j v.0 (both_gave (mixed k p.by l q.by) (λ by. Some (record { poly = c; by = by })) w v.1)

      second : (a : Polynomial) → scale k p.poly ≡ Some a → (b : Polynomial) × ((scale l q.poly ≡ Some b) × (and_then (add a b) (mix k p l q) ≡ Some w)) → Sums ps w
      second a i (b, v) = third a b i v.0 (both_gave (add a b) (mix k p l q) w v.1)

      first : (a : Polynomial) × ((scale k p.poly ≡ Some a) × (and_then (scale l q.poly) (λ b. and_then (add a b) (mix k p l q)) ≡ Some w)) → Sums ps w
      first (a, v) = second a v.0 (both_gave (scale l q.poly) (λ b. and_then (add a b) (mix k p l q)) w v.1)

  combined_sums : (k l : ℕ) (p q w : Row) → Sums ps p → Sums ps q → combined k p l q ≡ Some w → Sums ps w
  combined_sums k l p q w hp hq h = first (both_gave (multiplier k) _ w h)
    where
      second : (i : ℕ) → (j : ℕ) × ((multiplier l ≡ Some j) × (summed i p j q ≡ Some w)) → Sums ps w
      second i (j, v) = summed_sums i j p q w hp hq v.1

      first : (i : ℕ) × ((multiplier k ≡ Some i) × (and_then (multiplier l) (λ j. summed i p j q) ≡ Some w)) → Sums ps w
      first (i, v) = second i (both_gave (multiplier l) (λ j. summed i p j q) w v.1)

  meeting_sums : (c d : ℕ) (p q w : Row) → Sums ps p → Sums ps q → meeting c p d q ≡ Some w → Sums ps w
  meeting_sums c d p q w hp hq h = combined_sums (d / gcd c d) (c / gcd c d) p q w hp hq h

  abbrev AllSum : List Row → Type 0
  AllSum = Each (Sums ps)

  less_sums : (o : Option Row) (ws : List Row) → ((w : Row) → o ≡ Some w → Sums ps w) → AllSum ws → AllSum (or_less o ws)
  less_sums None ws h hs = hs
  less_sums (Some w) ws h hs = (h w refl, hs)

  either_sums : (b : Bool) (us vs : List Row) → AllSum us → AllSum vs → AllSum (cond b us vs)
  either_sums true us vs h g = h
  either_sums false us vs h g = g

  take_sums : (n : ℕ) (ws : List Row) → AllSum ws → AllSum (take n ws)
  take_sums zero ws h = tt
  take_sums (suc n) [] h = tt
  take_sums (suc n) (w ∷ ws) h = (h.0, take_sums n ws h.1)

  module _ (x : Term) where
    without_sums : (ws : List Row) → AllSum ws → AllSum (without x ws)
    without_sums [] h = tt
    without_sums (w ∷ ws) h = either_sums (int_eq (coefficient x w) (pos 0)) (w ∷ without x ws) (without x ws) (h.0, without_sums ws h.1) (without_sums ws h.1)

    negative_sums : (p : Row) (qs : List Row) → Sums ps p → AllSum qs → AllSum (with_negative x p qs)
    negative_sums p [] h hs = tt
    negative_sums p (q ∷ qs) h hs =
        let rest = negative_sums p qs h hs.1 in
        either_sums (int_lt (coefficient x q) (pos 0)) _ (with_negative x p qs)
        (less_sums (meeting (unsigned_abs (coefficient x p)) p (unsigned_abs (coefficient x q)) q) (with_negative x p qs)
        (λ w e. meeting_sums (unsigned_abs (coefficient x p)) (unsigned_abs (coefficient x q)) p q w h hs.0 e) rest)
        rest

    positive_sums : (us qs : List Row) → AllSum us → AllSum qs → AllSum (with_positive x us qs)
    positive_sums [] qs h hs = tt
    positive_sums (p ∷ us) qs h hs =
        let rest = positive_sums us qs h.1 hs in
        either_sums (int_lt (pos 0) (coefficient x p)) _ (with_positive x us qs)
        (each_append (Sums ps) (with_negative x p qs) (with_positive x us qs) (negative_sums p qs h.0 hs) rest) rest

    eliminated_sums : (ws : List Row) → AllSum ws → AllSum (eliminated x ws)
    eliminated_sums ws h = take_sums 64 (without x ws ++ with_positive x ws ws) (each_append (Sums ps) (without x ws) (with_positive x ws ws) (without_sums ws h) (positive_sums ws ws h h))

  left_sums : (xs : List Term) (ws : List Row) → AllSum ws → AllSum (left_after xs ws)
  left_sums [] ws h = h
  left_sums (x ∷ xs) ws h = eliminated_sums x (left_after xs ws) (left_sums xs ws h)

  less_is : (n : ℤ) → int_lt n (pos 0) ≡ true → n <ℤ pos 0
  less_is n h = grind (arith, ints)

  constant_value : (p : Polynomial) → no_parts p.parts ≡ true → (r : Term → ℤ) → value r p ≡ p.constant
  constant_value p h r = go p.parts h
    where
      go : (us : Parts) → no_parts us ≡ true → value r (record { constant = p.constant; parts = us }) ≡ p.constant
      go [] k = +ℤ_idr p.constant
      go (u ∷ us) k = cc

  first_certifies : (ws : List Row) → AllSum ws → (by : List ℕ) → first_negative ws ≡ Some by → IsCertificate ps by
  first_certifies [] h by e = cc
  first_certifies (w ∷ ws) h by e = go (first_certifies ws h.1 by) (is_negative w.poly) refl e
    where
      go : (first_negative ws ≡ Some by → IsCertificate ps by) → (b : Bool) → is_negative w.poly ≡ b → cond b (Some w.by) (first_negative ws) ≡ Some by → IsCertificate ps by
      go next false k l = next l
      go next true k l =
          let parts = both (no_parts w.poly.parts) (int_lt w.poly.constant (pos 0)) k in
          subst (IsCertificate ps) (sym (some_is l)) (record {
            each = h.0.each;
            sum = w.poly.constant;
            negative = less_is w.poly.constant parts.1;
            constant = λ r. sym (h.0.same r) ∙ constant_value w.poly parts.0 r;
          })

pub lin_certifies : (ps : List Polynomial) (by : List ℕ) → lin ps ≡ Some by → IsCertificate ps by
lin_certifies ps by h = first_certifies ps (left_after (atoms_of ps) (rows_of ps)) (left_sums ps (atoms_of ps) (rows_of ps) (rows_sum ps)) by h

-- a sum of polynomials that hold isn't negative
weighted_holds : (r : Term → ℤ) (ks : List ℕ) (ps : List Polynomial) → Each (Holds r) ps → pos 0 ≤ℤ weighted r ks ps
weighted_holds r [] ps h = none
  where
    none : pos 0 ≤ℤ pos 0
    none = omega (arith, ints)
weighted_holds r (k ∷ ks) [] h = none
  where
    none : pos 0 ≤ℤ pos 0
    none = omega (arith, ints)
weighted_holds r (k ∷ ks) (p ∷ ps) h = natural_sum (pos k *ℤ value r p) (weighted r ks ps) (natural_times k (value r p) h.0) (weighted_holds r ks ps h.1)

pub certificates_refute : (D : Defs) → Total D → (e : Env) (ps : List Polynomial) (by : List ℕ) → IsCertificate ps by → Each (PolyHolds D e) ps → ⊥
certificates_refute D total e ps by c h = clash c.sum c.negative (subst (λ z. pos 0 ≤ℤ z) (c.constant reading) (weighted_holds reading by ps (each_read ps h)))
  where
    A : Apply
    A = (models D total).0

    reading : Term → ℤ
    reading u = int_of (val (models D total).0 u e)

    reads : Reads D e reading
    reads u v k = ap int_of (sym (value_is D (models D total).0 (models D total).1 u e v k))

    each_read : (ps : List Polynomial) → Each (PolyHolds D e) ps → Each (Holds reading) ps
    each_read [] h = tt
    each_read (p ∷ ps) h = (h.0 reading reads, each_read ps h.1)

    clash : (n : ℤ) → n <ℤ pos 0 → pos 0 ≤ℤ n → ⊥
    clash n h k = omega (arith, ints)
