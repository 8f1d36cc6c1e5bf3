-- One scan of the siblings keeps those up to the known stop, or else all, where these are finished.
use Rattle.std.proofs.Common.{◌≡◌, ℕ, zero, suc, ◌+◌, Bool, true, false, cond, List, [], ◌∷◌, Option, Some, None, length, refl, ap, subst, arith, inl, inr, ◌⊎◌}
use Rattle.ap_walk.specs.declared.mark.Walked.{Walked}
use Rattle.ap_word.specs.declared.family.Counted.{Counted}
use Rattle.ap_word.specs.declared.family.Numbers.{Numbers}
use Rattle.ap_word.specs.Stops.{nothing_counted, stops, add, known_from, known_stop}
use Rattle.ap_table.specs.Core.{counted_of, counts_of, with_kept, kept}
use Rattle.ap_table.specs.Firsts.{AreFirst}
use Rattle.ap_table.specs.Laws.{FrontDone, ClosesBy}
use Rattle.ap_word.proofs.Stopping.{known_is}
use Rattle.ap_table.proofs.Closing.{kept_step}

bool_case : (b : Bool) → (b ≡ true) ⊎ (b ≡ false)
bool_case true = inl refl
bool_case false = inr refl

module _ {T : Type 0} where
  -- the known stop from place p on, by the place from there
  abbrev From : Option ℕ → List (Option (Walked T)) → ℕ → ℕ → Type 0
  From None os p m = (m ≡ length os) × FrontDone os m
  From (Some i) os p m = (p + m ≡ i + 1) × FrontDone os m

  from_next : (o : Option ℕ) (w : Walked T) (os : List (Option (Walked T))) (p m : ℕ) → From o os (p + 1) m → From o (Some w ∷ os) p (suc m)
  from_next None w os p m h = (ap suc h.0, h.1)
  from_next (Some i) w os p m h = (omega (arith, h.0), h.1)

  from_back : (o : Option ℕ) (w : Walked T) (os : List (Option (Walked T))) (p m : ℕ) → From o (Some w ∷ os) p (suc m) → From o os (p + 1) m
  from_back None w os p m h = (let e = h.0 in omega arith, h.1)
  from_back (Some i) w os p m h = (omega (arith, h.0), h.1)

  -- what is kept is closed by
  pub kept_from : (n : Numbers) (s : Counted) (p : ℕ) (os : List (Option (Walked T))) (ws : List (Walked T)) → kept n s os ≡ Some ws → From (known_from n s p (counts_of os)) os p (length ws)
  unfolding kept known_from
  kept_from n s p [] ws e = let x : [] ≡ ws = cc in subst (λ (vs : List (Walked T)). From None [] p (length vs)) x (refl, tt)
  kept_from n s p (None ∷ os) ws e = absurd (cc)
  kept_from n s p (Some w ∷ os) ws e =
      elim (kept_step (stops n (add s (counted_of w))) (kept n (add s (counted_of w)) os) w ws e) [
        | inl k ↦ rw k.0 (subst (λ (vs : List (Walked T)). From (Some p) (Some w ∷ os) p (length vs)) k.1 (omega arith, tt))
        | inr k ↦ rw k.0 (subst (λ (vs : List (Walked T)). From (known_from n (add s (counted_of w)) (p + 1) (counts_of os)) (Some w ∷ os) p (length vs)) k.1.2
            (from_next (known_from n (add s (counted_of w)) (p + 1) (counts_of os)) w os p (length k.1.0) (kept_from n (add s (counted_of w)) (p + 1) os k.1.0 k.1.1)))
      ]

  -- what is kept are the first siblings' walks
  pub kept_first : (n : Numbers) (s : Counted) (os : List (Option (Walked T))) (ws : List (Walked T)) → kept n s os ≡ Some ws → AreFirst os ws
  unfolding kept
  kept_first n s [] ws e = let x : [] ≡ ws = cc in subst (AreFirst []) x tt
  kept_first n s (None ∷ os) ws e = absurd (cc)
  kept_first n s (Some w ∷ os) ws e =
      elim (kept_step (stops n (add s (counted_of w))) (kept n (add s (counted_of w)) os) w ws e) [
        | inl k ↦ subst (AreFirst (Some w ∷ os)) k.1 (refl, tt)
        | inr k ↦ subst (AreFirst (Some w ∷ os)) k.1.2 (refl, kept_first n (add s (counted_of w)) os k.1.0 k.1.1)
      ]

  none_zero : (n : Numbers) (s : Counted) (p : ℕ) (c : Option Counted) (cs : List (Option Counted)) (o : Option ℕ) (os : List (Option (Walked T))) (x : Option (Walked T)) → known_from n s p (c ∷ cs) ≡ o → From o (x ∷ os) p 0 → ⊥
  none_zero n s p c cs None os x e h = (let z = h.0 in omega arith)
  none_zero n s p c cs (Some i) os x e h = (let k = known_is n s p i (c ∷ cs) e in let a = k.from in let z = h.0 in omega arith)

  front_none : (o : Option ℕ) (os : List (Option (Walked T))) (p m : ℕ) → From o (None ∷ os) p (suc m) → ⊥
  front_none None os p m h = h.1
  front_none (Some i) os p m h = h.1

  next_of : (n : Numbers) (s : Counted) (p m : ℕ) (w : Walked T) (os : List (Option (Walked T))) → stops n (add s (counted_of w)) ≡ false → From (known_from n s p (counts_of (Some w ∷ os))) (Some w ∷ os) p (suc m) → From (known_from n (add s (counted_of w)) (p + 1) (counts_of os)) os (p + 1) m
  unfolding known_from
  next_of n s p m w os b h =
      from_back (known_from n (add s (counted_of w)) (p + 1) (counts_of os)) w os p m
      (subst (λ (x : Bool). From (cond x (Some p) (known_from n (add s (counted_of w)) (p + 1) (counts_of os))) (Some w ∷ os) p (suc m)) b h)

  keep_one : (b : Bool) (w : Walked T) (o : Option (List (Walked T))) → (b ≡ false → (vs : List (Walked T)) × (o ≡ Some vs)) → (ws : List (Walked T)) × (cond b (Some (w ∷ [])) (with_kept w o) ≡ Some ws)
  keep_one true w o h = (w ∷ [], refl)
  keep_one false w o h = (let x = h refl in (w ∷ x.0, ap (with_kept w) x.1))

  -- and where these are finished, something is kept
  pub from_kept : (n : Numbers) (s : Counted) (p m : ℕ) (os : List (Option (Walked T))) → From (known_from n s p (counts_of os)) os p m → (ws : List (Walked T)) × (kept n s os ≡ Some ws)
  unfolding kept
  from_kept n s p m [] h = ([], refl)
  from_kept n s p zero (None ∷ os) h = absurd (none_zero n s p None (counts_of os) (known_from n s p (None ∷ counts_of os)) os None refl h)
  from_kept n s p zero (Some w ∷ os) h = absurd (none_zero n s p (Some (counted_of w)) (counts_of os) (known_from n s p (Some (counted_of w) ∷ counts_of os)) os (Some w) refl h)
  from_kept n s p (suc m) (None ∷ os) h = absurd (front_none (known_from n s p (None ∷ counts_of os)) os p m h)
  from_kept n s p (suc m) (Some w ∷ os) h =
      keep_one (stops n (add s (counted_of w))) w (kept n (add s (counted_of w)) os) (λ b. from_kept n (add s (counted_of w)) (p + 1) m os (next_of n s p m w os b h))

  closes_by : (o : Option ℕ) (os : List (Option (Walked T))) (m : ℕ) → From o os 0 m → ClosesBy o os m
  closes_by None os m h = h
  closes_by (Some i) os m h = (omega (arith, h.0), h.1)

  by_closes : (o : Option ℕ) (os : List (Option (Walked T))) (m : ℕ) → ClosesBy o os m → From o os 0 m
  by_closes None os m h = h
  by_closes (Some i) os m h = (omega (arith, h.0), h.1)

  pub kept_closes : (n : Numbers) (os : List (Option (Walked T))) (ws : List (Walked T)) → kept n nothing_counted os ≡ Some ws → ClosesBy (known_stop n (counts_of os)) os (length ws)
  kept_closes n os ws e = closes_by (known_stop n (counts_of os)) os (length ws) (kept_from n nothing_counted 0 os ws e)

  pub closes_kept : (n : Numbers) (os : List (Option (Walked T))) (m : ℕ) → ClosesBy (known_stop n (counts_of os)) os m → (ws : List (Walked T)) × (kept n nothing_counted os ≡ Some ws)
  closes_kept n os m h = from_kept n nothing_counted 0 m os (by_closes (known_stop n (counts_of os)) os m h)
