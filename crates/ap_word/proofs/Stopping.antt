-- The laws of where a family stops.
use Rattle.std.proofs.Common.{◌≡◌, ℕ, zero, suc, ◌+◌, ◌≤◌, ◌<◌, Bool, true, false, ◌||◌, nat_le, cond, List, [], ◌∷◌, Option, Some, None, refl, sym, ap, subst, ◌∙◌, arith, ◌⊎◌, inl, inr}
use Rattle.std.proofs.lemmas.Bool.Decides.{nat_tests}
use Rattle.ap_word.specs.declared.family.Counted.{Counted}
use Rattle.ap_word.specs.declared.family.Numbers.{Numbers}
use Rattle.ap_word.specs.Stops.{nothing_counted, reaches, stops, add, sum_to, stops_by, FewerThan, EachFewer, known, all_known, known_from, known_stop, AreTrue}

or_more : (a b c d : Bool) → (a ≡ true → b ≡ true) → (c ≡ true → d ≡ true) → (a || c) ≡ true → (b || d) ≡ true
or_more true b c d f g h = rw (f refl) refl
or_more false true c d f g h = refl
or_more false false c d f g h = g h

le_more : (n a b : ℕ) → a ≤ b → nat_le n a ≡ true → nat_le n b ≡ true
le_more n a b h e = grind (arith, nat_tests)

reaches_more : (r : Option ℕ) (a b : ℕ) → a ≤ b → reaches r a ≡ true → reaches r b ≡ true
reaches_more None a b h e = e
reaches_more (Some k) a b h e = le_more k a b h e

pub stops_more : (n : Numbers) (s t : Counted) → FewerThan s t → stops n s ≡ true → stops n t ≡ true
unfolding stops
stops_more n s t le =
    or_more (s.stopped || reaches n.revert s.pushes) (t.stopped || reaches n.revert t.pushes) _ _
    (or_more s.stopped t.stopped _ _ le.stopped (reaches_more n.revert s.pushes t.pushes le.pushes))
    (le_more n.goal_limit s.goals t.goals le.goals)

pub fewer_same : (s : Counted) → FewerThan s s
fewer_same s = record { pushes = omega arith; goals = omega arith; stopped = λ e. e }

pub fewer_then : (s t u : Counted) → FewerThan s t → FewerThan t u → FewerThan s u
fewer_then s t u a b = record { pushes = omega (arith, a.pushes, b.pushes); goals = omega (arith, a.goals, b.goals); stopped = λ e. b.stopped (a.stopped e) }

pub fewer_nothing : (s : Counted) → FewerThan nothing_counted s
fewer_nothing s = record { pushes = omega arith; goals = omega arith; stopped = λ e. absurd (cc) }

or_left : (a b : Bool) → a ≡ true → (a || b) ≡ true
or_left true b e = refl
or_left false b e = absurd (cc)

pub fewer_more : (s c : Counted) → FewerThan s (add s c)
fewer_more s c = record { pushes = omega arith; goals = omega arith; stopped = or_left s.stopped c.stopped }

pub fewer_add : (s t c d : Counted) → FewerThan s t → FewerThan c d → FewerThan (add s c) (add t d)
fewer_add s t c d a b = record { pushes = omega (arith, a.pushes, b.pushes); goals = omega (arith, a.goals, b.goals); stopped = or_more s.stopped t.stopped c.stopped d.stopped a.stopped b.stopped }

pub sum_more : (s : Counted) (ts : List Counted) (i : ℕ) → FewerThan s (sum_to s ts i)
unfolding sum_to
sum_more s [] i = fewer_same s
sum_more s (c ∷ cs) zero = fewer_more s c
sum_more s (c ∷ cs) (suc i) = fewer_then s (add s c) (sum_to (add s c) cs i) (fewer_more s c) (sum_more (add s c) cs i)

pub sum_later : (s : Counted) (ts : List Counted) (i j : ℕ) → i ≤ j → FewerThan (sum_to s ts i) (sum_to s ts j)
unfolding sum_to
sum_later s [] i j h = fewer_same s
sum_later s (c ∷ cs) zero zero h = fewer_same (add s c)
sum_later s (c ∷ cs) zero (suc j) h = sum_more (add s c) cs j
sum_later s (c ∷ cs) (suc i) zero h = absurd (omega arith)
sum_later s (c ∷ cs) (suc i) (suc j) h = sum_later (add s c) cs i j (omega arith)

pub sum_each : (s t : Counted) (cs ds : List Counted) (i : ℕ) → FewerThan s t → EachFewer cs ds → FewerThan (sum_to s cs i) (sum_to t ds i)
unfolding sum_to
sum_each s t [] ds i le all = fewer_then s t (sum_to t ds i) le (sum_more t ds i)
sum_each s t (c ∷ cs) [] i le all = absurd all
sum_each s t (c ∷ cs) (d ∷ ds) zero le all = fewer_add s t c d le all.0
sum_each s t (c ∷ cs) (d ∷ ds) (suc i) le all = sum_each (add s c) (add t d) cs ds i (fewer_add s t c d le all.0) all.1

-- a family stops by each later place too
pub stops_later : (n : Numbers) (ts : List Counted) (i j : ℕ) → i ≤ j → stops_by n ts i ≡ true → stops_by n ts j ≡ true
stops_later n ts i j h = stops_more n (sum_to nothing_counted ts i) (sum_to nothing_counted ts j) (sum_later nothing_counted ts i j h)

-- and where each of its siblings counts more
pub stops_with_more : (n : Numbers) (ts us : List Counted) (i : ℕ) → EachFewer ts us → stops_by n ts i ≡ true → stops_by n us i ≡ true
stops_with_more n ts us i all = stops_more n (sum_to nothing_counted ts i) (sum_to nothing_counted us i) (sum_each nothing_counted nothing_counted ts us i (fewer_same nothing_counted) all)

-- a known stop is the least place at which the known counts stop
pub record Stop (n : Numbers) (s : Counted) (p : ℕ) (os : List (Option Counted)) (i : ℕ) : Type 0 where
  pub from : p ≤ i
  pub stop : (j : ℕ) → i ≡ p + j → stops n (sum_to s (all_known os) j) ≡ true
  pub least : (j : ℕ) → p + j < i → stops n (sum_to s (all_known os) j) ≡ false

known_case : (b : Bool) (p i : ℕ) (o : Option ℕ) → cond b (Some p) o ≡ Some i → ((b ≡ true) × (p ≡ i)) ⊎ ((b ≡ false) × (o ≡ Some i))
known_case true p i o e = inl (refl, cc)
known_case false p i o e = inr (refl, e)

stop_next : (n : Numbers) (s : Counted) (o : Option Counted) (os : List (Option Counted)) (j : ℕ) → 0 < j → ((k : ℕ) → j ≡ k + 1 → stops n (sum_to (add s (known o)) (all_known os) k) ≡ true) → stops n (sum_to s (known o ∷ all_known os) j) ≡ true
unfolding sum_to
stop_next n s o os zero h f = absurd (omega arith)
stop_next n s o os (suc k) h f = f k (omega arith)

least_next : (n : Numbers) (s : Counted) (o : Option Counted) (os : List (Option Counted)) (j : ℕ) → stops n (add s (known o)) ≡ false → ((k : ℕ) → j ≡ k + 1 → stops n (sum_to (add s (known o)) (all_known os) k) ≡ false) → stops n (sum_to s (known o ∷ all_known os) j) ≡ false
unfolding sum_to
least_next n s o os zero b f = b
least_next n s o os (suc k) b f = f k (omega arith)

stop_first : (n : Numbers) (s : Counted) (o : Option Counted) (os : List (Option Counted)) (j : ℕ) → j ≡ 0 → stops n (add s (known o)) ≡ true → stops n (sum_to s (known o ∷ all_known os) j) ≡ true
unfolding sum_to
stop_first n s o os zero e b = b
stop_first n s o os (suc j) e b = absurd (omega arith)

pub known_is : (n : Numbers) (s : Counted) (p i : ℕ) (os : List (Option Counted)) → known_from n s p os ≡ Some i → Stop n s p os i
unfolding known_from
known_is n s p i [] e = absurd (cc)
known_is n s p i (o ∷ os) e =
    elim (known_case (stops n (add s (known o))) p i (known_from n (add s (known o)) (p + 1) os) e) [
      | inl here ↦ record {
        from = omega (arith, here.1);
        stop = λ j at. stop_first n s o os j (omega (arith, here.1)) here.0;
        least = λ j below. absurd (omega (arith, here.1));
      }
      | inr there ↦
          let r = known_is n (add s (known o)) (p + 1) i os there.1 in
          record {
            from = omega (arith, r.from);
            stop = λ j at. stop_next n s o os j (omega (arith, r.from)) (λ k is. r.stop k (omega arith));
            least = λ j below. least_next n s o os j there.0 (λ k is. r.least k (omega arith));
          }
    ]

true_fewer : (os : List (Option Counted)) (ts : List Counted) → AreTrue os ts → EachFewer (all_known os) ts
true_fewer [] ts h = tt
true_fewer (o ∷ os) [] h = absurd h
true_fewer (None ∷ os) (t ∷ ts) h = (fewer_nothing t, true_fewer os ts h)
true_fewer (Some c ∷ os) (t ∷ ts) h = (subst (FewerThan c) h.0 (fewer_same c), true_fewer os ts h.1)

-- what the finished siblings tell is so of all
pub known_stops : (n : Numbers) (os : List (Option Counted)) (ts : List Counted) (i : ℕ) → AreTrue os ts → known_stop n os ≡ Some i → stops_by n ts i ≡ true
known_stops n os ts i all e =
    stops_with_more n (all_known os) ts i (true_fewer os ts all)
    ((known_is n nothing_counted 0 i os e).stop i (omega arith))
