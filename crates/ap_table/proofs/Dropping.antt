-- What the kept nodes tell of where a family stops, and that a drop keeps the table.
use Rattle.std.proofs.Common.{◌≡◌, ℕ, ◌+◌, ◌≤◌, ◌<◌, Bool, true, false, ◌||◌, nat_le, cond, List, [], ◌∷◌, Option, Some, None, refl, sym, ap, subst, ◌∙◌, arith, inl, inr, ◌⊎◌}
use Rattle.std.proofs.lemmas.Bool.Decides.{nat_tests}
use Rattle.std.specs.List.{slice_get}
use Rattle.ap_list.specs.Lists.{AnyOf}
use Rattle.ap_walk.specs.declared.act.Stepped.{Stepped}
use Rattle.ap_walk.specs.declared.rule.Tally.{Tally}
use Rattle.ap_walk.specs.declared.rule.Rule.{Rule}
use Rattle.ap_walk.specs.declared.rule.End.{End}
use Rattle.ap_walk.specs.declared.mark.Walked.{Walked}
use Rattle.ap_walk.specs.Tallies.{zero_tally, can_revert}
use Rattle.ap_walk.specs.Walks.{full, all_marks}
use Rattle.ap_walk.specs.Laws.{StopsAt}
use Rattle.ap_walk.proofs.Stops.{cut_stops}
use Rattle.ap_walk.proofs.Bounds.{zero_open}
use Rattle.ap_table.specs.declared.link.License.{License}
use Rattle.ap_table.specs.declared.stored.Stored.{Stored}
use Rattle.ap_word.specs.declared.family.Counted.{Counted}
use Rattle.ap_word.specs.declared.family.Numbers.{Numbers}
use Rattle.ap_word.specs.Stops.{NONE, nothing_counted, reaches, stops, add, known_from}
use Rattle.ap_table.specs.Core.{Node, numbers_of, is_stopped, counted_of, counts_of, children, Stops, known_of}
use Rattle.ap_table.specs.Sound.{Names, Licensed, Family, Sound}
use Rattle.ap_table.specs.Shown.{SumShows, Shows, AllShow}
use Rattle.ap_word.proofs.Stopping.{stops_later}
use Rattle.ap_table.proofs.Closing.{AreFull}
use Rattle.ap_table.proofs.Keeping.{some_is}
use Rattle.ap_table.proofs.Known.{known_true}
use Rattle.ap_table.proofs.Showing.{shown_at}

or_right : (a b c : Bool) → c ≡ true → (a || b || c) ≡ true
or_right true b c e = refl
or_right false true c e = refl
or_right false false c e = e

or_middle : (a b c : Bool) → b ≡ true → (a || b || c) ≡ true
or_middle true b c e = refl
or_middle false true c e = refl
or_middle false false c e = absurd (cc)

or_first : (a b c : Bool) → a ≡ true → (a || b || c) ≡ true
or_first true b c e = refl
or_first false b c e = absurd (cc)

or_last : (a b : Bool) → b ≡ true → (a || b) ≡ true
or_last true b e = refl
or_last false b e = e

reverts_at : (b : Bool) (r p q : ℕ) → b ≡ true → q ≡ r → reaches (cond b (Some r) None) (p + q) ≡ true
reverts_at true r p q e f = grind (arith, nat_tests)
reverts_at false r p q e f = absurd (cc)

limits_at : (l g h : ℕ) → h ≡ l → nat_le l (g + h) ≡ true
limits_at l g h e = grind (arith, nat_tests)

-- a sibling that ended: its numbers don't matter
abbrev pub ended : Counted
ended = record { pushes = 0; goals = 0; stopped = true }

pub ended_counts : (n : Numbers) (s : Counted) → stops n (add s ended) ≡ true
unfolding stops
ended_counts n s = or_first (s.stopped || true) _ _ (or_last s.stopped true refl)

-- what a kept node counts: exactly where its walk goes through, and else only that it ended
abbrev pub sum_count : Option Tally → Counted
sum_count None = ended
sum_count (Some t) = record { pushes = t.pushes; goals = t.goals; stopped = false }

abbrev pub one_counted : Option (Option Tally) → Option Counted
one_counted None = None
one_counted (Some x) = Some (sum_count x)

abbrev pub sums_counted : List (Option (Option Tally)) → List (Option Counted)
sums_counted [] = []
sums_counted (o ∷ os) = one_counted o ∷ sums_counted os

module _ {T : Type 0} where
  abbrev pub OneShows : Option (Option Tally) → Option (Walked T) → Type 0
  OneShows None None = Unit {0}
  OneShows None (Some w) = ⊥
  OneShows (Some x) None = ⊥
  OneShows (Some x) (Some w) = SumShows x w

  abbrev pub SumsShow : List (Option (Option Tally)) → List (Option (Walked T)) → Type 0
  SumsShow [] [] = Unit {0}
  SumsShow [] (w ∷ ws) = ⊥
  SumsShow (o ∷ os) [] = ⊥
  SumsShow (o ∷ os) (w ∷ ws) = OneShows o w × SumsShow os ws

module _ {T : Type 0} (step : T → Stepped T) (depth : T → ℕ) (rule : Rule) where
  ended_at : (s : Counted) (w : Walked T) (e : End) → w.end ≡ e → (e ≡ End.Through → ⊥) → StopsAt rule w → stops (numbers_of rule) (add s (counted_of w)) ≡ true
  unfolding stops
  ended_at s w End.Through is other at = absurd (other refl)
  ended_at s w End.Revert is other at = (let r = at.revert is in or_middle (s.stopped || is_stopped w.end) _ _ (reverts_at (can_revert rule) rule.revert s.pushes w.tally.pushes r.0 r.1))
  ended_at s w End.Limit is other at = or_right (s.stopped || is_stopped w.end) _ _ (limits_at rule.goal_limit s.goals w.tally.goals (at.limit is))
  ended_at s w (End.Stopped r) is other at = or_first (s.stopped || is_stopped w.end) _ _ (or_last s.stopped (is_stopped w.end) (ap is_stopped is))

  -- a child whose full walk ended stops its family, whatever its numbers
  pub ended_stops : (s : Counted) (w : Walked T) (c : T) → w ≡ full step depth rule c → (w.end ≡ End.Through → ⊥) → stops (numbers_of rule) (add s (counted_of w)) ≡ true
  ended_stops s w c e other = ended_at s w w.end refl other (subst (StopsAt rule) (sym e) (cut_stops rule zero_tally (all_marks step depth c) (zero_open rule)))

  through_count : (t : Tally) (w : Walked T) → w.end ≡ End.Through → w.tally ≡ t → counted_of w ≡ sum_count (Some t)
  through_count t w e f =
      ap (λ (x : Tally). let y : Counted = record { pushes = x.pushes; goals = x.goals; stopped = is_stopped w.end } in y) f
      ∙ ap (λ (x : End). let y : Counted = record { pushes = t.pushes; goals = t.goals; stopped = is_stopped x } in y) e

  -- the known stop by what is kept is that of the walks
  pub known_same : (s : Counted) (p : ℕ) (cs : List T) (os : List (Option (Option Tally))) (ws : List (Option (Walked T))) → AreFull (full step depth rule) cs ws → SumsShow os ws
      → known_from (numbers_of rule) s p (sums_counted os) ≡ known_from (numbers_of rule) s p (counts_of ws)
  unfolding known_from
  known_same s p cs [] [] all sh = refl
  known_same s p cs [] (w ∷ ws) all sh = absurd sh
  known_same s p cs (o ∷ os) [] all sh = absurd sh
  known_same s p [] (o ∷ os) (w ∷ ws) all sh = absurd all
  known_same s p (c ∷ cs) (None ∷ os) (Some w ∷ ws) all sh = absurd sh.0
  known_same s p (c ∷ cs) (Some x ∷ os) (None ∷ ws) all sh = absurd sh.0
  known_same s p (c ∷ cs) (None ∷ os) (None ∷ ws) all sh =
      ap (λ r. cond (stops (numbers_of rule) (add s nothing_counted)) (Some p) r) (known_same (add s nothing_counted) (p + 1) cs os ws all sh.1)
  known_same s p (c ∷ cs) (Some None ∷ os) (Some w ∷ ws) all sh =
      rw (ended_counts (numbers_of rule) s, ended_stops s w c all.0 sh.0) refl
  known_same s p (c ∷ cs) (Some (Some t) ∷ os) (Some w ∷ ws) all sh =
      ap (λ r. cond (stops (numbers_of rule) (add s (sum_count (Some t)))) (Some p) r) (known_same (add s (sum_count (Some t))) (p + 1) cs os ws all.1 sh.1)
      ∙ ap (λ x. known_from (numbers_of rule) s p (Some x ∷ counts_of ws)) (sym (through_count t w sh.0.0 sh.0.1))

  -- a known stop at or before the index makes the licence one
  pub licensed_by : (ns : List (Node T)) (k : ℕ) (n m : Node T) (l : License) (i : ℕ) → Sound step depth rule ns → AnyOf (Names l) n.path → slice_get ns l.family ≡ Some m → Family ns l.family m.path m.first 0 (children step depth rule m.task)
      → known_of step depth rule ns m ≡ Some i → i ≤ l.index → Licensed step depth rule ns n.path l
  licensed_by ns k n m l i s names at fam e le =
      let x = known_true step depth rule None ns l.family m i s at fam e in
      (names, (x.0, x.1, stops_later (numbers_of rule) _ i l.index le x.2))

module _ {T : Type 0} (step : T → Stepped T) (depth : T → ℕ) where
  shown_same : (cs : List (Stored T)) (ns : List (Node T)) (k : ℕ) (c : Stored T) (n : Node T) → AllShow step cs ns → slice_get cs k ≡ Some c → slice_get ns k ≡ Some n → Shows step c n
  shown_same cs ns k c n a ec en =
      let x = shown_at step cs ns k c a ec in
      subst (Shows step c) (some_is x.0 n (sym x.1 ∙ en)) x.2

  word_stops : (rule : Rule) (t : T) (w i : ℕ) → i < 18446744073709551615 → w ≤ i → (w ≡ NONE) ⊎ Stops step depth rule t w → Stops step depth rule t i
  word_stops rule t w i small le h =
      elim h [
        | inl none ↦ absurd (omega arith)
        | inr stop ↦ stops_later (numbers_of rule) _ w i le stop
      ]

  -- the family's word makes a licence
  pub licensed_word : (rule : Rule) (ns : List (Node T)) (n : Node T) (l : License) → Sound step depth rule ns → l.index < 4294967296 → AnyOf (Names l) n.path → ((m : Node T) × (slice_get ns l.family ≡ Some m) × (m.word ≤ l.index)) → Licensed step depth rule ns n.path l
  licensed_word rule ns n l s small names m = (names, (m.0, m.1, word_stops rule m.0.task m.0.word l.index (omega arith) m.2 (s l.family m.0 m.1).word))
