-- What a job leaves of its seats, and what it answers.
use Rattle.std.specs.Prelude.{◌≡◌, ℕ, ◌+◌, ◌≤◌, ◌<◌, List, [], ◌∷◌, length}
use Rattle.ap_list.specs.Lists.{AnyOf}
use Rattle.ap_walk.specs.declared.act.Stepped.{Stepped}
use Rattle.ap_walk.specs.declared.rule.Rule.{Rule}
use Rattle.ap_walk.specs.Walks.{full}
use Rattle.ap_word.specs.Seats.{seat_table, seat_view}
use Rattle.ap_table.specs.declared.link.License.{License}
use Rattle.ap_table.specs.declared.seats.AncestorSeat.{AncestorSeat}
use Rattle.ap_table.specs.declared.stored.Job.{Job}
use Rattle.ap_speculate.specs.declared.job.JobEnd.{JobEnd}
use Rattle.ap_speculate.specs.declared.job.JobEnd.TheVariants as end

-- two lists are as long, and R holds of what stands at the same place
abbrev pub Both : {A : Type 0} → (A → A → Type 0) → List A → List A → Type 0
Both R [] [] = Unit {0}
Both R [] (y ∷ ys) = ⊥
Both R (x ∷ xs) [] = ⊥
Both R (x ∷ xs) (y ∷ ys) = R x y × Both R xs ys

-- the same seat of the same word, which may have looked
pub record Stays (old new : AncestorSeat) : Type 0 where
  pub family : new.family ≡ old.family
  pub place : new.place ≡ old.place
  pub word : new.word ≡ old.word
  pub table : seat_table new.seat ≡ seat_table old.seat
  pub known : (seat_view new.seat).family ≡ (seat_view old.seat).family
  pub looks : (seat_view old.seat).looks ≤ (seat_view new.seat).looks
  pub low : (seat_view new.seat).low ≤ (seat_view old.seat).low

-- the seat made just so many looks more, and knows no number below its place
pub record LookedOn (many : ℕ) (old new : AncestorSeat) : Type 0 where
  pub looks : (seat_view new.seat).looks ≡ (seat_view old.seat).looks + many
  pub low : new.place ≤ (seat_view new.seat).low

-- the seat is of this family, and read this number, which is below its place
pub record ReadBelow (l : License) (s : AncestorSeat) : Type 0 where
  pub family : s.family ≡ l.family
  pub low : (seat_view s.seat).low ≡ l.index
  pub below : l.index < s.place

module _ {T : Type 0} where
  -- the job is as it was, but for the looks of its seats
  pub record JobStays (old new : Job T) : Type 0 where
    pub task : new.task ≡ old.task
    pub rule : new.rule ≡ old.rule
    pub node : new.node ≡ old.node
    pub seats : Both Stays old.seats new.seats

  -- what is dropped was read so by one of the seats
  abbrev pub SeatsDropped : List AncestorSeat → JobEnd T → Type 0
  SeatsDropped new (end.Done w) = Unit {0}
  SeatsDropped new (end.Dropped l) = AnyOf (ReadBelow l) new

  abbrev pub IsDropped : Job T → JobEnd T → Type 0
  IsDropped new e = SeatsDropped new.seats e

module _ {T : Type 0} (step : T → Stepped T) (depth : T → ℕ) where
  -- what is done is the full walk of the task, and each seat looked once for each of its marks
  abbrev pub SeatsDone : Rule → T → List AncestorSeat → List AncestorSeat → JobEnd T → Type 0
  SeatsDone rule task old new (end.Done w) = (w ≡ full step depth rule task) × Both (LookedOn (length w.marks)) old new
  SeatsDone rule task old new (end.Dropped l) = Unit {0}

  abbrev pub IsDone : Job T → Job T → JobEnd T → Type 0
  IsDone old new e = SeatsDone old.rule old.task old.seats new.seats e
