-- How a claimed job comes back to its table.
use Rattle.std.specs.Prelude.{◌≡◌, ◌≤◌, ◌<◌, ◌⊎◌, ℕ, length}
use Rattle.ap_list.specs.Lists.{AnyOf}
use Rattle.ap_walk.specs.declared.act.Stepped.{Stepped}
use Rattle.ap_walk.specs.Visits.{out_children}
use Rattle.ap_word.specs.Seats.{TableId, seat_table}
use Rattle.ap_table.specs.declared.seats.AncestorSeat.{AncestorSeat}
use Rattle.ap_table.specs.declared.link.License.{License}
use Rattle.ap_table.specs.declared.stored.Job.{Job}
use Rattle.ap_table.specs.declared.stored.Grown.{Grown}
use Rattle.ap_table.specs.declared.stored.Grown.TheVariants as grown
use Rattle.ap_table.specs.declared.stored.Taken.{Taken}
use Rattle.ap_table.specs.Shown.{Run}
use Rattle.ap_table.specs.Steps.{Grows, Puts, Drops}
use Rattle.ap_speculate.specs.Jobs.{JobStays, ReadBelow}

-- the seat looks at a word that is its family's
abbrev pub LooksAt : (ℕ → TableId → Type 0) → AncestorSeat → Type 0
LooksAt word s = word s.family (seat_table s.seat)

module _ {T : Type 0} where
  -- a job whose children the table doesn't take comes back as it was
  abbrev pub ComesBack : Job T → Grown T → Type 0
  ComesBack job (grown.Family family first count) = Unit {0}
  ComesBack job (grown.Stranger back again) = back ≡ job
  ComesBack job (grown.NoMemory back again) = back ≡ job

module _ {T : Type 0} (step : T → Stepped T) where
  -- fewer than three families are above the job's node, and its task splits into two tasks or more
  abbrev pub IsToExpand : Job T → Type 0
  IsToExpand job = (length job.seats < 3) × (2 ≤ length (out_children (step job.task).out))

module _ {T B : Type 0} (step : T → Stepped T) (depth : T → ℕ) (did : B → (Run T → Run T → Type 0) → B → Type 0) where
  -- the table was handed a walk of the job
  pub record IsPut (old new : B) (job : Job T) : Type 0 where
    pub back : Job T
    pub stays : JobStays job back
    pub taken : Taken T
    pub done : did old (λ a b. Puts step depth a b back taken) new

  -- the table was handed a licence to drop the job, which one of the job's seats read
  pub record IsPutDrop (old new : B) (job : Job T) : Type 0 where
    pub back : Job T
    pub stays : JobStays job back
    pub license : License
    pub read : AnyOf (ReadBelow license) back.seats
    pub taken : Taken T
    pub done : did old (λ a b. Drops step depth a b back license taken) new

  -- the table took the children of the job's task
  pub record IsGrown (old new : B) (job : Job T) : Type 0 where
    pub due : IsToExpand step job
    pub back : Job T
    pub stays : JobStays job back
    pub family : ℕ
    pub first : ℕ
    pub count : ℕ
    pub done : did old (λ a b. Grows step depth a b back (step job.task) (grown.Family family first count)) new

  -- the table refused the children of the job's task
  pub record IsRefused (old new : B) (job : Job T) : Type 0 where
    pub due : IsToExpand step job
    pub back : Job T
    pub stays : JobStays job back
    pub again : Stepped T
    pub done : did old (λ a b. Grows step depth a b back (step job.task) (grown.Stranger back again)) new

  -- a job that is walked is put or dropped
  abbrev pub IsEnded : B → B → Job T → Type 0
  IsEnded old new job = IsPut old new job ⊎ IsPutDrop old new job

  -- the job is walked at once where its node isn't to be expanded, or else after the table refused its task's children
  pub record IsWalked (old new : B) (job : Job T) : Type 0 where
    pub from : B
    pub begun : ((from ≡ old) × (IsToExpand step job → ⊥)) ⊎ IsRefused old from job
    pub back : Job T
    pub stays : JobStays job back
    pub ended : IsEnded from new back

  -- a job that is worked is dropped, expanded, or walked
  abbrev pub IsHandedBack : B → B → Job T → Type 0
  IsHandedBack old new job = IsPutDrop old new job ⊎ (IsGrown old new job ⊎ IsWalked old new job)
