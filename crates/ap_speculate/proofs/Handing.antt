-- How a job that was claimed comes back to its table.
use Rattle.std.proofs.Common.{◌≡◌, ◌≤◌, ◌<◌, ◌⊎◌, ◌↔◌, ℕ, Bool, false, true≢false, IsTrue, Result, Ok, Err, OnOk, length, ap, ◌∙◌, subst, sym, inl, inr}
use Rattle.ap_list.specs.Lists.{AnyOf}
use Rattle.ap_walk.specs.declared.act.Stepped.{Stepped}
use Rattle.ap_walk.specs.Visits.{out_children}
use Rattle.ap_table.specs.declared.link.License.{License}
use Rattle.ap_table.specs.declared.stored.Job.{Job}
use Rattle.ap_table.specs.declared.stored.Grown.{Grown}
use Rattle.ap_table.specs.declared.stored.Grown.TheVariants as grown
use Rattle.ap_table.specs.declared.stored.Taken.{Taken}
use Rattle.ap_table.specs.Shown.{Run}
use Rattle.ap_table.specs.Steps.{Grows, Puts, Drops}
use Rattle.ap_table.specs.Locked.{OneStep}
use Rattle.ap_speculate.specs.Jobs.{JobStays, Stays, ReadBelow, IsDropped}
use Rattle.ap_speculate.specs.declared.job.JobEnd.{JobEnd}
use Rattle.ap_speculate.specs.declared.job.JobEnd.TheVariants as end
use Rattle.ap_speculate.specs.Boards.{ComesBack, IsToExpand, IsPutDrop, IsRefused, IsEnded, IsHandedBack}
use Rattle.ap_speculate.proofs.Pairs.{both_long}

-- what a test denies doesn't hold
pub told_false : {P : Type 0} (b : Bool) → (IsTrue b ↔ P) → b ≡ false → P → ⊥
told_false b h e p = true≢false (sym (h.1 p) ∙ e)

module _ {T : Type 0} where
  -- a job that came back is still the one that was claimed
  pub came_back : (job looked back : Job T) (again : Stepped T) (g : Grown T) → JobStays job looked → g ≡ grown.Stranger back again → ComesBack looked g → JobStays job back
  came_back job looked back again g stays is h =
      let same : back ≡ looked = subst (ComesBack looked) is h in
      subst (JobStays job) (sym same) stays

  -- what a walk of a job was dropped by was read by one of its seats
  pub read_below : (new : Job T) (e : JobEnd T) (l : License) → e ≡ end.Dropped l → IsDropped new e → AnyOf (ReadBelow l) new.seats
  read_below new e l is dropped = subst (IsDropped new) is dropped

module _ {T : Type 0} (step : T → Stepped T) (depth : T → ℕ) where
  pub grows_back : (old new : Run T) (job : Job T) (stepped : Stepped T) (g : Grown T) → Grows step depth old new job stepped g → ComesBack job g
  grows_back old new job stepped (grown.Family family first count) h = tt
  grows_back old new job stepped (grown.Stranger back again) h = h.1
  grows_back old new job stepped (grown.NoMemory back again) h = h.1

  pub shared_back : (job : Job T) (stepped : Stepped T) (g : Grown T) → OneStep step depth (λ old new. Grows step depth old new job stepped g) → ComesBack job g
  shared_back job stepped g h = grows_back h.old h.new job stepped g h.done

  -- its node is to be expanded after looks of its seats as before them
  pub due_before : (job back : Job T) (s : Stepped T) → JobStays job back → s ≡ step back.task → (length back.seats < 3) × (2 ≤ length (out_children s.out)) → IsToExpand step job
  due_before job back s stays is due = (
    subst (λ n. n < 3) (sym (both_long Stays job.seats back.seats stays.seats)) due.0,
    subst (λ (t : T). 2 ≤ length (out_children (step t).out)) stays.task (subst (λ (x : Stepped T). 2 ≤ length (out_children x.out)) is due.1),
  )

  pub due_after : (job back : Job T) (s : Stepped T) → JobStays job back → s ≡ step back.task → IsToExpand step job → (length back.seats < 3) × (2 ≤ length (out_children s.out))
  due_after job back s stays is due = (
    subst (λ n. n < 3) (both_long Stays job.seats back.seats stays.seats) due.0,
    subst (λ (x : Stepped T). 2 ≤ length (out_children x.out)) (sym is) (subst (λ (t : T). 2 ≤ length (out_children (step t).out)) (sym stays.task) due.1),
  )

  -- the step of a job that looked is that of the one that was claimed
  step_before : (job back : Job T) (s : Stepped T) → JobStays job back → s ≡ step back.task → s ≡ step job.task
  step_before job back s stays is = is ∙ ap step stays.task

  module _ {B : Type 0} (did : B → (Run T → Run T → Type 0) → B → Type 0) where
    -- the table was handed the job's walk
    pub is_put : (old new now : B) (job back : Job T) (taken : Taken T) → JobStays job back → now ≡ new → did old (λ a b. Puts step depth a b back taken) new → IsEnded step depth did old now job
    is_put old new now job back taken stays is done = inl (record { back = back; stays = stays; taken = taken; done = subst (λ n. did old (λ a b. Puts step depth a b back taken) n) (sym is) done })

    -- the table was handed a licence for the job
    pub is_put_drop : (old new now : B) (job back : Job T) (license : License) (taken : Taken T) → JobStays job back → now ≡ new → AnyOf (ReadBelow license) back.seats
        → did old (λ a b. Drops step depth a b back license taken) new → IsPutDrop step depth did old now job
    is_put_drop old new now job back license taken stays is read done =
        record { back = back; stays = stays; license = license; read = read; taken = taken; done = subst (λ n. did old (λ a b. Drops step depth a b back license taken) n) (sym is) done }

    -- what the table did with the children of a job that looked, as what it did with those of the one that was claimed
    grown_before : (old new : B) (job back : Job T) (s : Stepped T) (g h : Grown T) → JobStays job back → s ≡ step back.task → g ≡ h → did old (λ a b. Grows step depth a b back s g) new
        → did old (λ a b. Grows step depth a b back (step job.task) h) new
    grown_before old new job back s g h stays is same done =
        subst (λ g. did old (λ a b. Grows step depth a b back (step job.task) g) new) same (subst (λ s. did old (λ a b. Grows step depth a b back s g) new) (step_before job back s stays is) done)

    -- the table took the children
    pub is_grown : (old new : B) (job back : Job T) (s : Stepped T) (g : Grown T) (family first count : ℕ) → JobStays job back → s ≡ step back.task
        → (length back.seats < 3) × (2 ≤ length (out_children s.out)) → g ≡ grown.Family family first count → did old (λ a b. Grows step depth a b back s g) new
        → IsHandedBack step depth did old new job
    is_grown old new job back s g family first count stays is due same done = inr (inl (record {
      due = due_before job back s stays is due;
      back = back;
      stays = stays;
      family = family;
      first = first;
      count = count;
      done = grown_before old new job back s g (grown.Family family first count) stays is same done;
    }))

    -- the table refused them
    pub is_refused : (old new : B) (job back came : Job T) (s again : Stepped T) (g : Grown T) → JobStays job back → s ≡ step back.task
        → (length back.seats < 3) × (2 ≤ length (out_children s.out)) → g ≡ grown.Stranger came again → ComesBack back g → did old (λ a b. Grows step depth a b back s g) new
        → IsRefused step depth did old new job
    is_refused old new job back came s again g stays is due same comes done = record {
      due = due_before job back s stays is due;
      back = back;
      stays = stays;
      again = again;
      done = grown_before old new job back s g (grown.Stranger back again) stays is (same ∙ ap (λ j. grown.Stranger j again) (subst (ComesBack back) same comes)) done;
    }

    -- the job was walked
    pub is_walked : {A E : Type 0} (r : Result A E) (old from new : B) (job back : Job T) → ((from ≡ old) × (IsToExpand step job → ⊥)) ⊎ IsRefused step depth did old from job → JobStays job back
        → OnOk r (IsEnded step depth did from new back) → OnOk r (IsHandedBack step depth did old new job)
    is_walked (Ok a) old from new job back begun stays ended = inr (inr (record { from = from; begun = begun; back = back; stays = stays; ended = ended }))
    is_walked (Err e) old from new job back begun stays ended = tt
