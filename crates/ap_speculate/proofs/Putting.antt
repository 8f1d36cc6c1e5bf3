-- What a job that is done can be put with.
use Rattle.std.proofs.Common.{◌≡◌, ℕ, length, sym, ◌∙◌, ap, subst}
use Rattle.ap_list.specs.Lists.{Each}
use Rattle.ap_walk.specs.declared.act.Stepped.{Stepped}
use Rattle.ap_walk.specs.declared.mark.Walked.{Walked}
use Rattle.ap_walk.specs.Walks.{full}
use Rattle.ap_table.specs.declared.stored.Job.{Job}
use Rattle.ap_table.specs.Seated.{HasLooked}
use Rattle.ap_speculate.specs.declared.job.JobEnd.{JobEnd}
use Rattle.ap_speculate.specs.declared.job.JobEnd.TheVariants as end
use Rattle.ap_speculate.specs.Jobs.{Both, LookedOn, JobStays, IsDone}
use Rattle.ap_speculate.proofs.Seats.{done_looked}

module _ {T : Type 0} (step : T → Stepped T) (depth : T → ℕ) (old new : Job T) (e : JobEnd T) (w : Walked T) (is : e ≡ end.Done w) (stays : JobStays old new) (done : IsDone step depth old new e) where
  done_is : (w ≡ full step depth old.rule old.task) × Both (LookedOn (length w.marks)) old.seats new.seats
  done_is = subst (λ e. IsDone step depth old new e) is done

  pub walk_is_full : w ≡ full step depth new.rule new.task
  walk_is_full = done_is.0 ∙ ap (λ r. full step depth r old.task) (sym stays.rule) ∙ ap (full step depth new.rule) (sym stays.task)

  pub seats_looked : Each (HasLooked (length w.marks)) new.seats
  seats_looked = done_looked (length w.marks) old.seats new.seats done_is.1
