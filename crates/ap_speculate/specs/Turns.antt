-- What a worker's turn at a table that is shared comes to.
use Rattle.std.specs.Prelude.{◌≡◌, ◌<◌, ◌⊎◌, ◌↔◌, ℕ, Bool, true, IsTrue, length}
use Rattle.ap_walk.specs.declared.act.Stepped.{Stepped}
use Rattle.ap_table.specs.declared.stored.Job.{Job}
use Rattle.ap_table.specs.declared.stored.Claim.TheVariants as claim
use Rattle.ap_list.specs.Lists.{Each}
use Rattle.ap_table.specs.Locked.{OneStep, OneLook}
use Rattle.ap_table.specs.Worded.{WasOf}
use Rattle.ap_table.specs.Shown.{Run}
use Rattle.ap_table.specs.Steps.{Claims, ClaimsAt}
use Rattle.ap_speculate.specs.Boards.{IsHandedBack}

module _ {T : Type 0} (step : T → Stepped T) (depth : T → ℕ) where
  -- a call did a step of this kind at the table that workers share, of which no state is known
  abbrev pub DidShared : Unit {0} → (Run T → Run T → Type 0) → Unit {0} → Type 0
  DidShared old does new = OneStep step depth does

  -- the table handed the job out: that of the first free node, or of a node whose number the worker had; and its seats look at words that were their families'
  abbrev pub WasClaimed : Job T → Type 0
  WasClaimed job = (OneStep step depth (λ old new. Claims step depth old new (claim.Found job)) ⊎ ((k : ℕ) × OneStep step depth (λ old new. ClaimsAt step depth old new k (claim.Found job)))) × Each (WasOf step depth) job.seats

  -- a job was claimed, and dropped, expanded or walked
  pub record IsWorked : Type 0 where
    pub job : Job T
    pub claimed : WasClaimed job
    pub back : IsHandedBack step depth DidShared tt tt job

  -- the history's length was seen, then no node was free, and then the worker waited; there is more where the history is longer then
  pub record IsWaited (more : Bool) : Type 0 where
    pub seen : ℕ
    pub before : OneLook step depth (λ run. seen ≡ length run.history)
    pub none : OneStep step depth (λ old new. Claims step depth old new claim.Nothing)
    pub now : ℕ
    pub after : OneLook step depth (λ run. now ≡ length run.history)
    pub is : IsTrue more ↔ seen < now

  -- after a job there may be another turn, and after a wait where there is more
  abbrev pub IsTurn : Bool → Type 0
  IsTurn more = ((more ≡ true) × IsWorked) ⊎ IsWaited more
