-- What a call under a lock can say of the table.
use Rattle.ap_walk.specs.declared.act.Stepped.{Stepped}
use Rattle.ap_table.specs.Core.{root}
use Rattle.ap_table.specs.Sound.{AreAllowed}
use Rattle.ap_table.specs.Shown.{Run, turns}
use Rattle.ap_table.specs.Ended.{HasEnded}
use Rattle.std.specs.Prelude.{◌≡◌, ◌≤◌, ℕ, Bool, false, length}

module _ {T : Type 0} (step : T → Stepped T) (depth : T → ℕ) where
  -- each step of the table was allowed
  abbrev pub WasAllowed : Run T → Type 0
  WasAllowed r = AreAllowed step depth r.rule (root r.root) (turns r.history)

  -- the call led from a table to another, each of whose steps was allowed
  pub record OneStep (does : Run T → Run T → Type 0) : Type 0 where
    pub old : Run T
    pub new : Run T
    pub allowed : WasAllowed new
    pub done : does old new

  -- the call saw a table, each of whose steps was allowed, of which this holds
  pub record OneLook (says : Run T → Type 0) : Type 0 where
    pub run : Run T
    pub allowed : WasAllowed run
    pub said : says run

  -- a worker that has seen so much of the history waits on: it is no longer, the root isn't done and the table isn't halted
  abbrev pub Waits : ℕ → Run T → Bool → Type 0
  Waits seen r halted = (length r.history ≤ seen) × (HasEnded step depth r → ⊥) × (halted ≡ false)
