-- What contracts see of the implementations in memory.
use Rattle.std.specs.Prelude.{ℕ, List}
use Rattle.ap_outside.specs.Files.{Files}

-- a sink: what was put, the most bytes that it takes at a call, the numbers of the calls that fail, how many calls there
-- were, and the faults
pub record SinkSeen : Type 0 where
  pub content : List ℕ
  pub most : ℕ
  pub failing : List ℕ
  pub calls : ℕ
  pub faults : ℕ

-- a library: its files, the numbers of the calls that fail, how many calls there were, and the faults
pub record LibrarySeen : Type 0 where
  pub files : Files
  pub failing : List ℕ
  pub calls : ℕ
  pub read_faults : ℕ
  pub store_faults : ℕ
