-- What contracts see of a seat that the table keeps of a family's word.
use Rattle.std.specs.Prelude.{ℕ}
use Rattle.ap_word.specs.Seats.{TableId}
use Rattle.ap_word.specs.declared.family.View.{View}
use Rattle.ap_word.specs.Words.{marked}

-- which word it is of, and what it knows
pub record Kept : Type 0 where
  pub table : TableId
  pub view : View

-- after a mark
abbrev pub kept_marked : Kept → ℕ → Kept
kept_marked k place = record k { view = marked k.view place }
