-- Which words a table keeps, and that a seat is of one of these.
use Rattle.std.specs.Prelude.{◌≡◌, ℕ, List, [], ◌∷◌, Option, Some, None}
use Rattle.std.specs.List.{slice_get}
use Rattle.ap_list.specs.Lists.{Each}
use Rattle.ap_walk.specs.declared.act.Stepped.{Stepped}
use Rattle.ap_word.specs.Seats.{TableId, seat_table}
use Rattle.ap_table.specs.Core.{Node}
use Rattle.ap_table.specs.Sound.{HasFamily}
use Rattle.ap_table.specs.Kept.{Kept}
use Rattle.ap_table.specs.Shown.{Run, nodes_of}
use Rattle.ap_table.specs.Locked.{WasAllowed}
use Rattle.ap_table.specs.Seated.{AreSeated}
use Rattle.ap_table.specs.declared.seats.AncestorSeat.{AncestorSeat}
use Rattle.ap_table.specs.declared.seats.Beside.{Beside}
use Rattle.ap_table.specs.declared.stored.Claim.{Claim}
use Rattle.ap_table.specs.declared.stored.Claim.TheVariants as claim

-- what contracts see of a table with its seats: its run, and for each node the word of its children's family, where one is kept
pub record Worded (T : Type 0) : Type 0 where
  pub run : Run T
  pub words : List (Option TableId)

-- the word of a seat that is kept
abbrev pub word_in : Option Kept → Option TableId
word_in None = None
word_in (Some k) = Some k.table

-- the words of the seats that are kept beside the nodes
abbrev pub words_of : List Beside → List (Option TableId)
words_of [] = []
words_of (b ∷ bs) = word_in b.kept ∷ words_of bs

-- the seat looks at the word that is kept of its family
abbrev pub IsOf : List (Option TableId) → AncestorSeat → Type 0
IsOf ws s = slice_get ws s.family ≡ Some (Some (seat_table s.seat))

-- each word that is kept stays that of its family
abbrev pub WordsStay : List (Option TableId) → List (Option TableId) → Type 0
WordsStay ws vs = (k : ℕ) (t : TableId) → slice_get ws k ≡ Some (Some t) → slice_get vs k ≡ Some (Some t)

-- the seats of a job that is found look at the words that are kept
abbrev pub FoundOf : {T : Type 0} → List (Option TableId) → Claim T → Type 0
FoundOf ws (claim.Found job) = Each (IsOf ws) job.seats
FoundOf ws claim.Nothing = Unit {0}

-- the seats for the jobs are of the words that are kept, and where a node has no family none is kept
pub record AreWorded {T : Type 0} (ns : List (Node T)) (bs : List Beside) : Type 0 where
  pub of : (k : ℕ) (b : Beside) (ss : List AncestorSeat) → slice_get bs k ≡ Some b → b.job ≡ Some ss → Each (IsOf (words_of bs)) ss
  pub none : (k : ℕ) (n : Node T) (b : Beside) → slice_get ns k ≡ Some n → slice_get bs k ≡ Some b → (HasFamily n.phase → ⊥) → b.kept ≡ None

module _ {T : Type 0} (step : T → Stepped T) (depth : T → ℕ) where
  -- what a table keeps beside its nodes
  pub record IsKept (r : Run T) (bs : List Beside) : Type 0 where
    pub seated : AreSeated step depth r.rule (nodes_of step depth r) bs
    pub worded : AreWorded (nodes_of step depth r) bs

  -- it is the word that a table, each of whose steps was allowed, kept of this family
  pub record WasWord (family : ℕ) (word : TableId) : Type 0 where
    pub table : Worded T
    pub allowed : WasAllowed step depth table.run
    pub is : slice_get table.words family ≡ Some (Some word)

  -- the seat looks at a word that was its family's
  abbrev pub WasOf : AncestorSeat → Type 0
  WasOf s = WasWord s.family (seat_table s.seat)

  -- and so the seats of a job that is found
  abbrev pub FoundWas : Claim T → Type 0
  FoundWas (claim.Found job) = Each WasOf job.seats
  FoundWas claim.Nothing = Unit {0}
