-- The seats of the families' words: what the table keeps beside its nodes, and what a job carries.
use Rattle.std.specs.Prelude.{◌≡◌, ℕ, zero, suc, ◌≤◌, List, [], ◌∷◌, length, Option, Some, None}
use Rattle.std.specs.List.{slice_get}
use Rattle.ap_list.specs.Lists.{Each, AnyOf}
use Rattle.ap_walk.specs.declared.act.Stepped.{Stepped}
use Rattle.ap_walk.specs.declared.rule.Rule.{Rule}
use Rattle.ap_word.specs.declared.family.Family.{Family}
use Rattle.ap_word.specs.Words.{unlooked}
use Rattle.ap_word.specs.Seats.{seat_table, seat_view}
use Rattle.ap_table.specs.Kept.{Kept, kept_marked}
use Rattle.ap_table.specs.Core.{Node, free, numbers_of, tallies, children}
use Rattle.ap_table.specs.Sound.{HasFamily}
use Rattle.ap_table.specs.declared.link.Link.{Link}
use Rattle.ap_table.specs.declared.stored.Entry.{Entry}
use Rattle.ap_table.specs.declared.stored.Entry.TheVariants as entry
use Rattle.ap_table.specs.declared.seats.AncestorSeat.{AncestorSeat}
use Rattle.ap_table.specs.declared.seats.Beside.{Beside}

-- the same seat, which may know more
pub record SameSeat (old new : AncestorSeat) : Type 0 where
  pub family : new.family ≡ old.family
  pub place : new.place ≡ old.place
  pub word : new.word ≡ old.word
  pub table : seat_table new.seat ≡ seat_table old.seat

-- a seat at this place of a family, just cut from one that is kept: it is of that one's word, and knows what that one does
pub record IsCut (k : Kept) (l : Link) (s : AncestorSeat) : Type 0 where
  pub family : s.family ≡ l.family
  pub place : s.place ≡ l.place
  pub word : seat_table s.seat ≡ k.table
  pub view : seat_view s.seat ≡ unlooked k.view

-- the seat that is kept beside a node
abbrev pub kept_in : Option Beside → Option Kept
kept_in None = None
kept_in (Some b) = b.kept

abbrev pub kept_at : List Beside → ℕ → Option Kept
kept_at bs k = kept_in (slice_get bs k)

-- element k as f makes it
unfoldable pub amend : {A : Type 0} → List A → ℕ → (A → A) → List A
amend [] k f = []
amend (x ∷ xs) zero f = f x ∷ xs
amend (x ∷ xs) (suc k) f = x ∷ amend xs k f

abbrev pub without_job : Beside → Beside
without_job b = record b { job = None }

abbrev pub with_kept : Kept → Beside → Beside
with_kept k b = record b { kept = Some k }

abbrev pub marked_kept : ℕ → Option Kept → Option Kept
marked_kept place None = None
marked_kept place (Some k) = Some (kept_marked k place)

abbrev pub with_mark : ℕ → Beside → Beside
with_mark place b = record b { kept = marked_kept place b.kept }

-- a seat of the family's word is kept
abbrev pub HasSeat : List Beside → Link → Type 0
HasSeat bs l = (k : Kept) × (kept_at bs l.family ≡ Some k)

-- seats cut from those that are kept, one for each family of a path
abbrev pub AreCut : List Beside → List Link → List AncestorSeat → Type 0
AreCut bs [] [] = Unit {0}
AreCut bs [] (s ∷ ss) = ⊥
AreCut bs (l ∷ ls) [] = ⊥
AreCut bs (l ∷ ls) (s ∷ ss) = ((k : Kept) × (kept_at bs l.family ≡ Some k) × IsCut k l s) × AreCut bs ls ss

-- what is new beside the children of a node: seats for their jobs, cut from the one of their own family and those that are kept
abbrev pub AreRows : List Beside → List Link → ℕ → Kept → List Beside → Type 0
AreRows bs path family own rows = (i : ℕ) (b : Beside) → slice_get rows i ≡ Some b
    → (b.kept ≡ None) × ((s : AncestorSeat) × (ss : List AncestorSeat) × (b.job ≡ Some (s ∷ ss)) × IsCut own (record { family = family; place = i }) s × AreCut bs path ss)

-- the seats give this family, with this place
abbrev pub Gives : List AncestorSeat → Link → Type 0
Gives ss l = AnyOf (λ (s : AncestorSeat). (s.family ≡ l.family) × (s.place ≡ l.place)) ss

-- the seats give just the families of a path, each once and with the place there
abbrev pub GiveAll : List Link → List AncestorSeat → Type 0
GiveAll path ss = (length ss ≡ length path) × Each (Gives ss) path

-- the seat made so many looks or more, and knows no number below its place
pub record HasLooked (many : ℕ) (s : AncestorSeat) : Type 0 where
  pub looks : many ≤ (seat_view s.seat).looks
  pub low : s.place ≤ (seat_view s.seat).low

abbrev pub IsMark : Entry → Type 0
IsMark (entry.Marked f i) = Unit {0}
IsMark _ = ⊥

module _ {T : Type 0} (step : T → Stepped T) (depth : T → ℕ) (rule : Rule) where
  -- the true tallies of a task's children, and the rule's numbers
  abbrev pub true_family : T → Family
  true_family t = record { tallies = tallies step depth rule (children step depth rule t); numbers = numbers_of rule }

  -- a seat for a family of a path: it has the family's true tallies, and made no look
  pub record IsSeatFor (ns : List (Node T)) (l : Link) (s : AncestorSeat) : Type 0 where
    pub family : s.family ≡ l.family
    pub place : s.place ≡ l.place
    pub node : Node T
    pub at : slice_get ns l.family ≡ Some node
    pub true : (seat_view s.seat).family ≡ true_family node.task
    pub unlooked : (seat_view s.seat).looks ≡ 0

  -- one seat for each family of a path
  abbrev pub SeatsFor : List (Node T) → List Link → List AncestorSeat → Type 0
  SeatsFor ns [] [] = Unit {0}
  SeatsFor ns [] (s ∷ ss) = ⊥
  SeatsFor ns (l ∷ ls) [] = ⊥
  SeatsFor ns (l ∷ ls) (s ∷ ss) = IsSeatFor ns l s × SeatsFor ns ls ss

  -- a kept seat has the family's true tallies, and the core's word for its number; each family above the node, and its own children's, has one; a free node has the seats for its job
  pub record IsSeatedAt (ns : List (Node T)) (bs : List Beside) (n : Node T) (b : Beside) : Type 0 where
    pub kept : (k : Kept) → b.kept ≡ Some k → (k.view.family ≡ true_family n.task) × (k.view.low ≡ n.word)
    pub has : HasFamily n.phase → (k : Kept) × (b.kept ≡ Some k)
    pub above : Each (HasSeat bs) n.path
    pub job : n.phase ≡ free → (ss : List AncestorSeat) × (b.job ≡ Some ss) × SeatsFor ns n.path ss

  pub record AreSeated (ns : List (Node T)) (bs : List Beside) : Type 0 where
    pub long : length bs ≡ length ns
    pub each : (k : ℕ) (n : Node T) (b : Beside) → slice_get ns k ≡ Some n → slice_get bs k ≡ Some b → IsSeatedAt ns bs n b
