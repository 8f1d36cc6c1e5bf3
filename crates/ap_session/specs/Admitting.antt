-- What admits the events of a book, as contracts see it, and what is known of it before and after some of them.
use Rattle.std.specs.Prelude.{◌≡◌, ◌≤◌, ◌⊎◌, ℕ, Bool, true, false, List, [], ◌∷◌, ◌++◌}
use Rattle.ap_list.specs.Lists.{AnyOf}
use Rattle.ap_world.specs.World.{Shown}
use Rattle.ap_table.specs.declared.link.DropNote.{DropNote}
use Rattle.ap_plain.specs.Ends.{Told, worlds_in, walks_in}
use Rattle.ap_plain.specs.Drops.{DividedWalks}
use Rattle.ap_events.specs.Books.{Earlier}
use Rattle.ap_session.specs.Working.{Working, Stands, start}

-- what events are worked in, whether the last book is certified, so that its world is the last of the earlier ones, how
-- many goals are worked at a time, and what was dropped: in the last event, and before
pub record AdmittingSeen : Type 0 where
  pub working : Working
  pub kept : Bool
  pub workers : ℕ
  pub noted : List DropNote
  pub last : List DropNote

abbrev pub notes_in : AdmittingSeen → List DropNote
notes_in a = a.noted ++ a.last

-- What is kept of it: all that events want, and before anything is begun the world that each book begins with.
pub record Ready (s : Working) (fresh : Bool) : Type 0 where
  pub stands : Stands s
  pub begins : fresh ≡ true → s.world ≡ start

-- the world of the last of some books, and a given one where there is none
abbrev pub last_world : Earlier → Shown → Shown
last_world [] w = w
last_world (b ∷ bs) w = last_world bs b.1

-- the world that was left
abbrev pub left_by : Bool → Earlier → Shown → Shown
left_by true earlier w = last_world earlier w
left_by false earlier w = w

abbrev pub left_in : AdmittingSeen → Shown
left_in a = left_by a.kept a.working.earlier a.working.world

-- What is noted of some walks stands behind what was noted before, and divides by those walks. One worker drops nothing.
pub record Notes (a b : AdmittingSeen) (told : List Told) : Type 0 where
  pub more : List DropNote
  pub behind : notes_in b ≡ notes_in a ++ more
  pub divided : DividedWalks more (walks_in told)
  pub alone : a.workers ≤ 1 → more ≡ []
  pub workers : b.workers ≡ a.workers

-- one of the worlds that were told of
abbrev pub IsTold : List Told → Shown → Type 0
IsTold told w = AnyOf (λ v. v ≡ w) (worlds_in told)

-- Before and after events of a book, of which this is told, also where a fault cut them off: the world is the one before,
-- or one that is told of.
pub record Behind (a b : AdmittingSeen) (told : List Told) : Type 0 where
  pub limits : b.working.limits ≡ a.working.limits
  pub earlier : b.working.earlier ≡ a.working.earlier
  pub kept : b.kept ≡ a.kept
  pub world : (b.working.world ≡ a.working.world) ⊎ IsTold told b.working.world
  pub notes : Notes a b told

-- Before and after a book, of which this is told, also where a fault cut it off: the world is the one before, the one that
-- a book begins with, or one that is told of.
pub record Led (a b : AdmittingSeen) (told : List Told) : Type 0 where
  pub limits : b.working.limits ≡ a.working.limits
  pub left : (left_in b ≡ left_in a) ⊎ ((left_in b ≡ start) ⊎ IsTold told (left_in b))
  pub notes : Notes a b told
