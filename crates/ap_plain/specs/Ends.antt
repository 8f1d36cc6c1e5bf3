-- What an event comes to.
use Rattle.std.specs.Prelude.{◌≡◌, ℕ, Bool, false, cond, List, [], ◌∷◌, ◌++◌, map, Option, Some, None}
use Rattle.ap_world.specs.World.{Shown}
use Rattle.ap_attempt.specs.Attempts.{RootedWalk}
use Rattle.ap_strategy.specs.Goals.{Goal}
use Rattle.ap_plain.specs.declared.end.Outcome.{Outcome}
use Rattle.ap_stated.specs.declared.refusing.Refusal.{Refusal}
use Rattle.ap_plain.specs.Counts.{goals_of}
use Rattle.ap_plain.specs.Drops.{DividedWalks}
use Rattle.ap_stated.specs.Texts.{refused_line}

-- what an event tells on the way: a world that it passes through, or a walk of an attempt
pub data Told : Type 0 where
  passed : Shown → Told
  walked : RootedWalk Goal → Told

-- the worlds among what is told, and the walks, in their order
abbrev pub worlds_in : List Told → List Shown
worlds_in [] = []
worlds_in (passed w ∷ ts) = w ∷ worlds_in ts
worlds_in (walked a ∷ ts) = worlds_in ts

abbrev pub walks_in : List Told → List (RootedWalk Goal)
walks_in [] = []
walks_in (passed w ∷ ts) = walks_in ts
walks_in (walked a ∷ ts) = a ∷ walks_in ts

-- how many goals its attempts visited: the marks of the walks
abbrev pub goals_in : List Told → ℕ
goals_in ts = goals_of (walks_in ts)

-- an event that is done: its text; the world after it, unless it is refused; and what it tells, in order
pub record Done : Type 0 where
  pub text : List ℕ
  pub next : Option Shown
  pub told : List Told

abbrev pub refused : List ℕ → List (RootedWalk Goal) → Done
refused text walks = record { text = text; next = None; told = map walked walks }

-- the world after an admitted event is told behind its walks
abbrev pub admitted : Shown → List ℕ → List (RootedWalk Goal) → Done
admitted v text walks = record { text = text; next = Some v; told = map walked walks ++ passed v ∷ [] }

-- an event that is refused before it tells anything prints its last line alone
abbrev pub refused_alone : List ℕ → Refusal → Done
refused_alone title r = refused (refused_line title r) []

-- What a call answered that did this event in a world w, and the world v that it left: the world is the next one, or as
-- it was where the event is refused.
pub record Did (d : Done) (w v : Shown) (o : Outcome) : Type 0 where
  pub text : o.text ≡ d.text
  pub next : d.next ≡ cond o.admitted (Some v) None
  pub kept : o.admitted ≡ false → v ≡ w
  pub goals : o.goals ≡ goals_in d.told
  pub drops : DividedWalks o.drops (walks_in d.told)
