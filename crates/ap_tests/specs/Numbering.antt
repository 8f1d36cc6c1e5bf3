-- An admitter that numbers forms: it prints each number, and refuses at the last.
use Rattle.std.specs.Prelude.{ℕ, ◌+◌, false, nat_eq, [], ◌∷◌, min}
use Rattle.ap_books.specs.Bodies.{Turn}

pub record Numbers : Type 0 where
  pub next : ℕ
  pub last : ℕ

-- a form prints its number
abbrev pub numbered : Numbers → Turn Numbers ℕ
numbered s = record { text = s.next ∷ []; refused = nat_eq s.next s.last; next = record s { next = min (s.next + 1) 255 }; log = [] }

-- the book's end prints a point
abbrev pub ended : Numbers → Turn Numbers ℕ
ended s = record { text = 46 ∷ []; refused = false; next = s; log = [] }
