-- Hints that speak of a world: the calls in their terms are of its functions, and the theorems that they use are its own.
use Rattle.std.specs.Prelude.{◌<◌, ◌^◌, ◌+◌, false, List, [], length, IsTrue, IfSome, is_some}
use Rattle.ap_list.specs.Lists.{Each}
use Rattle.ap_value.specs.declared.symbol.Symbol.{Symbol}
use Rattle.ap_term.specs.declared.term.Subst.{Subst}
use Rattle.ap_term.specs.declared.term.Term.{Term}
use Rattle.ap_world.specs.declared.entry.Entry.{Entry}
use Rattle.ap_world.specs.Holding.{KnownPairs}
use Rattle.ap_world.specs.Sound.{known}
use Rattle.ap_world.specs.World.{function_of, theorem_of}
use Rattle.ap_hints.specs.declared.hint.Hint.{Hint}
use Rattle.ap_hints.specs.declared.hint.Hints.{Hints}

abbrev pub KnownTerm : List Entry → Term → Type 0
KnownTerm W u = IsTrue (known (function_of W) u)

-- a theorem that is used, with what replaces its variables
pub record KnownUse (W : List Entry) (p : Symbol × Subst) : Type 0 where
  pub theorem : IsTrue (is_some (theorem_of W p.0))
  pub pairs : KnownPairs (function_of W) p.1.0

-- the cases, and the one that none of them holds, can be numbered in 32 bits
pub record KnownHint (W : List Entry) (h : Hint) : Type 0 where
  pub expand : Each (KnownTerm W) h.expand
  pub uses : Each (KnownUse W) h.uses
  pub cases : Each (KnownTerm W) h.cases
  pub few : length h.cases + 1 < 2 ^ 32
  pub scheme : IfSome h.scheme (KnownTerm W)

abbrev pub KnownHints : List Entry → Hints → Type 0
KnownHints W hs = Each (KnownHint W) hs.list

-- of an event without any
abbrev pub no_hints : Hints
no_hints = record { list = []; do_not_induct = false }
