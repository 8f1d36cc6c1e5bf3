-- What contracts see of a memo.
use Rattle.std.specs.Prelude.{List, Option}
use Rattle.ap_term.specs.declared.term.Term.{Term}
use Rattle.ap_world.specs.declared.theory.Theory.{Theory}
use Rattle.ap_world.specs.World.{Shown}

-- the world, the theory and the calls that are opened, where rewriting stands, as a term, and the places around it.
-- What is kept isn't seen, so that a memo is the same when more is kept
pub record MemoShown : Type 0 where
  pub world : Shown
  pub theory : Theory
  pub expand : List Term
  pub place : Option Term
  pub around : List (Option Term)
