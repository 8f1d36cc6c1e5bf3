-- What rewriting goes by, and where the term stands that is rewritten.
use Rattle.std.specs.Prelude.{ℕ, ◌+◌, Bool, List, ◌∷◌, Option}
use Rattle.ap_value.specs.declared.symbol.Symbol.{Symbol}
use Rattle.ap_value.specs.declared.value.Value.{Value}
use Rattle.ap_term.specs.declared.term.Term.{Term}
use Rattle.ap_term.specs.Metered.{By}
use Rattle.ap_world.specs.declared.theory.Theory.{Theory}
use Rattle.ap_world.specs.World.{Shown}
use Rattle.ap_world.specs.Meaning.{Defs}
use Rattle.ap_world.specs.Facts.{Facts}
use Rattle.ap_world.specs.Assume.{assume}
use Rattle.ap_world.specs.Rules.{Rule}
use Rattle.ap_kernel.specs.declared.objects.Mode.{Mode}
use Rattle.ap_rewrite.specs.Arithmetic.{Arithmetic}

-- what stays the same while a clause is rewritten
pub record Setting : Type 0 where
  pub world : Shown
  -- the runes that are disabled
  pub theory : Theory
  -- rewrite rules, the newest first
  pub rules : List Rule
  -- the definitions that may be opened
  pub functions : Defs
  -- the calls that `:expand` names
  pub expand : List Term
  pub arithmetic : Arithmetic
  -- the types of a term under facts, as a mask
  pub types : Facts → Term → ℕ
  -- the value of a call of constants, where running it gives one
  pub value : Term → Option Value

-- where a term stands: the facts in force, the functions that aren't opened, and the number of hypotheses that are
-- being relieved around it
pub record Place : Type 0 where
  pub facts : Facts
  pub closed : List Symbol
  pub chain : ℕ

-- where a term has a sign
abbrev pub under : Place → Term → Bool → Place
under p a s = record p { facts = assume p.facts a s }

-- where a function isn't opened
abbrev pub closing : Symbol → Place → Place
closing f p = record p { closed = f ∷ p.closed }

-- within a hypothesis
abbrev pub relieving : Place → Place
relieving p = record p { chain = p.chain + 1 }

-- how terms are rewritten one level deeper
abbrev pub Inner : Type 0
Inner = Mode → Place → Term → By Term
