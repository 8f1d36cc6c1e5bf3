-- When a rule holds in a world, and the laws that the rules of a sound world do and that instances mean what they should.
use Rattle.std.specs.Prelude.{◌≡◌, ◌↔◌, ℕ, Bool, true, false, List, Option, Some, None, slice_get}
use Rattle.ap_list.specs.Lists.{Each}
use Rattle.ap_value.specs.declared.symbol.Symbol.{Symbol}
use Rattle.ap_value.specs.Values.{V}
use Rattle.ap_term.specs.declared.term.Term.{Term, Var}
use Rattle.ap_term.specs.Terms.{subst_of}
use Rattle.ap_term.specs.Matching.{Pairs, matched}
use Rattle.ap_world.specs.declared.entry.Theorem.{Theorem}
use Rattle.ap_world.specs.declared.entry.Entry.{Entry}
use Rattle.ap_world.specs.Names.{not_name}
use Rattle.ap_world.specs.Primitives.{nil}
use Rattle.ap_world.specs.Meaning.{Env, Defs, Total, value_at, HasValue, IsHeld}
use Rattle.ap_world.specs.Rules.{Rule, rules_of_term, rules_in}
use Rattle.ap_world.specs.Sound.{known, not_function, Sound}
use Rattle.ap_world.specs.World.{function_of, theorem_of}

-- each term that stands for a variable is a term of the world
abbrev pub KnownPairs : Defs → Pairs → Type 0
KnownPairs D s = Each (λ (p : Symbol × Term). known D p.1 ≡ true) s

-- two values are one or, under iff, both nil or both not
abbrev pub AgreeUnder : Bool → V → V → Type 0
AgreeUnder true v w = (v ≡ nil) ↔ (w ≡ nil)
AgreeUnder false v w = v ≡ w

-- a rule of terms of the world, whose sides agree wherever its hypotheses are other than nil
pub record RuleHolds (D : Defs) (g : Rule) : Type 0 where
  pub left : known D g.lhs ≡ true
  pub right : known D g.rhs ≡ true
  pub hyps : Each (λ h. known D h ≡ true) g.hyps
  pub same : (e : Env) → Each (IsHeld D e) g.hyps → (v : V) × (w : V) × HasValue D g.lhs e v × HasValue D g.rhs e w × AgreeUnder g.iff v w

-- the part of this number, of a theorem's term as a rule
abbrev pub part_at : Symbol → ℕ → Option Theorem → Option Rule
part_at x i None = None
part_at x i (Some u) = slice_get (rules_of_term x u.term) i

-- the part of this number, of the theorem of this name
abbrev pub part_of : List Entry → Symbol → ℕ → Option Rule
part_of W x i = part_at x i (theorem_of W x)

-- the parts of a sound world's theorems hold
abbrev pub PartsHold : Type 0
PartsHold = (W : List Entry) → Sound W → function_of W not_name ≡ Some not_function → (x : Symbol) (i : ℕ) (g : Rule) → part_of W x i ≡ Some g → RuleHolds (function_of W) g

-- its rewrite rules hold
abbrev pub RulesHold : Type 0
RulesHold = (W : List Entry) → Sound W → function_of W not_name ≡ Some not_function → Each (RuleHolds (function_of W)) (rules_in W)

-- an instance has the values that the term has where each variable has its replacement's value
abbrev pub InstancesKeepValues : Type 0
InstancesKeepValues = (D : Defs) → Total D → (s : Pairs) → KnownPairs D s → (u : Term) → known D u ≡ true
    → (d e : Env) → ((x : Symbol) → HasValue D (subst_of s (Var x)) e (value_at d x)) → (v : V) → HasValue D (subst_of s u) e v ↔ HasValue D u d v

-- an instance is a term of the world, and so are the terms that a match gives
abbrev pub InstancesAreKnown : Type 0
InstancesAreKnown = (D : Defs) (s : Pairs) → KnownPairs D s → (u : Term) → known D u ≡ true → known D (subst_of s u) ≡ true

abbrev pub MatchesAreKnown : Type 0
MatchesAreKnown = (D : Defs) (l u : Term) (s z : Pairs) → known D u ≡ true → KnownPairs D s → matched l u s ≡ Some z → KnownPairs D z
