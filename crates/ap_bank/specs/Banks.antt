-- The terms of a bank, and what its nodes stand for.
use Rattle.std.specs.Prelude.{◌≡◌, ℕ, List, ◌++◌, map, slice_get, Option, Some}
use Rattle.std.specs.Option.{option_map}
use Rattle.ap_list.specs.Lists.{Each, all_some}
use Rattle.ap_term.specs.declared.term.Term.{Term, Var, Quote, Call}
use Rattle.ap_bank.specs.declared.node.TermId.{TermId}
use Rattle.ap_bank.specs.declared.node.Node.{Node}
use Rattle.ap_bank.specs.declared.node.Node.TheVariants as node
use Rattle.ap_bank.specs.declared.node.Held.{Held}
use Rattle.ap_bank.specs.declared.node.Held.TheVariants as held
use Rattle.ap_bank.specs.declared.whole.Whole.{Whole}

-- the term of a number, where it is one of the bank
abbrev pub term_at : List Term → TermId → Option Term
term_at ts i = slice_get ts i.0

-- the terms of numbers, where each is one of the bank
abbrev pub terms_at : List Term → List TermId → Option (List Term)
terms_at ts is = all_some (map (term_at ts) is)

-- what a node stands for, where its numbers are of the bank
abbrev pub held_term : List Term → Held → Option Term
held_term ts (held.Var x) = Some (Var x)
held_term ts (held.Quote v) = Some (Quote v)
held_term ts (held.Call f is) = option_map (Call f) (terms_at ts is)

abbrev pub node_term : List Term → Node → Option Term
node_term ts (node.Var x) = Some (Var x.now)
node_term ts (node.Quote v) = Some (Quote v.now)
node_term ts (node.Call f is) = option_map (Call f.now) (terms_at ts is.now)

-- no term stands twice
abbrev pub Apart : List Term → Type 0
Apart ts = (i j : ℕ) (t : Term) → slice_get ts i ≡ Some t → slice_get ts j ≡ Some t → i ≡ j

-- one list goes on as another, so that each number keeps its term
pub record Begins (old new : List Term) : Type 0 where
  pub more : List Term
  pub is : new ≡ old ++ more

-- each node stands for its term, and no term stands twice
pub record Banked (nodes : List Held) (ts : List Term) : Type 0 where
  pub made : map (held_term ts) nodes ≡ map Some ts
  pub apart : Apart ts

-- a number that is kept of a term is that term's
abbrev pub IsKnown : List Term → Whole × TermId → Type 0
IsKnown ts e = term_at ts e.1 ≡ Some e.0.term

-- what the type of a bank keeps, and of each term that is found by its hash its number
pub record IsBank (nodes : List Held) (ts : List Term) (kept : List (Whole × TermId)) : Type 0 where
  pub banked : Banked nodes ts
  pub known : Each (IsKnown ts) kept
