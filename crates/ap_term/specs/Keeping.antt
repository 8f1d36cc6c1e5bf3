-- What is counted of a term, and what a call keeps of its arguments.
use Rattle.std.specs.Prelude.{◌≡◌, true, List, map}
use Rattle.ap_list.specs.Lists.{sum_of}
use Rattle.ap_term.specs.declared.term.Term.{Term}
use Rattle.ap_term.specs.declared.kept.Counts.{Counts}
use Rattle.ap_term.specs.declared.kept.Kept.{Kept}
use Rattle.ap_term.specs.Capped.{capped}
use Rattle.ap_term.specs.Hashes.{term_hash, mixed_all}
use Rattle.ap_term.specs.Leaves.{product, choice_leaves, if_parts, leaves as leaves_in, has_if as has_if_in, any_true}
use Rattle.ap_term.specs.Order.{variables_in, functions_in, constants_in}

pub record IsCounted (c : Counts) (t : Term) : Type 0 where
  pub variables : c.variables ≡ capped (variables_in t)
  pub functions : c.functions ≡ capped (functions_in t)
  pub constants : c.constants ≡ capped (constants_in t)
  pub leaves : c.leaves ≡ capped (leaves_in t)
  pub hash : c.hash ≡ term_hash t
  pub has_if : c.has_if ≡ has_if_in t

pub record IsKept (k : Kept) (ts : List Term) : Type 0 where
  pub variables : k.variables ≡ capped (sum_of (map variables_in ts))
  pub functions : k.functions ≡ capped (sum_of (map functions_in ts))
  pub constants : k.constants ≡ capped (sum_of (map constants_in ts))
  pub leaves : k.leaves ≡ capped (product (map leaves_in ts))
  pub choice : k.choice ≡ capped (choice_leaves (if_parts true (map leaves_in ts)) (product (map leaves_in ts)))
  pub hash : k.hash ≡ mixed_all 8 (map term_hash ts)
  pub has_if : k.has_if ≡ any_true (map has_if_in ts)
