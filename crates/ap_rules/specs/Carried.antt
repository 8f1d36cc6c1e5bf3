-- What a world's index keeps, with the heads by which rules are found when their theorem is taken away.
use Rattle.std.specs.Prelude.{◌≡◌, ℕ, ◌+◌, List, [], ◌∷◌, ◌++◌, map, length, Option, Some}
use Rattle.ap_value.specs.declared.symbol.Symbol.{Symbol}
use Rattle.ap_term.specs.declared.term.Term.{out-Term}
use Rattle.ap_world.specs.declared.entry.Entry.{Entry}
use Rattle.ap_world.specs.Prescribing.{called}
use Rattle.ap_world.specs.Rules.{Rule, newest_first, rules_in_entry}
use Rattle.ap_rules.specs.declared.carrying.Carrier.{Carrier}
use Rattle.ap_rules.specs.declared.linear.LinearRule.{LinearRule}
use Rattle.ap_rules.specs.Grouped.{Table, grouped_at}
use Rattle.ap_rules.specs.Indexed.{rules_for}
use Rattle.ap_rules.specs.Linear.{linear_in_entry, all_linear}

-- the table has for each head just those rules of a list whose left side may be such a call
abbrev pub Has : Table → List Rule → Type 0
Has table gs = (f : Symbol) → grouped_at table f ≡ rules_for f gs

-- the head of a rule's left side
abbrev pub head_in : Rule → Option Symbol
head_in g = called (out-Term g.lhs)

-- the table has the rules, of which the last is the newest, and their heads are known in this order
pub record Keeps (table : Table) (heads : List Symbol) (rs : List Rule) : Type 0 where
  pub has : Has table (newest_first rs)
  pub headed : map Some heads ≡ map head_in rs

-- what entries give, oldest first
abbrev pub all_of : {G : Type 0} → (Entry → List G) → List Entry → List G
all_of give [] = []
all_of give (y ∷ ys) = give y ++ all_of give ys

-- how many come before what each entry gives, from n on
abbrev pub starts_from : {G : Type 0} → (Entry → List G) → ℕ → List Entry → List ℕ
starts_from give n [] = []
starts_from give n (y ∷ ys) = n ∷ starts_from give (n + length (give y)) ys

-- the rewrite rules of a world, oldest first
abbrev pub all_rules : List Entry → List Rule
all_rules W = all_of rules_in_entry W

pub record RewritesCarried (W : List Entry) (table : Table) (heads : List Symbol) (starts : List ℕ) : Type 0 where
  pub keeps : Keeps table heads (all_rules W)
  pub started : starts ≡ starts_from rules_in_entry 0 W

pub record LinearCarried (W : List Entry) (gs : List LinearRule) (starts : List ℕ) : Type 0 where
  pub all : gs ≡ all_linear W
  pub started : starts ≡ starts_from linear_in_entry 0 W

-- the index has the rules of the entries, and it is known where those of each start
pub record Carried (W : List Entry) (c : Carrier) : Type 0 where
  pub rewrites : RewritesCarried W c.rules.groups c.heads c.starts
  pub linear : LinearCarried W c.rules.linear c.linear_starts
