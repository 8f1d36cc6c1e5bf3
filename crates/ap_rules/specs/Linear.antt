-- The linear rules of theorems: what each conjunct says of integers under the hypotheses, and the atom on which it is
-- tried. See the manual's topic `linear`.
use Rattle.std.specs.Prelude.{◌≡◌, ℕ, ◌+◌, Bool, true, false, cond, ◌&&◌, ◌||◌, List, [], ◌∷◌, ◌++◌, reverse, Option, Some, None}
use Rattle.ap_list.specs.Lists.{Each}
use Rattle.ap_value.specs.declared.symbol.Symbol.{Symbol}
use Rattle.ap_value.specs.Values.{symbol_eq}
use Rattle.ap_term.specs.declared.term.Term.{Term, out-Term}
use Rattle.ap_term.specs.declared.term.Term.TheOpen.{Term-F}
use Rattle.ap_world.specs.declared.entry.Entry.{Entry}
use Rattle.ap_world.specs.declared.entry.Entry.TheVariants as entry
use Rattle.ap_world.specs.Clauses.{conjuncts}
use Rattle.ap_world.specs.Meaning.{Env, Defs, IsHeld, FactHolds}
use Rattle.ap_world.specs.Rules.{stated}
use Rattle.ap_world.specs.Sound.{known}
use Rattle.ap_rules.specs.declared.linear.LinearRule.{LinearRule}
use Rattle.ap_rules.specs.Shapes.{signed, trigger_of, all_inequalities, is_linear}

-- the rule of a conjunct, where it has a trigger
abbrev pub linear_part : Symbol → List Term → ℕ → Term → Option Term → List LinearRule
linear_part name hs i u None = []
linear_part name hs i u (Some x) = record { theorem = name; part = i; trigger = x; concl = (signed u).0; sign = (signed u).1; hyps = hs } ∷ []

-- the rules of the conjuncts, numbered from this part on
abbrev pub linear_from : Symbol → List Term → ℕ → List Term → List LinearRule
linear_from name hs i [] = []
linear_from name hs i (u ∷ us) = linear_part name hs i u (trigger_of u) ++ linear_from name hs (i + 1) us

abbrev pub linear_of_term : Symbol → Term → List LinearRule
linear_of_term name u = linear_from name (stated u).0 0 (conjuncts (stated u).1)

-- all of a theorem's linear rules, or none where a conjunct isn't an inequality
abbrev pub linear_in_entry : Entry → List LinearRule
linear_in_entry (entry.Theorem u) = cond (is_linear u.classes && all_inequalities (conjuncts (stated u.term).1)) (linear_of_term u.name u.term) []
linear_in_entry y = []

-- those of a world, oldest first
abbrev pub all_linear : List Entry → List LinearRule
all_linear [] = []
all_linear (y ∷ ys) = linear_in_entry y ++ all_linear ys

-- newest first
abbrev pub linear_rules_in : List Entry → List LinearRule
linear_rules_in W = reverse (all_linear W)

-- a trigger may match an atom that is a call of its head
abbrev pub same_head : Term-F Term → Term-F Term → Bool
same_head (Term-F.Call f ts) (Term-F.Call g us) = symbol_eq f g
same_head y z = false

abbrev pub may_match : List Term → LinearRule → Bool
may_match [] g = false
may_match (x ∷ xs) g = same_head (out-Term g.trigger) (out-Term x) || may_match xs g

-- a linear rule of terms of the world, whose conclusion has its sign wherever its hypotheses are other than nil
pub record LinearHolds (D : Defs) (g : LinearRule) : Type 0 where
  pub concl : known D g.concl ≡ true
  pub hyps : Each (λ h. known D h ≡ true) g.hyps
  pub same : (e : Env) → Each (IsHeld D e) g.hyps → FactHolds D e (g.concl, g.sign)
