-- The rules of the index, as those of the world.
use Rattle.std.proofs.Common.{◌≡◌, ℕ, Bool, true, false, cond, List, [], ◌∷◌, map, Some, sym, ap, ◌∙◌, subst}
use Rattle.ap_list.specs.Lists.{Each}
use Rattle.ap_value.specs.declared.symbol.Symbol.{Symbol}
use Rattle.ap_term.specs.declared.term.Term.{Term, Call}
use Rattle.ap_term.specs.Metered.{first_that}
use Rattle.ap_world.specs.World.{Shown, function_of}
use Rattle.ap_world.specs.Rules.{Rule, rules_in}
use Rattle.ap_world.specs.Holding.{RuleHolds, part_of}
use Rattle.ap_rules.specs.Indexed.{kept, rules_for, begins}
use Rattle.ap_kernel.specs.declared.objects.Mode.{Mode}
use Rattle.ap_rewrite.specs.Settings.{Setting, Place, Inner}
use Rattle.ap_rewrite.specs.Rewriting.{try_rule, by_rules}
use Rattle.ap_rewrite.specs.Answering.{IsRuleOf}
use Rattle.ap_rewrite.specs.Laws.{SearchByHead}

pub by_index : SearchByHead → (S : Setting) (r : Inner) (o : Mode) (p : Place) (t : Term) (f : Symbol) (us : List Term) (n : ℕ) (gs : List Rule) → t ≡ Call f us → gs ≡ rules_for f S.rules
    → first_that (map (try_rule S r o p t) gs) n ≡ by_rules S r o p t n
by_index law S r o p t f us n gs is e =
    subst (λ (u : Term). first_that (map (try_rule S r o p u) gs) n ≡ by_rules S r o p u n) (sym is)
    (ap (λ hs. first_that (map (try_rule S r o p (Call f us)) hs) n) e ∙ law S r o p f us n)

pub each_kept : {A : Type 0} (P : A → Type 0) (test : A → Bool) (xs : List A) → Each P xs → Each P (kept test xs)
each_kept P test [] h = tt
each_kept P test (x ∷ xs) h = go (test x) (each_kept P test xs h.1)
  where
    go : (b : Bool) → Each P (kept test xs) → Each P (cond b (x ∷ kept test xs) (kept test xs))
    go true k = (h.0, k)
    go false k = k

rules_are : (w : Shown) (gs : List Rule) → Each (λ (g : Rule). part_of w.entries g.theorem g.part ≡ Some g) gs → Each (RuleHolds (function_of w.entries)) gs → Each (IsRuleOf w) gs
rules_are w [] h k = tt
rules_are w (g ∷ gs) h k = (record { part = h.0; hyps = k.0.hyps }, rules_are w gs h.1 k.1)

pub rules_found : (w : Shown) (f : Symbol) (gs : List Rule) → gs ≡ rules_for f (rules_in w.entries)
    → Each (λ (g : Rule). part_of w.entries g.theorem g.part ≡ Some g) (rules_in w.entries) → Each (RuleHolds (function_of w.entries)) (rules_in w.entries) → Each (IsRuleOf w) gs
rules_found w f gs e h k = subst (Each (IsRuleOf w)) (sym e) (each_kept (IsRuleOf w) (begins f) (rules_in w.entries) (rules_are w (rules_in w.entries) h k))
