-- The rules of conjuncts, one after another, and the variables of a list of terms.
use Rattle.std.proofs.Common.{◌≡◌, ℕ, ◌+◌, ◌≤◌, List, [], ◌∷◌, ◌++◌, map, length, take, refl, sym, ap, ◌∙◌, append_assoc}
use Rattle.std.proofs.lemmas.List.{map-append, take_all}
use Rattle.ap_list.specs.Lists.{in_turn}
use Rattle.ap_value.specs.declared.symbol.Symbol.{Symbol}
use Rattle.ap_term.specs.declared.term.Term.{Term, Call}
use Rattle.ap_term.specs.Terms.{vars_step, vars_after}
use Rattle.ap_term.proofs.Induction.{fold_call}
use Rattle.ap_world.specs.Rules.{Rule, rules_from, vars_in}
use Rattle.ap_rules.specs.declared.rule.RewriteRule.{RewriteRule}
use Rattle.ap_rules.specs.Made.{rule_in, part_rule}

-- one rule more
pub one_more : (out more : List RewriteRule) (g : RewriteRule) (name : Symbol) (hs : List Term) (i : ℕ) (u : Term) (us left : List Term) (all : List Rule)
    → rule_in g ≡ part_rule name hs i u → more ≡ out ++ g ∷ [] → left ≡ u ∷ us
    → map rule_in out ++ rules_from name hs i left ≡ all → map rule_in more ++ rules_from name hs (i + 1) us ≡ all
one_more out more g name hs i u us left all made longer is h =
    ap (λ gs. map rule_in gs ++ rules_from name hs (i + 1) us) longer
    ∙ ap (λ rs. rs ++ rules_from name hs (i + 1) us) (map-append rule_in out (g ∷ []))
    ∙ append_assoc (map rule_in out) (rule_in g ∷ []) (rules_from name hs (i + 1) us)
    ∙ ap (λ r. map rule_in out ++ r ∷ rules_from name hs (i + 1) us) made
    ∙ ap (λ ts. map rule_in out ++ rules_from name hs i ts) (sym is)
    ∙ h

in_turn_is : (us : List Term) (seen : List Symbol) → in_turn (map vars_after us) seen ≡ vars_in us seen
in_turn_is [] seen = refl
in_turn_is (u ∷ us) seen = in_turn_is us (vars_after u seen)

-- the variables of a call are those of its arguments
pub call_variables : (f : Symbol) (l : Term) (us : List Term) → vars_after (Call f (l ∷ us)) [] ≡ vars_in us (vars_after l [])
call_variables f l us = ap (λ k. k []) (fold_call vars_step f (l ∷ us)) ∙ in_turn_is us (vars_after l [])

-- and so are those of a call of a left side and all hypotheses
pub bound_is : (f : Symbol) (l all : Term) (us terms : List Term) (i : ℕ) → length us ≤ i → terms ≡ l ∷ take i us → all ≡ Call f terms → vars_after all [] ≡ vars_in us (vars_after l [])
bound_is f l all us terms i end is made = ap (λ t. vars_after t []) (made ∙ ap (Call f) (is ∙ ap (λ vs. l ∷ vs) (take_all i us end))) ∙ call_variables f l us
