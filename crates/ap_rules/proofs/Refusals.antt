-- A theorem's rules are refused exactly where one of them isn't a rule.
use Rattle.std.proofs.Common.{◌≡◌, Bool, true, false, cond, not, ◌&&◌, List, [], ◌∷◌, map, Option, Some, None, ◌⊎◌, inl, inr, refl, sym, ap, ◌∙◌}
use Rattle.ap_list.specs.Lists.{Each, all_true, is_within}
use Rattle.ap_value.specs.declared.symbol.Symbol.{Symbol}
use Rattle.ap_value.specs.Values.{symbol_eq}
use Rattle.ap_term.specs.declared.term.Term.{Term, out-Term}
use Rattle.ap_term.specs.declared.term.Term.TheOpen.{Term-F}
use Rattle.ap_term.specs.Terms.{vars_after}
use Rattle.ap_world.specs.Names.{if_name}
use Rattle.ap_world.specs.declared.entry.RuleClass.{RuleClass}
use Rattle.ap_world.specs.declared.entry.Entry.TheVariants as entry
use Rattle.ap_world.specs.Rules.{Rule, is_left, vars_in, is_rule, sound_rules, rewrites, rules_of_term, rules_in_entry}
use Rattle.ap_rules.specs.declared.rule.RewriteRule.{RewriteRule}
use Rattle.ap_rules.specs.declared.refusing.RuleError.{RuleError}
use Rattle.ap_rules.specs.declared.refusing.RuleError.TheVariants.{LhsConstant, FreeInRhs}
use Rattle.ap_rules.specs.Made.{rule_in}
use Rattle.ap_rules.specs.Refused.{or_else, first_refusal, left_refusal, right_refusal, rule_refusal, asked_rules}

or_none : (o p : Option RuleError) → or_else o p ≡ None → (o ≡ None) × (p ≡ None)
or_none None p h = (refl, h)
or_none (Some e) p h = absurd (cc h)

or_some : (o p : Option RuleError) (e : RuleError) → or_else o p ≡ Some e → (o ≡ Some e) ⊎ ((o ≡ None) × (p ≡ Some e))
or_some None p e h = inr (refl, h)
or_some (Some d) p e h = inl h

left_none : (y : Term-F Term) → left_refusal y ≡ None → is_left y ≡ true
left_none (Term-F.Var x) h = absurd (cc h)
left_none (Term-F.Quote v) h = absurd (cc h)
left_none (Term-F.Call f ts) h = go (symbol_eq f if_name) h
  where
    go : (b : Bool) → cond b (Some LhsConstant) None ≡ None → not b ≡ true
    go true k = absurd (cc k)
    go false k = refl

left_some : (y : Term-F Term) (e : RuleError) → left_refusal y ≡ Some e → is_left y ≡ false
left_some (Term-F.Var x) e h = refl
left_some (Term-F.Quote v) e h = refl
left_some (Term-F.Call f ts) e h = go (symbol_eq f if_name) h
  where
    go : (b : Bool) → cond b (Some LhsConstant) None ≡ Some e → not b ≡ false
    go true k = refl
    go false k = absurd (cc k)

free_none : (b : Bool) → cond b None (Some FreeInRhs) ≡ None → b ≡ true
free_none true h = refl
free_none false h = absurd (cc h)

free_some : (b : Bool) (e : RuleError) → cond b None (Some FreeInRhs) ≡ Some e → b ≡ false
free_some true e h = absurd (cc h)
free_some false e h = refl

both : (a b : Bool) → a ≡ true → b ≡ true → (a && b) ≡ true
both a b h k = ap (λ x. x && b) h ∙ k

abbrev is_bound : Rule → Bool
is_bound r = is_within symbol_eq (vars_after r.rhs []) (vars_in r.hyps (vars_after r.lhs []))

passes : (r : Rule) → rule_refusal r ≡ None → is_rule r ≡ true
passes r h =
    let p = or_none (left_refusal (out-Term r.lhs)) (right_refusal r) h in
    both (is_left (out-Term r.lhs)) (is_bound r) (left_none (out-Term r.lhs) p.0) (free_none (is_bound r) p.1)

fails : (r : Rule) (e : RuleError) → rule_refusal r ≡ Some e → is_rule r ≡ false
fails r e h = go (or_some (left_refusal (out-Term r.lhs)) (right_refusal r) e h)
  where
    go : (left_refusal (out-Term r.lhs) ≡ Some e) ⊎ ((left_refusal (out-Term r.lhs) ≡ None) × (right_refusal r ≡ Some e)) → is_rule r ≡ false
    go (inl l) = ap (λ x. x && is_bound r) (left_some (out-Term r.lhs) e l)
    go (inr p) = ap (λ x. x && is_bound r) (left_none (out-Term r.lhs) p.0) ∙ free_some (is_bound r) e p.1

all_pass : (rs : List Rule) → first_refusal rule_refusal rs ≡ None → all_true (map is_rule rs) ≡ true
all_pass [] h = refl
all_pass (r ∷ rs) h =
    let p = or_none (rule_refusal r) (first_refusal rule_refusal rs) h in
    both (is_rule r) (all_true (map is_rule rs)) (passes r p.0) (all_pass rs p.1)

one_fails : (rs : List Rule) (e : RuleError) → first_refusal rule_refusal rs ≡ Some e → all_true (map is_rule rs) ≡ false
one_fails [] e h = absurd (cc h)
one_fails (r ∷ rs) e h = go (one_fails rs e) (or_some (rule_refusal r) (first_refusal rule_refusal rs) e h)
  where
    go : (first_refusal rule_refusal rs ≡ Some e → all_true (map is_rule rs) ≡ false)
        → (rule_refusal r ≡ Some e) ⊎ ((rule_refusal r ≡ None) × (first_refusal rule_refusal rs ≡ Some e)) → all_true (map is_rule (r ∷ rs)) ≡ false
    go rest (inl l) = ap (λ x. x && all_true (map is_rule rs)) (fails r e l)
    go rest (inr p) = ap (λ x. x && all_true (map is_rule rs)) (passes r p.0) ∙ rest p.1

-- where none is refused all are rules
pub none_refused : (rs : List Rule) (o : Option RuleError) → o ≡ first_refusal rule_refusal rs → o ≡ None → sound_rules rs ≡ rs
none_refused rs o is none = ap (λ b. cond b rs []) (all_pass rs (sym is ∙ none))

-- where one is refused there are none
pub one_refused : (rs : List Rule) (o : Option RuleError) (e : RuleError) → o ≡ first_refusal rule_refusal rs → o ≡ Some e → sound_rules rs ≡ []
one_refused rs o e is some = ap (λ b. cond b rs []) (one_fails rs e (sym is ∙ some))

abbrev pub AreLeft : List RewriteRule → Type 0
AreLeft gs = Each (λ g. is_left (out-Term g.lhs) ≡ true) gs

left_alone : (gs : List RewriteRule) → first_refusal rule_refusal (map rule_in gs) ≡ None → AreLeft gs
left_alone [] h = tt
left_alone (g ∷ gs) h =
    let p = or_none (rule_refusal (rule_in g)) (first_refusal rule_refusal (map rule_in gs)) h in
    (left_none (out-Term g.lhs) (or_none (left_refusal (out-Term g.lhs)) (right_refusal (rule_in g)) p.0).0, left_alone gs p.1)

pub all_left : (gs : List RewriteRule) (o : Option RuleError) → o ≡ first_refusal rule_refusal (map rule_in gs) → o ≡ None → AreLeft gs
all_left gs o is none = left_alone gs (sym is ∙ none)

-- a theorem's rules are those that it asks for, where none of them is refused
pub asked_sound : (name : Symbol) (u : Term) (cs : List RuleClass) → rules_in_entry (entry.Theorem (record { name = name; term = u; classes = cs })) ≡ sound_rules (asked_rules name u cs)
asked_sound name u cs = go (rewrites cs)
  where
    go : (b : Bool) → cond b (sound_rules (rules_of_term name u)) [] ≡ sound_rules (cond b (rules_of_term name u) [])
    go true = refl
    go false = refl

pub asked_made : (gs : List Rule) (name : Symbol) (u : Term) (cs : List RuleClass) (o p : Option RuleError) → gs ≡ asked_rules name u cs → o ≡ or_else (first_refusal rule_refusal gs) p → o ≡ None
    → gs ≡ rules_in_entry (entry.Theorem (record { name = name; term = u; classes = cs }))
asked_made gs name u cs o p asked is none =
    sym (none_refused gs (first_refusal rule_refusal gs) refl (or_none (first_refusal rule_refusal gs) p (sym is ∙ none)).0)
    ∙ ap sound_rules asked ∙ sym (asked_sound name u cs)
