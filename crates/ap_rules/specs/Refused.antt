-- Why a theorem gives no rules of its classes.
use Rattle.std.specs.Prelude.{cond, List, [], ◌∷◌, Option, Some, None}
use Rattle.ap_list.specs.Lists.{is_within}
use Rattle.ap_value.specs.declared.symbol.Symbol.{Symbol}
use Rattle.ap_value.specs.Values.{symbol_eq}
use Rattle.ap_term.specs.declared.term.Term.{Term, out-Term}
use Rattle.ap_term.specs.declared.term.Term.TheOpen.{Term-F}
use Rattle.ap_term.specs.Terms.{vars_after}
use Rattle.ap_world.specs.declared.entry.RuleClass.{RuleClass}
use Rattle.ap_world.specs.Names.{if_name}
use Rattle.ap_world.specs.Clauses.{conjuncts}
use Rattle.ap_world.specs.Prescribing.{prescribes}
use Rattle.ap_world.specs.Rules.{Rule, stated, rules_of_term, vars_in, rewrites}
use Rattle.ap_rules.specs.Shapes.{is_linear, all_inequalities, is_type_form}
use Rattle.ap_rules.specs.declared.refusing.RuleError.{RuleError}
use Rattle.ap_rules.specs.declared.refusing.RuleError.TheVariants.{LhsVariable, LhsConstant, FreeInRhs, NotInequality, NotTypeForm}

-- the first of two
abbrev pub or_else : Option RuleError → Option RuleError → Option RuleError
or_else None o = o
or_else (Some e) o = Some e

-- the first that a test gives of a list
abbrev pub first_refusal : {A : Type 0} → (A → Option RuleError) → List A → Option RuleError
first_refusal test [] = None
first_refusal test (x ∷ xs) = or_else (test x) (first_refusal test xs)

-- a left side is a call, and not of `if`
abbrev pub left_refusal : Term-F Term → Option RuleError
left_refusal (Term-F.Var x) = Some LhsVariable
left_refusal (Term-F.Quote v) = Some LhsConstant
left_refusal (Term-F.Call f ts) = cond (symbol_eq f if_name) (Some LhsConstant) None

-- each variable of the right side is in the left side or in a hypothesis
abbrev pub right_refusal : Rule → Option RuleError
right_refusal r = cond (is_within symbol_eq (vars_after r.rhs []) (vars_in r.hyps (vars_after r.lhs []))) None (Some FreeInRhs)

abbrev pub rule_refusal : Rule → Option RuleError
rule_refusal r = or_else (left_refusal (out-Term r.lhs)) (right_refusal r)

-- the rewrite rules that a theorem asks for, whether or not they are refused
abbrev pub asked_rules : Symbol → Term → List RuleClass → List Rule
asked_rules name u cs = cond (rewrites cs) (rules_of_term name u) []

-- the conjuncts of a linear theorem are inequalities
abbrev pub linear_refusal : Term → List RuleClass → Option RuleError
linear_refusal u cs = cond (is_linear cs) (cond (all_inequalities (conjuncts (stated u).1)) None (Some NotInequality)) None

-- a type prescription is a recogniser on a call, without hypotheses
abbrev pub type_refusal : Term → List RuleClass → Option RuleError
type_refusal u cs = cond (prescribes cs) (cond (is_type_form (out-Term u)) None (Some NotTypeForm)) None

-- the rewrite rules are looked at first, a conjunct after another
abbrev pub refusal : Symbol → Term → List RuleClass → Option RuleError
refusal name u cs = or_else (first_refusal rule_refusal (asked_rules name u cs)) (or_else (linear_refusal u cs) (type_refusal u cs))
