-- Where an equation leads: by its sides, by a fact on the equation turned round, or part by part.
use Rattle.std.specs.Prelude.{Bool, true, false, cond, [], ◌∷◌, Option, Some, None}
use Rattle.ap_list.specs.Lists.{lookup_by}
use Rattle.ap_value.specs.declared.value.Value.{Value, out-Value}
use Rattle.ap_value.specs.declared.value.Value.TheOpen.{Value-F}
use Rattle.ap_term.specs.declared.term.Term.{Term, Quote, Call}
use Rattle.ap_term.specs.Equal.{term_eq}
use Rattle.ap_world.specs.Names.{equal_name}
use Rattle.ap_world.specs.Recursion.{nil_constant, t_constant}
use Rattle.ap_world.specs.Facts.{Facts}
use Rattle.ap_world.specs.Shapes.{Shape, constant, equation, pair, shape_of}
use Rattle.ap_kernel.specs.declared.objects.Ctx.{Ctx}
use Rattle.ap_kernel.specs.declared.objects.Mode.TheVariants.{Equal}
use Rattle.ap_kernel.specs.declared.objects.Sequent.{Sequent}
use Rattle.ap_kernel.specs.declared.equations.Parts.{Parts}
use Rattle.ap_kernel.specs.declared.equations.Parts.TheVariants as part
use Rattle.ap_kernel.specs.declared.equations.Leads.{Leads}
use Rattle.ap_kernel.specs.declared.equations.Leads.TheVariants as lead
use Rattle.ap_kernel.specs.Saying.{if_of}

-- (equal a b)
abbrev pub equal_of : Term → Term → Term
equal_of a b = Call equal_name (a ∷ b ∷ [])

-- 'T or 'NIL
abbrev pub truth_constant : Bool → Term
truth_constant true = t_constant
truth_constant false = nil_constant

-- the two parts of a constant that is a cons, as constants
abbrev pub constant_parts : Value-F Value → Option (Term × Term)
constant_parts (Value-F.Cons a b) = Some (Quote a, Quote b)
constant_parts y = None

-- the two parts of a cons: of a call of `cons`, or of a constant
abbrev pub parts_by : Shape Term → Option (Term × Term)
parts_by (pair a b) = Some (a, b)
parts_by (constant v) = constant_parts (out-Value v)
parts_by y = None

abbrev pub cons_parts : Term → Option (Term × Term)
cons_parts u = parts_by (shape_of u)

-- two conses are equal where their first parts are, and their second parts
abbrev pub apart : Term × Term → Term × Term → Term
apart p q = if_of (equal_of p.0 q.0) (equal_of p.1 q.1) nil_constant

abbrev pub both_apart : Option (Term × Term) → Option (Term × Term) → Option Term
both_apart (Some p) (Some q) = Some (apart p q)
both_apart o r = None

-- a sign that is known decides
abbrev pub by_sign : Option Bool → Option Term → Option Term
by_sign (Some s) next = Some (truth_constant s)
by_sign None next = next

-- (equal a b) leads to 'T where a and b are one term; else to what the first fact on (equal b a) says; else,
-- where both are conses, to the equation of their parts
abbrev pub sides_lead : Facts → Term → Term → Option Term
sides_lead fs a b = cond (term_eq a b) (Some t_constant) (by_sign (lookup_by term_eq fs (equal_of b a)) (both_apart (cons_parts a) (cons_parts b)))

abbrev pub shape_leads : Facts → Shape Term → Option Term
shape_leads fs (equation a b) = sides_lead fs a b
shape_leads fs y = None

-- where a term leads, if it is such an equation
abbrev pub equation_leads : Facts → Term → Option Term
equation_leads fs u = shape_leads fs (shape_of u)

abbrev pub equation_made : Ctx → Term → Term → Sequent
equation_made c u r = record { ctx = c; mode = Equal; lhs = u; rhs = r }

-- the parts that are lent
abbrev pub seen_parts : Parts → Term × Term
seen_parts (part.Terms a b) = (a.now, b.now)
seen_parts (part.Constants a b) = (Quote a.now, Quote b.now)

-- where the equation leads, as it is lent
abbrev pub seen_leads : Leads → Term
seen_leads (lead.Truth s) = truth_constant s
seen_leads (lead.Apart p q) = apart (seen_parts p) (seen_parts q)
