-- Where an `if` leads: to the branch that a constant test chooses, or to its simplest shape.
use Rattle.std.specs.Prelude.{Bool, true, false, cond, not, ◌&&◌, nat_eq, bit_and}
use Rattle.ap_value.specs.Values.{val_of, value_eq}
use Rattle.ap_term.specs.declared.term.Term.{Term, para-Term}
use Rattle.ap_term.specs.declared.term.Term.TheOpen.{Term-F}
use Rattle.ap_term.specs.Equal.{term_eq}
use Rattle.ap_world.specs.declared.entry.Mask.{Mask}
use Rattle.ap_world.specs.Kinds.{without}
use Rattle.ap_world.specs.Primitives.{nil, t}
use Rattle.ap_world.specs.Types.{truths}
use Rattle.ap_world.specs.Clauses.{not_of}
use Rattle.ap_world.specs.Shapes.{Shape, constant, choice, negation, layer_shape, shape_of, is_constant}
use Rattle.ap_world.specs.Assume.{whole}
use Rattle.ap_kernel.specs.declared.objects.Ctx.{Ctx}
use Rattle.ap_kernel.specs.declared.objects.Mode.{Mode}
use Rattle.ap_kernel.specs.declared.objects.Mode.TheVariants.{Equal, Iff}
use Rattle.ap_kernel.specs.declared.objects.Sequent.{Sequent}
use Rattle.ap_kernel.specs.declared.choices.Chosen.{Chosen}
use Rattle.ap_kernel.specs.declared.choices.Chosen.TheVariants as lent
use Rattle.ap_kernel.specs.Saying.{if_of}

-- a term without the calls of `not` around it, and whether their number is odd
abbrev pub bare_by : Term → Shape (Term × (Term × Bool)) → Term × Bool
bare_by u (negation p) = (p.1.0, not p.1.1)
bare_by u y = (u, false)

abbrev pub bare_step : Term-F (Term × (Term × Bool)) → Term × Bool
bare_step y = bare_by (whole y) (layer_shape y)

abbrev pub bare : Term → Term × Bool
bare = para-Term (Term × Bool) bare_step

-- the test of an `if` without the calls of `not` around it; of another term the term itself
abbrev pub test_by : Term → Shape Term → Term
test_by u (choice a b c) = (bare a).0
test_by u y = u

abbrev pub bare_test : Term → Term
bare_test u = test_by u (shape_of u)

-- a constant that means t
abbrev pub means_t : Shape Term → Bool
means_t (constant v) = value_eq (val_of v) t
means_t y = false

abbrev pub is_t_constant : Term → Bool
is_t_constant u = means_t (shape_of u)

-- only whether the value is nil counts, or no value but t and nil is in the mask
abbrev pub is_truth : Mode → Mask → Bool
is_truth Iff m = true
is_truth Equal m = nat_eq (bit_and m.0 (without truths.0)) 0

-- an `if` whose test is no call of `not`: the test where the branches are 'T and 'NIL and the test's value
-- is as good as a truth, its negation where they are 'NIL and 'T, else the `if`
abbrev pub by_branches : Bool → Term → Term → Term → Term
by_branches k a b c =
    cond (k && (is_t_constant b && is_constant false c)) a
    (cond (is_constant false b && is_t_constant c) (not_of a) (if_of a b c))

-- the branches exchanged where the number of calls of `not` is odd
abbrev pub by_test : Bool → Term × Bool → Term → Term → Term
by_test k p b c = cond p.1 (by_branches k p.0 c b) (by_branches k p.0 b c)

-- one branch where both are one term
abbrev pub if_shape : Bool → Term → Term → Term → Term
if_shape k a b c = cond (term_eq b c) b (by_test k (bare a) b c)

-- the branch that a constant test chooses, else the shape
abbrev pub by_constant : Bool → Shape Term → Term → Term → Term → Term
by_constant k (constant v) a b c = cond (value_eq (val_of v) nil) c b
by_constant k y a b c = if_shape k a b c

-- where an `if` leads; another term leads to itself
abbrev pub choice_leads : Bool → Term → Shape Term → Term
choice_leads k u (choice a b c) = by_constant k (shape_of a) a b c
choice_leads k u y = u

abbrev pub is_choice : Shape Term → Bool
is_choice (choice a b c) = true
is_choice y = false

abbrev pub choice_made : Ctx → Mode → Term → Mask → Sequent
choice_made c o u m = record { ctx = c; mode = o; lhs = u; rhs = choice_leads (is_truth o m) u (shape_of u) }

-- two calls of `not` taken off
abbrev pub double_not_made : Ctx → Mode → Term → Sequent
double_not_made c o z = record { ctx = c; mode = o; lhs = not_of (not_of z); rhs = z }

-- where it leads, as it is lent
abbrev pub seen_chosen : Chosen → Term
seen_chosen (lent.One a) = a.now
seen_chosen (lent.Not a) = not_of a.now
seen_chosen (lent.If a b c) = if_of a.now b.now c.now
