-- The functions and the rules that the rows of their tables write.
use Rattle.std.specs.Prelude.{List, [], ◌∷◌, map, Option, Some, None}
use Rattle.ap_value.specs.Values.{acl2}
use Rattle.ap_world.specs.Names.{x_name}
use Rattle.ap_world.specs.Recursion.{count_of}
use Rattle.ap_world.specs.Ground.{rule, not_function, implies_function, iff_function, atom_function, endp_function, null_function, eq_function, eql_function, numeric_equal_function, acl2_numberp_function, rationalp_function, booleanp_function, fix_function, ifix_function, natp_function, posp_function, nfix_function, zp_function, zip_function, zerop_function, plusp_function, minusp_function, max_function, min_function, abs_function, integer_abs_function, true_listp_function, len_function, length_function, acl2_count_function, append_function, member_equal_function, make_character_list_function}
use Rattle.ap_world.specs.declared.entry.Case.{Case}
use Rattle.ap_world.specs.declared.entry.Measure.{Measure}
use Rattle.ap_world.specs.declared.entry.Function.{Function}
use Rattle.ap_world.specs.declared.entry.Theorem.{Theorem}
use Rattle.ap_ground.specs.declared.rows.CaseRow.{CaseRow}
use Rattle.ap_ground.specs.declared.rows.Row.{Row}
use Rattle.ap_ground.specs.declared.rows.RuleRow.{RuleRow}
use Rattle.ap_ground.specs.Written.{term_of}

abbrev pub case_made : CaseRow → Case
case_made k = record { tests = map (λ ws. term_of ws.now) k.tests.now; calls = map (λ c. map (λ ws. term_of ws.now) c.now) k.calls.now }

-- a function that has cases calls itself, and has the measure (acl2-count x)
abbrev pub measure_made : List CaseRow → Option Measure
measure_made [] = None
measure_made (k ∷ ks) = Some (record { 0 = count_of x_name ∷ [] })

abbrev pub function_made : Row → Function
function_made r = record {
  name = acl2 r.name.now;
  formals = map (λ n. acl2 n.now) r.formals.now;
  body = term_of r.body.now;
  measure = measure_made r.cases.now;
  cases = map case_made r.cases.now;
  mask = record { 0 = r.mask };
}

abbrev pub rule_made : RuleRow → Theorem
rule_made r = rule (acl2 r.name.now) (term_of r.term.now) r.class

-- the functions of the ground world, in four parts
abbrev pub truths_and_equality : List Function
truths_and_equality =
    not_function ∷ implies_function ∷ iff_function ∷ atom_function ∷ endp_function ∷ null_function ∷ eq_function ∷ eql_function ∷ []

abbrev pub recognisers : List Function
recognisers =
    numeric_equal_function ∷ acl2_numberp_function ∷ rationalp_function ∷ booleanp_function
    ∷ fix_function ∷ ifix_function ∷ natp_function ∷ posp_function ∷ []

abbrev pub comparisons : List Function
comparisons =
    nfix_function ∷ zp_function ∷ zip_function ∷ zerop_function ∷ plusp_function ∷ minusp_function
    ∷ max_function ∷ min_function ∷ abs_function ∷ integer_abs_function ∷ []

abbrev pub lists : List Function
lists =
    true_listp_function ∷ len_function ∷ length_function ∷ acl2_count_function
    ∷ append_function ∷ member_equal_function ∷ make_character_list_function ∷ []
