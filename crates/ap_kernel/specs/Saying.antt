-- What each row's answer says.
use Rattle.std.specs.Prelude.{Bool, true, false, cond, List, [], ◌∷◌, map, is_none}
use Rattle.ap_list.specs.Lists.{all_true}
use Rattle.ap_value.specs.declared.symbol.Symbol.{Symbol}
use Rattle.ap_term.specs.declared.term.Term.{Term, Call}
use Rattle.ap_world.specs.Names.{if_name}
use Rattle.ap_kernel.specs.declared.objects.Ctx.{Ctx}
use Rattle.ap_kernel.specs.declared.objects.Mode.{Mode}
use Rattle.ap_kernel.specs.declared.objects.Mode.TheVariants.{Equal, Iff}
use Rattle.ap_kernel.specs.declared.objects.Sequent.{Sequent}
use Rattle.ap_kernel.specs.declared.objects.Equiv.{Equiv}
use Rattle.ap_world.specs.Recursion.{nil_constant, t_constant}

-- (if a b c)
abbrev pub if_of : Term → Term → Term → Term
if_of a b c = Call if_name (a ∷ b ∷ c ∷ [])

-- a term and itself
abbrev pub refl_made : Ctx → Mode → Term → Sequent
refl_made c m u = record { ctx = c; mode = m; lhs = u; rhs = u }

-- the left side of the first and the right side of the second
abbrev pub trans_made : Sequent → Sequent → Sequent
trans_made a b = record { ctx = a.ctx; mode = a.mode; lhs = a.lhs; rhs = b.rhs }

-- the same sides under `iff`
abbrev pub weakened : Sequent → Sequent
weakened a = record { ctx = a.ctx; mode = Iff; lhs = a.lhs; rhs = a.rhs }

-- the `if` of the left sides and the `if` of the right sides, under the test's facts
abbrev pub branch_made : Mode → Sequent → Sequent → Sequent → Sequent
branch_made m test on off = record { ctx = test.ctx; mode = m; lhs = if_of test.lhs on.lhs off.lhs; rhs = if_of test.rhs on.rhs off.rhs }

-- the `if` of a test's left side and two branches, and the branch of the sign, under the test's facts
abbrev pub chosen_made : Mode → Sequent → Bool → Term → Term → Sequent
chosen_made m test s b c = record { ctx = test.ctx; mode = m; lhs = if_of test.lhs b c; rhs = cond s b c }

-- what each of a list says
abbrev pub said : List Equiv → List Sequent
said qs = map (λ (q : Equiv). q.says) qs

abbrev pub lefts : List Sequent → List Term
lefts ss = map (λ (s : Sequent). s.lhs) ss

abbrev pub rights : List Sequent → List Term
rights ss = map (λ (s : Sequent). s.rhs) ss

-- the two sides are known to be one term: nothing is kept of how it was made
abbrev pub is_unchanged : Equiv → Bool
is_unchanged q = is_none q.why

-- of each of a list
abbrev pub are_unchanged : List Equiv → Bool
are_unchanged qs = all_true (map is_unchanged qs)

-- the call of f on the left sides and the call of f on the right sides
abbrev pub cong_made : Ctx → Symbol → List Sequent → Sequent
cong_made c f ss = record { ctx = c; mode = Equal; lhs = Call f (lefts ss); rhs = Call f (rights ss) }

-- a true fact's term leads under iff to 'T, a false fact's under equality to 'NIL
abbrev pub fact_made : Ctx → Term → Bool → Sequent
fact_made c u true = record { ctx = c; mode = Iff; lhs = u; rhs = t_constant }
fact_made c u false = record { ctx = c; mode = Equal; lhs = u; rhs = nil_constant }
