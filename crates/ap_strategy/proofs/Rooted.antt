-- The goal that an attempt starts from keeps what tasks keep.
use Rattle.std.proofs.Common.{◌≡◌, true, true≢false, IsTrue, refl, sym, subst, arith}
use Rattle.ap_list.specs.Lists.{Each}
use Rattle.ap_term.specs.declared.term.Term.{Term}
use Rattle.ap_term.specs.declared.term.Clause.{Clause}
use Rattle.ap_world.specs.Sound.{known, HasFunctions, Sound}
use Rattle.ap_hints.specs.Known.{KnownHints}
use Rattle.ap_clausify.specs.Flattening.{Clausifies}
use Rattle.ap_strategy.specs.declared.plan.Plan.{Plan}
use Rattle.ap_strategy.specs.declared.plan.Settings.{Settings}
use Rattle.ap_strategy.specs.Laws.{kernel_ground}
use Rattle.ap_kernel.specs.Reductions.{KnownClause}
use Rattle.ap_strategy.specs.Goals.{IsGoal, defs_of, first_settings, clause_goal}

pub clause_is_goal : (plan : Plan) (c : Clause) (s : Settings) → HasFunctions (defs_of plan) → KnownClause (defs_of plan) c → KnownHints plan.world.entries plan.hints → s ≡ first_settings plan
    → IsGoal (record (clause_goal plan c) { settings = s })
clause_is_goal plan c s functions c_known hints h = record {
  functions = functions;
  hints = hints;
  clause = c_known;
  expand = subst (λ (s : Settings). Each (λ u. IsTrue (known (defs_of plan) u)) s.expand) (sym h) tt;
  scheme = tt;
  depth = omega arith;
  primes = omega arith;
  induction = λ q. absurd (true≢false (sym q));
  others = λ q. refl;
}

-- the clause of a term of the world is known there
pub flat_known : (plan : Plan) (u : Term) (c : Clause) → Sound plan.world.entries → HasFunctions (defs_of plan) → known (defs_of plan) u ≡ true → Clausifies u c → KnownClause (defs_of plan) c
flat_known plan u c sound functions k stands = (stands plan.world.entries sound (kernel_ground (defs_of plan) functions) k).0
