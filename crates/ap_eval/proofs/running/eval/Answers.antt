use Rattle.std.proofs.Common.{ℕ, rules}
use Rattle.ap_world.specs.World.{function_of}
use Rattle.ap_world.specs.Units.{metered}
use Rattle.ap_eval.specs.Answers.{Answers}
use Rattle.ap_eval.proofs.Meant.{answers_mean}
use Rattle.ap_eval.proofs.running.eval.Goals as goal

pub returns-clause-meant : goal.returns-clause-meant
returns-clause-meant c =
    let is : (left : ℕ) × Answers c.run_state.result left (metered (function_of c.args.w.now.entries) c.args.t.now c.args.env.now.0 c.args.units) = search rules in
    answers_mean (function_of c.args.w.now.entries) c.args.t.now c.args.env.now.0 c.args.units is.0 c.run_state.result is.1
