use Rattle.std.proofs.Common.{◌≡◌, ◌<◌, ◌≤◌, ◌∷◌, [], length, refl, rules}
use Rattle.ap_world.specs.World.{function_of}
use Rattle.ap_world.specs.Units.{calls_run}
use Rattle.ap_eval.specs.Answers.{assigned}
use Rattle.ap_eval.proofs.Runs.{three_terms}
use Rattle.ap_eval.proofs.Steps.{test_step, few_chosen, many_chosen}
use Rattle.ap_eval.proofs.running.enter_if.Goals.{in_default-via-then-terms-lt3, in_default-via-else-terms-lt3+else-terms-lt4}
use Rattle.ap_eval.proofs.running.enter_if.Goals as goal

pub returns-in-len3-clause-follows : goal.returns-in-len3-clause-follows
returns-in-len3-clause-follows c =
    let few : length c.args.terms.now < 4 = search rules in
    let many : 3 ≤ length c.args.terms.now = search rules in
    let terms : c.args.terms.now ≡ c.test-item.result ∷ c.yes-item.result ∷ c.no-item.result ∷ [] = three_terms c.args.terms.now _ _ _ many few c.test-item.is c.yes-item.is c.no-item.is in
    test_step (function_of c.args.w.now.entries) c.args.machine.frames c.push.new.self _ c.test-item.result c.yes-item.result c.no-item.result c.args.terms.now (assigned c.args.machine.bindings) c.args.machine.depth c.args.machine.units
    c.in_ok-push-in-len3.ensures.ok terms refl

pub returns-clause-follows : goal.returns-clause-follows
returns-clause-follows c = elim c.in_default.branch [
  | in_default-via-then-terms-lt3 w ↦ few_chosen (calls_run c.args.machine.depth (function_of c.args.w.now.entries)) c.args.terms.now (assigned c.args.machine.bindings) c.args.machine.units (search rules)
  | in_default-via-else-terms-lt3+else-terms-lt4 w ↦ many_chosen (calls_run c.args.machine.depth (function_of c.args.w.now.entries)) c.args.terms.now (assigned c.args.machine.bindings) c.args.machine.units (search rules)
]
