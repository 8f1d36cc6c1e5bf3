use Rattle.std.proofs.Common.{rules, Bool, IsTrue}
use Rattle.ap_term.specs.declared.term.Term.{Term}
use Rattle.ap_world.specs.Sound.{known}
use Rattle.ap_world.specs.World.{function_of}
use Rattle.ap_tests_kernel.proofs.Rests.{each_next}
use Rattle.ap_tests_kernel.proofs.known.are_facts.Goals as goal

pub loop-t-preserved : goal.loop-t-preserved
loop-t-preserved c = λ rest.
    let this : IsTrue (known (function_of c.args.w.now.entries) c.loop-t-item.result.0) = search rules in
    c.loop-t.invariant (each_next (λ (f : Term × Bool). IsTrue (known (function_of c.args.w.now.entries) f.0)) c.args.facts.now c.loop-t.t-index c.loop-t-item.result c.loop-t-test.true c.loop-t-item.is this rest)
