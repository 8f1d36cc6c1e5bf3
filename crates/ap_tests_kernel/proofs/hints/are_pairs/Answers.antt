use Rattle.std.proofs.Common.{rules, ◌≡◌, true}
use Rattle.ap_value.specs.declared.symbol.Symbol.{Symbol}
use Rattle.ap_term.specs.declared.term.Term.{Term}
use Rattle.ap_world.specs.Sound.{known}
use Rattle.ap_world.specs.World.{function_of}
use Rattle.ap_tests_kernel.proofs.Rests.{each_next}
use Rattle.ap_tests_kernel.proofs.hints.are_pairs.Goals as goal

pub loop-t-preserved : goal.loop-t-preserved
loop-t-preserved c = λ rest.
    let this : known (function_of c.args.w.now.entries) c.loop-t-item.result.1 ≡ true = search rules in
    c.loop-t.invariant (each_next (λ (p : Symbol × Term). known (function_of c.args.w.now.entries) p.1 ≡ true) c.args.pairs.now c.loop-t.t-index c.loop-t-item.result c.loop-t-test.true c.loop-t-item.is this rest)
