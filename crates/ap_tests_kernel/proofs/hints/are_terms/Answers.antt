use Rattle.std.proofs.Common.{rules}
use Rattle.ap_hints.specs.Known.{KnownTerm}
use Rattle.ap_tests_kernel.proofs.Rests.{each_next}
use Rattle.ap_tests_kernel.proofs.hints.are_terms.Goals as goal

pub loop-t-preserved : goal.loop-t-preserved
loop-t-preserved c = λ rest.
    let this : KnownTerm c.args.w.now.entries c.t-item.result = search rules in
    c.loop-t.invariant (each_next (KnownTerm c.args.w.now.entries) c.args.ts.now c.loop-t.t-index c.t-item.result c.loop-t-test.true c.t-item.is this rest)
