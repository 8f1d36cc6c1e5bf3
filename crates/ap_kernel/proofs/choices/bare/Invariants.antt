use Rattle.std.proofs.Common.{◌≡◌, cond, not}
use Rattle.ap_term.specs.Terms.{term_size}
use Rattle.ap_kernel.specs.Choices.{bare}
use Rattle.ap_kernel.proofs.choices.bare.Given as goal

abbrev pub invariant-loop-a : goal.invariant-loop-a
invariant-loop-a l = record {
  term : (bare l.rest).0 ≡ (bare l.fn.t).0;
  odd : cond l.odd (not (bare l.rest).1) (bare l.rest).1 ≡ (bare l.fn.t).1;
}

abbrev pub decreases-loop-a : goal.decreases-loop-a
decreases-loop-a l = term_size l.rest
