use Rattle.std.proofs.Common.{rules}
use Rattle.ap_rewrite.proofs.Advanced.{unchanged_says, step_none, step_some}
use Rattle.ap_rewrite.proofs.simplifying.advance.Goals as goal

pub returns-in_default-clause-is : goal.returns-in_default-clause-is
returns-in_default-clause-is g c = λ us u to at. step_none _ _ ((rw c.in_default.is at c.in_ok-q.ensures.is) us u to at)

pub returns-then-is_unchanged-clause-is : goal.returns-then-is_unchanged-clause-is
returns-then-is_unchanged-clause-is g c = λ us u to at.
    step_some _ _ c.in-Some.q c.args.so_far _ ((rw c.in-Some.is at c.in_ok-q.ensures.is) us u to at)
    (unchanged_says c.args.r.now.w.now c.args.so_far.says us c.args.place c.in-Some.q to (rw c.in-Some.is at c.in_ok-q.ensures.stands) (search rules) (rw c.in-Some.is at c.in_ok-q.ensures.fits))

pub with_literal-requires-clause-leads : goal.with_literal-requires-clause-leads
with_literal-requires-clause-leads g c = rw c.in-Some.is at c.in_ok-q.ensures.stands

pub with_literal-requires-clause-fits : goal.with_literal-requires-clause-fits
with_literal-requires-clause-fits g c = rw c.in-Some.is at c.in_ok-q.ensures.fits

pub returns-clause-is : goal.returns-clause-is
returns-clause-is g c = λ us u to at.
    step_some _ _ c.in-Some.q c.in_ok-next.next _ ((rw c.in-Some.is at c.in_ok-q.ensures.is) us u to at) (c.in_ok-next.ensures.made us to)
