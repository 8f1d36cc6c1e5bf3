use Rattle.std.proofs.Common.{ap}
use Rattle.ap_world.specs.World.{function_of}
use Rattle.ap_kernel.specs.declared.reductions.Inference.{Inference}
use Rattle.ap_rewrite.proofs.Simplified.{first_there, first_is, first_known, joins}
use Rattle.ap_rewrite.proofs.Advanced.{put_says}
use Rattle.ap_rewrite.proofs.simplifying.with_literal.Goals as goal

pub first_left-requires : goal.first_left-requires
first_left-requires c = first_there c.args.so_far.says.to c.requires.place.literals c.requires.place.one

pub rewrite_literal-requires-clause-clause : goal.rewrite_literal-requires-clause-clause
rewrite_literal-requires-clause-clause c =
    first_known (function_of c.args.w.now.entries) c.args.so_far.says.to c.requires.place.literals c.in_ok-c.c c.requires.place.one c.in_ok-c.ensures c.requires.stands.says.goals

pub rewrite_literal-requires-clause-place : goal.rewrite_literal-requires-clause-place
rewrite_literal-requires-clause-place c =
    let same = first_is c.args.so_far.says.to c.requires.place.literals c.in_ok-c.c c.requires.place.one c.in_ok-c.ensures in
    rw (← same) (c.requires.fits.here c.requires.place.literals c.requires.place.one)

pub rewrite_literal-requires-clause-facts : goal.rewrite_literal-requires-clause-facts
rewrite_literal-requires-clause-facts c =
    let same = first_is c.args.so_far.says.to c.requires.place.literals c.in_ok-c.c c.requires.place.one c.in_ok-c.ensures in
    rw (← same) (c.requires.fits.facts c.requires.place.literals c.requires.place.one)

pub then-requires-clause-one : goal.then-requires-clause-one
then-requires-clause-one c =
    joins c.args.so_far.says.to c.requires.place.literals c.in_ok-c.c c.in_ok-next.next.says.from c.requires.place.one
    (first_is c.args.so_far.says.to c.requires.place.literals c.in_ok-c.c c.requires.place.one c.in_ok-c.ensures)
    (ap (λ (x : Inference). x.from) c.in_ok-next.ensures.made)

pub returns-clause-made : goal.returns-clause-made
returns-clause-made c = λ us to.
    put_says c.args.so_far.says c.in_ok-next.next.says c.in_ok-both.both.says c.in_ok-c.c us c.args.place c.args.q.says.rhs
    (first_is c.args.so_far.says.to us c.in_ok-c.c to c.in_ok-c.ensures) c.in_ok-next.ensures.made c.in_ok-both.ensures.made
