use Rattle.std.proofs.Common.{ap}
use Rattle.ap_world.specs.World.{function_of}
use Rattle.ap_kernel.specs.declared.reductions.Inference.{Inference}
use Rattle.ap_rewrite.proofs.Simplified.{first_there, first_is, first_known, joins, closed_says}
use Rattle.ap_rewrite.proofs.simplifying.close.Goals as goal

pub first_left-requires : goal.first_left-requires
first_left-requires c = first_there c.args.q.says.to c.requires.holds.literals c.requires.holds.one

pub tidy-requires-clause-clause : goal.tidy-requires-clause-clause
tidy-requires-clause-clause c =
    first_known (function_of c.args.w.now.entries) c.args.q.says.to c.requires.holds.literals c.in_ok-c.c c.requires.holds.one c.in_ok-c.ensures c.requires.stands.says.goals

pub then-requires-clause-one : goal.then-requires-clause-one
then-requires-clause-one c =
    joins c.args.q.says.to c.requires.holds.literals c.in_ok-c.c c.in_ok-none.none.says.from c.requires.holds.one
    (first_is c.args.q.says.to c.requires.holds.literals c.in_ok-c.c c.requires.holds.one c.in_ok-c.ensures) (ap (λ (x : Inference). x.from) c.in_ok-none.ensures.made)

pub returns-clause-made : goal.returns-clause-made
returns-clause-made c =
    closed_says c.args.q.says c.requires.holds.literals c.in_ok-c.c c.in_ok-none.none.says c.in_ok-closed.closed.says
    (first_is c.args.q.says.to c.requires.holds.literals c.in_ok-c.c c.requires.holds.one c.in_ok-c.ensures) c.requires.holds.holds c.in_ok-none.ensures.made c.in_ok-closed.ensures.made
