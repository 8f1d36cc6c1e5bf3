use Rattle.std.proofs.Common.{refl, rules}
use Rattle.ap_world.specs.World.{function_of}
use Rattle.ap_kernel.specs.Answers.{refl_made}
use Rattle.ap_kernel.proofs.Standing.{refl_stands}
use Rattle.ap_kernel.proofs.Derived.{stands_same}
use Rattle.ap_kernel.proofs.plain.refl.Goals as goal

pub returns-clause-stands : goal.returns-clause-stands
returns-clause-stands c =
    stands_same c.args.w.now c.in_ok-answer.answer (refl_made c.args.ctx.now c.args.mode c.args.t.now) (search rules) c.in_ok-answer.ensures.why refl
    (refl_stands (function_of c.args.w.now.entries) c.recall_sound.ensures.total c.args.ctx.now c.args.mode c.args.t.now c.requires.facts c.requires.term)
