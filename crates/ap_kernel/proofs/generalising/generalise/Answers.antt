use Rattle.std.proofs.Common.{rules}
use Rattle.ap_world.specs.World.{function_of}
use Rattle.ap_kernel.proofs.Generalised.{generalised_follows}
use Rattle.ap_kernel.proofs.Derived.{reduces_by}
use Rattle.ap_kernel.proofs.DerivedClauses.{generalise_derived}
use Rattle.ap_kernel.proofs.generalising.generalise.Goals as goal

pub returns-clause-stands : goal.returns-clause-stands
returns-clause-stands c =
    reduces_by c.args.w.now c.in_ok-answer.answer _ _ (search rules)
    (generalise_derived c.args.w.now c.args.c c.args.t.now c.args.v c.args.mask c.requires.clause c.requires.term c.requires.exact c.requires.new)
    (generalised_follows (function_of c.args.w.now.entries) c.recall_sound.ensures.total c.requires.functions c.args.c c.args.t.now c.args.v c.args.mask
    c.requires.clause c.requires.term c.requires.mask c.requires.new)
