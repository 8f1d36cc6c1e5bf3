use Rattle.std.proofs.Common.{sym, subst}
use Rattle.ap_world.specs.World.{function_of}
use Rattle.ap_kernel.specs.Linear.{PolysHold}
use Rattle.ap_rewrite.proofs.Bounded.{first_hold}
use Rattle.ap_rewrite.proofs.Begun.{first_given}
use Rattle.ap_rewrite.proofs.refuting.refute.Goals as goal

pub by_certificate-requires-clause-polys : goal.by_certificate-requires-clause-polys
by_certificate-requires-clause-polys g c =
    subst (PolysHold (function_of c.args.w.now.entries) c.args.ctx.now c.args.t.now c.args.sign) (sym c.truncate.ensures)
    (first_hold (function_of c.args.w.now.entries) c.args.ctx.now c.args.t.now c.args.sign c.args.polys c.requires.polys)

pub by_certificate-requires-clause-reasons : goal.by_certificate-requires-clause-reasons
by_certificate-requires-clause-reasons g c =
    first_given c.args.w.now c.args.ctx.now c.args.t.now c.args.sign 32 c.args.polys _ c.args.whys _ c.truncate.ensures c.truncate-2.ensures c.requires.reasons
