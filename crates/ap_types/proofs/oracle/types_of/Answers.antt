use Rattle.std.proofs.Common.{◌≡◌, rules}
use Rattle.ap_world.specs.Typing.{types}
use Rattle.ap_types.proofs.KeptHolds.{types_mask}
use Rattle.ap_types.proofs.oracle.types_of.Goals as goal

pub returns-clause-holds : goal.returns-clause-holds
returns-clause-holds c =
    let e : c.in_ok-types_at.field-0 ≡ types c.args.w.now c.args.ctx.now.0 c.args.t.now = search rules in
    rw e (types_mask c.args.w.now c.recall_sound.ensures c.requires.ground c.args.ctx.now.0 c.args.t.now c.requires.facts c.requires.term)
