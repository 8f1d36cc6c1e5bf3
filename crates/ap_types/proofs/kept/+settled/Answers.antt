use Rattle.std.proofs.Common.{◌≡◌, ◌-◌, sym}
use Rattle.ap_world.specs.KeptTypes.{body_types, settled}
use Rattle.ap_types.proofs.KeptHolds.{settled_next}
use Rattle.ap_types.proofs.kept.+settled.Goals as goal

pub returns : goal.returns
returns t c =
    let give = body_types c.args.w.now c.args.name.now c.args.body.now in
    let next : settled give c.args.rounds c.args.mask ≡ settled give (c.args.rounds - 1) c.in_ok-next.next =
    settled_next give c.args.rounds c.args.mask c.in_ok-next.next c.if-rounds-eq0.false (sym c.in_ok-next.ensures) c.if-next-mask.false in
    rw next c.settled.ensures
