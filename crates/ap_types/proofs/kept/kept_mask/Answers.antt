use Rattle.std.proofs.Common.{◌≡◌}
use Rattle.ap_world.specs.KeptTypes.{kept_types}
use Rattle.ap_types.proofs.KeptHolds.{plain_kept}
use Rattle.ap_types.proofs.kept.kept_mask.Goals as goal

pub returns-clause-holds : goal.returns-clause-holds
returns-clause-holds c =
    let is : c.in_ok-settled.field-0 ≡ kept_types c.args.w.now c.args.name.now c.args.body.now = c.in_ok-settled.ensures in
    λ ground fresh known e v value. rw is (plain_kept c.args.w.now c.args.name.now c.args.body.now c.recall_sound.ensures ground fresh known e v value)
