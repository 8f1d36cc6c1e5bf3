use Rattle.std.proofs.Common.{ap, sym, ◌∙◌}
use Rattle.std.specs.Option.{option_copied}
use Rattle.ap_world.specs.World.{as_theorem}
use Rattle.ap_world.proofs.Prescribed.{told_none, told_some}
use Rattle.ap_world.proofs.entries.Entries.prescription.Goals as goal

pub returns-in_err-place : goal.returns-in_err-place
returns-in_err-place c = ap option_copied c.from_residual.ensures
    ∙ sym (told_none c.self.inside.list c.args.self.now c.self.inside.tables.places c.args.function.now c.args.number c.place_of.result
    c.self.view_is (c.self.invariant.placed c.args.function.now) c.place_of.ensures c.in_err-place.was)

pub returns : goal.returns
returns c = c.as_theorem.ensures ∙ ap as_theorem c.get.ensures.value
    ∙ told_some c.self.inside.list c.args.self.now c.self.inside.tables.places c.args.function.now c.args.number c.in_ok-place.place c.place_of.result
    c.self.view_is (c.self.invariant.placed c.args.function.now) c.place_of.ensures c.in_ok-place.was
