use Rattle.std.proofs.Common.{not, ap, ◌∙◌}
use Rattle.ap_world.specs.Including.{is_other}
use Rattle.ap_world.specs.World.{entry_of}
use Rattle.ap_world.proofs.Alikes.{alike_told}
use Rattle.ap_world.proofs.including.is_other.Goals as goal

pub returns-in-Some : goal.returns-in-Some
returns-in-Some c =
    ap not (alike_told c.alike_entry.result c.args.entry.now c.in-Some.found.now c.alike_entry.ensures)
    ∙ ap (λ o. is_other o c.args.entry.now) (c.in-Some.ensures ∙ ap (entry_of c.args.entries.now) c.name.ensures)
