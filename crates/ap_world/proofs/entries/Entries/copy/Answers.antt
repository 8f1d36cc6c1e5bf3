use Rattle.std.proofs.Common.{◌≡◌, length, refl, take, Some, ap, ◌∙◌, rules}
use Rattle.std.specs.Prelude.{slice_get}
use Rattle.std.proofs.lemmas.Option.{slice_get_read}
use Rattle.ap_world.specs.World.{name_in, has_name}
use Rattle.ap_world.proofs.Places.{free_before}
use Rattle.ap_world.proofs.entries.Entries.copy.Goals as goal

pub push_copy-requires : goal.push_copy-requires
push_copy-requires c =
    let there : slice_get c.args.self.now c.loop-entry.entry-index ≡ Some c.entry-item.result =
    slice_get_read c.args.self.now (length c.args.self.now) c.loop-entry.entry-index c.entry-item.result refl (search rules) (search rules) in
    ap (λ W. has_name W (name_in c.entry-item.result)) c.loop-entry.invariant
    ∙ free_before c.args.self.now c.loop-entry.entry-index c.entry-item.result c.recall_distinct_names.ensures there
