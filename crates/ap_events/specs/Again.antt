-- What a second pass makes is covered by what the first pass made.
use Rattle.std.specs.Prelude.{◌≡◌, true, Some}
use Rattle.ap_list.specs.Lists.{Each}
use Rattle.ap_reader.specs.declared.form.Form.{Form}
use Rattle.ap_world.specs.World.{Shown, are_distinct}
use Rattle.ap_plain.specs.declared.limits.Limits.{Limits}
use Rattle.ap_world.specs.Alike.{Covers}
use Rattle.ap_events.specs.Backing.{Fits}
use Rattle.ap_events.specs.Books.{Earlier, worked, worked_again}

abbrev pub AgainIsCovered : Type 0
AgainIsCovered = (limits : Limits) (earlier : Earlier) → Each (λ p. are_distinct p.1.entries ≡ true) earlier → (f : Form) (u v w : Shown) → Covers v.entries u.entries
    → (worked limits earlier u f).next ≡ Some w → Fits (worked_again earlier v f) w.entries
