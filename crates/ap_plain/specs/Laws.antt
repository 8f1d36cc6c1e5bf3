-- What events keep.
use Rattle.std.specs.Prelude.{◌≡◌, true}
use Rattle.ap_list.specs.Lists.{Each}
use Rattle.ap_world.specs.Sound.{HasFunctions, Sound}
use Rattle.ap_world.specs.World.{Shown, function_of, are_distinct}
use Rattle.ap_reader.specs.declared.form.Form.{Form}
use Rattle.ap_plain.specs.declared.limits.Limits.{Limits}
use Rattle.ap_plain.specs.Ends.{worlds_in}
use Rattle.ap_plain.specs.Events.{event_of}

-- a world that is sound, with a name for each entry, and with the functions of the ground world
pub record GoodWorld (w : Shown) : Type 0 where
  pub sound : Sound w.entries
  pub distinct : are_distinct w.entries ≡ true
  pub functions : HasFunctions (function_of w.entries)

-- each world that an event passes through is good, where the one before it is
abbrev pub EventsKeepGood : Type 0
EventsKeepGood = (limits : Limits) (w : Shown) (f : Form) → GoodWorld w → Each GoodWorld (worlds_in (event_of limits w f).told)
