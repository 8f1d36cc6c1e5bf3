-- The hints that an event gives.
use Rattle.std.specs.Prelude.{Option, Some, None, Ok}
use Rattle.ap_world.specs.World.{Shown}
use Rattle.ap_reader.specs.declared.form.Form.{Form}
use Rattle.ap_hints.specs.declared.hint.Hints.{Hints}
use Rattle.ap_hints.specs.Hinted.{hints_in}
use Rattle.ap_hints.specs.Known.{no_hints}
use Rattle.ap_stated.specs.Refusals.{Answer, as_hinted}

-- they are read in the world before the event; none, where `:hints` isn't given
abbrev pub given_hints : Shown → Option Form → Answer Hints
given_hints w None = Ok no_hints
given_hints w (Some f) = as_hinted (hints_in w f)
