use Rattle.std.proofs.Common.{◌≡◌, drop}
use Rattle.ap_outside.specs.Files.{place_of}
use Rattle.ap_outside.proofs.Places.{place_from}
use Rattle.ap_outside.proofs.files.place_of.Given as goal

abbrev pub invariant-loop-place : goal.invariant-loop-place
invariant-loop-place l = place_from l.place (drop l.place l.files) l.name ≡ place_of l.files l.name
