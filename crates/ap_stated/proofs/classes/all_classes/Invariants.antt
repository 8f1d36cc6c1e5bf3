use Rattle.std.proofs.Common.{◌≡◌, map, take}
use Rattle.ap_stated.specs.Classes.{class_of}
use Rattle.ap_stated.proofs.classes.all_classes.Given as goal

-- the classes so far
abbrev pub invariant-loop-form : goal.invariant-loop-form
invariant-loop-form l = l.out ≡ map class_of (take l.form-index l.forms)
