use Rattle.std.proofs.Common.{◌≡◌, drop}
use Rattle.ap_world.specs.Typing.{any_empty}
use Rattle.ap_types.proofs.calls.any_empty.Given as goal

abbrev pub invariant-loop-mask : goal.invariant-loop-mask
invariant-loop-mask l = any_empty (drop l.mask-index l.masks) ≡ any_empty l.masks
