-- What a plan's world has, of the world that is lent.
use Rattle.std.proofs.Common.{◌≡◌, sym, subst}
use Rattle.ap_world.specs.Sound.{HasFunctions, Sound}
use Rattle.ap_world.specs.World.{Shown, function_of}
use Rattle.ap_kernel.specs.Standing.{DefinesNot}
use Rattle.ap_strategy.specs.Laws.{kernel_ground}

pub ground_lent : (w v : Shown) → w ≡ v → HasFunctions (function_of v.entries) → DefinesNot (function_of w.entries)
ground_lent w v e h = subst (λ (u : Shown). DefinesNot (function_of u.entries)) (sym e) (kernel_ground (function_of v.entries) h)

pub sound_lent : (w v : Shown) → w ≡ v → Sound w.entries → Sound v.entries
sound_lent w v e h = subst (λ (u : Shown). Sound u.entries) e h
