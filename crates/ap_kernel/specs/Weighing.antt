-- How much hangs on a derivation: each row below it counts once for each place where it stands.
use Rattle.std.specs.Prelude.{ℕ, suc, List, map}
use Rattle.ap_list.specs.Lists.{sum_of}
use Rattle.ap_kernel.specs.declared.derivations.Derivation.{Derivation, fold-Derivation}
use Rattle.ap_kernel.specs.declared.derivations.Derivation.TheOpen.{Derivation-F}

abbrev pub below_step : Derivation-F ℕ → ℕ
below_step (Derivation-F.Leaf r) = 0
below_step (Derivation-F.One r n) = suc n
below_step (Derivation-F.Many r ns) = sum_of (map suc ns)

abbrev pub below : Derivation → ℕ
below = fold-Derivation ℕ below_step

-- these and all below them
abbrev pub weight : List Derivation → ℕ
weight ds = sum_of (map suc (map below ds))
