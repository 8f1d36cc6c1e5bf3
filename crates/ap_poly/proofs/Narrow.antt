-- What 128 bits hold, as a fact and as a test.
use Rattle.std.proofs.Common.{◌≡◌, ◌^◌, ◌<◌, Bool, true, false, cond, ℤ, pos, negsuc, Option, Some, None, refl, ap, sym, ◌∙◌}
use Rattle.std.proofs.lemmas.Bool.{ltb-true, lt-ltb}
use Rattle.std.specs.Option.{SomeIff}
use mir.Val.{SFits}
use mir.Syntax.{w128}
use Rattle.ap_world.specs.Units.{is_narrow, narrow}

fits_narrow : (z : ℤ) → SFits w128 z → is_narrow z ≡ true
unfolding is_narrow
fits_narrow (pos n) h = let k : n < 2 ^ 127 = h.sfits in lt-ltb n (2 ^ 127) k
fits_narrow (negsuc n) h = let k : n < 2 ^ 127 = h.sfits in lt-ltb n (2 ^ 127) k

narrow_fits : (z : ℤ) → is_narrow z ≡ true → SFits w128 z
unfolding is_narrow
narrow_fits (pos n) h = record { sfits = ltb-true n (2 ^ 127) h }
narrow_fits (negsuc n) h = record { sfits = ltb-true n (2 ^ 127) h }

-- a checked step gives what the test lets through
pub narrow_of : (z : ℤ) (o : Option ℤ) → SomeIff o (SFits w128 z) z → o ≡ narrow z
narrow_of z (Some n) h = ap Some h.1 ∙ sym (ap (λ b. cond b (Some z) None) (fits_narrow z h.0))
narrow_of z None h = go (is_narrow z) refl
  where
    go : (b : Bool) → is_narrow z ≡ b → None ≡ cond b (Some z) None
    go true e = absurd (h (narrow_fits z e))
    go false e = refl
