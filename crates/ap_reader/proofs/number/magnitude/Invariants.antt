use Rattle.std.proofs.Common.{◌≡◌, ◌^◌, ◌<◌, drop}
use Rattle.ap_reader.specs.Numbers.{value_after}
use Rattle.ap_reader.proofs.number.magnitude.Given as goal

-- the digits that are left make the whole from what the others are worth
abbrev pub invariant-loop-byte : goal.invariant-loop-byte
invariant-loop-byte l = record {
  worth : value_after l.base l.n (drop l.byte-index l.digits) ≡ value_after l.base 0 l.digits;
  fits : l.n < 2 ^ 128;
}
