use Rattle.std.proofs.Common.{◌≡◌, drop}
use Rattle.ap_reader.specs.Numbers.{is_dots}
use Rattle.ap_reader.proofs.number.is_dots.Given as goal

-- the bytes so far are dots
abbrev pub invariant-loop-byte : goal.invariant-loop-byte
invariant-loop-byte l = is_dots (drop l.byte-index l.text) ≡ is_dots l.text
