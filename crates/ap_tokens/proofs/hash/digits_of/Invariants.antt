use Rattle.std.proofs.Common.{◌≡◌, drop}
use Rattle.ap_tokens.specs.Hashes.{digits_of}
use Rattle.ap_tokens.proofs.hash.digits_of.Given as goal

abbrev pub invariant-loop-byte : goal.invariant-loop-byte
invariant-loop-byte l = digits_of l.base (drop l.byte-index l.text) ≡ digits_of l.base l.text
