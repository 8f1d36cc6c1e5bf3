use Rattle.std.proofs.Common.{◌≡◌, drop}
use Rattle.ap_reader.specs.Names.{has_colon}
use Rattle.ap_reader.proofs.name.has_colon.Given as goal

-- the letters so far have no colon
abbrev pub invariant-loop-letter : goal.invariant-loop-letter
invariant-loop-letter l = has_colon (drop l.letter-index l.letters) ≡ has_colon l.letters
