use Rattle.std.proofs.Common.{◌≡◌, map, take}
use Rattle.ap_reader.proofs.name.bytes_of.Given as goal

-- the bytes of the letters so far
abbrev pub invariant-loop-letter : goal.invariant-loop-letter
invariant-loop-letter l = l.out ≡ map (λ x. x.byte) (take l.letter-index l.letters)
