use Rattle.std.proofs.Common.{◌≡◌, drop}
use Rattle.ap_linear.specs.Marks.{bits_after, bit_number}
use Rattle.ap_linear.proofs.marks.bits_of.Given as goal

-- what is left is added to what is there
abbrev pub invariant-loop-t : goal.invariant-loop-t
invariant-loop-t l = bits_after (bit_number l.atoms) l.fn.positive l.out (drop l.t-index l.parts) ≡ bits_after (bit_number l.atoms) l.fn.positive 0 l.parts
