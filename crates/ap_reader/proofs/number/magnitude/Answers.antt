use Rattle.std.proofs.Common.{◌^◌, arith}
use Rattle.ap_reader.proofs.Digits.{next_digit}
use Rattle.ap_reader.proofs.number.magnitude.Goals as goal

pub returns-in-None : goal.returns-in-None
returns-in-None c = λ small. c.in-None.ensures
    (next_digit c.args.base c.loop-byte.n c.loop-byte.byte-index (2 ^ 128) _ c.args.digits.now (omega arith) (omega arith) (omega (arith, c.loop-byte.invariant.worth)))
