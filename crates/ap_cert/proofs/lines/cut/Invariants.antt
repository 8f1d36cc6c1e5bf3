use Rattle.std.proofs.Common.{take}
use Rattle.ap_cert.specs.Reads.{Without}
use Rattle.ap_cert.proofs.lines.cut.Given as goal

abbrev pub invariant-loop-place : goal.invariant-loop-place
invariant-loop-place l = Without l.byte (take l.place l.text)
