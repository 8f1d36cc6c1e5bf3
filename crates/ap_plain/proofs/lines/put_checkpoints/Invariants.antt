use Rattle.std.proofs.Common.{◌≡◌, ◌++◌, drop}
use Rattle.ap_plain.specs.Lines.{checkpoints_of}
use Rattle.ap_plain.proofs.lines.put_checkpoints.Given as goal

-- the checkpoints so far stand before those of the marks that are left
abbrev pub invariant-loop-mark : goal.invariant-loop-mark
invariant-loop-mark g l = l.text ++ checkpoints_of (drop l.mark-index l.marks) ≡ l.fn.text ++ checkpoints_of l.marks
