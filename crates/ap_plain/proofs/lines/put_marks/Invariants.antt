use Rattle.std.proofs.Common.{◌≡◌, ◌+◌, ◌≤◌, ◌++◌, drop}
use Rattle.ap_plain.specs.Lines.{marks_text}
use Rattle.ap_plain.proofs.lines.put_marks.Given as goal

-- the lines so far stand before those of the marks that are left; k is the number of the next push
abbrev pub invariant-loop-mark : goal.invariant-loop-mark
invariant-loop-mark g l = record {
  from_one : 1 ≤ l.k;
  counted : l.k ≤ l.mark-index + 1;
  told : l.text ++ marks_text l.k (drop l.mark-index l.marks) ≡ l.fn.text ++ marks_text 1 l.marks;
}
