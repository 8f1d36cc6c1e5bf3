use Rattle.std.proofs.Common.{◌≡◌, length}
use Rattle.ap_tokens.specs.Gaps.{at}
use Rattle.ap_reader.specs.Reading.{with_front, forms_from}
use Rattle.ap_reader.proofs.reading.all.Given as goal

-- the forms so far, before those that are left, are all
abbrev pub invariant-loop-out : goal.invariant-loop-out
invariant-loop-out l = with_front l.out (forms_from l.tokens) ≡ forms_from (at 0 l.text)

abbrev pub decreases-loop-out : goal.decreases-loop-out
decreases-loop-out l = length l.tokens.rest
