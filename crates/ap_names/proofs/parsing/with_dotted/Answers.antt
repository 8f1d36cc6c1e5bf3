use Rattle.ap_names.proofs.Parts.{ended, broken, read_on}
use Rattle.ap_names.proofs.parsing.with_dotted.Goals as goal

pub returns-in_default : goal.returns-in_default
returns-in_default c =
    let all = c.loop-dotted.invariant in ended _ _ _ _ all.0 all.1 c.in_default.ensures

pub returns-in_default-number : goal.returns-in_default-number
returns-in_default-number c =
    let all = c.loop-dotted.invariant in
    broken _ _ _ _ all.0 c.in-Some.dotted.now all.1 c.in-Some.ensures c.in_default-number.ensures

pub loop-dotted-preserved : goal.loop-dotted-preserved
loop-dotted-preserved c =
    let all = c.loop-dotted.invariant in
    rw c.in_ok-push.ensures.ok
    (_, read_on _ _ _ _ all.0 c.in-Some.dotted.now c.in-Some-number.count c.in-Some-number.left.now all.1 c.in-Some.ensures c.in-Some-number.ensures)
