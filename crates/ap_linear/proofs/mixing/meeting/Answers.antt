use Rattle.ap_linear.proofs.Walks.{gcd-positive}
use Rattle.ap_linear.proofs.mixing.meeting.Goals as goal

pub nonzero_div-d : goal.nonzero_div-d
nonzero_div-d c = rw c.gcd-divisor.ensures (gcd-positive c.args.c c.args.d c.requires)

pub nonzero_div-c : goal.nonzero_div-c
nonzero_div-c c = rw c.gcd-divisor.ensures (gcd-positive c.args.c c.args.d c.requires)
