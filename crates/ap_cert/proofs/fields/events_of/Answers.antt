use Rattle.std.proofs.Common.{codes, decimal}
use Rattle.ap_cert.specs.Cert.{events_line}
use Rattle.ap_cert.specs.Reads.{IsCount}
use Rattle.ap_cert.proofs.Split.{front_none, front_reads}
use Rattle.ap_cert.proofs.fields.events_of.Goals as goal

pub returns-in_err-after : goal.returns-in_err-after
unfolding events_line
returns-in_err-after c = rw c.from_residual.ensures (front_none IsCount decimal (codes "events ") c.args.line.now c.in_err-after.ensures)

pub returns : goal.returns
unfolding events_line
returns c = front_reads IsCount decimal (λ a. a) (codes "events ") c.args.line.now c.in_ok-after.field-0.now c.in_ok-after.ensures c.count.result c.count.ensures
