use Rattle.ap_hints.proofs.Knowing.{hints_known}
use Rattle.ap_hints.proofs.reading.hints_of.Goals as goal

pub returns-clause-known : goal.returns-clause-known
returns-clause-known c = hints_known c.args.w.now c.args.f.now c.read.result c.requires.functions c.read.ensures
