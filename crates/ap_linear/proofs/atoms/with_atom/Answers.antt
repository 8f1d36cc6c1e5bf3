use Rattle.std.proofs.Common.{sym, rules}
use Rattle.ap_linear.proofs.Walks.{placed-same}
use Rattle.ap_linear.proofs.atoms.with_atom.Goals as goal

pub returns-then-branch : goal.returns-then-branch
returns-then-branch c = sym (placed-same c.args.t.now c.args.atoms (search rules))
