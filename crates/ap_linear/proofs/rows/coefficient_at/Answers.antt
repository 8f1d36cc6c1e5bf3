use Rattle.std.proofs.Common.{◌≡◌, slice_get, None, rules}
use Rattle.ap_linear.proofs.Ranks.{none_read}
use Rattle.ap_linear.proofs.rows.coefficient_at.Goals as goal

pub returns-in-None : goal.returns-in-None
returns-in-None c =
    let none : slice_get c.args.coefficients.now c.args.rank ≡ None = search rules in
    none_read c.args.coefficients.now c.args.rank none
