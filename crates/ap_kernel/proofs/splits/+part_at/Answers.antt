use Rattle.std.proofs.Common.{◌≡◌, Some, slice_get, get_or, sym, ◌∙◌, rules}
use Rattle.ap_term.proofs.Seen.{seen}
use Rattle.ap_kernel.proofs.Walked.{part_within}
use Rattle.ap_kernel.proofs.splits.+part_at.Goals as goal

pub returns : goal.returns
returns t c =
    let there : slice_get c.in-Call.arguments (get_or c.args.at.now 0 0) ≡ Some c.in_ok-get.field-0.now = search rules in
    c.part_at.ensures ∙ sym (part_within c.args.at.now c.args.t.now c.in_ok-get.field-0.now c.in-Call.field-0 c.in-Call.arguments c.in-len1-up.len_at_least (seen c.t.view_is c.in-Call.is) there)
