use Rattle.std.proofs.Common.{ap, sym, ◌∙◌}
use Rattle.ap_cert.specs.Cert.{first_line}
use Rattle.ap_cert.proofs.Split.{first_of_cut, first_of_whole}
use Rattle.ap_cert.proofs.lines.split_line.Goals as goal

pub returns-in-Some-clause-first : goal.returns-in-Some-clause-first
returns-in-Some-clause-first c =
    let cut = c.in-Some.ensures in
    sym (ap first_line cut.0 ∙ first_of_cut c.in-Some.line.now c.in-Some.rest.now cut.1)

pub returns-in-None-clause-first : goal.returns-in-None-clause-first
returns-in-None-clause-first c = sym (first_of_whole c.args.text.now c.in-None.ensures)
