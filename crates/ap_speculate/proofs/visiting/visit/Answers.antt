use Rattle.std.proofs.Common.{[], ◌∷◌, ◌++◌, ◌∙◌, ap}
use Rattle.ap_speculate.proofs.Walking.{one_more, one_opened}
use Rattle.ap_speculate.proofs.visiting.visit.Goals as goal

pub returns-clause-walked : goal.returns-clause-walked
returns-clause-walked g c =
    one_more c.args.rule c.args.so_far.now.tally c.args.mark c.push.new.self c.cut_from-marks.result (c.in_ok-push.ensures.ok ∙ ap (λ l. l ++ c.args.mark ∷ []) c.new-alone.ensures) c.cut_from-marks.ensures
    c.args.so_far.now.marks c.append.new.self c.in_ok-append.ensures.ok

pub returns-clause-opened : goal.returns-clause-opened
returns-clause-opened g c =
    one_opened c.args.rule c.args.so_far.now.tally c.args.mark c.push.new.self c.cut_from-marks.result (c.in_ok-push.ensures.ok ∙ ap (λ l. l ++ c.args.mark ∷ []) c.new-alone.ensures) c.cut_from-marks.ensures c.requires
