use Rattle.ap_plain.proofs.Proposed.{proved_end, failed_end}
use Rattle.ap_plain.proofs.named.end_tried.Goals as goal

pub returns-in-Qed-clause-done : goal.returns-in-Qed-clause-done
returns-in-Qed-clause-done c =
    proved_end c.admit.result c.args.w.now c.admit.new.w c.args.asked.now.title.now c.args.asked.now.enabled c.args.proposal c.args.trial c.in-Qed.is c.admit.ensures.ok c.admit.ensures.made

pub returns-in-Failed-clause-done : goal.returns-in-Failed-clause-done
returns-in-Failed-clause-done c =
    failed_end c.fail.result c.args.w.now c.args.asked.now.title.now c.args.asked.now.enabled c.args.proposal c.args.trial c.in-Failed.reason c.in-Failed.is c.fail.ensures
