-- A job that was walked can be put, and each of its seats has looked; what was walked is put or dropped.
use Rattle.std.proofs.Common.{inr}
use Rattle.ap_speculate.proofs.Putting.{walk_is_full, seats_looked}
use Rattle.ap_speculate.proofs.Handing.{is_put, is_put_drop, read_below}
use Rattle.ap_speculate.proofs.Seats.{still_at}
use Rattle.ap_speculate.proofs.turn.walk_claimed.Goals.{in-Done, in-Dropped}
use Rattle.ap_speculate.proofs.turn.walk_claimed.Goals as goal

pub put-requires-clause-walked : goal.put-requires-clause-walked
put-requires-clause-walked g c =
    walk_is_full g.S.Step.step_of g.S.Step.depth c.args.job c.run_stepped.new.job c.in_ok-walked.field-0 c.in-Done.walked c.in-Done.is c.in_ok-walked.ensures.stays c.in_ok-walked.ensures.done

pub put-requires-clause-words : goal.put-requires-clause-words
put-requires-clause-words g c =
    still_at (g.B.Board.word c.args.board.now) c.args.job.seats c.run_stepped.new.job.seats c.in_ok-walked.ensures.stays.seats c.requires.words

pub put-requires-clause-looked : goal.put-requires-clause-looked
put-requires-clause-looked g c =
    seats_looked g.S.Step.step_of g.S.Step.depth c.args.job c.run_stepped.new.job c.in_ok-walked.field-0 c.in-Done.walked c.in-Done.is c.in_ok-walked.ensures.stays c.in_ok-walked.ensures.done

pub returns : goal.returns
returns g c =
    elim c.match-branch-2.branch [
      | in-Done w ↦
          is_put g.S.Step.step_of g.S.Step.depth g.B.Board.did c.args.board.now w.put.new.self c.match-branch-2.board c.args.job c.run_stepped.new.job w.put.result c.in_ok-walked.ensures.stays w.board-is w.put.ensures
      | in-Dropped w ↦
          inr (is_put_drop g.S.Step.step_of g.S.Step.depth g.B.Board.did c.args.board.now w.put_drop.new.self c.match-branch-2.board c.args.job c.run_stepped.new.job w.in-Dropped.license w.put_drop.result
          c.in_ok-walked.ensures.stays w.board-is (read_below c.run_stepped.new.job c.in_ok-walked.field-0 w.in-Dropped.license w.in-Dropped.is c.in_ok-walked.ensures.dropped) w.put_drop.ensures)
    ]
