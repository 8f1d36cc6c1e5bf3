-- A job that was claimed is dropped, expanded or walked.
use Rattle.std.proofs.Common.{refl, inl, inr}
use Rattle.ap_speculate.proofs.Handing.{came_back, told_false, due_after, is_put_drop, is_grown, is_refused, is_walked}
use Rattle.ap_speculate.proofs.Seats.{still_at, at_later}
use Rattle.ap_speculate.proofs.turn.work_claimed.Goals as goal

pub returns-in-Some : goal.returns-in-Some
returns-in-Some g c =
    inl (is_put_drop g.S.Step.step_of g.S.Step.depth g.B.Board.did c.args.board.now c.put_drop.new.self c.put_drop.new.self c.args.job c.look_at_job.new.job c.in-Some.license c.put_drop.result
    c.look_at_job.ensures.stays refl c.in-Some.ensures.dropped c.put_drop.ensures)

pub returns-then-not-expands : goal.returns-then-not-expands
returns-then-not-expands g c =
    is_walked g.S.Step.step_of g.S.Step.depth g.B.Board.did c.walk_claimed.result c.args.board.now c.args.board.now c.walk_claimed.new.board c.args.job c.look_at_job.new.job
    (inl (refl, λ due. told_false c.expands.result c.expands.ensures c.if-not-expands.true (due_after g.S.Step.step_of g.S.Step.depth c.args.job c.look_at_job.new.job c.in_ok-stepped.stepped c.look_at_job.ensures.stays c.in_ok-stepped.ensures due)))
    c.look_at_job.ensures.stays c.walk_claimed.ensures

pub returns-in-Family : goal.returns-in-Family
returns-in-Family g c =
    is_grown g.S.Step.step_of g.S.Step.depth g.B.Board.did c.args.board.now c.expand.new.self c.args.job c.look_at_job.new.job c.in_ok-stepped.stepped c.expand.result c.in-Family.family c.in-Family.first
    c.in-Family.count c.look_at_job.ensures.stays c.in_ok-stepped.ensures (c.expands.ensures.0 c.if-not-expands.false) c.in-Family.is c.expand.ensures.done

pub returns-in-Stranger : goal.returns-in-Stranger
returns-in-Stranger g c =
    is_walked g.S.Step.step_of g.S.Step.depth g.B.Board.did c.walk_claimed-in-Stranger.result c.args.board.now c.expand.new.self c.walk_claimed-in-Stranger.new.board c.args.job c.in-Stranger.job
    (inr (is_refused g.S.Step.step_of g.S.Step.depth g.B.Board.did c.args.board.now c.expand.new.self c.args.job c.look_at_job.new.job c.in-Stranger.job c.in_ok-stepped.stepped c.in-Stranger.field-1 c.expand.result
    c.look_at_job.ensures.stays c.in_ok-stepped.ensures (c.expands.ensures.0 c.if-not-expands.false) c.in-Stranger.is c.expand.ensures.back c.expand.ensures.done))
    (came_back c.args.job c.look_at_job.new.job c.in-Stranger.job c.in-Stranger.field-1 c.expand.result c.look_at_job.ensures.stays c.in-Stranger.is c.expand.ensures.back) c.walk_claimed-in-Stranger.ensures

pub walk_claimed-requires-clause-words : goal.walk_claimed-requires-clause-words
walk_claimed-requires-clause-words g c = still_at (g.B.Board.word c.args.board.now) c.args.job.seats c.look_at_job.new.job.seats c.look_at_job.ensures.stays.seats c.requires.words

pub walk_claimed-requires-in-Stranger-clause-words : goal.walk_claimed-requires-in-Stranger-clause-words
walk_claimed-requires-in-Stranger-clause-words g c =
    let back = came_back c.args.job c.look_at_job.new.job c.in-Stranger.job c.in-Stranger.field-1 c.expand.result c.look_at_job.ensures.stays c.in-Stranger.is c.expand.ensures.back in
    at_later (g.B.Board.word c.args.board.now) (g.B.Board.word c.expand.new.self) c.expand.ensures.words c.in-Stranger.job.seats
    (still_at (g.B.Board.word c.args.board.now) c.args.job.seats c.in-Stranger.job.seats back.seats c.requires.words)
