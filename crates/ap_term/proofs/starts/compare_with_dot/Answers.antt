use Rattle.ap_term.specs.Printed.{value_text}
use Rattle.ap_term.specs.Starts.{value_opens}
use Rattle.ap_term.specs.Pieces.{piece_text}
use Rattle.ap_term.proofs.Parts.{dot_right, not_dot_right}
use Rattle.ap_term.proofs.starts.compare_with_dot.Goals as goal

pub returns-clause-order : goal.returns-clause-order
returns-clause-order c =
    dot_right c.compare_pieces.result (piece_text c.value_start-p.result) (piece_text c.plain_piece.result)
    (value_opens c.args.v.now) (value_text c.args.v.now) c.args.end
    c.compare_pieces.ensures c.value_start-p.ensures.text c.plain_piece.ensures c.value_start-p.ensures.start c.requires

pub returns-clause-apart : goal.returns-clause-apart
returns-clause-apart c =
    not_dot_right c.compare_pieces.result (piece_text c.value_start-p.result) (piece_text c.plain_piece.result)
    (value_opens c.args.v.now) (value_text c.args.v.now) c.args.end
    c.compare_pieces.ensures c.value_start-p.ensures.text c.plain_piece.ensures c.value_start-p.ensures.start
