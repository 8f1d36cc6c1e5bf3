use Rattle.ap_term.specs.Printed.{value_text}
use Rattle.ap_term.specs.Starts.{value_opens}
use Rattle.ap_term.specs.Pieces.{piece_text}
use Rattle.ap_term.proofs.Parts.{starts_compared}
use Rattle.ap_term.proofs.starts.compare_value_starts.Goals as goal

pub returns : goal.returns
returns c =
    starts_compared c.compare_pieces.result (piece_text c.value_start-p.result) (piece_text c.value_start-q.result)
    (value_opens c.args.a.now) (value_text c.args.a.now) c.args.x (value_opens c.args.b.now) (value_text c.args.b.now) c.args.y
    c.compare_pieces.ensures c.value_start-p.ensures.text c.value_start-q.ensures.text
    c.value_start-p.ensures.start c.value_start-q.ensures.start c.requires.apart c.requires.left c.requires.right
