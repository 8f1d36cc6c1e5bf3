use Rattle.ap_term.specs.Printed.{term_text}
use Rattle.ap_term.specs.Starts.{term_opens}
use Rattle.ap_term.specs.Pieces.{piece_text}
use Rattle.ap_term.proofs.Parts.{starts_compared}
use Rattle.ap_term.proofs.starts.compare_term_starts.Goals as goal

pub returns : goal.returns
returns c =
    starts_compared c.compare_pieces.result (piece_text c.term_start.result) (piece_text c.term_start-2.result)
    (term_opens c.args.a.now) (term_text c.args.a.now) c.args.x (term_opens c.args.b.now) (term_text c.args.b.now) c.args.y
    c.compare_pieces.ensures c.term_start.ensures.text c.term_start-2.ensures.text
    c.term_start.ensures.start c.term_start-2.ensures.start c.requires.apart c.requires.left c.requires.right
