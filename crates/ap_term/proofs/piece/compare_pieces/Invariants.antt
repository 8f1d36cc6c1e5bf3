use Rattle.std.proofs.Common.{◌≡◌, length}
use Rattle.ap_term.specs.Compared.{bytes_order}
use Rattle.ap_term.specs.Pieces.{piece_text}
use Rattle.ap_term.proofs.piece.compare_pieces.Given as goal

abbrev pub invariant-loop-c : goal.invariant-loop-c
invariant-loop-c l = bytes_order (piece_text l.p) (piece_text l.q) ≡ bytes_order (piece_text l.fn.p) (piece_text l.fn.q)

abbrev pub decreases-loop-c : goal.decreases-loop-c
decreases-loop-c l = length (piece_text l.p)
