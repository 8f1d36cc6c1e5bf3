-- The bytes that a piece gives.
use Rattle.std.specs.Prelude.{ℕ, List, [], ◌++◌}
use Rattle.ap_term.specs.declared.piece.Piece.{Piece}
use Rattle.ap_term.specs.Compared.{closing, follow}

-- the first bytes, the body with what closes it, and the byte after it
abbrev pub piece_text : Piece → List ℕ
piece_text p = p.lead.now ++ (closing p.close p.pending p.body.now ++ follow p.after [])
