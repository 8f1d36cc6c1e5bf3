use Rattle.ap_term.specs.Printed.{symbol_text}
use Rattle.ap_term.proofs.Compares.{decided_texts}
use Rattle.ap_term.proofs.piece.compare_symbols.Goals as goal

pub returns-then-same_symbol : goal.returns-then-same_symbol
returns-then-same_symbol c =
    decided_texts symbol_text c.args.a.now c.args.b.now c.args.x c.args.y (c.same_symbol.ensures.same.0 c.if-same_symbol.true) (c.same_end.ensures c.if-same_end.true)
