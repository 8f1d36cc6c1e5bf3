use Rattle.ap_rules.proofs.RenamesFound.{constants_rename, constants_bind}
use Rattle.ap_rules.proofs.group.filler.Goals as goal

-- a constant is itself renamed, and has no variable
pub invariant_of-result : goal.invariant_of-result
invariant_of-result c = record {
  permutes = constants_rename _ c.quote.result c.quote-2.result c.quote.ensures c.quote-2.ensures;
  binds = constants_bind _ c.quote.result c.quote-2.result c.quote.ensures c.quote-2.ensures;
}
