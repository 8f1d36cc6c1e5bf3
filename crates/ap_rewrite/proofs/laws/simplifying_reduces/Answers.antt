use Rattle.ap_rewrite.proofs.SimplifyingReduces.{simplifying_reduces}
use Rattle.ap_rewrite.proofs.laws.simplifying_reduces.Goals as goal

pub returns : goal.returns
returns c = simplifying_reduces
