use Rattle.ap_rewrite.proofs.SearchByHead.{search_by_head}
use Rattle.ap_rewrite.proofs.laws.search_by_head.Goals as goal

pub returns : goal.returns
returns c = search_by_head
