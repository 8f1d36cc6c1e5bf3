use Rattle.ap_translate.proofs.More.{more_translated, more_all, covers_knows}
use Rattle.ap_translate.proofs.worlds.more_is_translated.Goals as goal

pub returns-clause-more : goal.returns-clause-more
returns-clause-more c = more_translated

pub returns-clause-all : goal.returns-clause-all
returns-clause-all c = more_all

pub returns-clause-covers : goal.returns-clause-covers
returns-clause-covers c = covers_knows
