use Rattle.std.proofs.lemmas.Iterator.{items_from_collect}
use Rattle.acl2p.proofs.Given.{gives_behind}
use Rattle.acl2p.proofs.words_of.Goals as goal

pub returns-in-Ok-clause-behind : goal.returns-in-Ok-clause-behind
returns-in-Ok-clause-behind c = rw c.in-Ok.is
    (items_from_collect c.collect.result c.collect.ensures.ran
    (gives_behind 1 c.in-Ok.all c.skip.ensures.source c.skip.ensures.count))
