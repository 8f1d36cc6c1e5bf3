use Rattle.ap_world.proofs.Covering.{covers_self, covers_through, covers_grown, covers_defines, covers_untaken, covers_added, covers_included}
use Rattle.ap_world.proofs.laws.worlds_that_cover.Goals as goal

pub returns-clause-itself : goal.returns-clause-itself
returns-clause-itself c = covers_self

pub returns-clause-through : goal.returns-clause-through
returns-clause-through c = covers_through

pub returns-clause-grown : goal.returns-clause-grown
returns-clause-grown c = covers_grown

pub returns-clause-defines : goal.returns-clause-defines
returns-clause-defines c = covers_defines

pub returns-clause-free : goal.returns-clause-free
returns-clause-free c = covers_untaken

pub returns-clause-added : goal.returns-clause-added
returns-clause-added c = covers_added

pub returns-clause-included : goal.returns-clause-included
returns-clause-included c = covers_included
