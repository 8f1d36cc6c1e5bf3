use Rattle.std.proofs.Common.{rules}
use Rattle.ap_world.specs.World.{function_of}
use Rattle.ap_kernel.proofs.Derived.{reduces_by}
use Rattle.ap_kernel.proofs.DerivedClauses.{rewrite_derived}
use Rattle.ap_kernel.proofs.Reduced.{rewritten_reduces}
use Rattle.ap_kernel.proofs.literals.rewrite_literal.Goals as goal

pub returns-clause-stands : goal.returns-clause-stands
returns-clause-stands c =
    reduces_by c.args.w.now c.in_ok-answer.answer _ _ (search rules)
    (rewrite_derived c.args.w.now c.args.c c.args.index c.args.e c.requires.clause c.requires.leads.derived c.requires.place c.requires.facts)
    (rewritten_reduces (function_of c.args.w.now.entries) c.recall_sound.ensures.total c.requires.ground c.args.c c.args.index c.args.e.says
    c.requires.clause c.requires.leads.says c.requires.place c.requires.facts)
