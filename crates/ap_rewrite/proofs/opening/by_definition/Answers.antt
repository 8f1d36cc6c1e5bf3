use Rattle.std.proofs.Common.{sym}
use Rattle.ap_rewrite.specs.Answering.{setting_of, inner_of, seen_at}
use Rattle.ap_rewrite.proofs.Chained.{same_answer}
use Rattle.ap_rewrite.proofs.Opened.{undefined, defined}
use Rattle.ap_rewrite.proofs.opening.by_definition.Goals as goal

pub returns-in-None-clause-is : goal.returns-in-None-clause-is
returns-in-None-clause-is g c =
    undefined (setting_of c.args.l.now.r.now) (inner_of c.args.l.now.r.now c.args.l.now.levels) c.args.mode (seen_at c.args.at.now) c.args.f.now c.args.us.now c.args.steps.now.left c.in-None.ensures

pub open_call-requires-clause-function : goal.open_call-requires-clause-function
open_call-requires-clause-function g c = sym c.in-Some.ensures

pub returns-in-Some-clause-is : goal.returns-in-Some-clause-is
returns-in-Some-clause-is g c =
    same_answer _ _ _ _
    (defined (setting_of c.args.l.now.r.now) (inner_of c.args.l.now.r.now c.args.l.now.levels) c.args.mode (seen_at c.args.at.now) c.args.f.now c.args.us.now c.args.steps.now.left _ c.args.t.now c.requires.call c.in-Some.ensures)
    c.open_call.ensures.is
