use Rattle.std.proofs.Common.{◌≡◌, ◌&&◌, true, rules}
use Rattle.ap_kernel.specs.Answers.{is_unchanged}
use Rattle.ap_rewrite.proofs.Froms.{from_at}
use Rattle.ap_rewrite.proofs.Branched.{open_before, whole_same}
use Rattle.ap_rewrite.proofs.branching.shape_whole.Goals as goal

pub simplest-requires-clause-choice : goal.simplest-requires-clause-choice
simplest-requires-clause-choice g c =
    let k : (is_unchanged c.args.test && (is_unchanged c.args.found.yes && is_unchanged c.args.found.no)) ≡ true = search rules in
    (c.args.test.says.lhs, c.args.found.yes.says.lhs, c.args.found.no.says.lhs, c.requires.term, open_before _ _ c.args.test _ c.requires.test c.requires.open k)

pub returns-then-same-clause-is : goal.returns-then-same-clause-is
returns-then-same-clause-is g c =
    let k : (is_unchanged c.args.test && (is_unchanged c.args.found.yes && is_unchanged c.args.found.no)) ≡ true = search rules in
    c.in_ok-q.ensures.is _ _ _ (whole_same _ _ _ _ _ _ _ c.args.test c.args.found c.requires.test c.requires.found k c.requires.term)

pub returns-then-same-clause-from : goal.returns-then-same-clause-from
returns-then-same-clause-from g c = from_at _ _ _ _ _ _ c.requires.term c.in_ok-q.ensures.from
