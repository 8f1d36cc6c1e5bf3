use Rattle.std.proofs.Common.{◌≡◌, ◌∙◌, true, ap, rules}
use Rattle.ap_kernel.specs.Answers.{is_unchanged}
use Rattle.ap_world.specs.Clauses.{not_of}
use Rattle.ap_rewrite.proofs.Froms.{from_at}
use Rattle.ap_rewrite.proofs.branching.turned.Goals as goal

pub plainest-requires-clause-negation : goal.plainest-requires-clause-negation
plainest-requires-clause-negation g c = (c.args.q.says.lhs, c.requires.term)

pub returns-then-same-clause-is : goal.returns-then-same-clause-is
returns-then-same-clause-is g c =
    let k : is_unchanged c.args.q ≡ true = search rules in
    c.in_ok-answer.ensures.is _ (c.requires.term ∙ ap not_of (c.requires.argument.stands.same k))

pub returns-then-same-clause-from : goal.returns-then-same-clause-from
returns-then-same-clause-from g c = from_at _ _ _ _ _ _ c.requires.term c.in_ok-answer.ensures.from
