use Rattle.std.proofs.Common.{◌≡◌, ◌∙◌, true, rules}
use Rattle.ap_kernel.specs.Answers.{are_unchanged}
use Rattle.ap_rewrite.proofs.Conged.{call_same}
use Rattle.ap_rewrite.proofs.Froms.{from_at}
use Rattle.ap_rewrite.proofs.calls.on_arguments.Goals as goal

pub returns-then-same-clause-is : goal.returns-then-same-clause-is
returns-then-same-clause-is g c =
    let k : are_unchanged c.args.args ≡ true = search rules in
    c.in_ok-q.ensures.is ∙ c.requires.call ∙ call_same c.args.r.now.w.now c.args.ctx.now c.args.f.now c.args.args c.requires.args k

pub returns-then-same-clause-from : goal.returns-then-same-clause-from
returns-then-same-clause-from g c = from_at _ _ _ _ _ _ c.requires.call c.in_ok-q.ensures.from
