use Rattle.std.proofs.Common.{◌+◌, ◌-◌, ◌++◌, length, take, drop, ap, ◌∙◌}
use Rattle.std.proofs.lemmas.List.{take_rest}
use Rattle.ap_kernel.specs.Reductions.{all_false}
use Rattle.ap_kernel.proofs.Reduced.{others_are_false}
use Rattle.ap_kernel.proofs.assuming.others_false.Goals as goal

pub returns : goal.returns
returns c =
    let ts = c.args.literals.now in
    let i = c.args.place in
    c.in_ok-ctx.ensures ∙ c.in_ok-push_false-2.ensures
    ∙ ap (λ fs. fs ++ all_false (take (length ts - (i + 1)) (drop (i + 1) ts))) (c.in_ok-push_false.ensures ∙ ap (λ fs. fs ++ all_false (take i ts)) c.in_ok-facts.ensures)
    ∙ ap (λ us. all_false (take i ts) ++ all_false us) (take_rest ts (i + 1)) ∙ others_are_false i ts
