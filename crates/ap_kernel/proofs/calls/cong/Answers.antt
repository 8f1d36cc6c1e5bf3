use Rattle.std.proofs.Common.{◌≡◌, true, Some, ap, ◌∙◌, rules}
use Rattle.ap_kernel.specs.Answers.{are_unchanged, cong_made, said}
use Rattle.ap_kernel.proofs.Derived.{stands_same, stands_by}
use Rattle.ap_kernel.proofs.DerivedEquivs.{cong_derived}
use Rattle.ap_kernel.proofs.CallsStand.{cong_same, cong_of_one, cong_holds}
use Rattle.ap_kernel.proofs.calls.cong.Goals as goal

pub returns-then-are_unchanged-clause-stands : goal.returns-then-are_unchanged-clause-stands
returns-then-are_unchanged-clause-stands c =
    let k : are_unchanged c.args.args.now ≡ true = search rules in
    stands_same c.args.w.now c.in_ok-answer.answer (cong_made c.args.ctx.now c.args.f.now (said c.args.args.now))
    (cong_of_one c.args.w.now c.args.ctx.now c.args.f.now c.args.args.now c.in_ok-answer.answer.says c.requires.args k (search rules))
    c.in_ok-answer.ensures.why
    (cong_same c.args.w.now c.args.ctx.now c.args.f.now c.args.args.now c.requires.args k)
    (cong_holds c.args.w.now c.recall_sound.ensures.total c.requires.ground c.args.ctx.now c.args.f.now c.args.args.now c.requires.facts c.requires.head c.requires.args)

pub returns-then-are_unchanged-clause-made : goal.returns-then-are_unchanged-clause-made
returns-then-are_unchanged-clause-made c =
    cong_of_one c.args.w.now c.args.ctx.now c.args.f.now c.args.args.now c.in_ok-answer.answer.says c.requires.args (search rules) (search rules)

pub returns-clause-stands : goal.returns-clause-stands
returns-clause-stands c =
    stands_by c.args.w.now c.made.result _ _ (search rules) (c.made.ensures.why ∙ ap Some (search rules))
    (cong_derived c.args.w.now c.args.ctx.now c.args.f.now c.args.args.now c.requires.facts c.requires.head c.requires.args)
    (cong_holds c.args.w.now c.recall_sound.ensures.total c.requires.ground c.args.ctx.now c.args.f.now c.args.args.now c.requires.facts c.requires.head c.requires.args)
