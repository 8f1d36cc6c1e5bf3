use Rattle.std.proofs.Common.{◌≡◌, [], ◌∷◌, ◌++◌, ap, sym, ◌∙◌, rules}
use Rattle.ap_kernel.proofs.Reduced.{all_to_end, whys_end}
use Rattle.ap_kernel.proofs.chaining.gathered.Goals as goal

pub loop-r-preserved : goal.loop-r-preserved
loop-r-preserved c =
    let whys : c.push-in-loop-r.new.self ≡ c.loop-r.whys ++ c.in-Some.r.why ∷ [] = search rules in
    let goals : c.append.new.self ≡ c.loop-r.goals ++ c.in-Some.r.says.to = search rules in (
      whys ∙ ap (λ ds. ds ++ c.in-Some.r.why ∷ []) c.loop-r.invariant.0 ∙ sym (whys_end c.args.first c.loop-r.yielded c.in-Some.r),
      goals ∙ ap (λ cs. cs ++ c.in-Some.r.says.to) c.loop-r.invariant.1 ∙ sym (all_to_end c.loop-r.yielded c.in-Some.r),
    )
