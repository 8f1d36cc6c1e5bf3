use Rattle.std.proofs.Common.{◌≡◌, Bool, drop}
use Rattle.ap_term.specs.declared.term.Term.{Term}
use Rattle.ap_kernel.specs.Reasons.{AllGiven}
use Rattle.ap_rewrite.specs.Answering.{setting_of, inner_of, seen_at, used_each}
use Rattle.ap_rewrite.proofs.linear_rules.used_each.Given as goal

-- the places that are left give what all of them give; and each polynomial so far has its reason, and the memo stays
abbrev pub invariant-loop-place : goal.invariant-loop-place
invariant-loop-place g l = (used_each (setting_of l.l.r.now) (inner_of l.l.r.now l.l.levels) (seen_at l.at) l.l.r.now.rules.now.linear (drop l.place-index l.places) l.atoms l.all l.steps.left
    ≡ used_each (setting_of l.l.r.now) (inner_of l.l.r.now l.l.levels) (seen_at l.at) l.l.r.now.rules.now.linear l.places l.atoms l.fn.polys l.fn.steps.left)
    × ((u : Term) (s : Bool) → AllGiven l.l.r.now.w.now l.at.ctx.now u s l.fn.polys l.fn.whys → AllGiven l.l.r.now.w.now l.at.ctx.now u s l.all l.whys)
    × (l.steps.memo ≡ l.fn.steps.memo)
