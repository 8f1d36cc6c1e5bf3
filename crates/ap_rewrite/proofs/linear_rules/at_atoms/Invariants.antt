use Rattle.std.proofs.Common.{◌≡◌, Bool, drop}
use Rattle.ap_term.specs.declared.term.Term.{Term}
use Rattle.ap_kernel.specs.Reasons.{AllGiven}
use Rattle.ap_rewrite.specs.Linear.{at_atoms}
use Rattle.ap_rewrite.specs.Answering.{setting_of, inner_of, seen_at}
use Rattle.ap_rewrite.proofs.linear_rules.at_atoms.Given as goal

-- the atoms that are left give what all of them give; and each polynomial so far has its reason, and the memo stays
abbrev pub invariant-loop-x : goal.invariant-loop-x
invariant-loop-x g l = (at_atoms (setting_of l.l.r.now) (inner_of l.l.r.now l.l.levels) (seen_at l.at) l.g (drop l.x-index l.atoms) l.all l.steps.left ≡ at_atoms (setting_of l.l.r.now) (inner_of l.l.r.now l.l.levels) (seen_at l.at) l.g l.atoms l.fn.polys l.fn.steps.left)
    × ((u : Term) (s : Bool) → AllGiven l.l.r.now.w.now l.at.ctx.now u s l.fn.polys l.fn.whys → AllGiven l.l.r.now.w.now l.at.ctx.now u s l.all l.whys)
    × (l.steps.memo ≡ l.fn.steps.memo)
