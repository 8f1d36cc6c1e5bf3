use Rattle.std.proofs.Common.{◌≡◌, ◌++◌, Bool, drop}
use Rattle.ap_term.specs.declared.term.Term.{Term}
use Rattle.ap_kernel.specs.Reasons.{AllGiven}
use Rattle.ap_rewrite.specs.Answering.{setting_of}
use Rattle.ap_rewrite.specs.Linear.{bounds}
use Rattle.ap_rewrite.proofs.bounding.push_bounds.Given as goal

-- the polynomials so far and what the masks say of the atoms that are left; and the reason of each so far
abbrev pub invariant-loop-x : goal.invariant-loop-x
invariant-loop-x g l = (l.polys ++ bounds (setting_of l.r) l.ctx.0 (drop l.x-index l.atoms) ≡ l.fn.polys ++ bounds (setting_of l.r) l.ctx.0 l.atoms)
    × ((u : Term) (s : Bool) → AllGiven l.r.w.now l.ctx u s l.fn.polys l.fn.whys → AllGiven l.r.w.now l.ctx u s l.polys l.whys)
