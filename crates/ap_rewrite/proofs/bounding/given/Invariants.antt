use Rattle.std.proofs.Common.{◌≡◌, ◌++◌, drop}
use Rattle.ap_kernel.specs.Reasons.{AllGiven}
use Rattle.ap_rewrite.specs.Answering.{setting_of}
use Rattle.ap_rewrite.specs.Linear.{of_facts, given}
use Rattle.ap_rewrite.proofs.bounding.given.Given as goal

-- the polynomials so far and those of the facts that are left; and the reason of each so far
abbrev pub invariant-loop-i : goal.invariant-loop-i
invariant-loop-i g l = (l.polys ++ of_facts (setting_of l.r) (drop l.i l.facts) ≡ given (setting_of l.r) l.ctx.0 l.t l.sign) × AllGiven l.r.w.now l.ctx l.t l.sign l.polys l.whys
