use Rattle.std.proofs.Common.{◌≡◌, ◌∷◌, take}
use Rattle.ap_rules.proofs.refusing.bound_variables.Given as goal

-- the left side, and the hypotheses so far
abbrev pub invariant-loop-hyp : goal.invariant-loop-hyp
invariant-loop-hyp l = l.terms ≡ l.rule.lhs ∷ take l.hyp-index l.rule.hyps
