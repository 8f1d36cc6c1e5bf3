use Rattle.std.proofs.Common.{◌≡◌, ◌++◌, drop, map}
use Rattle.ap_kernel.proofs.induction.with_choices.Given as goal

-- what is made, and what will be of the rest
abbrev pub invariant-loop-choice : goal.invariant-loop-choice
invariant-loop-choice l = l.out ++ map (λ ls. l.tests ++ (ls ++ l.literals)) (drop l.choice-index l.choices) ≡ map (λ ls. l.tests ++ (ls ++ l.literals)) l.choices
