use Rattle.std.proofs.Common.{◌≡◌, drop, map}
use Rattle.ap_list.specs.Lists.{all_true}
use Rattle.ap_term.specs.declared.term.Term.{out-Term}
use Rattle.ap_world.specs.Typing.{is_variable}
use Rattle.ap_world.proofs.recognisers.are_variables.Given as goal

abbrev pub invariant-loop-t : goal.invariant-loop-t
invariant-loop-t l = all_true (map (λ u. is_variable (out-Term u)) (drop l.t-index l.ts)) ≡ all_true (map (λ u. is_variable (out-Term u)) l.ts)
