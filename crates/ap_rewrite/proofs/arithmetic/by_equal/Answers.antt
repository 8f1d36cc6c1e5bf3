use Rattle.std.proofs.Common.{◌≡◌, true, sym, subst}
use Rattle.ap_term.specs.declared.term.Term.{Term}
use Rattle.ap_kernel.specs.Linear.{is_comparison}
use Rattle.ap_rewrite.proofs.Refuted.{equal_compares}
use Rattle.ap_rewrite.proofs.arithmetic.by_equal.Goals as goal

pub by_truth-requires-clause-comparison : goal.by_truth-requires-clause-comparison
by_truth-requires-clause-comparison g c = subst (λ (u : Term). is_comparison u ≡ true) (sym c.requires.equation) (equal_compares c.args.a.now c.args.b.now)
