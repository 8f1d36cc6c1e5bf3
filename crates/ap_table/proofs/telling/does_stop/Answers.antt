use Rattle.std.proofs.Common.{arith, sym, ◌∙◌}
use Rattle.ap_table.proofs.Totals.{stop_ended, stop_reverts, stop_limit}
use Rattle.ap_table.proofs.telling.does_stop.Goals as goal

pub returns-then-sum-ge1 : goal.returns-then-sum-ge1
returns-then-sum-ge1 c = stop_ended c.args.rule c.args.sum (omega (arith, c.if-sum-ge1.true))

pub returns-then-does_revert : goal.returns-then-does_revert
returns-then-does_revert c = stop_reverts c.args.rule c.args.sum (sym c.does_revert.ensures ∙ c.if-does_revert.true)

pub returns : goal.returns
returns c = stop_limit c.args.rule c.args.sum (omega (arith, c.if-sum-ge1.false)) (sym c.does_revert.ensures ∙ c.if-does_revert.false)
