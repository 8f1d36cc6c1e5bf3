use Rattle.std.proofs.Common.{sym, ◌∙◌}
use Rattle.ap_speculate.proofs.Settling.{rows_begin, rows_next, last_row, rows_end}
use Rattle.ap_speculate.proofs.sides.settle_all.Goals as goal

pub loop-row-init : goal.loop-row-init
loop-row-init c = rows_begin c.args.owns.items c.args.rows.items c.requires.rows c.requires.some

pub loop-row-preserved : goal.loop-row-preserved
loop-row-preserved c =
    rows_next c.args.owns.items c.args.rows.items c.loop-row.owns.items c.settle_row.new.owns.items c.loop-row.rows.items c.pop.new.self.items c.in-Some.row c.in-Some.ensures.items c.loop-row.invariant
    c.settle_row.ensures.same c.settle_row.ensures.dealt c.settle_row.ensures.got c.settle_row.ensures.settled

pub settle_row-requires : goal.settle_row-requires
settle_row-requires c =
    last_row c.args.owns.items c.args.rows.items c.loop-row.owns.items c.loop-row.rows.items c.pop.new.self.items c.in-Some.row c.in-Some.ensures.items c.loop-row.invariant

pub returns-clause-got : goal.returns-clause-got
returns-clause-got c =
    (rows_end c.args.owns.items c.args.rows.items c.loop-row.owns.items c.loop-row.rows.items (sym c.loop-row.rows.ok.0 ∙ c.in_default.ensures.cases.0) c.loop-row.invariant).0

pub returns-clause-settled : goal.returns-clause-settled
returns-clause-settled c =
    (rows_end c.args.owns.items c.args.rows.items c.loop-row.owns.items c.loop-row.rows.items (sym c.loop-row.rows.ok.0 ∙ c.in_default.ensures.cases.0) c.loop-row.invariant).1
