use Rattle.std.proofs.Common.{sym, ◌∙◌, arith}
use Rattle.ap_speculate.proofs.Settling.{row_begins, row_below_at, row_of_at, row_next_at, row_ends}
use Rattle.ap_speculate.proofs.sides.settle_row.Goals as goal

pub loop-dealer-init : goal.loop-dealer-init
loop-dealer-init c = row_begins c.args.owns.now.items c.args.row.items c.requires

pub index_mut-requires : goal.index_mut-requires
index_mut-requires c =
    let low = row_below_at c.args.owns.now.items c.args.row.items c.loop-dealer.owns.items c.loop-dealer.row.items c.pop.new.self.items c.in-Some.dealer c.len-at.result (c.len-at.ensures ∙ c.pop.new.self.ok.0) c.in-Some.ensures.items c.loop-dealer.invariant in
    let long = c.loop-dealer.owns.ok.0 in
    omega arith

pub settle-requires : goal.settle-requires
settle-requires c =
    row_of_at c.args.owns.now.items c.args.row.items c.loop-dealer.owns.items c.loop-dealer.row.items c.pop.new.self.items c.in-Some.dealer c.index_mut.result.now c.len-at.result (c.len-at.ensures ∙ c.pop.new.self.ok.0) c.in-Some.ensures.items
    c.loop-dealer.invariant c.index_mut.ensures.value

pub loop-dealer-preserved : goal.loop-dealer-preserved
loop-dealer-preserved c =
    row_next_at c.args.owns.now.items c.args.row.items c.loop-dealer.owns.items c.loop-dealer.row.items c.pop.new.self.items c.in-Some.dealer c.index_mut.result.now c.settle.new.self c.len-at.result (c.len-at.ensures ∙ c.pop.new.self.ok.0)
    c.in-Some.ensures.items c.loop-dealer.invariant c.index_mut.ensures.value c.settle.ensures.same c.settle.ensures.got c.settle.ensures.within

pub returns-clause-got : goal.returns-clause-got
returns-clause-got c =
    (row_ends c.args.owns.now.items c.args.row.items c.loop-dealer.owns.items c.loop-dealer.row.items (sym c.loop-dealer.row.ok.0 ∙ c.in_default.ensures.cases.0) c.loop-dealer.invariant).0

pub returns-clause-settled : goal.returns-clause-settled
returns-clause-settled c =
    (row_ends c.args.owns.now.items c.args.row.items c.loop-dealer.owns.items c.loop-dealer.row.items (sym c.loop-dealer.row.ok.0 ∙ c.in_default.ensures.cases.0) c.loop-dealer.invariant).1
