use Rattle.ap_rewrite.proofs.Remembered.{enter_remembers, enter_ok, enter_err}
use Rattle.ap_rewrite.proofs.memos.Memo.enter.Goals as goal

pub invariant_of-self-2 : goal.invariant_of-self-2
invariant_of-self-2 c =
    enter_remembers c.self.inside.w.now c.self.inside.theory.now c.self.inside.expand.now c.push_table.result c.self.inside.here c.push_table.new.here c.self.inside.around.items c.push_table.new.around.items
    c.self.inside.last c.table_at.new.last c.args.at.now.ctx.now c.args.at.now.closed.now c.in_ok-table.table c.self.invariant c.in_ok-table.ensures.table c.in_ok-table.ensures.last
    c.push_table.ensures.ok c.push_table.ensures.err

pub returns : goal.returns
returns c = record {
  ok =
      enter_ok c.self.inside.w.now c.self.inside.theory.now c.self.inside.expand.now c.push_table.result c.self.inside.here c.push_table.new.here c.self.inside.around.items c.push_table.new.around.items
      c.self.inside.last c.args.at.now.ctx.now c.args.at.now.closed.now c.in_ok-table.table c.args.self.now c.self.view_is c.in_ok-table.ensures.table c.push_table.ensures.ok;
  err =
      enter_err c.self.inside.w.now c.self.inside.theory.now c.self.inside.expand.now c.push_table.result c.self.inside.here c.push_table.new.here c.self.inside.around.items c.push_table.new.around.items c.args.self.now
      c.self.view_is c.push_table.ensures.err;
}
