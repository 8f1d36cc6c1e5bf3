use Rattle.ap_rewrite.proofs.Remembered.{can_leave, leave_remembers, leave_shown}
use Rattle.ap_rewrite.proofs.memos.Memo.leave.Goals as goal

pub pop_table-requires : goal.pop_table-requires
pop_table-requires c = can_leave c.self.inside.w.now c.self.inside.theory.now c.self.inside.expand.now c.self.inside.here c.self.inside.around.items c.args.self.now c.self.view_is c.requires.entered

pub invariant_of-self : goal.invariant_of-self
invariant_of-self c =
    leave_remembers c.self.inside.w.now c.self.inside.theory.now c.self.inside.expand.now c.self.inside.here c.pop_table.new.here c.self.inside.around.items c.pop_table.new.around.items
    c.self.inside.last c.pop_table.new.last c.self.invariant c.pop_table.ensures

pub returns : goal.returns
returns c = record {
  left =
      leave_shown c.self.inside.w.now c.self.inside.theory.now c.self.inside.expand.now c.self.inside.here c.pop_table.new.here c.self.inside.around.items c.pop_table.new.around.items
      c.self.inside.last c.pop_table.new.last c.args.self.now c.self.view_is c.pop_table.ensures;
}
