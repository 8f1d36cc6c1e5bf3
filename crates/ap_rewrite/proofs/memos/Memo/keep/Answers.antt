use Rattle.std.proofs.Common.{arith}
use Rattle.ap_rewrite.proofs.Remembered.{keep_remembers, keep_shown}
use Rattle.ap_rewrite.proofs.memos.Memo.keep.Goals as goal

pub invariant_of-self-2 : goal.invariant_of-self-2
invariant_of-self-2 c =
    keep_remembers c.self.inside.w.now c.self.inside.theory.now c.self.inside.expand.now c.self.inside.here c.put.new.here c.self.inside.around.items c.self.inside.last c.key_of.result
    c.args.mode c.args.at.now c.args.t.now c.args.levels c.args.before c.args.after c.in-Some.cost c.args.answer.now c.in_ok-known.known c.args.self.now
    c.self.invariant c.self.view_is c.requires.here c.requires.is c.requires.leads c.in-Some.ensures (omega arith) c.in_ok-known.ensures c.put.ensures

pub returns : goal.returns
returns c = record {
  kept =
      keep_shown c.self.inside.w.now c.self.inside.theory.now c.self.inside.expand.now c.self.inside.here c.put.new.here c.self.inside.around.items c.key_of.result c.in_ok-known.known c.args.self.now
      c.self.view_is c.put.ensures;
}
