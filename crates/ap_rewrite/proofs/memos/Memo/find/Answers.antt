use Rattle.std.specs.Option.{option_copied}
use Rattle.ap_rewrite.specs.Serving.{Serves}
use Rattle.ap_rewrite.specs.Remembering.{RecalledIs}
use Rattle.ap_rewrite.proofs.Remembered.{find_is, mapped_ok}
use Rattle.ap_rewrite.proofs.memos.Memo.find.Goals as goal

pub returns : goal.returns
returns c = record {
  is =
      mapped_ok (λ r. Serves (option_copied c.entry_of-found.result) c.args.levels c.args.mode c.args.at.now.chain c.args.t.now c.args.left r)
      (λ r. RecalledIs c.args.self.now c.args.levels c.args.mode c.args.at.now c.args.t.now c.args.left r) c.recall_from.result
      (λ r s. find_is c.self.inside.w.now c.self.inside.theory.now c.self.inside.expand.now c.self.inside.here c.self.inside.around.items c.self.inside.last c.args.self.now
      c.args.mode c.args.at.now c.args.t.now c.args.levels c.args.left c.key_of.result (option_copied c.entry_of-found.result) r
      c.self.invariant c.self.view_is c.requires.here c.in-Some.table c.in-Some.is c.entry_of-found.ensures s)
      c.recall_from.ensures;
}
