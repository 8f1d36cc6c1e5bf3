use Rattle.std.proofs.Common.{Some, ap, ◌∙◌, arith}
use Rattle.ap_term.proofs.Seen.{deeper}
use Rattle.ap_bank.specs.Banks.{terms_at}
use Rattle.ap_bank.proofs.Banked.{terms_stay, terms_push, begins_then, taken_more}
use Rattle.ap_bank.proofs.bank.Bank.+interning.Goals as goal

pub intern_all-loop-u-preserved : goal.intern_all-loop-u-preserved
intern_all-loop-u-preserved t c = record {
  done =
      ap (terms_at c.intern.new.self) c.in_ok-push.ensures.ok
      ∙ terms_push c.intern.new.self c.loop-u.ids _ c.in_ok-id.id c.u-item.result (terms_stay c.loop-u.self c.intern.new.self c.in_ok-id.ensures.begins c.loop-u.ids _ c.loop-u.invariant.done) c.in_ok-id.ensures.is
      ∙ ap Some (taken_more c.args.us.now c.loop-u.u-index c.u-item.result c.loop-u-test.true c.u-item.is);
  begins = begins_then c.args.self.now c.loop-u.self c.intern.new.self c.loop-u.invariant.begins c.in_ok-id.ensures.begins;
}

pub intern-intern_all-requires : goal.intern-intern_all-requires
intern-intern_all-requires t c = let d = deeper c.t.view_is c.in-Call.is c.as_slice.ensures in (omega (arith, c.decreases), tt)
