use Rattle.std.proofs.Common.{◌≡◌, drop, sym, ap, ◌∙◌, arith}
use Rattle.std.proofs.lemmas.List.{take_rest}
use Rattle.ap_tokens.specs.declared.scan.Mark.TheVariants.{Close, Open, Byte}
use Rattle.ap_tokens.specs.Scans.{mark_of}
use Rattle.ap_tokens.proofs.Comments.{step_close, step_open, step_byte}
use Rattle.ap_tokens.proofs.scan.comment_len.Goals as goal

pub loop-n-preserved-in-Close : goal.loop-n-preserved-in-Close
loop-n-preserved-in-Close c =
    let at : mark_of (drop c.loop-n.n c.args.text.now) ≡ Close = ap mark_of (sym (take_rest c.args.text.now c.loop-n.n)) ∙ sym c.in-Close.ensures in
    let step = step_close c.loop-n.deep c.loop-n.n c.args.text.now _ at (omega arith) (omega arith) c.loop-n.invariant.left in
    record { within = step.0; nested = omega arith; left = step.1 }

pub loop-n-preserved-in-Open : goal.loop-n-preserved-in-Open
loop-n-preserved-in-Open c =
    let at : mark_of (drop c.loop-n.n c.args.text.now) ≡ Open = ap mark_of (sym (take_rest c.args.text.now c.loop-n.n)) ∙ sym c.in-Open.ensures in
    let step = step_open c.loop-n.deep c.loop-n.n c.args.text.now _ at (omega arith) c.loop-n.invariant.left in
    record { within = step.0; nested = omega arith; left = step.1 }

pub loop-n-preserved : goal.loop-n-preserved
loop-n-preserved c =
    let at : mark_of (drop c.loop-n.n c.args.text.now) ≡ Byte = ap mark_of (sym (take_rest c.args.text.now c.loop-n.n)) ∙ sym c.in-Byte.ensures in
    record {
      within = omega arith;
      nested = omega arith;
      left = step_byte c.loop-n.deep c.loop-n.n c.args.text.now _ at c.loop-n.invariant.left;
    }
