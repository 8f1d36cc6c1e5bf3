use Rattle.std.proofs.Common.{◌≡◌, ◌+◌, ◌-◌, length, false, sym, ◌∙◌, rules, arith}
use Rattle.ap_weaken.specs.Fertilize.{is_usable}
use Rattle.ap_weaken.proofs.Used.{next_number}
use Rattle.ap_weaken.proofs.fertilizing.hypothesis.Goals as goal

pub loop-i-preserved : goal.loop-i-preserved
loop-i-preserved c =
    let not_there : is_usable c.args.c.now c.loop-i.i ≡ false = search rules in
    sym (next_number (is_usable c.args.c.now) (length c.args.c.now.0 - c.loop-i.i) (length c.args.c.now.0 - (c.loop-i.i + 1)) c.loop-i.i (omega arith) not_there) ∙ c.loop-i.invariant
