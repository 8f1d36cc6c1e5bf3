use Rattle.std.proofs.Common.{◌≡◌, ◌+◌, ◌-◌, length, false, sym, ◌∙◌, rules, arith}
use Rattle.ap_weaken.specs.Fertilize.{can_use}
use Rattle.ap_weaken.proofs.Used.{next_number}
use Rattle.ap_weaken.proofs.fertilizing.used_in.Goals as goal

pub loop-j-preserved : goal.loop-j-preserved
loop-j-preserved c =
    let not_there : can_use c.args.c.now c.args.i c.loop-j.j ≡ false = search rules in
    sym (next_number (can_use c.args.c.now c.args.i) (length c.args.c.now.0 - c.loop-j.j) (length c.args.c.now.0 - (c.loop-j.j + 1)) c.loop-j.j (omega arith) not_there) ∙ c.loop-j.invariant
