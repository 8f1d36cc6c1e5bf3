use Rattle.std.proofs.Common.{◌≡◌, true, false, sym, ◌∙◌, rules, arith}
use Rattle.ap_kernel.specs.Solving.{occurs_in}
use Rattle.ap_elim.specs.Naming.{numbered}
use Rattle.ap_elim.proofs.Named.{next_tried, this_found}
use Rattle.ap_elim.proofs.naming.first_new.Goals as goal

pub returns-then-not-occurs_in : goal.returns-then-not-occurs_in
returns-then-not-occurs_in c =
    let new : occurs_in (numbered c.args.stem.now c.loop-left.number) c.args.literals.now ≡ false = search rules in
    let found = this_found c.args.stem.now c.args.literals.now c.loop-left.left c.loop-left.number (omega arith) new in
    let same = c.loop-left.invariant.0 in
    search rules

pub loop-left-preserved : goal.loop-left-preserved
loop-left-preserved c =
    let taken : occurs_in (numbered c.args.stem.now c.loop-left.number) c.args.literals.now ≡ true = search rules in
    let next = next_tried c.args.stem.now c.args.literals.now c.loop-left.left c.loop-left.number (omega arith) taken in
    (sym next ∙ c.loop-left.invariant.0, omega arith)
