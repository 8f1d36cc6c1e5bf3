use Rattle.std.proofs.Common.{◌≡◌, ◌<◌, length, sym, ◌∙◌, rules, true, false, is_some}
use Rattle.ap_kernel.specs.Solving.{solved_made}
use Rattle.ap_strategy.proofs.Places.{solved_here, solved_later}
use Rattle.ap_strategy.proofs.simplifying.solvable_place.Goals as goal

pub returns-then-is_solvable : goal.returns-then-is_solvable
returns-then-is_solvable c =
    let h : c.loop-place.place < length c.args.c.now.0 = search rules in
    let k : is_some (solved_made c.args.c.now c.loop-place.place) ≡ true = sym c.is_solvable.ensures ∙ c.if-is_solvable.true in
    (k, sym c.loop-place.invariant ∙ solved_here c.args.c.now c.loop-place.place h k)

pub loop-place-preserved : goal.loop-place-preserved
loop-place-preserved c =
    let h : c.loop-place.place < length c.args.c.now.0 = search rules in
    let k : is_some (solved_made c.args.c.now c.loop-place.place) ≡ false = sym c.is_solvable.ensures ∙ c.if-is_solvable.false in
    sym (solved_later c.args.c.now c.loop-place.place h k) ∙ c.loop-place.invariant
