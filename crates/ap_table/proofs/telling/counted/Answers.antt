use Rattle.std.proofs.Common.{◌+◌, Some, None, arith, refl, sym, ap, ◌∙◌}
use Rattle.ap_table.specs.Sums.{sums_of, sum_first}
use Rattle.ap_table.proofs.Totals.{length_sums, front_short, front_shown, few_pushes, told_behind, sum_after, told_before}
use Rattle.ap_table.proofs.telling.counted.Goals as goal

pub advanced-front-requires-clause-within : goal.advanced-front-requires-clause-within
advanced-front-requires-clause-within g c =
    let f = front_short (sums_of (Some (c.args.first + c.args.place)) c.args.nodes.now.items c.args.first c.args.count) c.args.told.front c.requires.told.front in
    let l = length_sums (Some (c.args.first + c.args.place)) c.args.nodes.now.items c.args.first c.args.count in
    omega arith

pub advanced-front-requires-clause-done : goal.advanced-front-requires-clause-done
advanced-front-requires-clause-done g c = front_shown (c.args.first + c.args.place) c.args.nodes.now.items c.args.first c.args.count c.args.told.front c.requires.told.front

pub returns-then-place-told-clause-told : goal.returns-then-place-told-clause-told
returns-then-place-told-clause-told g c =
    told_behind c.args.rule (c.args.first + c.args.place) c.args.nodes.now.items c.args.first c.args.count c.args.place c.args.sum refl c.requires.place c.requires.sum c.args.told c.advanced-front.result c.requires.told (omega (arith, c.if-place-told.true)) c.advanced-front.ensures.done

pub plus-whole-requires-clause-small : goal.plus-whole-requires-clause-small
plus-whole-requires-clause-small g c =
    let f = few_pushes c.args.rule (c.args.first + c.args.place) c.args.nodes.now.items c.args.first c.args.count c.args.place c.args.sum refl c.requires.place c.requires.sum c.args.told c.requires.told c.requires.each in
    let l = c.args.rule.limited.1 in
    (omega (arith, f.0, f.1), omega (arith, f.1), f.2)

pub lower-at-requires-clause-sum : goal.lower-at-requires-clause-sum
lower-at-requires-clause-sum g c =
    c.plus-whole.ensures ∙ (sum_after c.args.rule (c.args.first + c.args.place) c.args.nodes.now.items c.args.first c.args.count c.args.place c.args.sum refl c.requires.place c.requires.sum c.args.told c.weight.result c.requires.told (omega (arith, c.if-place-told.false)) c.weight.ensures.is
    ∙ ap (sum_first (sums_of None c.args.nodes.now.items c.args.first c.args.count)) (sym c.least-from.ensures))

pub returns-clause-told : goal.returns-clause-told
returns-clause-told g c =
    told_before c.args.rule (c.args.first + c.args.place) c.args.nodes.now.items c.args.first c.args.count c.args.place c.args.sum refl c.requires.place c.requires.sum c.args.told c.advanced-front.result c.stop_after.result c.lower-at.result.0 c.lower-at.result.1 c.requires.told c.advanced-front.ensures.done
    (omega (arith, c.lower-at.ensures.within, c.least-from.ensures)) c.lower-at.ensures.sum c.lower-at.ensures.before
    (rw (sym c.least-from.ensures) c.lower-at.ensures.stop) (rw (sym c.least-from.ensures) c.stop_after.ensures)
