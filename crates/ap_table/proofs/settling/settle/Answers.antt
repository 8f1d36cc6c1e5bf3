use Rattle.std.proofs.Common.{arith}
use Rattle.ap_table.proofs.Hearing.{settle_first, settle_last, next_within, next_levels, sum_there}
use Rattle.ap_table.proofs.settling.settle.Goals as goal

pub settle_one-requires-2 : goal.settle_one-requires-2
settle_one-requires-2 g c =
    let n = c.in-Some.ensures c.requires.ready.0 c.args.i c.requires.words.0 c.requires.ready.1 (omega arith) c.requires.words.1 c.requires.words.2 in
    (n.nodes, n.ready)

pub returns-in_default : goal.returns-in_default
returns-in_default g c = c.in_default.ensures

pub settle_one-requires-3 : goal.settle_one-requires-3
settle_one-requires-3 g c =
    let path = c.requires.words.0 in
    let n = c.in-Some.ensures c.requires.ready.0 c.args.i path c.requires.ready.1 (omega arith) c.requires.words.1 c.requires.words.2 in
    let within = next_within g.S.Step.step_of g.S.Step.depth c.args.rule c.requires.ready.0 c.args.i path c.args.nodes.now.items c.settle_one.new.nodes.items c.args.i c.in-Some.parent c.in-Some.sum n in
    let m = c.in-Some-settle_one.ensures n.nodes n.fuel path n.ready n.enough n.words within in
    (m.nodes, m.ready)

pub returns-in_default-settle_one : goal.returns-in_default-settle_one
returns-in_default-settle_one g c = λ ns f path r le w within.
    let n = c.in-Some.ensures ns f path r le w within in
    let within' = next_within g.S.Step.step_of g.S.Step.depth c.args.rule ns f path c.args.nodes.now.items c.settle_one.new.nodes.items c.args.i c.in-Some.parent c.in-Some.sum n in
    settle_first g.S.Step.step_of g.S.Step.depth c.args.rule path c.args.nodes.now.items c.settle_one.new.nodes.items c.settle_one-2.new.nodes.items ns f c.args.i c.in-Some.parent c.in-Some.sum n
    (c.in_default-settle_one.ensures n.nodes n.fuel path n.ready n.enough n.words within')

pub returns : goal.returns
returns g c = λ ns f path r le w within.
    let step = g.S.Step.step_of in
    let depth = g.S.Step.depth in
    let old = c.args.nodes.now.items in
    let mid = c.settle_one.new.nodes.items in
    let low = c.settle_one-2.new.nodes.items in
    let new = c.settle_one-3.new.nodes.items in
    let x = sum_there old c.args.i c.args.sum r.sum in
    let n = c.in-Some.ensures ns f path r le w within in
    let m = c.in-Some-settle_one.ensures n.nodes n.fuel path n.ready n.enough n.words (next_within step depth c.args.rule ns f path old mid c.args.i c.in-Some.parent c.in-Some.sum n) in
    let last = c.settle_one-3.ensures m.nodes m.fuel path m.ready m.enough m.words (next_within step depth c.args.rule n.nodes n.fuel path mid low c.in-Some.parent c.in-Some-settle_one.next c.in-Some-settle_one.sum m) in
    let two = next_levels step depth c.args.rule ns f path old mid c.args.i c.in-Some.parent 2 c.in-Some.sum n x.0 x.1 (omega (arith, c.requires.levels x.0 x.1)) n.kept n.at in
    let one = next_levels step depth c.args.rule n.nodes n.fuel path mid low c.in-Some.parent c.in-Some-settle_one.next 1 c.in-Some-settle_one.sum m n.kept n.at (omega (arith, two)) m.kept m.at in
    settle_first step depth c.args.rule path old mid new ns f c.args.i c.in-Some.parent c.in-Some.sum n
    (settle_first step depth c.args.rule path mid low new n.nodes n.fuel c.in-Some.parent c.in-Some-settle_one.next c.in-Some-settle_one.sum m
    (settle_last step depth c.args.rule m.nodes m.fuel path low new c.in-Some-settle_one.next m.kept m.at one c.settle_one-3.result last))
