use Rattle.std.proofs.Common.{◌≡◌, ◌≤◌, ◌<◌, ◌+◌, Some, None, arith, sym, ap, subst, ◌∙◌, length, ◌⊎◌}
use Rattle.std.specs.List.{slice_get}
use Rattle.ap_table.specs.declared.stored.Stored.{Stored}
use Rattle.ap_table.specs.Sums.{sum_at, sums_of, IsTold}
use Rattle.ap_table.proofs.Showing.{get_at, below_length, length_alter}
use Rattle.ap_table.proofs.Totals.{goes_on, told_in_goals}
use Rattle.ap_table.proofs.Families.{goals_each}
use Rattle.ap_table.proofs.Hearing.{hears_root, hears_open, hears_shut, path_ends, sum_there, parent_by, same_kept}
use Rattle.ap_table.proofs.settling.settle_one.Goals as goal

pub nearest-requires : goal.nearest-requires
nearest-requires g c =
    let x = sum_there c.args.nodes.now.items c.args.i c.args.sum c.requires.1.sum in
    below_length c.args.nodes.now.items c.args.i x.0 x.1

pub returns-in_default : goal.returns-in_default
returns-in_default g c = λ ns f path r le w within.
    let x = sum_there c.args.nodes.now.items c.args.i c.args.sum r.sum in
    hears_root g.S.Step.step_of g.S.Step.depth c.args.rule ns c.args.nodes.now.items c.args.i f c.args.sum x.0 path r x.1 (path_ends x.0.path (c.in_default.ensures x.0 x.1)) w

pub index-node-requires : goal.index-node-requires
index-node-requires g c =
    let a = parent_by g.S.Step.step_of g.S.Step.depth c.args.rule c.requires.0 c.args.nodes.now.items c.args.i c.args.sum c.in-Some.link c.requires.1 c.in-Some.ensures in
    let b = below_length c.args.nodes.now.items c.in-Some.link.family a.up.above.kept a.up.above.at in
    let l = c.args.nodes.now.ok.0 in
    omega arith

pub counted-told-requires : goal.counted-told-requires
counted-told-requires g c =
    let a = parent_by g.S.Step.step_of g.S.Step.depth c.args.rule c.requires.0 c.args.nodes.now.items c.args.i c.args.sum c.in-Some.link c.requires.1 c.in-Some.ensures in
    let xs = c.args.nodes.now.items in
    let l = c.in-Some.link in
    let x = c.index-node.result.now in
    let at = get_at xs l.family x (below_length c.args.nodes.now.items c.in-Some.link.family a.up.above.kept a.up.above.at) c.index-node.ensures in
    let same = same_kept xs l.family a.up.above.kept x a.up.above.at at in
    record {
      small = subst (λ (y : Stored g.row.S-Task.Denot). y.first + y.count ≤ 1000000) same a.up.fits;
      place = subst (λ (y : Stored g.row.S-Task.Denot). l.place < y.count) same a.up.within;
      sum = subst (λ (y : Stored g.row.S-Task.Denot). sum_at None xs (y.first + l.place) ≡ Some c.args.sum) same a.up.sum;
      each = goals_each xs x.first x.count c.requires.1.in_goals;
      told = subst (λ (y : Stored g.row.S-Task.Denot). IsTold c.args.rule (sums_of (Some (y.first + l.place)) xs y.first y.count) y.told) same a.up.told;
    }

pub can_close-closes-requires : goal.can_close-closes-requires
can_close-closes-requires g c =
    let a = parent_by g.S.Step.step_of g.S.Step.depth c.args.rule c.requires.0 c.args.nodes.now.items c.args.i c.args.sum c.in-Some.link c.requires.1 c.in-Some.ensures in
    below_length c.args.nodes.now.items c.in-Some.link.family a.up.above.kept a.up.above.at

pub set_told-requires : goal.set_told-requires
set_told-requires g c =
    let a = parent_by g.S.Step.step_of g.S.Step.depth c.args.rule c.requires.0 c.args.nodes.now.items c.args.i c.args.sum c.in-Some.link c.requires.1 c.in-Some.ensures in
    below_length c.args.nodes.now.items c.in-Some.link.family a.up.above.kept a.up.above.at

pub closed_sum-sum-requires : goal.closed_sum-sum-requires
closed_sum-sum-requires g c =
    let xs = c.args.nodes.now.items in
    let x = c.index-node.result.now in (
      told_in_goals c.args.rule (sums_of None xs x.first x.count) c.counted-told.result c.counted-told.ensures.told (goals_each xs x.first x.count c.requires.1.in_goals),
      (goes_on c.args.rule c.counted-told.result.sum c.counted-told.ensures.told.before).2,
    )

pub set_stage-requires : goal.set_stage-requires
set_stage-requires g c =
    let a = parent_by g.S.Step.step_of g.S.Step.depth c.args.rule c.requires.0 c.args.nodes.now.items c.args.i c.args.sum c.in-Some.link c.requires.1 c.in-Some.ensures in
    let b = below_length c.args.nodes.now.items c.in-Some.link.family a.up.above.kept a.up.above.at in
    let l = length_alter c.args.nodes.now.items c.in-Some.link.family (λ x. record x { told = c.counted-told.result }) in
    let e = ap length c.set_told.ensures in
    omega arith

pub returns-then-not-closes : goal.returns-then-not-closes
returns-then-not-closes g c = λ ns f path r le w within.
    let a = parent_by g.S.Step.step_of g.S.Step.depth c.args.rule ns c.args.nodes.now.items c.args.i c.args.sum c.in-Some.link r c.in-Some.ensures in
    let xs = c.args.nodes.now.items in
    let l = c.in-Some.link in
    let x = c.index-node.result.now in
    let d = c.counted-told.result in
    let at = get_at xs l.family x (below_length c.args.nodes.now.items c.in-Some.link.family a.up.above.kept a.up.above.at) c.index-node.ensures in
    let same = same_kept xs l.family x a.up.above.kept at a.up.above.at in
    rw c.set_told.ensures
    (hears_open g.S.Step.step_of g.S.Step.depth c.args.rule ns xs c.args.i f c.args.sum a.kept l a.rest path d r a.at a.path a.up
    (subst (λ (y : Stored g.row.S-Task.Denot). IsTold c.args.rule (sums_of None xs y.first y.count) d) same c.counted-told.ensures.told)
    (subst (λ (y : Stored g.row.S-Task.Denot). d.stop ≤ y.told.stop) same c.counted-told.ensures.falls)
    (subst (λ (y : Stored g.row.S-Task.Denot). (d.front ≡ y.count) ⊎ (slice_get (sums_of None xs y.first y.count) d.front ≡ Some None)) same c.counted-told.ensures.next)
    le w (within a.kept a.at) (sym (c.can_close-closes.ensures a.up.above.kept a.up.above.at) ∙ c.if-not-closes.true))

pub returns : goal.returns
returns g c = λ ns f path r le w within.
    let a = parent_by g.S.Step.step_of g.S.Step.depth c.args.rule ns c.args.nodes.now.items c.args.i c.args.sum c.in-Some.link r c.in-Some.ensures in
    let xs = c.args.nodes.now.items in
    let l = c.in-Some.link in
    let x = c.index-node.result.now in
    let d = c.counted-told.result in
    let at = get_at xs l.family x (below_length c.args.nodes.now.items c.in-Some.link.family a.up.above.kept a.up.above.at) c.index-node.ensures in
    let same = same_kept xs l.family x a.up.above.kept at a.up.above.at in
    rw (c.set_stage.ensures, c.set_told.ensures, c.closed_sum-sum.ensures)
    (hears_shut g.S.Step.step_of g.S.Step.depth c.args.rule ns xs c.args.i f c.args.sum a.kept l a.rest path d r a.at a.path a.up
    (subst (λ (y : Stored g.row.S-Task.Denot). IsTold c.args.rule (sums_of None xs y.first y.count) d) same c.counted-told.ensures.told)
    (subst (λ (y : Stored g.row.S-Task.Denot). d.stop ≤ y.told.stop) same c.counted-told.ensures.falls)
    (subst (λ (y : Stored g.row.S-Task.Denot). (d.front ≡ y.count) ⊎ (slice_get (sums_of None xs y.first y.count) d.front ≡ Some None)) same c.counted-told.ensures.next)
    le w (within a.kept a.at) g.met.S.Step.tells g.met.S.Step.deeper (sym (c.can_close-closes.ensures a.up.above.kept a.up.above.at) ∙ c.if-not-closes.false))
