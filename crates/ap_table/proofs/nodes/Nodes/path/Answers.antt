use Rattle.std.proofs.Common.{◌≡◌, ◌≤◌, Some, length, sym, subst, ◌∙◌, arith}
use Rattle.std.specs.List.{slice_get}
use Rattle.ap_table.specs.Core.{Node}
use Rattle.ap_table.specs.Shown.{Run, nodes_of}
use Rattle.ap_table.proofs.Showing.{get_at, shown_at, show_length}
use Rattle.ap_table.proofs.nodes.Nodes.path.Goals as goal

pub returns-then-i-len-clause-none : goal.returns-then-i-len-clause-none
returns-then-i-len-clause-none g c e =
    let i = c.self.inside in
    let step = g.S.Step.step_of in
    let depth = g.S.Step.depth in
    let r : Run g.row.S-Task.Denot = record { root = i.root; rule = i.rule; history = i.history.items } in
    let long = show_length step i.nodes.items (nodes_of step depth r) c.self.invariant.shows in
    let past = c.if-i-len.true in
    let len = c.len.ensures in
    subst (λ (x : Run g.row.S-Task.Denot). length (nodes_of step depth x) ≤ c.args.node) c.self.view_is (omega arith)

pub returns-clause-there : goal.returns-clause-there
returns-clause-there g c =
    let i = c.self.inside in
    let step = g.S.Step.step_of in
    let depth = g.S.Step.depth in
    let r : Run g.row.S-Task.Denot = record { root = i.root; rule = i.rule; history = i.history.items } in
    let x = c.index.result.now in
    let at = get_at i.nodes.items c.args.node x (omega (arith, c.if-i-len.false, c.len.ensures)) c.index.ensures in
    let n = shown_at step i.nodes.items (nodes_of step depth r) c.args.node x c.self.invariant.shows at in
    subst (λ (y : Run g.row.S-Task.Denot). (n : Node g.row.S-Task.Denot) × (slice_get (nodes_of step depth y) c.args.node ≡ Some n) × (n.path ≡ c.as_slice.result.now)) c.self.view_is
    (n.0, n.1, sym n.2.path ∙ sym c.as_slice.ensures)
