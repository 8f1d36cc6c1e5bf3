use Rattle.std.proofs.Common.{List, reverse, refl, sym, subst, ◌∙◌}
use Rattle.std.specs.Vec.{vec_capacity}
use Rattle.ap_table.specs.Core.{root}
use Rattle.ap_table.specs.Shown.{Run, turns, nodes_of}
use Rattle.ap_table.specs.declared.stored.Entry.{Entry}
use Rattle.ap_table.specs.Ended.{AreNotes, IsKeptNote, HasEnded, Ends}
use Rattle.ap_table.proofs.After.{after_sound}
use Rattle.ap_table.proofs.Gathered.{makes_up, trees, root_ended, walk_gathered}
use Rattle.ap_table.proofs.Noted.{can_note_all, notes_shown}
use Rattle.ap_table.proofs.nodes.Nodes.finish.Goals as goal

pub notes-requires : goal.notes-requires
notes-requires g c =
    let i = c.self.inside in
    let step = g.S.Step.step_of in
    let depth = g.S.Step.depth in
    let r : Run g.row.S-Task.Denot = record { root = i.root; rule = i.rule; history = i.history.items } in
    let sound = after_sound step depth i.rule g.met.S.Step.tells g.met.S.Step.deeper i.root (turns i.history.items) c.self.invariant.allowed in
    rw c.as_slice.ensures.value
    (can_note_all step depth i.rule g.S.Step.name i.nodes.items (nodes_of step depth r) c.self.invariant.shows sound c.self.invariant.kids (root i.root) i.history.items c.self.invariant.allowed refl)

pub pieces-requires-clause-trees : goal.pieces-requires-clause-trees
pieces-requires-clause-trees g c =
    let i = c.self.inside in
    let step = g.S.Step.step_of in
    let depth = g.S.Step.depth in
    let r : Run g.row.S-Task.Denot = record { root = i.root; rule = i.rule; history = i.history.items } in
    let sound = after_sound step depth i.rule g.met.S.Step.tells g.met.S.Step.deeper i.root (turns i.history.items) c.self.invariant.allowed in
    trees step depth i.rule i.nodes.items (nodes_of step depth r) c.self.invariant.shows sound c.self.invariant.kids

pub pieces-requires-clause-makes : goal.pieces-requires-clause-makes
pieces-requires-clause-makes g c =
    let i = c.self.inside in
    let step = g.S.Step.step_of in
    let depth = g.S.Step.depth in
    let r : Run g.row.S-Task.Denot = record { root = i.root; rule = i.rule; history = i.history.items } in
    let sound = after_sound step depth i.rule g.met.S.Step.tells g.met.S.Step.deeper i.root (turns i.history.items) c.self.invariant.allowed in
    makes_up step depth i.rule i.nodes.items (nodes_of step depth r) c.self.invariant.shows sound

pub pieces-requires-clause-root : goal.pieces-requires-clause-root
pieces-requires-clause-root g c =
    let i = c.self.inside in
    let step = g.S.Step.step_of in
    let depth = g.S.Step.depth in
    let r : Run g.row.S-Task.Denot = record { root = i.root; rule = i.rule; history = i.history.items } in
    root_ended step depth g.met.S.Step.tells g.met.S.Step.deeper r i.nodes.items (reverse i.live.items) (vec_capacity i.history) c.self.invariant (subst (HasEnded step depth) (sym c.self.view_is) c.requires)

pub returns : goal.returns
returns g c =
    let i = c.self.inside in
    let step = g.S.Step.step_of in
    let depth = g.S.Step.depth in
    let name = g.S.Step.name in
    let tells = g.met.S.Step.tells in
    let deeper = g.met.S.Step.deeper in
    let r : Run g.row.S-Task.Denot = record { root = i.root; rule = i.rule; history = i.history.items } in
    let sound = after_sound step depth i.rule tells deeper i.root (turns i.history.items) c.self.invariant.allowed in
    let ended = subst (HasEnded step depth) (sym c.self.view_is) c.requires in
    subst (λ (x : Run g.row.S-Task.Denot). Ends step depth name x c.cut_from.result c.in_ok-notes.notes) c.self.view_is (
      c.cut_from.ensures ∙ walk_gathered step depth tells deeper r i.nodes.items (reverse i.live.items) (vec_capacity i.history) c.in_ok-marks.marks c.self.invariant ended c.in_ok-marks.ensures,
      notes_shown step depth i.rule name i.nodes.items (nodes_of step depth r) c.self.invariant.shows sound c.self.invariant.kids (root i.root) i.history.items c.in_ok-notes.notes c.self.invariant.allowed refl (subst (λ (h : List Entry). AreNotes (IsKeptNote name i.nodes.items) h c.in_ok-notes.notes) c.as_slice.ensures.value c.in_ok-notes.ensures),
    )
