use Rattle.std.proofs.Common.{◌∙◌, arith}
use Rattle.ap_table.specs.Ended.{IsKeptNote}
use Rattle.ap_table.proofs.Noted.{drop_next, other_next, all_noted, can_note_at}
use Rattle.ap_table.proofs.noting.notes.Goals.{in-Dropped+in_ok-one+in_ok-push, in_default}
use Rattle.ap_table.proofs.noting.notes.Goals as goal

pub note-requires : goal.note-requires
note-requires g c = can_note_at c.args.nodes.now.items c.args.history.now c.loop-place.place c.in-Dropped.node c.in-Dropped.license _ c.loop-place-test.true c.in-Dropped.is c.requires

pub loop-place-preserved : goal.loop-place-preserved
loop-place-preserved g c =
    let one = IsKeptNote g.S.Step.name c.args.nodes.now.items in
    elim c.match-history-place.branch [
      | in-Dropped+in_ok-one+in_ok-push w ↦
          drop_next one c.args.history.now c.loop-place.notes c.match-history-place.notes c.loop-place.place w.in-Dropped.node w.in-Dropped.license w.in_ok-one.one _
          c.loop-place-test.true w.in-Dropped.is c.loop-place.invariant w.in_ok-one.ensures (w.notes-is ∙ w.in_ok-push.ensures.ok)
      | in_default w ↦ other_next one c.args.history.now c.loop-place.notes c.match-history-place.notes c.loop-place.place _ c.loop-place-test.true w.in_default.not-Dropped c.loop-place.invariant w.notes-is
    ]

pub returns : goal.returns
returns g c = all_noted (IsKeptNote g.S.Step.name c.args.nodes.now.items) c.args.history.now c.loop-place.notes c.loop-place.place (omega (arith, c.loop-place-test.false)) c.loop-place.invariant
