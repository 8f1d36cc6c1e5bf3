use Rattle.std.proofs.Common.{◌∙◌, ap, sym, subst, arith, List}
use Rattle.ap_table.specs.Core.{Node}
use Rattle.ap_table.specs.Seated.{with_mark}
use Rattle.ap_table.specs.Worded.{words_of, AreWorded}
use Rattle.ap_table.specs.declared.seats.Beside.{Beside}
use Rattle.ap_table.proofs.Words.{words_amend, marked_word, worded_mark}
use Rattle.ap_table.proofs.Wording.{mark_can, mark_step, no_other}
use Rattle.ap_table.proofs.seating.mark_words.Goals.{in-Marked, in_default}
use Rattle.ap_table.proofs.seating.mark_words.Goals as goal

pub mark_at-requires : goal.mark_at-requires
mark_at-requires g c = mark_can g.S.Step.step_of g.S.Step.depth c.args.nodes.now c.loop-at.seats.items c.history-history.result.now c.loop-at.at _ c.in-Marked.family c.in-Marked.place c.history-history.ensures c.recall_allowed.ensures c.loop-at-test.true c.in-Marked.is c.loop-at.invariant.seated

pub loop-at-preserved : goal.loop-at-preserved
loop-at-preserved g c = record {
  past = omega (arith, c.loop-at.invariant.past);
  seated = elim c.match-history-at.branch [
    | in-Marked w ↦ mark_step g.S.Step.step_of g.S.Step.depth c.args.nodes.now c.loop-at.seats.items c.match-history-at.seats.items c.history-history.result.now c.loop-at.at _ w.in-Marked.family w.in-Marked.place c.history-history.ensures c.loop-at-test.true w.in-Marked.is c.loop-at.invariant.seated (ap (λ s. s.items) w.seats-is ∙ w.mark_at.ensures)
    | in_default w ↦ absurd (no_other c.history-history.result.now c.args.nodes.now.history c.args.from c.loop-at.at _ c.history-history.ensures c.loop-at.invariant.past c.loop-at-test.true c.requires.marks w.in_default.not-Marked)
  ];
  words = elim c.match-history-at.branch [
    | in-Marked w ↦ ap words_of (ap (λ s. s.items) w.seats-is ∙ w.mark_at.ensures) ∙ (words_amend c.loop-at.seats.items w.in-Marked.family (with_mark w.in-Marked.place) (λ b. marked_word w.in-Marked.place b.kept) ∙ c.loop-at.invariant.words)
    | in_default w ↦ absurd (no_other c.history-history.result.now c.args.nodes.now.history c.args.from c.loop-at.at _ c.history-history.ensures c.loop-at.invariant.past c.loop-at-test.true c.requires.marks w.in_default.not-Marked)
  ];
  worded = λ ns a. elim c.match-history-at.branch [
    | in-Marked w ↦ subst (λ (bs : List Beside). AreWorded ns bs) (sym (ap (λ s. s.items) w.seats-is ∙ w.mark_at.ensures)) (worded_mark ns c.loop-at.seats.items w.in-Marked.family w.in-Marked.place (c.loop-at.invariant.worded ns a))
    | in_default w ↦ absurd (no_other c.history-history.result.now c.args.nodes.now.history c.args.from c.loop-at.at _ c.history-history.ensures c.loop-at.invariant.past c.loop-at-test.true c.requires.marks w.in_default.not-Marked)
  ];
}
