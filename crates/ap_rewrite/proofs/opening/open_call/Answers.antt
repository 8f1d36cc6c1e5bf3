use Rattle.std.proofs.Common.{List, sym, ap, ◌∙◌}
use Rattle.ap_list.specs.Lists.{is_among}
use Rattle.ap_term.specs.declared.term.Term.{Term}
use Rattle.ap_term.specs.Equal.{term_eq}
use Rattle.ap_rewrite.specs.Answering.{setting_of, inner_of, seen_at}
use Rattle.ap_rewrite.proofs.Chained.{same_answer}
use Rattle.ap_rewrite.proofs.Opened.{disabled, among}
use Rattle.ap_rewrite.proofs.Tested.{by_test}
use Rattle.ap_rewrite.proofs.opening.open_call.Goals.{then-not-is_enabled-via-then-not-is_enabled, then-not-is_enabled-via-else-not-is_enabled+then-is_among}
use Rattle.ap_rewrite.proofs.opening.open_call.Goals as goal

pub returns-then-not-is_enabled-clause-is : goal.returns-then-not-is_enabled-clause-is
returns-then-not-is_enabled-clause-is g c =
    let off = disabled (setting_of c.args.l.now.r.now) (inner_of c.args.l.now.r.now c.args.l.now.levels) c.args.mode (seen_at c.args.at.now) c.args.call.now.t.now c.args.call.now.f.now c.args.call.now.us.now c.args.g.now c.args.steps.now.left in
    let shut = among (setting_of c.args.l.now.r.now) (inner_of c.args.l.now.r.now c.args.l.now.levels) c.args.mode (seen_at c.args.at.now) c.args.call.now.t.now c.args.call.now.f.now c.args.call.now.us.now c.args.g.now c.args.steps.now.left in
    elim c.then-not-is_enabled.branch [
      | then-not-is_enabled-via-then-not-is_enabled w ↦ off (sym c.is_enabled.ensures ∙ w.if-not-is_enabled.true)
      | then-not-is_enabled-via-else-not-is_enabled+then-is_among w ↦ shut (sym w.is_among.ensures ∙ w.if-is_among.true)
    ]

pub open_at_once-requires-clause-enabled : goal.open_at_once-requires-clause-enabled
open_at_once-requires-clause-enabled g c = sym c.is_enabled.ensures ∙ c.if-not-is_enabled.false

pub open_at_once-requires-clause-free : goal.open_at_once-requires-clause-free
open_at_once-requires-clause-free g c = sym c.is_among.ensures ∙ c.if-is_among.false

pub returns-in-Some-clause-is : goal.returns-in-Some-clause-is
returns-in-Some-clause-is g c =
    same_answer _ _ _ _
    (by_test (setting_of c.args.l.now.r.now) (inner_of c.args.l.now.r.now c.args.l.now.levels) c.args.mode (seen_at c.args.at.now) c.args.call.now.t.now c.args.call.now.f.now c.args.call.now.us.now c.args.g.now c.args.steps.now.left
    (sym c.is_enabled.ensures ∙ c.if-not-is_enabled.false) (sym c.is_among.ensures ∙ c.if-is_among.false) c.in-Some.ensures.recurs
    (ap (λ (us : List Term). is_among term_eq c.args.call.now.t.now us) (sym c.as_slice.ensures) ∙ c.in-Some.ensures.walked)
    c.requires.call c.in-Some.ensures.small)
    c.open_by_test.ensures.is
