use Rattle.std.proofs.Common.{refl}
use Rattle.ap_names.proofs.Named.{after_front, not_after_front, joined_split}
use Rattle.ap_names.proofs.Parts.{false_true}
use Rattle.ap_names.proofs.parsing.after.Goals as goal

pub returns-then-eq_ignore_ascii_case : goal.returns-then-eq_ignore_ascii_case
returns-then-eq_ignore_ascii_case c =
    let split = c.in_ok-head.ensures.cases in
    after_front c.args.front.now c.args.text.now c.in_ok-head.head.now c.in_ok-head.rest.now
    (joined_split _ c.args.text.now _ _ split.1 split.2) (c.if-eq_ignore_ascii_case.ensures.test.0 refl)

pub returns-else-eq_ignore_ascii_case : goal.returns-else-eq_ignore_ascii_case
returns-else-eq_ignore_ascii_case c =
    let split = c.in_ok-head.ensures.cases in
    not_after_front c.args.front.now c.args.text.now c.in_ok-head.head.now c.in_ok-head.rest.now
    (joined_split _ c.args.text.now _ _ split.1 split.2) split.3 (λ h. false_true (c.if-eq_ignore_ascii_case.ensures.test.1 h))
