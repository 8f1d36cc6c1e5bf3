use Rattle.std.proofs.Common.{arith}
use Rattle.std.specs.Str.Parse.{ParsesUnsigned}
use Rattle.ap_names.proofs.Parts.{no_count_in_nothing, not_begun, not_utf8, parsed_text}
use Rattle.ap_names.proofs.parsing.count_of.Goals as goal
use Rattle.ap_names.proofs.parsing.count_of.Goals.{then-first-lt49-via-then-first-lt49, then-first-lt49-via-else-first-lt49+then-first-gt57}

pub returns-in_err-first : goal.returns-in_err-first
returns-in_err-first c = rw c.from_residual.ensures (no_count_in_nothing c.args.text.now c.in_err-first.ensures.cases)

pub returns-then-first-lt49 : goal.returns-then-first-lt49
returns-then-first-lt49 c =
    elim c.then-first-lt49.branch [ then-first-lt49-via-then-first-lt49 w ↦ not_begun _ _ _ c.in_ok-first.ensures.cases.0 (λ h. omega (arith, h.0, w.if-first-lt49.true)) | then-first-lt49-via-else-first-lt49+then-first-gt57 w ↦ not_begun _ _ _ c.in_ok-first.ensures.cases.0 (λ h. omega (arith, h.1, w.if-first-gt57.true)) ]

pub returns-in_default : goal.returns-in_default
returns-in_default c = not_utf8 c.args.text.now c.in_default.ensures.cases.0

pub returns : goal.returns
returns c =
    let read : ParsesUnsigned 32 10 c.args.text.now c.parse.result = rw c.in-Ok.ensures.cases.0 at c.parse.ensures.value.0 in
    let whole = parsed_text _ _ c.args.text.now c.parse.result c.in_ok-first.ensures.cases.0 (omega (arith, c.if-first-lt49.false)) (omega (arith, c.if-first-gt57.false)) read in
    rw c.ok.ensures.value whole
