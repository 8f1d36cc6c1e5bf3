use Rattle.std.proofs.Common.{◌≡◌, ◌∙◌, true, sym, rules}
use Rattle.std.proofs.lemmas.Result.{IfOk-weaker}
use Rattle.ap_term.proofs.Seen.{seen}
use Rattle.ap_poly.specs.Literals.{of_literal}
use Rattle.ap_rules.specs.Shapes.{told}
use Rattle.ap_rules.proofs.Told.{told_empty, told_more, told_other}
use Rattle.ap_rules.proofs.shapes.told.Goals.{in_default-via-then-is_not+then-as_slice-lt1, in_default-via-then-is_not+else-as_slice-lt1+else-this-lt2, in_default-via-else-is_not}
use Rattle.ap_rules.proofs.shapes.told.Goals as goal

pub returns-in_default : goal.returns-in_default
returns-in_default c =
    let u = seen c.t.view_is c.in-Call.is in
    let whole : told c.args.t.now ≡ of_literal c.args.t.now true =
    elim c.in_default.branch [
      | in_default-via-then-is_not+then-as_slice-lt1 w ↦ told_empty c.args.t.now c.in-Call.f c.in-Call.ts c.as_slice.result.now u c.as_slice.ensures (search rules)
      | in_default-via-then-is_not+else-as_slice-lt1+else-this-lt2 w ↦ told_more c.args.t.now c.in-Call.f c.in-Call.ts c.as_slice.result.now u c.as_slice.ensures (search rules)
      | in_default-via-else-is_not w ↦ told_other c.args.t.now c.in-Call.f c.in-Call.ts u (search rules)
    ] in
    IfOk-weaker c.of_literal-in_default.result _ _ (λ ps is. is ∙ sym whole) c.of_literal-in_default.ensures
