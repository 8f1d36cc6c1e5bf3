use Rattle.std.proofs.Common.{◌≡◌, ◌-◌, None, Some, [], ◌∷◌, take, drop, length, slice_get, get_or, ap, sym, ◌∙◌, rules}
use Rattle.ap_term.specs.declared.term.Term.{Call}
use Rattle.ap_term.specs.declared.term.Term.TheOpen.{Term-F}
use Rattle.ap_term.proofs.Seen.{seen}
use Rattle.ap_kernel.specs.Reductions.{put_at}
use Rattle.ap_kernel.specs.Splits.{and_then, with_argument, with_part}
use Rattle.ap_kernel.proofs.Walked.{with_within}
use Rattle.ap_kernel.proofs.splits.+with_part.Goals as goal

pub returns-in_default-2 : goal.returns-in_default-2
returns-in_default-2 t c =
    let at = c.args.at.now in
    let there : slice_get c.in-Call.arguments (get_or c.args.at.now 0 0) ≡ Some c.in-Some.argument.now = search rules in
    let none : with_part (take (length c.args.at.now - 1) (drop 1 c.args.at.now)) c.args.part.now c.in-Some.argument.now ≡ None = search rules in
    sym (with_within at c.args.part.now c.args.t.now c.in-Some.argument.now c.in-Call.f c.in-Call.arguments c.in-len1-up.len_at_least (seen c.t.view_is c.in-Call.is) there
    ∙ ap (λ o. and_then o (with_argument (Term-F.Call c.in-Call.f c.in-Call.arguments) (get_or at 0 0))) none)

pub returns : goal.returns
returns t c =
    let at = c.args.at.now in
    let there : slice_get c.in-Call.arguments (get_or c.args.at.now 0 0) ≡ Some c.in-Some.argument.now = search rules in
    let some : with_part (take (length c.args.at.now - 1) (drop 1 c.args.at.now)) c.args.part.now c.in-Some.argument.now ≡ Some c.in-Some-2.changed = search rules in
    let made : c.in_ok-whole.whole ≡ Call c.in-Call.f (put_at (get_or c.args.at.now 0 0) (c.in-Some-2.changed ∷ []) c.in-Call.arguments) = search rules in
    ap Some made
    ∙ sym (with_within at c.args.part.now c.args.t.now c.in-Some.argument.now c.in-Call.f c.in-Call.arguments c.in-len1-up.len_at_least (seen c.t.view_is c.in-Call.is) there
    ∙ ap (λ o. and_then o (with_argument (Term-F.Call c.in-Call.f c.in-Call.arguments) (get_or at 0 0))) some)
