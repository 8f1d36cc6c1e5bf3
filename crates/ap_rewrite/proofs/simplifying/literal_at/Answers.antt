use Rattle.std.proofs.Common.{◌≡◌, ◌∙◌, List, Some, slice_get, get_or, refl, sym, ap, subst}
use Rattle.std.proofs.lemmas.Option.{slice_get_read}
use Rattle.ap_term.specs.declared.term.Term.{Term}
use Rattle.ap_world.specs.Facts.{KnownFacts}
use Rattle.ap_kernel.specs.Reductions.{others, all_false}
use Rattle.ap_kernel.proofs.Reduced.{others_false_known}
use Rattle.ap_rewrite.specs.Answering.{defs_in, setting_of}
use Rattle.ap_rewrite.proofs.Simplified.{each_stands, each_here, each_facts, same_literal}
use Rattle.ap_rewrite.proofs.simplifying.literal_at.Goals as goal

pub literal_kept-requires-clause-facts : goal.literal_kept-requires-clause-facts
literal_kept-requires-clause-facts g c =
    subst (KnownFacts (defs_in c.args.r.now)) (sym (c.in_ok-ctx.ensures ∙ ap (λ (ts : List Term). all_false (others c.args.place ts)) c.as_slice.ensures))
    (others_false_known (defs_in c.args.r.now) c.args.c.now c.args.place c.requires.clause)

pub returns-clause-is : goal.returns-clause-is
returns-clause-is g c = λ u at.
    let here : slice_get c.args.c.now.0 c.args.place ≡ Some c.index-as_slice-place.result =
    slice_get_read c.args.c.now.0 _ c.args.place c.index-as_slice-place.result refl c.requires.place
    (subst (λ (xs : List Term). c.index-as_slice-place.result ≡ get_or xs c.args.place c.index-as_slice-place.result) c.as_slice-2.ensures c.index-as_slice-place.is) in
    c.in_ok-found.ensures.is
    ∙ same_literal (setting_of c.args.r.now) c.args.c.now c.in_ok-ctx.ctx.0 c.index-as_slice-place.result u c.args.place c.args.steps.now.left
    (c.in_ok-ctx.ensures ∙ ap (λ (ts : List Term). all_false (others c.args.place ts)) c.as_slice.ensures) here at

pub returns-clause-stands : goal.returns-clause-stands
returns-clause-stands g c = each_stands _ _ _ _ c.in_ok-found.ensures.from

pub returns-clause-place : goal.returns-clause-place
returns-clause-place g c =
    let here : slice_get c.args.c.now.0 c.args.place ≡ Some c.index-as_slice-place.result =
    slice_get_read c.args.c.now.0 _ c.args.place c.index-as_slice-place.result refl c.requires.place
    (subst (λ (xs : List Term). c.index-as_slice-place.result ≡ get_or xs c.args.place c.index-as_slice-place.result) c.as_slice-2.ensures c.index-as_slice-place.is) in
    each_here _ _ _ _ c.in_ok-found.ensures.from c.args.c.now.0 c.args.place here

pub returns-clause-facts : goal.returns-clause-facts
returns-clause-facts g c =
    each_facts _ _ _ _ c.in_ok-found.ensures.from _ (c.in_ok-ctx.ensures ∙ ap (λ (ts : List Term). all_false (others c.args.place ts)) c.as_slice.ensures)
