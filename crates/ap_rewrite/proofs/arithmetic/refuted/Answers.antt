use Rattle.std.proofs.Common.{◌≡◌, ◌∙◌, ◌++◌, IfSome, List, Option, Some, map, reverse, slice_get, refl, sym, ap, subst}
use Rattle.ap_term.specs.declared.term.Term.{Term}
use Rattle.ap_kernel.specs.declared.objects.Equiv.{Equiv}
use Rattle.ap_rules.specs.Indexed.{kept}
use Rattle.ap_rules.specs.Linear.{may_match}
use Rattle.ap_rewrite.specs.Linear.{bounds, given}
use Rattle.ap_rewrite.specs.Leading.{said_of}
use Rattle.ap_rewrite.specs.Refuting.{Refutes}
use Rattle.ap_rewrite.specs.Answering.{where_applied, setting_of, inner_of, seen_at}
use Rattle.ap_rewrite.proofs.Bounded.{all_listed}
use Rattle.ap_rewrite.proofs.Refuted.{listed, refuted_out, refuted_found, each_refutes}
use Rattle.ap_rewrite.proofs.arithmetic.refuted.Goals as goal

pub returns-in_default-clause-is : goal.returns-in_default-clause-is
returns-in_default-clause-is g c =
    refuted_out c.args.l.now.r.now.w.now c.args.l.now.r.now.theory.now c.args.l.now.r.now.expand.now (inner_of c.args.l.now.r.now c.args.l.now.levels) (seen_at c.args.at.now) c.args.t.now c.args.sign c.args.steps.now.left
    ((rw c.in_default.is at c.in_ok-all.ensures.is)
    ∙ listed c.args.l.now.r.now.w.now c.args.l.now.r.now.theory.now c.args.l.now.r.now.expand.now (inner_of c.args.l.now.r.now c.args.l.now.levels) (seen_at c.args.at.now) c.args.t.now c.args.sign c.args.steps.now.left
    c.args.l.now.r.now.rules.now.linear _ _ c.in_ok-polys.field-0.polys c.requires.level.ready.index.linear
    (c.as_slice-3.ensures ∙ c.in_ok-polys.ensures.atoms)
    (c.in_ok-polys.ensures.polys ∙ ap (λ (xs : List Term). given (setting_of c.args.l.now.r.now) c.args.at.now.ctx.now.0 c.args.t.now c.args.sign ++ bounds (setting_of c.args.l.now.r.now) c.args.at.now.ctx.now.0 xs) (sym c.as_slice-3.ensures))
    (subst (λ (xs : List Term). map (slice_get c.args.l.now.r.now.rules.now.linear) c.as_slice-2.result.now ≡ map Some (kept (may_match xs) (reverse c.args.l.now.r.now.rules.now.linear))) (c.as_slice.ensures ∙ sym c.as_slice-3.ensures) (ap (map (slice_get c.args.l.now.r.now.rules.now.linear)) c.as_slice-2.ensures ∙ c.in_ok-places.ensures)))

pub refute-requires-clause-polys : goal.refute-requires-clause-polys
refute-requires-clause-polys g c =
    all_listed c.args.l.now.r.now.w.now c.args.l.now.r.now.theory.now c.args.l.now.r.now.expand.now c.recall_sound.ensures c.requires.level.ready.ground c.recall_distinct_names.ensures
    (c.arithmetic_is_sound.ensures.world c.args.l.now.r.now.w.now c.args.l.now.r.now.theory.now c.recall_sound.ensures c.requires.level.ready.ground)
    c.args.l.now.levels (seen_at c.args.at.now) c.args.at.now.ctx.now refl c.requires.facts c.args.t.now c.args.sign c.requires.term c.args.steps.now.left c.in-Some.all c.used_each.new.steps.left
    (sym ((rw c.in-Some.is at c.in_ok-all.ensures.is)
    ∙ listed c.args.l.now.r.now.w.now c.args.l.now.r.now.theory.now c.args.l.now.r.now.expand.now (inner_of c.args.l.now.r.now c.args.l.now.levels) (seen_at c.args.at.now) c.args.t.now c.args.sign c.args.steps.now.left
    c.args.l.now.r.now.rules.now.linear _ _ c.in_ok-polys.field-0.polys c.requires.level.ready.index.linear
    (c.as_slice-3.ensures ∙ c.in_ok-polys.ensures.atoms)
    (c.in_ok-polys.ensures.polys ∙ ap (λ (xs : List Term). given (setting_of c.args.l.now.r.now) c.args.at.now.ctx.now.0 c.args.t.now c.args.sign ++ bounds (setting_of c.args.l.now.r.now) c.args.at.now.ctx.now.0 xs) (sym c.as_slice-3.ensures))
    (subst (λ (xs : List Term). map (slice_get c.args.l.now.r.now.rules.now.linear) c.as_slice-2.result.now ≡ map Some (kept (may_match xs) (reverse c.args.l.now.r.now.rules.now.linear))) (c.as_slice.ensures ∙ sym c.as_slice-3.ensures) (ap (map (slice_get c.args.l.now.r.now.rules.now.linear)) c.as_slice-2.ensures ∙ c.in_ok-places.ensures))))

pub returns-clause-is : goal.returns-clause-is
returns-clause-is g c =
    refuted_found c.args.l.now.r.now.w.now c.args.l.now.r.now.theory.now c.args.l.now.r.now.expand.now (inner_of c.args.l.now.r.now c.args.l.now.levels) (seen_at c.args.at.now) c.args.t.now c.args.sign c.args.steps.now.left
    c.in-Some.all c.used_each.new.steps.left (where_applied c.from_found.result) c.args.at.now.ctx.now
    ((rw c.in-Some.is at c.in_ok-all.ensures.is)
    ∙ listed c.args.l.now.r.now.w.now c.args.l.now.r.now.theory.now c.args.l.now.r.now.expand.now (inner_of c.args.l.now.r.now c.args.l.now.levels) (seen_at c.args.at.now) c.args.t.now c.args.sign c.args.steps.now.left
    c.args.l.now.r.now.rules.now.linear _ _ c.in_ok-polys.field-0.polys c.requires.level.ready.index.linear
    (c.as_slice-3.ensures ∙ c.in_ok-polys.ensures.atoms)
    (c.in_ok-polys.ensures.polys ∙ ap (λ (xs : List Term). given (setting_of c.args.l.now.r.now) c.args.at.now.ctx.now.0 c.args.t.now c.args.sign ++ bounds (setting_of c.args.l.now.r.now) c.args.at.now.ctx.now.0 xs) (sym c.as_slice-3.ensures))
    (subst (λ (xs : List Term). map (slice_get c.args.l.now.r.now.rules.now.linear) c.as_slice-2.result.now ≡ map Some (kept (may_match xs) (reverse c.args.l.now.r.now.rules.now.linear))) (c.as_slice.ensures ∙ sym c.as_slice-3.ensures) (ap (map (slice_get c.args.l.now.r.now.rules.now.linear)) c.as_slice-2.ensures ∙ c.in_ok-places.ensures)))
    (ap said_of c.from_found.ensures ∙ c.in_ok-found.ensures.made)

pub returns-clause-refutes : goal.returns-clause-refutes
returns-clause-refutes g c =
    subst (λ (o : Option Equiv). IfSome o (Refutes c.args.l.now.r.now.w.now c.args.at.now.ctx.now c.args.t.now c.args.sign)) (sym c.from_found.ensures)
    (each_refutes c.args.l.now.r.now.w.now c.args.at.now.ctx.now c.args.t.now c.args.sign c.in_ok-found.found _ c.in_ok-found.ensures.stands c.in_ok-found.ensures.made)

pub refute-requires-clause-reasons : goal.refute-requires-clause-reasons
refute-requires-clause-reasons g c = (rw c.in-Some.is at c.in_ok-all.ensures.reasons c.args.t.now c.args.sign c.in_ok-polys.ensures.reasons)
