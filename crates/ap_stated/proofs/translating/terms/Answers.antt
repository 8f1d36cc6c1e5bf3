use Rattle.std.proofs.Common.{◌≡◌, true, Some}
use Rattle.ap_world.specs.Sound.{known, speaks_of}
use Rattle.ap_world.specs.World.{function_of}
use Rattle.ap_translate.specs.Table.{translated}
use Rattle.ap_translate.proofs.Fails.{gives_err}
use Rattle.ap_stated.specs.Translating.{translated_all}
use Rattle.ap_stated.proofs.Formals.{after_none, after_next, after_fails, after_all, each_next}
use Rattle.ap_stated.proofs.translating.terms.Goals as goal

pub loop-form-init : goal.loop-form-init
loop-form-init c = record {
  told = rw c.new-terms.ensures (after_none (translated_all c.args.w.now.entries c.args.formals.now c.args.forms.now));
  speaks = rw c.new-terms.ensures tt;
  known = rw c.new-terms.ensures tt;
}

pub loop-form-preserved : goal.loop-form-preserved
loop-form-preserved c =
    let W = c.args.w.now.entries in
    let names = c.args.formals.now in
    let us = c.loop-form.terms in
    let next = c.push.new.self in
    let u = c.in_ok-translate.field-0 in
    record {
      told = after_next (translated W (Some names)) us next c.args.forms.now c.loop-form.form-index c.form-item.result u _ c.loop-form-test.true c.form-item.is
          c.in_ok-translate.ensures.made c.in_ok-push.ensures.ok c.loop-form.invariant.told;
      speaks = each_next (λ u. speaks_of names u ≡ true) us next u c.in_ok-push.ensures.ok c.loop-form.invariant.speaks c.in_ok-translate.ensures.speaks;
      known = each_next (λ u. known (function_of W) u ≡ true) us next u c.in_ok-push.ensures.ok c.loop-form.invariant.known (c.in_ok-translate.ensures.known c.requires.macros);
    }

pub returns-in_err-translate-clause-made : goal.returns-in_err-translate-clause-made
returns-in_err-translate-clause-made c =
    gives_err c.from_residual.result c.in_err-translate.field-0.0 _ c.from_residual.ensures.1
    (after_fails (translated c.args.w.now.entries (Some c.args.formals.now)) c.loop-form.terms c.args.forms.now c.loop-form.form-index c.form-item.result _ c.in_err-translate.field-0.0
    c.loop-form-test.true c.form-item.is c.loop-form.invariant.told c.in_err-translate.ensures.made)

pub returns-clause-made : goal.returns-clause-made
returns-clause-made c =
    after_all (translated c.args.w.now.entries (Some c.args.formals.now)) c.loop-form.terms c.args.forms.now c.loop-form.form-index _ c.loop-form-test.false c.loop-form.invariant.told
