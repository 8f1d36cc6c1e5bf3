use Rattle.std.proofs.Common.{ap, subst, ◌∙◌, Some, length, IfOk, IsTrue}
use Rattle.ap_world.specs.declared.entry.Entry.TheVariants as entry
use Rattle.ap_world.specs.Sound.{known}
use Rattle.ap_world.specs.World.{Shown, function_of}
use Rattle.ap_translate.specs.Answers.{Gives}
use Rattle.ap_translate.specs.Table.{translated}
use Rattle.ap_stated.specs.Translating.{stub}
use Rattle.ap_stated.proofs.Preparing.{sound_back, back_again, macros_more}
use Rattle.ap_stated.proofs.translating.body.Goals as goal

pub back_to-requires : goal.back_to-requires
back_to-requires c =
    sound_back c.args.w.now c.add_stub.new.w (entry.Function (stub c.args.name.now c.args.formals.now)) c.count-count.result c.in_ok-add_stub.ensures.ok
    (c.count-count.ensures ∙ ap (λ (u : Shown). length u.entries) c.world.ensures) c.recall_sound.ensures

pub returns-clause-same : goal.returns-clause-same
returns-clause-same c =
    c.back_to.ensures ∙ back_again c.args.w.now c.add_stub.new.w (entry.Function (stub c.args.name.now c.args.formals.now)) c.count-count.result c.in_ok-theory.theory c.in_ok-add_stub.ensures.ok
    (c.count-count.ensures ∙ ap (λ (u : Shown). length u.entries) c.world.ensures)
    (c.in_ok-theory.ensures ∙ c.theory.ensures ∙ ap (λ (u : Shown). u.theory) c.world-2.ensures)

pub returns-clause-made : goal.returns-clause-made
returns-clause-made c =
    subst (λ (u : Shown). Gives c.translate-body.result (translated u.entries (Some c.args.formals.now) c.args.form.now))
    (c.world-3.ensures ∙ c.in_ok-add_stub.ensures.ok) c.translate-body.ensures.made

pub returns-clause-known : goal.returns-clause-known
returns-clause-known c =
    subst (λ (v : Shown). IfOk c.translate-body.result (λ u. IsTrue (known (function_of v.entries) u)))
    (c.world-3.ensures ∙ c.in_ok-add_stub.ensures.ok)
    (c.translate-body.ensures.known (macros_more c.args.w.now c.add_stub.new.w c.world-3.result.now (entry.Function (stub c.args.name.now c.args.formals.now)) c.in_ok-add_stub.ensures.ok c.world-3.ensures c.requires.functions))
