use Rattle.std.proofs.Common.{sym, subst, ap, ◌∙◌}
use Rattle.ap_world.specs.declared.entry.Function.{Function}
use Rattle.ap_world.specs.Sound.{Sound}
use Rattle.ap_admit.specs.Admission.{with_function}
use Rattle.ap_stated.specs.Definitions.{function_by}
use Rattle.ap_stated.proofs.Defining.{sound_definition}
use Rattle.ap_stated.proofs.definition.add_definition.Goals as goal

pub add_function-requires : goal.add_function-requires
add_function-requires c = record {
  sound = λ free.
      subst (λ (f : Function). Sound (with_function c.args.w.now.entries f))
      (sym (c.made_function.ensures ∙ ap (function_by c.args.t.definition c.args.t.measure) c.in_ok-mask.ensures.mask))
      (sound_definition c.args.w.now c.args.t.definition c.args.t.measure c.kept.ensures.sound c.requires.functions c.requires.stated.free c.requires.stated.prepared c.requires.stated.ends
      c.requires.valid);
}
