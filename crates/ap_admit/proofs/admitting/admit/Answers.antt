use Rattle.std.proofs.Common.{◌≡◌, [], ◌∷◌, ◌++◌, ap, sym, ◌∙◌, subst}
use Rattle.ap_world.specs.declared.entry.Function.{Function}
use Rattle.ap_world.specs.declared.entry.Entry.TheVariants as entry
use Rattle.ap_world.specs.Recursion.{has_no_call}
use Rattle.ap_world.specs.Sound.{Sound}
use Rattle.ap_world.specs.World.{Shown}
use Rattle.ap_admit.specs.Condition.{function_by, admitted}
use Rattle.ap_admit.proofs.Definitions.{admitted_is_sound}
use Rattle.ap_admit.proofs.admitting.admit.Goals as goal

pub add-requires-clause-sound : goal.add-requires-clause-sound
add-requires-clause-sound c =
    let made : c.function.result ≡ admitted c.args.w.now c.args.d c.args.m =
    c.function.ensures ∙ ap (function_by (has_no_call c.args.d.name c.args.d.body) c.args.d c.args.m) c.in_ok-mask.ensures.made in
    subst (λ (f : Function). Sound (c.in_ok-world.world.entries ++ entry.Function f ∷ [])) (sym made)
    (subst (λ (w : Shown). Sound (w.entries ++ entry.Function (admitted c.args.w.now c.args.d c.args.m) ∷ [])) (sym c.in_ok-world.ensures)
    (admitted_is_sound c.args.w.now c.args.d c.args.m c.args.obligations.now c.recall_sound.ensures c.requires.functions c.requires.admissible c.requires.paid))
