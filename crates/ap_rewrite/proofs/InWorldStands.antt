-- A sound world's own rules, definitions, masks and values are right.
use Rattle.std.proofs.Common.{◌≡◌, [], Some, refl, subst}
use Rattle.ap_value.specs.declared.value.Value.{Value}
use Rattle.ap_value.specs.Values.{val_of}
use Rattle.ap_term.specs.declared.term.Term.{Term}
use Rattle.ap_world.specs.declared.theory.Theory.{Theory}
use Rattle.ap_world.specs.World.{Shown, function_of}
use Rattle.ap_world.specs.Meaning.{HasValue}
use Rattle.ap_world.specs.Sound.{Sound}
use Rattle.ap_world.specs.Units.{Outcome, gives, wide, spent, large, metered}
use Rattle.ap_kernel.specs.Standing.{DefinesNot}
use Rattle.ap_types.proofs.KeptHolds.{types_mask}
use Rattle.ap_eval.proofs.Meant.{metered_means}
use Rattle.ap_rewrite.specs.Arithmetic.{Arithmetic, no_arithmetic, arithmetic_in, SoundArithmetic}
use Rattle.ap_rewrite.specs.InWorld.{value_in, most_units, setting_in}
use Rattle.ap_rewrite.specs.Laws.{WorldIsSoundSetting, InWorldStands}
use Rattle.ap_world.proofs.RulesStand.{rules_hold}
use Rattle.ap_rewrite.proofs.ArithmeticSound.{nothing_sound, worlds_sound}
use Rattle.ap_rewrite.proofs.RewritingStands.{rewriting_stands}

value_means : (w : Shown) (u : Term) (v : Value) → value_in (metered (function_of w.entries) u [] most_units) ≡ Some v → HasValue (function_of w.entries) u [] (val_of v)
value_means w u v h = go (metered (function_of w.entries) u [] most_units) refl h
  where
    go : (o : Outcome Value) → metered (function_of w.entries) u [] most_units ≡ o → value_in o ≡ Some v → HasValue (function_of w.entries) u [] (val_of v)
    go (gives x m) q h =
        let same : x ≡ v = cc in
        subst (λ x. HasValue (function_of w.entries) u [] (val_of x)) same (metered_means (function_of w.entries) u [] most_units m x q)
    go (wide t vs) q h = cc
    go spent q h = cc
    go large q h = cc

pub sound_setting : WorldIsSoundSetting
sound_setting w h us l sound ground distinct arithmetic = record {
  sound = sound;
  ground = ground;
  names = distinct;
  rules = rules_hold w.entries sound ground;
  functions = λ f g is. is;
  arithmetic = arithmetic;
  types = λ fs u fk k. types_mask w sound ground fs u fk k;
  value = λ u v k q. value_means w u v q;
}

pub in_world_stands : (l : Shown → Theory → Arithmetic) → ((w : Shown) (h : Theory) → Sound w.entries → DefinesNot (function_of w.entries) → SoundArithmetic (l w h) (function_of w.entries)) → InWorldStands l
in_world_stands l right w h us sound ground distinct =
    rewriting_stands (setting_in w h us (l w h)) (sound_setting w h us (l w h) sound ground distinct (right w h sound ground))

pub plain_stands : InWorldStands (λ w h. no_arithmetic)
plain_stands = in_world_stands (λ w h. no_arithmetic) (λ w h sound ground. nothing_sound (function_of w.entries))

pub linear_stands : InWorldStands arithmetic_in
linear_stands = in_world_stands arithmetic_in worlds_sound
