use Rattle.std.proofs.Common.{◌≡◌, true, [], ◌∷◌, sym, subst, rules}
use Rattle.ap_world.specs.Names.{implies_name}
use Rattle.ap_world.specs.Meaning.{Valid}
use Rattle.ap_world.specs.Sound.{known, Sound}
use Rattle.ap_world.specs.Ground.{two}
use Rattle.ap_world.specs.World.{Shown, function_of}
use Rattle.ap_tests_world.proofs.Handed.{itself_valid}
use Rattle.ap_tests_world.proofs.linear_rules.add.Goals as goal

pub add_theorem-requires-clause-valid : goal.add_theorem-requires-clause-valid
unfolding implies_name
add_theorem-requires-clause-valid c =
    let W = c.args.world.now.entries in
    let h = c.in_ok-term.field-0 in
    let is : c.in_ok-t.t ≡ two implies_name h h = c.in_ok-t.ensures in
    let sound : Sound W = subst (λ (w : Shown). Sound w.entries) c.world.ensures c.recall_sound.ensures in
    let k : known (function_of W) c.in_ok-t.t ≡ true = search rules in
    subst (λ t. Valid (function_of W) (t ∷ [])) (sym is) (itself_valid W sound h (subst (λ t. known (function_of W) t ≡ true) is k))
