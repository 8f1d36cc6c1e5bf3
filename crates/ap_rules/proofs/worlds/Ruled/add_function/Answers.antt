use Rattle.std.proofs.Common.{◌≡◌, false, [], ◌∷◌, ◌++◌, sym, ap, subst}
use Rattle.ap_world.specs.Sound.{Sound}
use Rattle.ap_world.specs.World.{has_name}
use Rattle.ap_world.specs.declared.entry.Entry.TheVariants as entry
use Rattle.ap_rules.proofs.worlds.Ruled.add_function.Goals as goal

pub add_function-added-requires : goal.add_function-added-requires
add_function-added-requires c =
    let f = c.args.function in
    let seen : c.self.inside.world.entries ≡ c.args.self.now.entries = ap (λ w. w.entries) c.self.view_is in
    record {
      sound = λ free. subst (λ W. Sound (W ++ entry.Function f ∷ [])) (sym seen) (c.requires.sound (subst (λ W. has_name W f.name ≡ false) seen free));
    }
