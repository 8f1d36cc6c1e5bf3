use Rattle.std.proofs.Common.{◌≡◌, true, Some, ap, ◌∙◌, rules}
use Rattle.ap_world.specs.World.{function_of}
use Rattle.ap_kernel.specs.Answers.{is_unchanged}
use Rattle.ap_kernel.proofs.Standing.{weaken_stands}
use Rattle.ap_kernel.proofs.Derived.{stands_by, stands_same}
use Rattle.ap_kernel.proofs.DerivedEquivs.{weaken_derived}
use Rattle.ap_kernel.proofs.plain.weaken_mode.Goals as goal

pub returns-then-is_unchanged-clause-stands : goal.returns-then-is_unchanged-clause-stands
returns-then-is_unchanged-clause-stands c =
    let k : is_unchanged c.args.a ≡ true = search rules in
    stands_same c.args.w.now c.made.result _ (search rules) c.made.ensures.why (c.requires.a.same k)
    (weaken_stands (function_of c.args.w.now.entries) c.recall_sound.ensures.total c.args.a.says c.requires.a.says c.requires.mode)

pub returns-clause-stands : goal.returns-clause-stands
returns-clause-stands c =
    stands_by c.args.w.now c.made-2.result _ _ (search rules) (c.made-2.ensures.why ∙ ap Some (search rules))
    (weaken_derived c.args.w.now c.args.a c.requires.a.derived c.requires.mode)
    (weaken_stands (function_of c.args.w.now.entries) c.recall_sound.ensures.total c.args.a.says c.requires.a.says c.requires.mode)
