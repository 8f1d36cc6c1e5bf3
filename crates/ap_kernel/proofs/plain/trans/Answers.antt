use Rattle.std.proofs.Common.{Some, ap, ◌∙◌, rules}
use Rattle.ap_world.specs.World.{function_of}
use Rattle.ap_kernel.proofs.Standing.{trans_stands}
use Rattle.ap_kernel.proofs.Derived.{stands_by}
use Rattle.ap_kernel.proofs.DerivedEquivs.{trans_derived}
use Rattle.ap_kernel.proofs.plain.trans.Goals as goal

pub returns-clause-stands : goal.returns-clause-stands
returns-clause-stands c =
    stands_by c.args.w.now c.made.result _ _ (search rules) (c.made.ensures.why ∙ ap Some (search rules))
    (trans_derived c.args.w.now c.args.a c.args.b c.requires.a.derived c.requires.b.derived c.requires.facts c.requires.mode c.requires.middle)
    (trans_stands (function_of c.args.w.now.entries) c.recall_sound.ensures.total c.args.a.says c.args.b.says c.requires.a.says c.requires.b.says c.requires.facts c.requires.mode c.requires.middle)
