use Rattle.std.proofs.Common.{◌≡◌, Some, None, rules}
use Rattle.ap_world.specs.World.{function_of}
use Rattle.ap_kernel.specs.Induction.{induct_made}
use Rattle.ap_kernel.proofs.Derived.{reduces_by}
use Rattle.ap_kernel.proofs.DerivedClauses.{induct_derived}
use Rattle.ap_kernel.proofs.InductFollows.{can_induct, made_follows}
use Rattle.ap_kernel.proofs.induction.induct.Goals as goal

pub unreachable-requires : goal.unreachable-requires
unreachable-requires c =
    let none : induct_made (function_of c.args.w.now.entries c.args.f.now) c.args.c c.args.actuals.now ≡ None = search rules in
    can_induct (function_of c.args.w.now.entries c.args.f.now) c.args.c c.args.actuals.now c.requires.candidate none

pub returns-clause-stands : goal.returns-clause-stands
returns-clause-stands c =
    let e : induct_made (function_of c.args.w.now.entries c.args.f.now) c.args.c c.args.actuals.now ≡ Some c.made.result.says = search rules in
    reduces_by c.args.w.now c.made.result _ _ (search rules)
    (induct_derived c.args.w.now c.args.c c.args.f.now c.args.actuals.now _ c.requires.clause c.requires.call c.requires.candidate e)
    (made_follows c.args.w.now.entries c.recall_sound.ensures c.recall_distinct_names.ensures c.requires.functions c.args.f.now c.args.actuals.now c.args.c c.made.result.says
    c.requires.call c.requires.candidate c.requires.clause e)
