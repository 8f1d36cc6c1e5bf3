use Rattle.std.proofs.Common.{◌≡◌, true, map, sym, subst, ◌∙◌}
use Rattle.ap_list.specs.Lists.{all_true}
use Rattle.ap_world.specs.Sound.{known}
use Rattle.ap_world.specs.World.{function_of}
use Rattle.ap_world.proofs.Knowing.{each_true}
use Rattle.ap_tests_kernel.proofs.clauses.is_clause.Goals as goal

pub returns : goal.returns
returns c = λ h.
    let D = function_of c.args.w.now.entries in
    each_true (known D) c.args.c.now.0 (subst (λ ts. all_true (map (known D) ts) ≡ true) c.as_slice.ensures (sym c.are_known.ensures ∙ h))
