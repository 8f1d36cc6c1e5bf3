use Rattle.std.proofs.Common.{◌≡◌, true, map, sym, subst, ◌∙◌}
use Rattle.ap_list.specs.Lists.{all_true}
use Rattle.ap_world.specs.Sound.{known}
use Rattle.ap_world.specs.World.{function_of}
use Rattle.ap_world.proofs.Knowing.{each_true}
use Rattle.ap_tests_theorems.proofs.clauses.clause.Goals as goal

pub returns-then-are_known : goal.returns-then-are_known
returns-then-are_known c =
    let D = function_of c.args.w.now.entries in
    each_true (known D) c.args.literals (subst (λ ts. all_true (map (known D) ts) ≡ true) c.as_slice.ensures (sym c.are_known.ensures ∙ c.if-are_known.true))
