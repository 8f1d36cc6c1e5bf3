use Rattle.std.proofs.Common.{◌≡◌, true, subst, sym, rules}
use Rattle.ap_world.specs.Sound.{known}
use Rattle.ap_kernel.specs.Choices.{bare_test}
use Rattle.ap_kernel.proofs.ChoicesStand.{bare_test_known}
use Rattle.ap_kernel.proofs.choices.bare_test.Goals as goal

pub returns-in-If-clause-known : goal.returns-in-If-clause-known
returns-in-If-clause-known c =
    let e : c.bare.result.0.now ≡ bare_test c.args.t.now = search rules in
    λ D k. subst (λ u. known D u ≡ true) (sym e) (bare_test_known D c.args.t.now k)
