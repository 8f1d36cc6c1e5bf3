use Rattle.std.proofs.Common.{◌≡◌, ◌↔◌, IsTrue, subst, pos, rules}
use Rattle.ap_value.specs.declared.value.Value.TheVariants.{Int}
use Rattle.ap_value.specs.Values.{val_of, int}
use Rattle.ap_world.proofs.Equations.{val_of_int}
use Rattle.ap_kernel.proofs.Typed.{test_is}
use Rattle.ap_types.proofs.constants.is_zero_value.Goals as goal

pub returns : goal.returns
returns c =
    let h : IsTrue c.same.result ↔ (val_of c.args.v.now ≡ val_of (Int (pos 0))) = search rules in
    test_is c.same.result (val_of c.args.v.now) (int (pos 0)) (subst (λ x. IsTrue c.same.result ↔ (val_of c.args.v.now ≡ x)) (val_of_int (pos 0)) h)
