use Rattle.std.proofs.Common.{◌≡◌, rules}
use Rattle.ap_world.specs.Shapes.{shape_of, negation}
use Rattle.ap_world.specs.Assume.{parts}
use Rattle.ap_kernel.specs.Assume.{seen_halves}
use Rattle.ap_world.proofs.Parts.{parts_smaller}
use Rattle.ap_kernel.proofs.ChoicesStand.{not_smaller}
use Rattle.ap_kernel.proofs.assuming.halves_of.Goals as goal

pub returns-in-If-clause-smaller : goal.returns-in-If-clause-smaller
returns-in-If-clause-smaller c =
    let e : seen_halves c.if_halves.result ≡ parts (λ u. u) (shape_of c.args.t.now) c.args.sign = search rules in
    rw e (parts_smaller c.args.t.now c.args.sign)

pub returns-in-Not-clause-smaller : goal.returns-in-Not-clause-smaller
returns-in-Not-clause-smaller c =
    let h : shape_of c.args.t.now ≡ negation c.in-Not.a.now = search rules in
    (not_smaller c.args.t.now c.in-Not.a.now h, tt)
