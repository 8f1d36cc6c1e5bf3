use Rattle.std.proofs.Common.{refl}
use Rattle.ap_table.proofs.Showing.{any_there, any_past}
use Rattle.ap_table.proofs.making.names.Goals as goal

pub returns-then-is_named : goal.returns-then-is_named
returns-then-is_named c =
    ((λ t. any_there c.args.license c.loop-i.i c.args.path.now _ c.loop-i-test.true (c.is_named.ensures.0 c.if-is_named.true)), (λ a. refl))

pub loop-i-preserved : goal.loop-i-preserved
loop-i-preserved c =
    any_past c.args.license c.loop-i.i c.args.path.now _ c.loop-i-test.true
    (λ n. let t = c.is_named.ensures.1 n in let f = c.if-is_named.false in absurd (cc)) c.loop-i.invariant
