use Rattle.std.proofs.Common.{arith, rules}
use Rattle.ap_stated.proofs.Formals.{formals_next, distinct_next}
use Rattle.ap_stated.proofs.translating.formal_names.Goals as goal

pub loop-form-preserved : goal.loop-form-preserved
loop-form-preserved c =
    let names = c.loop-form.names in
    let next = c.push.new.self in
    let s = c.in-Some.symbol.now in
    record {
      told = formals_next names next c.args.forms.now c.loop-form.form-index c.form-item.result s _ c.loop-form-test.true c.form-item.is
          (search rules) (grind (arith, c.in_ok-push.ensures.ok, c.in_ok-copy_symbol.ensures)) c.loop-form.invariant.told;
      distinct = distinct_next names next s c.loop-form.invariant.distinct (search rules) (grind (arith, c.in_ok-push.ensures.ok, c.in_ok-copy_symbol.ensures));
    }
