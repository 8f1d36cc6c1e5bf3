use Rattle.std.proofs.Common.{◌≡◌, ◌∙◌, sym, ap, ◌<◌, ◌≤◌, min, false, length, rules}
use Rattle.ap_list.specs.Lists.{lookup_by}
use Rattle.ap_value.specs.Values.{symbol_eq}
use Rattle.ap_eval.proofs.Binding.{bound_next, bound_end}
use Rattle.ap_eval.proofs.bindings.bound.Goals as goal

pub loop-i-preserved : goal.loop-i-preserved
loop-i-preserved c =
    let other : symbol_eq c.args.x.now c.index-names-i.result ≡ false = search rules in
    let in_names : c.loop-i.i < length c.args.names.now = search rules in
    let in_values : c.loop-i.i < length c.args.values.now = search rules in
    bound_next c.loop-i.i c.args.names.now c.args.values.now c.args.x.now c.index-names-i.result in_names in_values c.index-names-i.is other ∙ c.loop-i.invariant

pub returns : goal.returns
returns c =
    let past : min (length c.args.names.now) (length c.args.values.now) ≤ c.loop-i.i = search rules in
    ap (λ ps. lookup_by symbol_eq ps c.args.x.now) (sym (bound_end c.loop-i.i c.args.names.now c.args.values.now past)) ∙ c.loop-i.invariant
