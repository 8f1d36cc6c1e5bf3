use Rattle.std.proofs.Common.{◌≡◌, true, ◌∙◌, rules}
use Rattle.ap_value.specs.Values.{symbol_eq}
use Rattle.ap_terminate.proofs.Calling.{flat_own}
use Rattle.ap_terminate.proofs.calls.is_flat_call.Goals as goal

pub returns : goal.returns
returns c =
    let q : symbol_eq c.args.f.now c.args.name.now ≡ true = search rules in
    c.have_no_call.ensures ∙ flat_own c.args.name.now c.args.f.now c.args.arguments.now q
