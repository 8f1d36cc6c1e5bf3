use Rattle.std.proofs.Common.{◌≡◌, rules}
use Rattle.ap_term.specs.declared.term.Term.{Call}
use Rattle.ap_term.proofs.Seen.{seen}
use Rattle.ap_world.specs.Names.{equal_name}
use Rattle.ap_kernel.proofs.Walked.{equation_is}
use Rattle.ap_kernel.proofs.linear.equated.Goals as goal

pub returns : goal.returns
returns c =
    let is : c.args.call ≡ Call c.in-Call.field-0 c.in-Call.sides = seen c.call.view_is c.in-Call.is in
    let made : c.call_of.result ≡ Call equal_name c.in-Call.sides = search rules in
    equation_is c.args.call c.call_of.result c.in-Call.field-0 c.in-Call.sides is made
