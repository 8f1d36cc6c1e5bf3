use Rattle.std.proofs.Common.{◌≡◌, ◌<◌, true, false, length, rules}
use Rattle.ap_list.specs.Lists.{is_among}
use Rattle.ap_term.specs.Equal.{term_eq}
use Rattle.ap_world.specs.Shapes.{is_constant}
use Rattle.ap_kernel.specs.Tidying.{plain, closes}
use Rattle.ap_kernel.proofs.Closing.{closed_there}
use Rattle.ap_kernel.proofs.tidying.tidied.Goals as goal

pub returns-then-closes : goal.returns-then-closes
returns-then-closes c =
    let out = c.loop-t.out in
    let u = c.in_ok-literal.literal in
    let within : c.loop-t.t-index < length c.args.terms.now = search rules in
    let is : u ≡ plain c.t-item.result = search rules in
    let counts : is_constant false u ≡ false = search rules in
    let apart : is_among term_eq u out ≡ false = search rules in
    let h : closes out u ≡ true = search rules in
    closed_there out c.args.terms.now c.loop-t.t-index c.t-item.result u within c.t-item.is is c.loop-t.invariant counts apart h
