use Rattle.std.proofs.Common.{◌≡◌, Some, rules}
use Rattle.ap_elim.specs.Eliminating.{taken}
use Rattle.ap_elim.proofs.Taken.{taken_are_new}
use Rattle.ap_elim.proofs.eliminating.elim.Goals as goal

pub eliminate-requires-clause-first : goal.eliminate-requires-clause-first
eliminate-requires-clause-first c =
    let is : taken c.args.theory.now c.in_ok-copy_terms.field-0 ≡ Some (c.in-Some.v, c.in-Some.a, c.in-Some.b) = search rules in
    (taken_are_new c.args.theory.now c.in_ok-copy_terms.field-0 (c.in-Some.v, c.in-Some.a, c.in-Some.b) is).first

pub eliminate-requires-clause-second : goal.eliminate-requires-clause-second
eliminate-requires-clause-second c =
    let is : taken c.args.theory.now c.in_ok-copy_terms.field-0 ≡ Some (c.in-Some.v, c.in-Some.a, c.in-Some.b) = search rules in
    (taken_are_new c.args.theory.now c.in_ok-copy_terms.field-0 (c.in-Some.v, c.in-Some.a, c.in-Some.b) is).second

pub eliminate-requires-clause-apart : goal.eliminate-requires-clause-apart
eliminate-requires-clause-apart c =
    let is : taken c.args.theory.now c.in_ok-copy_terms.field-0 ≡ Some (c.in-Some.v, c.in-Some.a, c.in-Some.b) = search rules in
    (taken_are_new c.args.theory.now c.in_ok-copy_terms.field-0 (c.in-Some.v, c.in-Some.a, c.in-Some.b) is).apart
