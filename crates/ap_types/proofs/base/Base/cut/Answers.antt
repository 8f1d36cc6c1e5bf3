use Rattle.std.proofs.Common.{◌≡◌, ◌≢◌, [], false, get_or, bit_and, Some, subst, sym, ◌∙◌, rules, arith}
use Rattle.ap_world.specs.Narrowing.{cut}
use Rattle.ap_types.specs.Spoken.{Notes, Unspoken}
use Rattle.ap_types.proofs.Unspoken.{cut_free, some_alone}
use Rattle.ap_types.proofs.base.Base.cut.Goals as goal

pub returns-in-Some : goal.returns-in-Some
returns-in-Some c =
    let notes : Unspoken c.in-Some.spoken_of c.self.inside.facts.now = subst (Notes c.self.inside.facts.now) c.in-Some.is c.self.invariant in
    let some : c.self.inside.facts.now ≢ [] = search rules in
    let free : get_or c.in-Some.spoken_of c.place_of.result false ≡ false = search (rules, arith) in
    subst (λ fs. bit_and c.args.mask 1023 ≡ cut fs c.args.t.now c.args.mask) c.self.view_is (sym (some_alone c.self.inside.facts.now c.args.mask some) ∙ cut_free c.self.inside.facts.now c.in-Some.spoken_of c.place_of.result c.args.t.now c.args.mask notes c.place_of.ensures.is free)
