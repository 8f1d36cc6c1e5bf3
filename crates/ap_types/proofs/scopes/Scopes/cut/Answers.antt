use Rattle.std.proofs.Common.{◌≡◌, false, get_or, ap, ◌∙◌, subst, rules, arith}
use Rattle.ap_world.specs.Narrowing.{cut}
use Rattle.ap_types.specs.Scopes.{entered}
use Rattle.ap_types.specs.Spoken.{left_alone}
use Rattle.ap_types.proofs.Unspoken.{cut_free}
use Rattle.ap_types.proofs.scopes.Scopes.cut.Goals as goal

pub returns-else-self-place_of : goal.returns-else-self-place_of
returns-else-self-place_of c =
    let free : get_or c.self.inside.spoken_of c.place_of.result false ≡ false = search (rules, arith) in
    let is = cut_free (entered c.self.inside.contexts) c.self.inside.spoken_of c.place_of.result c.args.t.now c.args.mask c.self.invariant c.place_of.ensures.is free in
    subst (λ cs. c.cut_by_none.result ≡ cut (entered cs) c.args.t.now c.args.mask) c.self.view_is
    (c.cut_by_none.ensures ∙ ap (λ cs. left_alone (entered cs) c.args.mask) c.as_slice-contexts.ensures ∙ is)
