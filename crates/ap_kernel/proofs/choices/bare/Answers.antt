use Rattle.std.proofs.Common.{◌≡◌, Bool, not, cond, ap, sym, ◌∙◌, rules}
use Rattle.ap_term.specs.declared.term.Term.{Term}
use Rattle.ap_world.specs.Shapes.{shape_of, negation}
use Rattle.ap_kernel.specs.Choices.{bare}
use Rattle.ap_kernel.proofs.ChoicesStand.{not_smaller, bare_not, bare_alone, turn_once, even}
use Rattle.ap_kernel.proofs.choices.bare.Goals as goal

pub loop-a-preserved : goal.loop-a-preserved
loop-a-preserved c =
    let h : shape_of c.loop-a.rest.now ≡ negation c.in-Not.a.now = search rules in
    let e = bare_not c.loop-a.rest.now c.in-Not.a.now h in
    record {
      term = sym (ap (λ (p : Term × Bool). p.0) e) ∙ c.loop-a.invariant.term;
      odd = turn_once c.loop-a.odd (bare c.in-Not.a.now).1 ∙ sym (ap (λ (p : Term × Bool). cond c.loop-a.odd (not p.1) p.1) e) ∙ c.loop-a.invariant.odd;
    }

pub returns : goal.returns
returns c =
    let e = bare_alone c.loop-a.rest.now c.shape_of.result c.shape_of.ensures c.in_default.not-Not in
    record {
      term = sym (ap (λ (p : Term × Bool). p.0) e) ∙ c.loop-a.invariant.term;
      odd = even c.loop-a.odd ∙ sym (ap (λ (p : Term × Bool). cond c.loop-a.odd (not p.1) p.1) e) ∙ c.loop-a.invariant.odd;
    }

pub loop-a-smaller : goal.loop-a-smaller
loop-a-smaller c =
    let h : shape_of c.loop-a.rest.now ≡ negation c.in-Not.a.now = search rules in
    not_smaller c.loop-a.rest.now c.in-Not.a.now h
