use Rattle.std.proofs.Common.{◌≡◌, ◌++◌, sym, ◌∙◌, ap, append_assoc, rules}
use Rattle.ap_world.specs.Assume.{assumed}
use Rattle.ap_world.proofs.Parts.{assumed_whole, assumed_one, assumed_two}
use Rattle.ap_kernel.proofs.assuming.+assuming.Goals as goal

pub returns-in_ok-copy_term-in-Whole : goal.returns-in_ok-copy_term-in-Whole
returns-in_ok-copy_term-in-Whole t c =
    let e = assumed_whole c.args.t.now c.args.sign (sym c.in-Whole.ensures.is) in
    rw e (search rules)

pub returns-in-One : goal.returns-in-One
returns-in-One t c =
    let e = assumed_one c.args.t.now c.args.sign c.in-One.a.now c.in-One.s (sym c.in-One.ensures.is) in
    rw e (search rules)

pub returns-in_ok-push_assumed-in-Two : goal.returns-in_ok-push_assumed-in-Two
returns-in_ok-push_assumed-in-Two t c =
    let first : c.push_assumed-in-Two.new.facts ≡ c.args.facts.now ++ assumed c.in-Two.a.now c.in-Two.s = search rules in
    let e : c.args.facts.now ++ assumed c.args.t.now c.args.sign ≡ c.push_assumed-in-Two.new.facts ++ assumed c.in-Two.b.now c.in-Two.r =
    ap (λ fs. c.args.facts.now ++ fs) (assumed_two c.args.t.now c.args.sign c.in-Two.a.now c.in-Two.s c.in-Two.b.now c.in-Two.r (sym c.in-Two.ensures.is))
    ∙ sym (append_assoc c.args.facts.now (assumed c.in-Two.a.now c.in-Two.s) (assumed c.in-Two.b.now c.in-Two.r))
    ∙ ap (λ fs. fs ++ assumed c.in-Two.b.now c.in-Two.r) (sym first) in
    rw e c.push_assumed-in-Two-2.ensures
