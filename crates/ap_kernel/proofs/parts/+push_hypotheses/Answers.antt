use Rattle.std.proofs.Common.{◌≡◌, ◌++◌, List, ap, sym, ◌∙◌, append-nil, rules}
use Rattle.ap_term.specs.declared.term.Term.{Term}
use Rattle.ap_world.specs.Clauses.{conjuncts}
use Rattle.ap_world.specs.Rules.{stated}
use Rattle.ap_world.proofs.Conjoined.{by_steps}
use Rattle.ap_kernel.proofs.PartsFound.{stated_found, stated_alone}
use Rattle.ap_kernel.proofs.parts.+push_hypotheses.Goals as goal

pub returns-in_ok-push_conjuncts-in-Some : goal.returns-in_ok-push_conjuncts-in-Some
returns-in_ok-push_conjuncts-in-Some t c =
    let first : c.push_conjuncts.new.out ≡ c.args.out.now ++ conjuncts c.in-Some.h.now = search rules in
    let e : c.args.out.now ++ (stated c.args.t.now).0 ≡ c.push_conjuncts.new.out ++ (stated c.in-Some.c.now).0 =
    by_steps c.args.out.now c.push_conjuncts.new.out (conjuncts c.in-Some.h.now) (stated c.in-Some.c.now).0 (stated c.args.t.now).0
    (ap (λ (p : List Term × Term). p.0) (stated_found c.args.t.now c.in-Some.h.now c.in-Some.c.now c.in-Some.ensures.is)) first in
    rw e c.push_hypotheses.ensures

pub returns-in-None : goal.returns-in-None
returns-in-None t c = sym (ap (λ (p : List Term × Term). c.args.out.now ++ p.0) (stated_alone c.args.t.now c.in-None.ensures.is) ∙ append-nil c.args.out.now)
