use Rattle.std.proofs.Common.{◌≡◌, length, slice_get, ap, ◌∙◌, arith, refl, rules}
use Rattle.ap_world.specs.Clauses.{conjuncts}
use Rattle.ap_kernel.proofs.PartsFound.{conjuncts_found, conjuncts_alone, found_first, found_second, past_on}
use Rattle.ap_kernel.proofs.parts.+conjunct.Goals as goal

pub returns-then-place-eq0-clause-found : goal.returns-then-place-eq0-clause-found
returns-then-place-eq0-clause-found t c =
    let zero : c.args.place ≡ 0 = search rules in
    ap (λ us. slice_get us c.args.place) (conjuncts_alone c.args.t.now c.in-None.ensures.is) ∙ rw zero refl

pub returns-in-Ok-clause-found : goal.returns-in-Ok-clause-found
returns-in-Ok-clause-found t c =
    ap (λ us. slice_get us c.args.place) (conjuncts_found c.args.t.now c.in-Some.a.now c.in-Some.b.now c.in-Some.ensures.is)
    ∙ found_first (conjuncts c.in-Some.a.now) (conjuncts c.in-Some.b.now) c.args.place c.in-Ok.u.now c.in-Ok.ensures.found

pub returns-in-Err-clause-found : goal.returns-in-Err-clause-found
returns-in-Err-clause-found t c =
    let e = conjuncts_found c.args.t.now c.in-Some.a.now c.in-Some.b.now c.in-Some.ensures.is in
    rw e (search (rules, found_second (conjuncts c.in-Some.a.now) (conjuncts c.in-Some.b.now) c.in-Err.left c.args.place))

pub returns-in-Err-clause-past : goal.returns-in-Err-clause-past
returns-in-Err-clause-past t c =
    let e = conjuncts_found c.args.t.now c.in-Some.a.now c.in-Some.b.now c.in-Some.ensures.is in
    rw e (past_on c.conjunct-in-Err.result (conjuncts c.in-Some.a.now) (conjuncts c.in-Some.b.now) c.in-Err.left c.args.place c.in-Err.ensures.past c.conjunct-in-Err.ensures.past)

pub returns-else-place-eq0-clause-past : goal.returns-else-place-eq0-clause-past
returns-else-place-eq0-clause-past t c =
    let e : length (conjuncts c.args.t.now) ≡ 1 = ap (λ us. length us) (conjuncts_alone c.args.t.now c.in-None.ensures.is) in
    omega (arith, e)
