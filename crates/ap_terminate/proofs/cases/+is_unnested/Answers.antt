use Rattle.std.proofs.Common.{◌≡◌, ◌&&◌, true, false, ap, sym, ◌∙◌, rules}
use Rattle.ap_world.specs.Recursion.{has_no_call, is_unnested}
use Rattle.ap_terminate.proofs.Casing.{unnested_whole, unnested_split}
use Rattle.ap_terminate.proofs.cases.+is_unnested.Goals as goal

pub returns-then-not-has_no_call : goal.returns-then-not-has_no_call
returns-then-not-has_no_call t c =
    let F = c.args.name.now in
    let p : has_no_call F c.in-Some.test.now ≡ false = search rules in
    sym (unnested_split F c.args.t.now c.in-Some.test.now c.in-Some.yes.now c.in-Some.no.now (sym c.in-Some.ensures.is)
    ∙ ap (λ b. b && (is_unnested F c.in-Some.yes.now && is_unnested F c.in-Some.no.now)) p)

pub returns-then-is_unnested : goal.returns-then-is_unnested
returns-then-is_unnested t c =
    let F = c.args.name.now in
    let p : has_no_call F c.in-Some.test.now ≡ true = search rules in
    let q : is_unnested F c.in-Some.yes.now ≡ true = search rules in
    c.is_unnested-then-is_unnested.ensures
    ∙ sym (unnested_split F c.args.t.now c.in-Some.test.now c.in-Some.yes.now c.in-Some.no.now (sym c.in-Some.ensures.is)
    ∙ (λ i. p i && (q i && is_unnested F c.in-Some.no.now)))

pub returns-else-is_unnested : goal.returns-else-is_unnested
returns-else-is_unnested t c =
    let F = c.args.name.now in
    let p : has_no_call F c.in-Some.test.now ≡ true = search rules in
    let q : is_unnested F c.in-Some.yes.now ≡ false = search rules in
    let r : c.is_unnested.result ≡ false = search rules in
    r
    ∙ sym (unnested_split F c.args.t.now c.in-Some.test.now c.in-Some.yes.now c.in-Some.no.now (sym c.in-Some.ensures.is)
    ∙ (λ i. p i && (q i && is_unnested F c.in-Some.no.now)))

pub returns-in-None : goal.returns-in-None
returns-in-None t c = c.has_flat_calls.ensures ∙ sym (unnested_whole c.args.name.now c.args.t.now (sym c.in-None.ensures.is))
