use Rattle.std.proofs.Common.{◌≡◌, false, true, rules}
use Rattle.ap_kernel.proofs.Walked.{first_fails, first_leads}
use Rattle.ap_kernel.proofs.relieving.all_lead.Goals as goal

pub returns-then-not-branch : goal.returns-then-not-branch
returns-then-not-branch c =
    let fails : c.in_ok-leads_to_true.field-0 ≡ false = search rules in (
      λ f. cc,
      λ all. first_fails c.args.ctx.now c.args.s.now.0 c.loop-left.left.now c.loop-left.shown.now c.h-item.result c.q-item.result c.in_ok-leads_to_true.field-0
          c.in-len1-up.len_at_least c.in-len1-up-shown.len_at_least c.h-item.is c.q-item.is c.in_ok-leads_to_true.ensures fails (c.loop-left.invariant.1 all),
    )

pub loop-left-preserved : goal.loop-left-preserved
loop-left-preserved c =
    let leads : c.in_ok-leads_to_true.field-0 ≡ true = search rules in
    let f = first_leads c.args.ctx.now c.args.s.now.0 c.loop-left.left.now c.loop-left.shown.now c.h-item.result c.q-item.result c.in_ok-leads_to_true.field-0
    c.in-len1-up.len_at_least c.in-len1-up-shown.len_at_least c.h-item.is c.q-item.is c.in_ok-leads_to_true.ensures leads in
    (λ rest. c.loop-left.invariant.0 (f.0 rest), λ all. f.1 (c.loop-left.invariant.1 all))
