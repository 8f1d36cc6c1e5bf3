use Rattle.std.proofs.Common.{◌≡◌, [], ◌∷◌, ap, ◌∙◌}
use Rattle.ap_term.specs.declared.term.Term.{Call}
use Rattle.ap_term.proofs.Seen.{seen}
use Rattle.ap_world.proofs.Conjoined.{pair_is}
use Rattle.ap_kernel.proofs.Walked.{pair_smaller}
use Rattle.ap_kernel.proofs.parts.implied_parts.Goals as goal

pub returns-in-true-len2-clause-smaller : goal.returns-in-true-len2-clause-smaller
returns-in-true-len2-clause-smaller c =
    let u : c.args.t.now ≡ Call c.in-Call.f (c.h-item.result ∷ c.c-item.result ∷ []) =
    seen c.t.view_is c.in-Call.is ∙ ap (Call c.in-Call.f) (pair_is c.as_slice.result.now c.in-Call.ts c.h-item.result c.c-item.result c.as_slice.ensures c.in-true-len2.len_at_least c.in-true-len2.len_below c.h-item.is c.c-item.is) in
    pair_smaller c.args.t.now c.in-Call.f c.h-item.result c.c-item.result u
