use Rattle.std.proofs.Common.{◌≡◌, ◌+◌, ◌<◌, ◌++◌, [], ◌∷◌, length, take, sym, ap, ◌∙◌, subst, arith}
use Rattle.std.proofs.lemmas.List.{take_more}
use Rattle.ap_rules.specs.Carried.{Carried}
use Rattle.ap_rules.proofs.carrying.Carrier.of.Goals as goal

pub loop-entry-preserved : goal.loop-entry-preserved
loop-entry-preserved c =
    let i = c.loop-entry.entry-index in
    let within : i < length c.args.entries.now = omega arith in
    let further : take (i + 1) c.args.entries.now ≡ take i c.args.entries.now ++ c.entry-item.result ∷ [] =
    take_more c.args.entries.now i c.entry-item.result within ∙ ap (λ y. take i c.args.entries.now ++ y ∷ []) (sym c.entry-item.is) in
    subst (λ W. Carried W c.add_entry.new.self) (sym further)
    (c.in_ok-add_entry.ensures.ok (take i c.args.entries.now) c.loop-entry.invariant)
