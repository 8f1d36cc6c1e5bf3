use Rattle.std.proofs.Common.{◌≡◌, ◌+◌, ◌<◌, ◌++◌, [], ◌∷◌, length, take, sym, ap, ◌∙◌, arith}
use Rattle.std.proofs.lemmas.List.{take_more}
use Rattle.ap_rules.specs.Linear.{may_match}
use Rattle.ap_rules.specs.Placed.{places_from}
use Rattle.ap_rules.proofs.Merging.{atoms_none}
use Rattle.ap_rules.proofs.finding.rising.Goals as goal

pub loop-atom-init : goal.loop-atom-init
loop-atom-init c = c.new-places.ensures ∙ sym (atoms_none c.args.rules.now)

pub loop-atom-preserved : goal.loop-atom-preserved
loop-atom-preserved c =
    let i = c.loop-atom.atom-index in
    let within : i < length c.args.atoms.now = omega arith in
    let further : take (i + 1) c.args.atoms.now ≡ take i c.args.atoms.now ++ c.atom-item.result ∷ [] =
    take_more c.args.atoms.now i c.atom-item.result within ∙ ap (λ y. take i c.args.atoms.now ++ y ∷ []) (sym c.atom-item.is) in
    c.in_ok-places.ensures (take i c.args.atoms.now) c.loop-atom.invariant ∙ ap (λ xs. places_from (may_match xs) 0 c.args.rules.now) (sym further)
