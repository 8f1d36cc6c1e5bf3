use Rattle.std.proofs.Common.{◌≡◌, ◌+◌, ◌<◌, ◌++◌, ◌∷◌, [], length, take, sym, ap, ◌∙◌, rules}
use Rattle.std.proofs.lemmas.List.{take_more}
use Rattle.ap_world.proofs.Theories.{besides_more}
use Rattle.ap_world.proofs.including.besides.Goals as goal

pub loop-rune-preserved : goal.loop-rune-preserved
loop-rune-preserved c =
    let runes = c.args.runes.now in
    let i = c.loop-rune.rune-index in
    let within : i < length runes = search rules in
    let more : take (i + 1) runes ≡ take i runes ++ c.rune-item.result ∷ [] =
    take_more runes i c.rune-item.result within ∙ ap (λ s. take i runes ++ s ∷ []) (sym (search rules)) in
    c.in_ok-push_enabled.ensures
    ∙ besides_more c.args.theory.now.disabled (take i runes) (take (i + 1) runes) c.loop-rune.out c.rune-item.result more c.loop-rune.invariant
