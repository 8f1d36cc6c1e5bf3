use Rattle.std.proofs.Common.{◌≡◌, ◌+◌, ◌<◌, ◌++◌, ◌∷◌, [], length, take, refl, sym, ap, ◌∙◌, rules}
use Rattle.std.proofs.lemmas.List.{take_more}
use Rattle.ap_list.specs.Lists.{is_among}
use Rattle.ap_world.specs.Theories.{rune_of, kind_in, symbol_in, rune_eq}
use Rattle.ap_world.proofs.Theories.{rune_next}
use Rattle.ap_world.proofs.runes.table_of.Goals as goal

pub loop-rune-preserved : goal.loop-rune-preserved
loop-rune-preserved c =
    let runes = c.args.runes.now in
    let i = c.loop-rune.rune-index in
    let within : i < length runes = search rules in
    let more : take (i + 1) runes ≡ take i runes ++ c.rune-item.result ∷ [] =
    take_more runes i c.rune-item.result within ∙ ap (λ s. take i runes ++ s ∷ []) (sym (search rules)) in
    λ k f.
    rune_next c.loop-rune.table c.add_copy.new.self (take i runes) c.rune-item.result (kind_in c.rune-item.result) (symbol_in c.rune-item.result) refl refl
    c.loop-rune.invariant c.in_ok-add_copy.ensures k f
    ∙ ap (is_among rune_eq (rune_of k f)) (sym more)
