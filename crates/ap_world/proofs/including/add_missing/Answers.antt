use Rattle.std.proofs.Common.{◌≡◌, ◌+◌, ◌<◌, ◌∷◌, ◌++◌, [], length, refl, take, Some, sym, ap, ◌∙◌, rules}
use Rattle.std.specs.Prelude.{slice_get}
use Rattle.std.proofs.lemmas.List.{take_more}
use Rattle.std.proofs.lemmas.Option.{slice_get_read}
use Rattle.ap_world.specs.Including.{missing, with_missing}
use Rattle.ap_world.proofs.Included.{missing_more}
use Rattle.ap_world.proofs.Places.{distinct_before, no_primitive, take_front}
use Rattle.ap_world.proofs.including.add_missing.Goals as goal

pub add_new-requires : goal.add_new-requires
add_new-requires c =
    let K = c.args.list.now in
    let there : slice_get K c.loop-entry.entry-index ≡ Some c.entry-item.result =
    slice_get_read K (length K) c.loop-entry.entry-index c.entry-item.result refl (search rules) (search rules) in
    no_primitive K c.loop-entry.entry-index c.entry-item.result c.requires there

pub returns-in-Err-clause-err : goal.returns-in-Err-clause-err
returns-in-Err-clause-err c =
    let W = c.args.entries.now in
    c.truncate.ensures ∙ ap (take c.len-count.result) (c.in-Err.ensures.err ∙ c.loop-entry.invariant)
    ∙ take_front W (missing W (take c.loop-entry.entry-index c.args.list.now)) c.len-count.result c.len-count.ensures

pub loop-entry-preserved : goal.loop-entry-preserved
loop-entry-preserved c =
    let W = c.args.entries.now in
    let K = c.args.list.now in
    let i = c.loop-entry.entry-index in
    let y = c.entry-item.result in
    let within : i < length K = search rules in
    let there : slice_get K i ≡ Some y = slice_get_read K (length K) i y refl (search rules) (search rules) in
    let more : take (i + 1) K ≡ take i K ++ y ∷ [] = take_more K i y within ∙ ap (λ s. take i K ++ s ∷ []) (sym (search rules)) in
    c.in_default.ensures.ok ∙ ap (λ V. with_missing V (y ∷ [])) c.loop-entry.invariant
    ∙ missing_more W (take i K) (take (i + 1) K) y more (distinct_before K i y c.requires there)
