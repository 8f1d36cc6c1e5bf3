use Rattle.std.proofs.Common.{refl}
use Rattle.atomic_table.specs.Table.{keeps}
use Rattle.ap_word.specs.Words.{marked}
use Rattle.ap_word.proofs.Plays.{mark_keeps}
use Rattle.ap_word.proofs.word.FamilyWord.mark.Goals as goal

pub fetch_min-requires : goal.fetch_min-requires
fetch_min-requires c = (
  c.requires.table,
  c.args.self.now.has_word,
  λ s k slots at small. (
    marked c.args.seat.now.seat.me.0 c.args.place,
    keeps,
    tt,
    mark_keeps s.words s.views c.args.seat.now.seat.id c.args.seat.now.seat.me.0 c.args.place c.args.seat.now.was_told c.requires.stops k at,
    (refl, refl),
  ),
)
