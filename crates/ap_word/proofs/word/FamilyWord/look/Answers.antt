use Rattle.std.proofs.Common.{refl}
use Rattle.std.specs.Prelude.{slice_index}
use Rattle.atomic_table.specs.Table.{keeps}
use Rattle.ap_word.specs.Words.{looked}
use Rattle.ap_word.proofs.Plays.{look_keeps}
use Rattle.ap_word.proofs.word.FamilyWord.look.Goals as goal

pub load-requires : goal.load-requires
load-requires c = (
  c.requires,
  c.args.self.now.has_word,
  λ s k slots at small.
      let kept = look_keeps s.words s.views c.args.seat.now.seat.id c.args.seat.now.seat.me.0 c.args.seat.now.was_told k at in
      (looked c.args.seat.now.seat.me.0 (slice_index s.words 0), keeps, tt, kept.0, (refl, refl, kept.1.0, kept.1.1)),
)
