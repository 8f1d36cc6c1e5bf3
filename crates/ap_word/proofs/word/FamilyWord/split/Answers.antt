use Rattle.ap_word.proofs.Plays.{split_keeps}
use Rattle.ap_word.proofs.word.FamilyWord.split.Goals as goal

pub split_seat-seat-requires : goal.split_seat-seat-requires
split_seat-seat-requires c = (
  c.requires,
  c.args.self.now.has_word,
  λ s k at. split_keeps s.words s.views c.args.seat.now.seat.id c.args.seat.now.seat.me.0 c.args.seat.now.was_told k at,
)
