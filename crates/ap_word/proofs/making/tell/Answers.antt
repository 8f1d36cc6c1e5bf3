use Rattle.std.proofs.Common.{refl}
use Rattle.atomic_table.specs.Table.{keeps}
use Rattle.ap_word.specs.Words.{told}
use Rattle.ap_word.proofs.Plays.{tell_keeps}
use Rattle.ap_word.proofs.making.tell.Goals as goal

pub load-requires : goal.load-requires
load-requires g c = (
  c.requires.table,
  c.requires.words,
  λ s k slots at small. (
    told c.args.seat.now.me.0 g.F.Truth.truth,
    keeps,
    tt,
    tell_keeps s.words s.views c.args.seat.now.id c.args.seat.now.me.0 g.F.Truth.truth c.requires.untold k at,
    (refl, refl),
  ),
)
