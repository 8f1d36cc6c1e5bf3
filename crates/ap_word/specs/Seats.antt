-- What contracts see of a word and of its seats: which word it is, and what a seat knows.
pub use Rattle.atomic_table.specs.Seated.{TableId}
use Rattle.ap_word.specs.declared.family.View.{View}
use Rattle.ap_word.specs.declared.word.FamilyWord.{FamilyWord}
use Rattle.ap_word.specs.declared.word.WordSeat.{WordSeat}

abbrev pub word_table : FamilyWord → TableId
word_table w = w.table.shared.table_id

abbrev pub seat_table : WordSeat → TableId
seat_table s = s.seat.table_id

abbrev pub seat_view : WordSeat → View
seat_view s = s.seat.me.0
