use Rattle.ap_word.proofs.Stopping.{known_stops, stops_later, stops_with_more}
use Rattle.ap_word.proofs.laws.families_stop.Goals as goal

pub returns : goal.returns
returns g = record { later = stops_later; more = stops_with_more; known = known_stops }
