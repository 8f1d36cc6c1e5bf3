use Rattle.ap_word.specs.Stops.{nothing_counted}
use Rattle.ap_table.proofs.Scanning.{closes_kept, kept_closes, kept_first}
use Rattle.ap_table.proofs.laws.closing_is_by_the_known_stop.Goals as goal

pub returns : goal.returns
returns g c = record { kept = kept_closes; which = λ n os ws e. kept_first n nothing_counted os ws e; closes = closes_kept }
