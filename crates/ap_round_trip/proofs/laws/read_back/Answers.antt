use Rattle.ap_round_trip.proofs.Bars.{bars_needed}
use Rattle.ap_round_trip.proofs.Read.{symbols, strings, characters, integers, values, constants}
use Rattle.ap_round_trip.proofs.laws.read_back.Goals as goal

pub returns : goal.returns
returns c = record { symbols = symbols; bars = bars_needed; strings = strings; characters = characters; integers = integers; values = values; constants = constants }
