use Rattle.ap_names.proofs.Read.{name_reads}
use Rattle.ap_names.proofs.OneReading.{one_reading, reading_same}
use Rattle.ap_names.proofs.reading.printing_has_one_reading.Goals as goal

pub returns : goal.returns
returns c = record { names = one_reading; texts = reading_same; reading = name_reads }
