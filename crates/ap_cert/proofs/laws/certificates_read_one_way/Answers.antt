use Rattle.ap_cert.proofs.OneReading.{one_reading}
use Rattle.ap_cert.proofs.laws.certificates_read_one_way.Goals as goal

pub returns : goal.returns
returns c = one_reading
