use Rattle.ap_admit.proofs.Known.{obligations_known, chosen_measure_fits}
use Rattle.ap_admit.proofs.Definitions.{owed_is_known}
use Rattle.ap_admit.proofs.laws.obligations_are_known.Goals as goal

pub returns-clause-known : goal.returns-clause-known
returns-clause-known c = obligations_known

pub returns-clause-chosen : goal.returns-clause-chosen
returns-clause-chosen c = chosen_measure_fits

pub returns-clause-definition : goal.returns-clause-definition
returns-clause-definition c = owed_is_known
