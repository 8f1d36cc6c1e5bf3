use Rattle.ap_poly.proofs.Certified.{lin_certifies, certificates_refute}
use Rattle.ap_poly.proofs.laws.lin_certifies.Goals as goal

pub returns-clause-certifies : goal.returns-clause-certifies
returns-clause-certifies c = lin_certifies

pub returns-clause-refutes : goal.returns-clause-refutes
returns-clause-refutes c = certificates_refute
