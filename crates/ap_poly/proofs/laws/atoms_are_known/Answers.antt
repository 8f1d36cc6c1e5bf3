use Rattle.ap_poly.proofs.AtomsKnown.{literals_known, atoms_known}
use Rattle.ap_poly.proofs.laws.atoms_are_known.Goals as goal

pub returns-clause-literals : goal.returns-clause-literals
returns-clause-literals c = literals_known

pub returns-clause-atoms : goal.returns-clause-atoms
returns-clause-atoms c = atoms_known
