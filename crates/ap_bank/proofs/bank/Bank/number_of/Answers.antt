use Rattle.ap_bank.proofs.Banked.{number_found}
use Rattle.ap_bank.proofs.bank.Bank.number_of.Goals as goal

pub returns : goal.returns
returns c = number_found c.self.inside.terms c.args.self.now c.args.whole.now c.known_id.result c.self.inside.known.entries c.self.view_is c.self.invariant.known c.known_id.ensures
