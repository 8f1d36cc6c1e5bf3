use Rattle.ap_bank.proofs.Banked.{known_after}
use Rattle.ap_bank.proofs.bank.Bank.remember.Goals as goal

pub invariant_of-self : goal.invariant_of-self
invariant_of-self c = record {
  banked = c.self.invariant.banked;
  known =
      known_after c.add_known.result c.self.inside.terms c.args.self.now c.args.whole c.args.id c.self.inside.known.entries c.add_known.new.known.entries c.self.view_is c.self.invariant.known c.requires
      c.add_known.ensures.ok c.add_known.ensures.err;
}
