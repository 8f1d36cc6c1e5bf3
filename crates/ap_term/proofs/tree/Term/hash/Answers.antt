use Rattle.std.proofs.Common.{◌≡◌}
use Rattle.ap_term.proofs.KeptCounts.{hash_var, hash_quote}
use Rattle.ap_term.proofs.tree.Term.hash.Goals as goal

pub returns-in-Var : goal.returns-in-Var
returns-in-Var c = rw (← c.self.view_is, c.in-Var.is, hash_var _, ← c.symbol_hash.ensures) c.mixed.ensures

pub returns-in-Quote : goal.returns-in-Quote
returns-in-Quote c = rw (← c.self.view_is, c.in-Quote.is, hash_quote _, ← c.value_hash.ensures) c.mixed-in-Quote.ensures

pub returns-in-Call : goal.returns-in-Call
returns-in-Call c = rw (← c.self.view_is, c.in-Call.is) c.hash_under.ensures
