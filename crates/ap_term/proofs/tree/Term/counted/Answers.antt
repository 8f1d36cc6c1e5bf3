use Rattle.std.proofs.Common.{◌≡◌, refl, sym, ap, ◌∙◌, arith}
use Rattle.ap_term.proofs.KeptCounts.{variables_var, variables_quote, functions_var, functions_quote, constants_var, constants_quote, leaves_var, leaves_quote, has_if_var, has_if_quote, hash_var, hash_quote}
use Rattle.ap_term.proofs.tree.Term.counted.Goals as goal

pub returns-in-Var : goal.returns-in-Var
returns-in-Var c = rw (← c.self.view_is, c.in-Var.is) (record {
  variables = rw (variables_var _) refl;
  functions = rw (functions_var _) refl;
  constants = rw (constants_var _) refl;
  leaves = rw (leaves_var _) refl;
  hash = rw (hash_var _, ← c.symbol_hash.ensures) c.mixed.ensures;
  has_if = sym (has_if_var _);
})

pub returns-in-Quote : goal.returns-in-Quote
returns-in-Quote c = rw (← c.self.view_is, c.in-Quote.is) (record {
  variables = rw (variables_quote _) refl;
  functions = rw (functions_quote _) refl;
  constants = rw (constants_quote _) c.constant_nodes.ensures;
  leaves = rw (leaves_quote _) refl;
  hash = rw (hash_quote _, ← c.value_hash.ensures) c.mixed-in-Quote.ensures;
  has_if = sym (has_if_quote _);
})

pub returns-in-Call : goal.returns-in-Call
returns-in-Call c = rw (← c.self.view_is, c.in-Call.is) c.counted.ensures
