use Rattle.std.proofs.Common.{[], ◌∷◌, ap, sym, ◌∙◌}
use Rattle.std.specs.Prelude.{slice_get}
use Rattle.ap_bank.proofs.Banked.{found_at, banked_insert, pushed_at, known_stay}
use Rattle.ap_bank.specs.Banks.{held_term}
use Rattle.ap_bank.proofs.bank.Bank.put.Goals as goal

pub returns-in-Some-clause-is : goal.returns-in-Some-clause-is
returns-in-Some-clause-is c =
    ap (slice_get c.args.self.now) c.in-Ok.ensures.1
    ∙ sym (ap (λ ts. slice_get ts c.in-Some.place) c.self.view_is)
    ∙ found_at c.self.inside.nodes.keys c.self.inside.terms c.self.invariant.banked c.args.held c.args.term (ap (λ ts. held_term ts c.args.held) c.self.view_is ∙ c.requires) c.in-Some.place (sym c.in-Some.ensures.index)

pub invariant_of-self-in-Ok-insert : goal.invariant_of-self-in-Ok-insert
invariant_of-self-in-Ok-insert c = record {
  banked =
      banked_insert c.self.inside.nodes.keys c.self.inside.terms c.self.invariant.banked c.args.held c.args.term (ap (λ ts. held_term ts c.args.held) c.self.view_is ∙ c.requires) (sym c.in_default.ensures.found)
      c.insert.new.self.keys c.push.new.self c.in-Ok-insert.ensures.keys c.in_ok-push.ensures.ok;
  known = known_stay c.self.inside.terms c.push.new.self (record { more = c.args.term ∷ []; is = c.in_ok-push.ensures.ok }) c.self.inside.known.entries c.self.invariant.known;
}

pub returns-clause-is : goal.returns-clause-is
returns-clause-is c = pushed_at c.self.inside.terms c.push.new.self c.args.term c.in-Ok-try_from.number c.in_ok-push.ensures.ok (c.in-Ok-try_from.ensures.1 ∙ c.len-place.ensures)
