use Rattle.std.proofs.Common.{◌≡◌, ◌↔◌, subst, IsTrue}
use Rattle.std.specs.Prelude.{List}
use Rattle.ap_term.specs.declared.term.Term.{Term}
use Rattle.ap_strategy.specs.Repeats.{args_decided}
use Rattle.ap_chain.proofs.finding.same_clause.Goals as goal

pub returns : goal.returns
returns c =
    args_decided c.same_terms.result c.args.a.now.0 c.args.b.now.0
    (subst (λ (xs : List Term). IsTrue c.same_terms.result ↔ (xs ≡ c.args.b.now.0)) c.as_slice.ensures
    (subst (λ (ys : List Term). IsTrue c.same_terms.result ↔ (c.as_slice.result.now ≡ ys)) c.as_slice-2.ensures c.same_terms.ensures))
