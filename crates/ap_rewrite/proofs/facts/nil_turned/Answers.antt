use Rattle.std.proofs.Common.{sym, ap, ◌∙◌}
use Rattle.ap_term.specs.declared.term.Term.{Quote}
use Rattle.ap_world.specs.Clauses.{not_of}
use Rattle.ap_kernel.specs.declared.objects.Mode.TheVariants.{Equal}
use Rattle.ap_rewrite.specs.Leading.{leads_made}
use Rattle.ap_rewrite.proofs.Negated.{nil_turns}
use Rattle.ap_rewrite.proofs.facts.nil_turned.Goals as goal

pub not_constant-requires-clause-negation : goal.not_constant-requires-clause-negation
not_constant-requires-clause-negation c = c.requires.negation ∙ ap not_of (ap Quote (sym c.nil_value-nil.ensures))

pub returns-clause-made : goal.returns-clause-made
returns-clause-made c = c.in_ok-r.ensures.made ∙ ap (leads_made c.args.ctx.now Equal c.args.t.now) (nil_turns c.nil_value-nil.result c.nil_value-nil.ensures)
