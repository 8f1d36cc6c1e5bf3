use Rattle.std.proofs.Common.{ap, ◌∙◌}
use Rattle.ap_plain.specs.declared.end.Outcome.{Outcome}
use Rattle.ap_plain.specs.Constants.{constant_event}
use Rattle.ap_stated.specs.Shapes.{constant_of}
use Rattle.ap_events.proofs.Joined.{if_silent, silenced_drops}
use Rattle.ap_events.proofs.again.constant_again.Goals as goal

pub returns-clause-done : goal.returns-clause-done
returns-clause-done c = if_silent (constant_event c.args.w.now (constant_of c.args.f.now)) c.args.w.now c.constant_event.new.w c.in_ok-done.done c.silent.result c.silent.ensures c.in_ok-done.ensures.done

pub returns-clause-alone : goal.returns-clause-alone
returns-clause-alone c = ap (λ (o : Outcome). o.drops) c.silent.ensures ∙ silenced_drops c.in_ok-done.done ∙ c.in_ok-done.ensures.alone
