use Rattle.std.proofs.Common.{codes, ap, ◌++◌, sym, ◌∙◌}
use Rattle.ap_cert.specs.Cert.{events_line}
use Rattle.ap_cert.proofs.Written.{line_after}
use Rattle.ap_cert.proofs.writing.put_events.Goals as goal

pub returns : goal.returns
unfolding events_line
returns c =
    line_after c.put_line.result c.args.text.now (codes "events ") c.extend.new.self c.as_bytes.result.now (events_line c.args.events) c.put_line.new.text c.in_ok-extend.ensures.ok
    (ap (λ xs. codes "events " ++ xs) (sym (c.as_bytes.ensures.value ∙ c.format.ensures.text))) c.put_line.ensures
