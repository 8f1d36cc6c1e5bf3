use Rattle.ap_plain.specs.Lines.{process_text}
use Rattle.ap_plain.proofs.lines.put_process.Goals as goal

pub returns-in-Generalize : goal.returns-in-Generalize
unfolding process_text
returns-in-Generalize g c = rw c.in-Generalize.is c.put_counted-in-Generalize.ensures
