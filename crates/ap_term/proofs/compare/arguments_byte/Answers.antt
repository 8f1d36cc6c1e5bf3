use Rattle.ap_term.proofs.ArgumentTexts.{first_argument}
use Rattle.ap_term.proofs.compare.arguments_byte.Goals as goal

pub returns-in-len1-up-clause-first : goal.returns-in-len1-up-clause-first
returns-in-len1-up-clause-first c = first_argument c.args.xs.now c.in-len1-up.len_at_least
