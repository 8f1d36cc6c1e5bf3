use Rattle.std.proofs.Common.{arith}
use Rattle.ap_term.proofs.Seen.{deeper}
use Rattle.ap_rules.proofs.Renamed.{rename_all-lengths}
use Rattle.ap_rules.proofs.renaming.+renaming.Goals as goal

pub rename_terms-returns-then-ts-us : goal.rename_terms-returns-then-ts-us
rename_terms-returns-then-ts-us t c = rename_all-lengths c.args.ts.now c.args.us.now c.args.pairs.now c.if-ts-us.true

pub rename_term-rename_terms-requires : goal.rename_term-rename_terms-requires
rename_term-rename_terms-requires t c = let d = deeper c.a.view_is c.in-Call-Call.is-0 c.as_slice.ensures in (omega (arith, c.decreases), tt)
