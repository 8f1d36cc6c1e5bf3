use Rattle.ap_term.proofs.Matches.{match_all-lengths}
use Rattle.std.proofs.Common.{arith}
use Rattle.ap_term.proofs.Seen.{deeper}
use Rattle.ap_term.proofs.matching.+matching.Goals as goal

pub match_terms-returns-then-patterns-ts : goal.match_terms-returns-then-patterns-ts
match_terms-returns-then-patterns-ts t c = match_all-lengths c.args.patterns.now c.args.ts.now c.args.pairs.now c.if-patterns-ts.true

pub match_term-match_terms-requires : goal.match_term-match_terms-requires
match_term-match_terms-requires t c = let d = deeper c.pattern.view_is c.in-Call-Call.is-0 c.as_slice.ensures in (omega (arith, c.decreases), tt)
