-- What a form holds, lent.
use Rattle.ap_events.specs.declared.nesting.Nesting.{Nesting as Lent}
use Rattle.ap_events.specs.declared.nesting.Nesting.TheVariants as lent
use Rattle.ap_events.specs.Nested.{Nesting, plain, hidden, group, closed}

abbrev pub as_nesting : Lent → Nesting
as_nesting lent.Plain = plain
as_nesting (lent.Hidden f) = hidden f.now
as_nesting (lent.Group fs) = group fs.now
as_nesting (lent.Closed fs) = closed fs.now
