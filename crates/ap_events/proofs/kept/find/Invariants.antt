use Rattle.std.proofs.Common.{◌≡◌, drop}
use Rattle.ap_list.specs.Lists.{lookup_by}
use Rattle.ap_value.specs.Values.{bytes_eq}
use Rattle.ap_events.proofs.kept.find.Given as goal

-- the name isn't among those of the books that are passed
abbrev pub invariant-loop-book : goal.invariant-loop-book
invariant-loop-book l = lookup_by bytes_eq (drop l.book-index l.earlier) l.name ≡ lookup_by bytes_eq l.earlier l.name
