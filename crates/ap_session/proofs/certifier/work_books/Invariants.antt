use Rattle.std.proofs.Common.{◌≡◌, ◌≤◌, length, map, string_bytes}
use Rattle.ap_session.proofs.Sessions.{SoFar}
use Rattle.ap_session.proofs.certifier.work_books.Given as goal

-- the books so far were worked, and the library has their certificates
abbrev pub invariant-loop-name : goal.invariant-loop-name
invariant-loop-name g l = record {
  count : length l.books ≡ l.name-index;
  so_far : SoFar (g.S.Sink.content l.fn.sink) (g.S.Sink.content l.sink) (g.L.Library.files l.fn.library) (g.L.Library.files l.library) (map string_bytes l.names) l.fn.admitting l.admitting l.books l.certified;
  reads : g.L.Library.read_faults l.fn.library ≤ g.L.Library.read_faults l.library;
  stores : g.L.Library.store_faults l.fn.library ≤ g.L.Library.store_faults l.library;
  puts : g.S.Sink.faults l.fn.sink ≤ g.S.Sink.faults l.sink;
}
