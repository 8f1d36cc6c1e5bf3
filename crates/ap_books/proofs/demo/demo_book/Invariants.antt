use Rattle.std.proofs.Common.{◌≡◌, ◌++◌}
use Rattle.ap_books.specs.Demo.{package_line, demo_events}
use Rattle.ap_books.proofs.demo.demo_book.Given as goal

abbrev pub invariant-loop-k : goal.invariant-loop-k
invariant-loop-k l = record {
  so_far : l.text ≡ package_line ++ demo_events l.k;
}
