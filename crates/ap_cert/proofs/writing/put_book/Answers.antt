use Rattle.std.proofs.Common.{codes, ◌++◌, ap, sym}
use Rattle.ap_cert.specs.Cert.{book_line}
use Rattle.ap_cert.proofs.Written.{line_after}
use Rattle.ap_cert.proofs.writing.put_book.Goals as goal

pub returns : goal.returns
unfolding book_line
returns c =
    line_after c.put_line.result c.args.text.now (codes "book ") c.extend.new.self c.as_slice.result.now (book_line c.args.book.now.0) c.put_line.new.text c.in_ok-extend.ensures.ok
    (ap (λ xs. codes "book " ++ xs) (sym c.as_slice.ensures)) c.put_line.ensures
