use Rattle.std.proofs.Common.{refl}
use Rattle.ap_books.specs.Bodies.{forms_of}
use Rattle.ap_books.proofs.Showing.{reached_same}
use Rattle.ap_books.proofs.body.show_book.Goals as goal

pub returns-in_err-first-clause-reached : goal.returns-in_err-first-clause-reached
returns-in_err-first-clause-reached g c =
    let A = g.A.Admitter in
    reached_same g.row.A.Denot A.State A.Log A.state A.admits A.ends A.links A.rests (forms_of c.args.book.now.read) c.args.admitter.now c.args.admitter.now refl

pub returns-in_err-put_all-clause-reached : goal.returns-in_err-put_all-clause-reached
returns-in_err-put_all-clause-reached g c =
    let A = g.A.Admitter in
    reached_same g.row.A.Denot A.State A.Log A.state A.admits A.ends A.links A.rests (forms_of c.args.book.now.read) c.args.admitter.now c.args.admitter.now refl

pub returns-in_err-events-clause-reached : goal.returns-in_err-events-clause-reached
returns-in_err-events-clause-reached g c =
    let A = g.A.Admitter in
    reached_same g.row.A.Denot A.State A.Log A.state A.admits A.ends A.links A.rests (forms_of c.args.book.now.read) c.args.admitter.now c.args.admitter.now refl
