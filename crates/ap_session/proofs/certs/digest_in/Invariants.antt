use Rattle.std.proofs.Common.{◌≡◌, drop}
use Rattle.ap_session.specs.Certs.{seen_in, digest_in}
use Rattle.ap_session.proofs.certs.digest_in.Given as goal

-- the first of that name is among those that are left
abbrev pub invariant-loop-book : goal.invariant-loop-book
invariant-loop-book l = digest_in (seen_in l.books) l.name ≡ digest_in (seen_in (drop l.book-index l.books)) l.name
