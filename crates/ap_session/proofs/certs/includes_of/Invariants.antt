use Rattle.std.proofs.Common.{◌≡◌, drop, []}
use Rattle.ap_session.specs.Certs.{seen_in, with_includes}
use Rattle.ap_session.proofs.certs.includes_of.Given as goal

-- those that are left, behind those that are listed, give what all of them give
abbrev pub invariant-loop-name : goal.invariant-loop-name
invariant-loop-name l = with_includes (seen_in l.before) (drop l.name-index l.names) l.includes ≡ with_includes (seen_in l.before) l.names []
