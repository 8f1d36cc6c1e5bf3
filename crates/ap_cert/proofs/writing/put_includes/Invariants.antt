use Rattle.std.proofs.Common.{◌≡◌, ◌++◌, drop, map}
use Rattle.ap_cert.specs.Cert.{ended, include_line}
use Rattle.ap_cert.proofs.writing.put_includes.Given as goal

abbrev pub invariant-loop-name : goal.invariant-loop-name
invariant-loop-name l = l.text ++ ended (map include_line (drop l.name-index l.includes)) ≡ l.initial.text ++ ended (map include_line l.includes)
