use Rattle.std.proofs.Common.{◌≡◌, take, map}
use Rattle.ap_ground.specs.Written.{term_of}
use Rattle.ap_ground.proofs.rows.calls.Given as goal

-- the calls so far
abbrev pub invariant-loop-call : goal.invariant-loop-call
invariant-loop-call l = l.arguments ≡ map (λ c. map (λ ws. term_of ws.now) c.now) (take l.call-index l.rows)
