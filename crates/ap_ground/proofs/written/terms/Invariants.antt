use Rattle.std.proofs.Common.{◌≡◌, take, map}
use Rattle.ap_ground.specs.Written.{term_of}
use Rattle.ap_ground.proofs.written.terms.Given as goal

-- the terms of the words so far
abbrev pub invariant-loop-words : goal.invariant-loop-words
invariant-loop-words l = l.out ≡ map (λ ws. term_of ws.now) (take l.words-index l.list)
