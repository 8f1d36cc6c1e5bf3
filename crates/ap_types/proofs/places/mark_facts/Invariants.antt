use Rattle.std.proofs.Common.{take}
use Rattle.ap_types.specs.Spoken.{Marks, AreApart}
use Rattle.ap_types.proofs.places.mark_facts.Given as goal

-- of those so far it is noted
abbrev pub invariant-loop-fact : goal.invariant-loop-fact
invariant-loop-fact l = Marks l.fn.spoken_of l.spoken_of (AreApart (take l.fact-index l.facts))
