use Rattle.std.proofs.Common.{◌≡◌, drop}
use Rattle.ap_strategy.specs.Goals.{hint_among}
use Rattle.ap_strategy.proofs.hinting.hint_among.Given as goal

-- it may still stand among those that are left
abbrev pub invariant-loop-hint : goal.invariant-loop-hint
invariant-loop-hint l = hint_among (drop l.hint-index l.hints) l.name ≡ hint_among l.hints l.name
