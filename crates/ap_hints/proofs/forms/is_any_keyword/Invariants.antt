use Rattle.std.proofs.Common.{◌≡◌, map, drop}
use Rattle.ap_hints.specs.Forms.{any_keyword}
use Rattle.ap_hints.proofs.forms.is_any_keyword.Given as goal

-- what is left of the names tells
abbrev pub invariant-loop-name : goal.invariant-loop-name
invariant-loop-name l =
    any_keyword (map (λ n. n.now) (drop l.name-index l.names)) l.form ≡ any_keyword (map (λ n. n.now) l.names) l.form
