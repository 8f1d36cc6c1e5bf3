use Rattle.std.proofs.Common.{◌≡◌, drop, map}
use Rattle.ap_term.specs.declared.term.Term.{fold-Term}
use Rattle.ap_world.specs.Rules.{Renames, rename_all, rename_step}
use Rattle.ap_rules.proofs.renaming.+renaming.Given as goal

-- renaming what is left with the pairs so far is renaming all
abbrev pub invariant-rename_terms-loop-i : goal.invariant-rename_terms-loop-i
invariant-rename_terms-loop-i l = rename_all (map (fold-Term Renames rename_step) (drop l.i l.ts)) (drop l.i l.us) l.pairs ≡ rename_all (map (fold-Term Renames rename_step) l.ts) l.us l.fn.pairs
