use Rattle.std.proofs.Common.{◌≡◌, true, drop}
use Rattle.ap_list.specs.Lists.{Each}
use Rattle.ap_world.specs.Sound.{known, speaks_of}
use Rattle.ap_world.specs.World.{function_of}
use Rattle.ap_stated.specs.Translating.{translated_all}
use Rattle.ap_stated.proofs.Formals.{after}
use Rattle.ap_stated.proofs.translating.terms.Given as goal

-- the terms so far stand before those of the forms that are left; they are known, and speak of the formals
abbrev pub invariant-loop-form : goal.invariant-loop-form
invariant-loop-form l = record {
  told : after l.terms (translated_all l.w.entries l.formals (drop l.form-index l.forms)) ≡ translated_all l.w.entries l.formals l.forms;
  speaks : Each (λ u. speaks_of l.formals u ≡ true) l.terms;
  known : Each (λ u. known (function_of l.w.entries) u ≡ true) l.terms;
}
