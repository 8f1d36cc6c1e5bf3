-- What a second pass owes: a sound world that has what is made, masks aside, shows it.
use Rattle.std.proofs.Common.{◌≡◌, Bool, true, false, cond, List, [], ◌∷◌, map, Option, Some, None, ap, subst}
use Rattle.ap_list.specs.Lists.{Each, all_true}
use Rattle.ap_value.specs.declared.symbol.Symbol.{Symbol}
use Rattle.ap_term.specs.declared.term.Term.{Term}
use Rattle.ap_world.specs.declared.entry.Measure.{Measure}
use Rattle.ap_world.specs.declared.entry.Function.{Function}
use Rattle.ap_world.specs.declared.entry.Theorem.{Theorem}
use Rattle.ap_world.specs.declared.entry.Entry.{Entry}
use Rattle.ap_world.specs.Alike.{DefinesAlike}
use Rattle.ap_world.specs.Meaning.{Defs, Total, Valid}
use Rattle.ap_world.specs.Recursion.{natural_obligations, falling_obligations, obligations}
use Rattle.ap_world.specs.Sound.{known, Recurs, Sound}
use Rattle.ap_world.specs.World.{function_of, theorem_of}
use Rattle.ap_world.proofs.Adding.{each_append}
use Rattle.ap_world.proofs.Alike.{valid_back}
use Rattle.ap_world.proofs.Looking.{theorem_good, good_of}

-- a theorem that the other world has is valid here
pub theorem_again : (W U : List Entry) → Sound W → Sound U → DefinesAlike (function_of W) (function_of U) → (n : Symbol) (u : Theorem) → theorem_of U n ≡ Some u → known (function_of W) u.term ≡ true
    → Valid (function_of W) (u.term ∷ [])
theorem_again W U here there alike n u h k =
    valid_back (function_of W) (function_of U) here.total alike (u.term ∷ []) (ap (λ b. all_true (b ∷ [])) k) (theorem_good U there n u h).valid

each_back : (D E : Defs) → Total D → DefinesAlike D E → (cs : List (List Term)) → Each (λ c. all_true (map (known D) c) ≡ true) cs → Each (Valid E) cs → Each (Valid D) cs
each_back D E total alike [] ks vs = tt
each_back D E total alike (c ∷ cs) ks vs = (valid_back D E total alike c ks.0 vs.0, each_back D E total alike cs ks.1 vs.1)

-- what a recursive function owes is valid where the function is
owed_there : (E : Defs) (f : Function) (o : Option Measure) (m : Measure) (given : Bool) → o ≡ Some m → Recurs E f o → Each (Valid E) (obligations given f.formals m.0 f.cases)
owed_there E f None m given is r = absurd (cc is)
owed_there E f (Some j) m given is r =
    let same : j ≡ m = cc in
    subst (λ i. Each (Valid E) (obligations given f.formals i.0 f.cases)) same
    (each_append (Valid E) (cond given (natural_obligations j.0) []) (falling_obligations f.formals j.0 f.cases) (natural given) r.falls)
  where
    natural : (b : Bool) → Each (Valid E) (cond b (natural_obligations j.0) [])
    natural true = r.natural
    natural false = tt

pub obligations_again : (W U : List Entry) → Sound W → Sound U → DefinesAlike (function_of W) (function_of U) → (n : Symbol) (f : Function) → function_of U n ≡ Some f
    → (m : Measure) → f.measure ≡ Some m → (given : Bool) → Each (λ c. all_true (map (known (function_of W)) c) ≡ true) (obligations given f.formals m.0 f.cases)
    → Each (Valid (function_of W)) (obligations given f.formals m.0 f.cases)
obligations_again W U here there alike n f found m is given ks =
    each_back (function_of W) (function_of U) here.total alike (obligations given f.formals m.0 f.cases) ks
    (owed_there (function_of U) f f.measure m given is (good_of U there n f found).0.recursion)
