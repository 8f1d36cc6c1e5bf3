-- What the tests hand to a world: a theorem (implies h h).
use Rattle.std.proofs.Common.{◌≡◌, ◌≢◌, Bool, true, false, cond, List, [], ◌∷◌, inl, sym, subst}
use Rattle.ap_value.specs.Values.{value_eq}
use Rattle.ap_term.specs.declared.term.Term.{Term}
use Rattle.ap_world.specs.declared.entry.Entry.{Entry}
use Rattle.ap_world.specs.Names.{implies_name}
use Rattle.ap_world.specs.Primitives.{nil, t}
use Rattle.ap_world.specs.Meaning.{Valid}
use Rattle.ap_world.specs.Sound.{known, Sound}
use Rattle.ap_world.specs.Ground.{two}
use Rattle.ap_world.specs.World.{function_of}
use Rattle.ap_world.proofs.Equations.{t_isnt_nil}
use Rattle.ap_world.proofs.Given.{implies_is}
use Rattle.ap_world.proofs.Knowing.{true_each}
use Rattle.ap_world.proofs.TotalMeaning.{models, val, valid_of}

itself : (b : Bool) → cond b t (cond b nil t) ≢ nil
itself true h = t_isnt_nil h
itself false h = t_isnt_nil h

-- it is valid
pub itself_valid : (W : List Entry) → Sound W → (h : Term) → known (function_of W) (two implies_name h h) ≡ true → Valid (function_of W) (two implies_name h h ∷ [])
itself_valid W sound h k =
    let (A, ms) = models (function_of W) sound.total in
    valid_of (function_of W) A ms (two implies_name h h ∷ []) (true_each (known (function_of W)) (two implies_name h h ∷ []) (k, tt))
    (λ e. inl (subst (λ v. v ≢ nil) (sym (implies_is W sound A ms h h e k)) (itself (value_eq (val A h e) nil))))
