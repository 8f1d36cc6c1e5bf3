-- What a form holds, by its depth and by what it is.
use Rattle.std.proofs.Common.{◌≡◌, ◌∙◌, ◌<◌, ◌-◌, ℕ, zero, suc, Result, Ok, Err, OnOk, refl, ap, arith}
use Rattle.ap_reader.specs.declared.form.Form.{Form}
use Rattle.ap_events.specs.declared.held.Held.{Held}
use Rattle.ap_events.specs.Held.{with_single, with_nesting, with_form}
use Rattle.ap_events.specs.Nested.{Nesting, nesting_of}

pub with_form_none : (n : ℕ) (f : Form) (h : Held) → n ≡ 0 → with_single f h ≡ with_form n f h
unfolding with_form
with_form_none zero f h e = refl
with_form_none (suc n) f h e = absurd (omega arith)

pub with_form_at : (n : ℕ) (f : Form) (h : Held) (k : Nesting) → 0 < n → k ≡ nesting_of f → with_nesting (with_form (n - 1)) f k h ≡ with_form n f h
unfolding with_form
with_form_at zero f h k some is = absurd (omega arith)
with_form_at (suc n) f h k some is =
    let e : suc n - 1 ≡ n = omega arith in
    ap (λ m. with_nesting (with_form m) f k h) e ∙ ap (λ j. with_nesting (with_form n) f j h) is

-- what a call gave, by an equation
pub ok_by : {A E : Type 0} (r : Result A E) (x y z : Held) → OnOk r (x ≡ y) → y ≡ z → OnOk r (x ≡ z)
ok_by (Ok a) x y z h e = h ∙ e
ok_by (Err a) x y z h e = tt
