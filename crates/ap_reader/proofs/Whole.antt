-- The forms of a whole text, by the grammar and by the function.
use Rattle.std.proofs.Common.{◌≡◌, ℕ, ◌-◌, ◌<◌, ◌≤◌, List, [], ◌∷◌, length, Option, Some, None, Result, Ok, Err, zero, suc, refl, sym, ap, ◌∙◌, arith}
use Rattle.ap_tokens.specs.declared.token.TokenFault.{TokenFault}
use Rattle.ap_tokens.specs.Gaps.{At}
use Rattle.ap_tokens.specs.Tokens.{Seen, next_of}
use Rattle.ap_reader.specs.declared.form.Form.{Form}
use Rattle.ap_reader.specs.Faults.{ReadFault, fault, broken}
use Rattle.ap_reader.specs.Reading.{◌>>=◌, form_of, token_at, with_front, at_end, forms_by}
use Rattle.ap_reader.specs.Grammar.{Comes, Spells, Reads}
use Rattle.ap_reader.specs.Grammar as spells
use Rattle.ap_reader.specs.Breaks.{Breaks, Faults}
use Rattle.ap_reader.specs.Breaks as breaks
use Rattle.ap_tokens.proofs.Found.{found, none_left, none_answered}
use Rattle.ap_reader.proofs.Nexts.{found_next}
use Rattle.ap_reader.proofs.Tokens.{comes_less}
use Rattle.ap_reader.proofs.Sound.{FormIs, form_sound}
use Rattle.ap_reader.proofs.Complete.{form_less, form_complete, form_breaks}

abbrev pub FormsRead : Type 0
FormsRead = Result (List Form) ReadFault

abbrev pub ReadsIs : At → Result (List Form) ReadFault → Type 0
ReadsIs a (Ok fs) = Reads a fs
ReadsIs a (Err e) = Faults a e

forms_after : (s : Seen) (a b c : At) (f : Form) → Comes a s b → Spells 400 s b f c → (r : Result (List Form) ReadFault) → ReadsIs c r → ReadsIs a (with_front (f ∷ []) r)
forms_after s a b c f w x (Ok fs) g = spells.form s a b c f fs w x g
forms_after s a b c f w x (Err e) g = breaks.later s a b c f e w x g

forms_with : (s : Seen) (a b : At) (most : ℕ) → Comes a s b → length b.rest < most → ((c : At) → length c.rest < most → ReadsIs c (forms_by most c))
    → (r : Result (Form × At) ReadFault) → FormIs 400 s b r → ReadsIs a (r >>= λ x. with_front (x.0 ∷ []) (forms_by most x.1))
forms_with s a b most w room rest (Ok x) g =
    let less : length x.1.rest ≤ length b.rest = g.1 in
    forms_after s a b x.1 x.0 w g.0 (forms_by most x.1) (rest x.1 (omega arith))
forms_with s a b most w room rest (Err e) g = breaks.here s a b e w g

pub forms_sound : (most : ℕ) (a : At) → length a.rest < most → ReadsIs a (forms_by most a)
unfolding forms_by
forms_sound zero a room = absurd (omega arith)
forms_sound (suc most) a room = by_next (next_of a) refl (λ c h. forms_sound most c h)
  where
    by_next : (r : Result (Option (Seen × At)) TokenFault) → next_of a ≡ r → ((c : At) → length c.rest < most → ReadsIs c (forms_by most c))
        → ReadsIs a (token_at r >>= λ o. at_end o (Ok []) (λ s b. form_of 400 s b >>= λ x. with_front (x.0 ∷ []) (forms_by most x.1)))
    by_next (Err f) q rest = breaks.token a f q
    by_next (Ok None) q rest = spells.end a (none_left a q)
    by_next (Ok (Some t)) q rest =
        let w : Comes a t.0 t.1 = found a t.1 t.0 q in
        forms_with t.0 a t.1 most w (omega (arith, comes_less a t.1 t.0 w)) rest (form_of 400 t.0 t.1) (form_sound 400 t.0 t.1)

pub forms_step : (m : ℕ) (s : Seen) (a b : At) → Comes a s b → forms_by (suc m) a ≡ (form_of 400 s b >>= λ x. with_front (x.0 ∷ []) (forms_by m x.1))
unfolding forms_by
forms_step m s a b w =
    ap (λ (r : Result (Option (Seen × At)) TokenFault). token_at r >>= λ o. at_end o (Ok []) (λ s b. form_of 400 s b >>= λ x. with_front (x.0 ∷ []) (forms_by m x.1))) (found_next a b s w)

pub forms_end : (m : ℕ) (a : At) → next_of a ≡ Ok None → forms_by (suc m) a ≡ Ok []
unfolding forms_by
forms_end m a w = ap (λ (r : Result (Option (Seen × At)) TokenFault). token_at r >>= λ o. at_end o (Ok []) (λ s b. form_of 400 s b >>= λ x. with_front (x.0 ∷ []) (forms_by m x.1))) w

pub forms_broken : (m : ℕ) (a : At) (f : TokenFault) → next_of a ≡ Err f → forms_by (suc m) a ≡ Err (fault f.place (broken f.kind))
unfolding forms_by
forms_broken m a f w = ap (λ (r : Result (Option (Seen × At)) TokenFault). token_at r >>= λ o. at_end o (Ok []) (λ s b. form_of 400 s b >>= λ x. with_front (x.0 ∷ []) (forms_by m x.1))) w

forms_lowered : (m : ℕ) (c : At) → length c.rest < m → forms_by m c ≡ forms_by (suc (m - 1)) c
forms_lowered m c room = let e : m ≡ suc (m - 1) = omega arith in ap (λ k. forms_by k c) e

pub forms_complete : {a : At} {fs : List Form} → Reads a fs → (m : ℕ) → length a.rest ≤ m → forms_by (suc m) a ≡ Ok fs
forms_complete (spells.end a q) m room = forms_end m a (none_answered a q)
forms_complete (spells.form s a b c f fs w g rest) m room =
    let e : ◌≡◌ {A = Result (Form × At) ReadFault} (form_of 400 s b) (Ok (f, c)) = form_complete g in
    let less : length c.rest ≤ length b.rest = form_less 400 s b c f e in
    let fewer : length b.rest < length a.rest = comes_less a b s w in
    forms_step m s a b w
    ∙ (ap (λ (o : Result (Form × At) ReadFault). o >>= λ x. with_front (x.0 ∷ []) (forms_by m x.1)) e
    ∙ ap (λ (o : FormsRead). with_front (f ∷ []) o) (forms_lowered m c (omega arith) ∙ forms_complete rest (m - 1) (omega arith)))

pub forms_breaks : {a : At} {e : ReadFault} → Faults a e → (m : ℕ) → length a.rest ≤ m → forms_by (suc m) a ≡ Err e
forms_breaks (breaks.token a f q) m room = forms_broken m a f q
forms_breaks (breaks.here s a b e w g) m room =
    forms_step m s a b w ∙ ap (λ (o : Result (Form × At) ReadFault). o >>= λ x. with_front (x.0 ∷ []) (forms_by m x.1)) (form_breaks g)
forms_breaks (breaks.later s a b c f e w g rest) m room =
    let q : ◌≡◌ {A = Result (Form × At) ReadFault} (form_of 400 s b) (Ok (f, c)) = form_complete g in
    let less : length c.rest ≤ length b.rest = form_less 400 s b c f q in
    let fewer : length b.rest < length a.rest = comes_less a b s w in
    forms_step m s a b w
    ∙ (ap (λ (o : Result (Form × At) ReadFault). o >>= λ x. with_front (x.0 ∷ []) (forms_by m x.1)) q
    ∙ ap (λ (o : FormsRead). with_front (f ∷ []) o) (forms_lowered m c (omega arith) ∙ forms_breaks rest (m - 1) (omega arith)))

-- a larger bound changes nothing
pub forms_same : (k m : ℕ) (a : At) → length a.rest ≤ k → length a.rest ≤ m → forms_by (suc k) a ≡ forms_by (suc m) a
forms_same k m a room more = by_read (forms_by (suc k) a) (forms_sound (suc k) a (omega arith))
  where
    by_read : (r : Result (List Form) ReadFault) → ReadsIs a r → r ≡ forms_by (suc m) a
    by_read (Ok fs) g = sym (forms_complete g m more)
    by_read (Err e) g = sym (forms_breaks g m more)
