-- One turn of each loop.
use Rattle.std.proofs.Common.{◌≡◌, ℕ, ◌-◌, ◌<◌, ◌≤◌, Bool, true, List, [], ◌∷◌, ◌++◌, length, Option, Some, None, Result, Ok, Err, suc, refl, sym, ap, ◌∙◌, arith, append-nil}
use Rattle.std.proofs.lemmas.List.{append_assoc}
use Rattle.ap_tokens.specs.declared.token.TokenFault.{TokenFault}
use Rattle.ap_tokens.specs.Gaps.{At}
use Rattle.ap_tokens.specs.Tokens.{Seen, next_of}
use Rattle.ap_tokens.proofs.Found.{found}
use Rattle.ap_reader.specs.declared.fault.ReadError.{ReadError}
use Rattle.ap_reader.specs.declared.fault.ReadError.TheVariants as errors
use Rattle.ap_reader.specs.declared.form.Form.{Form}
use Rattle.ap_reader.specs.declared.form.Body.TheVariants as body
use Rattle.ap_reader.specs.declared.reading.Item.TheVariants as items
use Rattle.ap_reader.specs.Faults.{ReadFault, fault, broken, Fails}
use Rattle.ap_reader.specs.Heads.{head_of, item_of, token_in, Parts, flat, dotted}
use Rattle.ap_reader.specs.Reading.{◌>>=◌, with_forms, with_tail, items_by, lists, form_of, tail_of, items_of, token_at, with_front, forms_by, forms_from}
use Rattle.ap_reader.specs.Grammar.{Comes}
use Rattle.ap_reader.proofs.Tokens.{came, comes_less}
use Rattle.ap_reader.proofs.Sound.{PartsIs, items_sound}
use Rattle.ap_reader.proofs.Complete.{form_less, items_step, items_missing, items_complete, items_breaks}
use Rattle.ap_reader.proofs.Whole.{forms_step, forms_end, forms_broken, forms_same}

abbrev PartsRead : Type 0
PartsRead = Result (Parts × At) ReadFault

abbrev FormRead : Type 0
FormRead = Result (Form × At) ReadFault

abbrev TokenRead : Type 0
TokenRead = Result (Seen × At) ReadFault

-- a larger bound changes nothing
items_same : (n : ℕ) (some : Bool) (p k m : ℕ) (a : At) → length a.rest ≤ k → length a.rest ≤ m → items_by (form_of n) some (suc k) p a ≡ items_by (form_of n) some (suc m) p a
items_same n some p k m a room more = by_read (items_by (form_of n) some (suc k) p a) (items_sound n some (suc k) p a (omega arith))
  where
    by_read : (r : Result (Parts × At) ReadFault) → PartsIs n some p a r → r ≡ items_by (form_of n) some (suc m) p a
    by_read (Ok x) g = sym (items_complete g.0 p m more)
    by_read (Err e) g = sym (items_breaks g m more)

with_more : (xs : List Form) (f : Form) (r : Result (Parts × At) ReadFault) → with_forms (xs ++ f ∷ []) r ≡ with_forms xs (with_forms (f ∷ []) r)
with_more xs f (Err e) = refl
with_more xs f (Ok (flat fs, a)) = ap (λ z. Ok (flat z, a)) (append_assoc xs (f ∷ []) fs)
with_more xs f (Ok (dotted fs g, a)) = ap (λ z. Ok (dotted z g, a)) (append_assoc xs (f ∷ []) fs)

-- what the list is, where its rest is this
pub items_then : (n : ℕ) (some : Bool) (p : ℕ) (xs : List Form) (a : At) (whole r : PartsRead) → with_forms xs (items_of n some p a) ≡ whole → items_of n some p a ≡ r
    → lists whole ≡ lists (with_forms xs r)
items_then n some p xs a whole r e q = ap lists (sym e ∙ ap (with_forms xs) q)

pub items_close : (n : ℕ) (some : Bool) (p : ℕ) (xs : List Form) (s : Seen) (a b : At) (whole : PartsRead) → ◌≡◌ {A = TokenRead} (token_in p (next_of a)) (Ok (s, b))
    → item_of some (head_of s.kind) ≡ items.Close → with_forms xs (items_of n some p a) ≡ whole → lists whole ≡ Ok (body.List xs, b)
items_close n some p xs s a b whole t i e =
    items_then n some p xs a whole (Ok (flat [], b)) e (items_step n some p (length a.rest) s a b items.Close (came p a (s, b) t) i)
    ∙ ap (λ z. Ok (body.List z, b)) (append-nil xs)

pub items_dot : (n : ℕ) (some : Bool) (p : ℕ) (xs : List Form) (s : Seen) (a b c : At) (f : Form) (whole : PartsRead) → ◌≡◌ {A = TokenRead} (token_in p (next_of a)) (Ok (s, b))
    → item_of some (head_of s.kind) ≡ items.Dot → ◌≡◌ {A = FormRead} (tail_of n p s.start b) (Ok (f, c)) → with_forms xs (items_of n some p a) ≡ whole
    → lists whole ≡ Ok (body.Dotted xs f, c)
items_dot n some p xs s a b c f whole t i q e =
    items_then n some p xs a whole (Ok (dotted [] f, c)) e (items_step n some p (length a.rest) s a b items.Dot (came p a (s, b) t) i ∙ ap (λ (o : FormRead). with_tail o) q)
    ∙ ap (λ z. Ok (body.Dotted z f, c)) (append-nil xs)

pub items_form : (n : ℕ) (some : Bool) (p : ℕ) (xs : List Form) (s : Seen) (a b c : At) (f : Form) (whole : PartsRead) → ◌≡◌ {A = TokenRead} (token_in p (next_of a)) (Ok (s, b))
    → item_of some (head_of s.kind) ≡ items.Form → ◌≡◌ {A = FormRead} (form_of n s b) (Ok (f, c)) → with_forms xs (items_of n some p a) ≡ whole
    → with_forms (xs ++ f ∷ []) (items_of n true p c) ≡ whole
items_form n some p xs s a b c f whole t i q e =
    let w : Comes a s b = came p a (s, b) t in
    let fewer : length b.rest < length a.rest = comes_less a b s w in
    let less : length c.rest ≤ length b.rest = form_less n s b c f q in
    let bound : length a.rest ≡ suc (length a.rest - 1) = omega arith in
    let same : items_by (form_of n) true (length a.rest) p c ≡ items_of n true p c =
    ap (λ k. items_by (form_of n) true k p c) bound ∙ items_same n true p (length a.rest - 1) (length c.rest) c (omega arith) (omega arith) in
    with_more xs f (items_of n true p c)
    ∙ (ap (λ (o : PartsRead). with_forms xs (with_forms (f ∷ []) o)) (sym same)
    ∙ (ap (λ (o : PartsRead). with_forms xs o) (sym (items_step n some p (length a.rest) s a b items.Form w i
    ∙ ap (λ (o : FormRead). o >>= λ x. with_forms (x.0 ∷ []) (items_by (form_of n) true (length a.rest) p x.1)) q)) ∙ e))

-- a fault on the way is the list's
pub items_token_fails : (n : ℕ) (some : Bool) (p : ℕ) (xs : List Form) (a : At) (whole : PartsRead) (e : ReadError) → Fails e (token_in p (next_of a))
    → with_forms xs (items_of n some p a) ≡ whole → Fails e (lists whole)
items_token_fails n some p xs a whole errors.NoMemory t e = tt
items_token_fails n some p xs a whole (errors.Fault d k) t e =
    items_then n some p xs a whole (Err (fault d k)) e (items_missing n some p (length a.rest) a (fault d k) t)

pub items_dot_fails : (n : ℕ) (some : Bool) (p : ℕ) (xs : List Form) (s : Seen) (a b : At) (whole : PartsRead) (e : ReadError)
    → ◌≡◌ {A = TokenRead} (token_in p (next_of a)) (Ok (s, b)) → item_of some (head_of s.kind) ≡ items.Dot → Fails e (tail_of n p s.start b)
    → with_forms xs (items_of n some p a) ≡ whole → Fails e (lists whole)
items_dot_fails n some p xs s a b whole errors.NoMemory t i q e = tt
items_dot_fails n some p xs s a b whole (errors.Fault d k) t i q e =
    items_then n some p xs a whole (Err (fault d k)) e (items_step n some p (length a.rest) s a b items.Dot (came p a (s, b) t) i ∙ ap (λ (o : FormRead). with_tail o) q)

pub items_form_fails : (n : ℕ) (some : Bool) (p : ℕ) (xs : List Form) (s : Seen) (a b : At) (whole : PartsRead) (e : ReadError)
    → ◌≡◌ {A = TokenRead} (token_in p (next_of a)) (Ok (s, b)) → item_of some (head_of s.kind) ≡ items.Form → Fails e (form_of n s b)
    → with_forms xs (items_of n some p a) ≡ whole → Fails e (lists whole)
items_form_fails n some p xs s a b whole errors.NoMemory t i q e = tt
items_form_fails n some p xs s a b whole (errors.Fault d k) t i q e =
    items_then n some p xs a whole (Err (fault d k)) e (items_step n some p (length a.rest) s a b items.Form (came p a (s, b) t) i
    ∙ ap (λ (o : FormRead). o >>= λ x. with_forms (x.0 ∷ []) (items_by (form_of n) true (length a.rest) p x.1)) q)

-- the same of a whole text
abbrev NextRead : Type 0
NextRead = Result (Option (Seen × At)) ReadFault

abbrev FormsRead : Type 0
FormsRead = Result (List Form) ReadFault

next_token : (a : At) (o : Option (Seen × At)) → token_at (next_of a) ≡ Ok o → next_of a ≡ Ok o
next_token a o e = by_next (next_of a) e
  where
    by_next : (r : Result (Option (Seen × At)) TokenFault) → token_at r ≡ Ok o → r ≡ Ok o
    by_next (Err f) e = absurd cc
    by_next (Ok q) e = let h : q ≡ o = cc in ap Ok h

forms_fault : (m : ℕ) (a : At) (e : ReadFault) → token_at (next_of a) ≡ Err e → forms_by (suc m) a ≡ Err e
forms_fault m a e t = by_next (next_of a) refl t
  where
    by_next : (r : Result (Option (Seen × At)) TokenFault) → next_of a ≡ r → token_at r ≡ Err e → forms_by (suc m) a ≡ Err e
    by_next (Err f) q t = let h : fault f.place (broken f.kind) ≡ e = cc in forms_broken m a f q ∙ ap Err h
    by_next (Ok o) q t = absurd cc

front_more : (xs : List Form) (f : Form) (r : Result (List Form) ReadFault) → with_front (xs ++ f ∷ []) r ≡ with_front xs (with_front (f ∷ []) r)
front_more xs f (Err e) = refl
front_more xs f (Ok fs) = ap Ok (append_assoc xs (f ∷ []) fs)

pub forms_done : (xs : List Form) (a : At) (whole : FormsRead) → ◌≡◌ {A = NextRead} (token_at (next_of a)) (Ok None) → with_front xs (forms_from a) ≡ whole → whole ≡ Ok xs
forms_done xs a whole t e = sym e ∙ (ap (λ (r : FormsRead). with_front xs r) (forms_end (length a.rest) a (next_token a None t)) ∙ ap Ok (append-nil xs))

pub forms_form : (xs : List Form) (s : Seen) (a b c : At) (f : Form) (whole : FormsRead) → ◌≡◌ {A = NextRead} (token_at (next_of a)) (Ok (Some (s, b)))
    → ◌≡◌ {A = FormRead} (form_of 400 s b) (Ok (f, c)) → with_front xs (forms_from a) ≡ whole → with_front (xs ++ f ∷ []) (forms_from c) ≡ whole
forms_form xs s a b c f whole t q e =
    let w : Comes a s b = found a b s (next_token a (Some (s, b)) t) in
    let fewer : length b.rest < length a.rest = comes_less a b s w in
    let less : length c.rest ≤ length b.rest = form_less 400 s b c f q in
    let bound : length a.rest ≡ suc (length a.rest - 1) = omega arith in
    let same : forms_by (length a.rest) c ≡ forms_from c =
    ap (λ k. forms_by k c) bound ∙ forms_same (length a.rest - 1) (length c.rest) c (omega arith) (omega arith) in
    front_more xs f (forms_from c)
    ∙ (ap (λ (o : FormsRead). with_front xs (with_front (f ∷ []) o)) (sym same)
    ∙ (ap (λ (o : FormsRead). with_front xs o) (sym (forms_step (length a.rest) s a b w
    ∙ ap (λ (o : FormRead). o >>= λ x. with_front (x.0 ∷ []) (forms_by (length a.rest) x.1)) q)) ∙ e))

pub forms_token_fails : (xs : List Form) (a : At) (whole : FormsRead) (e : ReadError) → Fails e (token_at (next_of a)) → with_front xs (forms_from a) ≡ whole → Fails e whole
forms_token_fails xs a whole errors.NoMemory t e = tt
forms_token_fails xs a whole (errors.Fault d k) t e = sym e ∙ ap (λ (r : FormsRead). with_front xs r) (forms_fault (length a.rest) a (fault d k) t)

pub forms_form_fails : (xs : List Form) (s : Seen) (a b : At) (whole : FormsRead) (e : ReadError) → ◌≡◌ {A = NextRead} (token_at (next_of a)) (Ok (Some (s, b)))
    → Fails e (form_of 400 s b) → with_front xs (forms_from a) ≡ whole → Fails e whole
forms_form_fails xs s a b whole errors.NoMemory t q e = tt
forms_form_fails xs s a b whole (errors.Fault d k) t q e =
    sym e ∙ ap (λ (r : FormsRead). with_front xs r) (forms_step (length a.rest) s a b (found a b s (next_token a (Some (s, b)) t))
    ∙ ap (λ (o : FormRead). o >>= λ x. with_front (x.0 ∷ []) (forms_by (length a.rest) x.1)) q)

pub ruleset loops = (items_close, items_dot, items_form, items_token_fails, items_dot_fails, items_form_fails, forms_done, forms_form, forms_token_fails, forms_form_fails)
