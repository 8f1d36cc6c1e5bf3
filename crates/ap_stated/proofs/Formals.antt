-- The formals of a definition, and the terms of forms one after another.
use Rattle.std.proofs.Common.{◌≡◌, ℕ, suc, ◌+◌, ◌<◌, ◌≤◌, length, drop, get_or, drop-cons, add-one, Some, Bool, true, false, ◌&&◌, ◌||◌, not, List, [], ◌∷◌, ◌++◌, refl, ap, sym, ◌∙◌, true≢false, append_assoc, append-nil, subst, Ok, Err}
use Rattle.std.proofs.lemmas.List.{drop_all}
use Rattle.ap_list.specs.Lists.{Each, is_among, is_distinct}
use Rattle.ap_list.proofs.Eachs.{each_append}
use Rattle.ap_value.specs.declared.symbol.Symbol.{Symbol}
use Rattle.ap_value.specs.Values.{symbol_eq}
use Rattle.ap_value.proofs.Equals.{symbol_eq-true, symbol_eq-same}
use Rattle.ap_reader.specs.declared.form.Form.{Form}
use Rattle.ap_stated.specs.Translating.{formal_in, formal_names_by, formal_names}
use Rattle.ap_translate.specs.declared.fault.TransError.{TransError}
use Rattle.ap_translate.specs.declared.fault.TransError.TheVariants as errors
use Rattle.ap_translate.specs.Answers.{Answer, Refusal, Fails, each, ◌>>=◌}
use Rattle.ap_translate.specs.Names.{is_constant, is_starred, can_be_bound}

at_form : {F : Type 0} (items : List F) (i : ℕ) (f : F) → i < length items → f ≡ get_or items i f → drop i items ≡ f ∷ drop (i + 1) items
at_form items i f h is = drop-cons items i f h ∙ ap (λ x. x ∷ drop (suc i) items) (sym is) ∙ ap (λ k. f ∷ drop k items) (sym (add-one i))

or_false : (a b : Bool) → (a || b) ≡ false → (a ≡ false) × (b ≡ false)
or_false true b h = absurd (true≢false h)
or_false false b h = (refl, h)

and_true : (a b : Bool) → (a && b) ≡ true → (a ≡ true) × (b ≡ true)
and_true true b h = (refl, h)
and_true false b h = absurd (true≢false (sym h))

not_true : (a : Bool) → not a ≡ true → a ≡ false
not_true true h = absurd (true≢false (sym h))
not_true false h = refl

last_false : (a b c : Bool) → (a && b && not c) ≡ true → c ≡ false
last_false true true true h = absurd (true≢false (sym h))
last_false true false true h = absurd (true≢false (sym h))
last_false false b true h = absurd (true≢false (sym h))
last_false a b false h = refl

flip : (a b : Symbol) → symbol_eq a b ≡ false → symbol_eq b a ≡ false
flip a b h = go (symbol_eq b a) refl
  where
    go : (t : Bool) → symbol_eq b a ≡ t → t ≡ false
    go true q = absurd (true≢false (sym (symbol_eq-same a) ∙ ap (λ x. symbol_eq a x) (sym (symbol_eq-true b a q)) ∙ h))
    go false q = refl

among_last : (x s : Symbol) (xs : List Symbol) → symbol_eq s x ≡ false → is_among symbol_eq x xs ≡ false → is_among symbol_eq x (xs ++ s ∷ []) ≡ false
among_last x s [] h k = ap (λ b. b || false) (flip s x h)
among_last x s (y ∷ ys) h k =
    let p = or_false (symbol_eq x y) (is_among symbol_eq x ys) k in
    ap (λ b. b || is_among symbol_eq x (ys ++ s ∷ [])) p.0 ∙ among_last x s ys h p.1

distinct_more : (s : Symbol) (xs : List Symbol) → is_among symbol_eq s xs ≡ false → is_distinct symbol_eq xs ≡ true → is_distinct symbol_eq (xs ++ s ∷ []) ≡ true
distinct_more s [] h d = refl
distinct_more s (x ∷ xs) h d =
    let p = or_false (symbol_eq s x) (is_among symbol_eq s xs) h in
    let q = and_true (not (is_among symbol_eq x xs)) (is_distinct symbol_eq xs) d in
    ap (λ b. not b && is_distinct symbol_eq (xs ++ s ∷ [])) (among_last x s xs p.0 (not_true (is_among symbol_eq x xs) q.0))
    ∙ distinct_more s xs p.1 q.1

-- formals stay distinct with one that may be bound after them
pub distinct_last : (names : List Symbol) (s : Symbol) → is_distinct symbol_eq names ≡ true → can_be_bound s names ≡ true → is_distinct symbol_eq (names ++ s ∷ []) ≡ true
distinct_last names s d h =
    distinct_more s names (last_false (not (is_constant s)) (not (is_starred s.name)) (is_among symbol_eq s names) h) d

-- one formal more
pub formals_next : (names next : List Symbol) (forms : List Form) (i : ℕ) (f : Form) (s : Symbol) (a : Answer (List Symbol)) → i < length forms → f ≡ get_or forms i f
    → formal_in names f ≡ Some s → next ≡ names ++ s ∷ [] → formal_names names (drop i forms) ≡ a → formal_names next (drop (i + 1) forms) ≡ a
formals_next names next forms i f s a h is found grown told =
    ap (λ ns. formal_names ns (drop (i + 1) forms)) grown
    ∙ sym (ap (λ o. formal_names_by o names f.place (λ ns. formal_names ns (drop (i + 1) forms))) found)
    ∙ sym (ap (formal_names names) (at_form forms i f h is)) ∙ told

pub distinct_next : (names next : List Symbol) (s : Symbol) → is_distinct symbol_eq names ≡ true → can_be_bound s names ≡ true → next ≡ names ++ s ∷ [] → is_distinct symbol_eq next ≡ true
distinct_next names next s d h grown = ap (is_distinct symbol_eq) grown ∙ distinct_last names s d h

-- answers with others before them
abbrev pub after : {A : Type 0} → List A → Answer (List A) → Answer (List A)
after us a = a >>= λ xs. Ok (us ++ xs)

pub after_none : {A : Type 0} (a : Answer (List A)) → after [] a ≡ a
after_none (Ok us) = refl
after_none (Err e) = refl

pub after_first : {F A : Type 0} (g : F → Answer A) (us : List A) (f : F) (fs : List F) (u : A) → g f ≡ Ok u → after us (each g (f ∷ fs)) ≡ after (us ++ u ∷ []) (each g fs)
after_first g us f fs u h = ap (λ (a : Answer _). after us (a >>= λ y. each g fs >>= λ ys. Ok (y ∷ ys))) h ∙ go (each g fs)
  where
    go : (a : Answer (List _)) → after us (a >>= λ ys. Ok (u ∷ ys)) ≡ after (us ++ u ∷ []) a
    go (Ok ys) = ap Ok (sym (append_assoc us (u ∷ []) ys))
    go (Err e) = refl

pub after_refused : {F A : Type 0} (g : F → Answer A) (us : List A) (f : F) (fs : List F) (e : Refusal) → g f ≡ Err e → after us (each g (f ∷ fs)) ≡ Err e
after_refused g us f fs e h = ap (λ (a : Answer _). after us (a >>= λ y. each g fs >>= λ ys. Ok (y ∷ ys))) h

-- one form more of those that are left
pub after_next : {F A : Type 0} (g : F → Answer A) (us next : List A) (fs : List F) (i : ℕ) (f : F) (u : A) (all : Answer (List A)) → i < length fs → f ≡ get_or fs i f
    → g f ≡ Ok u → next ≡ us ++ u ∷ [] → after us (each g (drop i fs)) ≡ all → after next (each g (drop (i + 1) fs)) ≡ all
after_next g us next fs i f u all h is made grown told =
    ap (λ ns. after ns (each g (drop (i + 1) fs))) grown
    ∙ sym (after_first g us f (drop (i + 1) fs) u made)
    ∙ sym (ap (λ ds. after us (each g ds)) (at_form fs i f h is)) ∙ told

-- where it is refused all are
pub after_fails : {F A : Type 0} (g : F → Answer A) (us : List A) (fs : List F) (i : ℕ) (f : F) (all : Answer (List A)) (e : TransError) → i < length fs → f ≡ get_or fs i f
    → after us (each g (drop i fs)) ≡ all → Fails e (g f) → Fails e all
after_fails g us fs i f all errors.NoMemory h is told failed = tt
after_fails g us fs i f all (errors.Fault p k) h is told failed =
    sym told ∙ ap (λ ds. after us (each g ds)) (at_form fs i f h is) ∙ after_refused g us f (drop (i + 1) fs) _ failed

-- where none is left
pub after_all : {F A : Type 0} (g : F → Answer A) (us : List A) (fs : List F) (i : ℕ) (all : Answer (List A)) → length fs ≤ i
    → after us (each g (drop i fs)) ≡ all → all ≡ Ok us
after_all g us fs i all h told = sym told ∙ ap (λ ds. after us (each g ds)) (drop_all i fs h) ∙ ap Ok (append-nil us)

pub each_next : {A : Type 0} (P : A → Type 0) (us next : List A) (u : A) → next ≡ us ++ u ∷ [] → Each P us → P u → Each P next
each_next P us next u grown h one = subst (Each P) (sym grown) (each_append P us (u ∷ []) h (one, tt))
