-- Refusals pass on: what fails first fails the whole.
use Rattle.std.proofs.Common.{◌≡◌, ℕ, suc, ◌+◌, ◌<◌, ◌≤◌, List, [], ◌∷◌, ◌++◌, length, drop, get_or, drop-cons, add-one, Result, Ok, Err, IsErrAnd, refl, sym, ap, ◌∙◌, subst, append_assoc, append-nil}
use Rattle.std.proofs.lemmas.List.{drop_all}
use Rattle.ap_hints.specs.declared.fault.HintError.{HintError}
use Rattle.ap_hints.specs.Answers.{Answer, ◌>>=◌, each, Fails, Gives}

-- answers with others before them
abbrev pub after : {A : Type 0} → List A → Answer (List A) → Answer (List A)
after us a = a >>= λ xs. Ok (us ++ xs)

pub after_none : {A : Type 0} (a : Answer (List A)) → after [] a ≡ a
after_none (Ok us) = refl
after_none (Err e) = refl

pub at_form : {F : Type 0} (fs : List F) (i : ℕ) (f : F) → i < length fs → f ≡ get_or fs i f → drop i fs ≡ f ∷ drop (i + 1) fs
at_form fs i f h is = drop-cons fs i f h ∙ ap (λ x. x ∷ drop (suc i) fs) (sym is) ∙ ap (λ k. f ∷ drop k fs) (sym (add-one i))

-- what fails first fails the whole
pub then_fails : {A B : Type 0} (e : HintError) (r : Answer A) (g : A → Answer B) → Fails e r → Fails e (r >>= g)
then_fails HintError.NoMemory r g h = tt
then_fails HintError.BadGoalName r g h = ap (λ (a : Answer _). a >>= g) h
then_fails HintError.UnknownKeyword r g h = ap (λ (a : Answer _). a >>= g) h
then_fails HintError.UnknownRune r g h = ap (λ (a : Answer _). a >>= g) h
then_fails HintError.BadInstance r g h = ap (λ (a : Answer _). a >>= g) h
then_fails HintError.Repeated r g h = ap (λ (a : Answer _). a >>= g) h

-- what fails at each error fails where the answers are one
pub same_fails : {A : Type 0} (e : HintError) (r s : Answer A) → r ≡ s → Fails e s → Fails e r
same_fails e r s q h = subst (Fails e) (sym q) h

-- the answer at the exit of a `?`
pub gives_err : {A : Type 0} (r : Result A HintError) (e : HintError) (s : Answer A) → IsErrAnd r (λ x. x ≡ e) → Fails e s → Gives r s
gives_err (Ok a) e s h k = absurd h
gives_err (Err x) e s h k = subst (λ y. Fails y s) (sym h) k

after_first : {F A : Type 0} (g : F → Answer A) (us : List A) (f : F) (fs : List F) (u : A) → g f ≡ Ok u → after us (each g (f ∷ fs)) ≡ after (us ++ u ∷ []) (each g fs)
after_first g us f fs u h = ap (λ (a : Answer _). after us (a >>= λ y. each g fs >>= λ ys. Ok (y ∷ ys))) h ∙ go (each g fs)
  where
    go : (a : Answer (List _)) → after us (a >>= λ ys. Ok (u ∷ ys)) ≡ after (us ++ u ∷ []) a
    go (Ok ys) = ap Ok (sym (append_assoc us (u ∷ []) ys))
    go (Err e) = refl

-- one form more of those that are left
pub after_next : {F A : Type 0} (g : F → Answer A) (us next : List A) (fs : List F) (i : ℕ) (f : F) (u : A) (all : Answer (List A)) → i < length fs → f ≡ get_or fs i f
    → g f ≡ Ok u → next ≡ us ++ u ∷ [] → after us (each g (drop i fs)) ≡ all → after next (each g (drop (i + 1) fs)) ≡ all
after_next g us next fs i f u all h is made grown told =
    ap (λ ns. after ns (each g (drop (i + 1) fs))) grown
    ∙ sym (after_first g us f (drop (i + 1) fs) u made)
    ∙ sym (ap (λ ds. after us (each g ds)) (at_form fs i f h is)) ∙ told

-- where it is refused all are
pub after_fails : {F A : Type 0} (g : F → Answer A) (us : List A) (fs : List F) (i : ℕ) (f : F) (all : Answer (List A)) (e : HintError) → i < length fs → f ≡ get_or fs i f
    → after us (each g (drop i fs)) ≡ all → Fails e (g f) → Fails e all
after_fails g us fs i f all e h is told failed =
    same_fails e all (after us (each g (f ∷ drop (i + 1) fs))) (sym told ∙ ap (λ ds. after us (each g ds)) (at_form fs i f h is))
    (then_fails e (each g (f ∷ drop (i + 1) fs)) (λ xs. Ok (us ++ xs)) (then_fails e (g f) (λ y. each g (drop (i + 1) fs) >>= λ ys. Ok (y ∷ ys)) failed))

-- where none is left
pub after_all : {F A : Type 0} (g : F → Answer A) (us : List A) (fs : List F) (i : ℕ) (all : Answer (List A)) → length fs ≤ i
    → after us (each g (drop i fs)) ≡ all → all ≡ Ok us
after_all g us fs i all h told = sym told ∙ ap (λ ds. after us (each g ds)) (drop_all i fs h) ∙ ap Ok (append-nil us)
