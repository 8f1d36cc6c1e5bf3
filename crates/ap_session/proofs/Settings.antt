-- Options that are read one after another are those of a line.
use Rattle.std.proofs.Common.{◌≡◌, ◌∙◌, ◌≤◌, ◌⊎◌, ◌↔◌, inl, inr, ℕ, Bool, true, false, true≢false, cond, List, [], ◌∷◌, Option, Some, None, unwrap_or, refl, ap, sym, subst}
use Rattle.ap_list.specs.Lists.{Each}
use Rattle.ap_session.specs.declared.command.Counted.{Counted}
use Rattle.ap_session.specs.declared.command.Counted.TheVariants.{Workers, Steps, Goals, Revert, Functions}
use Rattle.ap_session.specs.declared.command.Flag.TheVariants.{Number, Trace}
use Rattle.ap_session.specs.declared.command.Options.{Options}
use Rattle.ap_session.specs.Command.{number_in, once, with_workers, with_steps, with_goals, with_revert, with_demo, with_number, with_trace}
use Rattle.ap_session.specs.CommandLines.{Setting, counts, traces, option_of, most, Among, Apart}

-- the number that options have for what is counted
abbrev pub value : Options → Counted → Option ℕ
value p Workers = p.workers
value p Steps = p.steps
value p Goals = p.goals
value p Revert = p.revert
value p Functions = p.demo

abbrev pub put : Options → Counted → ℕ → Options
put p Workers n = record p { workers = Some n }
put p Steps n = record p { steps = Some n }
put p Goals n = record p { goals = Some n }
put p Revert n = record p { revert = Some n }
put p Functions n = record p { demo = Some n }

abbrev pub traced : Options → Options
traced p = record p { trace = true }

put_this : (p : Options) (k : Counted) (n : ℕ) → value (put p k n) k ≡ Some n
put_this p Workers n = refl
put_this p Steps n = refl
put_this p Goals n = refl
put_this p Revert n = refl
put_this p Functions n = refl

put_other : (p : Options) (k j : Counted) (n : ℕ) → ¬ (k ≡ j) → value (put p k n) j ≡ value p j
put_other p Workers Workers n h = absurd (h refl)
put_other p Steps Steps n h = absurd (h refl)
put_other p Goals Goals n h = absurd (h refl)
put_other p Revert Revert n h = absurd (h refl)
put_other p Functions Functions n h = absurd (h refl)
put_other p k j n h = refl

put_trace : (p : Options) (k : Counted) (n : ℕ) → (put p k n).trace ≡ p.trace
put_trace p Workers n = refl
put_trace p Steps n = refl
put_trace p Goals n = refl
put_trace p Revert n = refl
put_trace p Functions n = refl

traced_value : (p : Options) (k : Counted) → value (traced p) k ≡ value p k
traced_value p Workers = refl
traced_value p Steps = refl
traced_value p Goals = refl
traced_value p Revert = refl
traced_value p Functions = refl

same_or_not : (k j : Counted) → (k ≡ j) ⊎ ¬ (k ≡ j)
same_or_not Workers Workers = inl refl
same_or_not Steps Steps = inl refl
same_or_not Goals Goals = inl refl
same_or_not Revert Revert = inl refl
same_or_not Functions Functions = inl refl
same_or_not k j = inr (λ e. cc)

-- a number is put once, where a word gives it

once_given : (o m : Option ℕ) (n : ℕ) → once o m ≡ Some n → (o ≡ None) × (m ≡ Some n)
once_given None m n h = (refl, h)
once_given (Some k) m n h = cc

given_by : (o : Option ℕ) (f : ℕ → Options) (g : Option ℕ → Option Options) → g None ≡ None → ((n : ℕ) → g (Some n) ≡ Some (f n)) → (q : Options) → g o ≡ Some q
    → (n : ℕ) × ((o ≡ Some n) × (f n ≡ q))
given_by None f g none some q h = cc
given_by (Some n) f g none some q h = (n, (refl, ap (λ o. unwrap_or o (f n)) (sym (some n) ∙ h)))

-- a number that options get: it wasn't there, and the word is one that is taken
pub record Gets (p : Options) (k : Counted) (w : List ℕ) (q : Options) : Type 0 where
  pub number : ℕ
  pub free : value p k ≡ None
  pub word : number_in (most k) w ≡ Some number
  pub next : put p k number ≡ q

gets : (p q : Options) (k : Counted) (w : List ℕ) → (n : ℕ) × ((once (value p k) (number_in (most k) w) ≡ Some n) × (put p k n ≡ q)) → Gets p k w q
gets p q k w h = let k' = once_given (value p k) (number_in (most k) w) h.0 h.1.0 in record { number = h.0; free = k'.0; word = k'.1; next = h.1.1 }

pub number_gets : (p q : Options) (k : Counted) (w : List ℕ) → with_number p k w ≡ Some q → Gets p k w q
number_gets p q Workers w h = gets p q Workers w (given_by (once p.workers (number_in 64 w)) (put p Workers) (with_workers p) refl (λ n. refl) q h)
number_gets p q Steps w h = gets p q Steps w (given_by (once p.steps (number_in 1000000 w)) (put p Steps) (with_steps p) refl (λ n. refl) q h)
number_gets p q Goals w h = gets p q Goals w (given_by (once p.goals (number_in 100000 w)) (put p Goals) (with_goals p) refl (λ n. refl) q h)
number_gets p q Revert w h = gets p q Revert w (given_by (once p.revert (number_in 100 w)) (put p Revert) (with_revert p) refl (λ n. refl) q h)
number_gets p q Functions w h = gets p q Functions w (given_by (once p.demo (number_in 1000 w)) (put p Functions) (with_demo p) refl (λ n. refl) q h)

gives : (p : Options) (n : ℕ) (o m : Option ℕ) (g : Option ℕ → Option Options) → o ≡ None → m ≡ Some n → g (once o m) ≡ g (Some n)
gives p n o m g free is = ap (λ x. g (once x m)) free ∙ ap g is

pub number_gives : (p : Options) (k : Counted) (w : List ℕ) (n : ℕ) → value p k ≡ None → number_in (most k) w ≡ Some n → with_number p k w ≡ Some (put p k n)
number_gives p Workers w n free is = gives p n p.workers (number_in 64 w) (with_workers p) free is
number_gives p Steps w n free is = gives p n p.steps (number_in 1000000 w) (with_steps p) free is
number_gives p Goals w n free is = gives p n p.goals (number_in 100000 w) (with_goals p) free is
number_gives p Revert w n free is = gives p n p.revert (number_in 100 w) (with_revert p) free is
number_gives p Functions w n free is = gives p n p.demo (number_in 1000 w) (with_demo p) free is

pub trace_gets : (p q : Options) → with_trace p ≡ Some q → (p.trace ≡ false) × (traced p ≡ q)
trace_gets p q h = go p.trace refl h
  where
    go : (t : Bool) → p.trace ≡ t → cond t None (Some (traced p)) ≡ Some q → (p.trace ≡ false) × (traced p ≡ q)
    go true e h = cc
    go false e h = (e, ap (λ o. unwrap_or o p) h)

pub trace_gives : (p : Options) → p.trace ≡ false → with_trace p ≡ Some (traced p)
trace_gives p h = ap (λ t. cond t None (Some (traced p))) h

-- from these options to those, by an option after another

-- an option may still be given
abbrev pub IsFree : Options → Setting → Type 0
IsFree p (counts k n) = value p k ≡ None
IsFree p traces = p.trace ≡ false

-- its number is one that its word may have
abbrev pub IsWithin : Setting → Type 0
IsWithin (counts k n) = (1 ≤ n) × (n ≤ most k)
IsWithin traces = Unit {0}

pub record Reads (p : Options) (os : List Setting) (q : Options) : Type 0 where
  pub numbers : (k : Counted) (n : ℕ) → (value q k ≡ Some n) ↔ ((value p k ≡ Some n) ⊎ Among (counts k n) os)
  pub trace : (q.trace ≡ true) ↔ ((p.trace ≡ true) ⊎ Among traces os)
  pub free : Each (IsFree p) os
  pub once : Apart option_of os
  pub within : Each IsWithin os

pub reads_none : (p : Options) → Reads p [] p
reads_none p = record {
  numbers = λ k n. (λ h. inl h, at (value p k ≡ Some n));
  trace = (λ h. inl h, at (p.trace ≡ true));
  free = tt;
  once = tt;
  within = tt;
}
  where
    at : (A : Type 0) → A ⊎ ⊥ → A
    at A (inl h) = h
    at A (inr h) = absurd h

-- what is free behind an option is free before it, and another one

each : {A : Type 0} (P Q : A → Type 0) → ((x : A) → P x → Q x) → (xs : List A) → Each P xs → Each Q xs
each P Q f [] h = tt
each P Q f (x ∷ xs) h = (f x h.0, each P Q f xs h.1)

both_each : {A : Type 0} (P Q : A → Type 0) → (xs : List A) → Each P xs → Each Q xs → Each (λ x. P x × Q x) xs
both_each P Q [] h k = tt
both_each P Q (x ∷ xs) h k = ((h.0, k.0), both_each P Q xs h.1 k.1)

freed : (p : Options) (k : Counted) (n : ℕ) (s : Setting) → IsFree (put p k n) s → IsFree p s × ¬ (option_of s ≡ Number k)
freed p k n (counts j m) h = go (same_or_not k j)
  where
    number_same : (j k : Counted) → Number j ≡ Number k → j ≡ k
    number_same j k e = cc

    go : (k ≡ j) ⊎ ¬ (k ≡ j) → (value p j ≡ None) × ¬ (Number j ≡ Number k)
    go (inl e) = let taken : value (put p k n) j ≡ Some n = subst (λ i. value (put p k n) i ≡ Some n) e (put_this p k n) in cc
    go (inr e) = (sym (put_other p k j n e) ∙ h, λ (i : Number j ≡ Number k). e (sym (number_same j k i)))
freed p k n traces h = (sym (put_trace p k n) ∙ h, λ (i : Trace ≡ Number k). cc)

still_free : (p : Options) (k : Counted) (n : ℕ) (s : Setting) → IsFree p s × ¬ (option_of s ≡ Number k) → IsFree (put p k n) s
still_free p k n (counts j m) h = put_other p k j n (λ e. h.1 (ap Number (sym e))) ∙ h.0
still_free p k n traces h = put_trace p k n ∙ h.0

trace_freed : (p : Options) (s : Setting) → IsFree (traced p) s → IsFree p s × ¬ (option_of s ≡ Trace)
trace_freed p (counts j m) h = (sym (traced_value p j) ∙ h, λ (i : Number j ≡ Trace). cc)
trace_freed p traces h = absurd (true≢false h)

trace_still_free : (p : Options) (s : Setting) → IsFree p s × ¬ (option_of s ≡ Trace) → IsFree (traced p) s
trace_still_free p (counts j m) h = traced_value p j ∙ h.0
trace_still_free p traces h = absurd (h.1 refl)

-- one option more in front

pub reads_number : (p q : Options) (k : Counted) (n : ℕ) (os : List Setting) → value p k ≡ None → (1 ≤ n) × (n ≤ most k) → Reads (put p k n) os q → Reads p (counts k n ∷ os) q
reads_number p q k n os free fits h = record {
  numbers = λ j m. (λ e. to j m ((h.numbers j m).0 e), λ e. (h.numbers j m).1 (from j m e));
  trace = (λ e. to_trace (h.trace.0 e), λ e. h.trace.1 (from_trace e));
  free = (free, each (IsFree (put p k n)) (IsFree p) (λ s f. (freed p k n s f).0) os h.free);
  once = (each (IsFree (put p k n)) (λ s. ¬ (option_of s ≡ Number k)) (λ s f. (freed p k n s f).1) os h.free, h.once);
  within = (fits, h.within);
}
  where
    to : (j : Counted) (m : ℕ) → (value (put p k n) j ≡ Some m) ⊎ Among (counts j m) os → (value p j ≡ Some m) ⊎ Among (counts j m) (counts k n ∷ os)
    to j m (inr e) = inr (inr e)
    to j m (inl e) = go (same_or_not k j)
      where
        go : (k ≡ j) ⊎ ¬ (k ≡ j) → (value p j ≡ Some m) ⊎ Among (counts j m) (counts k n ∷ os)
        go (inr i) = inl (sym (put_other p k j n i) ∙ e)
        go (inl i) =
            let is : value (put p k n) j ≡ Some n = subst (λ a. value (put p k n) a ≡ Some n) i (put_this p k n) in
            let same : n ≡ m = ap (λ o. unwrap_or o n) (sym is ∙ e) in
            inr (inl (ap (λ a. counts a n) i ∙ ap (counts j) same))

    from : (j : Counted) (m : ℕ) → (value p j ≡ Some m) ⊎ Among (counts j m) (counts k n ∷ os) → (value (put p k n) j ≡ Some m) ⊎ Among (counts j m) os
    from j m (inl e) = inl (put_other p k j n (λ i. taken i) ∙ e)
      where
        taken : k ≡ j → ⊥
        taken i = let none : value p j ≡ None = subst (λ a. value p a ≡ None) i free in cc
    from j m (inr (inr e)) = inr e
    from j m (inr (inl e)) = inl (at (setting_same k j n m e))
      where
        at : (k ≡ j) × (n ≡ m) → value (put p k n) j ≡ Some m
        at i = subst (λ a. value (put p k n) a ≡ Some n) i.0 (put_this p k n) ∙ ap Some i.1

        setting_same : (k j : Counted) (n m : ℕ) → counts k n ≡ counts j m → (k ≡ j) × (n ≡ m)
        setting_same k j n m e = (cc, cc)

    to_trace : ((put p k n).trace ≡ true) ⊎ Among traces os → (p.trace ≡ true) ⊎ Among traces (counts k n ∷ os)
    to_trace (inl e) = inl (sym (put_trace p k n) ∙ e)
    to_trace (inr e) = inr (inr e)

    from_trace : (p.trace ≡ true) ⊎ Among traces (counts k n ∷ os) → ((put p k n).trace ≡ true) ⊎ Among traces os
    from_trace (inl e) = inl (put_trace p k n ∙ e)
    from_trace (inr (inl e)) = cc
    from_trace (inr (inr e)) = inr e

pub reads_trace : (p q : Options) (os : List Setting) → p.trace ≡ false → Reads (traced p) os q → Reads p (traces ∷ os) q
reads_trace p q os free h = record {
  numbers = λ j m. (λ e. to j m ((h.numbers j m).0 e), λ e. (h.numbers j m).1 (from j m e));
  trace = (λ e. inr (inl refl), λ e. h.trace.1 (inl refl));
  free = (free, each (IsFree (traced p)) (IsFree p) (λ s f. (trace_freed p s f).0) os h.free);
  once = (each (IsFree (traced p)) (λ s. ¬ (option_of s ≡ Trace)) (λ s f. (trace_freed p s f).1) os h.free, h.once);
  within = (tt, h.within);
}
  where
    to : (j : Counted) (m : ℕ) → (value (traced p) j ≡ Some m) ⊎ Among (counts j m) os → (value p j ≡ Some m) ⊎ Among (counts j m) (traces ∷ os)
    to j m (inl e) = inl (sym (traced_value p j) ∙ e)
    to j m (inr e) = inr (inr e)

    from : (j : Counted) (m : ℕ) → (value p j ≡ Some m) ⊎ Among (counts j m) (traces ∷ os) → (value (traced p) j ≡ Some m) ⊎ Among (counts j m) os
    from j m (inl e) = inl (traced_value p j ∙ e)
    from j m (inr (inl e)) = cc
    from j m (inr (inr e)) = inr e

-- the options behind a first one are free behind it
pub free_behind : (p : Options) (k : Counted) (n : ℕ) (os : List Setting) → Each (IsFree p) os → Each (λ s. ¬ (option_of s ≡ Number k)) os → Each (IsFree (put p k n)) os
free_behind p k n os f h =
    each (λ s. IsFree p s × ¬ (option_of s ≡ Number k)) (IsFree (put p k n)) (still_free p k n) os (both_each (IsFree p) (λ s. ¬ (option_of s ≡ Number k)) os f h)

pub free_behind_trace : (p : Options) (os : List Setting) → Each (IsFree p) os → Each (λ s. ¬ (option_of s ≡ Trace)) os → Each (IsFree (traced p)) os
free_behind_trace p os f h =
    each (λ s. IsFree p s × ¬ (option_of s ≡ Trace)) (IsFree (traced p)) (trace_still_free p) os (both_each (IsFree p) (λ s. ¬ (option_of s ≡ Trace)) os f h)
