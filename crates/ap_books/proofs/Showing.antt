-- What is printed of a book's forms, one after another, over any admitter.
use Rattle.std.proofs.Common.{◌≡◌, ◌⊎◌, ℕ, Bool, true, false, List, [], ◌∷◌, ◌++◌, Option, suc, ◌+◌, ◌<◌, length, get_or, drop, sym, ap, ◌∙◌, subst, append_assoc, add-one, drop-cons, refl, inl, inr}
use Rattle.std.proofs.lemmas.List.{append-nil}
use Rattle.ap_outside.specs.Gains.{Gained, GainedPart}
use Rattle.ap_outside.proofs.Gains.{gained_more, gained_to, part_next, part_first, part_to}
use Rattle.ap_reader.specs.declared.form.Form.{Form}
use Rattle.ap_books.specs.Bodies.{Turn, Body, before, go_on, certified, Onward, Ran, Reached}

-- so far: some text was gained, and behind it stands what is left
pub record SoFar (S X : Type 0) (from now : Option (List ℕ)) (all left : Body S X) : Type 0 where
  pub done : List ℕ
  pub gained : Gained from now done
  pub told : List X
  pub whole : all ≡ before done told left

-- one more turn that isn't refused
pub so_far_more : (S X : Type 0) (from mid now : Option (List ℕ)) (all : Body S X) (t : Turn S X) (u : S) (more : S → Body S X)
    → SoFar S X from mid all (go_on t.text t.log t.refused t.next more) → Gained mid now t.text → t.refused ≡ false → t.next ≡ u → SoFar S X from now all (more u)
so_far_more S X from mid now all t u more so gained went next =
    record {
      done = so.done ++ t.text;
      told = so.told ++ t.log;
      gained = gained_more from mid now so.done t.text so.gained gained;
      whole = so.whole ∙ ap (λ b. before so.done so.told (go_on t.text t.log b t.next more)) went ∙ ap (λ s. before so.done so.told (before t.text t.log (more s))) next ∙ joined so.done t.text so.told t.log (more u);
    }
  where
    joined : (s x : List ℕ) (k l : List X) (b : Body S X) → before s k (before x l b) ≡ before (s ++ x) (k ++ l) b
    joined s x k l b =
        ap (λ y. record { text = y; certified = b.certified; state = b.state; log = k ++ (l ++ b.log) }) (sym (append_assoc s x b.text))
        ∙ ap (λ y. record { text = (s ++ x) ++ b.text; certified = b.certified; state = b.state; log = y }) (sym (append_assoc k l b.log))

-- how it ended
pub record Done (S X : Type 0) (from now : Option (List ℕ)) (all : Body S X) (b : Bool) (u : S) : Type 0 where
  pub text : Gained from now all.text
  pub certified : all.certified ≡ b
  pub state : all.state ≡ u

pub refused_at : (S X : Type 0) (from mid now : Option (List ℕ)) (all : Body S X) (t : Turn S X) (u : S) (more : S → Body S X)
    → SoFar S X from mid all (go_on t.text t.log t.refused t.next more) → Gained mid now t.text → t.refused ≡ true → t.next ≡ u → Done S X from now all false u
refused_at S X from mid now all t u more so gained went next =
    let whole : all ≡ record { text = so.done ++ t.text; certified = false; state = t.next; log = so.told ++ t.log } = so.whole ∙ ap (λ b. before so.done so.told (go_on t.text t.log b t.next more)) went in
    record {
      text = gained_to from now (so.done ++ t.text) all.text (gained_more from mid now so.done t.text so.gained gained) (ap (λ (b : Body S X). b.text) (sym whole));
      certified = ap (λ (b : Body S X). b.certified) whole;
      state = ap (λ (b : Body S X). b.state) whole ∙ next;
    }

pub through_at : (S X : Type 0) (from mid now : Option (List ℕ)) (all : Body S X) (t : Turn S X) (u : S)
    → SoFar S X from mid all (go_on t.text t.log t.refused t.next certified) → Gained mid now t.text → t.refused ≡ false → t.next ≡ u → Done S X from now all true u
through_at S X from mid now all t u so gained went next =
    let s = so_far_more S X from mid now all t u certified so gained went next in
    record {
      text = gained_to from now s.done all.text s.gained (sym (append-nil s.done) ∙ ap (λ (b : Body S X). b.text) (sym s.whole));
      certified = ap (λ (b : Body S X). b.certified) s.whole;
      state = ap (λ (b : Body S X). b.state) s.whole;
    }

-- a fault within a turn
pub part_within : (S X : Type 0) (from mid now : Option (List ℕ)) (all : Body S X) (t : Turn S X) (more : S → Body S X)
    → SoFar S X from mid all (go_on t.text t.log t.refused t.next more) → GainedPart mid now t.text → GainedPart from now all.text
part_within S X from mid now all t more so part =
    part_to from now (so.done ++ (go_on t.text t.log t.refused t.next more).text) all.text
    (part_next from mid now so.done (go_on t.text t.log t.refused t.next more).text so.gained (begins t.refused))
    (ap (λ (b : Body S X). b.text) (sym so.whole))
  where
    begins : (b : Bool) → GainedPart mid now (go_on t.text t.log b t.next more).text
    begins true = part
    begins false = part_first mid now t.text (more t.next).text part

-- the form at a place, and those behind it
pub at_form : (fs : List Form) (i : ℕ) (f : Form) → i < length fs → f ≡ get_or fs i f → drop i fs ≡ f ∷ drop (i + 1) fs
at_form fs i f h is = drop-cons fs i f h ∙ ap (λ x. x ∷ drop (suc i) fs) (sym is) ∙ ap (λ k. f ∷ drop k fs) (sym (add-one i))

-- the text at the end, whether or not the end is refused
pub ended_text : (S X : Type 0) (from mid now : Option (List ℕ)) (all : Body S X) (t : Turn S X) → SoFar S X from mid all (go_on t.text t.log t.refused t.next certified) → Gained mid now t.text → Gained from now all.text
ended_text S X from mid now all t so gained =
    gained_to from now (so.done ++ t.text) all.text (gained_more from mid now so.done t.text so.gained gained)
    (ap (λ x. so.done ++ x) (sym (alone t.refused)) ∙ sym (ap (λ (b : Body S X). b.text) so.whole))
  where
    alone : (b : Bool) → (go_on t.text t.log b t.next certified).text ≡ t.text
    alone true = refl
    alone false = append-nil t.text

-- how an admitter is led
module _ (A S X : Type 0) (state : A → S) (admits : S → Form → Turn S X) (ends : S → Turn S X) (links : A → Form → A → Type 0) (rests : A → A → Type 0) where
  -- by no call
  pub reached_same : (fs : List Form) (a b : A) → a ≡ b → Reached state admits ends links rests fs a b
  reached_same [] a b e = inl e
  reached_same (f ∷ fs) a b e = inl e

  -- by the book's end, behind all forms
  pub reached_end : (a b : A) → rests a b → (state b ≡ state a) ⊎ ((ends (state a)).next ≡ state b) → Reached state admits ends links rests [] a b
  reached_end a b r e = inr (r, e)

  -- by one that worked the first
  pub reached_first : (f : Form) (fs : List Form) (a b : A) → links a f b → (admits (state a) f).next ≡ state b → Reached state admits ends links rests (f ∷ fs) a b
  reached_first f fs a b l e = inr (inr (b, l, e, onward (admits (state a) f).refused))
    where
      onward : (t : Bool) → Onward t (Reached state admits ends links rests fs) b b
      onward true = refl
      onward false = reached_same fs b b refl

  pub reached_ran : (f : Form) (fs : List Form) (a b : A) → Ran state admits links rests f a b → Reached state admits ends links rests (f ∷ fs) a b
  reached_ran f fs a b (inl l) = reached_first f fs a b l.0 l.1
  reached_ran f fs a b (inr r) = inr (inl r)

  -- by one that admitted the first, and by those that follow
  pub reached_more : (f : Form) (fs : List Form) (a b c : A) → links a f c → (admits (state a) f).next ≡ state c → (admits (state a) f).refused ≡ false → Reached state admits ends links rests fs c b
      → Reached state admits ends links rests (f ∷ fs) a b
  reached_more f fs a b c l e went more =
      inr (inr (c, l, e, subst (λ t. Onward t (Reached state admits ends links rests fs) c b) (sym went) more))
