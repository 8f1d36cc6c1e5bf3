-- What nested events do to a world: they leave the entries that it has, and tell the world that they leave.
use Rattle.std.proofs.Common.{◌≡◌, ℕ, zero, suc, List, [], ◌∷◌, ◌++◌, ◌⊎◌, inl, inr, Option, Some, None, refl, ap, ◌∙◌, sym, subst, append_assoc, append-nil}
use Rattle.std.proofs.lemmas.Option.{none-some, same_Some}
use Rattle.ap_list.specs.Lists.{AnyOf}
use Rattle.ap_world.specs.declared.entry.Entry.{Entry}
use Rattle.ap_world.specs.World.{Shown}
use Rattle.ap_reader.specs.declared.form.Form.{Form}
use Rattle.ap_plain.specs.Ends.{passed, Done, worlds_in}
use Rattle.ap_plain.proofs.Telling.{told_left, told_right}
use Rattle.ap_events.specs.Nested.{Nesting, plain, hidden, group, closed, nesting_of, nothing, joined, then_by, all, second_by, closing_by, Leaf, too_deep, again_in, agains, first_in, firsts}
use Rattle.ap_events.specs.Laws.{Grows, Tells}

-- What events one after another are made of.

module _ (g : Leaf) (f : Form) (fs : List Form) (w : Shown) where
  pub all_none : (g f w).next ≡ None → all g (f ∷ fs) w ≡ g f w
  all_none e = ap (λ o. then_by (g f w) o (all g fs)) e

  pub all_some : (v : Shown) → (g f w).next ≡ Some v → all g (f ∷ fs) w ≡ joined (g f w) (all g fs v)
  all_some v e = ap (λ o. then_by (g f w) o (all g fs)) e

  -- where they give a world the first gives one, and the others go on from it
  pub all_next : (v : Shown) → (all g (f ∷ fs) w).next ≡ Some v → (x : Shown) × ((g f w).next ≡ Some x) × ((all g fs x).next ≡ Some v)
  all_next v h = go (g f w).next refl
    where
      go : (o : Option Shown) → (g f w).next ≡ o → (x : Shown) × ((g f w).next ≡ Some x) × ((all g fs x).next ≡ Some v)
      go None e = absurd (none-some v (sym e ∙ sym (ap (λ (d : Done). d.next) (all_none e)) ∙ h))
      go (Some x) e = (x, e, sym (ap (λ (d : Done). d.next) (all_some x e)) ∙ h)

-- What holds of single events, and of all that they are put together to, holds of nested ones.

module _ (again : Leaf) (P : Done → Shown → Type 0)
    (deep : (f : Form) (w : Shown) → P (too_deep f) w)
    (leaf : (f : Form) (w : Shown) → P (again f w) w)
    (none : (w : Shown) → P (nothing w) w)
    (several : (g : Leaf) → ((f : Form) (w : Shown) → P (g f w) w) → (fs : List Form) (w : Shown) → P (all g fs w) w)
  where
    pub agains_by : (n : ℕ) (f : Form) (w : Shown) → P (agains again n f w) w
    unfolding agains
    agains_by zero f w = deep f w
    agains_by (suc n) f w = go (nesting_of f) (agains_by n)
      where
        go : (k : Nesting) → ((g : Form) (v : Shown) → P (agains again n g v) v) → P (again_in again (agains again n) f w k) w
        go plain h = leaf f w
        go (hidden g) h = none w
        go (group fs) h = several (agains again n) h fs w
        go (closed fs) h = several (agains again n) h fs w

module _ (first again : Leaf) (P : Done → Shown → Type 0)
    (deep : (f : Form) (w : Shown) → P (too_deep f) w)
    (leaf : (f : Form) (w : Shown) → P (first f w) w)
    (several : (g : Leaf) → ((f : Form) (w : Shown) → P (g f w) w) → (fs : List Form) (w : Shown) → P (all g fs w) w)
    (closing : (n : ℕ) (fs : List Form) (w : Shown) → P (all (firsts first again n) fs w) w → P (closing_by (all (firsts first again n) fs w) (all (firsts first again n) fs w).next (all (agains again n) fs w)) w)
  where
    pub firsts_by : (n : ℕ) (f : Form) (w : Shown) → P (firsts first again n f w) w
    unfolding firsts
    firsts_by zero f w = deep f w
    firsts_by (suc n) f w = go (nesting_of f) (firsts_by n)
      where
        go : (k : Nesting) → ((g : Form) (v : Shown) → P (firsts first again n g v) v) → P (first_in first (firsts first again n) (agains again n) f w k) w
        go plain h = leaf f w
        go (hidden g) h = h g w
        go (group fs) h = several (firsts first again n) h fs w
        go (closed fs) h = closing n fs w (several (firsts first again n) h fs w)

-- A step: the world after it has the entries of the one before, and was passed through, or is that one.

pub record Step (d : Done) (w : Shown) : Type 0 where
  pub grows : Grows d w
  pub tells : Tells d w

pub no_step : (d : Done) (w : Shown) → d.next ≡ None → Step d w
no_step d w e = record { grows = λ v h. absurd (none-some v (sym e ∙ h)); tells = λ v h. absurd (none-some v (sym e ∙ h)) }

pub stay_step : (w : Shown) → Step (nothing w) w
stay_step w = record {
  grows = λ v h. ([], ap (λ (x : Shown). x.entries) (sym (same_Some w v h)) ∙ sym (append-nil w.entries));
  tells = λ v h. inl (same_Some w v h);
}

-- entries that are added twice
grown_twice : (u v w : Shown) → (es : List Entry) × (v.entries ≡ u.entries ++ es) → (es : List Entry) × (w.entries ≡ v.entries ++ es) → (es : List Entry) × (w.entries ≡ u.entries ++ es)
grown_twice u v w a b = (a.0 ++ b.0, b.1 ∙ ap (λ es. es ++ b.0) a.1 ∙ append_assoc u.entries a.0 b.0)

pub joined_step : (d e : Done) (w x : Shown) → d.next ≡ Some x → Step d w → Step e x → Step (joined d e) w
joined_step d e w x is first others = record { grows = λ v h. grown_twice w x v (first.grows x is) (others.grows v h); tells = λ v h. go v (others.tells v h) }
  where
    at_first : (v : Shown) → x ≡ v → (w ≡ x) ⊎ AnyOf (λ u. u ≡ x) (worlds_in d.told) → (w ≡ v) ⊎ AnyOf (λ u. u ≡ v) (worlds_in (d.told ++ e.told))
    at_first v same (inl q) = inl (q ∙ same)
    at_first v same (inr t) = inr (subst (λ y. AnyOf (λ u. u ≡ y) (worlds_in (d.told ++ e.told))) same (told_left d.told e.told x t))

    go : (v : Shown) → (x ≡ v) ⊎ AnyOf (λ u. u ≡ v) (worlds_in e.told) → (w ≡ v) ⊎ AnyOf (λ u. u ≡ v) (worlds_in (d.told ++ e.told))
    go v (inl same) = at_first v same (first.tells x is)
    go v (inr t) = inr (told_right d.told e.told v t)

pub all_step : (g : Leaf) → ((f : Form) (w : Shown) → Step (g f w) w) → (fs : List Form) (w : Shown) → Step (all g fs w) w
all_step g steps [] w = stay_step w
all_step g steps (f ∷ fs) w = go (g f w).next refl (all_step g steps fs)
  where
    go : (o : Option Shown) → (g f w).next ≡ o → ((x : Shown) → Step (all g fs x) x) → Step (all g (f ∷ fs) w) w
    go None e h = subst (λ d. Step d w) (sym (all_none g f fs w e)) (steps f w)
    go (Some x) e h = subst (λ d. Step d w) (sym (all_some g f fs w x e)) (joined_step (g f w) (all g fs x) w x e (steps f w) (h x))

pub agains_step : (again : Leaf) → ((f : Form) (w : Shown) → Step (again f w) w) → (n : ℕ) (f : Form) (w : Shown) → Step (agains again n f w) w
agains_step again steps = agains_by again Step (λ f w. no_step (too_deep f) w refl) steps stay_step all_step

-- a second pass gives its own world
closing_step : (d e : Done) (w : Shown) → Step d w → Step e w → Step (closing_by d d.next e) w
closing_step d e w first second = go d.next refl e.next refl
  where
    go : (o : Option Shown) → d.next ≡ o → (p : Option Shown) → e.next ≡ p → Step (closing_by d o e) w
    go None is p at = first
    go (Some x) is None at = no_step (joined d (second_by e e.next)) w (ap (λ q. (second_by e q).next) at)
    go (Some x) is (Some y) at = subst (λ q. Step (joined d (second_by e q)) w) (sym at) (record {
      grows = λ v h. second.grows v (at ∙ h);
      tells = λ v h. inr (told_right d.told (passed y ∷ []) v (inl (same_Some y v h)));
    })

pub firsts_step : (first again : Leaf) → ((f : Form) (w : Shown) → Step (first f w) w) → ((f : Form) (w : Shown) → Step (again f w) w) → (n : ℕ) (f : Form) (w : Shown) → Step (firsts first again n f w) w
firsts_step first again steps redo_steps =
    firsts_by first again Step (λ f w. no_step (too_deep f) w refl) steps all_step
    (λ n fs w h. closing_step (all (firsts first again n) fs w) (all (agains again n) fs w) w h (all_step (agains again n) (agains_step again redo_steps n) fs w))
