-- Loops over forms: what is done of their events, and what is left of them.
use Rattle.std.proofs.Common.{◌≡◌, ℕ, ◌+◌, ◌<◌, ◌≤◌, Bool, true, false, cond, List, [], ◌∷◌, Option, Some, None, refl, ap, sym, ◌∙◌, subst, length, drop, take, get_or}
use Rattle.std.proofs.lemmas.List.{drop_all}
use Rattle.ap_reader.specs.declared.form.Form.{Form}
use Rattle.ap_world.specs.declared.entry.Entry.{Entry}
use Rattle.ap_world.specs.Sound.{HasFunctions, Sound}
use Rattle.ap_world.specs.World.{Shown, function_of}
use Rattle.ap_plain.specs.declared.changes.Before.{Before}
use Rattle.ap_plain.specs.declared.end.Outcome.{Outcome}
use Rattle.ap_plain.specs.Ends.{Done, Did}
use Rattle.ap_stated.proofs.Places.{at_place}
use Rattle.ap_events.specs.Backing.{Backed}
use Rattle.ap_events.specs.Joining.{with_outcome, no_outcome, back_in, Begins, Ran}
use Rattle.ap_events.specs.Nested.{Leaf, all}
use Rattle.ap_events.proofs.Joined.{Going, begins_through, going_next, going_stops, going_ends, did_begin, back_again, back_sound, back_functions}
use Rattle.ap_events.proofs.Keeping.{all_backed_first, all_backed_next}
use Rattle.ap_events.proofs.Steps.{Step, all_step}

-- a sound list of entries backs what is done in a world
abbrev pub IsBacked : Done → Shown → Type 0
IsBacked d w = (U : List Entry) × Backed d w U

pub backed_at : (d e : Done) (w : Shown) → e ≡ d → IsBacked d w → IsBacked e w
backed_at d e w same b = subst (λ x. IsBacked x w) (sym same) b

-- of the events of forms, those from a place on are left
abbrev pub Left : Leaf → List Form → Shown → ℕ → Shown → Outcome → Type 0
Left g fs w i v o = Going (all g fs w) w (all g (drop i fs) v) v o

module _ (g : Leaf) (steps : (f : Form) (w : Shown) → Step (g f w) w) (fs : List Form) (w : Shown) (i : ℕ) (f : Form) (v : Shown) (within : i < length fs) (is : f ≡ get_or fs i f) where
  -- the one at the place is done first
  at_first : all g (drop i fs) v ≡ all g (f ∷ drop (i + 1) fs) v
  at_first = ap (λ xs. all g xs v) (at_place fs i f within is)

  pub backed_first : IsBacked (all g (drop i fs) v) v → IsBacked (g f v) v
  backed_first b = (b.0, all_backed_first g f (drop (i + 1) fs) v b.0 (subst (λ d. Backed d v b.0) at_first b.1))

  pub begins_next : (u : Shown) (o e : Outcome) → Left g fs w i v o → Did (g f v) v u e → Begins w u
  begins_next u o e left did = begins_through w v u left.grown (did_begin (g f v) v u e (steps f v).grows did)

  module _ (u : Shown) (o e x : Outcome) (left : Left g fs w i v o) (did : Did (g f v) v u e) (more : x ≡ with_outcome o e) where
    now : Going (all g fs w) w (all g (f ∷ drop (i + 1) fs) v) v o
    now = subst (λ d. Going (all g fs w) w d v o) at_first left

    admitted : x.admitted ≡ true → e.admitted ≡ true
    admitted went = sym (ap (λ (y : Outcome). y.admitted) more) ∙ went

    given : x.admitted ≡ true → (g f v).next ≡ Some u
    given went = did.next ∙ ap (λ b. cond b (Some u) None) (admitted went)

    pub left_next : x.admitted ≡ true → Left g fs w (i + 1) u x
    left_next went = going_next (all g fs w) (g f v) (all g (drop (i + 1) fs)) w v u o e x now did more went (did_begin (g f v) v u e (steps f v).grows did)

    pub left_stops : x.admitted ≡ false → Ran (all g fs w) u x
    left_stops stopped = (going_stops (all g fs w) (g f v) (all g (drop (i + 1) fs)) w v u o e x now did more stopped).0

    pub backed_next : x.admitted ≡ true → IsBacked (all g (drop i fs) v) v → IsBacked (all g (drop (i + 1) fs) u) u
    backed_next went b = (b.0, all_backed_next g f (drop (i + 1) fs) v u b.0 (subst (λ d. Backed d v b.0) at_first b.1) (steps f v) (given went))

-- at the end none is left
pub left_ends : (g : Leaf) (fs : List Form) (w : Shown) (i : ℕ) (v : Shown) (o : Outcome) → length fs ≤ i → Left g fs w i v o → Ran (all g fs w) v o
left_ends g fs w i v o past left = going_ends (all g fs w) w v o (subst (λ xs. Going (all g fs w) w (all g xs v) v o) (drop_all i fs past) left)

-- the world that was gone back to, after a call that did the forms of an `encapsulate`
module _ (g : Leaf) (steps : (f : Form) (w : Shown) → Step (g f w) w) (fs : List Form) (w v : Shown) (o : Outcome) (b : Before) (did : Did (all g fs w) w v o) (count : b.count ≡ length w.entries) (theory : b.theory ≡ w.theory) where
  begun : Begins w v
  begun = did_begin (all g fs w) w v o (all_step g steps fs w).grows did

  pub closing_sound : Sound w.entries → Sound (take b.count v.entries)
  closing_sound sound = back_sound w v b begun count sound

  pub closing_functions : HasFunctions (function_of w.entries) → HasFunctions (function_of (take b.count v.entries))
  closing_functions functions = back_functions w v b begun count functions

  pub closing_back : back_in b v ≡ w
  closing_back = back_again w v b begun count theory

  -- it is backed by the world that the first pass left
  pub closing_backed : (again : Leaf) → (o.admitted ≡ true → Backed (all again fs w) w v.entries) → o.admitted ≡ true → IsBacked (all again fs (back_in b v)) (back_in b v)
  closing_backed again backed went = (v.entries, subst (λ (x : Shown). Backed (all again fs x) x v.entries) (sym closing_back) (backed went))

  pub closing_next : o.admitted ≡ true → (all g fs w).next ≡ Some v
  closing_next went = did.next ∙ ap (λ c. cond c (Some v) None) went
