-- A result closes the nodes above it, as far as they can be closed.
use Rattle.std.proofs.Common.{◌≡◌, ◌≢◌, ℕ, zero, suc, ◌+◌, ◌<◌, List, Option, Some, None, length, refl, sym, ap, subst, ◌∙◌, arith, inl, inr}
use Rattle.std.specs.List.{slice_get}
use Rattle.ap_list.specs.Lists.{Each}
use Rattle.ap_walk.specs.declared.act.Stepped.{Stepped}
use Rattle.ap_walk.specs.declared.rule.Rule.{Rule}
use Rattle.ap_walk.specs.declared.mark.Walked.{Walked}
use Rattle.ap_walk.specs.Visits.{Tells, out_children}
use Rattle.ap_walk.specs.Walks.{full}
use Rattle.ap_word.specs.Stops.{nothing_counted}
use Rattle.ap_table.specs.Core.{Phase, Node, free, claimed, expanded, put, closed, dropped, numbers_of, kept, phase_walk, walks_of, set_phase, above, parent_of, on_closed, children, joined_walk, kept_of, close_with, close_phase, close_node, close_up, put_node}
use Rattle.ap_table.specs.Sound.{PhaseSound, SoundBut, Sound}
use Rattle.ap_table.proofs.Closing.{closed_is_whole}
use Rattle.ap_table.proofs.Keeping.{same_or_not, some_is, get_same, Moves, family_stays, walks_same, are_full, sound_done}

module _ {T : Type 0} (step : T → Stepped T) (depth : T → ℕ) (rule : Rule) where
  phase_weaker : (ns : List (Node T)) (p j : ℕ) (m : Node T) (ph : Phase T) → j ≢ p → PhaseSound step depth rule (Some p) ns j m ph → PhaseSound step depth rule None ns j m ph
  phase_weaker ns p j m free d s = tt
  phase_weaker ns p j m claimed d s = tt
  phase_weaker ns p j m (put w) d s = s
  phase_weaker ns p j m (closed w) d s = s
  phase_weaker ns p j m (dropped l) d s = s
  phase_weaker ns p j m expanded d s = (s.0, (λ g. s.1 (λ (e : Some p ≡ Some j). d (let x : p ≡ j = cc in sym x))), s.2)

  -- no node can be closed, where this one can't
  weaker : (ns : List (Node T)) (p : ℕ) → SoundBut step depth rule (Some p) ns → ((n : Node T) → slice_get ns p ≡ Some n → PhaseSound step depth rule None ns p n n.phase) → Sound step depth rule ns
  weaker ns p s h j m e =
      elim (same_or_not j p) [
        | inl i ↦
            let at : slice_get ns p ≡ Some m = ap (slice_get ns) (sym i) ∙ e in
            record { below = (s j m e).below; levels = (s j m e).levels; up = (s j m e).up; phase = subst (λ (x : ℕ). PhaseSound step depth rule None ns x m m.phase) (sym i) (h m at); word = (s j m e).word }
        | inr d ↦ record { below = (s j m e).below; levels = (s j m e).levels; up = (s j m e).up; phase = phase_weaker ns p j m m.phase d (s j m e).phase; word = (s j m e).word }
      ]

  -- where the phase of node p is sound without an exception
  weaker_as : (ns : List (Node T)) (p : ℕ) (n : Node T) (ph : Phase T) → SoundBut step depth rule (Some p) ns → slice_get ns p ≡ Some n → n.phase ≡ ph → PhaseSound step depth rule None ns p n ph → Sound step depth rule ns
  weaker_as ns p n ph s at is own =
      weaker ns p s (λ m e. subst (λ y. PhaseSound step depth rule None ns p y y.phase) (some_is n m (sym at ∙ e)) (subst (PhaseSound step depth rule None ns p n) (sym is) own))

  module _ (tells : (t : T) → Tells (step t).act.process (step t).out) (deeper : (t : T) → Each (λ c. depth c < depth t) (out_children (step t).out)) where
    -- after node p was closed its parent alone may be one that can be closed
    pub closed_sound : (ns : List (Node T)) (p : ℕ) (n : Node T) (ws : List (Walked T)) → SoundBut step depth rule (Some p) ns → slice_get ns p ≡ Some n → n.phase ≡ expanded → PhaseSound step depth rule (Some p) ns p n expanded → kept_of step depth rule ns n ≡ Some ws
        → (let ms = set_phase ns p (closed (joined_walk step depth rule n.task ws)) in SoundBut step depth rule (parent_of (slice_get ms p)) ms)
    closed_sound ns p n ws s at is own some =
        let w = joined_walk step depth rule n.task ws in
        let ph = closed w in
        let cs = children step depth rule n.task in
        let ms = set_phase ns p ph in
        let good = closed_is_whole step depth rule tells deeper n.task (walks_of ns n.first (length cs)) ws (are_full step depth rule (Some p) ns p n.path n.first 0 cs s own.0) some in
        let not_own : above n.path ≢ Some p = λ e. (let b = (s p n at).below p e in omega arith) in
        let mine : Moves ns ms p n (record n { phase = ph }) → PhaseSound step depth rule (above n.path) ms p (record n { phase = ph }) ph
        = λ moves. (
          good,
          family_stays ns ms p n (record n { phase = ph }) moves p n.path n.first 0 cs own.0,
          (ws, ap (kept (numbers_of rule) nothing_counted) (walks_same ns ms p n (record n { phase = ph }) moves p n.path n.first 0 cs (inl not_own) own.0) ∙ some),
        ) in
        let sound = sound_done step depth rule (Some p) ns p n ph (inr refl) s at (ap phase_walk is) mine in
        let parent : above n.path ≡ parent_of (slice_get ms p) = sym (ap parent_of (get_same ns p n (λ x. record x { phase = ph }) at)) in
        subst (λ (q : Option ℕ). SoundBut step depth rule q ms) parent sound

    with_result : (f : ℕ) (ns : List (Node T)) (p : ℕ) (n : Node T) → SoundBut step depth rule (Some p) ns → p < suc f → slice_get ns p ≡ Some n
        → ((ms : List (Node T)) (q : Option ℕ) → SoundBut step depth rule q ms → ((i : ℕ) → q ≡ Some i → i < f) → Sound step depth rule (close_up step depth rule f ms q))
        → n.phase ≡ expanded → PhaseSound step depth rule (Some p) ns p n expanded
        → (r : Option (List (Walked T))) → kept_of step depth rule ns n ≡ r
        → Sound step depth rule (on_closed (close_up step depth rule f) ns p (close_with step depth rule ns p n r))
    with_result f ns p n s le at go is own None none = weaker_as ns p n expanded s at is (own.0, (λ g. none), own.2)
    with_result f ns p n s le at go is own (Some ws) some =
        let ph = closed (joined_walk step depth rule n.task ws) in
        let ms = set_phase ns p ph in
        let parent : above n.path ≡ parent_of (slice_get ms p) = sym (ap parent_of (get_same ns p n (λ x. record x { phase = ph }) at)) in
        go ms (parent_of (slice_get ms p)) (closed_sound ns p n ws s at is own some)
        (λ i e. let b = (s p n at).below i (parent ∙ e) in omega arith)

    closes : (f : ℕ) (ns : List (Node T)) (p : ℕ) (n : Node T) → SoundBut step depth rule (Some p) ns → p < suc f → slice_get ns p ≡ Some n
        → ((ms : List (Node T)) (q : Option ℕ) → SoundBut step depth rule q ms → ((i : ℕ) → q ≡ Some i → i < f) → Sound step depth rule (close_up step depth rule f ms q))
        → (ph : Phase T) → n.phase ≡ ph → PhaseSound step depth rule (Some p) ns p n ph → Sound step depth rule (on_closed (close_up step depth rule f) ns p (close_phase step depth rule ns p n ph))
    closes f ns p n s le at go free is own = weaker_as ns p n free s at is tt
    closes f ns p n s le at go claimed is own = weaker_as ns p n claimed s at is tt
    closes f ns p n s le at go (put w) is own = weaker_as ns p n (put w) s at is own
    closes f ns p n s le at go (closed w) is own = weaker_as ns p n (closed w) s at is own
    closes f ns p n s le at go (dropped l) is own = weaker_as ns p n (dropped l) s at is own
    closes f ns p n s le at go expanded is own = with_result f ns p n s le at go is own (kept_of step depth rule ns n) refl

    closes_at : (f : ℕ) (ns : List (Node T)) (p : ℕ) → SoundBut step depth rule (Some p) ns → p < suc f
        → ((ms : List (Node T)) (q : Option ℕ) → SoundBut step depth rule q ms → ((i : ℕ) → q ≡ Some i → i < f) → Sound step depth rule (close_up step depth rule f ms q))
        → (o : Option (Node T)) → slice_get ns p ≡ o → Sound step depth rule (on_closed (close_up step depth rule f) ns p (close_node step depth rule ns p o))
    closes_at f ns p s le go None at = weaker ns p s (λ n e. let x = sym at ∙ e in absurd (cc))
    closes_at f ns p s le go (Some n) at = closes f ns p n s le at go n.phase refl (s p n at).phase

    pub sound_close : (f : ℕ) (ns : List (Node T)) (q : Option ℕ) → SoundBut step depth rule q ns → ((i : ℕ) → q ≡ Some i → i < f) → Sound step depth rule (close_up step depth rule f ns q)
    unfolding close_up
    sound_close zero ns None s h = s
    sound_close zero ns (Some p) s h = absurd (let b = h p refl in omega arith)
    sound_close (suc f) ns None s h = s
    sound_close (suc f) ns (Some p) s h = closes_at f ns p s (h p refl) (sound_close f) (slice_get ns p) refl

    pub sound_put : (ns : List (Node T)) (k : ℕ) (n : Node T) → Sound step depth rule ns → slice_get ns k ≡ Some n → n.phase ≡ claimed → Sound step depth rule (put_node step depth rule ns k (Some n))
    sound_put ns k n s at is =
        let p = put (full step depth rule n.task) in
        sound_close (k + 1) (set_phase ns k p) (above n.path)
        (sound_done step depth rule None ns k n p (inl refl) s at (ap phase_walk is) (λ moves. refl))
        (λ i e. let b = (s k n at).below i e in omega arith)
