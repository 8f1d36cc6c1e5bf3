-- After every list of allowed steps.
use Rattle.std.proofs.Common.{◌≡◌, ℕ, zero, suc, ◌+◌, ◌<◌, List, [], ◌∷◌, ◌++◌, Option, Some, None, length, refl, sym, ap, subst, ◌∙◌, arith, inl, inr, min}
use Rattle.std.specs.List.{slice_get}
use Rattle.ap_list.specs.Lists.{Each}
use Rattle.ap_walk.specs.declared.act.Stepped.{Stepped}
use Rattle.ap_walk.specs.declared.rule.Rule.{Rule}
use Rattle.ap_walk.specs.declared.mark.Walked.{Walked}
use Rattle.ap_walk.specs.Visits.{Tells, out_children}
use Rattle.ap_walk.specs.Walks.{full}
use Rattle.ap_word.specs.Stops.{NONE}
use Rattle.ap_table.specs.Core.{Phase, Node, free, claimed, expanded, put, closed, dropped, Turn, claim, expand, finish, drop, mark, look, change, set_phase, above, parent_of, on_closed, root, children, joined_walk, kept_of, close_with, close_phase, close_node, close_up, put_node, new_nodes, expand_node, apply, replay_from}
use Rattle.ap_table.specs.declared.link.License.{License}
use Rattle.ap_table.specs.Sound.{IsFree, IsClaimed, NodeSound, Sound, CanExpand, CanMark, CanDrop, IsAllowed, AreAllowed}
use Rattle.ap_table.proofs.Keeping.{same_or_not, some_is, get_same, get_other, sound_claim, sound_drop, sound_mark}
use Rattle.ap_table.proofs.Rising.{sound_put}
use Rattle.ap_table.proofs.Growing.{below, get_left, sound_expand}

module _ {T : Type 0} where
  -- each node keeps its task and its place in the tree
  abbrev pub Keeps : List (Node T) → List (Node T) → Type 0
  Keeps ns ms = (j : ℕ) (m : Node T) → slice_get ns j ≡ Some m → (x : Node T) × (slice_get ms j ≡ Some x) × (x.task ≡ m.task) × (x.path ≡ m.path)

  pub keeps_all : (ns : List (Node T)) → Keeps ns ns
  keeps_all ns j m e = (m, e, refl, refl)

  pub keeps_then : (ns ms xs : List (Node T)) → Keeps ns ms → Keeps ms xs → Keeps ns xs
  keeps_then ns ms xs a b j m e =
      let x = a j m e in
      let y = b j x.0 x.1 in
      (y.0, y.1, y.2 ∙ x.2, y.3 ∙ x.3)

  pub change_keeps : (ns : List (Node T)) (k : ℕ) (f : Node T → Node T) → ((n : Node T) → (f n).task ≡ n.task) → ((n : Node T) → (f n).path ≡ n.path) → Keeps ns (change ns k f)
  change_keeps ns k f t p j m e =
      elim (same_or_not j k) [
        | inl s ↦ (f m, ap (slice_get (change ns k f)) s ∙ get_same ns k m f (ap (slice_get ns) (sym s) ∙ e), t m, p m)
        | inr d ↦ (m, get_other ns k j f d ∙ e, refl, refl)
      ]

  pub longer_keeps : (ns ms : List (Node T)) → Keeps ns (ns ++ ms)
  longer_keeps ns ms j m e = (m, get_left ns ms j (below ns j m e) ∙ e, refl, refl)

module _ {T : Type 0} (step : T → Stepped T) (depth : T → ℕ) (rule : Rule) where
  keeps_with : (f : ℕ) (ns : List (Node T)) (p : ℕ) (n : Node T) (r : Option (List (Walked T))) → ((ms : List (Node T)) (q : Option ℕ) → Keeps ms (close_up step depth rule f ms q)) → Keeps ns (on_closed (close_up step depth rule f) ns p (close_with step depth rule ns p n r))
  keeps_with f ns p n None go = keeps_all ns
  keeps_with f ns p n (Some ws) go =
      let ms = set_phase ns p (closed (joined_walk step depth rule n.task ws)) in
      keeps_then ns ms (close_up step depth rule f ms (parent_of (slice_get ms p))) (change_keeps ns p (λ x. record x { phase = closed (joined_walk step depth rule n.task ws) }) (λ x. refl) (λ x. refl)) (go ms (parent_of (slice_get ms p)))

  keeps_phase : (f : ℕ) (ns : List (Node T)) (p : ℕ) (n : Node T) (ph : Phase T) → ((ms : List (Node T)) (q : Option ℕ) → Keeps ms (close_up step depth rule f ms q)) → Keeps ns (on_closed (close_up step depth rule f) ns p (close_phase step depth rule ns p n ph))
  keeps_phase f ns p n free go = keeps_all ns
  keeps_phase f ns p n claimed go = keeps_all ns
  keeps_phase f ns p n (put w) go = keeps_all ns
  keeps_phase f ns p n (closed w) go = keeps_all ns
  keeps_phase f ns p n (dropped l) go = keeps_all ns
  keeps_phase f ns p n expanded go = keeps_with f ns p n (kept_of step depth rule ns n) go

  keeps_node : (f : ℕ) (ns : List (Node T)) (p : ℕ) (o : Option (Node T)) → ((ms : List (Node T)) (q : Option ℕ) → Keeps ms (close_up step depth rule f ms q)) → Keeps ns (on_closed (close_up step depth rule f) ns p (close_node step depth rule ns p o))
  keeps_node f ns p None go = keeps_all ns
  keeps_node f ns p (Some n) go = keeps_phase f ns p n n.phase go

  pub close_keeps : (f : ℕ) (ns : List (Node T)) (q : Option ℕ) → Keeps ns (close_up step depth rule f ns q)
  unfolding close_up
  close_keeps zero ns q = keeps_all ns
  close_keeps (suc f) ns None = keeps_all ns
  close_keeps (suc f) ns (Some p) = keeps_node f ns p (slice_get ns p) (close_keeps f)

  put_keeps : (ns : List (Node T)) (k : ℕ) (o : Option (Node T)) → Keeps ns (put_node step depth rule ns k o)
  put_keeps ns k None = keeps_all ns
  put_keeps ns k (Some n) =
      let ms = set_phase ns k (put (full step depth rule n.task)) in
      keeps_then ns ms (close_up step depth rule (k + 1) ms (above n.path)) (change_keeps ns k (λ x. record x { phase = put (full step depth rule n.task) }) (λ x. refl) (λ x. refl)) (close_keeps (k + 1) ms (above n.path))

  expand_keeps : (ns : List (Node T)) (k : ℕ) (o : Option (Node T)) → Keeps ns (expand_node step depth rule ns k o)
  expand_keeps ns k None = keeps_all ns
  expand_keeps ns k (Some n) =
      let f : Node T → Node T = λ m. record m { first = length ns; phase = expanded; word = NONE } in
      keeps_then ns (change ns k f) (change ns k f ++ new_nodes k n.path 0 (children step depth rule n.task)) (change_keeps ns k f (λ x. refl) (λ x. refl)) (longer_keeps (change ns k f) (new_nodes k n.path 0 (children step depth rule n.task)))

  pub apply_keeps : (ns : List (Node T)) (e : Turn) → Keeps ns (apply step depth rule ns e)
  apply_keeps ns (claim k) = change_keeps ns k (λ x. record x { phase = claimed }) (λ x. refl) (λ x. refl)
  apply_keeps ns (expand k) = expand_keeps ns k (slice_get ns k)
  apply_keeps ns (finish k) = put_keeps ns k (slice_get ns k)
  apply_keeps ns (drop k l) = change_keeps ns k (λ x. record x { phase = dropped l }) (λ x. refl) (λ x. refl)
  apply_keeps ns (mark f i) = change_keeps ns f (λ x. record x { word = min x.word i }) (λ x. refl) (λ x. refl)
  apply_keeps ns (look f) = keeps_all ns

  pub replay_keeps : (ns : List (Node T)) (es : List Turn) → Keeps ns (replay_from step depth rule ns es)
  unfolding replay_from
  replay_keeps ns [] = keeps_all ns
  replay_keeps ns (e ∷ es) = keeps_then ns (apply step depth rule ns e) (replay_from step depth rule (apply step depth rule ns e) es) (apply_keeps ns e) (replay_keeps (apply step depth rule ns e) es)

  module _ (tells : (t : T) → Tells (step t).act.process (step t).out) (deeper : (t : T) → Each (λ c. depth c < depth t) (out_children (step t).out)) where
    claim_at : (ns : List (Node T)) (k : ℕ) (o : Option (Node T)) → slice_get ns k ≡ o → IsFree o → Sound step depth rule ns → Sound step depth rule (set_phase ns k claimed)
    claim_at ns k None at a s = absurd a
    claim_at ns k (Some n) at a s = sound_claim step depth rule ns k n s at a

    put_at : (ns : List (Node T)) (k : ℕ) (o : Option (Node T)) → slice_get ns k ≡ o → IsClaimed o → Sound step depth rule ns → Sound step depth rule (put_node step depth rule ns k o)
    put_at ns k None at a s = absurd a
    put_at ns k (Some n) at a s = sound_put step depth rule tells deeper ns k n s at a

    expand_at : (ns : List (Node T)) (k : ℕ) (o : Option (Node T)) → slice_get ns k ≡ o → CanExpand step depth rule o → Sound step depth rule ns → Sound step depth rule (expand_node step depth rule ns k o)
    expand_at ns k None at a s = absurd a
    expand_at ns k (Some n) at a s = sound_expand step depth rule ns k n s at a.0 (let l = a.1 in omega arith) a.2

    drop_at : (ns : List (Node T)) (k : ℕ) (l : License) (o : Option (Node T)) → slice_get ns k ≡ o → CanDrop step depth rule ns o l → Sound step depth rule ns → Sound step depth rule (set_phase ns k (dropped l))
    drop_at ns k l None at a s = absurd a
    drop_at ns k l (Some n) at a s = sound_drop step depth rule ns k n l s at a.0 a.1

    mark_at : (ns : List (Node T)) (k i : ℕ) (o : Option (Node T)) → slice_get ns k ≡ o → CanMark step depth rule o i → Sound step depth rule ns → Sound step depth rule (change ns k (λ x. record x { word = min x.word i }))
    mark_at ns k i None at a s = absurd a
    mark_at ns k i (Some n) at a s = sound_mark step depth rule ns k i n s at a.1

    pub step_sound : (ns : List (Node T)) (e : Turn) → Sound step depth rule ns → IsAllowed step depth rule ns e → Sound step depth rule (apply step depth rule ns e)
    step_sound ns (claim k) s a = claim_at ns k (slice_get ns k) refl a s
    step_sound ns (expand k) s a = expand_at ns k (slice_get ns k) refl a s
    step_sound ns (finish k) s a = put_at ns k (slice_get ns k) refl a s
    step_sound ns (drop k l) s a = drop_at ns k l (slice_get ns k) refl a s
    step_sound ns (mark f i) s a = mark_at ns f i (slice_get ns f) refl a s
    step_sound ns (look f) s a = s

    -- after every list of allowed steps
    pub replay_sound : (ns : List (Node T)) (es : List Turn) → Sound step depth rule ns → AreAllowed step depth rule ns es → Sound step depth rule (replay_from step depth rule ns es)
    unfolding replay_from
    replay_sound ns [] s a = s
    replay_sound ns (e ∷ es) s a = replay_sound (apply step depth rule ns e) es (step_sound ns e s a.0) a.1

    pub root_sound : (t : T) → Sound step depth rule (root t)
    root_sound t zero n e =
        let r : Node T = record { task = t; path = []; first = 0; phase = free; word = NONE } in
        subst (NodeSound step depth rule None (root t) 0) (some_is r n e) record { below = λ p h. absurd (cc); levels = omega arith; up = tt; phase = tt; word = inl refl }
    root_sound t (suc k) n e = absurd (cc)

  pub replay_more : (ns : List (Node T)) (es : List Turn) (e : Turn) → replay_from step depth rule ns (es ++ e ∷ []) ≡ apply step depth rule (replay_from step depth rule ns es) e
  unfolding replay_from
  replay_more ns [] e = refl
  replay_more ns (f ∷ es) e = replay_more (apply step depth rule ns f) es e

  pub allowed_more : (ns : List (Node T)) (es : List Turn) (e : Turn) → AreAllowed step depth rule ns es → IsAllowed step depth rule (replay_from step depth rule ns es) e → AreAllowed step depth rule ns (es ++ e ∷ [])
  unfolding replay_from
  allowed_more ns [] e a h = (h, tt)
  allowed_more ns (f ∷ es) e a h = (a.0, allowed_more (apply step depth rule ns f) es e a.1 h)
