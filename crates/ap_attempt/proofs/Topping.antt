-- The node with no family above it is the root.
use Rattle.std.proofs.Common.{◌≡◌, ℕ, zero, suc, ◌+◌, min, List, [], ◌∷◌, Option, Some, None, length, refl, subst}
use Rattle.std.specs.List.{slice_get}
use Rattle.ap_list.specs.Lists.{Each}
use Rattle.ap_list.proofs.Eachs.{each_append}
use Rattle.ap_walk.specs.declared.act.Stepped.{Stepped}
use Rattle.ap_walk.specs.declared.rule.Rule.{Rule}
use Rattle.ap_walk.specs.declared.mark.Walked.{Walked}
use Rattle.ap_walk.specs.Walks.{full}
use Rattle.ap_word.specs.Stops.{NONE}
use Rattle.ap_table.specs.declared.link.Link.{Link}
use Rattle.ap_table.specs.Core.{Phase, Node, free, claimed, expanded, put, closed, dropped, Turn, claim, expand, finish, drop, mark, look, change, set_phase, above, parent_of, on_closed, root, new_nodes, children, joined_walk, kept_of, close_with, close_phase, close_node, close_up, put_node, expand_node, apply, replay_from, replay}
use Rattle.ap_table.proofs.Keeping.{some_is}

module _ {T : Type 0} (t : T) where
  -- where no family is above the node, its task is this one
  abbrev pub IsTop : Node T → Type 0
  IsTop n = n.path ≡ [] → n.task ≡ t

  top_at : (ns : List (Node T)) (k : ℕ) (n : Node T) → Each IsTop ns → slice_get ns k ≡ Some n → IsTop n
  top_at [] k n each at = absurd (cc)
  top_at (x ∷ xs) zero n each at = subst IsTop (some_is x n at) each.0
  top_at (x ∷ xs) (suc k) n each at = top_at xs k n each.1 at

  top_change : (ns : List (Node T)) (k : ℕ) (f : Node T → Node T) → ((n : Node T) → IsTop n → IsTop (f n)) → Each IsTop ns → Each IsTop (change ns k f)
  unfolding change
  top_change [] k f keeps each = tt
  top_change (n ∷ ns) zero f keeps each = (keeps n each.0, each.1)
  top_change (n ∷ ns) (suc k) f keeps each = (each.0, top_change ns k f keeps each.1)

  top_phase : (ns : List (Node T)) (k : ℕ) (p : Phase T) → Each IsTop ns → Each IsTop (set_phase ns k p)
  top_phase ns k p each = top_change ns k (λ n. record n { phase = p }) (λ n top. top) each

  top_new : (k : ℕ) (path : List Link) (place : ℕ) (cs : List T) → Each IsTop (new_nodes k path place cs)
  top_new k path place [] = tt
  top_new k path place (c ∷ cs) = ((λ none. absurd (cc)), top_new k path (place + 1) cs)

  module _ (step : T → Stepped T) (depth : T → ℕ) (rule : Rule) where
    top_with : (f : ℕ) (ns : List (Node T)) (p : ℕ) (n : Node T) (r : Option (List (Walked T))) → ((ms : List (Node T)) (q : Option ℕ) → Each IsTop ms → Each IsTop (close_up step depth rule f ms q))
        → Each IsTop ns → Each IsTop (on_closed (close_up step depth rule f) ns p (close_with step depth rule ns p n r))
    top_with f ns p n None go each = each
    top_with f ns p n (Some ws) go each =
        let ms = set_phase ns p (closed (joined_walk step depth rule n.task ws)) in
        go ms (parent_of (slice_get ms p)) (top_phase ns p (closed (joined_walk step depth rule n.task ws)) each)

    top_closed : (f : ℕ) (ns : List (Node T)) (p : ℕ) (n : Node T) (ph : Phase T) → ((ms : List (Node T)) (q : Option ℕ) → Each IsTop ms → Each IsTop (close_up step depth rule f ms q))
        → Each IsTop ns → Each IsTop (on_closed (close_up step depth rule f) ns p (close_phase step depth rule ns p n ph))
    top_closed f ns p n free go each = each
    top_closed f ns p n claimed go each = each
    top_closed f ns p n (put w) go each = each
    top_closed f ns p n (closed w) go each = each
    top_closed f ns p n (dropped l) go each = each
    top_closed f ns p n expanded go each = top_with f ns p n (kept_of step depth rule ns n) go each

    top_node : (f : ℕ) (ns : List (Node T)) (p : ℕ) (o : Option (Node T)) → ((ms : List (Node T)) (q : Option ℕ) → Each IsTop ms → Each IsTop (close_up step depth rule f ms q))
        → Each IsTop ns → Each IsTop (on_closed (close_up step depth rule f) ns p (close_node step depth rule ns p o))
    top_node f ns p None go each = each
    top_node f ns p (Some n) go each = top_closed f ns p n n.phase go each

    top_up : (f : ℕ) (ns : List (Node T)) (q : Option ℕ) → Each IsTop ns → Each IsTop (close_up step depth rule f ns q)
    unfolding close_up
    top_up zero ns q each = each
    top_up (suc f) ns None each = each
    top_up (suc f) ns (Some p) each = top_node f ns p (slice_get ns p) (top_up f) each

    top_put : (ns : List (Node T)) (k : ℕ) (o : Option (Node T)) → Each IsTop ns → Each IsTop (put_node step depth rule ns k o)
    top_put ns k None each = each
    top_put ns k (Some n) each =
        top_up (k + 1) (set_phase ns k (put (full step depth rule n.task))) (above n.path) (top_phase ns k (put (full step depth rule n.task)) each)

    top_expand : (ns : List (Node T)) (k : ℕ) (o : Option (Node T)) → Each IsTop ns → Each IsTop (expand_node step depth rule ns k o)
    top_expand ns k None each = each
    top_expand ns k (Some n) each =
        let f : Node T → Node T = λ m. record m { first = length ns; phase = expanded; word = NONE } in
        each_append IsTop (change ns k f) (new_nodes k n.path 0 (children step depth rule n.task)) (top_change ns k f (λ m top. top) each) (top_new k n.path 0 (children step depth rule n.task))

    top_apply : (ns : List (Node T)) (e : Turn) → Each IsTop ns → Each IsTop (apply step depth rule ns e)
    top_apply ns (claim k) each = top_phase ns k claimed each
    top_apply ns (expand k) each = top_expand ns k (slice_get ns k) each
    top_apply ns (finish k) each = top_put ns k (slice_get ns k) each
    top_apply ns (drop k l) each = top_phase ns k (dropped l) each
    top_apply ns (mark f i) each = top_change ns f (λ n. record n { word = min n.word i }) (λ n top. top) each
    top_apply ns (look f) each = each

    top_from : (ns : List (Node T)) (es : List Turn) → Each IsTop ns → Each IsTop (replay_from step depth rule ns es)
    unfolding replay_from
    top_from ns [] each = each
    top_from ns (e ∷ es) each = top_from (apply step depth rule ns e) es (top_apply ns e each)

    -- a node with no family above it has the root's task
    pub top_is_root : (es : List Turn) (k : ℕ) (n : Node T) → slice_get (replay step depth rule t es) k ≡ Some n → n.path ≡ [] → n.task ≡ t
    top_is_root es k n at = top_at (replay step depth rule t es) k n (top_from (root t) es ((λ none. refl), tt)) at
