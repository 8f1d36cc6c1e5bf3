-- No step makes a node free that was claimed, so that none is claimed twice.
use Rattle.std.proofs.Common.{◌≡◌, ◌≢◌, ℕ, ◌+◌, ◌≤◌, ◌⊎◌, Bool, true, false, cond, nat_eq, min, List, [], ◌∷◌, ◌++◌, length, Option, Some, None, refl, sym, ap, subst, ◌∙◌, arith, inl, inr}
use Rattle.std.specs.List.{slice_get}
use Rattle.ap_walk.specs.declared.act.Stepped.{Stepped}
use Rattle.ap_walk.specs.declared.rule.Rule.{Rule}
use Rattle.ap_walk.specs.Walks.{full}
use Rattle.ap_table.specs.declared.link.License.{License}
use Rattle.ap_table.specs.Core.{Node, free, claimed, expanded, put, dropped, Turn, claim, expand, finish, drop, mark, look, above, change, set_phase, children, new_nodes, close_up, put_node, expand_node, apply}
use Rattle.ap_word.specs.Stops.{NONE}
use Rattle.ap_table.specs.Sound.{IsFree, IsAllowed, AreAllowed}
use Rattle.ap_table.specs.Once.{claims_of, claims}
use Rattle.ap_table.proofs.Keeping.{same_or_not, get_same, get_other}
use Rattle.ap_table.proofs.Families.{eq_yes}
use Rattle.ap_table.proofs.Sitting.{is_below, at_left, close_tame}

at_most : (b : Bool) → (let n : ℕ = cond b 1 0 in n) ≤ 1
at_most true = omega arith
at_most false = omega arith

claims_most : (k : ℕ) (e : Turn) → claims_of k e ≤ 1
claims_most k (claim j) = at_most (nat_eq k j)
claims_most k (expand j) = omega arith
claims_most k (finish j) = omega arith
claims_most k (drop j l) = omega arith
claims_most k (mark f i) = omega arith
claims_most k (look f) = omega arith

other_number : (k j : ℕ) → k ≢ j → (b : Bool) → nat_eq k j ≡ b → (let n : ℕ = cond b 1 0 in n) ≡ 0
other_number k j d true e = absurd (d (eq_yes k j e))
other_number k j d false e = refl

-- a step claims the node, or it doesn't
which : (k : ℕ) (e : Turn) → (e ≡ claim k) ⊎ (claims_of k e ≡ 0)
which k (claim j) = elim (same_or_not k j) [ inl s ↦ inl (ap claim (sym s)) | inr d ↦ inr (other_number k j d (nat_eq k j) refl) ]
which k (expand j) = inr refl
which k (finish j) = inr refl
which k (drop j l) = inr refl
which k (mark f i) = inr refl
which k (look f) = inr refl

module _ {T : Type 0} where
  -- the node is there, and isn't free
  abbrev IsTaken : List (Node T) → ℕ → Type 0
  IsTaken ns k = (n : Node T) × (slice_get ns k ≡ Some n) × (n.phase ≢ free)

  taken_change : (ns : List (Node T)) (j k : ℕ) (f : Node T → Node T) → ((n : Node T) → n.phase ≢ free → (f n).phase ≢ free) → IsTaken ns k → IsTaken (change ns j f) k
  taken_change ns j k f keeps t =
      elim (same_or_not k j) [
        | inl s ↦ (f t.0, ap (slice_get (change ns j f)) s ∙ get_same ns j t.0 f (ap (slice_get ns) (sym s) ∙ t.1), keeps t.0 t.2)
        | inr d ↦ (t.0, get_other ns j k f d ∙ t.1, t.2)
      ]

  taken_more : (ns ms : List (Node T)) (k : ℕ) → IsTaken ns k → IsTaken (ns ++ ms) k
  taken_more ns ms k t = (t.0, at_left ns ms k (is_below ns k t.0 t.1) ∙ t.1, t.2)

  free_there : (o : Option (Node T)) → IsFree o → (n : Node T) × (o ≡ Some n)
  free_there None f = absurd f
  free_there (Some n) f = (n, refl)

  just_claimed : (ns : List (Node T)) (k : ℕ) → IsFree (slice_get ns k) → IsTaken (set_phase ns k claimed) k
  just_claimed ns k f =
      let n = free_there (slice_get ns k) f in
      let g : Node T → Node T = λ x. record x { phase = claimed } in
      (g n.0, get_same ns k n.0 g n.1, λ e. cc)

module _ {T : Type 0} (step : T → Stepped T) (depth : T → ℕ) (rule : Rule) where
  taken_put : (ns : List (Node T)) (j k : ℕ) (o : Option (Node T)) → IsTaken ns k → IsTaken (put_node step depth rule ns j o) k
  taken_put ns j k None t = t
  taken_put ns j k (Some n) t =
      let g : Node T → Node T = λ x. record x { phase = put (full step depth rule n.task) } in
      let s = taken_change ns j k g (λ m h e. cc) t in
      let x = (close_tame step depth rule (j + 1) (change ns j g) (above n.path)).0 k s.0 s.1 in
      (x.0, x.1, λ f. s.2 (x.5 f))

  taken_expand : (ns : List (Node T)) (j k : ℕ) (o : Option (Node T)) → IsTaken ns k → IsTaken (expand_node step depth rule ns j o) k
  taken_expand ns j k None t = t
  taken_expand ns j k (Some n) t =
      let g : Node T → Node T = λ m. record m { first = length ns; phase = expanded; word = NONE } in
      taken_more (change ns j g) (new_nodes j n.path 0 (children step depth rule n.task)) k (taken_change ns j k g (λ m h e. cc) t)

  taken_step : (ns : List (Node T)) (e : Turn) (k : ℕ) → IsTaken ns k → IsTaken (apply step depth rule ns e) k
  taken_step ns (claim j) k t = taken_change ns j k (λ n. record n { phase = claimed }) (λ m h e. cc) t
  taken_step ns (expand j) k t = taken_expand ns j k (slice_get ns j) t
  taken_step ns (finish j) k t = taken_put ns j k (slice_get ns j) t
  taken_step ns (drop j l) k t = taken_change ns j k (λ n. record n { phase = dropped l }) (λ m h e. cc) t
  taken_step ns (mark f i) k t = taken_change ns f k (λ n. record n { word = min n.word i }) (λ m h. h) t
  taken_step ns (look f) k t = t

  -- a node that isn't free isn't claimed any more
  none_again : (es : List Turn) (ns : List (Node T)) (k : ℕ) → IsTaken ns k → AreAllowed step depth rule ns es → claims k es ≡ 0
  none_again [] ns k t a = refl
  none_again (e ∷ es) ns k t a =
      let rest = none_again es (apply step depth rule ns e) k (taken_step ns e k t) a.1 in
      elim (which k e) [
        | inl s ↦ absurd (t.2 (subst IsFree t.1 (subst (IsAllowed step depth rule ns) s a.0)))
        | inr z ↦ omega arith
      ]

  pub once : (es : List Turn) (ns : List (Node T)) (k : ℕ) → AreAllowed step depth rule ns es → claims k es ≤ 1
  once [] ns k a = omega arith
  once (e ∷ es) ns k a =
      elim (which k e) [
        | inl s ↦
            let taken = subst (λ x. IsTaken (apply step depth rule ns x) k) (sym s) (just_claimed ns k (subst (IsAllowed step depth rule ns) s a.0)) in
            let rest = none_again es (apply step depth rule ns e) k taken a.1 in
            let most = claims_most k e in
            omega arith
        | inr z ↦ (let rest = once es (apply step depth rule ns e) k a.1 in omega arith)
      ]
