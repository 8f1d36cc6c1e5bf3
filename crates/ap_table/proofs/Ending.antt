-- Where no node is free or claimed the root is done.
use Rattle.std.proofs.Common.{◌≡◌, ◌≢◌, ℕ, zero, suc, ◌+◌, ◌≤◌, ◌<◌, List, [], ◌∷◌, Option, Some, None, length, refl, sym, ap, subst, ◌∙◌, arith, inl, inr, ◌⊎◌, Bool, true, false, cond}
use Rattle.std.proofs.lemmas.Bool.{cases_lt}
use Rattle.std.specs.List.{slice_get}
use Rattle.ap_list.specs.Lists.{AnyOf}
use Rattle.ap_walk.specs.declared.act.Stepped.{Stepped}
use Rattle.ap_walk.specs.declared.rule.Rule.{Rule}
use Rattle.ap_walk.specs.declared.mark.Walked.{Walked}
use Rattle.ap_walk.specs.Walks.{full}
use Rattle.ap_word.specs.declared.family.Counted.{Counted}
use Rattle.ap_word.specs.Stops.{nothing_counted, stops, add, sum_to, stops_by}
use Rattle.ap_table.specs.Core.{Phase, Node, free, claimed, expanded, put, closed, dropped, numbers_of, counted_of, with_kept, kept, phase_walk, node_walk, walks_of, above, children, tallies, Stops}
use Rattle.ap_table.specs.declared.link.Link.{Link}
use Rattle.ap_table.specs.declared.link.License.{License}
use Rattle.ap_table.specs.Sound.{Family, Names, StopsAt, PhaseSound, Sound}
use Rattle.ap_table.proofs.Keeping.{some_is}
use Rattle.ap_table.proofs.Growing.{below}

module _ {T : Type 0} (step : T → Stepped T) (depth : T → ℕ) (rule : Rule) where
  -- some family above stops before the place there
  abbrev pub Dead : List (Node T) → List Link → Type 0
  Dead ns path = AnyOf (λ l. (i : ℕ) × (i < l.place) × StopsAt step depth rule ns l.family i) path

  abbrev pub IsDone : Phase T → Type 0
  IsDone p = (w : Walked T) × (phase_walk p ≡ Some w)

  names_dead : (ns : List (Node T)) (l : License) (path : List Link) → AnyOf (Names l) path → StopsAt step depth rule ns l.family l.index → Dead ns path
  names_dead ns l [] h s = absurd h
  names_dead ns l (x ∷ xs) h s =
      elim h [
        | inl here ↦ inl (l.index, here.1, subst (λ f. StopsAt step depth rule ns f l.index) (sym here.0) s)
        | inr there ↦ inr (names_dead ns l xs there s)
      ]

  pub done_full : (ns : List (Node T)) (k : ℕ) (n : Node T) (p : Phase T) (w : Walked T) → PhaseSound step depth rule None ns k n p → phase_walk p ≡ Some w → w ≡ full step depth rule n.task
  done_full ns k n free w s e = absurd (cc)
  done_full ns k n claimed w s e = absurd (cc)
  done_full ns k n expanded w s e = absurd (cc)
  done_full ns k n (dropped l) w s e = absurd (cc)
  done_full ns k n (put v) w s e = sym (some_is v w e) ∙ s
  done_full ns k n (closed v) w s e = sym (some_is v w e) ∙ s.0

  not_kept : (b : Bool) (w : Walked T) (o : Option (List (Walked T))) → cond b (Some (w ∷ [])) (with_kept w o) ≡ None → (b ≡ false) × (o ≡ None)
  not_kept true w o e = absurd (cc)
  not_kept false w None e = (refl, refl)
  not_kept false w (Some ws) e = absurd (cc)

  module _ (ns : List (Node T)) (s : Sound step depth rule ns) where
    -- the family of a node that can't be closed has an unfinished child before it stops, which is dead with the node
    front : (k : ℕ) (n : Node T) → slice_get ns k ≡ Some n → (place first : ℕ) (cs : List T) (u : Counted) → Family ns k n.path first place cs
        → ((j : ℕ) → 0 < length cs → sum_to nothing_counted (tallies step depth rule (children step depth rule n.task)) (place + j) ≡ sum_to u (tallies step depth rule cs) j)
        → ((i : ℕ) → i < place → stops_by (numbers_of rule) (tallies step depth rule (children step depth rule n.task)) i ≡ false)
        → ((j : ℕ) (m : Node T) → slice_get ns j ≡ Some m → above m.path ≡ Some k → IsDone m.phase ⊎ Dead ns m.path)
        → kept (numbers_of rule) u (walks_of ns first (length cs)) ≡ None → Dead ns n.path
    unfolding kept walks_of sum_to
    front k n at place first [] u f same clear each none = absurd (cc)
    front k n at place first (c ∷ cs) u f same clear each none =
        let m = f.0.0 in
        elim (each first m f.0.1 (ap above f.0.3)) [
          | inl done ↦
              let w = done.0 in
              let here : node_walk (slice_get ns first) ≡ Some w = ap node_walk f.0.1 ∙ done.1 in
              let is : w ≡ full step depth rule c = done_full ns first m m.phase w (s first m f.0.1).phase done.1 ∙ ap (full step depth rule) f.0.2 in
              let next = add u (counted_of w) in
              let x = not_kept (stops (numbers_of rule) next) w (kept (numbers_of rule) next (walks_of ns (first + 1) (length cs)))
              (sym (ap (λ o. kept (numbers_of rule) u (o ∷ walks_of ns (first + 1) (length cs))) here) ∙ none) in
              let sum : sum_to nothing_counted (tallies step depth rule (children step depth rule n.task)) (place + 0) ≡ next
              = same 0 (omega arith) ∙ ap (λ y. add u (counted_of y)) (sym is) in
              front k n at (place + 1) (first + 1) cs next f.1
              (λ j some.
              ap (sum_to nothing_counted (tallies step depth rule (children step depth rule n.task))) (let z : place + 1 + j ≡ place + suc j = omega arith in z)
              ∙ same (suc j) (omega arith)
              ∙ ap (λ y. sum_to (add u (counted_of y)) (tallies step depth rule cs) j) (sym is))
              (λ i lt. elim (cases_lt i place) [
                | inl less ↦ clear i less
                | inr ge ↦ ap (λ y. stops_by (numbers_of rule) (tallies step depth rule (children step depth rule n.task)) y) (let z : i ≡ place + 0 = omega arith in z) ∙ (ap (stops (numbers_of rule)) sum ∙ x.0)
              ])
              each x.1
          | inr dead ↦
              elim (subst (Dead ns) f.0.3 dead) [
                | inl here ↦
                    let z = clear here.0 here.1 in
                    let y : n ≡ here.2.0 = some_is n here.2.0 (sym at ∙ here.2.1) in
                    let x : Stops step depth rule n.task here.0 = subst (λ v. Stops step depth rule v here.0) (ap (λ v. v.task) (sym y)) here.2.2 in
                    absurd (cc)
                | inr there ↦ there
              ]
        ]

    module _ (busy : (k : ℕ) (n : Node T) → slice_get ns k ≡ Some n → (n.phase ≢ free) × (n.phase ≢ claimed)) where
      by_phase : (k : ℕ) (n : Node T) (p : Phase T) → ((j : ℕ) (m : Node T) → slice_get ns j ≡ Some m → above m.path ≡ Some k → IsDone m.phase ⊎ Dead ns m.path) → slice_get ns k ≡ Some n → n.phase ≡ p → PhaseSound step depth rule None ns k n p → IsDone p ⊎ Dead ns n.path
      by_phase k n free each at is h = absurd ((busy k n at).0 is)
      by_phase k n claimed each at is h = absurd ((busy k n at).1 is)
      by_phase k n (put w) each at is h = inl (w, refl)
      by_phase k n (closed w) each at is h = inl (w, refl)
      by_phase k n (dropped l) each at is h = inr (names_dead ns l n.path h.0 h.1)
      by_phase k n expanded each at is h =
          inr (front k n at 0 n.first (children step depth rule n.task) nothing_counted h.0 (λ j some. ap (sum_to nothing_counted (tallies step depth rule (children step depth rule n.task))) (let z : 0 + j ≡ j = omega arith in z)) (λ i lt. absurd (omega arith)) each (h.1 (λ e. absurd (cc))))

      done_or_dead : (d k : ℕ) (n : Node T) → length ns ≤ k + d → slice_get ns k ≡ Some n → IsDone n.phase ⊎ Dead ns n.path
      done_or_dead zero k n h at = absurd (let b = below ns k n at in omega arith)
      done_or_dead (suc d) k n h at = by_phase k n n.phase (λ j m e p. done_or_dead d j m (let b = (s j m e).below k p in omega arith) e) at refl (s k n at).phase

      -- a node that isn't done has a family above it that stops before it
      pub all_done : (k : ℕ) (n : Node T) → slice_get ns k ≡ Some n → IsDone n.phase ⊎ Dead ns n.path
      all_done k n at = done_or_dead (length ns) k n (omega arith) at

      pub root_done : (k : ℕ) (n : Node T) → slice_get ns k ≡ Some n → n.path ≡ [] → IsDone n.phase
      root_done k n at top =
          elim (all_done k n at) [
            | inl done ↦ done
            | inr dead ↦ absurd (subst (Dead ns) top dead)
          ]
