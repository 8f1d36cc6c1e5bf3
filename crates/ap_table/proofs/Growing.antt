-- An expansion keeps the nodes sound.
use Rattle.std.proofs.Common.{◌≡◌, ℕ, zero, suc, ◌+◌, ◌≤◌, ◌<◌, List, [], ◌∷◌, ◌++◌, Some, None, length, refl, sym, ap, subst, ◌∙◌, arith, inl, inr, ◌-◌, length-append, append_assoc}
use Rattle.std.proofs.lemmas.Bool.{cases_lt}
use Rattle.std.specs.List.{slice_get}
use Rattle.ap_walk.specs.declared.act.Stepped.{Stepped}
use Rattle.ap_walk.specs.declared.rule.Rule.{Rule}
use Rattle.ap_word.specs.declared.family.Numbers.{Numbers}
use Rattle.ap_word.specs.Stops.{NONE, nothing_counted}
use Rattle.ap_table.specs.Core.{Node, free, claimed, expanded, numbers_of, kept, phase_walk, node_walk, walks_of, change, above, new_nodes, child, children, expand_node}
use Rattle.ap_table.specs.declared.link.Link.{Link}
use Rattle.ap_table.specs.Sound.{Family, Up, PhaseSound, NodeSound, Sound}
use Rattle.ap_table.proofs.Keeping.{same_or_not, some_is, get_same, get_other, change_length, Moves, grown_none, up_stays, other_sound}

linked : (k : ℕ) (path : List Link) {a b : ℕ} → a ≡ b → (let xs : List Link = record { family = k; place = a } ∷ path in xs) ≡ (let ys : List Link = record { family = k; place = b } ∷ path in ys)
linked k path e = ap (λ a. let xs : List Link = record { family = k; place = a } ∷ path in xs) e

module _ {T : Type 0} where
  pub below : (ns : List (Node T)) (j : ℕ) (m : Node T) → slice_get ns j ≡ Some m → j < length ns
  below [] j m e = absurd (cc)
  below (x ∷ xs) zero m e = omega arith
  below (x ∷ xs) (suc j) m e = let h = below xs j m e in omega arith

  pub get_left : (ns ms : List (Node T)) (j : ℕ) → j < length ns → slice_get (ns ++ ms) j ≡ slice_get ns j
  get_left [] ms j h = absurd (omega arith)
  get_left (x ∷ xs) ms zero h = refl
  get_left (x ∷ xs) ms (suc j) h = get_left xs ms j (omega arith)

  pub get_right : (ns ms : List (Node T)) (i j : ℕ) → j ≡ length ns + i → slice_get (ns ++ ms) j ≡ slice_get ms i
  get_right [] ms i j e = ap (slice_get ms) (let x : j ≡ i = omega arith in x)
  get_right (x ∷ xs) ms i zero e = absurd (omega arith)
  get_right (x ∷ xs) ms i (suc j) e = get_right xs ms i j (omega arith)

  -- a new node is free, is under node k, and has no word yet
  pub new_at : (k : ℕ) (path : List Link) (p : ℕ) (cs : List T) (i : ℕ) (m : Node T) → slice_get (new_nodes k path p cs) i ≡ Some m → (m.path ≡ record { family = k; place = p + i } ∷ path) × (m.phase ≡ free) × (m.word ≡ NONE) × (slice_get cs i ≡ Some m.task)
  new_at k path p [] i m e = absurd (cc)
  new_at k path p (c ∷ cs) zero m e =
      let x = some_is (child k path p c) m e in
      (ap (λ y. y.path) (sym x) ∙ linked k path (let z : p ≡ p + 0 = omega arith in z), ap (λ y. y.phase) (sym x), ap (λ y. y.word) (sym x), ap (λ y. Some y.task) x)
  new_at k path p (c ∷ cs) (suc i) m e =
      let r = new_at k path (p + 1) cs i m e in
      (r.0 ∙ linked k path (let z : p + 1 + i ≡ p + suc i = omega arith in z), r.1, r.2, r.3)

  -- the new nodes are a family, behind ns
  pub new_family : (ns : List (Node T)) (k : ℕ) (path : List Link) (p first : ℕ) (cs : List T) → first ≡ length ns → (ms : List (Node T)) → ms ≡ ns ++ new_nodes k path p cs → Family ms k path first p cs
  new_family ns k path p first [] e ms em = tt
  new_family ns k path p first (c ∷ cs) e ms em =
      let n = child k path p c in (
        (n, ap (λ l. slice_get l first) em ∙ get_right ns (n ∷ new_nodes k path (p + 1) cs) 0 first (omega arith), refl, refl),
        new_family (ns ++ n ∷ []) k path (p + 1) (first + 1) cs (omega (arith, length-append ns (n ∷ []))) ms (em ∙ sym (append_assoc ns (n ∷ []) (new_nodes k path (p + 1) cs))),
      )

  first_free_none : (numbers : Numbers) (ns : List (Node T)) (k : ℕ) (path : List Link) (p first : ℕ) (cs : List T) → 0 < length cs → slice_get ns first ≡ slice_get (new_nodes k path p cs) 0 → kept numbers nothing_counted (walks_of ns first (length cs)) ≡ None
  unfolding kept walks_of
  first_free_none numbers ns k path p first [] h e = absurd (omega arith)
  first_free_none numbers ns k path p first (c ∷ cs) h e = ap (λ o. kept numbers nothing_counted (node_walk o ∷ walks_of ns (first + 1) (length cs))) e

module _ {T : Type 0} (step : T → Stepped T) (depth : T → ℕ) (rule : Rule) where
  pub sound_expand : (ns : List (Node T)) (k : ℕ) (n : Node T) → Sound step depth rule ns → slice_get ns k ≡ Some n → n.phase ≡ claimed → 0 < length (children step depth rule n.task) → length n.path < 3 → Sound step depth rule (expand_node step depth rule ns k (Some n))
  sound_expand ns k n s at is some deep j m e =
      let first = length ns in
      let cs = children step depth rule n.task in
      let f : Node T → Node T = λ x. record x { first = first; phase = expanded; word = NONE } in
      let g = f n in
      let old = change ns k f in
      let new = new_nodes k n.path 0 cs in
      let ms = old ++ new in
      let lk = below ns k n at in
      let len = change_length ns k f in
      let moves : Moves ns ms k n g = record {
        was = at;
        is = get_left old new k (omega arith) ∙ get_same ns k n f at;
        task = refl;
        path = refl;
        others = λ i x d h. get_left old new i (let b = below ns i x h in omega arith) ∙ (get_other ns k i f d ∙ h);
        grows = grown_none (phase_walk n.phase) None (ap phase_walk is);
      } in
      elim (cases_lt j (length old)) [
        | inl lt ↦
            let e' : slice_get old j ≡ Some m = sym (get_left old new j lt) ∙ e in
            elim (same_or_not j k) [
              | inl q ↦
                  let mg : g ≡ m = some_is g m (sym (get_same ns k n f at) ∙ (ap (slice_get old) (sym q) ∙ e')) in
                  let here : PhaseSound step depth rule None ms k g expanded = (
                    new_family old k n.path 0 first cs (sym len) ms refl,
                    (λ z. first_free_none (numbers_of rule) ms k n.path 0 first cs some (get_right old new 0 first (omega arith))),
                    some,
                  ) in
                  let mine : NodeSound step depth rule None ms k g = record { below = (s k n at).below; levels = (s k n at).levels; up = up_stays ns ms k n g moves step depth rule n.path n.task (s k n at).up; phase = here; word = inl refl } in
                  subst (λ x. NodeSound step depth rule None ms j x) mg (subst (λ i. NodeSound step depth rule None ms i g) (sym q) mine)
              | inr d ↦ other_sound ns ms k n g moves step depth rule None None j m (λ x. (x, inr (ap phase_walk is))) (s j m (sym (get_other ns k j f d) ∙ e'))
            ]
        | inr ge ↦
            let x = new_at k n.path 0 cs (j - length old) m (sym (get_right old new (j - length old) j (omega arith)) ∙ e) in
            let l : Link = record { family = k; place = 0 + (j - length old) } in
            let levels : length (l ∷ n.path) ≤ 3 = omega (arith, deep) in
            record {
              below = λ p h. (let y : k ≡ p = (let z = ap above (sym x.0) ∙ h in cc) in omega arith);
              levels = subst (λ y. length y ≤ 3) (sym x.0) levels;
              up = subst (λ y. Up step depth rule ms y m.task) (sym x.0) (g, moves.is, refl, subst (λ z. slice_get cs z ≡ Some m.task) (let z : j - length old ≡ 0 + (j - length old) = omega arith in z) x.3);
              phase = subst (PhaseSound step depth rule None ms j m) (sym x.1) tt;
              word = inl x.2;
            }
      ]
