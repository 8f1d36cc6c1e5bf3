-- The pieces of the nodes, each in its slot.
use Rattle.std.proofs.Common.{◌≡◌, ℕ, zero, suc, ◌+◌, ◌-◌, ◌≤◌, ◌<◌, Bool, true, false, cond, List, [], ◌∷◌, ◌++◌, Option, Some, None, length, take, refl, sym, ap, subst, ◌∙◌, arith, inl, inr, ◌⊎◌, append_assoc, append-nil}
use Rattle.std.proofs.lemmas.Bool.{cases_lt}
use Rattle.std.specs.List.{slice_get}
use Rattle.ap_walk.specs.Visits.{Visit}
use Rattle.ap_table.specs.declared.stored.Stored.{Stored}
use Rattle.ap_table.specs.declared.stored.Stage.{Stage}
use Rattle.ap_table.specs.declared.stored.Stage.TheVariants as stage
use Rattle.ap_table.specs.Core.{above}
use Rattle.ap_table.specs.Live.{stage_done, kept_done, done_at}
use Rattle.ap_table.specs.Sums.{HasKids}
use Rattle.ap_table.specs.Ended.{own_marks, done_front, stage_marks, stored_marks, marks_at, MakesUp, Trees, and_slot, slots_front, stage_piece, piece_of, slot, Slots}
use Rattle.ap_table.proofs.Keeping.{some_is, same_or_not}
use Rattle.ap_table.proofs.Showing.{below_length}
use Rattle.ap_table.proofs.Adding.{get_below, get_above}
use Rattle.ap_table.proofs.Marked.{get_there}

one_more : {A : Type 0} (xs : List A) (x : A) → [] ≡ xs ++ x ∷ [] → ⊥
one_more [] x e = cc
one_more (y ∷ xs) x e = cc

no_more : {A : Type 0} (m : ℕ) (xs : List A) → m ≤ length xs → take m xs ≡ [] → m ≡ 0
no_more zero xs h e = refl
no_more (suc m) [] h e = absurd (omega arith)
no_more (suc m) (x ∷ xs) h e = absurd (cc)

-- the last of the first m elements
pub popped : {A : Type 0} (xs ys : List A) (x : A) (m i : ℕ) → m ≡ i + 1 → m ≤ length xs → take m xs ≡ ys ++ x ∷ [] → (slice_get xs i ≡ Some x) × (ys ≡ take i xs)
popped [] ys x m i e h t = absurd (omega arith)
popped (y ∷ xs) ys x zero i e h t = absurd (omega arith)
popped (y ∷ xs) [] x (suc m) zero e h t = (let z : y ≡ x = cc in ap Some z, refl)
popped (y ∷ xs) [] x (suc m) (suc i) e h t = absurd (let z : take m xs ≡ [] = cc in let n = no_more m xs (omega arith) z in omega arith)
popped (y ∷ xs) (z ∷ zs) x (suc m) zero e h t =
    let w : take m xs ≡ zs ++ x ∷ [] = cc in
    absurd (one_more zs x (subst (λ (n : ℕ). take n xs ≡ zs ++ x ∷ []) (let v : m ≡ 0 = omega arith in v) w))
popped (y ∷ xs) (z ∷ zs) x (suc m) (suc i) e h t =
    let r = popped xs zs x m i (omega arith) (omega arith) (let w : take m xs ≡ zs ++ x ∷ [] = cc in w) in
    (r.0, ap (λ v. v ∷ zs) (let v : z ≡ y = cc in v) ∙ ap (λ l. y ∷ l) r.1)

nothing_behind : {A : Type 0} (now whole rest : List A) → rest ≡ [] → now ++ rest ≡ whole → now ≡ whole
nothing_behind now whole rest e h = sym (append-nil now) ∙ (ap (λ l. now ++ l) (sym e) ∙ h)

abbrev pub Row : Type 0 → Type 0
Row T = List (Option (List (Visit T)))

module _ {T : Type 0} where
  next_front : (slots : Row T) (top below count less : ℕ) (o : Option (List (Visit T))) → count ≡ less + 1 → below ≡ top - 1 → slice_get slots below ≡ Some o → slots_front slots top count ≡ and_slot (Some o) (slots_front slots below less)
  unfolding slots_front
  next_front slots top below zero less o e b at = absurd (omega arith)
  next_front slots top below (suc c) less o e b at =
      ap (λ (n : ℕ). and_slot (slice_get slots n) (slots_front slots n c)) (sym b)
      ∙ (ap (λ x. and_slot x (slots_front slots below c)) at
      ∙ ap (λ (n : ℕ). and_slot (Some o) (slots_front slots below n)) (let z : c ≡ less = omega arith in z))

  no_front : (slots : Row T) (top count : ℕ) → count ≡ 0 → slots_front slots top count ≡ []
  unfolding slots_front
  no_front slots top zero e = refl
  no_front slots top (suc c) e = absurd (omega arith)

  pub join_start : (slots : Row T) (base : List (Visit T)) (top count : ℕ) → base ++ slots_front slots (top - 0) (count - 0) ≡ base ++ slots_front slots top count
  join_start slots base top count =
      ap (λ (n : ℕ). base ++ slots_front slots n (count - 0)) (let z : top - 0 ≡ top = omega arith in z)
      ∙ ap (λ (n : ℕ). base ++ slots_front slots top n) (let z : count - 0 ≡ count = omega arith in z)

  pub join_next : (slots : Row T) (now more new whole : List (Visit T)) (top count place : ℕ) → place < count → count ≤ top → slice_get slots (top - place - 1) ≡ Some (Some more) → new ≡ now ++ more
      → now ++ slots_front slots (top - place) (count - place) ≡ whole → new ++ slots_front slots (top - (place + 1)) (count - (place + 1)) ≡ whole
  join_next slots now more new whole top count place lt fits at is was =
      let rest = slots_front slots (top - (place + 1)) (count - (place + 1)) in
      let at' : slice_get slots (top - (place + 1)) ≡ Some (Some more) = ap (slice_get slots) (let z : top - (place + 1) ≡ top - place - 1 = omega arith in z) ∙ at in
      ap (λ l. l ++ rest) is
      ∙ (append_assoc now more rest
      ∙ (ap (λ l. now ++ l) (sym (next_front slots (top - place) (top - (place + 1)) (count - place) (count - (place + 1)) (Some more) (omega arith) (omega arith) at'))
      ∙ was))

  pub join_stop : (slots : Row T) (now whole : List (Visit T)) (top count place : ℕ) → place < count → count ≤ top → slice_get slots (top - place - 1) ≡ Some None
      → now ++ slots_front slots (top - place) (count - place) ≡ whole → now ≡ whole
  join_stop slots now whole top count place lt fits at was =
      nothing_behind now whole (slots_front slots (top - place) (count - place)) (next_front slots (top - place) (top - place - 1) (count - place) (count - (place + 1)) None (omega arith) refl at) was

  pub join_all : (slots : Row T) (now whole : List (Visit T)) (top count place : ℕ) → count ≤ place → now ++ slots_front slots (top - place) (count - place) ≡ whole → now ≡ whole
  join_all slots now whole top count place le was = nothing_behind now whole (slots_front slots (top - place) (count - place)) (no_front slots (top - place) (count - place) (omega arith)) was

  pub join_others : (slots now new : Row T) (top place at : ℕ) → at + place + 1 ≡ top → ((j : ℕ) → (j + place < top) ⊎ (top ≤ j) → slice_get now j ≡ slice_get slots j) → ((j : ℕ) → (j ≡ at → ⊥) → slice_get new j ≡ slice_get now j)
      → (j : ℕ) → (j + (place + 1) < top) ⊎ (top ≤ j) → slice_get new j ≡ slice_get slots j
  join_others slots now new top place at e was is j h =
      elim h [
        | inl low ↦ is j (λ same. omega arith) ∙ was j (inl (omega arith))
        | inr high ↦ is j (λ same. omega arith) ∙ was j (inr high)
      ]

  by_slot : (b : Bool) (own more : List (Visit T)) → and_slot (Some (cond b (Some own) None)) more ≡ cond b (own ++ more) []
  by_slot true own more = refl
  by_slot false own more = refl

  by_done : (b : Bool) (x y : List (Visit T)) → (b ≡ true → x ≡ y) → cond b (Some x) None ≡ cond b (Some y) None
  by_done true x y h = ap Some (h refl)
  by_done false x y h = refl

  module _ (nodes : List (Stored T)) where
    -- the pieces of a node's children, by their slots
    front_slots : (slots : Row T) (first c : ℕ) → first + c ≤ length nodes → ((j : ℕ) → first ≤ j → j < first + c → slice_get slots (length nodes - (j + 1)) ≡ Some (slot nodes j))
        → slots_front slots (length nodes - first) c ≡ done_front (marks_at nodes 4) nodes first c
    unfolding slots_front done_front
    front_slots slots first zero fits each = refl
    front_slots slots first (suc c) fits each =
        let top = length nodes - (first + 1) in
        next_front slots (length nodes - first) top (suc c) c (slot nodes first) (omega arith) (omega arith) (each first (omega arith) (omega arith))
        ∙ (by_slot (done_at nodes first) (marks_at nodes 4 first) (slots_front slots top c)
        ∙ ap (λ l. cond (done_at nodes first) (marks_at nodes 4 first ++ l) []) (front_slots slots (first + 1) c (omega arith) (λ j le lt. each j (omega arith) (omega arith))))

    piece_by : (slots : Row T) (c : Stored T) (s : Stage T) → (HasKids s → slots_front slots (length nodes - c.first) c.count ≡ done_front (marks_at nodes 4) nodes c.first c.count)
        → stage_piece slots (length nodes) c s ≡ cond (stage_done s) (Some (stage_marks (marks_at nodes 4) nodes c s)) None
    piece_by slots c (stage.Free x) h = refl
    piece_by slots c stage.Claimed h = refl
    piece_by slots c stage.Expanded h = refl
    piece_by slots c (stage.Put w) h = refl
    piece_by slots c (stage.Closed s) h = ap (λ l. Some (own_marks c.own ++ l)) (h tt)
    piece_by slots c (stage.Dropped l) h = refl

    module _ (trees : Trees nodes) (makes : MakesUp nodes) (slots : Row T) (i : ℕ) (c : Stored T) (at : slice_get nodes i ≡ Some c) (held : Slots nodes (i + 1) slots) where
      child_slot : HasKids c.stage → (j : ℕ) → c.first ≤ j → j < c.first + c.count → slice_get slots (length nodes - (j + 1)) ≡ Some (slot nodes j)
      child_slot has j le lt =
          let t = trees i c at has in
          let fits = t.fits in
          let behind = t.after j le lt in
          let d = get_there nodes j (omega arith) in
          held j d.0 (omega arith) d.1 (λ p e. let same : i ≡ p = some_is i p (sym (t.up j d.0 le lt d.1) ∙ e) in omega arith)

      -- a node's piece is what is kept of it
      piece_slot : piece_of slots (length nodes) c ≡ slot nodes i
      piece_slot =
          let marks = stage_marks (marks_at nodes 4) nodes c c.stage in
          let same : kept_done (slice_get nodes i) ≡ stage_done c.stage = ap kept_done at in
          piece_by slots c c.stage (λ has. front_slots slots c.first c.count (trees i c at has).fits (child_slot has))
          ∙ (ap (λ b. cond b (Some marks) None) (sym same)
          ∙ sym (by_done (done_at nodes i) (marks_at nodes 4 i) marks (λ d. makes i d ∙ ap (stored_marks (marks_at nodes 4) nodes) at)))

      pub slots_next : (new : Row T) (own : Option (List (Visit T))) → length slots + (i + 1) ≡ length nodes → length new ≡ length slots → own ≡ piece_of slots (length nodes) c
          → ((k : ℕ) → (HasKids c.stage → (k + c.first + c.count < length nodes) ⊎ (length nodes ≤ k + c.first)) → slice_get new k ≡ slice_get slots k) → Slots nodes i (new ++ own ∷ [])
      slots_next new own long same is others j d le there none =
          let b = below_length nodes j d there in
          elim (same_or_not j i) [
            | inl e ↦
                get_above new (own ∷ []) (length nodes - (j + 1)) 0 (omega arith)
                ∙ ap Some (is ∙ (piece_slot ∙ ap (slot nodes) (sym e)))
            | inr n ↦
                let k = length nodes - (j + 1) in
                let more : i + 1 ≤ j = omega (arith, n) in
                get_below new (own ∷ []) k (omega arith)
                ∙ (others k (λ has.
                let t = trees i c at has in
                elim (cases_lt j c.first) [
                  | inl before ↦ inr (omega arith)
                  | inr ge ↦ elim (cases_lt j (c.first + c.count)) [
                    | inl within ↦ absurd (let x = none i (t.up j d ge within there) in omega arith)
                    | inr behind ↦ inl (omega arith)
                  ]
                ])
                ∙ held j d more there (λ p e. let x = none p e in omega arith))
          ]

    pub no_slots : (from : ℕ) → length nodes ≤ from → Slots nodes from []
    no_slots from past j d le there none = absurd (let b = below_length nodes j d there in omega arith)

    pub root_slot : (slots : Row T) (c : Stored T) → slice_get nodes 0 ≡ Some c → c.path ≡ [] → done_at nodes 0 ≡ true → Slots nodes 0 slots → slice_get slots (length nodes - 1) ≡ Some (Some (marks_at nodes 4 0))
    root_slot slots c at top done held =
        held 0 c (omega arith) at (λ p e. let x : None ≡ Some p = sym (ap above top) ∙ e in absurd (cc))
        ∙ ap (λ b. Some (cond b (Some (marks_at nodes 4 0)) None)) done
