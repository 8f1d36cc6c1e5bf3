-- Each step keeps the seats.
use Rattle.std.proofs.Common.{◌≡◌, ◌≢◌, ℕ, zero, suc, ◌+◌, ◌<◌, min, List, [], ◌∷◌, ◌++◌, Option, Some, None, length, refl, sym, ap, subst, ◌∙◌, arith, inl, inr, set}
use Rattle.std.specs.List.{slice_get}
use Rattle.ap_list.specs.Lists.{Each}
use Rattle.ap_walk.specs.declared.act.Stepped.{Stepped}
use Rattle.ap_walk.specs.declared.rule.Rule.{Rule}
use Rattle.ap_walk.specs.declared.mark.Walked.{Walked}
use Rattle.ap_word.specs.declared.family.View.{View}
use Rattle.ap_table.specs.Core.{Phase, Node, free, claimed, expanded, put, closed, dropped, change, set_phase, parent_of, on_closed, joined_walk, kept_of, close_with, close_phase, close_node, close_up}
use Rattle.ap_table.specs.Sound.{HasFamily}
use Rattle.ap_table.specs.declared.link.Link.{Link}
use Rattle.ap_table.specs.declared.seats.AncestorSeat.{AncestorSeat}
use Rattle.ap_table.specs.declared.seats.Beside.{Beside}
use Rattle.ap_table.specs.Kept.{Kept, kept_marked}
use Rattle.ap_table.specs.Seated.{kept_in, kept_at, amend, without_job, marked_kept, with_mark, HasSeat, AreCut, true_family, SeatsFor, IsSeatedAt, AreSeated}
use Rattle.ap_table.proofs.Keeping.{same_or_not, some_is, get_same, get_other, change_length}
use Rattle.ap_table.proofs.Replay.{Keeps, change_keeps}

module _ {A : Type 0} where
  pub amend_same : (xs : List A) (k : ℕ) (x : A) (f : A → A) → slice_get xs k ≡ Some x → slice_get (amend xs k f) k ≡ Some (f x)
  unfolding amend
  amend_same [] k x f e = absurd (cc)
  amend_same (y ∷ ys) zero x f e = ap (λ z. Some (f z)) (some_is y x e)
  amend_same (y ∷ ys) (suc k) x f e = amend_same ys k x f e

  pub amend_other : (xs : List A) (k j : ℕ) (f : A → A) → j ≢ k → slice_get (amend xs k f) j ≡ slice_get xs j
  unfolding amend
  amend_other [] k j f h = refl
  amend_other (x ∷ xs) zero zero f h = absurd (h refl)
  amend_other (x ∷ xs) zero (suc j) f h = refl
  amend_other (x ∷ xs) (suc k) zero f h = refl
  amend_other (x ∷ xs) (suc k) (suc j) f h = amend_other xs k j f (λ e. h (ap suc e))

  pub amend_length : (xs : List A) (k : ℕ) (f : A → A) → length (amend xs k f) ≡ length xs
  unfolding amend
  amend_length [] k f = refl
  amend_length (x ∷ xs) zero f = refl
  amend_length (x ∷ xs) (suc k) f = ap suc (amend_length xs k f)

  pub amend_is : (xs : List A) (k : ℕ) (x : A) (f : A → A) → slice_get xs k ≡ Some x → set xs k (f x) ≡ amend xs k f
  unfolding amend
  amend_is [] k x f e = refl
  amend_is (y ∷ ys) zero x f e = ap (λ z. f z ∷ ys) (sym (some_is y x e))
  amend_is (y ∷ ys) (suc k) x f e = ap (λ zs. y ∷ zs) (amend_is ys k x f e)

  pub is_there : (xs : List A) (k : ℕ) → k < length xs → (x : A) × (slice_get xs k ≡ Some x)
  is_there [] k h = absurd (omega arith)
  is_there (x ∷ xs) zero h = (x, refl)
  is_there (x ∷ xs) (suc k) h = is_there xs k (omega arith)

  pub is_below : (xs : List A) (k : ℕ) (x : A) → slice_get xs k ≡ Some x → k < length xs
  is_below [] k x e = absurd (cc)
  is_below (y ∷ ys) zero x e = omega arith
  is_below (y ∷ ys) (suc k) x e = let h = is_below ys k x e in omega arith

  pub at_left : (xs ys : List A) (j : ℕ) → j < length xs → slice_get (xs ++ ys) j ≡ slice_get xs j
  at_left [] ys j h = absurd (omega arith)
  at_left (x ∷ xs) ys zero h = refl
  at_left (x ∷ xs) ys (suc j) h = at_left xs ys j (omega arith)

  pub at_right : (xs ys : List A) (i j : ℕ) → j ≡ length xs + i → slice_get (xs ++ ys) j ≡ slice_get ys i
  at_right [] ys i j e = ap (slice_get ys) (let x : j ≡ i = omega arith in x)
  at_right (x ∷ xs) ys i zero e = absurd (omega arith)
  at_right (x ∷ xs) ys i (suc j) e = at_right xs ys i j (omega arith)

pub kept_there : (o : Option Beside) (v : Kept) → kept_in o ≡ Some v → (b : Beside) × (o ≡ Some b) × (b.kept ≡ Some v)
kept_there None v e = absurd (cc)
kept_there (Some b) v e = (b, refl, e)

-- seats that are there stay
abbrev pub Stay : List Beside → List Beside → Type 0
Stay bs cs = (j : ℕ) (v : Kept) → kept_at bs j ≡ Some v → (w : Kept) × (kept_at cs j ≡ Some w)

pub each_stays : (bs cs : List Beside) (ls : List Link) → Stay bs cs → Each (HasSeat bs) ls → Each (HasSeat cs) ls
each_stays bs cs [] s e = tt
each_stays bs cs (l ∷ ls) s e = (s l.family e.0.0 e.0.1, each_stays bs cs ls s e.1)

module _ {T : Type 0} (step : T → Stepped T) (depth : T → ℕ) (rule : Rule) where
  pub seats_stay : (ns ms : List (Node T)) (ls : List Link) (ss : List AncestorSeat) → Keeps ns ms → SeatsFor step depth rule ns ls ss → SeatsFor step depth rule ms ls ss
  seats_stay ns ms [] [] k h = tt
  seats_stay ns ms [] (s ∷ ss) k h = absurd h
  seats_stay ns ms (l ∷ ls) [] k h = absurd h
  seats_stay ns ms (l ∷ ls) (s ∷ ss) k h =
      let x = k l.family h.0.node h.0.at in (
        record { family = h.0.family; place = h.0.place; node = x.0; at = x.1; true = h.0.true ∙ ap (true_family step depth rule) (sym x.2); unlooked = h.0.unlooked },
        seats_stay ns ms ls ss k h.1,
      )

  -- seats cut from those that are kept are seats for a job
  pub cut_seats : (ns : List (Node T)) (bs : List Beside) (ls : List Link) (ss : List AncestorSeat) → AreSeated step depth rule ns bs → AreCut bs ls ss → SeatsFor step depth rule ns ls ss
  cut_seats ns bs [] [] a h = tt
  cut_seats ns bs [] (s ∷ ss) a h = absurd h
  cut_seats ns bs (l ∷ ls) [] a h = absurd h
  cut_seats ns bs (l ∷ ls) (s ∷ ss) a h =
      let cut = h.0.2 in
      let b = kept_there (slice_get bs l.family) h.0.0 h.0.1 in
      let low = is_below bs l.family b.0 b.1 in
      let same = a.long in
      let n = is_there ns l.family (omega arith) in
      let k = (a.each l.family n.0 b.0 n.1 b.1).kept h.0.0 b.2 in (
        record { family = cut.family; place = cut.place; node = n.0; at = n.1; true = ap (λ (v : View). v.family) cut.view ∙ k.0; unlooked = ap (λ (v : View). v.looks) cut.view },
        cut_seats ns bs ls ss a h.1,
      )

  -- what is so of a node apart from the families above it
  pub record Alone (ns : List (Node T)) (n : Node T) (b : Beside) : Type 0 where
    pub kept : (v : Kept) → b.kept ≡ Some v → (v.view.family ≡ true_family step depth rule n.task) × (v.view.low ≡ n.word)
    pub has : HasFamily n.phase → (v : Kept) × (b.kept ≡ Some v)
    pub job : n.phase ≡ free → (ss : List AncestorSeat) × (b.job ≡ Some ss) × SeatsFor step depth rule ns n.path ss

  -- a step that keeps the nodes' number keeps the seats where it does so at each node
  pub seated_by : (ns ms : List (Node T)) (bs cs : List Beside) → Keeps ns ms → length ms ≡ length ns → length cs ≡ length bs → Stay bs cs
      → ((j : ℕ) (n x : Node T) (b c : Beside) → slice_get ns j ≡ Some n → slice_get ms j ≡ Some x → slice_get bs j ≡ Some b → slice_get cs j ≡ Some c → x.task ≡ n.task → x.path ≡ n.path → IsSeatedAt step depth rule ns bs n b → Alone ns x c)
      → AreSeated step depth rule ns bs → AreSeated step depth rule ms cs
  seated_by ns ms bs cs keeps ml cl stay by a = record {
    long = cl ∙ (a.long ∙ sym ml);
    each = λ j x c atx atc.
        let low = is_below ms j x atx in
        let l = a.long in
        let n = is_there ns j (omega arith) in
        let b = is_there bs j (omega arith) in
        let k = keeps j n.0 n.1 in
        let same : k.0 ≡ x = some_is k.0 x (sym k.1 ∙ atx) in
        let task : x.task ≡ n.0.task = ap (λ (y : Node T). y.task) (sym same) ∙ k.2 in
        let path : x.path ≡ n.0.path = ap (λ (y : Node T). y.path) (sym same) ∙ k.3 in
        let was = a.each j n.0 b.0 n.1 b.1 in
        let is = by j n.0 x b.0 c n.1 atx b.1 atc task path was in
        record {
          kept = is.kept;
          has = is.has;
          above = subst (λ p. Each (HasSeat cs) p) (sym path) (each_stays bs cs n.0.path stay was.above);
          job = λ f. (let s = is.job f in (s.0, s.1, seats_stay ns ms x.path s.0 keeps s.2));
        };
  }

  -- each node keeps its task, its path and its word, and becomes neither free nor one with children
  abbrev pub Tame : List (Node T) → List (Node T) → Type 0
  Tame ns ms = (j : ℕ) (m : Node T) → slice_get ns j ≡ Some m → (x : Node T) × (slice_get ms j ≡ Some x) × (x.task ≡ m.task) × (x.path ≡ m.path) × (x.word ≡ m.word) × (x.phase ≡ free → m.phase ≡ free) × (HasFamily x.phase → HasFamily m.phase)

  pub seated_tame : (ns ms : List (Node T)) (bs : List Beside) → Tame ns ms → length ms ≡ length ns → AreSeated step depth rule ns bs → AreSeated step depth rule ms bs
  seated_tame ns ms bs tame ml a =
      seated_by ns ms bs bs (λ j m e. (let x = tame j m e in (x.0, x.1, x.2, x.3))) ml refl (λ j v e. (v, e))
      (λ j n x b c atn atx atb atc task path was.
      let t = tame j n atn in
      let same : t.0 ≡ x = some_is t.0 x (sym t.1 ∙ atx) in
      let own : b ≡ c = some_is b c (sym atb ∙ atc) in
      let word : x.word ≡ n.word = ap (λ (y : Node T). y.word) (sym same) ∙ t.4 in
      let kept : c.kept ≡ b.kept = ap (λ (y : Beside). y.kept) (sym own) in
      record {
        kept = λ v e. (let k = was.kept v (sym kept ∙ e) in (k.0 ∙ ap (true_family step depth rule) (sym task), k.1 ∙ sym word));
        has = λ f. (let h = was.has (t.6 (subst (λ (y : Node T). HasFamily y.phase) (sym same) f)) in (h.0, kept ∙ h.1));
        job = λ f. (let s = was.job (t.5 (ap (λ (y : Node T). y.phase) same ∙ f)) in (s.0, ap (λ (y : Beside). y.job) (sym own) ∙ s.1, subst (λ p. SeatsFor step depth rule ns p s.0) (sym path) s.2));
      })
      a

  pub change_tame : (ns : List (Node T)) (k : ℕ) (f : Node T → Node T) → ((n : Node T) → (f n).task ≡ n.task) → ((n : Node T) → (f n).path ≡ n.path) → ((n : Node T) → (f n).word ≡ n.word)
      → ((n : Node T) → (f n).phase ≢ free) → ((n : Node T) → slice_get ns k ≡ Some n → HasFamily (f n).phase → HasFamily n.phase) → Tame ns (change ns k f)
  change_tame ns k f t p w fr h j m e =
      elim (same_or_not j k) [
        | inl s ↦ (let at : slice_get ns k ≡ Some m = ap (slice_get ns) (sym s) ∙ e in (f m, ap (slice_get (change ns k f)) s ∙ get_same ns k m f at, t m, p m, w m, (λ y. absurd (fr m y)), h m at))
        | inr d ↦ (m, get_other ns k j f d ∙ e, refl, refl, refl, (λ y. y), (λ y. y))
      ]

  pub tame_all : (ns : List (Node T)) → Tame ns ns
  tame_all ns j m e = (m, e, refl, refl, refl, (λ y. y), (λ y. y))

  pub tame_then : (ns ms xs : List (Node T)) → Tame ns ms → Tame ms xs → Tame ns xs
  tame_then ns ms xs a b j m e =
      let x = a j m e in
      let y = b j x.0 x.1 in
      (y.0, y.1, y.2 ∙ x.2, y.3 ∙ x.3, y.4 ∙ x.4, (λ f. x.5 (y.5 f)), (λ f. x.6 (y.6 f)))

  tame_with : (f : ℕ) (ns : List (Node T)) (p : ℕ) (n : Node T) (r : Option (List (Walked T))) → slice_get ns p ≡ Some n → n.phase ≡ expanded
      → ((ms : List (Node T)) (q : Option ℕ) → Tame ms (close_up step depth rule f ms q) × (length (close_up step depth rule f ms q) ≡ length ms))
      → Tame ns (on_closed (close_up step depth rule f) ns p (close_with step depth rule ns p n r)) × (length (on_closed (close_up step depth rule f) ns p (close_with step depth rule ns p n r)) ≡ length ns)
  tame_with f ns p n None at ph go = (tame_all ns, refl)
  tame_with f ns p n (Some ws) at ph go =
      let g : Node T → Node T = λ x. record x { phase = closed (joined_walk step depth rule n.task ws) } in
      let ms = change ns p g in
      let rest = go ms (parent_of (slice_get ms p)) in (
        tame_then ns ms (close_up step depth rule f ms (parent_of (slice_get ms p)))
            (change_tame ns p g (λ x. refl) (λ x. refl) (λ x. refl) (λ x e. cc) (λ x e h. subst (λ (y : Node T). HasFamily y.phase) (some_is n x (sym at ∙ e)) (subst HasFamily (sym ph) tt)))
            rest.0,
        rest.1 ∙ change_length ns p g,
      )

  tame_phase : (f : ℕ) (ns : List (Node T)) (p : ℕ) (n : Node T) (ph : Phase T) → slice_get ns p ≡ Some n → n.phase ≡ ph
      → ((ms : List (Node T)) (q : Option ℕ) → Tame ms (close_up step depth rule f ms q) × (length (close_up step depth rule f ms q) ≡ length ms))
      → Tame ns (on_closed (close_up step depth rule f) ns p (close_phase step depth rule ns p n ph)) × (length (on_closed (close_up step depth rule f) ns p (close_phase step depth rule ns p n ph)) ≡ length ns)
  tame_phase f ns p n free at e go = (tame_all ns, refl)
  tame_phase f ns p n claimed at e go = (tame_all ns, refl)
  tame_phase f ns p n (put w) at e go = (tame_all ns, refl)
  tame_phase f ns p n (closed w) at e go = (tame_all ns, refl)
  tame_phase f ns p n (dropped l) at e go = (tame_all ns, refl)
  tame_phase f ns p n expanded at e go = tame_with f ns p n (kept_of step depth rule ns n) at e go

  tame_node : (f : ℕ) (ns : List (Node T)) (p : ℕ) (o : Option (Node T)) → slice_get ns p ≡ o
      → ((ms : List (Node T)) (q : Option ℕ) → Tame ms (close_up step depth rule f ms q) × (length (close_up step depth rule f ms q) ≡ length ms))
      → Tame ns (on_closed (close_up step depth rule f) ns p (close_node step depth rule ns p o)) × (length (on_closed (close_up step depth rule f) ns p (close_node step depth rule ns p o)) ≡ length ns)
  tame_node f ns p None at go = (tame_all ns, refl)
  tame_node f ns p (Some n) at go = tame_phase f ns p n n.phase at refl go

  pub close_tame : (f : ℕ) (ns : List (Node T)) (q : Option ℕ) → Tame ns (close_up step depth rule f ns q) × (length (close_up step depth rule f ns q) ≡ length ns)
  unfolding close_up
  close_tame zero ns q = (tame_all ns, refl)
  close_tame (suc f) ns None = (tame_all ns, refl)
  close_tame (suc f) ns (Some p) = tame_node f ns p (slice_get ns p) refl (close_tame f)

  -- a claim takes the job's seats
  pub seated_claim : (ns : List (Node T)) (bs : List Beside) (k : ℕ) → AreSeated step depth rule ns bs → AreSeated step depth rule (set_phase ns k claimed) (amend bs k without_job)
  seated_claim ns bs k a =
      let g : Node T → Node T = λ x. record x { phase = claimed } in
      seated_by ns (change ns k g) bs (amend bs k without_job) (change_keeps ns k g (λ x. refl) (λ x. refl)) (change_length ns k g) (amend_length bs k without_job)
      (λ j v e.
      let b = kept_there (slice_get bs j) v e in
      elim (same_or_not j k) [
        | inl s ↦ (v, ap kept_in (ap (slice_get (amend bs k without_job)) s ∙ amend_same bs k b.0 without_job (ap (slice_get bs) (sym s) ∙ b.1)) ∙ b.2)
        | inr d ↦ (v, ap kept_in (amend_other bs k j without_job d) ∙ e)
      ])
      (λ j n x b c atn atx atb atc task path was.
      elim (same_or_not j k) [
        | inl s ↦
            let isx : g n ≡ x = some_is (g n) x (sym (get_same ns k n g (ap (slice_get ns) (sym s) ∙ atn)) ∙ (ap (slice_get (change ns k g)) (sym s) ∙ atx)) in
            let isc : without_job b ≡ c = some_is (without_job b) c (sym (amend_same bs k b without_job (ap (slice_get bs) (sym s) ∙ atb)) ∙ (ap (slice_get (amend bs k without_job)) (sym s) ∙ atc)) in
            let kept : b.kept ≡ c.kept = ap (λ (y : Beside). y.kept) isc in
            let phase : claimed ≡ x.phase = ap (λ (y : Node T). y.phase) isx in
            record {
              kept = λ v e. (let h = was.kept v (kept ∙ e) in (h.0 ∙ ap (true_family step depth rule) (sym task), h.1 ∙ ap (λ (y : Node T). y.word) isx));
              has = λ f. absurd (subst HasFamily (sym phase) f);
              job = λ f. (let z = phase ∙ f in absurd (cc));
            }
        | inr d ↦
            let isx : n ≡ x = some_is n x (sym atn ∙ (sym (get_other ns k j g d) ∙ atx)) in
            let isc : b ≡ c = some_is b c (sym atb ∙ (sym (amend_other bs k j without_job d) ∙ atc)) in
            subst (λ (y : Beside). Alone ns x y) isc (subst (λ (y : Node T). Alone ns y b) isx (record { kept = was.kept; has = was.has; job = was.job }))
      ])
      a

  marked_alone : (i : ℕ) (o : Option Kept) (t : T) (word : ℕ) → ((v : Kept) → o ≡ Some v → (v.view.family ≡ true_family step depth rule t) × (v.view.low ≡ word))
      → (v : Kept) → marked_kept i o ≡ Some v → (v.view.family ≡ true_family step depth rule t) × (v.view.low ≡ min word i)
  marked_alone i None t word h v e = absurd (cc)
  marked_alone i (Some w) t word h v e =
      let k = h w refl in
      let same = some_is (kept_marked w i) v e in
      (ap (λ (y : Kept). y.view.family) (sym same) ∙ k.0, ap (λ (y : Kept). y.view.low) (sym same) ∙ ap (λ (n : ℕ). min n i) k.1)

  -- a mark is made on the word too
  pub seated_mark : (ns : List (Node T)) (bs : List Beside) (k i : ℕ) → AreSeated step depth rule ns bs → AreSeated step depth rule (change ns k (λ x. record x { word = min x.word i })) (amend bs k (with_mark i))
  seated_mark ns bs k i a =
      let g : Node T → Node T = λ x. record x { word = min x.word i } in
      let f : Beside → Beside = with_mark i in
      seated_by ns (change ns k g) bs (amend bs k f) (change_keeps ns k g (λ x. refl) (λ x. refl)) (change_length ns k g) (amend_length bs k f)
      (λ j v e.
      let b = kept_there (slice_get bs j) v e in
      elim (same_or_not j k) [
        | inl s ↦ (_, ap kept_in (ap (slice_get (amend bs k f)) s ∙ amend_same bs k b.0 f (ap (slice_get bs) (sym s) ∙ b.1)) ∙ ap (marked_kept i) b.2)
        | inr d ↦ (v, ap kept_in (amend_other bs k j f d) ∙ e)
      ])
      (λ j n x b c atn atx atb atc task path was.
      elim (same_or_not j k) [
        | inl s ↦
            let isx : g n ≡ x = some_is (g n) x (sym (get_same ns k n g (ap (slice_get ns) (sym s) ∙ atn)) ∙ (ap (slice_get (change ns k g)) (sym s) ∙ atx)) in
            let isc : f b ≡ c = some_is (f b) c (sym (amend_same bs k b f (ap (slice_get bs) (sym s) ∙ atb)) ∙ (ap (slice_get (amend bs k f)) (sym s) ∙ atc)) in
            subst (λ (y : Beside). Alone ns x y) isc (subst (λ (y : Node T). Alone ns y (f b)) isx (record {
              kept = λ v e. marked_alone i b.kept n.task n.word was.kept v e;
              has = λ h. (let v = was.has h in (_, ap (marked_kept i) v.1));
              job = was.job;
            }))
        | inr d ↦
            let isx : n ≡ x = some_is n x (sym atn ∙ (sym (get_other ns k j g d) ∙ atx)) in
            let isc : b ≡ c = some_is b c (sym atb ∙ (sym (amend_other bs k j f d) ∙ atc)) in
            subst (λ (y : Beside). Alone ns x y) isc (subst (λ (y : Node T). Alone ns y b) isx (record { kept = was.kept; has = was.has; job = was.job }))
      ])
      a
