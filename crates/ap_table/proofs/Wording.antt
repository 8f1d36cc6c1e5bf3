-- The seats after each step of the table.
use Rattle.std.proofs.Common.{◌≡◌, ℕ, zero, suc, ◌+◌, ◌-◌, ◌≤◌, ◌<◌, List, [], ◌∷◌, ◌++◌, Option, Some, None, length, take, drop, get_or, refl, sym, ap, subst, ◌∙◌, arith, inl, inr, length-append}
use Rattle.std.proofs.lemmas.Bool.{cases_lt}
use Rattle.std.specs.List.{slice_get}
use Rattle.ap_list.specs.Lists.{Each}
use Rattle.ap_walk.specs.declared.act.Stepped.{Stepped}
use Rattle.ap_walk.specs.declared.rule.Rule.{Rule}
use Rattle.ap_walk.specs.Walks.{full}
use Rattle.ap_word.specs.declared.family.View.{View}
use Rattle.ap_word.specs.Stops.{NONE}
use Rattle.ap_word.specs.Words.{IsStop, made}
use Rattle.ap_table.specs.Core.{Node, free, expanded, put, dropped, mark, change, above, root, children, close_up, put_node, new_nodes, expand_node, apply, replay_from}
use Rattle.ap_table.specs.Sound.{HasFamily, CanMark, IsAllowed, AreAllowed}
use Rattle.ap_table.specs.Shown.{Run, turn_of, turns, nodes_of}
use Rattle.ap_table.specs.Calls.{longer, one_mark, known_at, stop_marks}
use Rattle.ap_table.specs.declared.link.Link.{Link}
use Rattle.ap_table.specs.declared.link.License.{License}
use Rattle.ap_table.specs.declared.stored.Entry.{Entry}
use Rattle.ap_table.specs.declared.stored.Entry.TheVariants as entry
use Rattle.ap_table.specs.declared.seats.Beside.{Beside}
use Rattle.ap_table.specs.Kept.{Kept}
use Rattle.ap_table.specs.Seated.{kept_in, kept_at, amend, without_job, with_kept, with_mark, HasSeat, AreRows, IsMark, true_family, SeatsFor, IsSeatedAt, AreSeated}
use Rattle.ap_table.proofs.Keeping.{same_or_not, some_is, get_same, get_other, change_length}
use Rattle.ap_table.proofs.Growing.{new_at}
use Rattle.ap_table.proofs.Replay.{change_keeps, longer_keeps, keeps_then, replay_more}
use Rattle.ap_table.proofs.Showing.{turns_more}
use Rattle.ap_table.proofs.Moving.{nodes_more}
use Rattle.ap_table.proofs.Finding.{get_there, each_beyond}
use Rattle.ap_table.proofs.Sitting.{amend_same, amend_other, amend_length, is_there, is_below, at_left, at_right, kept_there, seats_stay, each_stays, cut_seats, seated_by, Alone, seated_tame, change_tame, tame_then, close_tame, seated_claim, seated_mark}

take_go : {A : Type 0} (xs : List A) (k j : ℕ) (x : A) → j ≡ k + 1 → slice_get xs k ≡ Some x → take j xs ≡ take k xs ++ x ∷ []
take_go [] k j x is e = absurd (cc)
take_go (y ∷ ys) k zero x is e = absurd (omega arith)
take_go (y ∷ ys) zero (suc zero) x is e = ap (λ z. z ∷ []) (some_is y x e)
take_go (y ∷ ys) zero (suc (suc j)) x is e = absurd (omega arith)
take_go (y ∷ ys) (suc k) (suc j) x is e = ap (λ zs. y ∷ zs) (take_go ys k j x (omega arith) e)

front_go : {A : Type 0} (xs ys : List A) (x : A) (j : ℕ) → j ≡ length xs + 1 → take j (xs ++ x ∷ ys) ≡ xs ++ x ∷ []
front_go [] ys x zero is = absurd (omega arith)
front_go [] ys x (suc zero) is = refl
front_go [] ys x (suc (suc j)) is = absurd (omega arith)
front_go (z ∷ zs) ys x zero is = absurd (omega arith)
front_go (z ∷ zs) ys x (suc j) is = ap (λ l. z ∷ l) (front_go zs ys x j (omega arith))

back_go : {A : Type 0} (xs ys : List A) (x : A) (j : ℕ) → j ≡ length xs + 1 → drop j (xs ++ x ∷ ys) ≡ ys
back_go [] ys x zero is = absurd (omega arith)
back_go [] ys x (suc zero) is = refl
back_go [] ys x (suc (suc j)) is = absurd (omega arith)
back_go (z ∷ zs) ys x zero is = absurd (omega arith)
back_go (z ∷ zs) ys x (suc j) is = back_go zs ys x j (omega arith)

is_a_mark : (e : Entry) → IsMark e → ((f i : ℕ) → e ≡ entry.Marked f i → ⊥) → ⊥
is_a_mark (entry.Marked f i) m isnt = isnt f i refl
is_a_mark (entry.Claimed k) m isnt = m
is_a_mark (entry.Expanded k) m isnt = m
is_a_mark (entry.Put k) m isnt = m
is_a_mark (entry.Dropped k l) m isnt = m

-- behind a put there are marks alone
pub no_other : (h h' : List Entry) (from k : ℕ) (d : Entry) → h ≡ h' → from ≤ k → k < length h → Each IsMark (drop from h') → ((f i : ℕ) → get_or h k d ≡ entry.Marked f i → ⊥) → ⊥
no_other h h' from k d same past low all isnt = is_a_mark (get_or h k d) (each_beyond IsMark from k h' (get_or h k d) past (ap (λ (l : List Entry). slice_get l k) (sym same) ∙ get_there h k d low) all) isnt

same_link : (k : ℕ) (path : List Link) {a b : ℕ} → a ≡ b → (let xs : List Link = record { family = k; place = a } ∷ path in xs) ≡ (let ys : List Link = record { family = k; place = b } ∷ path in ys)
same_link k path e = ap (λ a. let xs : List Link = record { family = k; place = a } ∷ path in xs) e

new_length : {T : Type 0} (k : ℕ) (path : List Link) (p : ℕ) (cs : List T) → length (new_nodes k path p cs) ≡ length cs
new_length k path p [] = refl
new_length k path p (c ∷ cs) = ap suc (new_length k path (p + 1) cs)

module _ {T : Type 0} (step : T → Stepped T) (depth : T → ℕ) where
  allowed_at : (rule : Rule) (ns : List (Node T)) (h : List Entry) (k : ℕ) (e : Entry) → AreAllowed step depth rule ns (turns h) → slice_get h k ≡ Some e
      → IsAllowed step depth rule (replay_from step depth rule ns (turns (take k h))) (turn_of e)
  unfolding replay_from
  allowed_at rule ns [] k e a at = absurd (cc)
  allowed_at rule ns (x ∷ xs) zero e a at = subst (λ y. IsAllowed step depth rule ns (turn_of y)) (some_is x e at) a.0
  allowed_at rule ns (x ∷ xs) (suc k) e a at = allowed_at rule (apply step depth rule ns (turn_of x)) xs k e a.1 at

  can_mark : (rule : Rule) (ns : List (Node T)) (bs : List Beside) (f i : ℕ) (o : Option (Node T)) → slice_get ns f ≡ o → AreSeated step depth rule ns bs → CanMark step depth rule o i
      → (v : Kept) × (kept_at bs f ≡ Some v) × IsStop v.view.family i
  can_mark rule ns bs f i None e a m = absurd m
  can_mark rule ns bs f i (Some n) e a m =
      let low = is_below ns f n e in
      let same = a.long in
      let b = is_there bs f (omega arith) in
      let s = a.each f n b.0 e b.1 in
      let v = s.has m.0 in
      (v.0, ap kept_in b.1 ∙ v.1, subst (λ g. IsStop g i) (sym (s.kept v.0 v.1).0) m.1)

  pub mark_can : (r : Run T) (bs : List Beside) (h : List Entry) (k : ℕ) (d : Entry) (f i : ℕ) → h ≡ r.history → AreAllowed step depth r.rule (root r.root) (turns r.history) → k < length h → get_or h k d ≡ entry.Marked f i
      → AreSeated step depth r.rule (replay_from step depth r.rule (root r.root) (turns (take k r.history))) bs → (v : Kept) × (kept_at bs f ≡ Some v) × IsStop v.view.family i
  mark_can r bs h k d f i same a low e s =
      let ns = replay_from step depth r.rule (root r.root) (turns (take k r.history)) in
      can_mark r.rule ns bs f i (slice_get ns f) refl s
      (allowed_at r.rule (root r.root) r.history k (entry.Marked f i) a (ap (λ (l : List Entry). slice_get l k) (sym same) ∙ (get_there h k d low ∙ ap (λ (x : Entry). Some x) e)))

  pub mark_step : (r : Run T) (bs cs : List Beside) (h : List Entry) (k : ℕ) (d : Entry) (f i : ℕ) → h ≡ r.history → k < length h → get_or h k d ≡ entry.Marked f i
      → AreSeated step depth r.rule (replay_from step depth r.rule (root r.root) (turns (take k r.history))) bs → cs ≡ amend bs f (with_mark i)
      → AreSeated step depth r.rule (replay_from step depth r.rule (root r.root) (turns (take (k + 1) r.history))) cs
  mark_step r bs cs h k d f i hs low e s is =
      let ns = replay_from step depth r.rule (root r.root) (turns (take k r.history)) in
      let at = ap (λ (l : List Entry). slice_get l k) (sym hs) ∙ (get_there h k d low ∙ ap (λ (x : Entry). Some x) e) in
      let more = ap turns (take_go r.history k (k + 1) (entry.Marked f i) refl at) ∙ turns_more (take k r.history) (entry.Marked f i) in
      let same = ap (replay_from step depth r.rule (root r.root)) more ∙ replay_more step depth r.rule (root r.root) (turns (take k r.history)) (mark f i) in
      subst (λ (xs : List (Node T)). AreSeated step depth r.rule xs cs) (sym same)
      (subst (AreSeated step depth r.rule (apply step depth r.rule ns (mark f i))) (sym is) (seated_mark step depth r.rule ns bs f i s))

  one_is_mark : (f : ℕ) (o : Option ℕ) (es : List Entry) → Each IsMark es → Each IsMark (one_mark f o ++ es)
  one_is_mark f None es h = h
  one_is_mark f (Some i) es h = (tt, h)

  pub are_marks : (rule : Rule) (ns : List (Node T)) (ls : List Link) → Each IsMark (stop_marks step depth rule ns ls)
  are_marks rule ns [] = tt
  are_marks rule ns (l ∷ ls) = one_is_mark l.family (known_at step depth rule ns (slice_get ns l.family)) (stop_marks step depth rule ns ls) (are_marks rule ns ls)

  -- a claim
  pub claimed_seats : (r : Run T) (bs : List Beside) (k : ℕ) → AreSeated step depth r.rule (nodes_of step depth r) bs → AreSeated step depth r.rule (nodes_of step depth (longer r (entry.Claimed k))) (amend bs k without_job)
  claimed_seats r bs k s = subst (λ (xs : List (Node T)). AreSeated step depth r.rule xs (amend bs k without_job)) (sym (nodes_more step depth r (entry.Claimed k))) (seated_claim step depth r.rule (nodes_of step depth r) bs k s)

  -- a drop
  pub dropped_seats : (r : Run T) (bs : List Beside) (k : ℕ) (l : License) → AreSeated step depth r.rule (nodes_of step depth r) bs → AreSeated step depth r.rule (nodes_of step depth (longer r (entry.Dropped k l))) bs
  dropped_seats r bs k l s =
      let ns = nodes_of step depth r in
      let g : Node T → Node T = λ x. record x { phase = dropped l } in
      subst (λ (xs : List (Node T)). AreSeated step depth r.rule xs bs) (sym (nodes_more step depth r (entry.Dropped k l)))
      (seated_tame step depth r.rule ns (change ns k g) bs (change_tame step depth r.rule ns k g (λ x. refl) (λ x. refl) (λ x. refl) (λ x e. cc) (λ x e h. absurd h)) (change_length ns k g) s)

  -- a put, before its marks
  put_seats : (rule : Rule) (ns : List (Node T)) (bs : List Beside) (k : ℕ) (o : Option (Node T)) → AreSeated step depth rule ns bs → AreSeated step depth rule (put_node step depth rule ns k o) bs
  put_seats rule ns bs k None s = s
  put_seats rule ns bs k (Some n) s =
      let g : Node T → Node T = λ x. record x { phase = put (full step depth rule n.task) } in
      let ms = change ns k g in
      let close = close_tame step depth rule (k + 1) ms (above n.path) in
      seated_tame step depth rule ns (close_up step depth rule (k + 1) ms (above n.path)) bs
      (tame_then step depth rule ns ms (close_up step depth rule (k + 1) ms (above n.path)) (change_tame step depth rule ns k g (λ x. refl) (λ x. refl) (λ x. refl) (λ x e. cc) (λ x e h. absurd h)) close.0)
      (close.1 ∙ change_length ns k g) s

  pub put_part : (r r' : Run T) (bs : List Beside) (k : ℕ) (marks : List Entry) → r' ≡ (let x : Run T = record r { history = r.history ++ entry.Put k ∷ marks } in x) → AreSeated step depth r.rule (nodes_of step depth r) bs
      → AreSeated step depth r'.rule (replay_from step depth r'.rule (root r'.root) (turns (take (length r.history + 1) r'.history))) bs
  put_part r r' bs k marks is s =
      let ns = nodes_of step depth r in
      let part : AreSeated step depth r.rule (replay_from step depth r.rule (root r.root) (turns (take (length r.history + 1) (r.history ++ entry.Put k ∷ marks)))) bs =
      subst (λ (es : List Entry). AreSeated step depth r.rule (replay_from step depth r.rule (root r.root) (turns es)) bs) (sym (front_go r.history marks (entry.Put k) (length r.history + 1) refl))
      (subst (λ (xs : List (Node T)). AreSeated step depth r.rule xs bs) (sym (nodes_more step depth r (entry.Put k))) (put_seats r.rule ns bs k (slice_get ns k) s)) in
      subst (λ (x : Run T). AreSeated step depth x.rule (replay_from step depth x.rule (root x.root) (turns (take (length r.history + 1) x.history))) bs) (sym is) part

  pub put_marks : (r r' : Run T) (k : ℕ) (marks : List Entry) → r' ≡ (let x : Run T = record r { history = r.history ++ entry.Put k ∷ marks } in x) → Each IsMark marks → Each IsMark (drop (length r.history + 1) r'.history)
  put_marks r r' k marks is h =
      subst (λ (x : Run T). Each IsMark (drop (length r.history + 1) x.history)) (sym is) (subst (Each IsMark) (sym (back_go r.history marks (entry.Put k) (length r.history + 1) refl)) h)

  abbrev bare : Beside
  bare = record { job = Some []; kept = None }

  abbrev lone : T → Node T
  lone t = record { task = t; path = []; first = 0; phase = free; word = NONE }

  first_at : (rule : Rule) (t : T) (k : ℕ) (n : Node T) (b : Beside) → slice_get (root t) k ≡ Some n → slice_get (bare ∷ []) k ≡ Some b → IsSeatedAt step depth rule (root t) (bare ∷ []) n b
  first_at rule t zero n b atn atb =
      subst (λ (y : Beside). IsSeatedAt step depth rule (root t) (bare ∷ []) n y) (some_is bare b atb)
      (subst (λ (y : Node T). IsSeatedAt step depth rule (root t) (bare ∷ []) y bare) (some_is (lone t) n atn)
      (record { kept = λ v e. absurd (cc); has = λ h. absurd h; above = tt; job = λ f. ([], refl, tt) }))
  first_at rule t (suc k) n b atn atb = absurd (cc)

  -- the root's seats
  pub first_seats : (rule : Rule) (t : T) → AreSeated step depth rule (root t) (record { job = Some []; kept = None } ∷ [])
  first_seats rule t = record { long = refl; each = first_at rule t }

  pub first_table : (r : Run T) (t : T) (rule : Rule) (cs : List Beside) → r ≡ (let x : Run T = record { root = t; rule = rule; history = [] } in x) → cs ≡ record { job = Some []; kept = None } ∷ [] → AreSeated step depth r.rule (nodes_of step depth r) cs
  unfolding replay_from
  first_table r t rule cs is has =
      subst (λ (x : Run T). AreSeated step depth x.rule (nodes_of step depth x) cs) (sym is) (subst (AreSeated step depth rule (root t)) (sym has) (first_seats rule t))

  -- the families above a node have seats
  pub above_at : (rule : Rule) (ns : List (Node T)) (bs : List Beside) (k : ℕ) (n : Node T) (p : List Link) → AreSeated step depth rule ns bs → slice_get ns k ≡ Some n → n.path ≡ p → Each (HasSeat bs) p
  above_at rule ns bs k n p a at is =
      let low = is_below ns k n at in
      let same = a.long in
      let b = is_there bs k (omega arith) in
      subst (Each (HasSeat bs)) is (a.each k n b.0 at b.1).above

  -- seats stay where nodes are added behind
  pub seated_more : (rule : Rule) (ns ms : List (Node T)) (bs cs : List Beside) → length cs ≡ length ms → AreSeated step depth rule ns bs
      → ((i : ℕ) (n : Node T) (b : Beside) → slice_get ms i ≡ Some n → slice_get cs i ≡ Some b → IsSeatedAt step depth rule (ns ++ ms) (bs ++ cs) n b)
      → AreSeated step depth rule (ns ++ ms) (bs ++ cs)
  seated_more rule ns ms bs cs long a new =
      let same = a.long in record {
        long = omega (arith, length-append bs cs, length-append ns ms);
        each = λ k n b atn atb.
            elim (cases_lt k (length ns)) [
              | inl h ↦
                  let was = a.each k n b (sym (at_left ns ms k h) ∙ atn) (sym (at_left bs cs k (omega arith)) ∙ atb) in
                  record {
                    kept = was.kept;
                    has = was.has;
                    above = each_stays bs (bs ++ cs) n.path (λ j v e. (let c = kept_there (slice_get bs j) v e in (v, ap kept_in (at_left bs cs j (is_below bs j c.0 c.1)) ∙ e))) was.above;
                    job = λ f. (let s = was.job f in (s.0, s.1, seats_stay step depth rule ns (ns ++ ms) n.path s.0 (longer_keeps ns ms) s.2));
                  }
              | inr h ↦ new (k - length ns) n b (sym (at_right ns ms (k - length ns) k (omega arith)) ∙ atn) (sym (at_right bs cs (k - length ns) k (omega arith)) ∙ atb)
            ];
      }

  -- the node that is expanded keeps its children's seat
  expanded_own : (rule : Rule) (ns : List (Node T)) (bs : List Beside) (k : ℕ) (n : Node T) (g : Node T → Node T) (own : Kept) → slice_get ns k ≡ Some n
      → ((x : Node T) → (g x).task ≡ x.task) → ((x : Node T) → (g x).path ≡ x.path) → ((x : Node T) → (g x).word ≡ NONE) → ((x : Node T) → (g x).phase ≡ expanded)
      → own.view ≡ made (true_family step depth rule n.task) → AreSeated step depth rule ns bs → AreSeated step depth rule (change ns k g) (amend bs k (with_kept own))
  expanded_own rule ns bs k n g own at gt gp gw gf is a =
      let f : Beside → Beside = with_kept own in
      seated_by step depth rule ns (change ns k g) bs (amend bs k f) (change_keeps ns k g gt gp) (change_length ns k g) (amend_length bs k f)
      (λ j v e.
      let b = kept_there (slice_get bs j) v e in
      elim (same_or_not j k) [
        | inl s ↦ (own, ap kept_in (ap (slice_get (amend bs k f)) s ∙ amend_same bs k b.0 f (ap (slice_get bs) (sym s) ∙ b.1)))
        | inr d ↦ (v, ap kept_in (amend_other bs k j f d) ∙ e)
      ])
      (λ j m x b c atn atx atb atc task path was.
      elim (same_or_not j k) [
        | inl s ↦
            let ism : n ≡ m = some_is n m (sym at ∙ (ap (slice_get ns) (sym s) ∙ atn)) in
            let isx : g m ≡ x = some_is (g m) x (sym (get_same ns k m g (ap (slice_get ns) (sym s) ∙ atn)) ∙ (ap (slice_get (change ns k g)) (sym s) ∙ atx)) in
            let isc : f b ≡ c = some_is (f b) c (sym (amend_same bs k b f (ap (slice_get bs) (sym s) ∙ atb)) ∙ (ap (slice_get (amend bs k f)) (sym s) ∙ atc)) in
            let kept : c.kept ≡ Some own = ap (λ (y : Beside). y.kept) (sym isc) in
            let phase : x.phase ≡ expanded = ap (λ (y : Node T). y.phase) (sym isx) ∙ gf m in
            let word : x.word ≡ NONE = ap (λ (y : Node T). y.word) (sym isx) ∙ gw m in
            record {
              kept = λ v e.
                  let same = some_is own v (sym kept ∙ e) in
                  (ap (λ (y : Kept). y.view.family) (sym same) ∙ (ap (λ (y : View). y.family) is ∙ ap (true_family step depth rule) (ap (λ (y : Node T). y.task) ism ∙ sym task)), ap (λ (y : Kept). y.view.low) (sym same) ∙ (ap (λ (y : View). y.low) is ∙ sym word));
              has = λ h. (own, kept);
              job = λ h. (let z = sym phase ∙ h in absurd (cc));
            }
        | inr d ↦
            let isx : m ≡ x = some_is m x (sym atn ∙ (sym (get_other ns k j g d) ∙ atx)) in
            let isc : b ≡ c = some_is b c (sym atb ∙ (sym (amend_other bs k j f d) ∙ atc)) in
            subst (λ (y : Beside). Alone step depth rule ns x y) isc (subst (λ (y : Node T). Alone step depth rule ns y b) isx (record { kept = was.kept; has = was.has; job = was.job }))
      ])
      a

  -- an expansion
  pub expanded_seats : (r : Run T) (bs : List Beside) (k : ℕ) (n : Node T) (own : Kept) (rows : List Beside) → slice_get (nodes_of step depth r) k ≡ Some n → own.view ≡ made (true_family step depth r.rule n.task)
      → AreRows bs n.path k own rows → length rows ≡ length (children step depth r.rule n.task) → AreSeated step depth r.rule (nodes_of step depth r) bs
      → AreSeated step depth r.rule (nodes_of step depth (longer r (entry.Expanded k))) (amend bs k (with_kept own) ++ rows)
  expanded_seats r bs k n own rows at is are long s =
      let ns = nodes_of step depth r in
      let rule = r.rule in
      let g : Node T → Node T = λ m. record m { first = length ns; phase = expanded; word = NONE } in
      let f : Beside → Beside = with_kept own in
      let ms = change ns k g in
      let cs = amend bs k f in
      let new = new_nodes k n.path 0 (children step depth rule n.task) in
      let own_seats = expanded_own rule ns bs k n g own at (λ x. refl) (λ x. refl) (λ x. refl) (λ x. refl) is s in
      let same_length = s.long in
      let b = is_there bs k (let low = is_below ns k n at in omega arith) in
      let kept : kept_at cs k ≡ Some own = ap kept_in (amend_same bs k b.0 f b.1) in
      let in_new : (j : ℕ) (v : Kept) → kept_at cs j ≡ Some v → kept_at (cs ++ rows) j ≡ Some v = λ j v e. (let c = kept_there (slice_get cs j) v e in ap kept_in (at_left cs rows j (is_below cs j c.0 c.1)) ∙ e) in
      let stays : (j : ℕ) (v : Kept) → kept_at bs j ≡ Some v → (w : Kept) × (kept_at (cs ++ rows) j ≡ Some w) =
      λ j v e.
      let c = kept_there (slice_get bs j) v e in
      elim (same_or_not j k) [
        | inl y ↦ (own, in_new j own (ap (kept_at cs) y ∙ kept))
        | inr d ↦ (v, in_new j v (ap kept_in (amend_other bs k j f d) ∙ e))
      ] in
      let keeps = keeps_then ns ms (ms ++ new) (change_keeps ns k g (λ x. refl) (λ x. refl)) (longer_keeps ms new) in
      let atk : slice_get (ms ++ new) k ≡ Some (g n) = at_left ms new k (is_below ms k (g n) (get_same ns k n g at)) ∙ get_same ns k n g at in
      let all = seated_more rule ms new cs rows (long ∙ sym (new_length k n.path 0 (children step depth rule n.task))) own_seats
      (λ i x c atx atc.
      let fresh = new_at k n.path 0 (children step depth rule n.task) i x atx in
      let row = are i c atc in
      let path : x.path ≡ record { family = k; place = i } ∷ n.path = fresh.0 ∙ same_link k n.path (let z : 0 + i ≡ i = omega arith in z) in
      record {
        kept = λ v e. (let z = sym row.0 ∙ e in absurd (cc));
        has = λ h. absurd (subst HasFamily fresh.1 h);
        above = subst (λ p. Each (HasSeat (cs ++ rows)) p) (sym path) ((own, in_new k own kept), each_stays bs (cs ++ rows) n.path stays (s.each k n b.0 at b.1).above);
        job = λ h. (
          row.1.0 ∷ row.1.1,
          row.1.2,
          subst (λ p. SeatsFor step depth rule (ms ++ new) p (row.1.0 ∷ row.1.1)) (sym path) (
            record { family = row.1.3.family; place = row.1.3.place; node = g n; at = atk; true = ap (λ (v : View). v.family) (row.1.3.view) ∙ ap (λ (v : View). v.family) is; unlooked = ap (λ (v : View). v.looks) row.1.3.view },
            seats_stay step depth rule ns (ms ++ new) n.path row.1.1 keeps (cut_seats step depth rule ns bs n.path row.1.1 s row.1.4),
          ),
        );
      }) in
      subst (λ (xs : List (Node T)). AreSeated step depth rule xs (cs ++ rows)) (sym (nodes_more step depth r (entry.Expanded k) ∙ ap (λ o. expand_node step depth rule ns k o) at)) all
