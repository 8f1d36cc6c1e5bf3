-- A table's words after each step, and the seats that look at them.
use Rattle.std.proofs.Common.{◌≡◌, ◌≢◌, ℕ, zero, suc, ◌+◌, ◌-◌, ◌<◌, min, List, [], ◌∷◌, ◌++◌, Option, Some, None, length, refl, sym, ap, subst, ◌∙◌, arith, inl, inr}
use Rattle.std.proofs.lemmas.Bool.{cases_lt}
use Rattle.std.specs.List.{slice_get}
use Rattle.ap_list.specs.Lists.{Each}
use Rattle.ap_walk.specs.declared.act.Stepped.{Stepped}
use Rattle.ap_walk.specs.declared.rule.Rule.{Rule}
use Rattle.ap_walk.specs.declared.mark.Walked.{Walked}
use Rattle.ap_walk.specs.Walks.{full}
use Rattle.ap_word.specs.Seats.{TableId, seat_table}
use Rattle.ap_word.specs.Stops.{NONE}
use Rattle.ap_table.specs.Core.{Phase, Node, free, claimed, expanded, put, closed, dropped, Turn, mark, change, set_phase, above, parent_of, on_closed, root, children, joined_walk, kept_of, close_with, close_phase, close_node, close_up, put_node, new_nodes, expand_node, apply, replay_from}
use Rattle.ap_table.specs.Sound.{HasFamily}
use Rattle.ap_table.specs.Shown.{Run, turn_of, turns, nodes_of}
use Rattle.ap_table.specs.Kept.{Kept}
use Rattle.ap_table.specs.Seated.{kept_in, kept_at, amend, without_job, marked_kept, with_kept, with_mark, AreCut, AreRows, IsMark}
use Rattle.ap_table.specs.Worded.{Worded, word_in, words_of, IsOf, WordsStay, AreWorded}
use Rattle.ap_table.specs.declared.link.Link.{Link}
use Rattle.ap_table.specs.declared.stored.Entry.{Entry}
use Rattle.ap_table.specs.declared.stored.Entry.TheVariants as entry
use Rattle.ap_table.specs.declared.seats.AncestorSeat.{AncestorSeat}
use Rattle.ap_table.specs.declared.seats.Beside.{Beside}
use Rattle.ap_table.proofs.Keeping.{same_or_not, some_is, get_same, get_other, change_length}
use Rattle.ap_table.proofs.Sitting.{amend_same, amend_other, amend_length, is_there, is_below, at_left, at_right, kept_there}

words_there : (bs : List Beside) (k : ℕ) (b : Beside) → slice_get bs k ≡ Some b → slice_get (words_of bs) k ≡ Some (word_in b.kept)
words_there [] k b e = absurd (cc)
words_there (x ∷ xs) zero b e = ap (λ (y : Beside). Some (word_in y.kept)) (some_is x b e)
words_there (x ∷ xs) (suc k) b e = words_there xs k b e

words_back : (bs : List Beside) (k : ℕ) (o : Option TableId) → slice_get (words_of bs) k ≡ Some o → (b : Beside) × (slice_get bs k ≡ Some b) × (word_in b.kept ≡ o)
words_back [] k o e = absurd (cc)
words_back (x ∷ xs) zero o e = (x, refl, some_is (word_in x.kept) o e)
words_back (x ∷ xs) (suc k) o e = words_back xs k o e

no_word : (o : Option Kept) → word_in o ≡ None → o ≡ None
no_word None e = refl
no_word (Some k) e = absurd (cc)

pub words_amend : (bs : List Beside) (k : ℕ) (f : Beside → Beside) → ((b : Beside) → word_in (f b).kept ≡ word_in b.kept) → words_of (amend bs k f) ≡ words_of bs
unfolding amend
words_amend [] k f h = refl
words_amend (x ∷ xs) zero f h = ap (λ w. w ∷ words_of xs) (h x)
words_amend (x ∷ xs) (suc k) f h = ap (λ ws. word_in x.kept ∷ ws) (words_amend xs k f h)

pub marked_word : (i : ℕ) (o : Option Kept) → word_in (marked_kept i o) ≡ word_in o
marked_word i None = refl
marked_word i (Some k) = refl

-- a job that is there after a step which takes at most jobs away was there before
amend_job : (bs : List Beside) (k : ℕ) (f : Beside → Beside) → ((b : Beside) (ss : List AncestorSeat) → (f b).job ≡ Some ss → b.job ≡ Some ss)
    → (j : ℕ) (c : Beside) (ss : List AncestorSeat) → slice_get (amend bs k f) j ≡ Some c → c.job ≡ Some ss → (b : Beside) × (slice_get bs j ≡ Some b) × (b.job ≡ Some ss)
unfolding amend
amend_job [] k f h j c ss at e = absurd (cc)
amend_job (x ∷ xs) zero f h zero c ss at e = (x, refl, h x ss (ap (λ (y : Beside). y.job) (some_is (f x) c at) ∙ e))
amend_job (x ∷ xs) zero f h (suc j) c ss at e = (c, at, e)
amend_job (x ∷ xs) (suc k) f h zero c ss at e = (c, at, e)
amend_job (x ∷ xs) (suc k) f h (suc j) c ss at e = amend_job xs k f h j c ss at e

-- seats of words that stay
pub of_stays : (ws vs : List (Option TableId)) → WordsStay ws vs → (ss : List AncestorSeat) → Each (IsOf ws) ss → Each (IsOf vs) ss
of_stays ws vs stay [] e = tt
of_stays ws vs stay (s ∷ ss) e = (stay s.family (seat_table s.seat) e.0, of_stays ws vs stay ss e.1)

-- seats that are cut are of the words that are kept
cut_of : (bs : List Beside) (ls : List Link) (ss : List AncestorSeat) → AreCut bs ls ss → Each (IsOf (words_of bs)) ss
cut_of bs [] [] h = tt
cut_of bs [] (s ∷ ss) h = absurd h
cut_of bs (l ∷ ls) [] h = absurd h
cut_of bs (l ∷ ls) (s ∷ ss) h =
    let cut = h.0.2 in
    let b = kept_there (slice_get bs l.family) h.0.0 h.0.1 in (
      ap (slice_get (words_of bs)) cut.family ∙ (words_there bs l.family b.0 b.1 ∙ (ap (λ (o : Option Kept). Some (word_in o)) b.2 ∙ ap (λ (t : TableId). Some (Some t)) (sym cut.word))),
      cut_of bs ls ss h.1,
    )

-- the word of a family that had none
own_word : (bs rows : List Beside) (k : ℕ) (own : Kept) (b : Beside) → slice_get bs k ≡ Some b → slice_get (words_of (amend bs k (with_kept own) ++ rows)) k ≡ Some (Some own.table)
own_word bs rows k own b at =
    let cs = amend bs k (with_kept own) in
    let here = amend_same bs k b (with_kept own) at in
    words_there (cs ++ rows) k (with_kept own b) (at_left cs rows k (is_below cs k (with_kept own b) here) ∙ here)

pub grown_stay : (bs rows : List Beside) (k : ℕ) (own : Kept) (b : Beside) → slice_get bs k ≡ Some b → b.kept ≡ None → WordsStay (words_of bs) (words_of (amend bs k (with_kept own) ++ rows))
grown_stay bs rows k own b at none j t e =
    let cs = amend bs k (with_kept own) in
    let x = words_back bs j (Some t) e in
    elim (same_or_not j k) [
      | inl s ↦
          let same : x.0 ≡ b = some_is x.0 b (sym x.1 ∙ (ap (slice_get bs) s ∙ at)) in
          let no : None ≡ Some t = sym (ap word_in (ap (λ (y : Beside). y.kept) same ∙ none)) ∙ x.2 in
          absurd (cc)
      | inr d ↦
          let here = amend_other bs k j (with_kept own) d ∙ x.1 in
          words_there (cs ++ rows) j x.0 (at_left cs rows j (is_below cs j x.0 here) ∙ here) ∙ ap (λ (o : Option TableId). Some o) x.2
    ]

no_job : (b : Beside) (ss : List AncestorSeat) → (without_job b).job ≡ Some ss → b.job ≡ Some ss
no_job b ss e = absurd (cc)

bare_of : (k : ℕ) (b : Beside) (ss : List AncestorSeat) → slice_get ((let x : Beside = record { job = Some []; kept = None } in x) ∷ []) k ≡ Some b → b.job ≡ Some ss → Each (IsOf (None ∷ [])) ss
bare_of zero b ss at e =
    let is : Some [] ≡ Some ss = ap (λ (y : Beside). y.job) (some_is _ b at) ∙ e in
    subst (λ (xs : List AncestorSeat). Each (IsOf (None ∷ [])) xs) (some_is [] ss is) tt
bare_of (suc k) b ss at e = absurd (cc)

bare_none : (k : ℕ) (b : Beside) → slice_get ((let x : Beside = record { job = Some []; kept = None } in x) ∷ []) k ≡ Some b → b.kept ≡ None
bare_none zero b at = sym (ap (λ (y : Beside). y.kept) (some_is _ b at))
bare_none (suc k) b at = absurd (cc)

module _ {T : Type 0} where
  -- each node that has a family keeps one
  abbrev pub Rises : List (Node T) → List (Node T) → Type 0
  Rises ns ms = (j : ℕ) (x : Node T) → slice_get ms j ≡ Some x → (n : Node T) × (slice_get ns j ≡ Some n) × (HasFamily n.phase → HasFamily x.phase)

  pub rises_all : (ns : List (Node T)) → Rises ns ns
  rises_all ns j x e = (x, e, (λ y. y))

  pub rises_then : (ns ms xs : List (Node T)) → Rises ns ms → Rises ms xs → Rises ns xs
  rises_then ns ms xs a b j x e =
      let m = b j x e in
      let n = a j m.0 m.1 in
      (n.0, n.1, λ y. m.2 (n.2 y))

  change_rises : (ns : List (Node T)) (k : ℕ) (f : Node T → Node T) → ((n : Node T) → slice_get ns k ≡ Some n → HasFamily n.phase → HasFamily (f n).phase) → Rises ns (change ns k f)
  change_rises ns k f h j x at =
      let low = is_below (change ns k f) j x at in
      let same = change_length ns k f in
      let n = is_there ns j (omega arith) in
      elim (same_or_not j k) [
        | inl s ↦
            let here : slice_get ns k ≡ Some n.0 = ap (slice_get ns) (sym s) ∙ n.1 in
            let is : f n.0 ≡ x = some_is (f n.0) x (sym (get_same ns k n.0 f here) ∙ (ap (slice_get (change ns k f)) (sym s) ∙ at)) in
            (n.0, n.1, λ y. subst (λ (z : Node T). HasFamily z.phase) is (h n.0 here y))
        | inr d ↦
            let is : n.0 ≡ x = some_is n.0 x (sym n.1 ∙ (sym (get_other ns k j f d) ∙ at)) in
            (n.0, n.1, λ y. subst (λ (z : Node T). HasFamily z.phase) is y)
      ]

  -- a change of a node that has no family
  bare_rises : (ns : List (Node T)) (k : ℕ) (f : Node T → Node T) (m : Node T) → slice_get ns k ≡ Some m → (HasFamily m.phase → ⊥) → Rises ns (change ns k f)
  bare_rises ns k f m at lacks = change_rises ns k f (λ n e y. absurd (lacks (subst (λ (z : Node T). HasFamily z.phase) (some_is n m (sym e ∙ at)) y)))

  -- the words stay, and at most jobs go
  worded_by : (ns ms : List (Node T)) (bs cs : List Beside) → Rises ns ms → words_of cs ≡ words_of bs
      → ((j : ℕ) (c : Beside) (ss : List AncestorSeat) → slice_get cs j ≡ Some c → c.job ≡ Some ss → (b : Beside) × (slice_get bs j ≡ Some b) × (b.job ≡ Some ss))
      → AreWorded ns bs → AreWorded ms cs
  worded_by ns ms bs cs rises same jobs a = record {
    of = λ j c ss at e. (let b = jobs j c ss at e in subst (λ (ws : List (Option TableId)). Each (IsOf ws) ss) (sym same) (a.of j b.0 ss b.1 b.2));
    none = λ j x c atx atc no.
        let n = rises j x atx in
        let b = words_back bs j (word_in c.kept) (ap (λ (ws : List (Option TableId)). slice_get ws j) (sym same) ∙ words_there cs j c atc) in
        no_word c.kept (sym b.2 ∙ ap word_in (a.none j n.0 b.0 n.1 b.1 (λ y. no (n.2 y))));
  }

  pub worded_rises : (ns ms : List (Node T)) (bs : List Beside) → Rises ns ms → AreWorded ns bs → AreWorded ms bs
  worded_rises ns ms bs rises a = worded_by ns ms bs bs rises refl (λ j c ss at e. (c, at, e)) a

  pub worded_claim : (ns : List (Node T)) (bs : List Beside) (k : ℕ) (m : Node T) → slice_get ns k ≡ Some m → m.phase ≡ free → AreWorded ns bs → AreWorded (set_phase ns k claimed) (amend bs k without_job)
  worded_claim ns bs k m at is a =
      worded_by ns (set_phase ns k claimed) bs (amend bs k without_job) (bare_rises ns k (λ x. record x { phase = claimed }) m at (λ y. subst HasFamily is y)) (words_amend bs k without_job (λ b. refl)) (amend_job bs k without_job no_job) a

  pub worded_mark : (ns : List (Node T)) (bs : List Beside) (k i : ℕ) → AreWorded ns bs → AreWorded ns (amend bs k (with_mark i))
  worded_mark ns bs k i a = worded_by ns ns bs (amend bs k (with_mark i)) (rises_all ns) (words_amend bs k (with_mark i) (λ b. marked_word i b.kept)) (amend_job bs k (with_mark i) (λ b ss e. e)) a

  pub drop_rises : (ns : List (Node T)) (k : ℕ) (p : Phase T) (m : Node T) → slice_get ns k ≡ Some m → m.phase ≡ claimed → Rises ns (set_phase ns k p)
  drop_rises ns k p m at is = bare_rises ns k (λ x. record x { phase = p }) m at (λ y. subst HasFamily is y)

  -- an expansion
  pub worded_grow : (ns new : List (Node T)) (bs rows : List Beside) (k : ℕ) (n : Node T) (g : Node T → Node T) (path : List Link) (own : Kept) → length bs ≡ length ns → slice_get ns k ≡ Some n → n.phase ≡ claimed → ((x : Node T) → (g x).phase ≡ expanded)
      → AreRows bs path k own rows → AreWorded ns bs → AreWorded (change ns k g ++ new) (amend bs k (with_kept own) ++ rows)
  worded_grow ns new bs rows k n g path own long at is gf are a =
      let f : Beside → Beside = with_kept own in
      let ms = change ns k g in
      let cs = amend bs k f in
      let b = is_there bs k (let low = is_below ns k n at in omega arith) in
      let none = a.none k n b.0 at b.1 (λ y. subst HasFamily is y) in
      let stay = grown_stay bs rows k own b.0 b.1 none in
      let mine = own_word bs rows k own b.0 b.1 in
      let many = amend_length bs k f in
      let fits = change_length ns k g in
      record {
        of = λ j c ss atc e.
            elim (cases_lt j (length cs)) [
              | inl h ↦
                  let was = amend_job bs k f (λ x xs y. y) j c ss (sym (at_left cs rows j h) ∙ atc) e in
                  of_stays (words_of bs) (words_of (cs ++ rows)) stay ss (a.of j was.0 ss was.1 was.2)
              | inr h ↦
                  let row = are (j - length cs) c (sym (at_right cs rows (j - length cs) j (omega arith)) ∙ atc) in
                  let cut = row.1.3 in
                  let all : Each (IsOf (words_of (cs ++ rows))) (row.1.0 ∷ row.1.1) = (
                    ap (slice_get (words_of (cs ++ rows))) cut.family ∙ (mine ∙ ap (λ (t : TableId). Some (Some t)) (sym cut.word)),
                    of_stays (words_of bs) (words_of (cs ++ rows)) stay row.1.1 (cut_of bs path row.1.1 row.1.4),
                  ) in
                  subst (λ (xs : List AncestorSeat). Each (IsOf (words_of (cs ++ rows))) xs) (some_is (row.1.0 ∷ row.1.1) ss (sym row.1.2 ∙ e)) all
            ];
        none = λ j x c atx atc no.
            elim (cases_lt j (length cs)) [
              | inl h ↦
                  let here : slice_get ms j ≡ Some x = sym (at_left ms new j (omega arith)) ∙ atx in
                  let beside : slice_get cs j ≡ Some c = sym (at_left cs rows j h) ∙ atc in
                  elim (same_or_not j k) [
                    | inl s ↦
                        let isx : g n ≡ x = some_is (g n) x (sym (get_same ns k n g at) ∙ (ap (slice_get ms) (sym s) ∙ here)) in
                        absurd (no (subst (λ (z : Node T). HasFamily z.phase) isx (subst HasFamily (sym (gf n)) tt)))
                    | inr d ↦ a.none j x c (sym (get_other ns k j g d) ∙ here) (sym (amend_other bs k j f d) ∙ beside) no
                  ]
              | inr h ↦ (are (j - length cs) c (sym (at_right cs rows (j - length cs) j (omega arith)) ∙ atc)).0
            ];
      }

  pub worded_first : (ns : List (Node T)) → AreWorded ns (record { job = Some []; kept = None } ∷ [])
  worded_first ns = record { of = bare_of; none = λ k n b atn atb no. bare_none k b atb }

module _ {T : Type 0} (step : T → Stepped T) (depth : T → ℕ) (rule : Rule) where
  rises_with : (f : ℕ) (ns : List (Node T)) (p : ℕ) (n : Node T) (r : Option (List (Walked T))) → ((ms : List (Node T)) (q : Option ℕ) → Rises ms (close_up step depth rule f ms q)) → Rises ns (on_closed (close_up step depth rule f) ns p (close_with step depth rule ns p n r))
  rises_with f ns p n None go = rises_all ns
  rises_with f ns p n (Some ws) go =
      let g : Node T → Node T = λ x. record x { phase = closed (joined_walk step depth rule n.task ws) } in
      let ms = change ns p g in
      rises_then ns ms (close_up step depth rule f ms (parent_of (slice_get ms p))) (change_rises ns p g (λ x e y. tt)) (go ms (parent_of (slice_get ms p)))

  rises_phase : (f : ℕ) (ns : List (Node T)) (p : ℕ) (n : Node T) (ph : Phase T) → ((ms : List (Node T)) (q : Option ℕ) → Rises ms (close_up step depth rule f ms q)) → Rises ns (on_closed (close_up step depth rule f) ns p (close_phase step depth rule ns p n ph))
  rises_phase f ns p n free go = rises_all ns
  rises_phase f ns p n claimed go = rises_all ns
  rises_phase f ns p n (put w) go = rises_all ns
  rises_phase f ns p n (closed w) go = rises_all ns
  rises_phase f ns p n (dropped l) go = rises_all ns
  rises_phase f ns p n expanded go = rises_with f ns p n (kept_of step depth rule ns n) go

  rises_node : (f : ℕ) (ns : List (Node T)) (p : ℕ) (o : Option (Node T)) → ((ms : List (Node T)) (q : Option ℕ) → Rises ms (close_up step depth rule f ms q)) → Rises ns (on_closed (close_up step depth rule f) ns p (close_node step depth rule ns p o))
  rises_node f ns p None go = rises_all ns
  rises_node f ns p (Some n) go = rises_phase f ns p n n.phase go

  close_rises : (f : ℕ) (ns : List (Node T)) (q : Option ℕ) → Rises ns (close_up step depth rule f ns q)
  unfolding close_up
  close_rises zero ns q = rises_all ns
  close_rises (suc f) ns None = rises_all ns
  close_rises (suc f) ns (Some p) = rises_node f ns p (slice_get ns p) (close_rises f)

  pub put_rises : (ns : List (Node T)) (k : ℕ) (n : Node T) → slice_get ns k ≡ Some n → n.phase ≡ claimed → Rises ns (put_node step depth rule ns k (slice_get ns k))
  put_rises ns k n at is =
      let ms = set_phase ns k (put (full step depth rule n.task)) in
      subst (λ (o : Option (Node T)). Rises ns (put_node step depth rule ns k o)) (sym at)
      (rises_then ns ms (close_up step depth rule (k + 1) ms (above n.path)) (drop_rises ns k (put (full step depth rule n.task)) n at is) (close_rises (k + 1) ms (above n.path)))

  one_rises : (ns : List (Node T)) (e : Entry) → IsMark e → Rises ns (apply step depth rule ns (turn_of e))
  one_rises ns (entry.Marked f i) m = change_rises ns f (λ x. record x { word = min x.word i }) (λ n e y. y)
  one_rises ns (entry.Claimed k) m = absurd m
  one_rises ns (entry.Expanded k) m = absurd m
  one_rises ns (entry.Put k) m = absurd m
  one_rises ns (entry.Dropped k l) m = absurd m

  pub marks_rise : (ns : List (Node T)) (es : List Entry) → Each IsMark es → Rises ns (replay_from step depth rule ns (turns es))
  unfolding replay_from
  marks_rise ns [] all = rises_all ns
  marks_rise ns (e ∷ es) all =
      let ms = apply step depth rule ns (turn_of e) in
      rises_then ns ms (replay_from step depth rule ms (turns es)) (one_rises ns e all.0) (marks_rise ms es all.1)

  -- what stands behind a beginning of the history is done after it
  replay_behind : (ns : List (Node T)) (xs ys : List Entry) → replay_from step depth rule ns (turns (xs ++ ys)) ≡ replay_from step depth rule (replay_from step depth rule ns (turns xs)) (turns ys)
  unfolding replay_from
  replay_behind ns [] ys = refl
  replay_behind ns (x ∷ xs) ys = replay_behind (apply step depth rule ns (turn_of x)) xs ys

  pub put_all_rises : (t : T) (xs marks : List Entry) (k : ℕ) (n : Node T) → slice_get (replay_from step depth rule (root t) (turns xs)) k ≡ Some n → n.phase ≡ claimed → Each IsMark marks
      → Rises (replay_from step depth rule (root t) (turns xs)) (replay_from step depth rule (root t) (turns (xs ++ entry.Put k ∷ marks)))
  unfolding replay_from
  put_all_rises t xs marks k n at is all =
      let ns = replay_from step depth rule (root t) (turns xs) in
      let ms = put_node step depth rule ns k (slice_get ns k) in
      subst (Rises ns) (sym (replay_behind (root t) xs (entry.Put k ∷ marks))) (rises_then ns ms (replay_from step depth rule ms (turns marks)) (put_rises ns k n at is) (marks_rise ms marks all))
