-- What an attempt has made so far: its walks in order, and the notes of what was dropped in them.
use Rattle.std.proofs.Common.{◌≡◌, ℕ, ◌≤◌, Bool, List, [], ◌∷◌, ◌++◌, map, ap, subst, sym, ◌∙◌, append-nil}
use Rattle.std.proofs.lemmas.List.{map-append}
use Rattle.ap_list.specs.Lists.{Each}
use Rattle.ap_names.specs.Names.{Name}
use Rattle.ap_walk.specs.declared.act.Stepped.{Stepped}
use Rattle.ap_walk.specs.declared.mark.Walked.{Walked}
use Rattle.ap_walk.specs.Visits.{Tells}
use Rattle.ap_walk.specs.Tallies.{zero_tally}
use Rattle.ap_walk.specs.Walks.{walk}
use Rattle.ap_table.specs.declared.link.DropNote.{DropNote}
use Rattle.ap_attempt.specs.declared.turn.Turn.{Turn}
use Rattle.ap_attempt.specs.declared.turn.Next.{Next}
use Rattle.ap_attempt.specs.declared.verdict.Verdict.{Verdict}
use Rattle.ap_attempt.specs.Attempts.{RootedWalk, Course, walks_of, next_turn, follow, turn_walk, turns_from}
use Rattle.ap_attempt.specs.Drops.{IsLicensed, Divided}
use Rattle.ap_attempt.proofs.Following.{EndsWith, turned}
use Rattle.ap_attempt.proofs.Dividing.{divided_one, divided_more}

module _ {T : Type 0} (step : T → Stepped T) (depth : T → ℕ) (name : T → Name) where
  -- these walks are the first of the whole course, which goes on with the rest, and these notes divide among them
  pub record SoFar (ws : List (Walked T)) (ds : List DropNote) (rest whole : Course T) : Type 0 where
    pub made : List (RootedWalk T)
    pub walks : ws ≡ map (λ w. w.walked) made
    pub ends : EndsWith made rest whole
    pub drops : Divided step depth name ds made

  -- nothing is made before the course begins
  pub nothing_made : (ws : List (Walked T)) (ds : List DropNote) (rest whole : Course T) → ws ≡ [] → ds ≡ [] → rest ≡ whole → SoFar ws ds rest whole
  nothing_made ws ds rest whole no_walk no_drop same =
      record { made = []; walks = no_walk; ends = record { verdict = ap (λ (c : Course T). c.verdict) same; walks = ap (λ (c : Course T). c.walks) same }; drops = no_drop }

  module _ (tells : (task : T) → Tells (step task).act.process (step task).out) (inducted : T → ℕ → T) (original : T) (refuses : Bool) where
    -- one walk more, with its notes
    one_more : (walks more : List (Walked T)) (drops mine notes : List DropNote) (turn : Turn T) (w : Walked T) (next : Next T) (whole : Course T)
        → SoFar walks drops (turns_from step depth inducted original refuses turn) whole
        → w ≡ walk step depth turn.rule turn.task zero_tally → next ≡ next_turn inducted original refuses turn.rule w turn.rest
        → Each (IsLicensed step depth name (turn_walk turn w)) mine → more ≡ walks ++ w ∷ [] → notes ≡ drops ++ mine
        → SoFar more notes (follow next (turns_from step depth inducted original refuses)) whole
    one_more walks more drops mine notes turn w next whole so_far is follows licensed added noted =
        record {
          made = so_far.made ++ turn_walk turn w ∷ [];
          walks = added ∙ ap (λ ws. ws ++ w ∷ []) so_far.walks ∙ sym (map-append (λ v. v.walked) so_far.made (turn_walk turn w ∷ []));
          ends = turned step depth tells inducted original refuses so_far.made turn w next whole so_far.ends is follows;
          drops =
              subst (λ ds. Divided step depth name ds (so_far.made ++ turn_walk turn w ∷ [])) (sym noted)
              (divided_more step depth name drops mine so_far.made (turn_walk turn w ∷ []) so_far.drops (divided_one step depth name (turn_walk turn w) mine licensed));
        }

    pub turn_made : (walks more : List (Walked T)) (drops mine notes : List DropNote) (turn : Turn T) (w : Walked T) (next : Next T) (after : Turn T) (whole : Course T)
        → SoFar walks drops (turns_from step depth inducted original refuses turn) whole
        → w ≡ walk step depth turn.rule turn.task zero_tally → next ≡ next_turn inducted original refuses turn.rule w turn.rest
        → Each (IsLicensed step depth name (turn_walk turn w)) mine → more ≡ walks ++ w ∷ [] → notes ≡ drops ++ mine → next ≡ Next.Walk after
        → SoFar more notes (turns_from step depth inducted original refuses after) whole
    turn_made walks more drops mine notes turn w next after whole so_far is follows licensed added noted walks_on =
        one_more walks more drops mine notes turn w (Next.Walk after) whole so_far is (sym walks_on ∙ follows) licensed added noted

    pub record AllMade (v : Verdict) (ws : List (Walked T)) (ds : List DropNote) (whole : Course T) : Type 0 where
      pub verdict : v ≡ whole.verdict
      pub walks : ws ≡ walks_of whole
      pub drops : Divided step depth name ds whole.walks

    pub all_made : (walks more : List (Walked T)) (drops mine notes : List DropNote) (turn : Turn T) (w : Walked T) (next : Next T) (verdict : Verdict) (whole : Course T)
        → SoFar walks drops (turns_from step depth inducted original refuses turn) whole
        → w ≡ walk step depth turn.rule turn.task zero_tally → next ≡ next_turn inducted original refuses turn.rule w turn.rest
        → Each (IsLicensed step depth name (turn_walk turn w)) mine → more ≡ walks ++ w ∷ [] → notes ≡ drops ++ mine → next ≡ Next.Done verdict
        → AllMade verdict more notes whole
    all_made walks more drops mine notes turn w next verdict whole so_far is follows licensed added noted done =
        let last = one_more walks more drops mine notes turn w (Next.Done verdict) whole so_far is (sym done ∙ follows) licensed added noted in
        let all : last.made ≡ whole.walks = sym (append-nil last.made) ∙ last.ends.walks in
        record {
          verdict = last.ends.verdict;
          walks = last.walks ∙ ap (λ ws. map (λ (v : RootedWalk T). v.walked) ws) all;
          drops = subst (Divided step depth name notes) all last.drops;
        }

-- nothing was dropped, and nothing is
pub none_more : (drops mine notes : List DropNote) (workers : ℕ) → (workers ≤ 1 → drops ≡ []) → (workers ≤ 1 → mine ≡ []) → notes ≡ drops ++ mine → workers ≤ 1 → notes ≡ []
none_more drops mine notes workers none_so_far none_now noted alone = noted ∙ ap (λ ds. ds ++ mine) (none_so_far alone) ∙ none_now alone
