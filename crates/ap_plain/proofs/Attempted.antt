-- What an attempt that didn't fail shows, and attempts one after another.
use Rattle.std.proofs.Common.{◌≡◌, ℕ, ◌+◌, ◌<◌, ◌≤◌, suc, length, drop, get_or, drop-cons, add-one, List, [], ◌∷◌, ◌++◌, IfOk, Result, Ok, Err, refl, sym, ap, ◌∙◌, subst, arith, append_assoc, append-nil}
use Rattle.std.proofs.lemmas.List.{drop_all}
use Rattle.ap_list.specs.Lists.{Each}
use Rattle.ap_table.specs.declared.link.DropNote.{DropNote}
use Rattle.ap_attempt.specs.declared.verdict.Verdict.{Verdict}
use Rattle.ap_attempt.specs.Attempts.{RootedWalk}
use Rattle.ap_attempt.proofs.Dividing.{divided_more}
use Rattle.ap_strategy.specs.declared.plan.Plan.{Plan}
use Rattle.ap_strategy.specs.Goals.{Goal, defs_of, clause_goal}
use Rattle.ap_strategy.specs.Steps.{step_of, depth_of}
use Rattle.ap_walk.specs.declared.act.Reason.{Reason}
use Rattle.ap_walk.specs.declared.rule.Rule.{Rule}
use Rattle.ap_stated.specs.declared.owed.Owed.{Owed}
use Rattle.ap_plain.specs.declared.attempting.Trial.{Trial}
use Rattle.ap_plain.specs.Attempts.{Tried, tried_from, before, where_qed, then_tried, tried, Tries}
use Rattle.ap_plain.specs.Counts.{goals_of}
use Rattle.ap_plain.specs.Drops.{DividedWalks}
use Rattle.ap_plain.proofs.Counting.{goals_both}
use Rattle.ap_stated.proofs.Places.{at_place}

-- what is shown where no attempt failed
pub where_proved : {E : Type 0} (r : Result Trial E) (G V : Type 0) → (G → V) → IfOk r (λ t. t.verdict ≡ Verdict.Qed → G) → IfOk r (λ t. t.verdict ≡ Verdict.Qed → V)
where_proved (Ok t) G V h shown = λ qed. h (shown qed)
where_proved (Err e) G V h shown = tt

-- the first that is left
pub first_left : {A : Type 0} (P : A → Type 0) (xs : List A) (i : ℕ) (x : A) → i < length xs → x ≡ get_or xs i x → Each P (drop i xs) → P x × Each P (drop (i + 1) xs)
first_left P xs i x h is each = subst (Each P) (at_place xs i x h is) each

pub first_done : {A : Type 0} (P : A → Type 0) (xs : List A) (i : ℕ) (x : A) → i < length xs → x ≡ get_or xs i x → P x → Each P (drop (i + 1) xs) → Each P (drop i xs)
first_done P xs i x h is one others = subst (Each P) (sym (at_place xs i x h is)) (one, others)

pub all_hold : {A : Type 0} (P : A → Type 0) (xs : List A) (i : ℕ) → length xs ≤ i → (Each P (drop i xs) → Each P xs) → Each P xs
all_hold P xs i h others = others (subst (Each P) (sym (drop_all i xs h)) tt)

-- lines and walks so far, where what is left tells the rest
pub record SoFar (rule : Rule) (plan : Plan) (os : List Owed) (i : ℕ) (lines : List ℕ) (goals : ℕ) (drops : List DropNote) : Type 0 where
  pub walks : List (RootedWalk Goal)
  pub told : before lines walks (tried rule plan (drop i os)) ≡ tried rule plan os
  pub counted : goals ≡ goals_of walks
  pub divided : DividedWalks drops walks

before_both : (ls ms : List ℕ) (ws vs : List (RootedWalk Goal)) (t : Tried) → before ls ws (before ms vs t) ≡ before (ls ++ ms) (ws ++ vs) t
before_both ls ms ws vs t = λ i. record { lines = sym (append_assoc ls ms t.lines) i; verdict = t.verdict; walks = sym (append_assoc ws vs t.walks) i }

module _ (rule : Rule) (plan : Plan) (os : List Owed) (i : ℕ) (o : Owed) (lines : List ℕ) (goals : ℕ) (drops : List DropNote) (r : Trial)
    (within : i < length os) (is : o ≡ get_or os i o) (s : SoFar rule plan os i lines goals drops) (t : Tries (tried_from rule (clause_goal plan o.clause)) r) where
  abbrev a : Tried
  a = tried_from rule (clause_goal plan o.clause)

  abbrev others : Tried
  others = tried rule plan (drop (i + 1) os)

  -- one attempt more
  with_one : before (lines ++ (o.heading ++ a.lines)) (s.walks ++ a.walks) (where_qed a.verdict others) ≡ tried rule plan os
  with_one =
      sym (before_both lines (o.heading ++ a.lines) s.walks a.walks (where_qed a.verdict others))
      ∙ ap (λ rest. before lines s.walks (tried rule plan rest)) (sym (at_place os i o within is))
      ∙ s.told

  more_lines : lines ++ o.heading ++ r.lines ≡ lines ++ (o.heading ++ a.lines)
  more_lines = append_assoc lines o.heading r.lines ∙ ap (λ ls. lines ++ (o.heading ++ ls)) t.lines

  counted_both : goals + r.goals ≡ goals_of (s.walks ++ a.walks)
  counted_both =
      ap (λ n. n + r.goals) s.counted
      ∙ ap (λ n. goals_of s.walks + n) t.goals
      ∙ sym (goals_both s.walks a.walks)

  divided_both : DividedWalks (drops ++ r.drops) (s.walks ++ a.walks)
  divided_both = divided_more step_of depth_of (λ (g : Goal). g.name) drops r.drops s.walks a.walks s.divided t.drops

  -- one attempt more that is `Qed`
  pub proved_next : r.verdict ≡ Verdict.Qed → SoFar rule plan os (i + 1) (lines ++ o.heading ++ r.lines) (goals + r.goals) (drops ++ r.drops)
  proved_next qed = record {
    walks = s.walks ++ a.walks;
    told =
        ap (λ ls. before ls (s.walks ++ a.walks) others) more_lines
        ∙ ap (λ v. before (lines ++ (o.heading ++ a.lines)) (s.walks ++ a.walks) (where_qed v others)) (sym qed ∙ t.verdict)
        ∙ with_one;
    counted = counted_both;
    divided = divided_both;
  }

  -- one that failed is the last
  pub failed_here : (f : Reason) → r.verdict ≡ Verdict.Failed f → Tries (tried rule plan os) (record { lines = lines ++ o.heading ++ r.lines; verdict = r.verdict; goals = goals + r.goals; drops = drops ++ r.drops })
  failed_here f failed =
      let e : before (lines ++ (o.heading ++ a.lines)) (s.walks ++ a.walks) (where_qed (Verdict.Failed f) others) ≡ tried rule plan os =
      ap (λ v. before (lines ++ (o.heading ++ a.lines)) (s.walks ++ a.walks) (where_qed v others)) (sym failed ∙ t.verdict) ∙ with_one in
      subst (λ (x : Tried). Tries x (record { lines = lines ++ o.heading ++ r.lines; verdict = r.verdict; goals = goals + r.goals; drops = drops ++ r.drops })) e
      (record {
        lines = more_lines ∙ sym (append-nil (lines ++ (o.heading ++ a.lines)));
        verdict = failed;
        goals = counted_both ∙ ap goals_of (sym (append-nil (s.walks ++ a.walks)));
        drops = subst (DividedWalks (drops ++ r.drops)) (sym (append-nil (s.walks ++ a.walks))) divided_both;
      })

-- where none is left
pub all_tried : (rule : Rule) (plan : Plan) (os : List Owed) (i : ℕ) (r : Trial) → length os ≤ i → r.verdict ≡ Verdict.Qed → SoFar rule plan os i r.lines r.goals r.drops → Tries (tried rule plan os) r
all_tried rule plan os i r h qed s =
    let e : before r.lines s.walks (tried rule plan []) ≡ tried rule plan os =
    ap (λ rest. before r.lines s.walks (tried rule plan rest)) (sym (drop_all i os h)) ∙ s.told in
    subst (λ (x : Tried). Tries x r) e
    (record {
      lines = sym (append-nil r.lines);
      verdict = qed;
      goals = s.counted ∙ ap goals_of (sym (append-nil s.walks));
      drops = subst (DividedWalks r.drops) (sym (append-nil s.walks)) s.divided;
    })

none_tried : (rule : Rule) (plan : Plan) (os : List Owed) → SoFar rule plan os 0 [] 0 []
none_tried rule plan os = record { walks = []; told = refl; counted = refl; divided = refl }

-- before the first
pub begun : (rule : Rule) (plan : Plan) (os : List Owed) (r : Trial) → r ≡ record { lines = []; verdict = Verdict.Qed; goals = 0; drops = [] } → SoFar rule plan os 0 r.lines r.goals r.drops
begun rule plan os r is = subst (λ (x : Trial). SoFar rule plan os 0 x.lines x.goals x.drops) (sym is) (none_tried rule plan os)

-- a verdict that isn't a failure
pub is_qed : (v : Verdict) → ((f : Reason) → v ≡ Verdict.Failed f → ⊥) → v ≡ Verdict.Qed
is_qed Verdict.Qed h = refl
is_qed (Verdict.Failed f) h = absurd (h f refl)
