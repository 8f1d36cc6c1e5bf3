-- Jobs that are held of a table.
use Rattle.std.proofs.Common.{◌≡◌, ℕ, List, [], ◌∷◌, ◌++◌, Option, Some, Result, Ok, Err, OnOk, IfSome, sym, ap, subst, ◌∙◌}
use Rattle.std.specs.List.{slice_get}
use Rattle.ap_list.specs.Lists.{Each}
use Rattle.ap_word.specs.Seats.{TableId, seat_table}
use Rattle.ap_table.specs.Worded.{IsOf, WordsStay, FoundOf, WasWord, WasOf, FoundWas}
use Rattle.ap_table.specs.Locked.{OneStep}
use Rattle.ap_table.specs.declared.stored.Claim.{Claim}
use Rattle.ap_table.specs.declared.stored.Claim.TheVariants as claim
use Rattle.ap_table.specs.declared.seats.AncestorSeat.{AncestorSeat}
use Rattle.ap_table.specs.declared.stored.Job.{Job}
use Rattle.ap_table.specs.declared.link.License.{License}
use Rattle.ap_table.specs.declared.stored.Taken.{Taken}
use Rattle.ap_table.specs.declared.stored.Taken.TheVariants as taken
use Rattle.ap_table.specs.Shown.{Run}
use Rattle.ap_table.specs.Steps.{Puts, Drops}
use Rattle.ap_walk.specs.declared.act.Stepped.{Stepped}
use Rattle.ap_table.proofs.Words.{of_stays}
use Rattle.ap_speculate.specs.Boards.{LooksAt}
use Rattle.ap_tests_workers.specs.Held.{SeatsOf, AreHeld, ComesOf, at, ats}

pub ok_as : {A E : Type 0} {P : Type 0} (r : Result A E) → P → OnOk r P
ok_as (Ok a) p = p
ok_as (Err x) p = tt

heads : {A : Type 0} (x y : A) (xs ys : List A) → (x ∷ xs) ≡ (y ∷ ys) → (x ≡ y) × (xs ≡ ys)
heads x y xs ys e = (cc, cc)

-- seats look at what others do where both have the same families and words
pub still : (word : ℕ → TableId → Type 0) (olds news : List AncestorSeat) → ats news ≡ ats olds → Each (LooksAt word) olds → Each (LooksAt word) news
still word [] [] is e = tt
still word [] (y ∷ ys) is e = absurd (cc)
still word (x ∷ xs) [] is e = absurd (cc)
still word (x ∷ xs) (y ∷ ys) is e =
    let both = heads (at y) (at x) (ats ys) (ats xs) is in
    (subst (λ (p : ℕ × TableId). word p.0 p.1) (sym both.0) e.0, still word xs ys both.1 e.1)

pub still_of : (ws : List (Option TableId)) (olds news : List AncestorSeat) → ats news ≡ ats olds → Each (IsOf ws) olds → Each (IsOf ws) news
still_of ws olds news is e = still (λ k t. slice_get ws k ≡ Some (Some t)) olds news is e

pairs : {A B : Type 0} (a b : A) (x y : B) → a ≡ b → x ≡ y → (let p : A × B = (a, x) in p) ≡ (let q : A × B = (b, y) in q)
pairs a b x y e f = cc

ats_more : (ss : List AncestorSeat) (s t : AncestorSeat) → at t ≡ at s → ats (ss ++ t ∷ []) ≡ ats (ss ++ s ∷ [])
ats_more [] s t is = ap (λ (p : ℕ × TableId). let l : List (ℕ × TableId) = p ∷ [] in l) is
ats_more (x ∷ xs) s t is = ap (λ l. at x ∷ l) (ats_more xs s t is)

-- the last seat looked
pub ats_last : (ss olds news : List AncestorSeat) (s t : AncestorSeat) → olds ≡ ss ++ s ∷ [] → news ≡ ss ++ t ∷ [] → t.family ≡ s.family → seat_table t.seat ≡ seat_table s.seat → ats news ≡ ats olds
ats_last ss olds news s t was is family table =
    let one : at t ≡ at s = pairs t.family s.family (seat_table t.seat) (seat_table s.seat) family table in
    ap ats is ∙ (ats_more ss s t one ∙ ap ats (sym was))

module _ {T : Type 0} where
  pub held_stay : (ws vs : List (Option TableId)) → WordsStay ws vs → (js : List (Job T)) → AreHeld ws js → AreHeld vs js
  held_stay ws vs stay [] e = tt
  held_stay ws vs stay (j ∷ js) e = (of_stays ws vs stay j.seats e.0, held_stay ws vs stay js e.1)

  pub held_same : (ws vs : List (Option TableId)) (js : List (Job T)) → vs ≡ ws → AreHeld ws js → AreHeld vs js
  held_same ws vs js is e = subst (λ (x : List (Option TableId)). AreHeld x js) (sym is) e

  more : (ws : List (Option TableId)) (js : List (Job T)) (j : Job T) → AreHeld ws js → SeatsOf ws j → AreHeld ws (js ++ j ∷ [])
  more ws [] j e one = (one, tt)
  more ws (x ∷ xs) j e one = (e.0, more ws xs j e.1 one)

  pub held_more : (ws : List (Option TableId)) (js new : List (Job T)) (j : Job T) → new ≡ js ++ j ∷ [] → AreHeld ws js → SeatsOf ws j → AreHeld ws new
  held_more ws js new j is e one = subst (AreHeld ws) (sym is) (more ws js j e one)

  less : (ws : List (Option TableId)) (js : List (Job T)) (j : Job T) → AreHeld ws (js ++ j ∷ []) → AreHeld ws js × SeatsOf ws j
  less ws [] j e = (tt, e.0)
  less ws (x ∷ xs) j e = (let r = less ws xs j e.1 in ((e.0, r.0), r.1))

  pub held_less : (ws : List (Option TableId)) (old js : List (Job T)) (j : Job T) → old ≡ js ++ j ∷ [] → AreHeld ws old → AreHeld ws js × SeatsOf ws j
  held_less ws old js j is e = less ws js j (subst (AreHeld ws) is e)

  -- the same where memory may be refused
  pub ok_more : {A E : Type 0} (r : Result A E) (ws : List (Option TableId)) (js new : List (Job T)) (j : Job T) → OnOk r (new ≡ js ++ j ∷ []) → AreHeld ws js → SeatsOf ws j → OnOk r (AreHeld ws new)
  ok_more (Ok a) ws js new j is e one = held_more ws js new j is e one
  ok_more (Err x) ws js new j is e one = tt

  pub ok_same : {A E : Type 0} (r : Result A E) (ws vs : List (Option TableId)) (js : List (Job T)) → vs ≡ ws → OnOk r (AreHeld ws js) → OnOk r (AreHeld vs js)
  ok_same (Ok a) ws vs js is e = held_same ws vs js is e
  ok_same (Err x) ws vs js is e = tt

  -- a job that comes back from a table is the one that was handed in
  pub put_back : (ws : List (Option TableId)) (olds : List AncestorSeat) (job : Job T) (t : Taken T) (step : T → Stepped T) (depth : T → ℕ) (old new : Run T) → Puts step depth old new job t → ats job.seats ≡ ats olds → Each (IsOf ws) olds → ComesOf ws t
  put_back ws olds job taken.Kept step depth old new p is e = tt
  put_back ws olds job (taken.Stranger back) step depth old new p is e = subst (SeatsOf ws) (sym p.1) (still_of ws olds job.seats is e)

  pub drop_back : (ws : List (Option TableId)) (job : Job T) (t : Taken T) (step : T → Stepped T) (depth : T → ℕ) (old new : Run T) (l : License) → Drops step depth old new job l t → SeatsOf ws job → ComesOf ws t
  drop_back ws job taken.Kept step depth old new l p e = tt
  drop_back ws job (taken.Stranger back) step depth old new l p e = subst (SeatsOf ws) (sym p.1) e

  -- the seats of a job that was found
  pub of_found : (ws vs : List (Option TableId)) (r : Claim T) (job : Job T) → r ≡ claim.Found job → vs ≡ ws → FoundOf ws r → SeatsOf vs job
  of_found ws vs r job is same all = subst (λ (x : List (Option TableId)). Each (IsOf x) job.seats) (sym same) (subst (FoundOf ws) is all)

  module _ (step : T → Stepped T) (depth : T → ℕ) where
    pub was_found : (r : Claim T) (job : Job T) → r ≡ claim.Found job → FoundWas step depth r → Each (WasOf step depth) job.seats
    was_found r job is all = subst (FoundWas step depth) is all

    pub was_still : (olds news : List AncestorSeat) → ats news ≡ ats olds → Each (WasOf step depth) olds → Each (WasOf step depth) news
    was_still olds news is all = still (λ k t. WasWord step depth k t) olds news is all

    pub was_back : (job back : Job T) (l : License) (t : Taken T) → t ≡ taken.Stranger back → OneStep step depth (λ old new. Drops step depth old new job l t) → Each (WasOf step depth) job.seats → Each (WasOf step depth) back.seats
    was_back job back l t is done all =
        let same : Drops step depth done.old done.new job l (taken.Stranger back) = subst (Drops step depth done.old done.new job l) is done.done in
        subst (λ (j : Job T). Each (WasOf step depth) j.seats) (sym same.1) all

-- what is so of a value that is there
pub of_some : {A : Type 0} (P : A → Type 0) (o : Option A) (a : A) → o ≡ Some a → IfSome o P → P a
of_some P o a is all = subst (λ x. IfSome x P) is all
