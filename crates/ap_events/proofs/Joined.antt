-- Events one after another: what calls answered that did them, and the world that they left.
use Rattle.std.proofs.Common.{◌≡◌, ◌≢◌, ℕ, ◌+◌, Bool, true, false, cond, not, List, [], ◌∷◌, ◌++◌, Option, Some, None, Result, Ok, Err, IfOk, OnErr, refl, ap, sym, ◌∙◌, subst, append_assoc, append-nil, length, take, arith, zero-add, add_assoc, add-zero}
use Rattle.std.proofs.Math.Seq.{take-append_seam}
use Rattle.std.proofs.lemmas.Option.{none-some, same_Some}
use Rattle.ap_table.specs.declared.link.DropNote.{DropNote}
use Rattle.ap_world.specs.declared.entry.Entry.{Entry}
use Rattle.ap_world.specs.declared.theory.Theory.{Theory}
use Rattle.ap_world.specs.Sound.{HasFunctions, Sound}
use Rattle.ap_world.specs.World.{Shown, function_of}
use Rattle.ap_world.proofs.Adding.{has_functions-more}
use Rattle.ap_plain.specs.declared.changes.Before.{Before}
use Rattle.ap_plain.specs.declared.end.Outcome.{Outcome}
use Rattle.std.specs.Prelude.{codes}
use Rattle.ap_stated.specs.Texts.{line}
use Rattle.ap_plain.specs.Drops.{DividedWalks}
use Rattle.ap_plain.specs.Ends.{passed, walked, Told, goals_in, walks_in, Done, Did}
use Rattle.ap_plain.proofs.Telling.{goals_after, notes_none, notes_more}
use Rattle.ap_events.specs.Joining.{no_outcome, with_outcome, silenced, ended_by, back_in, Begins, Ran, RanAgain}
use Rattle.ap_events.specs.Books.{silent_by, silent}
use Rattle.ap_events.specs.Nested.{nothing, joined, then_by, second_by, closing_by}

-- Of what d comes to in the world w, r is left in the world v, behind an outcome.
pub record Going (d : Done) (w : Shown) (r : Done) (v : Shown) (o : Outcome) : Type 0 where
  pub text : o.text ++ r.text ≡ d.text
  pub next : r.next ≡ d.next
  pub goals : o.goals + goals_in r.told ≡ goals_in d.told
  pub drops : (ns : List DropNote) → DividedWalks ns (walks_in r.told) → DividedWalks (o.drops ++ ns) (walks_in d.told)
  pub admitted : o.admitted ≡ true
  pub grown : Begins w v

-- at first all is left
pub going_first : (d : Done) (w : Shown) (o : Outcome) → o ≡ no_outcome → Going d w d w o
going_first d w o is =
    subst (λ (x : Outcome). Going d w d w x) (sym is) (record {
      text = refl;
      next = refl;
      goals = zero-add (goals_in d.told);
      drops = λ ns h. h;
      admitted = refl;
      grown = ([], sym (append-nil w.entries));
    })

begins_twice : (u v w : Shown) → Begins u v → Begins v w → Begins u w
begins_twice u v w a b = (a.0 ++ b.0, b.1 ∙ ap (λ es. es ++ b.0) a.1 ∙ append_assoc u.entries a.0 b.0)

-- one event more, a, of which the answer is e
module _ (d a : Done) (k : Shown → Done) (w v u : Shown) (o e x : Outcome) (going : Going d w (then_by a a.next k) v o) (did : Did a v u e) (more : x ≡ with_outcome o e) where
  next_by : (b : Bool) → e.admitted ≡ b → a.next ≡ cond b (Some u) None
  next_by b is = did.next ∙ ap (λ c. cond c (Some u) None) is

  -- where it is admitted the others are left in the world after it
  pub going_next : x.admitted ≡ true → Begins v u → Going d w (k u) u x
  going_next went grown =
      subst (λ (y : Outcome). Going d w (k u) u y) (sym more) (record {
        text = append_assoc o.text e.text (k u).text ∙ ap (λ t. o.text ++ (t ++ (k u).text)) did.text ∙ now.text;
        next = now.next;
        goals =
            let f : e.goals ≡ goals_in a.told = did.goals in
            let g : o.goals + goals_in (a.told ++ (k u).told) ≡ goals_in d.told = now.goals in
            let h : goals_in (a.told ++ (k u).told) ≡ goals_in a.told + goals_in (k u).told = goals_after a.told (k u).told in
            add_assoc o.goals e.goals (goals_in (k u).told) ∙ ap (λ n. o.goals + (n + goals_in (k u).told)) f ∙ ap (λ n. o.goals + n) (sym h) ∙ g;
        drops = λ ns h.
            subst (λ ms. DividedWalks ms (walks_in d.told)) (sym (append_assoc o.drops e.drops ns))
            (now.drops (e.drops ++ ns) (notes_more e.drops ns a.told (k u).told did.drops h));
        admitted = admitted;
        grown = begins_twice w v u going.grown grown;
      })
    where
      admitted : e.admitted ≡ true
      admitted = sym (ap (λ (y : Outcome). y.admitted) more) ∙ went

      now : Going d w (joined a (k u)) v o
      now = subst (λ n. Going d w (then_by a n k) v o) (next_by true admitted) going

  -- where it is refused nothing more is done
  pub going_stops : x.admitted ≡ false → Ran d u x × Begins w u
  going_stops stopped = (
    subst (λ (y : Outcome). Ran d u y) (sym more) (record {
      text = ap (λ t. o.text ++ t) did.text ∙ now.text;
      next = sym now.next ∙ did.next;
      goals = ap (λ n. o.goals + n) did.goals ∙ now.goals;
      drops = now.drops e.drops did.drops;
    }),
    subst (λ (y : Shown). Begins w y) (sym (did.kept refused)) going.grown,
  )
    where
      refused : e.admitted ≡ false
      refused = sym (ap (λ (y : Outcome). y.admitted) more) ∙ stopped

      now : Going d w a v o
      now = subst (λ n. Going d w (then_by a n k) v o) (next_by false refused) going

-- at the end nothing is left
pub going_ends : (d : Done) (w v : Shown) (o : Outcome) → Going d w (nothing v) v o → Ran d v o
going_ends d w v o going = record {
  text = sym (append-nil o.text) ∙ going.text;
  next = sym going.next ∙ ap (λ b. cond b (Some v) None) (sym going.admitted);
  goals = sym (add-zero o.goals) ∙ going.goals;
  drops = subst (λ ns. DividedWalks ns (walks_in d.told)) (append-nil o.drops) (going.drops [] (notes_none []));
}

-- A world that went back.

-- the first entries of a world that another begins
first_entries : (w v : Shown) (n : ℕ) → Begins w v → n ≡ length w.entries → take n v.entries ≡ w.entries
first_entries w v n grown is = ap (λ k. take k v.entries) is ∙ ap (λ es. take (length w.entries) es) grown.1 ∙ take-append_seam w.entries grown.0

pub back_again : (w v : Shown) (b : Before) → Begins w v → b.count ≡ length w.entries → b.theory ≡ w.theory → back_in b v ≡ w
back_again w v b grown is same = λ i. record { entries = first_entries w v b.count grown is i; theory = same i }

pub back_sound : (w v : Shown) (b : Before) → Begins w v → b.count ≡ length w.entries → Sound w.entries → Sound (take b.count v.entries)
back_sound w v b grown is sound = subst Sound (sym (first_entries w v b.count grown is)) sound

pub back_functions : (w v : Shown) (b : Before) → Begins w v → b.count ≡ length w.entries → HasFunctions (function_of w.entries) → HasFunctions (function_of (take b.count v.entries))
back_functions w v b grown is functions = subst (λ es. HasFunctions (function_of es)) (sym (first_entries w v b.count grown is)) functions

pub begins_itself : (w v : Shown) → v ≡ w → Begins w v
begins_itself w v same = ([], ap (λ (x : Shown). x.entries) same ∙ sym (append-nil w.entries))

pub functions_begin : (w v : Shown) → Begins w v → HasFunctions (function_of w.entries) → HasFunctions (function_of v.entries)
functions_begin w v grown functions = subst (λ es. HasFunctions (function_of es)) (sym grown.1) (has_functions-more w.entries grown.0 functions)

-- the world that an admitted event left, where its next one grows
pub did_begin : (d : Done) (w v : Shown) (o : Outcome) → ((x : Shown) → d.next ≡ Some x → Begins w x) → Did d w v o → Begins w v
did_begin d w v o grows did = go o.admitted refl
  where
    go : (b : Bool) → o.admitted ≡ b → Begins w v
    go true is = grows v (did.next ∙ ap (λ b. cond b (Some v) None) is)
    go false is = begins_itself w v (did.kept is)

pub left_begins : {E : Type 0} (r : Result Outcome E) (d : Done) (w v : Shown) → ((x : Shown) → d.next ≡ Some x → Begins w x) → IfOk r (Did d w v) → OnErr r (v ≡ w) → Begins w v
left_begins (Ok o) d w v grows did same = did_begin d w v o grows did
left_begins (Err e) d w v grows did same = begins_itself w v same

-- Events that were done one after another, where the world stays or goes back.
settled_by : (d : Done) (w v u : Shown) (b : Before) → back_in b v ≡ w → (o : Outcome) → Ran d v o → (o.admitted ≡ true → u ≡ v) → (o.admitted ≡ false → u ≡ back_in b v) → (c : Bool) → o.admitted ≡ c → Did d w u o
settled_by d w v u b back o ran stays goes true is = record {
  text = ran.text;
  next = subst (λ (y : Shown). d.next ≡ cond o.admitted (Some y) None) (sym (stays is)) ran.next;
  kept = λ stopped. absurd (cc (stopped, is));
  goals = ran.goals;
  drops = ran.drops;
}
settled_by d w v u b back o ran stays goes false is = record {
  text = ran.text;
  next = ran.next ∙ ap (λ c. cond c (Some v) None) is ∙ ap (λ c. cond c (Some u) None) (sym is);
  kept = λ stopped. goes is ∙ back;
  goals = ran.goals;
  drops = ran.drops;
}

settled_at : {E : Type 0} (r : Result Outcome E) (d : Done) (w v u : Shown) (b : Before) → back_in b v ≡ w → IfOk r (Ran d v)
    → IfOk r (λ o. o.admitted ≡ true → u ≡ v) → IfOk r (λ o. o.admitted ≡ false → u ≡ back_in b v) → IfOk r (Did d w u)
settled_at (Ok o) d w v u b back ran stays goes = settled_by d w v u b back o ran stays goes o.admitted refl
settled_at (Err e) d w v u b back ran stays goes = tt

pub settled : {E : Type 0} (r x : Result Outcome E) (d : Done) (w v u : Shown) (b : Before) → x ≡ r → back_in b v ≡ w → IfOk r (Ran d v)
    → IfOk r (λ o. o.admitted ≡ true → u ≡ v) → IfOk r (λ o. o.admitted ≡ false → u ≡ back_in b v) → IfOk x (Did d w u)
settled r x d w v u b same back ran stays goes = subst (λ y. IfOk y (Did d w u)) (sym same) (settled_at r d w v u b back ran stays goes)

pub settled_error : {E : Type 0} (r x : Result Outcome E) (w v u : Shown) (b : Before) → x ≡ r → back_in b v ≡ w → OnErr r (u ≡ back_in b v) → OnErr x (u ≡ w)
settled_error r x w v u b same back goes = subst (λ y. OnErr y (u ≡ w)) (sym same) (subst (λ (y : Shown). OnErr r (u ≡ y)) back goes)

-- What is done again prints nothing where it is admitted.
pub silent_did : (d : Done) (w v : Shown) (o : Outcome) → Did d w v o → Did (silent d) w v (silenced o)
silent_did d w v o did = go o.admitted refl d.next refl
  where
    Goal : Option Shown → Bool → Type 0
    Goal n b = Did (silent_by d n) w v (cond b (record o { text = [] }) o)

    go : (b : Bool) → o.admitted ≡ b → (n : Option Shown) → d.next ≡ n → Goal n b
    go true is None e = absurd (none-some v (sym e ∙ did.next ∙ ap (λ c. cond c (Some v) None) is))
    go true is (Some x) e = record {
      text = refl;
      next = sym e ∙ did.next;
      kept = did.kept;
      goals = did.goals;
      drops = did.drops;
    }
    go false is None e = did
    go false is (Some x) e = absurd (none-some x (sym (did.next ∙ ap (λ c. cond c (Some v) None) is) ∙ e))

pub if_silent : (d : Done) (w v : Shown) (o x : Outcome) → x ≡ silenced o → Did d w v o → Did (silent d) w v x
if_silent d w v o x is did = subst (λ y. Did (silent d) w v y) (sym is) (silent_did d w v o did)

pub silenced_drops : (o : Outcome) → (silenced o).drops ≡ o.drops
silenced_drops o = go o.admitted
  where
    go : (b : Bool) → (cond b (record o { text = [] }) o).drops ≡ o.drops
    go true = refl
    go false = refl

-- A second pass ends a first one, whose world is v: u is the world before, and w the world after.

goals_closed : (ts : List Told) (x : Shown) → goals_in (ts ++ passed x ∷ []) ≡ goals_in ts
goals_closed ts x = goals_after ts (passed x ∷ []) ∙ add-zero (goals_in ts)

walks_closed : (ts : List Told) (x : Shown) → walks_in (ts ++ passed x ∷ []) ≡ walks_in ts
walks_closed [] x = refl
walks_closed (passed v ∷ ts) x = walks_closed ts x
walks_closed (walked a ∷ ts) x = ap (λ ws. a ∷ ws) (walks_closed ts x)

pub closed_did : (d e : Done) (u v w : Shown) (o : Outcome) (s : Option (List ℕ)) → o.admitted ≡ true → Did d u v o → RanAgain e u w s → Did (closing_by d d.next e) u w (ended_by o s)
closed_did d e u v w o s went did second =
    subst (λ n. Did (closing_by d n e) u w (ended_by o s)) (sym first) (ends s second)
  where
    first : d.next ≡ Some v
    first = did.next ∙ ap (λ c. cond c (Some v) None) went

    ends : (s : Option (List ℕ)) → RanAgain e u w s → Did (joined d (second_by e e.next)) u w (ended_by o s)
    ends None is = subst (λ n. Did (joined d (second_by e n)) u w o) (sym is) (record {
      text = did.text ∙ sym (append-nil d.text);
      next = ap (λ c. cond c (Some w) None) (sym went);
      kept = λ stopped. absurd (cc (stopped, went));
      goals = did.goals ∙ sym (goals_closed d.told w);
      drops = subst (DividedWalks o.drops) (sym (walks_closed d.told w)) did.drops;
    })
    ends (Some text) p = subst (λ n. Did (joined d (second_by e n)) u w (ended_by o (Some text))) (sym p.0) (record {
      text = ap (λ t. t ++ text) did.text ∙ ap (λ t. d.text ++ t) p.1;
      next = refl;
      kept = λ stopped. p.2;
      goals = did.goals ∙ ap goals_in (sym (append-nil d.told));
      drops = subst (λ ts. DividedWalks o.drops (walks_in ts)) (sym (append-nil d.told)) did.drops;
    })

-- a first pass that is refused ends so
pub refused_did : (d e : Done) (u v : Shown) (o : Outcome) → o.admitted ≡ false → Did d u v o → Did (closing_by d d.next e) u v o
refused_did d e u v o stopped did = subst (λ n. Did (closing_by d n e) u v o) (sym (did.next ∙ ap (λ c. cond c (Some v) None) stopped)) did

pub ended_drops : (o : Outcome) (s : Option (List ℕ)) → (ended_by o s).drops ≡ o.drops
ended_drops o None = refl
ended_drops o (Some text) = refl

-- nothing is done
pub nothing_did : (w : Shown) (o : Outcome) → o ≡ no_outcome → Did (nothing w) w w o
nothing_did w o is = subst (λ x. Did (nothing w) w w x) (sym is) (record { text = refl; next = refl; kept = λ stopped. refl; goals = refl; drops = notes_none [] })

-- an `encapsulate` ends by its second pass, from a world that is the one before
pub closed_end : {E : Type 0} (r : Result Outcome E) (w u v x : Shown) (first : Outcome) (d : Done) (again : Shown → Done) → u ≡ w → Did d w v first
    → IfOk r (λ o. (d : Done) → Did d u v first → Did (closing_by d d.next (again u)) u x o) → IfOk r (Did (closing_by d d.next (again w)) w x)
closed_end (Err e) w u v x first d again same did h = tt
closed_end (Ok o) w u v x first d again same did h =
    subst (λ (y : Shown). Did (closing_by d d.next (again y)) y x o) same (h d (subst (λ (y : Shown). Did d y v first) (sym same) did))

pub made_end : {E : Type 0} (r : Result Outcome E) (e : Done) (u v w : Shown) (o : Outcome) (s : Option (List ℕ)) → o.admitted ≡ true → RanAgain e u w s → IfOk r (λ x. x ≡ ended_by o s)
    → IfOk r (λ x. (d : Done) → Did d u v o → Did (closing_by d d.next e) u w x)
made_end (Err e) f u v w o s went second made = tt
made_end (Ok x) f u v w o s went second made = λ d did. subst (λ y. Did (closing_by d d.next f) u w y) (sym made) (closed_did d f u v w o s went did second)

pub made_drops : {E : Type 0} (r : Result Outcome E) (o : Outcome) (s : Option (List ℕ)) → IfOk r (λ x. x ≡ ended_by o s) → IfOk r (λ x. x.drops ≡ o.drops)
made_drops (Err e) o s made = tt
made_drops (Ok x) o s made = ap (λ (y : Outcome). y.drops) made ∙ ended_drops o s

pub made_error : {E : Type 0} (r : Result Outcome E) (e : Done) (u w : Shown) (s : Option (List ℕ)) → RanAgain e u w s → OnErr r (s ≢ None) → OnErr r (w ≡ u)
made_error (Ok x) e u w s second error = tt
made_error (Err x) e u w None second error = absurd (error refl)
made_error (Err x) e u w (Some text) second error = second.2

-- what a call says clause by clause
pub did_by : {E : Type 0} (r : Result Outcome E) (d : Done) (w v : Shown) → IfOk r (λ e. e.text ≡ d.text) → IfOk r (λ e. d.next ≡ cond e.admitted (Some v) None) → IfOk r (λ e. e.admitted ≡ false → v ≡ w)
    → IfOk r (λ e. e.goals ≡ goals_in d.told) → IfOk r (λ e. DividedWalks e.drops (walks_in d.told)) → IfOk r (Did d w v)
did_by (Ok o) d w v text next kept goals drops = record { text = text; next = next; kept = kept; goals = goals; drops = drops }
did_by (Err e) d w v text next kept goals drops = tt

pub drops_end : {E : Type 0} (r : Result Outcome E) (first : Outcome) (P : Type 0) → IfOk r (λ o. o.drops ≡ first.drops) → (P → first.drops ≡ []) → IfOk r (λ o. P → o.drops ≡ [])
drops_end (Ok o) first P same none = λ p. same ∙ none p
drops_end (Err e) first P same none = tt

-- a second pass by the call that did its events, in a world that is the one that was gone back to
module _ (again : Shown → Done) (u x v : Shown) (o : Outcome) (same : x ≡ u) (did : Did (again x) x v o) where
  back_did : Did (again u) u v o
  back_did = subst (λ (y : Shown). Did (again y) y v o) same did

  pub passed_yes : o.admitted ≡ true → RanAgain (again u) u v None
  passed_yes went = back_did.next ∙ ap (λ c. cond c (Some v) None) went

  pub passed_no : (text : List ℕ) → o.admitted ≡ false → text ≡ line (codes "Second pass") ++ o.text → RanAgain (again u) u v (Some text)
  passed_no text stopped is = (back_did.next ∙ ap (λ c. cond c (Some v) None) stopped, is ∙ ap (λ t. line (codes "Second pass") ++ t) back_did.text, back_did.kept stopped)

  pub passed_kept : o.admitted ≡ false → v ≡ u
  passed_kept stopped = back_did.kept stopped

-- a test that was turned
pub turned_true : (b : Bool) → not b ≡ true → b ≡ false
turned_true true h = absurd (cc h)
turned_true false h = refl

pub turned_false : (b : Bool) → not b ≡ false → b ≡ true
turned_false true h = refl
turned_false false h = absurd (cc h)

pub begins_through : (u v w : Shown) → Begins u v → Begins v w → Begins u w
begins_through u v w a b = begins_twice u v w a b

-- what holds where there is an error or not
pub on_error : {A E P : Type 0} (r : Result A E) → P → OnErr r P
on_error (Ok x) h = tt
on_error (Err e) h = h
