-- Splitting, and the clauses that wait: what is pushed and taken, and what comes of it.
use Rattle.std.proofs.Common.{◌≡◌, Bool, ℕ, zero, suc, ◌+◌, ◌*◌, ◌<◌, ◌≤◌, List, [], ◌∷◌, ◌++◌, map, length, take, drop, Option, Some, None, slice_get, refl, ap, sym, ◌∙◌, subst, append_assoc, add-one, length-append, arith}
use Rattle.ap_list.specs.Lists.{Each, joined}
use Rattle.ap_term.specs.declared.term.Clause.{Clause}
use Rattle.ap_term.specs.Metered.{spend}
use Rattle.ap_world.specs.World.{Shown, function_of}
use Rattle.ap_kernel.specs.declared.reductions.Inference.{Inference}
use Rattle.ap_kernel.specs.declared.reductions.Reduction.{Reduction}
use Rattle.ap_kernel.specs.Reductions.{KnownClause, Reduces, claims, all_from, all_to, chained}
use Rattle.ap_kernel.specs.Splits.{and_then, choice_at, with_part, cases_of, literal_split, split_made}
use Rattle.ap_kernel.proofs.Reduced.{each_append, all_to_end}
use Rattle.ap_kernel.proofs.Splitting.{then_some}
use Rattle.ap_clausify.specs.Places.{first_choice}
use Rattle.ap_clausify.specs.declared.states.Case.{Case}
use Rattle.ap_clausify.specs.declared.states.Frame.{Frame}
use Rattle.ap_clausify.specs.declared.states.Task.{Task}
use Rattle.ap_clausify.specs.declared.states.Task.TheVariants as task
use Rattle.ap_clausify.specs.declared.states.Turn.{Turn}
use Rattle.ap_clausify.specs.declared.states.Turn.TheVariants as turn
use Rattle.ap_clausify.specs.Scanning.{Ready}
use Rattle.ap_clausify.specs.Splitting.{Left, Splitter, before, then_rest, each_split, cases, split_by, split_to, split_of, steps_left, settled, settled_all, settled_left}
use Rattle.ap_clausify.specs.Frames.{by_steps, done_clauses, due, resumed, outcome, origin, Waits, Linked, at_hand, comes, weight, GoesOn, Goes}

-- the steps only fall
abbrev Falls : Splitter → Type 0
Falls s = (c : Clause) (n : ℕ) (ds : List Clause) (l : ℕ) → s c n ≡ Some (ds, l) → l ≤ n

none_falls : Falls (λ c n. None)
none_falls c n ds l h = cc

before_some : (cs ds : List Clause) (o : Left) (l : ℕ) → before cs o ≡ Some (ds, l) → (es : List Clause) × (o ≡ Some (es, l))
before_some cs ds None l h = cc
before_some cs ds (Some p) l h = (p.0, ap (λ m. Some (p.0, m)) (ap (λ o. steps_left o) h))

each_falls : (s : Splitter) → Falls s → (cs : List Clause) (n : ℕ) (es : List Clause) (l : ℕ) → each_split s cs n ≡ Some (es, l) → l ≤ n
each_falls s f [] n es l h = let e : n ≡ l = ap steps_left h in omega arith
each_falls s f (c ∷ cs) zero es l h = cc
each_falls s f (c ∷ cs) (suc m) es l h = go (s c m) refl h (λ k ds. each_falls s f cs k ds l)
  where
    go : (o : Left) → s c m ≡ o → then_rest o (each_split s cs) ≡ Some (es, l) → ((k : ℕ) (ds : List Clause) → each_split s cs k ≡ Some (ds, l) → l ≤ k) → l ≤ suc m
    go None q k more = cc
    go (Some p) q k more =
        let r = before_some p.0 es (each_split s cs p.1) l k in
        let a : l ≤ p.1 = more p.1 r.0 r.1 in
        let b : p.1 ≤ m = f c m p.0 p.1 q in
        omega arith

by_falls : (s : Splitter) → Falls s → (c : Clause) (n : ℕ) (o : Option Inference) (es : List Clause) (l : ℕ) → split_by s c n o ≡ Some (es, l) → l ≤ n
by_falls s f c n None es l h = let e : n ≡ l = ap steps_left h in omega arith
by_falls s f c n (Some r) es l h = each_falls s f r.to n es l h

to_falls : (d : ℕ) → Falls (split_to d)
to_falls zero c n ds l h = by_falls (λ d m. None) none_falls c n (cases c) ds l h
to_falls (suc d) c n ds l h = by_falls (split_to d) (to_falls d) c n (cases c) ds l h

-- with so few steps that both splitters agree on what is left
each_agree : (s r : Splitter) → Falls s → (n : ℕ) → ((c : Clause) (m : ℕ) → m < n → s c m ≡ r c m) → (cs : List Clause) (k : ℕ) → k ≤ n → each_split s cs k ≡ each_split r cs k
each_agree s r f n e [] k h = refl
each_agree s r f n e (c ∷ cs) zero h = refl
each_agree s r f n e (c ∷ cs) (suc m) h = go (s c m) (r c m) refl (e c m (omega arith)) (λ k q. each_agree s r f n e cs k q)
  where
    go : (o p : Left) → s c m ≡ o → o ≡ p → ((k : ℕ) → k ≤ n → each_split s cs k ≡ each_split r cs k) → then_rest o (each_split s cs) ≡ then_rest p (each_split r cs)
    go None None q t more = refl
    go None (Some y) q t more = cc
    go (Some x) None q t more = cc
    go (Some x) (Some y) q t more =
        let same : x ≡ y = cc in
        let b : x.1 ≤ m = f c m x.0 x.1 q in
        ap (before x.0) (more x.1 (omega arith)) ∙ ap (λ (p : List Clause × ℕ). then_rest (Some p) (each_split r cs)) same

by_agree : (s r : Splitter) → Falls s → (n : ℕ) → ((c : Clause) (m : ℕ) → m < n → s c m ≡ r c m) → (c : Clause) (o : Option Inference) → split_by s c n o ≡ split_by r c n o
by_agree s r f n e c None = refl
by_agree s r f n e c (Some q) = each_agree s r f n e q.to n (omega arith)

-- as many levels as there are steps are enough
enough : (d k : ℕ) (c : Clause) (n : ℕ) → n ≤ d → n ≤ k → split_to d c n ≡ split_to k c n
enough zero zero c n h l = refl
enough zero (suc k) c n h l = by_agree (λ d m. None) (split_to k) none_falls n (λ c m q. absurd (omega arith)) c (cases c)
enough (suc d) zero c n h l = by_agree (split_to d) (λ d m. None) (to_falls d) n (λ c m q. absurd (omega arith)) c (cases c)
enough (suc d) (suc k) c n h l = by_agree (split_to d) (split_to k) (to_falls d) n (λ c m q. enough d k c m (omega arith) (omega arith)) c (cases c)

abbrev pub untidied : Splitter
untidied c n = split_of n c

pub unfolds : (n : ℕ) (c : Clause) → split_of n c ≡ split_by untidied c n (cases c)
unfolds zero c = by_agree (λ d m. None) untidied none_falls zero (λ c m q. absurd (omega arith)) c (cases c)
unfolds (suc d) c = by_agree (split_to d) untidied (to_falls d) (suc d) (λ c m q. enough d m c m (omega arith) (omega arith)) c (cases c)

-- lists
pub append_nil : {A : Type 0} (xs : List A) → xs ++ [] ≡ xs
append_nil [] = refl
append_nil (x ∷ xs) = ap (λ ys. x ∷ ys) (append_nil xs)

length_end : {A : Type 0} (xs : List A) (x : A) → length (xs ++ x ∷ []) ≡ length xs + 1
length_end xs x = length-append xs (x ∷ [])

pub drop_next : {A : Type 0} (n : ℕ) (x : A) (xs : List A) → drop (suc n + 1) (x ∷ xs) ≡ drop (n + 1) xs
drop_next n x xs = ap (λ k. drop k (x ∷ xs)) (add-one (suc n)) ∙ ap (λ k. drop k xs) (sym (add-one n))

take_next : {A : Type 0} (n : ℕ) (x : A) (xs : List A) → take (suc n + 1) (x ∷ xs) ≡ x ∷ take (n + 1) xs
take_next n x xs = ap (λ k. take k (x ∷ xs)) (add-one (suc n)) ∙ ap (λ k. x ∷ take k xs) (sym (add-one n))

get_drop : {A : Type 0} (xs : List A) (n : ℕ) (x : A) → slice_get xs n ≡ Some x → drop n xs ≡ x ∷ drop (n + 1) xs
get_drop [] n x h = cc
get_drop (y ∷ xs) zero x h = let same : y ≡ x = cc in ap (λ z. z ∷ xs) same
get_drop (y ∷ xs) (suc n) x h = get_drop xs n x h ∙ ap (λ ys. x ∷ ys) (sym (drop_next n y xs))

get_take : {A : Type 0} (xs : List A) (n : ℕ) (x : A) → slice_get xs n ≡ Some x → take (n + 1) xs ≡ take n xs ++ x ∷ []
get_take [] n x h = cc
get_take (y ∷ xs) zero x h = let same : y ≡ x = cc in ap (λ z. z ∷ []) same
get_take (y ∷ xs) (suc n) x h = take_next n y xs ∙ ap (λ ys. y ∷ ys) (get_take xs n x h)

none_drop : {A : Type 0} (xs : List A) (n : ℕ) → slice_get xs n ≡ None → (drop n xs ≡ []) × (take n xs ≡ xs)
none_drop [] zero h = (refl, refl)
none_drop [] (suc n) h = (refl, refl)
none_drop (x ∷ xs) zero h = cc
none_drop (x ∷ xs) (suc n) h = let p = none_drop xs n h in (p.0, ap (λ ys. x ∷ ys) p.1)

-- a clause that is pushed, and one that is taken
pub outcome_end : (fs : List Frame) (f : Frame) (o : Left) → outcome (fs ++ f ∷ []) o ≡ outcome fs (resumed f o)
outcome_end [] f o = refl
outcome_end (g ∷ fs) f o = ap (resumed g) (outcome_end fs f o)

pub outcome_none : (fs : List Frame) → outcome fs None ≡ None
outcome_none [] = refl
outcome_none (g ∷ fs) = ap (resumed g) (outcome_none fs)

pub origin_end : (fs : List Frame) (f : Frame) (c : Clause) → origin (fs ++ f ∷ []) c ≡ origin fs f.split.says.from
origin_end [] f c = refl
origin_end (g ∷ fs) f c = refl

pub linked_end : (W : Shown) (fs : List Frame) (f : Frame) (c : Clause) → Linked W fs f.split.says.from → Waits W f → slice_get f.split.says.to (length f.done) ≡ Some c → Linked W (fs ++ f ∷ []) c
linked_end W [] f c l w h = (w, h, tt)
linked_end W (g ∷ fs) f c l w h = (l.0, l.1 ∙ ap Some (sym (origin_end fs f c)), linked_end W fs f c l.2 w h)

pub linked_taken : (W : Shown) (fs : List Frame) (f : Frame) (c : Clause) → Linked W (fs ++ f ∷ []) c → Linked W fs f.split.says.from × Waits W f × (slice_get f.split.says.to (length f.done) ≡ Some c)
linked_taken W [] f c l = (tt, l.0, l.1)
linked_taken W (g ∷ fs) f c l =
    let p = linked_taken W fs f c l.2 in
    ((l.0, l.1 ∙ ap Some (origin_end fs f c), p.0), p.1, p.2)

-- what comes before joins
before_before : (cs ds : List Clause) (o : Left) → before cs (before ds o) ≡ before (cs ++ ds) o
before_before cs ds None = refl
before_before cs ds (Some p) = ap (λ es. Some (es, p.1)) (sym (append_assoc cs ds p.0))

before_none : (o : Left) → before [] o ≡ o
before_none None = refl
before_none (Some p) = refl

-- tidying goes clause by clause
settled_append : (cs ds : List Clause) → joined (map settled (cs ++ ds)) ≡ joined (map settled cs) ++ joined (map settled ds)
settled_append [] ds = refl
settled_append (c ∷ cs) ds = ap (λ es. settled c ++ es) (settled_append cs ds) ∙ sym (append_assoc (settled c) (joined (map settled cs)) (joined (map settled ds)))

settled_before : (cs : List Clause) (o : Left) → settled_left (before cs o) ≡ before (joined (map settled cs)) (settled_left o)
settled_before cs None = refl
settled_before cs (Some p) = ap (λ es. Some (es, p.1)) (settled_append cs p.0)

settled_each : (s : Splitter) (cs : List Clause) (n : ℕ) → settled_left (each_split s cs n) ≡ each_split (λ c m. settled_left (s c m)) cs n
settled_each s [] n = refl
settled_each s (c ∷ cs) zero = refl
settled_each s (c ∷ cs) (suc m) = go (s c m) (settled_each s cs)
  where
    go : (o : Left) → ((k : ℕ) → settled_left (each_split s cs k) ≡ each_split (λ c m. settled_left (s c m)) cs k) → settled_left (then_rest o (each_split s cs)) ≡ then_rest (settled_left o) (each_split (λ c m. settled_left (s c m)) cs)
    go None more = refl
    go (Some p) more = settled_before p.0 (each_split s cs p.1) ∙ ap (before (settled_all p)) (more p.1)

-- a clause without `if`, and one that begins to wait
pub opened_whole : (n : ℕ) (c : Clause) → cases c ≡ None → settled_left (split_of n c) ≡ Some (settled c, n)
opened_whole n c h = ap settled_left (unfolds n c ∙ ap (split_by untidied c n) h) ∙ ap (λ ds. Some (ds, n)) (append_nil (settled c))

pub opened_cases : (n : ℕ) (c : Clause) (r : Reduction) (literal : ℕ) (tidy : Bool) → cases c ≡ Some r.says → settled_left (split_of n c) ≡ due (record { split = r; done = []; literal = literal; tidy = tidy }) n
opened_cases n c r literal tidy h = ap settled_left (unfolds n c ∙ ap (split_by untidied c n) h) ∙ settled_each untidied r.says.to n ∙ sym (before_none (each_split by_steps r.says.to n))

pub begins : (W : Shown) (r : Reduction) (literal : ℕ) (tidy : Bool) → Reduces W r → Each (λ c. Ready c literal tidy) r.says.to → Waits W (record { split = r; done = []; literal = literal; tidy = tidy })
begins W r literal tidy s k = record { split = s; done = tt; from = refl; ready = k }

-- a case that is done
pub closed_due : (f : Frame) (r : Reduction) (n : ℕ) → resumed f (Some (r.says.to, n)) ≡ due (record { split = f.split; done = f.done ++ r ∷ []; literal = f.literal; tidy = f.tidy }) n
closed_due f r n =
    before_before (done_clauses f) r.says.to (each_split by_steps (drop (length f.done + 1) f.split.says.to) n)
    ∙ ap (λ cs. before cs (each_split by_steps (drop (length f.done + 1) f.split.says.to) n)) (sym (all_to_end f.done r))
    ∙ ap (λ k. before (all_to (claims (f.done ++ r ∷ []))) (each_split by_steps (drop k f.split.says.to) n)) (sym (length_end f.done r))

from_end : (rs : List Reduction) (r : Reduction) → all_from (claims (rs ++ r ∷ [])) ≡ all_from (claims rs) ++ r.says.from ∷ []
from_end [] r = refl
from_end (q ∷ rs) r = ap (λ cs. q.says.from ∷ cs) (from_end rs r)

pub closed_waits : (W : Shown) (f : Frame) (r : Reduction) → Waits W f → Reduces W r → slice_get f.split.says.to (length f.done) ≡ Some r.says.from → Waits W (record { split = f.split; done = f.done ++ r ∷ []; literal = f.literal; tidy = f.tidy })
closed_waits W f r w s h = record {
  split = w.split;
  done = each_append (Reduces W) f.done (r ∷ []) w.done (s, tt);
  from = from_end f.done r ∙ ap (λ cs. cs ++ r.says.from ∷ []) w.from ∙ sym (get_take f.split.says.to (length f.done) r.says.from h) ∙ ap (λ k. take k f.split.says.to) (sym (length_end f.done r));
  ready = w.ready;
}

-- the next case is due
pub all_done : (W : Shown) (f : Frame) → Waits W f → slice_get f.split.says.to (length f.done) ≡ None → all_from (claims f.done) ≡ f.split.says.to
all_done W f w h = w.from ∙ (none_drop f.split.says.to (length f.done) h).1

pub goes_done : (W : Shown) (fs : List Frame) (f : Frame) (r : Reduction) (n : ℕ) → Linked W fs f.split.says.from → slice_get f.split.says.to (length f.done) ≡ None → Reduces W r → r.says ≡ chained f.split.says (claims f.done)
    → GoesOn W fs f.split.says.from (due f n) (2 * n + (length fs + 1)) (record { frames = fs; task = task.Done r }) n
goes_done W fs f r n l h s e = record {
  linked = subst (λ (q : Inference). Linked W fs q.from) {x = chained f.split.says (claims f.done)} (sym e) l;
  holds = s;
  origin = ap (λ (q : Inference). origin fs q.from) e;
  outcome = ap (λ (q : Inference). outcome fs (Some (q.to, n))) e ∙ ap (outcome fs) (sym due_is);
  falls = omega arith;
}
  where
    due_is : due f n ≡ Some (all_to (claims f.done), n)
    due_is = ap (λ cs. before (done_clauses f) (each_split by_steps cs n)) (none_drop f.split.says.to (length f.done) h).0 ∙ ap (λ cs. Some (cs, n)) (append_nil (done_clauses f))

due_case : (f : Frame) (c : Clause) (n : ℕ) → slice_get f.split.says.to (length f.done) ≡ Some c → due f n ≡ before (done_clauses f) (spend (λ m. then_rest (by_steps c m) (each_split by_steps (drop (length f.done + 1) f.split.says.to))) n)
due_case f c n h = ap (λ cs. before (done_clauses f) (each_split by_steps cs n)) (get_drop f.split.says.to (length f.done) c h)

pub goes_out : (fs : List Frame) (f : Frame) (c : Clause) (n : ℕ) → slice_get f.split.says.to (length f.done) ≡ Some c → n ≡ 0 → outcome fs (due f n) ≡ None
goes_out fs f c n h z = ap (λ k. outcome fs (due f k)) z ∙ ap (outcome fs) (due_case f c 0 h) ∙ outcome_none fs

-- a case is known
each_at : (P : Clause → Type 0) (cs : List Clause) (i : ℕ) (c : Clause) → Each P cs → slice_get cs i ≡ Some c → P c
each_at P [] i c ps q = cc
each_at P (d ∷ cs) zero c ps q = let same : d ≡ c = cc in subst P same ps.0
each_at P (d ∷ cs) (suc i) c ps q = each_at P cs i c ps.1 q

pub case_known : (W : Shown) (f : Frame) (c : Clause) → Waits W f → slice_get f.split.says.to (length f.done) ≡ Some c → KnownClause (function_of W.entries) c × Ready c f.literal f.tidy
case_known W f c w h = (each_at (KnownClause (function_of W.entries)) f.split.says.to (length f.done) c w.split.says.goals h, each_at (λ c. Ready c f.literal f.tidy) f.split.says.to (length f.done) c w.ready h)

goes_open : (W : Shown) (fs gs : List Frame) (f : Frame) (c : Clause) (n m : ℕ) → Linked W fs f.split.says.from → Waits W f → slice_get f.split.says.to (length f.done) ≡ Some c → gs ≡ fs ++ f ∷ [] → n ≡ m + 1
    → GoesOn W fs f.split.says.from (due f n) (2 * n + (length fs + 1)) (record { frames = gs; task = task.Open (record { clause = c; cursor = f.literal; tidy = f.tidy }) }) m
goes_open W fs gs f c n m l w h g e =
    subst (λ hs. GoesOn W fs f.split.says.from (due f n) (2 * n + (length fs + 1)) (record { frames = hs; task = task.Open (record { clause = c; cursor = f.literal; tidy = f.tidy }) }) m) (sym g) (record {
      linked = linked_end W fs f c l w h;
      holds = case_known W f c w h;
      origin = origin_end fs f c;
      outcome = outcome_end fs f (by_steps c m) ∙ ap (outcome fs) (sym (ap (due f) (e ∙ add-one m) ∙ due_case f c (suc m) h));
      falls = fewer;
    })
  where
    fewer : 2 * m + (length (fs ++ f ∷ []) + 1) < 2 * n + (length fs + 1)
    fewer = let p = length_end fs f in omega arith

-- a case that is made for it
pub goes_case : (W : Shown) (fs gs : List Frame) (f : Frame) (c : Clause) (k : Case) (n m : ℕ) → Linked W fs f.split.says.from → Waits W f → slice_get f.split.says.to (length f.done) ≡ Some c → gs ≡ fs ++ f ∷ []
    → k ≡ record { clause = c; cursor = f.literal; tidy = f.tidy } → n ≡ m + 1
    → GoesOn W fs f.split.says.from (due f n) (2 * n + (length fs + 1)) (record { frames = gs; task = task.Open k }) m
goes_case W fs gs f c k n m l w h g x e =
    subst (λ j. GoesOn W fs f.split.says.from (due f n) (2 * n + (length fs + 1)) (record { frames = gs; task = task.Open j }) m) (sym x)
    (goes_open W fs gs f c n m l w h g e)

-- the cases are those of the clause
pub split_from : (c : Clause) (i : ℕ) (is : List ℕ) (r : Inference) → split_made c i is ≡ Some r → r.from ≡ c
split_from c i is r h =
    let (u, at, by_choice) = then_some (slice_get c.0 i) (λ u. and_then (choice_at is u) (literal_split c i is u)) r h in
    let (p, there, by_parts) = then_some (choice_at is u) (literal_split c i is u) r by_choice in
    let (v, first, by_yes) = then_some (with_part is p.1 u) (λ v. and_then (with_part is p.2 u) (λ w. Some (cases_of c i p.0 v w))) r by_parts in
    let (w, second, made) = then_some (with_part is p.2 u) (λ w. Some (cases_of c i p.0 v w)) r by_yes in
    let same : cases_of c i p.0 v w ≡ r = cc in
    ap (λ (q : Inference). q.from) (sym same)

pub opened_by : (c : Clause) (i : ℕ) (is : List ℕ) (r : Inference) → first_choice c ≡ Some (i, is) → split_made c i is ≡ Some r → cases c ≡ Some r
opened_by c i is r h k = ap (λ o. and_then o (λ p. split_made c p.0 p.1)) h ∙ k

-- a turn of the clause that was taken is one of all that wait
pub goes_taken : (W : Shown) (gs fs : List Frame) (f : Frame) (r : Reduction) (n m : ℕ) (t : Turn) → gs ≡ fs ++ f ∷ [] → Goes W fs f.split.says.from (resumed f (Some (r.says.to, n))) (2 * n + (length fs + 1)) t m
    → Goes W gs r.says.from (Some (r.says.to, n)) (2 * n + (length gs + 0)) t m
goes_taken W gs fs f r n m t e g = subst (λ hs. Goes W hs r.says.from (Some (r.says.to, n)) (2 * n + (length hs + 0)) t m) (sym e) (go t g)
  where
    go : (t : Turn) → Goes W fs f.split.says.from (resumed f (Some (r.says.to, n))) (2 * n + (length fs + 1)) t m → Goes W (fs ++ f ∷ []) r.says.from (Some (r.says.to, n)) (2 * n + (length (fs ++ f ∷ []) + 0)) t m
    go (turn.On s) g = record {
      linked = g.linked;
      holds = g.holds;
      origin = g.origin ∙ sym (origin_end fs f r.says.from);
      outcome = g.outcome ∙ sym (outcome_end fs f (Some (r.says.to, n)));
      falls = let p = length_end fs f in omega arith;
    }
    go (turn.Through q) g = (g.0, g.1 ∙ sym (origin_end fs f r.says.from), outcome_end fs f (Some (r.says.to, n)) ∙ g.2)
    go turn.Out g = (outcome_end fs f (Some (r.says.to, n)) ∙ g.0, g.1)

pub taken : (W : Shown) (gs fs : List Frame) (f : Frame) (x : Task) (r : Reduction) → gs ≡ fs ++ f ∷ [] → x ≡ task.Done r → Linked W gs (at_hand x) → Linked W fs f.split.says.from × Waits W f × (slice_get f.split.says.to (length f.done) ≡ Some r.says.from)
taken W gs fs f x r e d l = linked_taken W fs f r.says.from (subst (λ hs. Linked W hs r.says.from) e (subst (λ y. Linked W gs (at_hand y)) d l))

pub goes_from : (W : Shown) (gs fs : List Frame) (f : Frame) (x : Task) (r : Reduction) (n m : ℕ) (t : Turn) → gs ≡ fs ++ f ∷ [] → x ≡ task.Done r → Goes W fs f.split.says.from (resumed f (Some (r.says.to, n))) (2 * n + (length fs + 1)) t m
    → Goes W gs (at_hand x) (comes x n) (2 * n + (length gs + weight x)) t m
goes_from W gs fs f x r n m t e d g = subst (λ y. Goes W gs (at_hand y) (comes y n) (2 * n + (length gs + weight y)) t m) (sym d) (goes_taken W gs fs f r n m t e g)
