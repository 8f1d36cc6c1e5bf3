-- Each entry of the hints that are read is one hint, which says what stands under its keys.
use Rattle.std.proofs.Common.{map, ◌≡◌, ◌⊎◌, inl, inr, ℕ, Bool, true, false, cond, not, ◌&&◌, ◌||◌, Option, Some, None, is_some, unwrap_or, codes, List, [], ◌∷◌, ◌++◌, Ok, Err, refl, sym, ap, ◌∙◌, true≢false, append_assoc, append-nil, subst}
use Rattle.ap_list.specs.Lists.{is_among, is_distinct}
use Rattle.ap_value.specs.declared.symbol.Symbol.{Symbol}
use Rattle.ap_value.specs.Values.{bytes_eq}
use Rattle.ap_value.proofs.Equals.{bytes_eq-true}
use Rattle.ap_reader.specs.declared.form.Form.{Form}
use Rattle.ap_reader.specs.Tops.{layer_of, symbol_at, string_at, items_in, is_symbol, keyword_by, is_keyword}
use Rattle.ap_names.specs.Names.{Name, name_eq, root}
use Rattle.ap_names.proofs.Equal.{name_eq-true, name_eq-same}
use Rattle.ap_world.specs.World.{Shown}
use Rattle.ap_hints.specs.declared.fault.HintError.{HintError}
use Rattle.ap_hints.specs.declared.hint.Hints.{Hints}
use Rattle.ap_hints.specs.declared.said.Said.{Said}
use Rattle.ap_hints.specs.Answers.{Answer, ◌>>=◌, or_refused}
use Rattle.ap_hints.specs.Hinted.{theory_in, uses_in, cases_in, calls_in, processes_in, scheme_in, nothing, once, forbidding, said_of, all_said, hint_of, read_as, goal_in, goal_of, with_hint, hint_said, hinted, entry_by, entries_in, hints_in}
use Rattle.ap_hints.specs.Known.{no_hints}
use Rattle.ap_hints.specs.Laws.{named_first, goal_named, behind_first, value_of, under, read_by, listed_by, IsHintOf, forbid, EachWith, IsEachEntrysHint, EachEntryIsOneHint}
use Rattle.ap_hints.proofs.Knowing.{Holds, then_holds}

-- a name that isn't among others may stand behind them
or_false : (a b : Bool) → (a || b) ≡ false → (a ≡ false) × (b ≡ false)
or_false true b h = absurd (true≢false h)
or_false false b h = (refl, h)

and_true : (a b : Bool) → (a && b) ≡ true → (a ≡ true) × (b ≡ true)
and_true true b h = (refl, h)
and_true false b h = absurd (true≢false (sym h))

not_true : (a : Bool) → not a ≡ true → a ≡ false
not_true true h = absurd (true≢false (sym h))
not_true false h = refl

flip : (a b : Name) → name_eq a b ≡ false → name_eq b a ≡ false
flip a b h = go (name_eq b a) refl
  where
    go : (t : Bool) → name_eq b a ≡ t → t ≡ false
    go true q = absurd (true≢false (sym (name_eq-same a) ∙ ap (λ x. name_eq a x) (sym (name_eq-true b a q)) ∙ h))
    go false q = refl

among_last : (x s : Name) (xs : List Name) → name_eq s x ≡ false → is_among name_eq x xs ≡ false → is_among name_eq x (xs ++ s ∷ []) ≡ false
among_last x s [] h k = ap (λ b. b || false) (flip s x h)
among_last x s (y ∷ ys) h k =
    let p = or_false (name_eq x y) (is_among name_eq x ys) k in
    ap (λ b. b || is_among name_eq x (ys ++ s ∷ [])) p.0 ∙ among_last x s ys h p.1

distinct_last : (s : Name) (xs : List Name) → is_among name_eq s xs ≡ false → is_distinct name_eq xs ≡ true → is_distinct name_eq (xs ++ s ∷ []) ≡ true
distinct_last s [] h d = refl
distinct_last s (x ∷ xs) h d =
    let p = or_false (name_eq s x) (is_among name_eq s xs) h in
    let q = and_true (not (is_among name_eq x xs)) (is_distinct name_eq xs) d in
    ap (λ b. not b && is_distinct name_eq (xs ++ s ∷ [])) (among_last x s xs p.0 (not_true (is_among name_eq x xs) q.0))
    ∙ distinct_last s xs p.1 q.1

map_last : {A B : Type 0} (f : A → B) (xs : List A) (x : A) → map f (xs ++ x ∷ []) ≡ map f xs ++ f x ∷ []
map_last f [] x = refl
map_last f (y ∷ ys) x = ap (λ zs. f y ∷ zs) (map_last f ys x)

-- a form is one keyword at most
unlike : (m n : List ℕ) (k : Form) → bytes_eq m n ≡ false → is_keyword m k ≡ true → is_keyword n k ≡ false
unlike m n k differ = go (symbol_at (layer_of k))
  where
    by : (b : Bool) (name : List ℕ) → (b && bytes_eq name m) ≡ true → (b && bytes_eq name n) ≡ false
    by false name h = refl
    by true name h = ap (λ x. bytes_eq x n) (bytes_eq-true name m h) ∙ differ

    go : (o : Option Symbol) → keyword_by m o ≡ true → keyword_by n o ≡ false
    go None h = refl
    go (Some s) h = by s.keyword s.name h

-- what one key with its value does to what is said under a key: it is that key, under which nothing was said, or another
record Taken {A : Type 0} (key : List ℕ) (g : Form → Answer A) (k f : Form) (old new : Option A) : Type 0 where
  is : is_keyword key k ≡ true
  blank : old ≡ None
  value : A
  read : g f ≡ Ok value
  kept : new ≡ Some value

abbrev Left : {A : Type 0} → List ℕ → Form → A → A → Type 0
Left key k old new = (is_keyword key k ≡ false) × (new ≡ old)

abbrev Moved : {A : Type 0} → List ℕ → (Form → Answer A) → Form → Form → Option A → Option A → Type 0
Moved key g k f old new = Taken key g k f old new ⊎ Left key k old new

record Forbids (k : Form) (old new : Bool) : Type 0 where
  is : is_keyword (codes "DO-NOT-INDUCT") k ≡ true
  blank : old ≡ false
  kept : new ≡ true

record Moves (w : Shown) (k f : Form) (s z : Said) : Type 0 where
  theory : Moved (codes "IN-THEORY") (theory_in w) k f s.theory z.theory
  uses : Moved (codes "USE") (uses_in w.entries) k f s.uses z.uses
  cases : Moved (codes "CASES") (cases_in w.entries) k f s.cases z.cases
  expand : Moved (codes "EXPAND") (calls_in w.entries) k f s.expand z.expand
  skip : Moved (codes "DO-NOT") (processes_in) k f s.skip z.skip
  scheme : Moved (codes "INDUCT") (scheme_in w.entries) k f s.scheme z.scheme
  forbids : Forbids k s.no_induction z.no_induction ⊎ Left (codes "DO-NOT-INDUCT") k s.no_induction z.no_induction

if_holds : {A : Type 0} (P : A → Type 0) (b : Bool) (r t : Answer A) → (b ≡ true → Holds P r) → Holds P t → Holds P (cond b r t)
if_holds P true r t h k = h refl
if_holds P false r t h k = k

once_holds : {A : Type 0} (P : Said → Type 0) (o : Option A) (r : Answer A) (put : A → Said) → (o ≡ None → (a : A) → r ≡ Ok a → P (put a)) → Holds P (once o r put)
once_holds P (Some a) r put h = tt
once_holds P None (Ok a) put h = h refl a refl
once_holds P None (Err e) put h = tt

forbidding_holds : (P : Said → Type 0) (at_goal : Bool) (s : Said) (f : Form) → (s.no_induction ≡ false → P (record s { no_induction = true })) → Holds P (forbidding at_goal s f)
forbidding_holds P at_goal s f h = go s.no_induction refl (at_goal && is_symbol (codes "T") f)
  where
    go : (b : Bool) → s.no_induction ≡ b → (d : Bool) → Holds P (cond b (Err HintError.Repeated) (cond d (Ok (record s { no_induction = true })) (Err HintError.UnknownKeyword)))
    go true q d = tt
    go false q true = h q
    go false q false = tt

said_moves : (w : Shown) (at_goal : Bool) (s : Said) (k f : Form) → Holds (Moves w k f s) (said_of w at_goal s k f)
unfolding said_of
said_moves w at_goal s k f =
    if_holds (Moves w k f s) (is_keyword (codes "IN-THEORY") k) _ _
    (λ h. once_holds (Moves w k f s) s.theory (theory_in w f) (λ x. record s { theory = Some x }) (λ e a q. record {
      theory = inl (record { is = h; blank = e; value = a; read = q; kept = refl });
      uses = inr (unlike (codes "IN-THEORY") (codes "USE") k refl h, refl);
      cases = inr (unlike (codes "IN-THEORY") (codes "CASES") k refl h, refl);
      expand = inr (unlike (codes "IN-THEORY") (codes "EXPAND") k refl h, refl);
      skip = inr (unlike (codes "IN-THEORY") (codes "DO-NOT") k refl h, refl);
      scheme = inr (unlike (codes "IN-THEORY") (codes "INDUCT") k refl h, refl);
      forbids = inr (unlike (codes "IN-THEORY") (codes "DO-NOT-INDUCT") k refl h, refl);
    }))
    (if_holds (Moves w k f s) (is_keyword (codes "USE") k) _ _
    (λ h. once_holds (Moves w k f s) s.uses (uses_in w.entries f) (λ x. record s { uses = Some x }) (λ e a q. record {
      theory = inr (unlike (codes "USE") (codes "IN-THEORY") k refl h, refl);
      uses = inl (record { is = h; blank = e; value = a; read = q; kept = refl });
      cases = inr (unlike (codes "USE") (codes "CASES") k refl h, refl);
      expand = inr (unlike (codes "USE") (codes "EXPAND") k refl h, refl);
      skip = inr (unlike (codes "USE") (codes "DO-NOT") k refl h, refl);
      scheme = inr (unlike (codes "USE") (codes "INDUCT") k refl h, refl);
      forbids = inr (unlike (codes "USE") (codes "DO-NOT-INDUCT") k refl h, refl);
    }))
    (if_holds (Moves w k f s) (is_keyword (codes "CASES") k) _ _
    (λ h. once_holds (Moves w k f s) s.cases (cases_in w.entries f) (λ x. record s { cases = Some x }) (λ e a q. record {
      theory = inr (unlike (codes "CASES") (codes "IN-THEORY") k refl h, refl);
      uses = inr (unlike (codes "CASES") (codes "USE") k refl h, refl);
      cases = inl (record { is = h; blank = e; value = a; read = q; kept = refl });
      expand = inr (unlike (codes "CASES") (codes "EXPAND") k refl h, refl);
      skip = inr (unlike (codes "CASES") (codes "DO-NOT") k refl h, refl);
      scheme = inr (unlike (codes "CASES") (codes "INDUCT") k refl h, refl);
      forbids = inr (unlike (codes "CASES") (codes "DO-NOT-INDUCT") k refl h, refl);
    }))
    (if_holds (Moves w k f s) (is_keyword (codes "EXPAND") k) _ _
    (λ h. once_holds (Moves w k f s) s.expand (calls_in w.entries f) (λ x. record s { expand = Some x }) (λ e a q. record {
      theory = inr (unlike (codes "EXPAND") (codes "IN-THEORY") k refl h, refl);
      uses = inr (unlike (codes "EXPAND") (codes "USE") k refl h, refl);
      cases = inr (unlike (codes "EXPAND") (codes "CASES") k refl h, refl);
      expand = inl (record { is = h; blank = e; value = a; read = q; kept = refl });
      skip = inr (unlike (codes "EXPAND") (codes "DO-NOT") k refl h, refl);
      scheme = inr (unlike (codes "EXPAND") (codes "INDUCT") k refl h, refl);
      forbids = inr (unlike (codes "EXPAND") (codes "DO-NOT-INDUCT") k refl h, refl);
    }))
    (if_holds (Moves w k f s) (is_keyword (codes "DO-NOT") k) _ _
    (λ h. once_holds (Moves w k f s) s.skip (processes_in f) (λ x. record s { skip = Some x }) (λ e a q. record {
      theory = inr (unlike (codes "DO-NOT") (codes "IN-THEORY") k refl h, refl);
      uses = inr (unlike (codes "DO-NOT") (codes "USE") k refl h, refl);
      cases = inr (unlike (codes "DO-NOT") (codes "CASES") k refl h, refl);
      expand = inr (unlike (codes "DO-NOT") (codes "EXPAND") k refl h, refl);
      skip = inl (record { is = h; blank = e; value = a; read = q; kept = refl });
      scheme = inr (unlike (codes "DO-NOT") (codes "INDUCT") k refl h, refl);
      forbids = inr (unlike (codes "DO-NOT") (codes "DO-NOT-INDUCT") k refl h, refl);
    }))
    (if_holds (Moves w k f s) (is_keyword (codes "INDUCT") k) _ _
    (λ h. once_holds (Moves w k f s) s.scheme (scheme_in w.entries f) (λ x. record s { scheme = Some x }) (λ e a q. record {
      theory = inr (unlike (codes "INDUCT") (codes "IN-THEORY") k refl h, refl);
      uses = inr (unlike (codes "INDUCT") (codes "USE") k refl h, refl);
      cases = inr (unlike (codes "INDUCT") (codes "CASES") k refl h, refl);
      expand = inr (unlike (codes "INDUCT") (codes "EXPAND") k refl h, refl);
      skip = inr (unlike (codes "INDUCT") (codes "DO-NOT") k refl h, refl);
      scheme = inl (record { is = h; blank = e; value = a; read = q; kept = refl });
      forbids = inr (unlike (codes "INDUCT") (codes "DO-NOT-INDUCT") k refl h, refl);
    }))
    (if_holds (Moves w k f s) (is_keyword (codes "DO-NOT-INDUCT") k) (forbidding at_goal s f) (Err HintError.UnknownKeyword)
    (λ h. forbidding_holds (Moves w k f s) at_goal s f (λ e. record {
      theory = inr (unlike (codes "DO-NOT-INDUCT") (codes "IN-THEORY") k refl h, refl);
      uses = inr (unlike (codes "DO-NOT-INDUCT") (codes "USE") k refl h, refl);
      cases = inr (unlike (codes "DO-NOT-INDUCT") (codes "CASES") k refl h, refl);
      expand = inr (unlike (codes "DO-NOT-INDUCT") (codes "EXPAND") k refl h, refl);
      skip = inr (unlike (codes "DO-NOT-INDUCT") (codes "DO-NOT") k refl h, refl);
      scheme = inr (unlike (codes "DO-NOT-INDUCT") (codes "INDUCT") k refl h, refl);
      forbids = inl (record { is = h; blank = e; kept = refl });
    }))
    tt))))))

-- what keys and values one after another say under a key, where nothing is said there so far; else it stays
abbrev Final : {A : Type 0} → List ℕ → (Form → Answer A) → List Form → Option A → Option A → Type 0
Final key g fs None new = read_by g (value_of key fs) ≡ Ok new
Final key g fs (Some a) new = new ≡ Some a

abbrev FinalFlag : List Form → Bool → Bool → Type 0
FinalFlag fs false new = is_some (value_of (codes "DO-NOT-INDUCT") fs) ≡ new
FinalFlag fs true new = new ≡ true

final_next : {A : Type 0} (key : List ℕ) (g : Form → Answer A) (k f : Form) (fs : List Form) (old mid new : Option A)
    → Moved key g k f old mid → Final key g fs mid new → Final key g (k ∷ f ∷ fs) old new
final_next {A = A} key g k f fs old mid new (inr m) h = go old (subst (λ o. Final key g fs o new) m.1 h)
  where
    go : (o : Option A) → Final key g fs o new → Final key g (k ∷ f ∷ fs) o new
    go (Some a) q = q
    go None q = ap (λ b. read_by g (cond b (Some f) (value_of key fs))) m.0 ∙ q
final_next key g k f fs old mid new (inl m) h =
    subst (λ o. Final key g (k ∷ f ∷ fs) o new) (sym m.blank)
    (ap (λ b. read_by g (cond b (Some f) (value_of key fs))) m.is ∙ ap (λ r. r >>= λ a. Ok (Some a)) m.read
    ∙ ap Ok (sym (subst (λ o. Final key g fs o new) m.kept h)))

flag_next : (k f : Form) (fs : List Form) (old mid new : Bool)
    → Forbids k old mid ⊎ Left (codes "DO-NOT-INDUCT") k old mid → FinalFlag fs mid new → FinalFlag (k ∷ f ∷ fs) old new
flag_next k f fs old mid new (inr m) h = go old (subst (λ b. FinalFlag fs b new) m.1 h)
  where
    go : (b : Bool) → FinalFlag fs b new → FinalFlag (k ∷ f ∷ fs) b new
    go true q = q
    go false q = ap (λ b. is_some (cond b (Some f) (value_of (codes "DO-NOT-INDUCT") fs))) m.0 ∙ q
flag_next k f fs old mid new (inl m) h =
    subst (λ b. FinalFlag (k ∷ f ∷ fs) b new) (sym m.blank)
    (ap (λ b. is_some (cond b (Some f) (value_of (codes "DO-NOT-INDUCT") fs))) m.is ∙ sym (subst (λ b. FinalFlag fs b new) m.kept h))

final_none : {A : Type 0} (key : List ℕ) (g : Form → Answer A) (o : Option A) → Final key g [] o o
final_none key g None = refl
final_none key g (Some a) = refl

flag_none : (b : Bool) → FinalFlag [] b b
flag_none true = refl
flag_none false = refl

-- what is said from what was said so far on
record Says (w : Shown) (fs : List Form) (s z : Said) : Type 0 where
  theory : Final (codes "IN-THEORY") (theory_in w) fs s.theory z.theory
  uses : Final (codes "USE") (uses_in w.entries) fs s.uses z.uses
  cases : Final (codes "CASES") (cases_in w.entries) fs s.cases z.cases
  expand : Final (codes "EXPAND") (calls_in w.entries) fs s.expand z.expand
  skip : Final (codes "DO-NOT") (processes_in) fs s.skip z.skip
  scheme : Final (codes "INDUCT") (scheme_in w.entries) fs s.scheme z.scheme
  forbids : FinalFlag fs s.no_induction z.no_induction

says_next : (w : Shown) (k f : Form) (fs : List Form) (s m z : Said) → Moves w k f s m → Says w fs m z → Says w (k ∷ f ∷ fs) s z
says_next w k f fs s m z a b = record {
  theory = final_next (codes "IN-THEORY") (theory_in w) k f fs s.theory m.theory z.theory a.theory b.theory;
  uses = final_next (codes "USE") (uses_in w.entries) k f fs s.uses m.uses z.uses a.uses b.uses;
  cases = final_next (codes "CASES") (cases_in w.entries) k f fs s.cases m.cases z.cases a.cases b.cases;
  expand = final_next (codes "EXPAND") (calls_in w.entries) k f fs s.expand m.expand z.expand a.expand b.expand;
  skip = final_next (codes "DO-NOT") (processes_in) k f fs s.skip m.skip z.skip a.skip b.skip;
  scheme = final_next (codes "INDUCT") (scheme_in w.entries) k f fs s.scheme m.scheme z.scheme a.scheme b.scheme;
  forbids = flag_next k f fs s.no_induction m.no_induction z.no_induction a.forbids b.forbids;
}

holds_of : {A : Type 0} (P Q : A → Type 0) (r : Answer A) → ((a : A) → P a → Q a) → Holds P r → Holds Q r
holds_of P Q (Ok a) h k = h a k
holds_of P Q (Err e) h k = tt

all_says : (w : Shown) (at_goal : Bool) (s : Said) (fs : List Form) → Holds (Says w fs s) (all_said w at_goal s fs)
all_says w at_goal s [] = record {
  theory = final_none (codes "IN-THEORY") (theory_in w) s.theory;
  uses = final_none (codes "USE") (uses_in w.entries) s.uses;
  cases = final_none (codes "CASES") (cases_in w.entries) s.cases;
  expand = final_none (codes "EXPAND") (calls_in w.entries) s.expand;
  skip = final_none (codes "DO-NOT") (processes_in) s.skip;
  scheme = final_none (codes "INDUCT") (scheme_in w.entries) s.scheme;
  forbids = flag_none s.no_induction;
}
all_says w at_goal s (k ∷ []) = tt
all_says w at_goal s (k ∷ f ∷ fs) =
    then_holds (Moves w k f s) (Says w (k ∷ f ∷ fs) s) (said_of w at_goal s k f) (λ z. all_said w at_goal z fs) (said_moves w at_goal s k f)
    (λ m a. holds_of (Says w fs m) (Says w (k ∷ f ∷ fs) s) (all_said w at_goal m fs) (λ z b. says_next w k f fs s m z a b) (all_says w at_goal m fs))

-- a list that isn't said is empty
listed : {A : Type 0} (g : Form → Answer (List A)) (o : Option Form) (x : Option (List A)) → read_by g o ≡ Ok x → listed_by g o ≡ Ok (unwrap_or x [])
listed g None x h = let none : None ≡ x = cc in ap (λ y. Ok (unwrap_or y [])) none
listed {A = A} g (Some f) x h = go (g f) h
  where
    go : (r : Answer (List A)) → (r >>= λ a. Ok (Some a)) ≡ Ok x → r ≡ Ok (unwrap_or x [])
    go (Err e) k = absurd (cc)
    go (Ok a) k = let same : Some a ≡ x = cc in ap (λ y. Ok (unwrap_or y [])) same

-- the hints so far are those of the entries that were read
record Named (w : Shown) (fs : List Form) (hs : Hints) : Type 0 where
  each : EachWith (IsHintOf w) fs hs.list
  once : is_distinct name_eq (map goal_of hs.list) ≡ true
  forbids : forbid fs ≡ hs.do_not_induct

each_last : {A B : Type 0} (P : A → B → Type 0) (xs : List A) (ys : List B) (x : A) (y : B) → EachWith P xs ys → P x y → EachWith P (xs ++ x ∷ []) (ys ++ y ∷ [])
each_last P [] [] x y h k = (k, tt)
each_last P [] (v ∷ vs) x y h k = absurd h
each_last P (z ∷ zs) [] x y h k = absurd h
each_last P (z ∷ zs) (v ∷ vs) x y h k = (h.0, each_last P zs vs x y h.1 k)

forbid_last : (fs : List Form) (f : Form) (b c : Bool) → forbid fs ≡ b → is_some (under (codes "DO-NOT-INDUCT") f) ≡ c → forbid (fs ++ f ∷ []) ≡ cond c true b
forbid_last [] f false true h k = ap (λ x. x || false) k
forbid_last [] f false false h k = ap (λ x. x || false) k
forbid_last [] f true c h k = absurd (true≢false (sym h))
forbid_last (e ∷ es) f b c h k = go (is_some (under (codes "DO-NOT-INDUCT") e)) h (λ q. forbid_last es f b c q k)
  where
    either : (d : Bool) → true ≡ cond d true true
    either true = refl
    either false = refl

    go : (d : Bool) → (d || forbid es) ≡ b → (forbid es ≡ b → forbid (es ++ f ∷ []) ≡ cond c true b) → (d || forbid (es ++ f ∷ [])) ≡ cond c true b
    go true q more = either c ∙ ap (λ x. cond c true x) q
    go false q more = more q

named_next : (w : Shown) (fs : List Form) (hs : Hints) (f : Form) (rest : List Form) (goal : Name) (s : Said) → Named w fs hs → goal_named f ≡ Some goal
    → behind_first (items_in f) ≡ rest → Says w rest nothing s → is_among name_eq goal (map goal_of hs.list) ≡ false → Named w (fs ++ f ∷ []) (with_hint hs goal s)
named_next w fs hs f rest goal s h is behind says new =
    let at = λ (P : List Form → Type 0) (p : P rest). subst P (sym behind) p in
    let hint : IsHintOf w f (hint_of goal s) = record {
      goal = is;
      theory = at (λ gs. read_by (theory_in w) (value_of (codes "IN-THEORY") gs) ≡ Ok s.theory) says.theory;
      uses = listed (uses_in w.entries) (under (codes "USE") f) s.uses (at (λ gs. read_by (uses_in w.entries) (value_of (codes "USE") gs) ≡ Ok s.uses) says.uses);
      cases = listed (cases_in w.entries) (under (codes "CASES") f) s.cases (at (λ gs. read_by (cases_in w.entries) (value_of (codes "CASES") gs) ≡ Ok s.cases) says.cases);
      expand = listed (calls_in w.entries) (under (codes "EXPAND") f) s.expand (at (λ gs. read_by (calls_in w.entries) (value_of (codes "EXPAND") gs) ≡ Ok s.expand) says.expand);
      skip = listed (processes_in) (under (codes "DO-NOT") f) s.skip (at (λ gs. read_by (processes_in) (value_of (codes "DO-NOT") gs) ≡ Ok s.skip) says.skip);
      scheme = at (λ gs. read_by (scheme_in w.entries) (value_of (codes "INDUCT") gs) ≡ Ok s.scheme) says.scheme;
    } in
    record {
      each = each_last (IsHintOf w) fs hs.list f (hint_of goal s) h.each hint;
      once =
          ap (is_distinct name_eq) (map_last goal_of hs.list (hint_of goal s)) ∙ distinct_last goal (map goal_of hs.list) new h.once;
      forbids = forbid_last fs f hs.do_not_induct s.no_induction h.forbids (at (λ gs. is_some (value_of (codes "DO-NOT-INDUCT") gs) ≡ s.no_induction) says.forbids);
    }

goal_read : (n : Form) → Holds (λ goal. read_as (string_at (layer_of n)) ≡ Some goal) (goal_in n)
unfolding goal_in
goal_read n = go (read_as (string_at (layer_of n))) refl
  where
    go : (o : Option Name) → read_as (string_at (layer_of n)) ≡ o → Holds (λ goal. read_as (string_at (layer_of n)) ≡ Some goal) (or_refused HintError.BadGoalName o)
    go None q = tt
    go (Some goal) q = q

hinted_named : (w : Shown) (fs : List Form) (hs : Hints) (f : Form) (rest : List Form) (goal : Name) → Named w fs hs → goal_named f ≡ Some goal
    → behind_first (items_in f) ≡ rest → Holds (Named w (fs ++ f ∷ [])) (hinted w hs rest goal)
hinted_named w fs hs f rest goal h is behind = go (is_among name_eq goal (map goal_of hs.list)) refl
  where
    go : (b : Bool) → is_among name_eq goal (map goal_of hs.list) ≡ b → Holds (Named w (fs ++ f ∷ [])) (cond b (Err HintError.Repeated) (hint_said w hs rest goal))
    go true q = tt
    go false q =
        then_holds (Says w rest nothing) (Named w (fs ++ f ∷ [])) (all_said w (name_eq goal root) nothing rest) (λ s. Ok (with_hint hs goal s))
        (all_says w (name_eq goal root) nothing rest) (λ s u. named_next w fs hs f rest goal s h is behind u q)

entry_named : (w : Shown) (fs : List Form) (hs : Hints) (f : Form) → Named w fs hs → Holds (Named w (fs ++ f ∷ [])) (entry_by w hs (items_in f))
entry_named w fs hs f h = go (items_in f) refl
  where
    go : (o : Option (List Form)) → items_in f ≡ o → Holds (Named w (fs ++ f ∷ [])) (entry_by w hs o)
    go None q = tt
    go (Some []) q = tt
    go (Some (n ∷ rest)) q =
        then_holds (λ goal. read_as (string_at (layer_of n)) ≡ Some goal) (Named w (fs ++ f ∷ [])) (goal_in n) (hinted w hs rest)
        (goal_read n) (λ goal k. hinted_named w fs hs f rest goal h (ap named_first q ∙ k) (ap behind_first q))

entries_named : (w : Shown) (before fs : List Form) (hs : Hints) → Named w before hs → Holds (Named w (before ++ fs)) (entries_in w hs fs)
entries_named w before [] hs h = subst (λ gs. Named w gs hs) (sym (append-nil before)) h
entries_named w before (f ∷ fs) hs h =
    subst (λ gs. Holds (Named w gs) (entries_in w hs (f ∷ fs))) (append_assoc before (f ∷ []) fs)
    (then_holds (Named w (before ++ f ∷ [])) (Named w ((before ++ f ∷ []) ++ fs)) (entry_by w hs (items_in f)) (λ z. entries_in w z fs)
    (entry_named w before hs f h) (λ z k. entries_named w (before ++ f ∷ []) fs z k))

-- the hints that are read are those of the form's entries
pub each_entry_is_one_hint : EachEntryIsOneHint
unfolding hints_in
each_entry_is_one_hint w f hs told = go (items_in f) refl told
  where
    made : (fs : List Form) → items_in f ≡ Some fs → (r : Answer Hints) → Holds (Named w fs) r → r ≡ Ok hs → IsEachEntrysHint w f hs
    made fs q (Err e) h k = absurd (cc)
    made fs q (Ok z) h k =
        let same : z ≡ hs = cc in
        let is = subst (Named w fs) same h in
        record { entries = fs; stand = q; each = is.each; once = is.once; forbids = is.forbids }

    go : (o : Option (List Form)) → items_in f ≡ o → (or_refused HintError.UnknownKeyword o >>= entries_in w no_hints) ≡ Ok hs → IsEachEntrysHint w f hs
    go None q k = absurd (cc)
    go (Some fs) q k = made fs q (entries_in w no_hints fs) (entries_named w [] fs no_hints (record { each = tt; once = refl; forbids = refl })) k
