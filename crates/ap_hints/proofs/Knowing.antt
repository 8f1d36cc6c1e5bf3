-- Hints that are read in a world speak of it.
use Rattle.std.proofs.Common.{lit<, ◌&&◌, map, ◌≡◌, ◌+◌, ◌^◌, ◌<◌, nat_le, nat_lt, Bool, true, false, cond, IfSome, IfOk, Option, Some, None, is_some, unwrap_or, codes, List, [], ◌∷◌, ◌++◌, length, Result, Ok, Err, refl, ap, subst}
use Rattle.std.proofs.lemmas.Bool.{ltb-true}
use Rattle.ap_list.specs.Lists.{Each, is_among}
use Rattle.ap_list.proofs.Eachs.{each_append}
use Rattle.ap_value.specs.declared.symbol.Symbol.{Symbol}
use Rattle.ap_reader.specs.declared.form.Form.{Form}
use Rattle.ap_reader.specs.Tops.{layer_of, symbol_at, items_in, is_symbol, is_keyword}
use Rattle.ap_term.specs.declared.term.Term.{Term, out-Term}
use Rattle.ap_term.specs.declared.term.Term.TheOpen.{Term-F}
use Rattle.ap_term.specs.Terms.{term_size, vars_after}
use Rattle.ap_names.specs.Names.{Name, name_eq, root}
use Rattle.ap_world.specs.declared.entry.Entry.{Entry}
use Rattle.ap_world.specs.Primitives.{prim_of}
use Rattle.ap_world.specs.Sound.{is_head, known}
use Rattle.ap_world.specs.World.{Shown, function_of, theorem_of}
use Rattle.ap_translate.specs.Answers as translation
use Rattle.ap_translate.specs.declared.fault.TransKind.TheVariants as kinds
use Rattle.ap_translate.specs.Laws.{HasMacroFunctions}
use Rattle.ap_translate.specs.Table as table
use Rattle.ap_translate.proofs.Laws as law
use Rattle.ap_hints.specs.declared.fault.HintError.{HintError}
use Rattle.ap_hints.specs.declared.hint.Hints.{Hints}
use Rattle.ap_hints.specs.declared.said.Said.{Said}
use Rattle.ap_hints.specs.Answers.{Answer, ◌>>=◌, or_refused, each, Gives}
use Rattle.ap_hints.specs.Hinted.{as_instance, term_in, terms_in, begins, one_in, calls_by, calls_in, replaced_by, pair_in, pairs_in, may_replace, used, instance_of, instance_named, instance_by, use_by, use_in, alone, is_instance, uses_by, uses_in, few_enough, cases_in, call_only, scheme_in, nothing, once, forbidding, said_of, all_said, hint_of, goal_in, goal_of, with_hint, hint_said, hinted, entry_by, entries_in, hints_in}
use Rattle.ap_hints.specs.Known.{KnownTerm, KnownUse, KnownHint, KnownHints, no_hints}

-- what holds of an answer where it is one
abbrev pub Holds : {A : Type 0} → (A → Type 0) → Answer A → Type 0
Holds P (Ok a) = P a
Holds P (Err e) = Unit {0}

pub then_holds : {A B : Type 0} (P : A → Type 0) (Q : B → Type 0) (r : Answer A) (g : A → Answer B) → Holds P r → ((a : A) → P a → Holds Q (g a)) → Holds Q (r >>= g)
then_holds P Q (Ok a) g h k = k a h
then_holds P Q (Err e) g h k = tt

pub always : {A : Type 0} (r : Answer A) → Holds (λ a. Unit {0}) r
always (Ok a) = tt
always (Err e) = tt

cond_holds : {A : Type 0} (P : A → Type 0) (b : Bool) (r s : Answer A) → Holds P r → Holds P s → Holds P (cond b r s)
cond_holds P true r s h k = h
cond_holds P false r s h k = k

found_holds : {A B : Type 0} (Q : B → Type 0) (e : HintError) (o : Option A) (g : A → Answer B) → ((a : A) → o ≡ Some a → Holds Q (g a)) → Holds Q (or_refused e o >>= g)
found_holds Q e None g k = tt
found_holds Q e (Some a) g k = k a refl

each_holds : {A B : Type 0} (P : B → Type 0) (g : A → Answer B) → ((a : A) → Holds P (g a)) → (xs : List A) → Holds (Each P) (each g xs)
each_holds P g h [] = tt
each_holds P g h (x ∷ xs) =
    then_holds P (Each P) (g x) (λ y. each g xs >>= λ ys. Ok (y ∷ ys)) (h x)
    (λ y p. then_holds (Each P) (Each P) (each g xs) (λ ys. Ok (y ∷ ys)) (each_holds P g h xs) (λ ys ps. (p, ps)))

term_known : (W : List Entry) → HasMacroFunctions (function_of W) → (f : Form) → Holds (KnownTerm W) (term_in W f)
unfolding term_in
term_known W has f =
    seen (table.translated W None f)
    (law.then_holds (λ u. known (function_of W) u ≡ true) (λ u. known (function_of W) u ≡ true) (table.term_in W 400 None f) (table.within f.place)
    (law.in_holds W (λ g n. is_head (function_of W) g (prim_of g) n ≡ true) (λ b u. known (function_of W) u ≡ true) (law.known_keeps W has) 400 None f) small)
  where
    by_size : (b : Bool) (u : Term) → known (function_of W) u ≡ true → law.Holds (λ u. known (function_of W) u ≡ true) (cond b (Ok u) (translation.refused f.place kinds.TermTooLarge))
    by_size true u h = h
    by_size false u h = tt

    small : (u : Term) → known (function_of W) u ≡ true → law.Holds (λ u. known (function_of W) u ≡ true) (table.within f.place u)
    small u h = by_size (nat_le (term_size u) 4096) u h

    seen : (r : translation.Answer Term) → law.Holds (λ u. known (function_of W) u ≡ true) r → Holds (KnownTerm W) (as_instance r)
    seen (Ok u) h = h
    seen (Err e) h = tt

terms_known : (W : List Entry) → HasMacroFunctions (function_of W) → (f : Form) → Holds (Each (KnownTerm W)) (terms_in W f)
unfolding terms_in
terms_known W has f =
    found_holds (Each (KnownTerm W)) HintError.UnknownKeyword (items_in f) (each (term_in W)) (λ fs e. each_holds (KnownTerm W) (term_in W) (term_known W has) fs)

one_known : (W : List Entry) → HasMacroFunctions (function_of W) → (f : Form) → Holds (Each (KnownTerm W)) (one_in W f)
one_known W has f = then_holds (KnownTerm W) (Each (KnownTerm W)) (term_in W f) (λ u. Ok (u ∷ [])) (term_known W has f) (λ u h. (h, tt))

calls_known : (W : List Entry) → HasMacroFunctions (function_of W) → (f : Form) → Holds (Each (KnownTerm W)) (calls_in W f)
unfolding calls_in
calls_known W has f = go (begins (items_in f))
  where
    go : (o : Option Symbol) → Holds (Each (KnownTerm W)) (calls_by W f o)
    go (Some s) = one_known W has f
    go None = terms_known W has f

abbrev Cases : List Entry → List Term → Type 0
Cases W us = Each (KnownTerm W) us × (length us + 1 < 2 ^ 32)

cases_known : (W : List Entry) → HasMacroFunctions (function_of W) → (f : Form) → Holds (Cases W) (cases_in W f)
unfolding cases_in
cases_known W has f = then_holds (Each (KnownTerm W)) (Cases W) (terms_in W f) few_enough (terms_known W has f) (λ us h. go us h (nat_lt (length us + 1) (2 ^ 32)) refl)
  where
    go : (us : List Term) → Each (KnownTerm W) us → (b : Bool) → nat_lt (length us + 1) (2 ^ 32) ≡ b → Holds (Cases W) (cond b (Ok us) (Err HintError.UnknownKeyword))
    go us h true q = (h, ltb-true (length us + 1) (2 ^ 32) q)
    go us h false q = tt

scheme_known : (W : List Entry) → HasMacroFunctions (function_of W) → (f : Form) → Holds (KnownTerm W) (scheme_in W f)
unfolding scheme_in
scheme_known W has f = then_holds (KnownTerm W) (KnownTerm W) (term_in W f) (λ u. call_only u (out-Term u)) (term_known W has f) (λ u h. go u h (out-Term u))
  where
    go : (u : Term) → KnownTerm W u → (l : Term-F Term) → Holds (KnownTerm W) (call_only u l)
    go u h (Term-F.Call g us) = h
    go u h (Term-F.Var x) = tt
    go u h (Term-F.Quote v) = tt

-- what replaces a theorem's variables
abbrev Pairs : List Entry → List (Symbol × Term) → Type 0
Pairs W s = Each (λ (p : Symbol × Term). known (function_of W) p.1 ≡ true) s

pair_known : (W : List Entry) → HasMacroFunctions (function_of W) → (xs : List Symbol) (s : List (Symbol × Term)) → Pairs W s → (o : Option (List Form)) → Holds (Pairs W) (pair_in W xs s o)
pair_known W has xs s h None = tt
pair_known W has xs s h (Some []) = tt
pair_known W has xs s h (Some (v ∷ [])) = tt
pair_known W has xs s h (Some (v ∷ f ∷ g ∷ fs)) = tt
pair_known W has xs s h (Some (v ∷ f ∷ [])) = go (symbol_at (layer_of v))
  where
    more : (x : Symbol) (u : Term) → KnownTerm W u → Pairs W (s ++ (x, u) ∷ [])
    more x u k = each_append (λ (p : Symbol × Term). known (function_of W) p.1 ≡ true) s ((x, u) ∷ []) h (k, tt)

    go : (o : Option Symbol) → Holds (Pairs W) (replaced_by W xs s f o)
    go None = tt
    go (Some x) =
        cond_holds (Pairs W) (may_replace xs s x) (term_in W f >>= λ u. Ok (s ++ (x, u) ∷ [])) (Err HintError.BadInstance)
        (then_holds (KnownTerm W) (Pairs W) (term_in W f) (λ u. Ok (s ++ (x, u) ∷ [])) (term_known W has f) (more x)) tt

pairs_known : (W : List Entry) → HasMacroFunctions (function_of W) → (xs : List Symbol) (s : List (Symbol × Term)) → Pairs W s → (fs : List Form) → Holds (Pairs W) (pairs_in W xs s fs)
pairs_known W has xs s h [] = h
pairs_known W has xs s h (f ∷ fs) =
    then_holds (Pairs W) (Pairs W) (pair_in W xs s (items_in f)) (λ z. pairs_in W xs z fs) (pair_known W has xs s h (items_in f)) (λ z k. pairs_known W has xs z k fs)

instance_known : (W : List Entry) → HasMacroFunctions (function_of W) → (n : Symbol) (fs : List Form) → Holds (KnownUse W) (instance_of W n fs)
unfolding instance_of
instance_known W has n fs =
    found_holds (KnownUse W) HintError.BadInstance (theorem_of W n) (λ thm. pairs_in W (vars_after thm.term []) [] fs >>= λ s. Ok (used n s))
    (λ thm e. then_holds (Pairs W) (KnownUse W) (pairs_in W (vars_after thm.term []) [] fs) (λ s. Ok (used n s)) (pairs_known W has (vars_after thm.term []) [] tt fs)
    (λ s h. record { theorem = ap is_some e; pairs = h }))

use_known : (W : List Entry) → HasMacroFunctions (function_of W) → (f : Form) → Holds (KnownUse W) (use_in W f)
unfolding use_in
use_known W has f = go (symbol_at (layer_of f))
  where
    named : (fs : List Form) (o : Option Symbol) → Holds (KnownUse W) (instance_named W fs o)
    named fs None = tt
    named fs (Some n) = instance_known W has n fs

    by : (o : Option (List Form)) → Holds (KnownUse W) (instance_by W o)
    by None = tt
    by (Some []) = tt
    by (Some (k ∷ [])) = tt
    by (Some (k ∷ n ∷ fs)) =
        cond_holds (KnownUse W) (is_keyword (codes "INSTANCE") k) (instance_named W fs (symbol_at (layer_of n))) (Err HintError.UnknownKeyword) (named fs (symbol_at (layer_of n))) tt

    go : (o : Option Symbol) → Holds (KnownUse W) (use_by W f o)
    go (Some n) = instance_known W has n []
    go None = by (items_in f)

alone_known : (W : List Entry) → HasMacroFunctions (function_of W) → (f : Form) → Holds (Each (KnownUse W)) (alone W f)
alone_known W has f = then_holds (KnownUse W) (Each (KnownUse W)) (use_in W f) (λ u. Ok (u ∷ [])) (use_known W has f) (λ u h. (h, tt))

uses_known : (W : List Entry) → HasMacroFunctions (function_of W) → (f : Form) → Holds (Each (KnownUse W)) (uses_in W f)
unfolding uses_in
uses_known W has f = go (items_in f)
  where
    go : (o : Option (List Form)) → Holds (Each (KnownUse W)) (uses_by W f o)
    go None = alone_known W has f
    go (Some fs) = cond_holds (Each (KnownUse W)) (is_instance fs) (alone W f) (each (use_in W) fs) (alone_known W has f) (each_holds (KnownUse W) (use_in W) (use_known W has) fs)

-- what is said of a goal so far
record KnownSaid (W : List Entry) (s : Said) : Type 0 where
  expand : IfSome s.expand (Each (KnownTerm W))
  uses : IfSome s.uses (Each (KnownUse W))
  cases : IfSome s.cases (Cases W)
  scheme : IfSome s.scheme (KnownTerm W)

once_known : {A : Type 0} (P : A → Type 0) (W : List Entry) (o : Option A) (r : Answer A) (put : A → Said) → Holds P r → ((a : A) → P a → KnownSaid W (put a)) → Holds (KnownSaid W) (once o r put)
once_known P W (Some a) r put h k = tt
once_known P W None r put h k = then_holds P (KnownSaid W) r (λ a. Ok (put a)) h k

forbidding_known : (W : List Entry) (at_goal : Bool) (s : Said) → KnownSaid W s → (f : Form) → Holds (KnownSaid W) (forbidding at_goal s f)
forbidding_known W at_goal s h f = go s.no_induction (at_goal && is_symbol (codes "T") f)
  where
    go : (b d : Bool) → Holds (KnownSaid W) (cond b (Err HintError.Repeated) (cond d (Ok (record s { no_induction = true })) (Err HintError.UnknownKeyword)))
    go true d = tt
    go false true = record { expand = h.expand; uses = h.uses; cases = h.cases; scheme = h.scheme }
    go false false = tt

said_known : (w : Shown) → HasMacroFunctions (function_of w.entries) → (at_goal : Bool) (s : Said) → KnownSaid w.entries s → (k f : Form) → Holds (KnownSaid w.entries) (said_of w at_goal s k f)
unfolding said_of
said_known w has at_goal s h k f =
    let W = w.entries in
    let C = KnownSaid W in
    cond_holds C (is_keyword (codes "IN-THEORY") k) _ _
    (once_known (λ x. Unit {0}) W s.theory _ (λ x. record s { theory = Some x }) (always _) (λ x u. record { expand = h.expand; uses = h.uses; cases = h.cases; scheme = h.scheme }))
    (cond_holds C (is_keyword (codes "USE") k) _ _
    (once_known (Each (KnownUse W)) W s.uses _ (λ us. record s { uses = Some us }) (uses_known W has f) (λ us u. record { expand = h.expand; uses = u; cases = h.cases; scheme = h.scheme }))
    (cond_holds C (is_keyword (codes "CASES") k) _ _
    (once_known (Cases W) W s.cases _ (λ us. record s { cases = Some us }) (cases_known W has f) (λ us u. record { expand = h.expand; uses = h.uses; cases = u; scheme = h.scheme }))
    (cond_holds C (is_keyword (codes "EXPAND") k) _ _
    (once_known (Each (KnownTerm W)) W s.expand _ (λ us. record s { expand = Some us }) (calls_known W has f) (λ us u. record { expand = u; uses = h.uses; cases = h.cases; scheme = h.scheme }))
    (cond_holds C (is_keyword (codes "DO-NOT") k) _ _
    (once_known (λ x. Unit {0}) W s.skip _ (λ x. record s { skip = Some x }) (always _) (λ x u. record { expand = h.expand; uses = h.uses; cases = h.cases; scheme = h.scheme }))
    (cond_holds C (is_keyword (codes "INDUCT") k) _ _
    (once_known (KnownTerm W) W s.scheme _ (λ u. record s { scheme = Some u }) (scheme_known W has f) (λ x u. record { expand = h.expand; uses = h.uses; cases = h.cases; scheme = u }))
    (cond_holds C (is_keyword (codes "DO-NOT-INDUCT") k) (forbidding at_goal s f) (Err HintError.UnknownKeyword)
    (forbidding_known W at_goal s h f)
    tt))))))

all_known : (w : Shown) → HasMacroFunctions (function_of w.entries) → (at_goal : Bool) (s : Said) → KnownSaid w.entries s → (fs : List Form) → Holds (KnownSaid w.entries) (all_said w at_goal s fs)
all_known w has at_goal s h [] = h
all_known w has at_goal s h (k ∷ []) = tt
all_known w has at_goal s h (k ∷ f ∷ fs) =
    then_holds (KnownSaid w.entries) (KnownSaid w.entries) (said_of w at_goal s k f) (λ z. all_said w at_goal z fs) (said_known w has at_goal s h k f) (λ z u. all_known w has at_goal z u fs)

given_each : {A : Type 0} (P : A → Type 0) (o : Option (List A)) → IfSome o (Each P) → Each P (unwrap_or o [])
given_each P None h = tt
given_each P (Some xs) h = h

given_cases : (W : List Entry) (o : Option (List Term)) → IfSome o (Cases W) → Cases W (unwrap_or o [])
given_cases W None h = (tt, lit< tt)
given_cases W (Some us) h = h

hint_known : (W : List Entry) (goal : Name) (s : Said) → KnownSaid W s → KnownHint W (hint_of goal s)
hint_known W goal s h =
    let cases = given_cases W s.cases h.cases in
    record {
      expand = given_each (KnownTerm W) s.expand h.expand;
      uses = given_each (KnownUse W) s.uses h.uses;
      cases = cases.0;
      few = cases.1;
      scheme = h.scheme;
    }

hint_said_known : (w : Shown) → HasMacroFunctions (function_of w.entries) → (hs : Hints) → KnownHints w.entries hs → (fs : List Form) (goal : Name) → Holds (KnownHints w.entries) (hint_said w hs fs goal)
hint_said_known w has hs h fs goal =
    then_holds (KnownSaid w.entries) (KnownHints w.entries) (all_said w (name_eq goal root) nothing fs) (λ s. Ok (with_hint hs goal s))
    (all_known w has (name_eq goal root) nothing (record { expand = tt; uses = tt; cases = tt; scheme = tt }) fs)
    (λ s u. each_append (KnownHint w.entries) hs.list (hint_of goal s ∷ []) h (hint_known w.entries goal s u, tt))

entry_known : (w : Shown) → HasMacroFunctions (function_of w.entries) → (hs : Hints) → KnownHints w.entries hs → (o : Option (List Form)) → Holds (KnownHints w.entries) (entry_by w hs o)
entry_known w has hs h None = tt
entry_known w has hs h (Some []) = tt
entry_known w has hs h (Some (n ∷ fs)) =
    then_holds (λ x. Unit {0}) (KnownHints w.entries) (goal_in n) (hinted w hs fs) (always (goal_in n))
    (λ goal u. cond_holds (KnownHints w.entries) (is_among name_eq goal (map goal_of hs.list)) (Err HintError.Repeated) (hint_said w hs fs goal) tt (hint_said_known w has hs h fs goal))

entries_known : (w : Shown) → HasMacroFunctions (function_of w.entries) → (hs : Hints) → KnownHints w.entries hs → (fs : List Form) → Holds (KnownHints w.entries) (entries_in w hs fs)
entries_known w has hs h [] = h
entries_known w has hs h (f ∷ fs) =
    then_holds (KnownHints w.entries) (KnownHints w.entries) (entry_by w hs (items_in f)) (λ z. entries_in w z fs) (entry_known w has hs h (items_in f)) (λ z u. entries_known w has z u fs)

holds_ok : {A : Type 0} (P : A → Type 0) (r : Answer A) (a : A) → Holds P r → r ≡ Ok a → P a
holds_ok P (Ok b) a h q = let same : b ≡ a = cc in subst P same h
holds_ok P (Err e) a h q = absurd (no q)
  where
    no : Err e ≡ Ok a → ⊥
    no p = cc

given_ok : {A : Type 0} (P : A → Type 0) (r : Answer A) (q : Result A HintError) → Gives q r → Holds P r → IfOk q P
given_ok P r (Ok a) g h = holds_ok P r a h g
given_ok P r (Err e) g h = tt

-- the hints that are read in a world speak of it
pub hints_known : (w : Shown) (f : Form) (r : Result Hints HintError) → HasMacroFunctions (function_of w.entries) → Gives r (hints_in w f) → IfOk r (KnownHints w.entries)
unfolding hints_in
hints_known w f r has g =
    given_ok (KnownHints w.entries) (hints_in w f) r g
    (found_holds (KnownHints w.entries) HintError.UnknownKeyword (items_in f) (entries_in w no_hints) (λ fs e. entries_known w has no_hints tt fs))
