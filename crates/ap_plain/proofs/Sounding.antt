-- Each world that an event passes through is good.
use Rattle.std.proofs.Common.{◌≡◌, ℕ, ◌+◌, ◌≤◌, Bool, true, false, cond, List, [], ◌∷◌, ◌++◌, map, Option, Some, None, Result, Ok, Err, refl, sym, ap, ◌∙◌, subst, true≢false, IsTrue, nat_le}
use Rattle.ap_list.specs.Lists.{Each, all_true, is_distinct}
use Rattle.ap_value.specs.declared.symbol.Symbol.{Symbol}
use Rattle.ap_value.specs.declared.value.Value.{Value}
use Rattle.ap_value.specs.Values.{symbol_eq}
use Rattle.ap_term.specs.declared.term.Term.{Term}
use Rattle.ap_term.specs.declared.term.Clause.{Clause}
use Rattle.ap_term.specs.Terms.{term_size}
use Rattle.ap_world.specs.declared.entry.Entry.{Entry}
use Rattle.ap_world.specs.declared.entry.Entry.TheVariants as entry
use Rattle.ap_world.specs.declared.entry.Defun.{Defun}
use Rattle.ap_world.specs.declared.entry.Measure.{Measure}
use Rattle.ap_world.specs.declared.entry.Theorem.{Theorem}
use Rattle.ap_world.specs.Clauses.{flat}
use Rattle.ap_world.specs.Meaning.{Valid}
use Rattle.ap_world.specs.Primitives.{prim_of}
use Rattle.ap_world.specs.Recursion.{has_no_call, measure_of}
use Rattle.ap_world.specs.Sound.{known, is_head, speaks_of, components, HasFunctions, Sound}
use Rattle.ap_world.specs.Theories.{ShownTheory}
use Rattle.ap_world.specs.World.{Shown, function_of, name_in, has_name, are_distinct, added}
use Rattle.ap_world.proofs.Adding.{sound-theorem, sound-constant, has_functions-more}
use Rattle.ap_world.proofs.Places.{distinct_more}
use Rattle.ap_reader.specs.declared.form.Form.{Form}
use Rattle.ap_translate.specs.Answers as translation
use Rattle.ap_translate.specs.declared.fault.TransKind.TheVariants as kinds
use Rattle.ap_translate.specs.Parts.{layer_of}
use Rattle.ap_translate.specs.Laws.{HasMacroFunctions}
use Rattle.ap_translate.specs.Names.{can_be_bound}
use Rattle.ap_translate.specs.Table.{Bound, term_in, translated, within}
use Rattle.ap_translate.specs.Written.{written}
use Rattle.ap_translate.proofs.Laws as translating
use Rattle.ap_hints.specs.declared.hint.Hints.{Hints}
use Rattle.ap_hints.specs.Changes.{Changed, changed_theory}
use Rattle.ap_hints.specs.Answers as hinting
use Rattle.ap_hints.specs.Forms.{symbol_at}
use Rattle.ap_hints.specs.Hinted.{hints_in}
use Rattle.ap_hints.specs.Known.{KnownHints, no_hints}
use Rattle.ap_hints.proofs.Knowing.{hints_known}
use Rattle.ap_rules.specs.declared.refusing.RuleError.{RuleError}
use Rattle.ap_rules.specs.Refused.{refusal}
use Rattle.ap_kernel.specs.Reductions.{KnownClause}
use Rattle.ap_clausify.proofs.Implied.{clausifies}
use Rattle.ap_admit.specs.Admission.{with_function}
use Rattle.ap_attempt.specs.declared.verdict.Verdict.{Verdict}
use Rattle.ap_attempt.specs.Attempts.{RootedWalk}
use Rattle.ap_attempt.proofs.Keeping.{attempt_good}
use Rattle.ap_strategy.specs.declared.plan.Plan.{Plan}
use Rattle.ap_strategy.specs.Goals.{Goal, defs_of, clause_goal, inducted}
use Rattle.ap_strategy.specs.Laws.{kernel_ground, tells, deeper, whole, by_induction}
use Rattle.ap_strategy.specs.Steps.{step_of, depth_of, IsGood}
use Rattle.ap_stated.specs.declared.definition.Terminating.{Terminating}
use Rattle.ap_walk.specs.declared.rule.Rule.{Rule}
use Rattle.ap_plain.specs.declared.kinds.Kind.{Kind}
use Rattle.ap_plain.specs.declared.kinds.Kind.TheVariants as kind
use Rattle.ap_plain.specs.declared.limits.Limits.{Limits}
use Rattle.ap_stated.specs.declared.owed.Owed.{Owed}
use Rattle.ap_plain.specs.declared.proposing.Proposal.{Proposal}
use Rattle.ap_plain.specs.declared.proposing.Proposal.TheVariants as proposal
use Rattle.ap_stated.specs.declared.refusing.Refusal.{Refusal}
use Rattle.ap_plain.specs.Attempts.{Tried, first_rule, plan_for, tried_from, where_qed, tried}
use Rattle.ap_plain.specs.Changes.{changes_of, changed_event, theory_event}
use Rattle.ap_plain.specs.Constants.{valued_constant, stated_constant, written_constant, constant_event}
use Rattle.ap_stated.specs.Definitions.{Ends, IsDefinition, without_measure, terminating, measured, stated_definition}
use Rattle.ap_plain.specs.Ends.{Done, passed, walked, worlds_in}
use Rattle.ap_plain.specs.Events.{kind_of, theorem_event, definition_event, event_by, headed_event, event_with, event_of}
use Rattle.ap_stated.specs.Hinting.{given_hints}
use Rattle.ap_plain.specs.Laws.{GoodWorld, EventsKeepGood}
use Rattle.ap_stated.specs.Prepared.{IsPrepared}
use Rattle.ap_plain.specs.Proposals.{proposed_theorem, proposed_definition, opening_of, owed_of, name_of, entry_in, with_theory, without_name, left, put, IsStated, proved_event, hinted_event, proposed_event}
use Rattle.ap_stated.specs.Refusals.{Answer, ◌>>=◌, unless, as_translated, as_hinted}
use Rattle.ap_stated.specs.Shapes.{Stated, Defined, head_of, statement_of, definition_of, constant_of}
use Rattle.ap_stated.specs.Theorems.{theorem_of, ruled_by, ruled, stated_theorem, IsTheorem}
use Rattle.ap_stated.specs.Translating.{formal_names, formal_names_by, formal_in, formal_by, guard_forms, component_forms, translated_all, translated_measure, stub, prepared_definition, translated_parts, translated_definition}
use Rattle.ap_stated.proofs.Defining.{macro_functions, owed_known, sound_definition, sound_stub}
use Rattle.ap_stated.proofs.Formals.{distinct_last}
use Rattle.ap_stated.proofs.Preparing.{is_prepared}

-- What is told.

no_worlds : (ws : List (RootedWalk Goal)) → worlds_in (map walked ws) ≡ []
no_worlds [] = refl
no_worlds (w ∷ ws) = no_worlds ws

one_world : (ws : List (RootedWalk Goal)) (v : Shown) → worlds_in (map walked ws ++ passed v ∷ []) ≡ v ∷ []
one_world [] v = refl
one_world (w ∷ ws) v = one_world ws v

abbrev AllGood : Done → Type 0
AllGood d = Each GoodWorld (worlds_in d.told)

refused_good : (ws : List (RootedWalk Goal)) → Each GoodWorld (worlds_in (map walked ws))
refused_good ws = subst (Each GoodWorld) (sym (no_worlds ws)) tt

admitted_good : (v : Shown) (ws : List (RootedWalk Goal)) → GoodWorld v → Each GoodWorld (worlds_in (map walked ws ++ passed v ∷ []))
admitted_good v ws good = subst (Each GoodWorld) (sym (one_world ws v)) (good, tt)

-- Worlds.

-- one entry more
added_good : (w : Shown) (e : Entry) → GoodWorld w → has_name w.entries (name_in e) ≡ false → Sound (w.entries ++ e ∷ []) → GoodWorld (added w e)
added_good w e good free sound = record {
  sound = sound;
  distinct = distinct_more w.entries e good.distinct free;
  functions = has_functions-more w.entries (e ∷ []) good.functions;
}

-- another theory
theory_good : (w : Shown) (h : ShownTheory) → GoodWorld w → GoodWorld (with_theory w h)
theory_good w h good = record { sound = good.sound; distinct = good.distinct; functions = good.functions }

left_good : (enabled : Bool) (n : Symbol) (w : Shown) → GoodWorld w → GoodWorld (left enabled n w)
left_good true n w good = good
left_good false n w good = theory_good w _ good

-- Attempts.

-- a clause whose attempt is `Qed` is valid
clause_valid : (rule : Rule) (plan : Plan) (c : Clause) → GoodWorld plan.world → KnownHints plan.world.entries plan.hints → KnownClause (defs_of plan) c
    → (tried_from rule (clause_goal plan c)).verdict ≡ Verdict.Qed → Valid (defs_of plan) c.0
unfolding tried_from
clause_valid rule plan c good hints c_known qed =
    let g = clause_goal plan c in
    attempt_good step_of depth_of IsGood tells deeper whole inducted (λ t k some h. by_induction t k h) g g (λ h. h) plan.hints.do_not_induct rule qed
    good.functions good.sound good.distinct c_known hints tt

both_qed : (v : Verdict) (others : Tried) → (where_qed v others).verdict ≡ Verdict.Qed → (v ≡ Verdict.Qed) × (others.verdict ≡ Verdict.Qed)
both_qed Verdict.Qed others h = (refl, h)
both_qed (Verdict.Failed r) others h = absurd (no h)
  where
    no : Verdict.Failed r ≡ Verdict.Qed → ⊥
    no q = cc

-- so are those of attempts that all are
all_valid : (rule : Rule) (plan : Plan) (os : List Owed) → GoodWorld plan.world → KnownHints plan.world.entries plan.hints → Each (λ (o : Owed). KnownClause (defs_of plan) o.clause) os
    → (tried rule plan os).verdict ≡ Verdict.Qed → Each (λ (o : Owed). Valid (defs_of plan) o.clause.0) os
all_valid rule plan [] good hints ks qed = tt
all_valid rule plan (o ∷ os) good hints ks qed =
    let a = tried_from rule (clause_goal plan o.clause) in
    let both = both_qed a.verdict (tried rule plan os) qed in
    (clause_valid rule plan o.clause good hints ks.0 both.0, all_valid rule plan os good hints ks.1 both.1)

-- What is stated.

-- what an answer gives, if it does
abbrev pub Gives : {A : Type 0} → (A → Type 0) → Answer A → Type 0
Gives P (Ok a) = P a
Gives P (Err r) = Unit {0}

then_gives : {A B : Type 0} (P : A → Type 0) (Q : B → Type 0) (r : Answer A) (f : A → Answer B) → Gives P r → ((a : A) → P a → Gives Q (f a)) → Gives Q (r >>= f)
then_gives P Q (Ok a) f h k = k a h
then_gives P Q (Err r) f h k = tt

unless_gives : {A : Type 0} (P : A → Type 0) (b : Bool) (r : Refusal) (a : Answer A) → (b ≡ false → Gives P a) → Gives P (unless b r a)
unless_gives P true r a h = tt
unless_gives P false r a h = h refl

translated_gives : {A : Type 0} (P : A → Type 0) (r : translation.Answer A) → translating.Holds P r → Gives P (as_translated r)
translated_gives P (Ok a) h = h
translated_gives P (Err e) h = tt

-- hints speak of the world
hints_give : (w : Shown) (o : Option Form) → GoodWorld w → Gives (KnownHints w.entries) (given_hints w o)
hints_give w None good = tt
hints_give w (Some f) good = go (hints_in w f) refl
  where
    go : (r : hinting.Answer Hints) → hints_in w f ≡ r → Gives (KnownHints w.entries) (as_hinted r)
    go (Ok hs) q = hints_known w f (Ok hs) (macro_functions (function_of w.entries) good.functions) q
    go (Err e) q = tt

always : {A : Type 0} (r : translation.Answer A) → translating.Holds (λ a. Unit {0}) r
always (Ok a) = tt
always (Err e) = tt

both_hold : {A : Type 0} (P Q : A → Type 0) (r : translation.Answer A) → translating.Holds P r → translating.Holds Q r → translating.Holds (λ a. P a × Q a) r
both_hold P Q (Ok a) h k = (h, k)
both_hold P Q (Err e) h k = tt

-- a term of few nodes
sized_holds : (P : Term → Type 0) (p : ℕ) (u : Term) → P u → translating.Holds P (within p u)
sized_holds P p u k = by_size (nat_le (term_size u) 4096)
  where
    by_size : (b : Bool) → translating.Holds P (cond b (Ok u) (translation.refused p kinds.TermTooLarge))
    by_size true = k
    by_size false = tt

-- a form's term is one of the world, and of the variables that are bound
term_known : (W : List Entry) (b : Bound) (f : Form) → HasMacroFunctions (function_of W) → translating.Holds (λ (u : Term). known (function_of W) u ≡ true) (translated W b f)
term_known W b f has =
    let K : Term → Type 0 = λ u. known (function_of W) u ≡ true in
    translating.then_holds K K (term_in W 400 b f) (within f.place)
    (translating.in_holds W (λ f n. is_head (function_of W) f (prim_of f) n ≡ true) (λ d u. known (function_of W) u ≡ true) (translating.known_keeps W has) 400 b f)
    (λ u k. sized_holds K f.place u k)

term_speaks : (W : List Entry) (names : List Symbol) (f : Form) → translating.Holds (λ (u : Term). speaks_of names u ≡ true) (translated W (Some names) f)
term_speaks W names f =
    let K : Term → Type 0 = λ u. speaks_of names u ≡ true in
    translating.then_holds K K (term_in W 400 (Some names) f) (within f.place)
    (translating.in_holds W (λ f n. Unit {0}) translating.SpeaksIn (translating.speaking_keeps W) 400 (Some names) f)
    (λ u k. sized_holds K f.place u k)

ruled_gives : (P : Theorem → Type 0) (t : Theorem) (o : Option RuleError) → P t → Gives P (ruled_by t o)
ruled_gives P t None h = h
ruled_gives P t (Some e) h = tt

theorem_stated : (w : Shown) (s : Stated) → GoodWorld w → Gives (IsTheorem w) (stated_theorem w s)
theorem_stated w s good =
    let K : Term → Type 0 = λ u. known (function_of w.entries) u ≡ true in
    unless_gives (IsTheorem w) (has_name w.entries s.name) Refusal.NameTaken
    (as_translated (translated w.entries None s.term) >>= λ u. ruled (theorem_of s u))
    (λ free. then_gives K (IsTheorem w) (as_translated (translated w.entries None s.term)) (λ u. ruled (theorem_of s u))
    (translated_gives K (translated w.entries None s.term) (term_known w.entries None s.term (macro_functions (function_of w.entries) good.functions)))
    (λ u k. ruled_gives (IsTheorem w) (theorem_of s u) (refusal s.name u (theorem_of s u).classes) (record { free = free; term_known = k })))

-- formals are distinct
abbrev Distinct : List Symbol → Type 0
Distinct ns = is_distinct symbol_eq ns ≡ true

one_formal : (before : List Symbol) (f : Form) (fs : List Form) → Distinct before → ((s : Symbol) → Distinct (before ++ s ∷ []) → translating.Holds Distinct (formal_names (before ++ s ∷ []) fs))
    → (o : Option Symbol) → translating.Holds Distinct (formal_names_by (formal_by before o) before f.place (λ names. formal_names names fs))
one_formal before f fs d more None = tt
one_formal before f fs d more (Some s) = by_test (can_be_bound s before) refl
  where
    by_test : (b : Bool) → can_be_bound s before ≡ b → translating.Holds Distinct (formal_names_by (cond b (Some s) None) before f.place (λ names. formal_names names fs))
    by_test true q = more s (distinct_last before s d q)
    by_test false q = tt

formals_hold : (before : List Symbol) (fs : List Form) → Distinct before → translating.Holds Distinct (formal_names before fs)
formals_hold before [] d = d
formals_hold before (f ∷ fs) d = one_formal before f fs d (λ s e. formals_hold (before ++ s ∷ []) fs e) (symbol_at (layer_of f))

-- the parts of a definition
module _ (W : List Entry) (functions : HasFunctions (function_of W)) (d : Defined) (names : List Symbol) (distinct : Distinct names) where
  abbrev D' : List Entry
  D' = with_function W (stub d.name names)

  abbrev Prepares : Defun → Type 0
  Prepares p = (p.name ≡ d.name) × IsPrepared W p

  abbrev MeasureHolds : Option Measure → Type 0
  MeasureHolds m = Each (λ u. speaks_of names u ≡ true) (components m) × Each (λ u. known (function_of W) u ≡ true) (components m)

  abbrev BodyHolds : Term → Type 0
  BodyHolds u = (speaks_of names u ≡ true) × (known (function_of D') u ≡ true)

  has : HasMacroFunctions (function_of W)
  has = macro_functions (function_of W) functions

  has_too : HasMacroFunctions (function_of D')
  has_too = macro_functions (function_of D') (has_functions-more W (entry.Function (stub d.name names) ∷ []) functions)

  all_hold : (fs : List Form) → translating.Holds (λ ms. Each (λ u. speaks_of names u ≡ true) ms × Each (λ u. known (function_of W) u ≡ true) ms) (translated_all W names fs)
  all_hold fs =
      both_hold (λ ms. Each (λ u. speaks_of names u ≡ true) ms) (λ ms. Each (λ u. known (function_of W) u ≡ true) ms) (translated_all W names fs)
      (translating.each_holds (λ u. speaks_of names u ≡ true) (translated W (Some names)) (λ f. term_speaks W names f) fs)
      (translating.each_holds (λ u. known (function_of W) u ≡ true) (translated W (Some names)) (λ f. term_known W (Some names) f has) fs)

  measure_holds : (o : Option Form) → translating.Holds MeasureHolds (translated_measure W names o)
  measure_holds None = (tt, tt)
  measure_holds (Some f) =
      translating.then_holds (λ ms. Each (λ u. speaks_of names u ≡ true) ms × Each (λ u. known (function_of W) u ≡ true) ms) MeasureHolds (translated_all W names (component_forms f))
      (λ ms. Ok (Some (record { 0 = ms }))) (all_hold (component_forms f)) (λ ms h. h)

  body_holds : translating.Holds BodyHolds (translated D' (Some names) d.body)
  body_holds =
      both_hold (λ u. speaks_of names u ≡ true) (λ u. known (function_of D') u ≡ true) (translated D' (Some names) d.body)
      (term_speaks D' names d.body) (term_known D' (Some names) d.body has_too)

  parts_hold : translating.Holds Prepares (translated_parts W d names)
  parts_hold =
      translating.then_holds (λ g. Unit {0}) Prepares (translated_all W names (guard_forms d.xargs.guard)) _ (always (translated_all W names (guard_forms d.xargs.guard)))
      (λ g u. translating.then_holds BodyHolds Prepares (translated D' (Some names) d.body) _ body_holds
      (λ body k. translating.then_holds MeasureHolds Prepares (translated_measure W names d.xargs.measure) (λ m. Ok (prepared_definition d.name names body m)) (measure_holds d.xargs.measure)
      (λ m h. (refl, is_prepared W d.name names body m (prepared_definition d.name names body m) refl distinct k.0 k.1 h.0 h.1))))

measured_gives : (w : Shown) (d : Defun) → has_name w.entries d.name ≡ false → IsPrepared w.entries d → has_no_call d.name d.body ≡ false
    → (o : Option (List Term)) → measure_of d ≡ o → Gives (IsDefinition w) (measured d o)
measured_gives w d free p recurs None q = tt
measured_gives w d free p recurs (Some ms) q = record { free = free; prepared = p; ends = (recurs, q) }

terminating_gives : (w : Shown) (d : Defun) → has_name w.entries d.name ≡ false → IsPrepared w.entries d → Gives (IsDefinition w) (terminating d)
terminating_gives w d free p = go (has_no_call d.name d.body) refl
  where
    go : (b : Bool) → has_no_call d.name d.body ≡ b → Gives (IsDefinition w) (cond b (Ok (without_measure d)) (measured d (measure_of d)))
    go true q = record { free = free; prepared = p; ends = q }
    go false q = measured_gives w d free p q (measure_of d) refl

definition_stated : (w : Shown) (d : Defined) → GoodWorld w → Gives (IsDefinition w) (stated_definition w d)
definition_stated w d good =
    let P : Defun → Type 0 = λ p. (p.name ≡ d.name) × IsPrepared w.entries p in
    let told = translated_definition w.entries d in
    unless_gives (IsDefinition w) d.xargs.verify Refusal.GuardsAsked (unless (has_name w.entries d.name) Refusal.NameTaken (as_translated told >>= terminating))
    (λ unguarded. unless_gives (IsDefinition w) (has_name w.entries d.name) Refusal.NameTaken (as_translated told >>= terminating)
    (λ free. then_gives P (IsDefinition w) (as_translated told) terminating
    (translated_gives P told
    (translating.then_holds Distinct P (formal_names [] d.formals) (translated_parts w.entries d) (formals_hold [] d.formals refl)
    (λ names distinct. parts_hold w.entries good.functions d names distinct)))
    (λ p h. terminating_gives w p (ap (has_name w.entries) h.0 ∙ free) h.1)))

pub theorem_proposed : (w : Shown) (s : Stated) → GoodWorld w → Gives (IsStated w) (proposed_theorem w s)
theorem_proposed w s good = then_gives (IsTheorem w) (IsStated w) (stated_theorem w s) (λ t. Ok (proposal.Theorem t)) (theorem_stated w s good) (λ t h. h)

pub definition_proposed : (w : Shown) (d : Defined) → GoodWorld w → Gives (IsStated w) (proposed_definition w d)
definition_proposed w d good = then_gives (IsDefinition w) (IsStated w) (stated_definition w d) (λ t. Ok (proposal.Function t)) (definition_stated w d good) (λ t h. h)

-- What is put into the world.

-- what is owed speaks of the world
owed_speaks : (w : Shown) (p : Proposal) → GoodWorld w → IsStated w p → Each (λ (o : Owed). KnownClause (function_of w.entries) o.clause) (owed_of p)
owed_speaks w (proposal.Theorem t) good stated =
    ((clausifies t.term (record { 0 = flat t.term }) refl w.entries good.sound (kernel_ground (function_of w.entries) good.functions) stated.term_known).0, tt)
owed_speaks w (proposal.Function t) good stated = owed_known w t.definition t.measure good.functions stated.free stated.prepared stated.ends

entry_good : (w : Shown) (p : Proposal) → GoodWorld w → IsStated w p → Each (λ (o : Owed). Valid (function_of w.entries) o.clause.0) (owed_of p) → GoodWorld (added w (entry_in w p))
entry_good w (proposal.Theorem t) good stated valid =
    added_good w (entry.Theorem t) good stated.free
    (sound-theorem w.entries t good.sound stated.term_known
    ((clausifies t.term (record { 0 = flat t.term }) refl w.entries good.sound (kernel_ground (function_of w.entries) good.functions) stated.term_known).1 valid.0))
entry_good w (proposal.Function t) good stated valid =
    added_good w (entry.Function _) good stated.free (sound_definition w t.definition t.measure good.sound good.functions stated.free stated.prepared stated.ends valid)

pub put_good : (enabled : Bool) (w : Shown) (p : Proposal) → GoodWorld w → IsStated w p → Each (λ (o : Owed). Valid (function_of w.entries) o.clause.0) (owed_of p) → GoodWorld (put enabled w p)
put_good enabled w p good stated valid = left_good enabled (name_of p) (added w (entry_in w p)) (entry_good w p good stated valid)

-- Events.

proved_good : (w : Shown) (title : List ℕ) (enabled : Bool) (p : Proposal) (lines : List ℕ) (walks : List (RootedWalk Goal)) (v : Verdict) → (v ≡ Verdict.Qed → GoodWorld (put enabled w p))
    → AllGood (proved_event w title enabled p lines walks v)
unfolding proved_event
proved_good w title enabled p lines walks Verdict.Qed h = admitted_good (put enabled w p) walks (h refl)
proved_good w title enabled p lines walks (Verdict.Failed r) h = refused_good walks

hinted_good : (limits : Limits) (otf : Bool) (w : Shown) (title : List ℕ) (enabled : Bool) (p : Proposal) (a : Answer Hints) → GoodWorld w → IsStated w p → Gives (KnownHints w.entries) a
    → AllGood (hinted_event limits otf w title enabled p a)
unfolding hinted_event
hinted_good limits otf w title enabled p (Err r) good stated h = tt
hinted_good limits otf w title enabled p (Ok hs) good stated h =
    let t = tried (first_rule limits otf) (plan_for limits w hs) (owed_of p) in
    proved_good w title enabled p (opening_of p ++ t.lines) t.walks t.verdict
    (λ qed. put_good enabled w p good stated (all_valid (first_rule limits otf) (plan_for limits w hs) (owed_of p) good h (owed_speaks w p good stated) qed))

proposed_good : (limits : Limits) (otf : Bool) (w : Shown) (title : List ℕ) (enabled : Bool) (hints : Option Form) (a : Answer Proposal) → GoodWorld w → Gives (IsStated w) a
    → AllGood (proposed_event limits otf w title enabled hints a)
unfolding proposed_event
proposed_good limits otf w title enabled hints (Err r) good h = tt
proposed_good limits otf w title enabled hints (Ok p) good h = hinted_good limits otf w title enabled p (given_hints w hints) good h (hints_give w hints good)

theorem_good : (limits : Limits) (w : Shown) (enabled : Bool) (s : Option Stated) → GoodWorld w → AllGood (theorem_event limits w enabled s)
unfolding theorem_event
theorem_good limits w enabled None good = tt
theorem_good limits w enabled (Some s) good = proposed_good limits s.chosen.otf w _ enabled s.chosen.hints (proposed_theorem w s) good (theorem_proposed w s good)

definition_good : (limits : Limits) (w : Shown) (enabled : Bool) (d : Option Defined) → GoodWorld w → AllGood (definition_event limits w enabled d)
unfolding definition_event
definition_good limits w enabled None good = tt
definition_good limits w enabled (Some d) good = proposed_good limits d.xargs.otf w _ enabled d.xargs.hints (proposed_definition w d) good (definition_proposed w d good)

-- a constant
abbrev IsFree : Shown → Symbol → Value → Type 0
IsFree w n v = has_name w.entries n ≡ false

valued_good : (w : Shown) (n : Symbol) (a : Answer Value) → GoodWorld w → Gives (IsFree w n) a → AllGood (valued_constant w n a)
valued_good w n (Ok v) good free = admitted_good (added w (entry.Constant n v)) [] (added_good w (entry.Constant n v) good free (sound-constant w.entries n v good.sound))
valued_good w n (Err r) good h = tt

stated_good : (w : Shown) (n : Symbol) (a : Answer Value) → GoodWorld w → AllGood (valued_constant w n (stated_constant w n a))
stated_good w n a good = valued_good w n (stated_constant w n a) good (unless_gives (IsFree w n) (has_name w.entries n) Refusal.NameTaken a (λ free. all a free))
  where
    all : (a : Answer Value) → has_name w.entries n ≡ false → Gives (IsFree w n) a
    all (Ok v) free = free
    all (Err r) free = tt

written_good : (w : Shown) (n : Symbol) (a : translation.Answer (Option Value)) → GoodWorld w → AllGood (written_constant w n a)
unfolding written_constant
written_good w n (Ok None) good = tt
written_good w n (Ok (Some v)) good = stated_good w n (Ok v) good
written_good w n (Err e) good = stated_good w n (Err _) good

constant_good : (w : Shown) (p : Option (Symbol × Form)) → GoodWorld w → AllGood (constant_event w p)
unfolding constant_event
constant_good w None good = tt
constant_good w (Some p) good = written_good w p.0 (written p.1) good

-- a theory
changed_good : (w : Shown) (h : Option ShownTheory) → GoodWorld w → AllGood (changed_event w h)
unfolding changed_event
changed_good w None good = tt
changed_good w (Some h) good = admitted_good (with_theory w h) [] (theory_good w h good)

theory_event_good : (w : Shown) (c : Option Changed) → GoodWorld w → AllGood (theory_event w c)
unfolding theory_event
theory_event_good w None good = tt
theory_event_good w (Some c) good = changed_good w (changed_theory w c) good

kind_good : (limits : Limits) (w : Shown) (f : Form) (k : Kind) → GoodWorld w → AllGood (event_by limits w f k)
unfolding event_by
kind_good limits w f kind.Theorem good = theorem_good limits w true (statement_of f) good
kind_good limits w f kind.DisabledTheorem good = theorem_good limits w false (statement_of f) good
kind_good limits w f kind.Function good = definition_good limits w true (definition_of f) good
kind_good limits w f kind.DisabledFunction good = definition_good limits w false (definition_of f) good
kind_good limits w f kind.Constant good = constant_good w (constant_of f) good
kind_good limits w f kind.Theory good = theory_event_good w (changes_of f) good

headed_good : (limits : Limits) (w : Shown) (f : Form) (h : Symbol) (k : Option Kind) → GoodWorld w → AllGood (headed_event limits w f h k)
unfolding headed_event
headed_good limits w f h None good = tt
headed_good limits w f h (Some k) good = kind_good limits w f k good

with_good : (limits : Limits) (w : Shown) (f : Form) (h : Option Symbol) → GoodWorld w → AllGood (event_with limits w f h)
unfolding event_with
with_good limits w f None good = tt
with_good limits w f (Some h) good = headed_good limits w f h (kind_of h) good

pub events_keep_good : EventsKeepGood
unfolding event_of
events_keep_good limits w f good = with_good limits w f (head_of f) good
