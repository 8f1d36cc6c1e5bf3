-- A definition keeps the world sound.
use Rattle.std.proofs.Common.{◌≡◌, ℕ, true, false, true≢false, List, [], ◌∷◌, Option, Some, None, map, refl, ap, sym, ◌∙◌, subst, ◌+◌, ◌++◌, ◌<◌, ◌≤◌, length, drop, get_or, append_assoc, append-nil}
use Rattle.std.proofs.lemmas.List.{drop_all}
use Rattle.ap_list.specs.Lists.{Each, all_true, is_distinct, is_within}
use Rattle.ap_value.specs.declared.symbol.Symbol.{Symbol}
use Rattle.ap_value.specs.declared.value.Value.TheVariants.{Sym}
use Rattle.ap_value.specs.Values.{symbol_eq}
use Rattle.ap_term.specs.declared.term.Term.{Term}
use Rattle.ap_term.specs.declared.term.Clause.{Clause}
use Rattle.ap_world.specs.declared.entry.Measure.{Measure}
use Rattle.ap_world.specs.declared.entry.Defun.{Defun}
use Rattle.ap_world.specs.declared.entry.Entry.{Entry}
use Rattle.ap_world.specs.Ground.{ground_functions, not_function, append_function}
use Rattle.ap_world.specs.Meaning.{Defs, Valid}
use Rattle.ap_world.specs.Names.{nil_name}
use Rattle.ap_world.specs.Recursion.{has_no_call, measure_of}
use Rattle.ap_world.specs.Sound.{takes, known, HasFunctions, Sound}
use Rattle.ap_world.specs.World.{Shown, as_function, function_of, has_name}
use Rattle.ap_world.proofs.Adding.{sound-define}
use Rattle.ap_world.proofs.Extending.{not_taken}
use Rattle.ap_world.proofs.Grounded.{given_free}
use Rattle.ap_world.proofs.Knowing.{known_quote, each_true}
use Rattle.ap_world.proofs.Starting.{has_all}
use Rattle.ap_world.proofs.Written.{vars_quote}
use Rattle.ap_kernel.specs.Reductions.{KnownClause}
use Rattle.ap_translate.specs.Laws.{HasMacroFunctions}
use Rattle.ap_admit.specs.Admission.{with_function}
use Rattle.ap_terminate.specs.Distinct.{clause_of}
use Rattle.ap_admit.specs.Condition.{admitted_by, admitted, owed, IsAdmissible}
use Rattle.ap_admit.proofs.Definitions.{admitted_is_sound, owed_is_known}
use Rattle.ap_admit.proofs.Masked.{stubs_know}
use Rattle.ap_stated.specs.declared.owed.Owed.{Owed}
use Rattle.ap_stated.specs.Definitions.{Ends, numbered, owed_by, function_in}
use Rattle.ap_stated.specs.Prepared.{IsPrepared}
use Rattle.ap_stated.specs.Texts.{obligation_line}
use Rattle.ap_stated.specs.Translating.{stub}
use Rattle.ap_stated.proofs.Places.{at_place}

-- the functions that macros stand for are among the given ones
pub macro_functions : (D : Defs) → HasFunctions D → HasMacroFunctions D
unfolding ground_functions not_function append_function
macro_functions D h = record {
  negates = ap (λ o. takes o 1) h.0;
  appends = ap (λ o. takes o 2) h.1.1.1.1.1.1.1.1.1.1.1.1.1.1.1.1.1.1.1.1.1.1.1.1.1.1.1.1.1.1.0;
}

-- a world with a stub is sound
pub sound_stub : (W : List Entry) (n : Symbol) (names : List Symbol) → Sound W → HasFunctions (function_of W) → has_name W n ≡ false
    → is_distinct symbol_eq names ≡ true → Sound (with_function W (stub n names))
sound_stub W n names sound functions free distinct =
    sound-define W (stub n names) sound free distinct (ap (λ xs. is_within symbol_eq xs names) (vars_quote (Sym nil_name) []))
    (known_quote (function_of W) (Sym nil_name)) refl refl
    (given_free (function_of W) functions (stub n names) (ap as_function (not_taken W n free).1))
    (λ vs v l h. has_all v)

-- a definition that was stated may be admitted
admissible : (w : Shown) (d : Defun) (m : Measure) → has_name w.entries d.name ≡ false → IsPrepared w.entries d
    → (has_no_call d.name d.body ≡ false → measure_of d ≡ Some m.0) → IsAdmissible w d m
admissible w d m free p measure = record {
  fresh = free;
  formals = p.formals;
  body_speaks = p.body_speaks;
  body_known = stubs_know w.entries (admitted w d m) (stub d.name d.formals) refl refl free d.body ∙ p.body_known;
  measured = λ recurs. record { measure = measure recurs; cases = p.cases; speaks = p.measure_speaks; measure_known = p.measure_known };
}

-- where it doesn't call itself
sound_plain : (w : Shown) (d : Defun) → Sound w.entries → HasFunctions (function_of w.entries) → has_name w.entries d.name ≡ false
    → IsPrepared w.entries d → has_no_call d.name d.body ≡ true → Sound (with_function w.entries (function_in w (record { definition = d; measure = None })))
sound_plain w d sound functions free p plain =
    subst (λ b. Sound (with_function w.entries (admitted_by b w d none))) plain
    (admitted_is_sound w d none [] sound functions (admissible w d none free p (λ recurs. absurd (no recurs))) (λ recurs. absurd (no recurs)))
  where
    none : Measure
    none = record { 0 = [] }

    no : has_no_call d.name d.body ≡ false → ⊥
    no recurs = true≢false (sym plain ∙ recurs)

-- where it does, and what it owes is valid
sound_recursive : (w : Shown) (d : Defun) (m : Measure) → Sound w.entries → HasFunctions (function_of w.entries) → has_name w.entries d.name ≡ false
    → IsPrepared w.entries d → has_no_call d.name d.body ≡ false → measure_of d ≡ Some m.0
    → Each (λ (c : Clause). Valid (function_of w.entries) c.0) (map clause_of (owed d m))
    → Sound (with_function w.entries (function_in w (record { definition = d; measure = Some m })))
sound_recursive w d m sound functions free p recurs measure valid =
    subst (λ b. Sound (with_function w.entries (admitted_by b w d m))) recurs
    (admitted_is_sound w d m (map clause_of (owed d m)) sound functions (admissible w d m free p (λ _. measure))
    (λ _. record { all = refl; valid = valid }))

-- what holds of obligations that are numbered holds of them
unnumbered : (P : Clause → Type 0) (k : ℕ) (cs : List Clause) → Each (λ (o : Owed). P o.clause) (numbered k cs) → Each P cs
unnumbered P k [] h = tt
unnumbered P k (c ∷ cs) h = (h.0, unnumbered P (k + 1) cs h.1)

each_numbered : (P : Clause → Type 0) (k : ℕ) (cs : List Clause) → Each P cs → Each (λ (o : Owed). P o.clause) (numbered k cs)
each_numbered P k [] h = tt
each_numbered P k (c ∷ cs) h = (h.0, each_numbered P (k + 1) cs h.1)

-- clauses whose literals are known
known_clauses : (D : Defs) (cs : List (List Term)) → Each (λ c. all_true (map (known D) c) ≡ true) cs → Each (KnownClause D) (map clause_of cs)
known_clauses D [] h = tt
known_clauses D (c ∷ cs) h = (each_true (known D) c h.0, known_clauses D cs h.1)

-- what a definition owes speaks of the world
pub owed_known : (w : Shown) (d : Defun) (o : Option Measure) → HasFunctions (function_of w.entries) → has_name w.entries d.name ≡ false → IsPrepared w.entries d → Ends d o
    → Each (λ (x : Owed). KnownClause (function_of w.entries) x.clause) (owed_by d o)
owed_known w d None functions free p ends = tt
owed_known w d (Some m) functions free p ends =
    each_numbered (KnownClause (function_of w.entries)) 1 (map clause_of (owed d m))
    (known_clauses (function_of w.entries) (owed d m) (owed_is_known w d m functions (admissible w d m free p (λ _. ends.1)) ends.0))

-- and where that is valid the world with its function is sound
pub sound_definition : (w : Shown) (d : Defun) (o : Option Measure) → Sound w.entries → HasFunctions (function_of w.entries) → has_name w.entries d.name ≡ false → IsPrepared w.entries d → Ends d o
    → Each (λ (x : Owed). Valid (function_of w.entries) x.clause.0) (owed_by d o) → Sound (with_function w.entries (function_in w (record { definition = d; measure = o })))
sound_definition w d None sound functions free p ends valid = sound_plain w d sound functions free p ends
sound_definition w d (Some m) sound functions free p ends valid =
    sound_recursive w d m sound functions free p ends.0 ends.1 (unnumbered (λ (c : Clause). Valid (function_of w.entries) c.0) 1 (map clause_of (owed d m)) valid)

-- one obligation more
pub numbered_next : (os next : List Owed) (cs : List Clause) (i : ℕ) (c : Clause) (o : Owed) (all : List Owed) → i < length cs → c ≡ get_or cs i c → o ≡ record { heading = obligation_line (i + 1); clause = c }
    → next ≡ os ++ o ∷ [] → os ++ numbered (i + 1) (drop i cs) ≡ all → next ++ numbered (i + 1 + 1) (drop (i + 1) cs) ≡ all
numbered_next os next cs i c o all h is made grown told =
    ap (λ xs. xs ++ rest) grown
    ∙ append_assoc os (o ∷ []) rest
    ∙ ap (λ x. os ++ x ∷ rest) made
    ∙ ap (λ ds. os ++ numbered (i + 1) ds) (sym (at_place cs i c h is))
    ∙ told
  where
    rest : List Owed
    rest = numbered (i + 1 + 1) (drop (i + 1) cs)

pub numbered_all : (os : List Owed) (cs : List Clause) (i : ℕ) (all : List Owed) → length cs ≤ i → os ++ numbered (i + 1) (drop i cs) ≡ all → os ≡ all
numbered_all os cs i all h told = sym (append-nil os) ∙ ap (λ ds. os ++ numbered (i + 1) ds) (sym (drop_all i cs h)) ∙ told
