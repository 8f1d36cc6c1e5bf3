-- What the hints of an event say in a world: (("GOAL" :key value ..) ..). See the manual's topic `hints`.
-- The file is to be read from its end.
use Rattle.std.specs.Prelude.{ℕ, ◌+◌, ◌^◌, Bool, true, false, cond, ◌&&◌, nat_lt, List, [], ◌∷◌, ◌++◌, length, map, Option, Some, None, unwrap_or, Ok, Err, codes}
use Rattle.ap_list.specs.Lists.{is_among}
use Rattle.ap_value.specs.declared.symbol.Symbol.{Symbol}
use Rattle.ap_value.specs.Values.{symbol_eq}
use Rattle.ap_reader.specs.declared.form.Form.{Form}
use Rattle.ap_reader.specs.Tops.{layer_of, symbol_at, string_at, items_in, is_symbol, is_keyword, quoted_in}
use Rattle.ap_term.specs.declared.term.Subst.{Subst}
use Rattle.ap_term.specs.declared.term.Term.{Term, out-Term}
use Rattle.ap_term.specs.declared.term.Term.TheOpen.{Term-F}
use Rattle.ap_term.specs.Terms.{vars_after}
use Rattle.ap_names.specs.Names.{Name, name_eq, root}
use Rattle.ap_names.specs.Reading.{name_of}
use Rattle.ap_walk.specs.declared.act.Process.{Process}
use Rattle.ap_world.specs.declared.entry.Entry.{Entry}
use Rattle.ap_world.specs.declared.entry.Theorem.{Theorem}
use Rattle.ap_world.specs.Theories.{ShownTheory}
use Rattle.ap_world.specs.World.{Shown, theorem_of}
use Rattle.ap_translate.specs.Answers as translation
use Rattle.ap_translate.specs.Table.{translated}
use Rattle.ap_hints.specs.declared.fault.HintError.{HintError}
use Rattle.ap_hints.specs.declared.hint.Hint.{Hint}
use Rattle.ap_hints.specs.declared.hint.Hints.{Hints}
use Rattle.ap_hints.specs.declared.said.Said.{Said}
use Rattle.ap_hints.specs.Answers.{Answer, ◌>>=◌, or_refused, each}
use Rattle.ap_hints.specs.Changes.{changes_by, changed_theory}
use Rattle.ap_hints.specs.Known.{no_hints}

abbrev pub list_in : Form → Answer (List Form)
list_in f = or_refused HintError.UnknownKeyword (items_in f)

-- terms: whatever isn't one is a bad instance
abbrev pub as_instance : translation.Answer Term → Answer Term
as_instance (Ok u) = Ok u
as_instance (Err e) = Err HintError.BadInstance

unfoldable pub term_in : List Entry → Form → Answer Term
term_in W f = as_instance (translated W None f)

unfoldable pub terms_in : List Entry → Form → Answer (List Term)
terms_in W f = list_in f >>= each (term_in W)

-- :in-theory, what it makes of the world's current theory
unfoldable pub theory_in : Shown → Form → Answer ShownTheory
theory_in w f = or_refused HintError.UnknownKeyword (changes_by (items_in f)) >>= λ c. or_refused HintError.UnknownRune (changed_theory w c)

-- :expand: terms, or one call alone, a list that begins with a symbol
abbrev pub begins : Option (List Form) → Option Symbol
begins (Some (f ∷ fs)) = symbol_at (layer_of f)
begins o = None

abbrev pub one_in : List Entry → Form → Answer (List Term)
one_in W f = term_in W f >>= λ u. Ok (u ∷ [])

abbrev pub calls_by : List Entry → Form → Option Symbol → Answer (List Term)
calls_by W f (Some s) = one_in W f
calls_by W f None = terms_in W f

unfoldable pub calls_in : List Entry → Form → Answer (List Term)
calls_in W f = calls_by W f (begins (items_in f))

-- :do-not, the quoted names of processes
unfoldable pub process_in : Form → Answer Process
process_in f =
    cond (is_symbol (codes "GENERALIZE") f) (Ok Process.Generalize)
    (cond (is_symbol (codes "FERTILIZE") f) (Ok Process.Fertilize)
    (cond (is_symbol (codes "ELIMINATE-DESTRUCTORS") f) (Ok Process.Elim)
    (cond (is_symbol (codes "ELIMINATE-IRRELEVANCE") f) (Ok Process.Irrelevance) (Err HintError.UnknownKeyword))))

unfoldable pub processes_in : Form → Answer (List Process)
processes_in f = or_refused HintError.UnknownKeyword (quoted_in f) >>= λ g. list_in g >>= each process_in

-- :use, names of theorems and instances (:instance NAME (V TERM) ..): a list of them, or one alone
abbrev pub theorem_in : List Entry → Symbol → Answer Theorem
theorem_in W n = or_refused HintError.BadInstance (theorem_of W n)

-- a variable is replaced that is one of the theorem's, which are xs, and once
abbrev pub variable_of : Symbol × Term → Symbol
variable_of p = p.0

abbrev pub may_replace : List Symbol → List (Symbol × Term) → Symbol → Bool
may_replace xs s v = cond (is_among symbol_eq v (map variable_of s)) false (is_among symbol_eq v xs)

abbrev pub replaced : List Entry → List Symbol → List (Symbol × Term) → Symbol → Form → Answer (List (Symbol × Term))
replaced W xs s v f = cond (may_replace xs s v) (term_in W f >>= λ u. Ok (s ++ (v, u) ∷ [])) (Err HintError.BadInstance)

abbrev pub replaced_by : List Entry → List Symbol → List (Symbol × Term) → Form → Option Symbol → Answer (List (Symbol × Term))
replaced_by W xs s f None = Err HintError.UnknownKeyword
replaced_by W xs s f (Some v) = replaced W xs s v f

abbrev pub pair_in : List Entry → List Symbol → List (Symbol × Term) → Option (List Form) → Answer (List (Symbol × Term))
pair_in W xs s (Some (v ∷ f ∷ [])) = replaced_by W xs s f (symbol_at (layer_of v))
pair_in W xs s o = Err HintError.UnknownKeyword

abbrev pub pairs_in : List Entry → List Symbol → List (Symbol × Term) → List Form → Answer (List (Symbol × Term))
pairs_in W xs s [] = Ok s
pairs_in W xs s (f ∷ fs) = pair_in W xs s (items_in f) >>= λ z. pairs_in W xs z fs

abbrev pub used : Symbol → List (Symbol × Term) → Symbol × Subst
used n s = (n, record { 0 = s })

unfoldable pub instance_of : List Entry → Symbol → List Form → Answer (Symbol × Subst)
instance_of W n fs = theorem_in W n >>= λ thm. pairs_in W (vars_after thm.term []) [] fs >>= λ s. Ok (used n s)

abbrev pub instance_named : List Entry → List Form → Option Symbol → Answer (Symbol × Subst)
instance_named W fs None = Err HintError.UnknownKeyword
instance_named W fs (Some n) = instance_of W n fs

abbrev pub instance_by : List Entry → Option (List Form) → Answer (Symbol × Subst)
instance_by W (Some (k ∷ n ∷ fs)) = cond (is_keyword (codes "INSTANCE") k) (instance_named W fs (symbol_at (layer_of n))) (Err HintError.UnknownKeyword)
instance_by W o = Err HintError.UnknownKeyword

abbrev pub use_by : List Entry → Form → Option Symbol → Answer (Symbol × Subst)
use_by W f (Some n) = instance_of W n []
use_by W f None = instance_by W (items_in f)

unfoldable pub use_in : List Entry → Form → Answer (Symbol × Subst)
use_in W f = use_by W f (symbol_at (layer_of f))

abbrev pub alone : List Entry → Form → Answer (List (Symbol × Subst))
alone W f = use_in W f >>= λ u. Ok (u ∷ [])

abbrev pub is_instance : List Form → Bool
is_instance [] = false
is_instance (g ∷ gs) = is_keyword (codes "INSTANCE") g

abbrev pub uses_by : List Entry → Form → Option (List Form) → Answer (List (Symbol × Subst))
uses_by W f None = alone W f
uses_by W f (Some fs) = cond (is_instance fs) (alone W f) (each (use_in W) fs)

unfoldable pub uses_in : List Entry → Form → Answer (List (Symbol × Subst))
uses_in W f = uses_by W f (items_in f)

-- :cases, terms; they and the case that is left are numbered in 32 bits, which no book can exceed
abbrev pub few_enough : List Term → Answer (List Term)
few_enough us = cond (nat_lt (length us + 1) (2 ^ 32)) (Ok us) (Err HintError.UnknownKeyword)

unfoldable pub cases_in : List Entry → Form → Answer (List Term)
cases_in W f = terms_in W f >>= few_enough

-- :induct, a call
abbrev pub call_only : Term → Term-F Term → Answer Term
call_only u (Term-F.Call g us) = Ok u
call_only u l = Err HintError.UnknownKeyword

unfoldable pub scheme_in : List Entry → Form → Answer Term
scheme_in W f = term_in W f >>= λ u. call_only u (out-Term u)

-- what is said of a goal so far
abbrev pub nothing : Said
nothing = record { theory = None; uses = None; cases = None; expand = None; skip = None; scheme = None; no_induction = false }

-- a key that is given once
abbrev pub once : {A : Type 0} → Option A → Answer A → (A → Said) → Answer Said
once (Some a) r put = Err HintError.Repeated
once None r put = r >>= λ a. Ok (put a)

abbrev pub with_theory : Shown → Said → Form → Answer Said
with_theory w s f = once s.theory (theory_in w f) (λ h. record s { theory = Some h })

abbrev pub with_uses : List Entry → Said → Form → Answer Said
with_uses W s f = once s.uses (uses_in W f) (λ us. record s { uses = Some us })

abbrev pub with_cases : List Entry → Said → Form → Answer Said
with_cases W s f = once s.cases (cases_in W f) (λ us. record s { cases = Some us })

abbrev pub with_expand : List Entry → Said → Form → Answer Said
with_expand W s f = once s.expand (calls_in W f) (λ us. record s { expand = Some us })

abbrev pub with_skip : Said → Form → Answer Said
with_skip s f = once s.skip (processes_in f) (λ ps. record s { skip = Some ps })

abbrev pub with_scheme : List Entry → Said → Form → Answer Said
with_scheme W s f = once s.scheme (scheme_in W f) (λ u. record s { scheme = Some u })

-- :do-not-induct, t, for the name Goal alone
abbrev pub forbidding : Bool → Said → Form → Answer Said
forbidding at_goal s f =
    cond s.no_induction (Err HintError.Repeated)
    (cond (at_goal && is_symbol (codes "T") f) (Ok (record s { no_induction = true })) (Err HintError.UnknownKeyword))

unfoldable pub said_of : Shown → Bool → Said → Form → Form → Answer Said
said_of w at_goal s k f =
    cond (is_keyword (codes "IN-THEORY") k) (with_theory w s f)
    (cond (is_keyword (codes "USE") k) (with_uses w.entries s f)
    (cond (is_keyword (codes "CASES") k) (with_cases w.entries s f)
    (cond (is_keyword (codes "EXPAND") k) (with_expand w.entries s f)
    (cond (is_keyword (codes "DO-NOT") k) (with_skip s f)
    (cond (is_keyword (codes "INDUCT") k) (with_scheme w.entries s f)
    (cond (is_keyword (codes "DO-NOT-INDUCT") k) (forbidding at_goal s f) (Err HintError.UnknownKeyword)))))))

-- keys and their values, in reading order
abbrev pub all_said : Shown → Bool → Said → List Form → Answer Said
all_said w at_goal s [] = Ok s
all_said w at_goal s (k ∷ []) = Err HintError.UnknownKeyword
all_said w at_goal s (k ∷ f ∷ fs) = said_of w at_goal s k f >>= λ z. all_said w at_goal z fs

-- the hint that is said of a goal
abbrev pub hint_of : Name → Said → Hint
hint_of goal s = record {
  goal = goal;
  theory = s.theory;
  expand = unwrap_or s.expand [];
  skip = unwrap_or s.skip [];
  uses = unwrap_or s.uses [];
  cases = unwrap_or s.cases [];
  scheme = s.scheme;
}

-- the name of a goal: what a string is read as
abbrev pub read_as : Option (List ℕ) → Option Name
read_as None = None
read_as (Some s) = name_of s

unfoldable pub goal_in : Form → Answer Name
goal_in f = or_refused HintError.BadGoalName (read_as (string_at (layer_of f)))

-- the names so far: a goal has one hint
abbrev pub goal_of : Hint → Name
goal_of h = h.goal

abbrev pub with_hint : Hints → Name → Said → Hints
with_hint hs goal s = record { list = hs.list ++ hint_of goal s ∷ []; do_not_induct = cond s.no_induction true hs.do_not_induct }

abbrev pub hint_said : Shown → Hints → List Form → Name → Answer Hints
hint_said w hs fs goal = all_said w (name_eq goal root) nothing fs >>= λ s. Ok (with_hint hs goal s)

abbrev pub hinted : Shown → Hints → List Form → Name → Answer Hints
hinted w hs fs goal = cond (is_among name_eq goal (map goal_of hs.list)) (Err HintError.Repeated) (hint_said w hs fs goal)

abbrev pub entry_by : Shown → Hints → Option (List Form) → Answer Hints
entry_by w hs (Some (n ∷ fs)) = goal_in n >>= hinted w hs fs
entry_by w hs o = Err HintError.BadGoalName

abbrev pub entries_in : Shown → Hints → List Form → Answer Hints
entries_in w hs [] = Ok hs
entries_in w hs (f ∷ fs) = entry_by w hs (items_in f) >>= λ z. entries_in w z fs

unfoldable pub hints_in : Shown → Form → Answer Hints
hints_in w f = list_in f >>= entries_in w no_hints
