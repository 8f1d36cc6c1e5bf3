-- A function: what its event states, what that owes, and what is put into the world.
use Rattle.std.specs.Prelude.{◌≡◌, ℕ, ◌+◌, cond, false, true, List, [], ◌∷◌, map, Option, Some, None, is_some, Ok, Err}
use Rattle.ap_term.specs.declared.term.Term.{Term}
use Rattle.ap_term.specs.declared.term.Clause.{Clause}
use Rattle.ap_world.specs.declared.entry.Mask.{Mask}
use Rattle.ap_world.specs.declared.entry.Measure.{Measure}
use Rattle.ap_world.specs.declared.entry.Defun.{Defun}
use Rattle.ap_world.specs.declared.entry.Function.{Function}
use Rattle.ap_world.specs.Recursion.{has_no_call, measure_of}
use Rattle.ap_world.specs.World.{Shown, has_name}
use Rattle.ap_world.specs.KeptTypes.{kept_types}
use Rattle.ap_terminate.specs.declared.measures.TerminateError.{TerminateError}
use Rattle.ap_terminate.specs.Refusals.{is_nested, has_bad_measure}
use Rattle.ap_terminate.specs.Distinct.{clause_of}
use Rattle.ap_admit.specs.Condition.{owed}
use Rattle.ap_stated.specs.declared.definition.Terminating.{Terminating}
use Rattle.ap_stated.specs.declared.owed.Owed.{Owed}
use Rattle.ap_stated.specs.declared.refusing.Refusal.{Refusal}
use Rattle.ap_stated.specs.Prepared.{IsPrepared}
use Rattle.ap_stated.specs.Refusals.{Answer, ◌>>=◌, unless, as_translated}
use Rattle.ap_stated.specs.Shapes.{Defined}
use Rattle.ap_stated.specs.Texts.{measure_line, obligation_line}
use Rattle.ap_stated.specs.Translating.{translated_definition}

-- a definition that ends, by a measure or without
abbrev pub by_measure : Defun → Measure → Terminating
by_measure d m = record { definition = d; measure = Some m }

abbrev pub without_measure : Defun → Terminating
without_measure d = record { definition = d; measure = None }

-- why it has no measure
abbrev pub unmeasured : Defun → TerminateError
unmeasured d = cond (is_nested d) TerminateError.NestedRecursion (cond (has_bad_measure d) TerminateError.BadMeasure TerminateError.NoMeasure)

abbrev pub measured : Defun → Option (List Term) → Answer Terminating
measured d None = Err (Refusal.Termination (unmeasured d))
measured d (Some ms) = Ok (by_measure d (record { 0 = ms }))

-- one that doesn't call itself needs no measure, and keeps none
abbrev pub terminating : Defun → Answer Terminating
terminating d = cond (has_no_call d.name d.body) (Ok (without_measure d)) (measured d (measure_of d))

-- its parts are terms of the world, and it ends
abbrev pub formed_definition : Shown → Defined → Answer Terminating
formed_definition w d = as_translated (translated_definition w.entries d) >>= terminating

-- it asks for no guards, which aren't verified yet, and its name is free
abbrev pub stated_definition : Shown → Defined → Answer Terminating
stated_definition w d =
    unless d.xargs.verify Refusal.GuardsAsked (unless (has_name w.entries d.name) Refusal.NameTaken (formed_definition w d))

-- obligations, each with the line of its number, the first of which is this
abbrev pub numbered : ℕ → List Clause → List Owed
numbered k [] = []
numbered k (c ∷ cs) = record { heading = obligation_line k; clause = c } ∷ numbered (k + 1) cs

-- what it owes by its measure
abbrev pub owed_by : Defun → Option Measure → List Owed
owed_by d None = []
owed_by d (Some m) = numbered 1 (map clause_of (owed d m))

-- the line of its measure stands before the obligations
abbrev pub measure_text : Option Measure → List ℕ
measure_text None = []
measure_text (Some m) = measure_line m.0

-- its function: with the cases where there is a measure, and the mask that its body gives back
abbrev pub function_by : Defun → Option Measure → Mask → Function
function_by d m k = record { name = d.name; formals = d.formals; body = d.body; measure = m; cases = cond (is_some m) d.cases []; mask = k }

abbrev pub function_in : Shown → Terminating → Function
function_in w t = function_by t.definition t.measure (record { 0 = kept_types w t.definition.name t.definition.body })

-- what is known of a definition that was stated in a world
abbrev pub Ends : Defun → Option Measure → Type 0
Ends d None = has_no_call d.name d.body ≡ true
Ends d (Some m) = (has_no_call d.name d.body ≡ false) × (measure_of d ≡ Some m.0)

pub record IsDefinition (w : Shown) (t : Terminating) : Type 0 where
  pub free : has_name w.entries t.definition.name ≡ false
  pub prepared : IsPrepared w.entries t.definition
  pub ends : Ends t.definition t.measure
