-- The parts of a definition as terms.
use Rattle.std.specs.Prelude.{ℕ, cond, List, [], ◌∷◌, ◌++◌, Option, Some, None, Ok, codes}
use Rattle.ap_value.specs.declared.symbol.Symbol.{Symbol}
use Rattle.ap_term.specs.declared.term.Term.{Term}
use Rattle.ap_world.specs.declared.entry.Measure.{Measure}
use Rattle.ap_world.specs.declared.entry.Defun.{Defun}
use Rattle.ap_world.specs.declared.entry.Entry.{Entry}
use Rattle.ap_world.specs.declared.entry.Function.{Function}
use Rattle.ap_world.specs.Recursion.{cases_of, nil_constant}
use Rattle.ap_world.specs.Types.{all_types}
use Rattle.ap_reader.specs.declared.form.Form.{Form}
use Rattle.ap_translate.specs.declared.fault.TransKind.TheVariants as kinds
use Rattle.ap_translate.specs.Answers.{Answer, refused, each, ◌>>=◌}
use Rattle.ap_translate.specs.Names.{can_be_bound}
use Rattle.ap_reader.specs.Tops.{layer_of, symbol_at, items_in, is_symbol}
use Rattle.ap_translate.specs.Table.{translated}
use Rattle.ap_admit.specs.Admission.{with_function}
use Rattle.ap_stated.specs.Shapes.{Defined}

-- the formals: each may be bound after those before it
abbrev pub formal_by : List Symbol → Option Symbol → Option Symbol
formal_by before None = None
formal_by before (Some s) = cond (can_be_bound s before) (Some s) None

abbrev pub formal_in : List Symbol → Form → Option Symbol
formal_in before f = formal_by before (symbol_at (layer_of f))

abbrev pub formal_names_by : Option Symbol → List Symbol → ℕ → (List Symbol → Answer (List Symbol)) → Answer (List Symbol)
formal_names_by None before p more = refused p kinds.NotAVariable
formal_names_by (Some s) before p more = more (before ++ s ∷ [])

abbrev pub formal_names : List Symbol → List Form → Answer (List Symbol)
formal_names before [] = Ok before
formal_names before (f ∷ fs) = formal_names_by (formal_in before f) before f.place (λ names. formal_names names fs)

-- the components of a measure: those of (lex M ..), else the measure itself
abbrev pub component_forms_by : Form → Option (List Form) → List Form
component_forms_by f (Some (h ∷ fs)) = cond (is_symbol (codes "LEX") h) fs (f ∷ [])
component_forms_by f o = f ∷ []

abbrev pub component_forms : Form → List Form
component_forms f = component_forms_by f (items_in f)

abbrev pub guard_forms : Option Form → List Form
guard_forms None = []
guard_forms (Some f) = f ∷ []

-- the terms of forms in which the formals are bound
abbrev pub translated_all : List Entry → List Symbol → List Form → Answer (List Term)
translated_all W names fs = each (translated W (Some names)) fs

abbrev pub translated_measure : List Entry → List Symbol → Option Form → Answer (Option Measure)
translated_measure W names None = Ok None
translated_measure W names (Some f) = translated_all W names (component_forms f) >>= λ ms. Ok (Some (record { 0 = ms }))

-- a function of this name and these formals whose body is `nil`
abbrev pub stub : Symbol → List Symbol → Function
stub n names = record { name = n; formals = names; body = nil_constant; measure = None; cases = []; mask = all_types }

-- a definition by its parts: its cases are those of its body
abbrev pub prepared_definition : Symbol → List Symbol → Term → Option Measure → Defun
prepared_definition n names body m = record { name = n; formals = names; body = body; measure = m; cases = cases_of n body }

-- Formals, guard, body and measure are translated in this order: the body, which may call the function, in the world with a
-- stub of it, and every other term in the world itself. The guard isn't kept: guards aren't verified yet.
abbrev pub translated_parts : List Entry → Defined → List Symbol → Answer Defun
translated_parts W d names =
    translated_all W names (guard_forms d.xargs.guard) >>= λ guard.
    translated (with_function W (stub d.name names)) (Some names) d.body >>= λ body.
    translated_measure W names d.xargs.measure >>= λ measure.
    Ok (prepared_definition d.name names body measure)

abbrev pub translated_definition : List Entry → Defined → Answer Defun
translated_definition W d = formal_names [] d.formals >>= translated_parts W d
