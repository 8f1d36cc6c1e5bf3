-- The world in which a body is translated, and what is known of the parts of a definition.
use Rattle.std.proofs.Common.{◌≡◌, ℕ, length, take, List, [], ◌∷◌, ◌++◌, Option, true, ap, sym, subst, ◌∙◌, refl, Some, Result, Ok, Err, IfOk}
use Rattle.std.proofs.Math.Seq.{take-append_seam}
use Rattle.ap_list.specs.Lists.{Each, is_distinct}
use Rattle.ap_value.specs.declared.symbol.Symbol.{Symbol}
use Rattle.ap_value.specs.Values.{symbol_eq}
use Rattle.ap_reader.specs.declared.form.Form.{Form}
use Rattle.ap_term.specs.declared.term.Term.{Term}
use Rattle.ap_world.specs.declared.entry.Defun.{Defun}
use Rattle.ap_world.specs.declared.entry.Entry.{Entry}
use Rattle.ap_world.specs.declared.entry.Measure.{Measure}
use Rattle.ap_world.specs.declared.theory.Theory.{Theory}
use Rattle.ap_world.specs.Sound.{known, speaks_of, components, HasFunctions, Sound}
use Rattle.ap_world.specs.World.{Shown, added, function_of}
use Rattle.ap_world.proofs.Adding.{has_functions-more}
use Rattle.ap_world.proofs.Knowing.{true_each}
use Rattle.ap_translate.specs.declared.fault.TransError.{TransError}
use Rattle.ap_translate.specs.Answers.{Answer, Fails, Gives, ◌>>=◌}
use Rattle.ap_translate.specs.Laws.{HasMacroFunctions}
use Rattle.ap_translate.specs.Table.{translated}
use Rattle.ap_translate.proofs.Fails.{then_fails}
use Rattle.ap_admit.specs.Admission.{with_function}
use Rattle.ap_stated.specs.Shapes.{Defined}
use Rattle.ap_stated.specs.Translating.{stub, prepared_definition, formal_names, component_forms, guard_forms, translated_all, translated_measure, translated_parts, translated_definition}
use Rattle.ap_stated.specs.Prepared.{IsPrepared}
use Rattle.ap_stated.proofs.Defining.{macro_functions}

-- the first entries of a world with one more are those of the world
pub first_entries : (w u : Shown) (e : Entry) (n : ℕ) → u ≡ added w e → n ≡ length w.entries → take n u.entries ≡ w.entries
first_entries w u e n is count =
    ap (λ k. take k u.entries) count ∙ ap (λ (x : Shown). take (length w.entries) x.entries) is ∙ take-append_seam w.entries (e ∷ [])

pub sound_back : (w u : Shown) (e : Entry) (n : ℕ) → u ≡ added w e → n ≡ length w.entries → Sound w.entries → Sound (take n u.entries)
sound_back w u e n is count sound = subst Sound (sym (first_entries w u e n is count)) sound

pub back_again : (w u : Shown) (e : Entry) (n : ℕ) (h : Theory) → u ≡ added w e → n ≡ length w.entries → h ≡ w.theory
    → record { entries = take n u.entries; theory = h } ≡ w
back_again w u e n h is count same = λ i. record { entries = first_entries w u e n is count i; theory = same i }

-- a definition by its parts, which are translated
pub is_prepared : (W : List Entry) (n : Symbol) (names : List Symbol) (body : Term) (m : Option Measure) (d : Defun) → d ≡ prepared_definition n names body m
    → is_distinct symbol_eq names ≡ true → speaks_of names body ≡ true → known (function_of (with_function W (stub n names))) body ≡ true
    → Each (λ u. speaks_of names u ≡ true) (components m) → Each (λ u. known (function_of W) u ≡ true) (components m) → IsPrepared W d
is_prepared W n names body m d is distinct speaks body_known measure_speaks measure_known =
    subst (IsPrepared W) (sym is) (record {
      formals = distinct;
      body_speaks = speaks;
      body_known = body_known;
      measure_speaks = true_each (speaks_of names) (components m) measure_speaks;
      measure_known = true_each (known (function_of W)) (components m) measure_known;
      cases = refl;
    })

-- the functions that macros stand for are there in a world with one entry more
pub macros_more : (w u v : Shown) (e : Entry) → u ≡ added w e → v ≡ u → HasFunctions (function_of w.entries) → HasMacroFunctions (function_of v.entries)
macros_more w u v e is same functions =
    subst (λ (x : Shown). HasMacroFunctions (function_of x.entries)) (sym (same ∙ is))
    (macro_functions (function_of (w.entries ++ e ∷ [])) (has_functions-more w.entries (e ∷ []) functions))

-- what fails after an answer that is there
fails_after : {A B : Type 0} (e : TransError) (r : Answer A) (a : A) (f : A → Answer B) → r ≡ Ok a → Fails e (f a) → Fails e (r >>= f)
fails_after e r a f is h = subst (λ s. Fails e (s >>= f)) (sym is) h

gives_after : {A B : Type 0} (x : Result B TransError) (r : Answer A) (a : A) (f : A → Answer B) → r ≡ Ok a → Gives x (f a) → Gives x (r >>= f)
gives_after x r a f is h = subst (λ s. Gives x (s >>= f)) (sym is) h

-- the parts of a definition after its formals, up to one that is refused
abbrev guard_of : List Entry → Defined → List Symbol → Answer (List Term)
guard_of W d names = translated_all W names (guard_forms d.xargs.guard)

abbrev body_of : List Entry → Defined → List Symbol → Answer Term
body_of W d names = translated (with_function W (stub d.name names)) (Some names) d.body

abbrev measure_in : List Entry → Defined → List Symbol → Answer (Option Measure)
measure_in W d names = translated_measure W names d.xargs.measure

abbrev with_measure : List Entry → Defined → List Symbol → Term → Answer Defun
with_measure W d names u = measure_in W d names >>= λ m. Ok (prepared_definition d.name names u m)

abbrev with_body : List Entry → Defined → List Symbol → Answer Defun
with_body W d names = body_of W d names >>= λ u. with_measure W d names u

pub guard_fails : (e : TransError) (W : List Entry) (d : Defined) (names : List Symbol) → Fails e (translated_all W names (guard_forms d.xargs.guard)) → Fails e (translated_parts W d names)
guard_fails e W d names h = then_fails e (guard_of W d names) (λ g. with_body W d names) h

pub body_fails : (e : TransError) (W : List Entry) (d : Defined) (names : List Symbol) (g : List Term) → translated_all W names (guard_forms d.xargs.guard) ≡ Ok g
    → Fails e (translated (with_function W (stub d.name names)) (Some names) d.body) → Fails e (translated_parts W d names)
body_fails e W d names g guarded h =
    fails_after e (guard_of W d names) g (λ g. with_body W d names) guarded
    (then_fails e (body_of W d names) (λ u. with_measure W d names u) h)

pub measure_fails : (e : TransError) (W : List Entry) (d : Defined) (names : List Symbol) (g : List Term) (u : Term) → translated_all W names (guard_forms d.xargs.guard) ≡ Ok g
    → translated (with_function W (stub d.name names)) (Some names) d.body ≡ Ok u → Fails e (translated_measure W names d.xargs.measure) → Fails e (translated_parts W d names)
measure_fails e W d names g u guarded told h =
    fails_after e (guard_of W d names) g (λ g. with_body W d names) guarded
    (fails_after e (body_of W d names) u (λ u. with_measure W d names u) told
    (then_fails e (measure_in W d names) (λ m. Ok (prepared_definition d.name names u m)) h))

pub parts_given : (x : Result Defun TransError) (W : List Entry) (d : Defined) (names : List Symbol) (g : List Term) (u : Term) (m : Option Measure)
    → translated_all W names (guard_forms d.xargs.guard) ≡ Ok g → translated (with_function W (stub d.name names)) (Some names) d.body ≡ Ok u
    → translated_measure W names d.xargs.measure ≡ Ok m → Gives x (Ok (prepared_definition d.name names u m)) → Gives x (translated_parts W d names)
parts_given x W d names g u m guarded told measured h =
    gives_after x (guard_of W d names) g (λ g. with_body W d names) guarded
    (gives_after x (body_of W d names) u (λ u. with_measure W d names u) told
    (gives_after x (measure_in W d names) m (λ m. Ok (prepared_definition d.name names u m)) measured h))

-- the formals come first
pub formals_fail : (e : TransError) (W : List Entry) (d : Defined) → Fails e (formal_names [] d.formals) → Fails e (translated_definition W d)
formals_fail e W d h = then_fails e (formal_names [] d.formals) (translated_parts W d) h

pub formals_given : (x : Result Defun TransError) (W : List Entry) (d : Defined) (names : List Symbol) → formal_names [] d.formals ≡ Ok names
    → Gives x (translated_parts W d names) → Gives x (translated_definition W d)
formals_given x W d names is h = gives_after x (formal_names [] d.formals) names (translated_parts W d) is h

-- what holds of the answer that is given
pub when_given : {A : Type 0} (r : Result A TransError) (a : A) (P : A → Type 0) → Gives r (Ok a) → P a → IfOk r P
when_given (Ok x) a P h p = let e : a ≡ x = cc in subst P e p
when_given (Err e) a P h p = tt

-- a measure that is given is that of its components
abbrev measure_by : List Term → Answer (Option Measure)
measure_by ms = Ok (Some (record { 0 = ms }))

pub components_fail : (e : TransError) (W : List Entry) (names : List Symbol) (f : Form) → Fails e (translated_all W names (component_forms f)) → Fails e (translated_measure W names (Some f))
components_fail e W names f h = then_fails e (translated_all W names (component_forms f)) measure_by h

pub components_given : (W : List Entry) (names : List Symbol) (f : Form) (ms : List Term) → translated_all W names (component_forms f) ≡ Ok ms
    → translated_measure W names (Some f) ≡ Ok (Some (record { 0 = ms }))
components_given W names f ms is = ap (λ (a : Answer (List Term)). a >>= measure_by) is
