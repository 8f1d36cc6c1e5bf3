-- What a list asks for, by its head and its shape: which forms are read, and what is made of them. A list
-- whose shape is none is refused before any of its parts is looked at.
use Rattle.std.specs.Prelude.{ℕ, ℤ, Bool, true, false, cond, nat_eq, List, [], ◌∷◌, length, Option, Some, None, Ok}
use Rattle.ap_value.specs.declared.symbol.Symbol.{Symbol}
use Rattle.ap_reader.specs.declared.form.Form.{Form}
use Rattle.ap_world.specs.declared.entry.Entry.{Entry}
use Rattle.ap_world.specs.declared.entry.Function.{Function}
use Rattle.ap_world.specs.declared.primitive.Primitive.{Primitive}
use Rattle.ap_world.specs.Primitives.{prim_of, prim_arity}
use Rattle.ap_world.specs.World.{function_of}
use Rattle.ap_translate.specs.declared.fault.TransKind.TheVariants as kinds
use Rattle.ap_translate.specs.declared.macros.Macro.{Macro}
use Rattle.ap_translate.specs.declared.macros.Macro.TheVariants as m
use Rattle.ap_translate.specs.declared.build.Maker.{Maker}
use Rattle.ap_translate.specs.declared.build.Maker.TheVariants as makers
use Rattle.ap_translate.specs.declared.plans.Planned.{Planned}
use Rattle.ap_translate.specs.declared.plans.Planned.TheVariants as seen
use Rattle.ap_translate.specs.Answers.{Answer, refused, shaped}
use Rattle.ap_translate.specs.Parts.{symbol_in}
use Rattle.ap_translate.specs.Macros.{macro_of, path_of, fits}
use Rattle.ap_translate.specs.Shapes.{are_arms, Scope, scope_seen, let_in, lambda_in, less_literal}

pub data Plan : Type 0 where
  -- 'NIL
  empty : Plan
  -- the constant that a form is
  quotation : Form → Plan
  -- made of the terms of forms
  build : Maker → List Form → Plan
  -- the clauses of `cond`
  arms : List Form → Plan
  -- `let`, or where it is true `let*`
  bind : Bool → Scope → Plan
  -- a `lambda` with its actuals
  apply : Scope → List Form → Plan

-- as the program sees it
abbrev pub planned : Planned → Plan
planned seen.Empty = empty
planned (seen.Quotation f) = quotation f.now
planned (seen.Build k fs) = build k fs.now
planned (seen.Arms fs) = arms fs.now
planned (seen.Let x b) = bind b (scope_seen x)
planned (seen.Lambda x fs) = apply (scope_seen x) fs.now

-- (quote x)
abbrev pub quote_plan : ℕ → List Form → Answer Plan
quote_plan p (f ∷ []) = Ok (quotation f)
quote_plan p fs = refused p kinds.BadForm

abbrev pub cond_plan : ℕ → List Form → Answer Plan
cond_plan p fs = cond (are_arms fs) (Ok (arms fs)) (refused p kinds.BadForm)

-- a macro whose arguments are terms
abbrev pub plain_plan : ℕ → Macro → List Form → Answer Plan
plain_plan p m fs = cond (fits m (length fs)) (Ok (build (makers.Macro m) fs)) (refused p kinds.BadForm)

-- (- a k) is (binary-+ '-k a)
abbrev pub minus_plan : ℕ → Option (Form × ℤ) → List Form → Answer Plan
minus_plan p (Some k) fs = Ok (build (makers.Literal k.1) (k.0 ∷ []))
minus_plan p None fs = plain_plan p m.Minus fs

abbrev pub macro_plan : ℕ → Macro → List Form → Answer Plan
macro_plan p m.Quote fs = quote_plan p fs
macro_plan p m.Cond fs = cond_plan p fs
macro_plan p m.Let fs = shaped p (let_in fs) (λ x. Ok (bind false x))
macro_plan p m.LetStar fs = shaped p (let_in fs) (λ x. Ok (bind true x))
macro_plan p m.Minus fs = minus_plan p (less_literal fs) fs
macro_plan p m fs = plain_plan p m fs

-- (caar x) and the like
abbrev pub access_plan : ℕ → List ℕ → List Form → Answer Plan
access_plan p path fs = cond (nat_eq (length fs) 1) (Ok (build (makers.Path path) fs)) (refused p kinds.BadForm)

-- (f a ..)
abbrev pub arity_of : Option Primitive → Option Function → Option ℕ
arity_of (Some x) g = Some (prim_arity x)
arity_of None (Some g) = Some (length g.formals)
arity_of None None = None

abbrev pub arity_in : List Entry → Symbol → Option ℕ
arity_in W s = arity_of (prim_of s) (function_of W s)

abbrev pub call_plan : ℕ → Symbol → Option ℕ → List Form → Answer Plan
call_plan p s None fs = refused p kinds.UnknownName
call_plan p s (Some n) fs = cond (nat_eq n (length fs)) (Ok (build (makers.Call s) fs)) (refused p kinds.WrongArity)

-- by the name at the head: a macro, else nested `car`s and `cdr`s, else a function
abbrev pub named_by : List Entry → ℕ → Symbol → Option Macro → Option (List ℕ) → List Form → Answer Plan
named_by W p s (Some m) path fs = macro_plan p m fs
named_by W p s None (Some path) fs = access_plan p path fs
named_by W p s None None fs = call_plan p s (arity_in W s) fs

abbrev pub named_plan : List Entry → ℕ → Symbol → List Form → Answer Plan
named_plan W p s fs = named_by W p s (macro_of s) (path_of s) fs

-- ((lambda (v ..) body) e ..)
abbrev pub lambda_plan : ℕ → Option Scope → List Form → Answer Plan
lambda_plan p None fs = refused p kinds.BadForm
lambda_plan p (Some x) fs = cond (nat_eq (length x.heads) (length fs)) (Ok (apply x fs)) (refused p kinds.BadForm)

-- by the head
abbrev pub headed_plan : List Entry → ℕ → Option Symbol → Option Scope → List Form → Answer Plan
headed_plan W p (Some s) x fs = named_plan W p s fs
headed_plan W p None x fs = lambda_plan p x fs

abbrev pub plan_in : List Entry → ℕ → List Form → Answer Plan
plan_in W p [] = Ok empty
plan_in W p (h ∷ fs) = headed_plan W p (symbol_in h) (lambda_in h) fs
