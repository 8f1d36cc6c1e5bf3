-- What a list asks for can be made: the shapes are looked at first.
use Rattle.std.proofs.Common.{◌≡◌, ℕ, ℤ, Bool, true, false, cond, nat_eq, List, [], ◌∷◌, length, Option, Some, None, Ok, refl, ap, ◌∙◌, subst, arith}
use Rattle.std.proofs.lemmas.Bool.Decides.{nat_tests}
use Rattle.ap_value.specs.declared.symbol.Symbol.{Symbol}
use Rattle.ap_reader.specs.declared.form.Form.{Form}
use Rattle.ap_world.specs.declared.entry.Entry.{Entry}
use Rattle.ap_translate.specs.declared.build.Maker.{Maker}
use Rattle.ap_translate.specs.declared.build.Maker.TheVariants as makers
use Rattle.ap_translate.specs.declared.fault.TransKind.{TransKind}
use Rattle.ap_translate.specs.declared.fault.TransKind.TheVariants as kinds
use Rattle.ap_translate.specs.declared.macros.Macro.{Macro}
use Rattle.ap_translate.specs.declared.macros.Macro.TheVariants as m
use Rattle.ap_translate.specs.Answers.{Answer, refused, shaped}
use Rattle.ap_translate.specs.Parts.{symbol_in}
use Rattle.ap_translate.specs.Macros.{macro_of, path_of, fits}
use Rattle.ap_translate.specs.Shapes.{are_arms, Scope, let_in, lambda_in, less_literal}
use Rattle.ap_translate.specs.Rows.{admits}
use Rattle.ap_translate.specs.Kept.{Admitted}
use Rattle.ap_translate.specs.Plans.{Plan, empty, quotation, build, arms, bind, apply, quote_plan, plain_plan, minus_plan, macro_plan, access_plan, arity_in, call_plan, named_by, lambda_plan, headed_plan, plan_in}

-- so many terms, as many actuals as variables, and a function with as many formals
abbrev pub Made : List Entry → Maker → ℕ → Type 0
Made W (makers.Call s) n = arity_in W s ≡ Some n
Made W k n = admits k n ≡ true

abbrev pub Sensible : List Entry → Plan → Type 0
Sensible W (build k fs) = Made W k (length fs)
Sensible W (apply x fs) = length x.heads ≡ length fs
Sensible W x = Unit {0}

pub admitted : (W : List Entry) (x : Plan) → Sensible W x → Admitted x
admitted W empty h = tt
admitted W (quotation f) h = tt
admitted W (build (makers.Macro k) fs) h = h
admitted W (build (makers.Literal k) fs) h = h
admitted W (build (makers.Path k) fs) h = h
admitted W (build (makers.Call s) fs) h = refl
admitted W (arms fs) h = tt
admitted W (bind b x) h = tt
admitted W (apply x fs) h = h

same_number : (m n : ℕ) → nat_eq m n ≡ true → m ≡ n
same_number m n h = grind (arith, nat_tests)

abbrev Good : List Entry → Plan → Answer Plan → Type 0
Good W x r = r ≡ Ok x → Sensible W x

module _ (W : List Entry) (x : Plan) where
  bad : (p : ℕ) (k : TransKind) → Good W x (refused p k)
  bad p k h = absurd (no h)
    where
      no : refused p k ≡ Ok x → ⊥
      no q = cc

  good : (y : Plan) → Sensible W y → Good W x (Ok y)
  good y s h = let same : y ≡ x = cc in subst (Sensible W) same s

  where_true : (b : Bool) (y : Plan) (p : ℕ) (k : TransKind) → (b ≡ true → Sensible W y) → Good W x (cond b (Ok y) (refused p k))
  where_true true y p k s = good y (s refl)
  where_true false y p k s = bad p k

  of_quote : (p : ℕ) (fs : List Form) → Good W x (quote_plan p fs)
  of_quote p [] = bad p kinds.BadForm
  of_quote p (f ∷ []) = good (quotation f) tt
  of_quote p (f ∷ g ∷ fs) = bad p kinds.BadForm

  of_plain : (p : ℕ) (k : Macro) (fs : List Form) → Good W x (plain_plan p k fs)
  of_plain p k fs = where_true (fits k (length fs)) (build (makers.Macro k) fs) p kinds.BadForm (λ h. h)

  of_minus : (p : ℕ) (o : Option (Form × ℤ)) (fs : List Form) → Good W x (minus_plan p o fs)
  of_minus p (Some k) fs = good (build (makers.Literal k.1) (k.0 ∷ [])) refl
  of_minus p None fs = of_plain p m.Minus fs

  of_let : (p : ℕ) (b : Bool) (o : Option Scope) → Good W x (shaped p o (λ s. Ok (bind b s)))
  of_let p b None = bad p kinds.BadForm
  of_let p b (Some s) = good (bind b s) tt

  of_macro : (p : ℕ) (k : Macro) (fs : List Form) → Good W x (macro_plan p k fs)
  of_macro p m.Quote fs = of_quote p fs
  of_macro p m.Cond fs = where_true (are_arms fs) (arms fs) p kinds.BadForm (λ h. tt)
  of_macro p m.Let fs = of_let p false (let_in fs)
  of_macro p m.LetStar fs = of_let p true (let_in fs)
  of_macro p m.Minus fs = of_minus p (less_literal fs) fs
  of_macro p m.And fs = of_plain p m.And fs
  of_macro p m.Or fs = of_plain p m.Or fs
  of_macro p m.Plus fs = of_plain p m.Plus fs
  of_macro p m.Times fs = of_plain p m.Times fs
  of_macro p m.Greater fs = of_plain p m.Greater fs
  of_macro p m.AtMost fs = of_plain p m.AtMost fs
  of_macro p m.AtLeast fs = of_plain p m.AtLeast fs
  of_macro p m.Differs fs = of_plain p m.Differs fs
  of_macro p m.Increment fs = of_plain p m.Increment fs
  of_macro p m.Decrement fs = of_plain p m.Decrement fs
  of_macro p m.List fs = of_plain p m.List fs
  of_macro p m.ListStar fs = of_plain p m.ListStar fs
  of_macro p m.Append fs = of_plain p m.Append fs

  of_access : (p : ℕ) (path : List ℕ) (fs : List Form) → Good W x (access_plan p path fs)
  of_access p path fs = where_true (nat_eq (length fs) 1) (build (makers.Path path) fs) p kinds.BadForm (λ h. h)

  of_call : (p : ℕ) (s : Symbol) (o : Option ℕ) (fs : List Form) → arity_in W s ≡ o → Good W x (call_plan p s o fs)
  of_call p s None fs e = bad p kinds.UnknownName
  of_call p s (Some n) fs e = where_true (nat_eq n (length fs)) (build (makers.Call s) fs) p kinds.WrongArity (λ h. e ∙ ap Some (same_number n (length fs) h))

  of_named : (p : ℕ) (s : Symbol) (k : Option Macro) (path : Option (List ℕ)) (fs : List Form) → Good W x (named_by W p s k path fs)
  of_named p s (Some k) path fs = of_macro p k fs
  of_named p s None (Some path) fs = of_access p path fs
  of_named p s None None fs = of_call p s (arity_in W s) fs refl

  of_lambda : (p : ℕ) (o : Option Scope) (fs : List Form) → Good W x (lambda_plan p o fs)
  of_lambda p None fs = bad p kinds.BadForm
  of_lambda p (Some s) fs = where_true (nat_eq (length s.heads) (length fs)) (apply s fs) p kinds.BadForm (λ h. same_number (length s.heads) (length fs) h)

  of_head : (p : ℕ) (s : Option Symbol) (o : Option Scope) (fs : List Form) → Good W x (headed_plan W p s o fs)
  of_head p (Some s) o fs = of_named p s (macro_of s) (path_of s) fs
  of_head p None o fs = of_lambda p o fs

  pub sensible : (p : ℕ) (fs : List Form) → plan_in W p fs ≡ Ok x → Sensible W x
  sensible p [] = good empty tt
  sensible p (h ∷ fs) = of_head p (symbol_in h) (lambda_in h) fs
