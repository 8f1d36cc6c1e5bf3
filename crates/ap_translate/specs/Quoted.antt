-- The constant that a form is within a quote.
use Rattle.std.specs.Prelude.{ℕ, zero, suc, List, [], ◌∷◌, Option, Some, None, Ok, codes}
use Rattle.ap_value.specs.declared.symbol.Symbol.{Symbol}
use Rattle.ap_value.specs.declared.value.Value.{Value}
use Rattle.ap_value.specs.declared.value.Value.TheVariants.{Int, Chr, Str, Sym, Cons}
use Rattle.ap_value.specs.Values.{acl2}
use Rattle.ap_world.specs.Names.{nil_name}
use Rattle.ap_reader.specs.declared.form.Form.{Form}
use Rattle.ap_reader.specs.declared.form.Body.TheOpen.{Body-F}
use Rattle.ap_translate.specs.declared.fault.TransKind.TheVariants as kinds
use Rattle.ap_translate.specs.Answers.{Answer, refused, ◌>>=◌, shaped, each}
use Rattle.ap_translate.specs.Parts.{Layer, layer_of}

unfoldable pub quote_name : Symbol
quote_name = acl2 (codes "QUOTE")

abbrev pub nil_value : Value
nil_value = Sym nil_name

-- values as a list with this end
abbrev pub conses : List Value → Value → Value
conses [] end = end
conses (v ∷ vs) end = Cons v (conses vs end)

-- 'x within a quote is the list (QUOTE X)
abbrev pub quote_list : Value → Value
quote_list v = conses (Sym quote_name ∷ v ∷ []) nil_value

-- what gives the constants of a form's parts; None: no more may be nested
abbrev pub Constants : Type 0
Constants = Option (Form → Answer Value)

abbrev pub list_constant : (Form → Answer Value) → List Form → Answer Value
list_constant c fs = each c fs >>= λ vs. Ok (conses vs nil_value)

abbrev pub dotted_constant : (Form → Answer Value) → List Form → Form → Answer Value
dotted_constant c fs f = each c fs >>= λ vs. c f >>= λ v. Ok (conses vs v)

abbrev pub quoted_constant : (Form → Answer Value) → Form → Answer Value
quoted_constant c f = c f >>= λ v. Ok (quote_list v)

-- of one level of a form at place p
abbrev pub constant_layer : Constants → ℕ → Layer → Answer Value
constant_layer o p (Body-F.Int n) = Ok (Int n)
constant_layer o p (Body-F.Chr c) = Ok (Chr c)
constant_layer o p (Body-F.Str s) = Ok (Str s)
constant_layer o p (Body-F.Sym s) = Ok (Sym s)
constant_layer o p (Body-F.List fs) = shaped p o (λ c. list_constant c fs)
constant_layer o p (Body-F.Dotted fs f) = shaped p o (λ c. dotted_constant c fs f)
constant_layer o p (Body-F.Quoted f) = shaped p o (λ c. quoted_constant c f)
constant_layer o p (Body-F.Quasi f) = refused p kinds.BadForm
constant_layer o p (Body-F.Comma f) = refused p kinds.CommaOutside
constant_layer o p (Body-F.CommaAt f) = refused p kinds.CommaOutside

-- where so many more may be nested
unfoldable pub constants : ℕ → Constants
constants zero = None
constants (suc n) = Some (λ f. constant_layer (constants n) f.place (layer_of f))

-- the constant that a form is, in which n more may be nested
abbrev pub constant_in : ℕ → Form → Answer Value
constant_in n f = constant_layer (constants n) f.place (layer_of f)
