-- A constant as `defconst` takes it: a form that is a constant by itself, or a quoted form.
use Rattle.std.specs.Prelude.{ℕ, cond, nat_le, [], Option, Some, None, Result, Ok, Err}
use Rattle.ap_value.specs.declared.value.Value.{Value}
use Rattle.ap_value.specs.declared.value.Value.TheVariants.{Int, Chr, Str, Sym}
use Rattle.ap_value.specs.Counts.{node_count}
use Rattle.ap_reader.specs.declared.form.Form.{Form}
use Rattle.ap_reader.specs.declared.form.Body.TheOpen.{Body-F}
pub use Rattle.ap_reader.specs.Tops.{quoted_in}
use Rattle.ap_translate.specs.declared.fault.TransError.{TransError}
use Rattle.ap_translate.specs.declared.fault.TransKind.TheVariants as kinds
use Rattle.ap_translate.specs.Answers.{Answer, refused, error_of, ◌>>=◌}
use Rattle.ap_translate.specs.Names.{is_constant}
use Rattle.ap_translate.specs.Parts.{Layer, layer_of}
use Rattle.ap_translate.specs.Quoted.{nil_value, constant_in}

-- a constant by itself
abbrev pub literal_at : Layer → Option Value
literal_at (Body-F.Int n) = Some (Int n)
literal_at (Body-F.Chr c) = Some (Chr c)
literal_at (Body-F.Str s) = Some (Str s)
literal_at (Body-F.Sym s) = cond (is_constant s) (Some (Sym s)) None
literal_at (Body-F.List []) = Some nil_value
literal_at l = None

abbrev pub literal_in : Form → Option Value
literal_in f = literal_at (layer_of f)

-- a value has at most 4,096 nodes
abbrev pub value_within : ℕ → Value → Answer (Option Value)
value_within p v = cond (nat_le (node_count v) 4096) (Ok (Some v)) (refused p kinds.TermTooLarge)

abbrev pub written_by : ℕ → Option Form → Option Value → Answer (Option Value)
written_by p (Some g) o = constant_in 399 g >>= value_within p
written_by p None (Some v) = value_within p v
written_by p None None = Ok None

-- the value of a form; None: the form is no constant. In the quote one nesting less is left of the 400.
abbrev pub written : Form → Answer (Option Value)
written f = written_by f.place (quoted_in f) (literal_in f)

-- of a value that is kept where it has so few nodes
abbrev pub kept_within : ℕ → Option Value → Result (Option Value) TransError
kept_within p (Some v) = Ok (Some v)
kept_within p None = Err (error_of p kinds.TermTooLarge)
