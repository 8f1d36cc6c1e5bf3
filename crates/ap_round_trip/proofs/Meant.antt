-- The value of each kind of form within a quote.
use Rattle.std.proofs.Common.{◌≡◌, ℕ, List, map, Option, Some, ℤ, ap, sym, ◌∙◌}
use Rattle.ap_value.specs.declared.symbol.Symbol.{Symbol}
use Rattle.ap_value.specs.declared.value.Value.{Value, Int, Chr, Str, Sym}
use Rattle.ap_reader.specs.Heads.{made}
use Rattle.ap_reader.specs.declared.form.Form.{Form, fold-roll-Form}
use Rattle.ap_reader.specs.declared.form.Body.{Body, fold-Body, fold-roll-Body}
use Rattle.ap_reader.specs.declared.form.Body.TheOpen.{Body-F}
use Rattle.ap_reader.specs.declared.form.Body.TheVariants as body
use Rattle.ap_reader.specs.declared.form.Body.TheVariants.{rolls-Int, rolls-Chr, rolls-Str, rolls-Sym, rolls-List, rolls-Dotted}
use Rattle.ap_round_trip.specs.ReadBack.{quoted_value, in_front, nil, body_value, form_value}

abbrev pub value_of : Body → Option Value
value_of = fold-Body (Option Value) (Option Value) body_value form_value

pub int_value : (n : ℤ) → value_of (body.Int n) ≡ Some (Int n)
int_value n = ap value_of (sym (rolls-Int n)) ∙ fold-roll-Body (Option Value) (Option Value) body_value form_value (Body-F.Int n)

pub chr_value : (c : ℕ) → value_of (body.Chr c) ≡ Some (Chr c)
chr_value c = ap value_of (sym (rolls-Chr c)) ∙ fold-roll-Body (Option Value) (Option Value) body_value form_value (Body-F.Chr c)

pub str_value : (s : List ℕ) → value_of (body.Str s) ≡ Some (Str s)
str_value s = ap value_of (sym (rolls-Str s)) ∙ fold-roll-Body (Option Value) (Option Value) body_value form_value (Body-F.Str s)

pub sym_value : (s : Symbol) → value_of (body.Sym s) ≡ Some (Sym s)
sym_value s = ap value_of (sym (rolls-Sym s)) ∙ fold-roll-Body (Option Value) (Option Value) body_value form_value (Body-F.Sym s)

pub list_value : (fs : List Form) → value_of (body.List fs) ≡ in_front (map quoted_value fs) (Some nil)
list_value fs = ap value_of (sym (rolls-List fs)) ∙ fold-roll-Body (Option Value) (Option Value) body_value form_value (Body-F.List fs)

pub dotted_value : (fs : List Form) (f : Form) → value_of (body.Dotted fs f) ≡ in_front (map quoted_value fs) (quoted_value f)
dotted_value fs f = ap value_of (sym (rolls-Dotted fs f)) ∙ fold-roll-Body (Option Value) (Option Value) body_value form_value (Body-F.Dotted fs f)

-- its place is no matter
pub made_value : (p : ℕ) (b : Body) → quoted_value (made p b) ≡ value_of b
made_value p b = fold-roll-Form (Option Value) (Option Value) body_value form_value (record { place = p; body = b })
