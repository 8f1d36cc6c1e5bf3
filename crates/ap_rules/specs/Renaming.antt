-- Terms that differ by a renaming of variables, and a rule of its parts.
use Rattle.std.specs.Prelude.{◌≡◌, ℕ, Bool, true, List, []}
use Rattle.ap_list.specs.Lists.{is_among}
use Rattle.ap_value.specs.declared.symbol.Symbol.{Symbol}
use Rattle.ap_value.specs.Values.{symbol_eq}
use Rattle.ap_term.specs.declared.term.Term.{Term, fold-Term, Var, Quote, Call}
use Rattle.ap_term.specs.declared.term.Term.TheOpen.{Term-F}
use Rattle.ap_term.specs.Terms.{vars_after}
use Rattle.ap_world.specs.Rules.{Rule}

-- each variable replaced by another
abbrev pub renamed_step : (Symbol → Symbol) → Term-F Term → Term
renamed_step h (Term-F.Var x) = Var (h x)
renamed_step h (Term-F.Quote v) = Quote v
renamed_step h (Term-F.Call f us) = Call f us

abbrev pub renamed : (Symbol → Symbol) → Term → Term
renamed h = fold-Term Term (renamed_step h)

-- a variable stands in a term
abbrev pub StandsIn : Symbol → Term → Type 0
StandsIn x t = is_among symbol_eq x (vars_after t []) ≡ true

-- different variables of the term stay different
abbrev pub KeepsApart : (Symbol → Symbol) → Term → Type 0
KeepsApart h t = (x y : Symbol) → StandsIn x t → StandsIn y t → h x ≡ h y → x ≡ y

-- the second term is the first with its variables renamed, one to one
abbrev pub IsRenamed : Term → Term → Type 0
IsRenamed a b = (h : Symbol → Symbol) × KeepsApart h a × (renamed h a ≡ b)

-- the rule of these parts
abbrev pub as_rule : Symbol → ℕ → Bool → Term → Term → List Term → Rule
as_rule name i iff l r hs = record { theorem = name; part = i; iff = iff; lhs = l; rhs = r; hyps = hs }
