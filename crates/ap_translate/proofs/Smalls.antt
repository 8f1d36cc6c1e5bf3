-- Terms of one node, and constants.
use Rattle.std.proofs.Common.{◌≡◌, ℕ, ℤ, ◌<◌, ◌≤◌, Option, Some, None, Ok, Err, option_map, cond, nat_le, Bool, true, false, refl, ap, ◌∙◌, arith}
use Rattle.std.proofs.lemmas.Bool.Decides.{nat_tests}
use Rattle.ap_value.specs.declared.symbol.Symbol.{Symbol}
use Rattle.ap_value.specs.declared.value.Value.{Value}
use Rattle.ap_value.specs.declared.value.Value.TheVariants.{Int, Chr, Sym}
use Rattle.ap_value.specs.Counts.{node_count}
use Rattle.ap_term.specs.declared.term.Term.{Term, Var, Quote}
use Rattle.ap_term.specs.Terms.{size_step, term_size}
use Rattle.ap_term.proofs.Induction.{fold_var, fold_quote}
use Rattle.ap_translate.specs.Answers.{Refusal, Answer}
use Rattle.ap_translate.specs.Sizes.{small, small_value, capped}
use Rattle.ap_translate.specs.Table.{quoted_term}
use Rattle.ap_translate.proofs.Constants.{nodes_symbol, nodes_int, nodes_chr}

pub size_var : (x : Symbol) → term_size (Var x) ≡ 1
size_var x = fold_var size_step x

pub size_quote : (v : Value) → term_size (Quote v) ≡ node_count v
size_quote v = fold_quote size_step v

pub small_none : (u : Term) → 4096 < term_size u → small u ≡ None
small_none u h = grind (arith, nat_tests)

pub small_some : (u : Term) → term_size u ≤ 4096 → small u ≡ Some u
small_some u h = grind (arith, nat_tests)

pub var_kept : (x : Symbol) → small (Var x) ≡ Some (Var x)
var_kept x = small_some (Var x) (omega (arith, size_var x))

pub symbol_kept : (s : Symbol) → small (Quote (Sym s)) ≡ Some (Quote (Sym s))
symbol_kept s = small_some (Quote (Sym s)) (omega (arith, size_quote (Sym s), nodes_symbol s))

pub int_kept : (n : ℤ) → small (Quote (Int n)) ≡ Some (Quote (Int n))
int_kept n = small_some (Quote (Int n)) (omega (arith, size_quote (Int n), nodes_int n))

pub chr_kept : (c : ℕ) → small (Quote (Chr c)) ≡ Some (Quote (Chr c))
chr_kept c = small_some (Quote (Chr c)) (omega (arith, size_quote (Chr c), nodes_chr c))

pub quote_kept : (v : Value) → node_count v ≤ 4096 → small (Quote v) ≡ Some (Quote v)
quote_kept v h = small_some (Quote v) (omega (arith, size_quote v))

pub quote_lost : (v : Value) → 4096 < node_count v → small (Quote v) ≡ None
quote_lost v h = small_none (Quote v) (omega (arith, size_quote v))

-- a constant is kept as a term where it is kept as a value
pub quote_small : (v : Value) → small (Quote v) ≡ option_map Quote (small_value v)
quote_small v = by_size (nat_le (node_count v) 4096) refl
  where
    by_size : (b : Bool) → nat_le (node_count v) 4096 ≡ b → small (Quote v) ≡ option_map Quote (cond b (Some v) None)
    by_size true h = quote_kept v (grind (arith, nat_tests))
    by_size false h = quote_lost v (grind (arith, nat_tests))

pub ruleset smalls = (var_kept, symbol_kept, quote_kept, quote_lost, quote_small)

-- 'x by its constant
pub quoted_made : (r : Answer Value) (o : Option Value) → capped small_value r ≡ Ok o → capped small (quoted_term r) ≡ Ok (option_map Quote o)
quoted_made (Err e) o k = cc
quoted_made (Ok v) o k = let s : small_value v ≡ o = cc in ap Ok (quote_small v ∙ ap (option_map Quote) s)

pub quoted_fails : (r : Answer Value) (e : Refusal) → capped small_value r ≡ Err e → capped small (quoted_term r) ≡ Err e
quoted_fails (Ok v) e k = cc
quoted_fails (Err q) e k = let s : q ≡ e = cc in ap Err s

pub ruleset quotes = (quoted_made, quoted_fails)
