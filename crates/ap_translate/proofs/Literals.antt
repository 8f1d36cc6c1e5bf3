-- Numbers, characters, strings and symbols as terms, and the empty list.
use Rattle.std.proofs.Common.{◌≡◌, ℕ, ℤ, List, Option, Some, Ok, option_map, sym, ap, ◌∙◌}
use Rattle.ap_value.specs.declared.symbol.Symbol.{Symbol}
use Rattle.ap_value.specs.declared.value.Value.{Value}
use Rattle.ap_value.specs.declared.value.Value.TheVariants.{Int, Chr, Str, Sym}
use Rattle.ap_term.specs.declared.term.Term.{Term, Quote}
use Rattle.ap_reader.specs.declared.form.Form.{Form}
use Rattle.ap_reader.specs.declared.form.Body.TheOpen.{Body-F}
use Rattle.ap_world.specs.declared.entry.Entry.{Entry}
use Rattle.ap_world.specs.Names.{nil_name}
use Rattle.ap_translate.specs.Parts.{Layer, layer_of}
use Rattle.ap_translate.specs.Plans.{Plan, empty}
use Rattle.ap_translate.specs.Rows.{nil_term}
use Rattle.ap_translate.specs.Sizes.{small, small_value, capped}
use Rattle.ap_translate.specs.Table.{Bound, Readers, plan_term, term_layer, part_layer, readers, term_in, part_in}
use Rattle.ap_translate.proofs.Smalls.{int_kept, chr_kept, symbol_kept, quote_small}

module _ (W : List Entry) (n : ℕ) (b : Bound) (f : Form) where
  term_at : (l : Layer) → layer_of f ≡ l → capped small (term_in W n b f) ≡ capped small (term_layer W (readers W n) b f.place l)
  term_at l e = ap (λ l. capped small (term_layer W (readers W n) b f.place l)) e

  part_at : (l : Layer) → layer_of f ≡ l → capped small (part_in W n b f) ≡ capped small (part_layer (readers W n) b f.place l)
  part_at l e = ap (λ l. capped small (part_layer (readers W n) b f.place l)) e

  pub term_int : (x : ℤ) (u : Term) → layer_of f ≡ Body-F.Int x → u ≡ Quote (Int x) → capped small (term_in W n b f) ≡ Ok (Some u)
  term_int x u e made = term_at (Body-F.Int x) e ∙ ap Ok (int_kept x ∙ ap Some (sym made))

  pub term_chr : (c : ℕ) (u : Term) → layer_of f ≡ Body-F.Chr c → u ≡ Quote (Chr c) → capped small (term_in W n b f) ≡ Ok (Some u)
  term_chr c u e made = term_at (Body-F.Chr c) e ∙ ap Ok (chr_kept c ∙ ap Some (sym made))

  pub term_str : (s : List ℕ) (o : Option Value) (r : Option Term) → layer_of f ≡ Body-F.Str s → o ≡ small_value (Str s) → r ≡ option_map Quote o → capped small (term_in W n b f) ≡ Ok r
  term_str s o r e kept made = term_at (Body-F.Str s) e ∙ ap Ok (quote_small (Str s) ∙ ap (option_map Quote) (sym kept) ∙ sym made)

  pub part_int : (x : ℤ) (u : Term) → layer_of f ≡ Body-F.Int x → u ≡ Quote (Int x) → capped small (part_in W n b f) ≡ Ok (Some u)
  part_int x u e made = part_at (Body-F.Int x) e ∙ ap Ok (int_kept x ∙ ap Some (sym made))

  pub part_chr : (c : ℕ) (u : Term) → layer_of f ≡ Body-F.Chr c → u ≡ Quote (Chr c) → capped small (part_in W n b f) ≡ Ok (Some u)
  part_chr c u e made = part_at (Body-F.Chr c) e ∙ ap Ok (chr_kept c ∙ ap Some (sym made))

  pub part_str : (s : List ℕ) (o : Option Value) (r : Option Term) → layer_of f ≡ Body-F.Str s → o ≡ small_value (Str s) → r ≡ option_map Quote o → capped small (part_in W n b f) ≡ Ok r
  part_str s o r e kept made = part_at (Body-F.Str s) e ∙ ap Ok (quote_small (Str s) ∙ ap (option_map Quote) (sym kept) ∙ sym made)

  pub part_symbol : (x y : Symbol) (u : Term) → layer_of f ≡ Body-F.Sym x → y ≡ x → u ≡ Quote (Sym y) → capped small (part_in W n b f) ≡ Ok (Some u)
  part_symbol x y u e copied made = part_at (Body-F.Sym x) e ∙ ap Ok (symbol_kept x ∙ ap (λ s. Some (Quote (Sym s))) (sym copied) ∙ ap Some (sym made))

-- the empty list is 'NIL
pub plan_none : (r : Readers) (b : Bound) (p : ℕ) (a : Plan) (u : Term) → a ≡ empty → u ≡ nil_term → capped small (plan_term r b p a) ≡ Ok (Some u)
plan_none r b p a u e made = ap (λ x. capped small (plan_term r b p x)) e ∙ ap Ok (symbol_kept nil_name ∙ ap Some (sym made))
