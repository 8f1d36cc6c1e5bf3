-- The texts of each kind of value and of term, and how they open.
use Rattle.std.proofs.Common.{◌≡◌, List, ◌∷◌, ◌++◌, map, Some, None, ap, ◌∙◌}
use Rattle.ap_value.specs.declared.symbol.Symbol.{Symbol}
use Rattle.ap_value.specs.declared.value.Value.{Value, Chr, Str, Sym, Cons}
use Rattle.ap_value.proofs.Induction.{fold_chr, fold_str, fold_sym, fold_cons}
use Rattle.ap_term.specs.declared.term.Term.{Term, Var, Quote, Call}
use Rattle.ap_term.specs.Printed.{written_step, value_text, rest_text, term_text, term_step, symbol_text, character_text, quoted, quote_text}
use Rattle.ap_term.specs.Starts.{value_opens, value_open_step, term_opens, term_open_step, arguments_text}
use Rattle.ap_term.proofs.Induction.{fold_var, fold_quote, fold_call}
use Rattle.ap_term.proofs.Parts.{list_text-arguments}

pub chr_opens : (v : Value) (c : _) → v ≡ Chr c → value_opens v ≡ None
chr_opens v c e = ap value_opens e ∙ fold_chr value_open_step c

pub chr_text : (v : Value) (c : _) → v ≡ Chr c → value_text v ≡ character_text c
chr_text v c e = ap value_text e ∙ ap (λ w. w.alone) (fold_chr written_step c)

pub str_opens : (v : Value) (s : _) → v ≡ Str s → value_opens v ≡ None
str_opens v s e = ap value_opens e ∙ fold_str value_open_step s

pub str_text : (v : Value) (s : _) → v ≡ Str s → value_text v ≡ quoted 34 s
str_text v s e = ap value_text e ∙ ap (λ w. w.alone) (fold_str written_step s)

pub sym_opens : (v : Value) (s : Symbol) → v ≡ Sym s → value_opens v ≡ None
sym_opens v s e = ap value_opens e ∙ fold_sym value_open_step s

pub sym_text : (v : Value) (s : Symbol) → v ≡ Sym s → value_text v ≡ symbol_text s
sym_text v s e = ap value_text e ∙ ap (λ w. w.alone) (fold_sym written_step s)

pub cons_text : (v p q : Value) → v ≡ Cons p q → value_text v ≡ 40 ∷ (value_text p ++ rest_text q)
cons_text v p q e = ap value_text e ∙ ap (λ w. w.alone) (fold_cons written_step p q)

pub cons_rest : (v p q : Value) → v ≡ Cons p q → rest_text v ≡ 32 ∷ (value_text p ++ rest_text q)
cons_rest v p q e = ap rest_text e ∙ ap (λ w. w.rest) (fold_cons written_step p q)

pub var_opens : (t : Term) (x : Symbol) → t ≡ Var x → term_opens t ≡ None
var_opens t x e = ap term_opens e ∙ fold_var term_open_step x

pub var_text : (t : Term) (x : Symbol) → t ≡ Var x → term_text t ≡ symbol_text x
var_text t x e = ap term_text e ∙ fold_var term_step x

pub quote_opens : (t : Term) (v : Value) → t ≡ Quote v → term_opens t ≡ Some 39
quote_opens t v e = ap term_opens e ∙ fold_quote term_open_step v

pub constant_text : (t : Term) (v : Value) → t ≡ Quote v → term_text t ≡ 39 ∷ value_text v
unfolding quote_text
constant_text t v e = ap term_text e ∙ fold_quote term_step v

pub call_opens : (t : Term) (f : Symbol) (ts : List Term) → t ≡ Call f ts → term_opens t ≡ Some 40
call_opens t f ts e = ap term_opens e ∙ fold_call term_open_step f ts

pub call_text : (t : Term) (f : Symbol) (ts : List Term) → t ≡ Call f ts → term_text t ≡ 40 ∷ (symbol_text f ++ arguments_text (map term_text ts))
call_text t f ts e = ap term_text e ∙ fold_call term_step f ts ∙ list_text-arguments (symbol_text f) (map term_text ts)
