-- A printed value and a printed constant are read as one form.
use Rattle.std.proofs.Common.{ℕ, ◌<◌, ◌≤◌, List, [], ◌∷◌, ℤ, refl, sym, ap, subst, arith}
use Rattle.std.proofs.lemmas.List.{append-nil}
use Rattle.std.specs.Prelude.{IsTrue}
use Rattle.ap_value.specs.declared.symbol.Symbol.{Symbol}
use Rattle.ap_value.specs.declared.value.Value.{Value, Int, Chr, Str, Sym}
use Rattle.ap_tokens.specs.declared.token.Kind.TheVariants as kinds
use Rattle.ap_tokens.specs.Bytes.{is_blank}
use Rattle.ap_tokens.specs.Gaps.{at}
use Rattle.ap_tokens.specs.Tokens.{Seen}
use Rattle.ap_tokens.specs.Grammar as tokens
use Rattle.ap_reader.specs.declared.form.Body.TheVariants as body
use Rattle.ap_reader.specs.declared.reading.Mark.TheVariants as marks
use Rattle.ap_reader.specs.Heads.{made}
use Rattle.ap_reader.specs.Grammar.{Comes, Reads}
use Rattle.ap_reader.specs.Grammar as spells
use Rattle.ap_term.specs.declared.term.Term.{Quote}
use Rattle.ap_term.specs.Printed.{written_step, value_text, term_text}
use Rattle.ap_term.proofs.Folds.{constant_text}
use Rattle.ap_value.specs.Fits.{fits, all_fit}
use Rattle.ap_round_trip.specs.ReadBack.{nesting, IsReadAs, IsReadQuoted}
use Rattle.ap_value.proofs.Induction.{fold_int, fold_chr, fold_str, fold_sym}
use Rattle.ap_round_trip.proofs.Tokens.{over, reads_leaf, token_here}
use Rattle.ap_round_trip.proofs.Strings.{string_leaf}
use Rattle.ap_round_trip.proofs.Characters.{character_leaf}
use Rattle.ap_round_trip.proofs.Integers.{integer_leaf}
use Rattle.ap_round_trip.proofs.Symbols.{symbol_leaf}
use Rattle.ap_round_trip.proofs.Stands.{Stands}
use Rattle.ap_round_trip.proofs.Values.{read_back}

pub symbols : (s : Symbol) → Reads (at 0 (value_text (Sym s))) (made 0 (body.Sym s) ∷ [])
symbols s = subst (λ t. Reads (at 0 t) (made 0 (body.Sym s) ∷ [])) (sym (ap (λ w. w.alone) (fold_sym written_step s))) (reads_leaf _ (body.Sym s) (symbol_leaf s))

pub strings : (cs : List ℕ) → Reads (at 0 (value_text (Str cs))) (made 0 (body.Str cs) ∷ [])
strings cs = subst (λ t. Reads (at 0 t) (made 0 (body.Str cs) ∷ [])) (sym (ap (λ w. w.alone) (fold_str written_step cs))) (reads_leaf _ (body.Str cs) (string_leaf cs))

pub characters : (c : ℕ) → Reads (at 0 (value_text (Chr c))) (made 0 (body.Chr c) ∷ [])
characters c = subst (λ t. Reads (at 0 t) (made 0 (body.Chr c) ∷ [])) (sym (ap (λ w. w.alone) (fold_chr written_step c))) (reads_leaf _ (body.Chr c) (character_leaf c))

pub integers : (n : ℤ) → IsTrue (fits n) → Reads (at 0 (value_text (Int n))) (made 0 (body.Int n) ∷ [])
integers n h = subst (λ t. Reads (at 0 t) (made 0 (body.Int n) ∷ [])) (sym (ap (λ w. w.alone) (fold_int written_step n))) (reads_leaf _ (body.Int n) (integer_leaf n h))

-- a value's text at some place of a text that ends with it
ends_with : (n p : ℕ) (v : Value) → IsTrue (all_fit v) → nesting v ≤ n → Stands n (at p (value_text v)) v []
ends_with n p v fit deep = subst (λ t. Stands n (at p t) v []) (append-nil (value_text v)) ((read_back v).alone n p [] over fit deep)

pub values : (v : Value) → IsTrue (all_fit v) → nesting v ≤ 400 → IsReadAs (value_text v) v
values v fit deep =
    let h = ends_with 400 0 v fit deep in
    (h.form, (spells.form h.token (at 0 (value_text v)) h.after h.end h.form [] h.comes h.spelled (spells.end h.end (subst (λ t. tokens.Between t []) (sym h.rest) (tokens.nothing []))), h.means))

quotes : (t : List ℕ) → Comes (at 0 (39 ∷ t)) (record { start = 0; text = 39 ∷ []; kind = kinds.Quote }) (at 1 t)
unfolding is_blank
quotes t = token_here kinds.Quote 0 (39 ∷ []) t refl (tokens.quote_mark t) (omega arith)

quoted : (v : Value) → IsTrue (all_fit v) → nesting v < 400 → IsReadQuoted (39 ∷ value_text v) v
quoted v fit deep =
    let h = ends_with 399 1 v fit (omega arith) in
    let s : Seen = record { start = 0; text = 39 ∷ []; kind = kinds.Quote } in (
      h.form,
      (
        spells.form s (at 0 (39 ∷ value_text v)) (at 1 (value_text v)) h.end (made 0 (body.Quoted h.form)) [] (quotes (value_text v))
            (spells.marked 399 s h.token (at 1 (value_text v)) h.after h.end marks.Quote h.form refl h.comes h.spelled)
            (spells.end h.end (subst (λ t. tokens.Between t []) (sym h.rest) (tokens.nothing []))),
        h.means,
      ),
    )

pub constants : (v : Value) → IsTrue (all_fit v) → nesting v < 400 → IsReadQuoted (term_text (Quote v)) v
constants v fit deep = subst (λ t. IsReadQuoted t v) (sym (constant_text (Quote v) v refl)) (quoted v fit deep)
