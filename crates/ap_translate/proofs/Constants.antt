-- Lists of constants, and what is kept of them.
use Rattle.std.proofs.Common.{◌≡◌, ◌≢◌, ℕ, ℤ, ◌+◌, ◌-◌, ◌<◌, ◌≤◌, Bool, true, false, cond, nat_le, List, [], ◌∷◌, ◌++◌, length, get_or, drop, Option, Some, None, Ok, Err, suc, refl, sym, ap, ◌∙◌, add-one, drop-cons, arith}
use Rattle.std.proofs.lemmas.Bool.Decides.{nat_tests}
use Rattle.ap_value.specs.declared.symbol.Symbol.{Symbol}
use Rattle.ap_value.specs.declared.value.Value.{Value, fold-Value, fold-roll-Value}
use Rattle.ap_value.specs.declared.value.Value.TheOpen.{Value-F}
use Rattle.ap_value.specs.declared.value.Value.TheVariants.{Int, Chr, Sym, Cons, rolls-Int, rolls-Chr, rolls-Sym, rolls-Cons}
use Rattle.ap_value.specs.Counts.{node_step, node_count}
use Rattle.ap_world.specs.Names.{nil_name}
use Rattle.ap_reader.specs.declared.form.Form.{Form}
use Rattle.ap_translate.specs.Answers.{Answer, ◌>>=◌, shaped, each}
use Rattle.ap_translate.specs.Quoted.{conses, nil_value, quote_name, quote_list, constants, constant_in, list_constant, dotted_constant, quoted_constant}
use Rattle.ap_translate.specs.Sizes.{total, weight, small_value, few_values, list_small, capped}
use Rattle.ap_translate.proofs.Kept.{past}
use Rattle.ap_translate.proofs.Nestings.{constants_some}

-- the last value may be chained first
pub conses_last : (vs : List Value) (v e : Value) → conses (vs ++ v ∷ []) e ≡ conses vs (Cons v e)
conses_last [] v e = refl
conses_last (w ∷ vs) v e = ap (Cons w) (conses_last vs v e)

-- the nodes of a symbol, a number, a character and a cons
pub nodes_symbol : (s : Symbol) → node_count (Sym s) ≡ 1
nodes_symbol s = ap (fold-Value ℕ node_step) (sym (rolls-Sym s)) ∙ fold-roll-Value ℕ node_step (Value-F.Sym s)

pub nodes_int : (n : ℤ) → node_count (Int n) ≡ 1
nodes_int n = ap (fold-Value ℕ node_step) (sym (rolls-Int n)) ∙ fold-roll-Value ℕ node_step (Value-F.Int n)

pub nodes_chr : (c : ℕ) → node_count (Chr c) ≡ 1
nodes_chr c = ap (fold-Value ℕ node_step) (sym (rolls-Chr c)) ∙ fold-roll-Value ℕ node_step (Value-F.Chr c)

pub nodes_cons : (a b : Value) → node_count (Cons a b) ≡ node_count a + node_count b + 1
nodes_cons a b = ap (fold-Value ℕ node_step) (sym (rolls-Cons a b)) ∙ fold-roll-Value ℕ node_step (Value-F.Cons a b)

-- a list has its values' weights and its end's nodes
pub conses_nodes : (vs : List Value) (e : Value) → node_count (conses vs e) ≡ total weight vs + node_count e
conses_nodes [] e = omega arith
conses_nodes (v ∷ vs) e = omega (arith, nodes_cons v (conses vs e), conses_nodes vs e)

pub large_none : (v : Value) → 4096 < node_count v → small_value v ≡ None
large_none v h = grind (arith, nat_tests)

pub small_some : (v : Value) → node_count v ≤ 4096 → small_value v ≡ Some v
small_some v h = grind (arith, nat_tests)

-- what is kept of a list is made of what is kept of its parts
pub list_kept : (vs : List Value) (e : Value) → small_value (conses vs e) ≡ list_small (few_values vs) (small_value e)
list_kept vs e = by_total (nat_le (total weight vs) 4096) refl
  where
    by_end : (b : Bool) → nat_le (node_count e) 4096 ≡ b → small_value (conses vs e) ≡ list_small (Some vs) (cond b (Some e) None)
    by_end true h = refl
    by_end false h = let over = past (node_count e) h in large_none (conses vs e) (omega (arith, conses_nodes vs e, over))

    by_total : (b : Bool) → nat_le (total weight vs) 4096 ≡ b → small_value (conses vs e) ≡ list_small (cond b (Some vs) None) (small_value e)
    by_total true h = by_end (nat_le (node_count e) 4096) refl
    by_total false h = let over = past (total weight vs) h in large_none (conses vs e) (omega (arith, conses_nodes vs e, over))

nil_kept : small_value nil_value ≡ Some nil_value
nil_kept = let e = nodes_symbol nil_name in small_some nil_value (omega arith)

-- a list, a dotted list and a quoted form, by their parts
pub list_made : (n p : ℕ) (fs : List Form) (vs : Option (List Value)) (v : Option Value) → n ≢ 0 → capped few_values (each (constant_in (n - 1)) fs) ≡ Ok vs
    → v ≡ list_small vs (Some nil_value) → capped small_value (shaped p (constants n) (λ c. list_constant c fs)) ≡ Ok v
list_made n p fs vs v some read found =
    ap (λ o. capped small_value (shaped p o (λ c. list_constant c fs))) (constants_some n some) ∙ go (each (constant_in (n - 1)) fs) read
  where
    go : (r : Answer (List Value)) → capped few_values r ≡ Ok vs → capped small_value (r >>= λ ws. Ok (conses ws nil_value)) ≡ Ok v
    go (Err q) k = cc
    go (Ok ws) k =
        let s : few_values ws ≡ vs = cc in
        ap Ok (list_kept ws nil_value ∙ ap (list_small (few_values ws)) nil_kept ∙ ap (λ o. list_small o (Some nil_value)) s ∙ sym found)

pub dotted_made : (n p : ℕ) (fs : List Form) (f : Form) (vs : Option (List Value)) (e v : Option Value) → n ≢ 0 → capped few_values (each (constant_in (n - 1)) fs) ≡ Ok vs
    → capped small_value (constant_in (n - 1) f) ≡ Ok e → v ≡ list_small vs e → capped small_value (shaped p (constants n) (λ c. dotted_constant c fs f)) ≡ Ok v
dotted_made n p fs f vs e v some read end found =
    ap (λ o. capped small_value (shaped p o (λ c. dotted_constant c fs f))) (constants_some n some) ∙ go (each (constant_in (n - 1)) fs) (constant_in (n - 1) f) read end
  where
    go : (r : Answer (List Value)) (q : Answer Value) → capped few_values r ≡ Ok vs → capped small_value q ≡ Ok e → capped small_value (r >>= λ ws. q >>= λ w. Ok (conses ws w)) ≡ Ok v
    go (Err x) q k l = cc
    go (Ok ws) (Err x) k l = cc
    go (Ok ws) (Ok w) k l =
        let s : few_values ws ≡ vs = cc in
        let u : small_value w ≡ e = cc in
        ap Ok (list_kept ws w ∙ ap (λ o. list_small o (small_value w)) s ∙ ap (list_small vs) u ∙ sym found)

pub quoted_large : (n p : ℕ) (f : Form) (o : Option Value) → n ≢ 0 → capped small_value (constant_in (n - 1) f) ≡ Ok o → o ≡ None
    → capped small_value (shaped p (constants n) (λ c. quoted_constant c f)) ≡ Ok None
quoted_large n p f o some read none =
    ap (λ c. capped small_value (shaped p c (λ d. quoted_constant d f))) (constants_some n some) ∙ go (constant_in (n - 1) f) read
  where
    by_size : (v : Value) (b : Bool) → nat_le (node_count v) 4096 ≡ b → cond b (Some v) None ≡ None → small_value (quote_list v) ≡ None
    by_size v true h k = cc
    by_size v false h k =
        let over = past (node_count v) h in
        large_none (quote_list v) (omega (arith, nodes_cons (Sym quote_name) (Cons v nil_value), nodes_cons v nil_value, over))

    go : (r : Answer Value) → capped small_value r ≡ Ok o → capped small_value (r >>= λ v. Ok (quote_list v)) ≡ Ok None
    go (Err x) k = cc
    go (Ok v) k = let s : small_value v ≡ o = cc in ap Ok (by_size v (nat_le (node_count v) 4096) refl (s ∙ none))

-- the form at a place, and those behind it
pub at_form : {F : Type 0} (items : List F) (i : ℕ) (f : F) → i < length items → f ≡ get_or items i f → drop i items ≡ f ∷ drop (i + 1) items
at_form items i f h is = drop-cons items i f h ∙ ap (λ x. x ∷ drop (suc i) items) (sym is) ∙ ap (λ k. f ∷ drop k items) (sym (add-one i))
