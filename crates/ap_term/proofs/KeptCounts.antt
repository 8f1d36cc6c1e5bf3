-- What is kept of arguments: equations of the counts at each kind of term.
use Rattle.std.proofs.Common.{◌≡◌, ℕ, suc, ◌+◌, ◌<◌, ◌≤◌, Bool, true, false, ◌||◌, List, [], ◌∷◌, map, length, drop, get_or, is_some, refl, ap, sym, ◌∙◌, add-one, drop-cons, arith}
use Rattle.ap_list.specs.Lists.{Each, sum_of}
use Rattle.ap_value.specs.declared.symbol.Symbol.{Symbol}
use Rattle.ap_value.specs.declared.value.Value.{Value}
use Rattle.ap_value.specs.Counts.{node_count}
use Rattle.ap_value.specs.Values.{symbol_eq}
use Rattle.ap_term.specs.declared.term.Term.{Term, Var, Quote, Call}
use Rattle.ap_term.specs.Names.{if_name}
use Rattle.ap_term.specs.Order.{variables_in, functions_in, constants_in, variable_step, function_step, constant_step}
use Rattle.ap_term.specs.Leaves.{leaves, leaves_step, has_if, has_if_step, choice_leaves, if_parts, product, any_true}
use Rattle.ap_term.specs.Hashes.{mixed, mixed_all, symbol_hash, value_hash, term_hash, hash_step}
use Rattle.ap_term.specs.Capped.{capped}
use Rattle.ap_term.specs.Terms.{term_size, size_step}
use Rattle.ap_term.proofs.Induction.{term_ind, fold_var, fold_quote, fold_call}

pub variables_var : (x : Symbol) → variables_in (Var x) ≡ 1
variables_var x = fold_var variable_step x

pub variables_quote : (v : Value) → variables_in (Quote v) ≡ 0
variables_quote v = fold_quote variable_step v

pub variables_call : (f : Symbol) (ts : List Term) → variables_in (Call f ts) ≡ sum_of (map variables_in ts)
variables_call f ts = fold_call variable_step f ts

pub functions_var : (x : Symbol) → functions_in (Var x) ≡ 0
functions_var x = fold_var function_step x

pub functions_quote : (v : Value) → functions_in (Quote v) ≡ 0
functions_quote v = fold_quote function_step v

pub functions_call : (f : Symbol) (ts : List Term) → functions_in (Call f ts) ≡ sum_of (map functions_in ts) + 1
functions_call f ts = fold_call function_step f ts

pub constants_var : (x : Symbol) → constants_in (Var x) ≡ 0
constants_var x = fold_var constant_step x

pub constants_quote : (v : Value) → constants_in (Quote v) ≡ node_count v
constants_quote v = fold_quote constant_step v

pub constants_call : (f : Symbol) (ts : List Term) → constants_in (Call f ts) ≡ sum_of (map constants_in ts)
constants_call f ts = fold_call constant_step f ts

pub leaves_var : (x : Symbol) → leaves (Var x) ≡ 1
leaves_var x = fold_var leaves_step x

pub leaves_quote : (v : Value) → leaves (Quote v) ≡ 1
leaves_quote v = fold_quote leaves_step v

pub has_if_var : (x : Symbol) → has_if (Var x) ≡ false
has_if_var x = fold_var has_if_step x

pub has_if_quote : (v : Value) → has_if (Quote v) ≡ false
has_if_quote v = fold_quote has_if_step v

pub hash_var : (x : Symbol) → term_hash (Var x) ≡ mixed 6 (symbol_hash x)
hash_var x = fold_var hash_step x

pub hash_quote : (v : Value) → term_hash (Quote v) ≡ mixed 7 (value_hash v)
hash_quote v = fold_quote hash_step v

pub hash_call : (f : Symbol) (ts : List Term) → term_hash (Call f ts) ≡ mixed (symbol_hash f) (mixed_all 8 (map term_hash ts))
hash_call f ts = fold_call hash_step f ts

pub size_var : (x : Symbol) → term_size (Var x) ≡ 1
size_var x = fold_var size_step x

pub size_quote : (v : Value) → term_size (Quote v) ≡ node_count v
size_quote v = fold_quote size_step v

pub size_call : (f : Symbol) (ts : List Term) → term_size (Call f ts) ≡ sum_of (map term_size ts) + 1
size_call f ts = fold_call size_step f ts

-- a call that is an `if` of three arguments, and one that isn't
pub choice_call : (f : Symbol) (ts : List Term) → is_some (if_parts (symbol_eq f if_name) ts) ≡ true → leaves (Call f ts) ≡ choice_leaves (if_parts true (map leaves ts)) (product (map leaves ts))
choice_call f ts h = fold_call leaves_step f ts ∙ go (symbol_eq f if_name) ts h
  where
    go : (b : Bool) (ts : List Term) → is_some (if_parts b ts) ≡ true → choice_leaves (if_parts b (map leaves ts)) (product (map leaves ts)) ≡ choice_leaves (if_parts true (map leaves ts)) (product (map leaves ts))
    go true ts h = refl
    go false ts h = cc

pub product_call : (f : Symbol) (ts : List Term) → is_some (if_parts (symbol_eq f if_name) ts) ≡ false → leaves (Call f ts) ≡ product (map leaves ts)
product_call f ts h = fold_call leaves_step f ts ∙ go (symbol_eq f if_name) ts h
  where
    go : (b : Bool) (ts : List Term) → is_some (if_parts b ts) ≡ false → choice_leaves (if_parts b (map leaves ts)) (product (map leaves ts)) ≡ product (map leaves ts)
    go true (a ∷ b ∷ c ∷ []) h = cc
    go x ts h = refl

-- whether there are three parts doesn't depend on what they are
parts_mapped : {A B : Type 0} (g : A → B) (b : Bool) (ts : List A) → is_some (if_parts b (map g ts)) ≡ is_some (if_parts b ts)
parts_mapped g true (a ∷ b ∷ c ∷ []) = refl
parts_mapped g true [] = refl
parts_mapped g true (a ∷ []) = refl
parts_mapped g true (a ∷ b ∷ []) = refl
parts_mapped g true (a ∷ b ∷ c ∷ d ∷ ts) = refl
parts_mapped g false ts = refl

pub has_if_call : (f : Symbol) (ts : List Term) → has_if (Call f ts) ≡ (is_some (if_parts (symbol_eq f if_name) ts) || any_true (map has_if ts))
has_if_call f ts = fold_call has_if_step f ts ∙ ap (λ b. b || any_true (map has_if ts)) (parts_mapped has_if (symbol_eq f if_name) ts)

pub has_if_chosen : (f : Symbol) (ts : List Term) → is_some (if_parts (symbol_eq f if_name) ts) ≡ true → has_if (Call f ts) ≡ true
has_if_chosen f ts h = has_if_call f ts ∙ ap (λ b. b || any_true (map has_if ts)) h

pub has_if_other : (f : Symbol) (ts : List Term) → is_some (if_parts (symbol_eq f if_name) ts) ≡ false → has_if (Call f ts) ≡ any_true (map has_if ts)
has_if_other f ts h = has_if_call f ts ∙ ap (λ b. b || any_true (map has_if ts)) h

-- the nodes are the variables, the calls and what stands in constants
abbrev Parted : Term → Type 0
Parted t = variables_in t + functions_in t + constants_in t ≡ term_size t

each_parted : (ts : List Term) → Each Parted ts → sum_of (map variables_in ts) + sum_of (map functions_in ts) + sum_of (map constants_in ts) ≡ sum_of (map term_size ts)
each_parted [] h = refl
each_parted (t ∷ ts) h = let one = h.0 in let more = each_parted ts h.1 in omega arith

pub size_parted : (t : Term) → variables_in t + functions_in t + constants_in t ≡ term_size t
size_parted = term_ind Parted variable constant call
  where
    variable : (x : Symbol) → Parted (Var x)
    variable x = rw (variables_var x, functions_var x, constants_var x, size_var x) refl

    constant : (v : Value) → Parted (Quote v)
    constant v = rw (variables_quote v, functions_quote v, constants_quote v, size_quote v) (omega arith)

    call : (f : Symbol) (ts : List Term) → Each Parted ts → Parted (Call f ts)
    call f ts h = rw (variables_call f ts, functions_call f ts, constants_call f ts, size_call f ts) (let all = each_parted ts h in omega arith)

pub all_parted : (ts : List Term) → sum_of (map variables_in ts) + sum_of (map functions_in ts) + sum_of (map constants_in ts) ≡ sum_of (map term_size ts)
all_parted [] = refl
all_parted (t ∷ ts) = let one = size_parted t in let more = all_parted ts in omega arith

-- sums as far as 32 bits hold them
pub parts_capped : (a b c n m t : ℕ) → a + b + c ≡ n → m ≡ capped (capped a + capped b) → t ≡ capped (m + capped c) → t ≡ capped n
parts_capped a b c n m t h e f = omega arith

-- the next one of some terms
next_of : (ts : List Term) (i : ℕ) (t : Term) → i < length ts → t ≡ get_or ts i t → drop i ts ≡ t ∷ drop (i + 1) ts
next_of ts i t within at = drop-cons ts i t within ∙ ap (λ u. u ∷ drop (suc i) ts) (sym at) ∙ ap (λ k. t ∷ drop k ts) (sym (add-one i))

pub next_sum : (g : Term → ℕ) (ts : List Term) (i all x n : ℕ) (t : Term) → i < length ts → t ≡ get_or ts i t → x ≡ capped (g t) → n ≡ capped (all + x)
    → capped (all + sum_of (map g (drop i ts))) ≡ capped (sum_of (map g ts)) → capped (n + sum_of (map g (drop (i + 1) ts))) ≡ capped (sum_of (map g ts))
next_sum g ts i all x n t within at hx hn so_far =
    go (g t) (sum_of (map g (drop (i + 1) ts))) (sum_of (map g (drop i ts))) (sum_of (map g ts)) (ap (λ us. sum_of (map g us)) (next_of ts i t within at)) hx hn so_far
  where
    go : (v rest left whole : ℕ) → left ≡ v + rest → x ≡ capped v → n ≡ capped (all + x) → capped (all + left) ≡ capped whole → capped (n + rest) ≡ capped whole
    go v rest left whole e hx hn h = omega arith

pub next_hash : (ts : List Term) (i all x n whole : ℕ) (t : Term) → i < length ts → t ≡ get_or ts i t → x ≡ term_hash t → n ≡ mixed all x
    → mixed_all all (map term_hash (drop i ts)) ≡ whole → mixed_all n (map term_hash (drop (i + 1) ts)) ≡ whole
next_hash ts i all x n whole t within at hx hn so_far =
    ap (λ k. mixed_all k (map term_hash (drop (i + 1) ts))) (hn ∙ ap (mixed all) hx) ∙ sym (ap (λ us. mixed_all all (map term_hash us)) (next_of ts i t within at)) ∙ so_far

pub next_or : (ts : List Term) (i : ℕ) (so x whole : Bool) (t : Term) → i < length ts → t ≡ get_or ts i t → x ≡ has_if t
    → (so || any_true (map has_if (drop i ts))) ≡ whole → ((so || x) || any_true (map has_if (drop (i + 1) ts))) ≡ whole
next_or ts i so x whole t within at hx so_far =
    go so x (has_if t) (any_true (map has_if (drop (i + 1) ts))) (any_true (map has_if (drop i ts))) hx (ap (λ us. any_true (map has_if us)) (next_of ts i t within at)) so_far
  where
    go : (a b v rest left : Bool) → b ≡ v → left ≡ (v || rest) → (a || left) ≡ whole → ((a || b) || rest) ≡ whole
    go true b v rest left e f h = h
    go false b v rest left e f h = ap (λ c. c || rest) e ∙ sym f ∙ h
