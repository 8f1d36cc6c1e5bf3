-- How many nodes the instance of a term has at most, at the arguments of a call.
use Rattle.std.proofs.Common.{◌≡◌, ◌≤◌, ◌+◌, ◌*◌, ℕ, nat_le, Bool, true, false, cond, List, [], ◌∷◌, map, zip, Some, unwrap_or, sym, subst, arith}
use Rattle.std.proofs.lemmas.Bool.{leb-true, le-leb}
use Rattle.std.proofs.Math.Nat.{add-mul, one-mul, le-mul_of_pos_right}
use Rattle.ap_list.specs.Lists.{Each, sum_of, lookup_by}
use Rattle.ap_value.specs.declared.symbol.Symbol.{Symbol}
use Rattle.ap_value.specs.declared.value.Value.{Value}
use Rattle.ap_value.specs.Values.{symbol_eq}
use Rattle.ap_value.specs.Counts.{node_count}
use Rattle.ap_term.specs.declared.term.Term.{Term, Var, Quote, Call}
use Rattle.ap_term.specs.Matching.{Pairs}
use Rattle.ap_term.specs.Terms.{size_step, term_size, subst_of}
use Rattle.ap_term.proofs.Induction.{term_ind, fold_var, fold_quote, fold_call}
use Rattle.ap_world.proofs.Written.{subst_var, subst_quote, subst_call}

-- each of a list has at most as many as all together
each_below : (us : List Term) (m : ℕ) → sum_of (map term_size us) ≤ m → Each (λ u. term_size u ≤ m) us
each_below [] m h = tt
each_below (u ∷ us) m h = (omega arith, each_below us m (omega arith))

each_zip : (xs : List Symbol) (us : List Term) (m : ℕ) → Each (λ u. term_size u ≤ m) us → Each (λ (p : Symbol × Term). term_size p.1 ≤ m) (zip xs us)
each_zip [] us m h = tt
each_zip (x ∷ xs) [] m h = tt
each_zip (x ∷ xs) (u ∷ us) m h = (h.0, each_zip xs us m h.1)

-- where no variable's term has more than m nodes, an instance has at most m times as many as the term
module _ (m : ℕ) (some : 1 ≤ m) where
  found : (s : Pairs) → Each (λ p. term_size p.1 ≤ m) s → (x : Symbol) → term_size (unwrap_or (lookup_by symbol_eq s x) (Var x)) ≤ m
  found [] h x = let e : term_size (Var x) ≡ 1 = fold_var size_step x in omega arith
  found (p ∷ ps) h x = choose (symbol_eq x p.0) (found ps h.1 x)
    where
      choose : (b : Bool) → term_size (unwrap_or (lookup_by symbol_eq ps x) (Var x)) ≤ m → term_size (unwrap_or (cond b (Some p.1) (lookup_by symbol_eq ps x)) (Var x)) ≤ m
      choose true k = h.0
      choose false k = k

  grown : (s : Pairs) → Each (λ p. term_size p.1 ≤ m) s → (u : Term) → term_size (subst_of s u) ≤ term_size u * m
  grown s h = term_ind Goal variable quoted called
    where
      Goal : Term → Type 0
      Goal u = term_size (subst_of s u) ≤ term_size u * m

      variable : (x : Symbol) → Goal (Var x)
      variable x =
          let there : term_size (unwrap_or (lookup_by symbol_eq s x) (Var x)) ≤ m = found s h x in
          let e : term_size (Var x) ≡ 1 = fold_var size_step x in
          rw (subst_var s x, e, one-mul m) there

      quoted : (v : Value) → Goal (Quote v)
      quoted v =
          let e : term_size (Quote v) ≡ node_count v = fold_quote size_step v in
          rw (subst_quote s v, e) (le-mul_of_pos_right (node_count v) (omega arith))

      sums : (ts : List Term) → Each Goal ts → sum_of (map term_size (map (subst_of s) ts)) ≤ sum_of (map term_size ts) * m
      sums [] es = omega arith
      sums (t ∷ ts) es =
          let first : term_size (subst_of s t) ≤ term_size t * m = es.0 in
          let more : sum_of (map term_size (map (subst_of s) ts)) ≤ sum_of (map term_size ts) * m = sums ts es.1 in
          rw (add-mul (term_size t) (sum_of (map term_size ts)) m) (omega arith)

      called : (f : Symbol) (ts : List Term) → Each Goal ts → Goal (Call f ts)
      called f ts es =
          let e : term_size (Call f ts) ≡ sum_of (map term_size ts) + 1 = fold_call size_step f ts in
          let k : term_size (Call f (map (subst_of s) ts)) ≡ sum_of (map term_size (map (subst_of s) ts)) + 1 = fold_call size_step f (map (subst_of s) ts) in
          let all : sum_of (map term_size (map (subst_of s) ts)) ≤ sum_of (map term_size ts) * m = sums ts es in
          rw (subst_call s f ts, e, k, add-mul (sum_of (map term_size ts)) 1 m, one-mul m) (omega arith)

-- a variable's term is an argument of the call, which is smaller than the call
pub size_at : (xs : List Symbol) (f : Symbol) (us : List Term) (u : Term) → term_size (subst_of (zip xs us) u) ≤ term_size u * term_size (Call f us)
size_at xs f us u =
    let e : term_size (Call f us) ≡ sum_of (map term_size us) + 1 = fold_call size_step f us in
    grown (term_size (Call f us)) (omega arith) (zip xs us) (each_zip xs us (term_size (Call f us)) (each_below us (term_size (Call f us)) (omega arith))) u

pub small_at : (xs : List Symbol) (f : Symbol) (us : List Term) (u t : Term) (n : ℕ) → t ≡ Call f us → nat_le (term_size u * term_size t) n ≡ true → nat_le (term_size (subst_of (zip xs us) u)) n ≡ true
small_at xs f us u t n e h =
    let few : term_size u * term_size t ≤ n = leb-true (term_size u * term_size t) n h in
    let most : term_size (subst_of (zip xs us) u) ≤ term_size u * term_size t = subst (λ (x : Term). term_size (subst_of (zip xs us) u) ≤ term_size u * term_size x) (sym e) (size_at xs f us u) in
    le-leb (term_size (subst_of (zip xs us) u)) n (omega arith)
