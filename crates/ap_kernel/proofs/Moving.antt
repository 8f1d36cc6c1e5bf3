-- From what holds of a candidate's places to the equation of instances.
use Rattle.std.proofs.Common.{◌≡◌, Bool, true, false, cond, not, List, [], ◌∷◌, map, zip, length, Some, None, unwrap_or, refl, sym, ap, ◌∙◌, subst, arith}
use Rattle.ap_list.specs.Lists.{Each, is_among, is_distinct, lookup_by}
use Rattle.ap_value.specs.declared.symbol.Symbol.{Symbol}
use Rattle.ap_value.specs.Values.{symbol_eq}
use Rattle.ap_value.proofs.Equals.{both, symbol_eq-true, symbol_eq-same}
use Rattle.ap_term.specs.declared.term.Term.{Term, Var}
use Rattle.ap_term.specs.Terms.{vars_after, subst_of}
use Rattle.ap_world.proofs.Knowing.{each_same}
use Rattle.ap_world.proofs.Written.{subst_var}
use Rattle.ap_world.proofs.Places.{neither, symbol_eq-false}
use Rattle.ap_kernel.specs.Induction.{Place, variable_of, moved_names, moved_at, formals_of, actuals_of, pairs_of}
use Rattle.ap_world.proofs.Lists.{each_zip}
use Rattle.ap_kernel.proofs.Varying.{moves_term, untouched}
use Rattle.ap_kernel.proofs.InductBy.{Moves}

pub not_true : (b : Bool) → not b ≡ true → b ≡ false
not_true true h = cc
not_true false h = refl

-- a symbol that is none of these differs from each
pub each_differs : (v : Symbol) (xs : List Symbol) → is_among symbol_eq v xs ≡ false → Each (λ x. symbol_eq x v ≡ false) xs
each_differs v [] h = tt
each_differs v (x ∷ xs) h = let p = neither (symbol_eq v x) (is_among symbol_eq v xs) h in (symbol_eq-false v x p.0, each_differs v xs p.1)

-- what a place is for the argument that a call has there: one that is replaced has a variable; one that the measure mentions, and that isn't, is unchanged, and no replaced variable stands in its actual
pub record GoodPlace (names : List Symbol) (q : Place) (d : Term) : Type 0 where
  pub moved : q.is_moved ≡ true → Var (variable_of q.actual) ≡ q.actual
  pub still : q.is_moved ≡ false → q.is_measured ≡ true → (d ≡ Var q.formal) × Each (λ x. is_among symbol_eq x names ≡ false) (vars_after q.actual [])

abbrev pub is_measured_at : List Place → Symbol → Bool
is_measured_at [] x = false
is_measured_at (p ∷ ps) x = cond (symbol_eq x p.formal) p.is_measured (is_measured_at ps x)

not_moved : (s : List (Symbol × Term)) (ps : List Place) (cs : List Term) (x : Symbol) → is_among symbol_eq x (moved_names ps) ≡ false → lookup_by symbol_eq (moved_at s ps cs) x ≡ None
not_moved s [] cs x h = refl
not_moved s (p ∷ ps) [] x h = refl
not_moved s (p ∷ ps) (c ∷ cs) x h = go p.is_moved (not_moved s ps cs x) h
  where
    go : (b : Bool) → (is_among symbol_eq x (moved_names ps) ≡ false → lookup_by symbol_eq (moved_at s ps cs) x ≡ None)
        → is_among symbol_eq x (cond b (variable_of p.actual ∷ moved_names ps) (moved_names ps)) ≡ false
        → lookup_by symbol_eq (cond b ((variable_of p.actual, subst_of s c) ∷ moved_at s ps cs) (moved_at s ps cs)) x ≡ None
    go false below h = below h
    go true below h =
        let q = neither (symbol_eq x (variable_of p.actual)) (is_among symbol_eq x (moved_names ps)) h in
        ap (λ b. cond b (Some (subst_of s c)) (lookup_by symbol_eq (moved_at s ps cs) x)) q.0 ∙ below q.1

module _ (s mv : List (Symbol × Term)) (names : List Symbol) (clear : (x : Symbol) → is_among symbol_eq x names ≡ false → lookup_by symbol_eq mv x ≡ None) where
  -- what the replacement has for the variables of these places, it has from these
  abbrev Kept : Bool → Symbol → Term → List Place → List Term → Type 0
  Kept b v u qs ds = Each (λ x. lookup_by symbol_eq mv x ≡ lookup_by symbol_eq (cond b ((v, u) ∷ moved_at s qs ds) (moved_at s qs ds)) x) (cond b (v ∷ moved_names qs) (moved_names qs))

  rest_distinct : (b : Bool) (v : Symbol) (xs : List Symbol) → is_distinct symbol_eq (cond b (v ∷ xs) xs) ≡ true → is_distinct symbol_eq xs ≡ true
  rest_distinct true v xs h = (both (not (is_among symbol_eq v xs)) (is_distinct symbol_eq xs) h).1
  rest_distinct false v xs h = h

  rest_kept : (b : Bool) (v : Symbol) (u : Term) (qs : List Place) (ds : List Term) → is_distinct symbol_eq (cond b (v ∷ moved_names qs) (moved_names qs)) ≡ true → Kept b v u qs ds
      → Each (λ x. lookup_by symbol_eq mv x ≡ lookup_by symbol_eq (moved_at s qs ds) x) (moved_names qs)
  rest_kept false v u qs ds h k = k
  rest_kept true v u qs ds h k =
      let p = both (not (is_among symbol_eq v (moved_names qs))) (is_distinct symbol_eq (moved_names qs)) h in
      each_zip (λ x. symbol_eq x v ≡ false) (λ x. lookup_by symbol_eq mv x ≡ lookup_by symbol_eq ((v, u) ∷ moved_at s qs ds) x) (λ x. lookup_by symbol_eq mv x ≡ lookup_by symbol_eq (moved_at s qs ds) x) (moved_names qs)
      (λ x q l. l ∙ ap (λ b. cond b (Some u) (lookup_by symbol_eq (moved_at s qs ds) x)) q) (each_differs v (moved_names qs) (not_true _ p.0)) k.1

  first_kept : (b : Bool) (v : Symbol) (u : Term) (qs : List Place) (ds : List Term) → b ≡ true → Kept b v u qs ds → lookup_by symbol_eq mv v ≡ Some u
  first_kept false v u qs ds is k = cc
  first_kept true v u qs ds is k = k.0 ∙ ap (λ b. cond b (Some u) (lookup_by symbol_eq (moved_at s qs ds) v)) (symbol_eq-same v)

  agree_row : (q : Place) (d : Term) → GoodPlace names q d → lookup_by symbol_eq s q.formal ≡ Some q.actual → q.is_measured ≡ true
      → (q.is_moved ≡ true → lookup_by symbol_eq mv (variable_of q.actual) ≡ Some (subst_of s d)) → subst_of mv q.actual ≡ subst_of s d
  agree_row q d good look m found = go q.is_moved refl
    where
      go : (b : Bool) → q.is_moved ≡ b → subst_of mv q.actual ≡ subst_of s d
      go true is = ap (subst_of mv) (sym (good.moved is)) ∙ subst_var mv (variable_of q.actual) ∙ ap (λ o. unwrap_or o (Var (variable_of q.actual))) (found is)
      go false is =
          let still = good.still is m in
          untouched mv q.actual (each_same (vars_after q.actual []) clear still.1)
          ∙ sym (ap (subst_of s) still.0 ∙ subst_var s q.formal ∙ ap (λ o. unwrap_or o (Var q.formal)) look)

  agree_rows : (qs : List Place) (ds : List Term) → length qs ≡ length ds → is_distinct symbol_eq (moved_names qs) ≡ true
      → Each (λ x. lookup_by symbol_eq mv x ≡ lookup_by symbol_eq (moved_at s qs ds) x) (moved_names qs) → Each (λ r. GoodPlace names r.0 r.1) (zip qs ds)
      → (x : Symbol) → lookup_by symbol_eq s x ≡ lookup_by symbol_eq (pairs_of qs) x → is_measured_at qs x ≡ true
      → subst_of mv (unwrap_or (lookup_by symbol_eq (pairs_of qs) x) (Var x)) ≡ subst_of s (unwrap_or (lookup_by symbol_eq (zip (formals_of qs) ds) x) (Var x))
  agree_rows [] ds l apart kept good x look m = cc
  agree_rows (q ∷ qs) [] l apart kept good x look m = absurd (omega arith)
  agree_rows (q ∷ qs) (d ∷ ds) l apart kept good x look m =
      go (symbol_eq x q.formal) refl
      (agree_rows qs ds (omega arith) (rest_distinct q.is_moved (variable_of q.actual) (moved_names qs) apart) (rest_kept q.is_moved (variable_of q.actual) (subst_of s d) qs ds apart kept) good.1 x)
      look m
    where
      go : (b : Bool) → symbol_eq x q.formal ≡ b
          → (lookup_by symbol_eq s x ≡ lookup_by symbol_eq (pairs_of qs) x → is_measured_at qs x ≡ true
          → subst_of mv (unwrap_or (lookup_by symbol_eq (pairs_of qs) x) (Var x)) ≡ subst_of s (unwrap_or (lookup_by symbol_eq (zip (formals_of qs) ds) x) (Var x)))
          → lookup_by symbol_eq s x ≡ cond b (Some q.actual) (lookup_by symbol_eq (pairs_of qs) x) → cond b q.is_measured (is_measured_at qs x) ≡ true
          → subst_of mv (unwrap_or (cond b (Some q.actual) (lookup_by symbol_eq (pairs_of qs) x)) (Var x)) ≡ subst_of s (unwrap_or (cond b (Some d) (lookup_by symbol_eq (zip (formals_of qs) ds) x)) (Var x))
      go true is below k n = agree_row q d good.0 (ap (lookup_by symbol_eq s) (sym (symbol_eq-true x q.formal is)) ∙ k) n (λ moved. first_kept q.is_moved (variable_of q.actual) (subst_of s d) qs ds moved kept)
      go false is below k n = below k n

pub zip_pairs : (ps : List Place) → zip (formals_of ps) (actuals_of ps) ≡ pairs_of ps
zip_pairs [] = refl
zip_pairs (p ∷ ps) = ap (λ s. (p.formal, p.actual) ∷ s) (zip_pairs ps)

each_refl : (s : List (Symbol × Term)) (xs : List Symbol) → Each (λ x. lookup_by symbol_eq s x ≡ lookup_by symbol_eq s x) xs
each_refl s [] = tt
each_refl s (x ∷ xs) = (refl, each_refl s xs)

-- where the places are good for a call, and the measure's variables are of measured places, the replacement moves the measure
pub moves_call : (ps : List Place) (call : List Term) → length ps ≡ length call → is_distinct symbol_eq (moved_names ps) ≡ true → Each (λ r. GoodPlace (moved_names ps) r.0 r.1) (zip ps call)
    → (m : List Term) → Each (λ u. Each (λ x. is_measured_at ps x ≡ true) (vars_after u [])) m → Moves (formals_of ps) (actuals_of ps) (moved_at (pairs_of ps) ps) m call
moves_call ps call l apart good m ms =
    subst (λ s. map (λ u. subst_of (moved_at (pairs_of ps) ps call) (subst_of s u)) m ≡ map (λ u. subst_of s (subst_of (zip (formals_of ps) call) u)) m) (sym (zip_pairs ps)) (all m ms)
  where
    one : (u : Term) → Each (λ x. is_measured_at ps x ≡ true) (vars_after u []) → subst_of (moved_at (pairs_of ps) ps call) (subst_of (pairs_of ps) u) ≡ subst_of (pairs_of ps) (subst_of (zip (formals_of ps) call) u)
    one u h = moves_term (moved_at (pairs_of ps) ps call) (pairs_of ps) (zip (formals_of ps) call) u
        (each_same (vars_after u []) (λ x k. agree_rows (pairs_of ps) (moved_at (pairs_of ps) ps call) (moved_names ps) (not_moved (pairs_of ps) ps call) ps call l apart (each_refl (moved_at (pairs_of ps) ps call) (moved_names ps)) good x refl k) h)

    all : (us : List Term) → Each (λ u. Each (λ x. is_measured_at ps x ≡ true) (vars_after u [])) us
        → map (λ u. subst_of (moved_at (pairs_of ps) ps call) (subst_of (pairs_of ps) u)) us ≡ map (λ u. subst_of (pairs_of ps) (subst_of (zip (formals_of ps) call) u)) us
    all [] h = refl
    all (u ∷ us) h = let p = one u h.0 in let q = all us h.1 in λ i. p i ∷ q i
