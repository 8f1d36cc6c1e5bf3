-- Cases reduce: one of the terms is other than nil, or all are nil. An instance of a theorem is other than nil.
use Rattle.std.proofs.Common.{◌≡◌, ◌≢◌, true, not, List, [], ◌∷◌, ◌++◌, map, Some, ◌⊎◌, inl, inr, ap, sym, ◌∙◌}
use Rattle.ap_list.specs.Lists.{Each}
use Rattle.ap_value.specs.declared.symbol.Symbol.{Symbol}
use Rattle.ap_term.specs.declared.term.Term.{Term}
use Rattle.ap_term.specs.declared.term.Clause.{Clause}
use Rattle.ap_term.specs.Terms.{subst_of}
use Rattle.ap_term.specs.Matching.{Pairs}
use Rattle.ap_world.specs.declared.entry.Entry.{Entry}
use Rattle.ap_world.specs.declared.entry.Theorem.{Theorem}
use Rattle.ap_world.specs.Primitives.{nil}
use Rattle.ap_world.specs.Meaning.{Env, Defs, Total, Valid}
use Rattle.ap_world.specs.Clauses.{negate}
use Rattle.ap_world.specs.Holding.{KnownPairs}
use Rattle.ap_world.specs.Sound.{known, GoodTheorem, Sound}
use Rattle.ap_world.specs.World.{function_of, theorem_of}
use Rattle.ap_world.proofs.Knowing.{true_each}
use Rattle.ap_world.proofs.Looking.{theorem_good}
use Rattle.ap_world.proofs.TotalMeaning.{Apply, Models, models, val, AnyTrue, valid_is, valid_of, replaced, val_subst}
use Rattle.ap_world.proofs.Equations.{nil-eq, not_nil-eq}
use Rattle.ap_world.proofs.Instances.{known_subst}
use Rattle.ap_kernel.specs.Standing.{DefinesNot}
use Rattle.ap_kernel.specs.Reductions.{KnownClause, Follows}
use Rattle.ap_kernel.specs.Hinting.{case_clauses, cased, used}
use Rattle.ap_kernel.proofs.ChoicesStand.{known_not}
use Rattle.ap_kernel.proofs.Reduced.{any_either, any_or, each_append, each_parts, to_one_reduces}
use Rattle.ap_kernel.proofs.Splitting.{negate_turns, negate_known}

module _ (D : Defs) (A : Apply) (ms : Models D A) (ground : DefinesNot D) where
  negated_nil : (e : Env) (u : Term) → val A u e ≢ nil → val A (negate u) e ≡ nil
  negated_nil e u h = nil-eq (val A (negate u) e) (negate_turns D A ms ground e u ∙ ap not (not_nil-eq (val A u e) h))

  -- a case whose term is other than nil
  cases_hold : (e : Env) (on ts : List Term) → Each (λ (c : Clause). Valid D c.0) (map (λ u. record { 0 = negate u ∷ ts }) on) → AnyTrue A e on → AnyTrue A e ts
  cases_hold e [] ts hs h = absurd h
  cases_hold e (u ∷ us) ts hs (inr h) = cases_hold e us ts hs.1 h
  cases_hold e (u ∷ us) ts hs (inl h) = go (valid_is D A ms (negate u ∷ ts) hs.0 e)
    where
      go : AnyTrue A e (negate u ∷ ts) → AnyTrue A e ts
      go (inl k) = absurd (k (negated_nil e u h))
      go (inr k) = k

  none_true : (e : Env) (us : List Term) → Each (λ u. val A u e ≡ nil) us → AnyTrue A e us → ⊥
  none_true e [] ns h = h
  none_true e (u ∷ us) ns (inl h) = h ns.0
  none_true e (u ∷ us) ns (inr h) = none_true e us ns.1 h

  cases_all : (on ts : List Term) → Each (λ (c : Clause). Valid D c.0) (case_clauses on ts) → (e : Env) → AnyTrue A e ts
  cases_all on ts hs e = go (any_or A e on)
    where
      both : Each (λ (c : Clause). Valid D c.0) (map (λ u. record { 0 = negate u ∷ ts }) on) × Each (λ (c : Clause). Valid D c.0) (record { 0 = on ++ ts } ∷ [])
      both = each_parts (λ (c : Clause). Valid D c.0) (map (λ u. record { 0 = negate u ∷ ts }) on) (record { 0 = on ++ ts } ∷ []) hs

      last : Each (λ u. val A u e ≡ nil) on → AnyTrue A e on ⊎ AnyTrue A e ts → AnyTrue A e ts
      last ns (inl h) = absurd (none_true e on ns h)
      last ns (inr h) = h

      go : AnyTrue A e on ⊎ Each (λ u. val A u e ≡ nil) on → AnyTrue A e ts
      go (inl h) = cases_hold e on ts both.0 h
      go (inr ns) = last ns (any_either (λ u. val A u e ≢ nil) on ts (valid_is D A ms (on ++ ts) both.1.0 e))

cases_known : (D : Defs) → DefinesNot D → (on ts : List Term) → Each (λ u. known D u ≡ true) on → Each (λ u. known D u ≡ true) ts → Each (KnownClause D) (case_clauses on ts)
cases_known D ground on ts ks k =
    each_append (KnownClause D) (map (λ u. record { 0 = negate u ∷ ts }) on) (record { 0 = on ++ ts } ∷ []) (each on ks) (each_append (λ u. known D u ≡ true) on ts ks k, tt)
  where
    each : (us : List Term) → Each (λ u. known D u ≡ true) us → Each (KnownClause D) (map (λ u. record { 0 = negate u ∷ ts }) us)
    each [] ks = tt
    each (u ∷ us) ks = ((negate_known D (known_not D ground) u ks.0, k), each us ks.1)

pub cased_follows : (D : Defs) → Total D → DefinesNot D → (c : Clause) (on : List Term) → KnownClause D c → Each (λ u. known D u ≡ true) on → Follows D (cased c on)
cased_follows D total ground c on k ks =
    let (A, ms) = models D total in
    record {
      start = k;
      goals = cases_known D ground on c.0 ks k;
      valid = λ hs. valid_of D A ms c.0 (true_each (known D) c.0 k) (λ e. cases_all D A ms ground on c.0 hs e);
    }

-- an instance of a theorem is other than nil
instance_true : (D : Defs) (A : Apply) → Models D A → (u : Term) → Valid D (u ∷ []) → (s : Pairs) (e : Env) → val A (subst_of s u) e ≢ nil
instance_true D A ms u valid s e isnil = go (valid_is D A ms (u ∷ []) valid (replaced A s e))
  where
    go : AnyTrue A (replaced A s e) (u ∷ []) → ⊥
    go (inl h) = h (sym (val_subst A s u e) ∙ isnil)
    go (inr h) = h

pub used_follows : (W : List Entry) → Sound W → DefinesNot (function_of W) → (c : Clause) (x : Symbol) (u : Theorem) (s : Pairs) → theorem_of W x ≡ Some u → KnownClause (function_of W) c → KnownPairs (function_of W) s
    → Follows (function_of W) (used c u.term s)
used_follows W sound ground c x u s found k ks = go (theorem_good W sound x u found)
  where
    go : GoodTheorem (function_of W) u → Follows (function_of W) (used c u.term s)
    go good =
        to_one_reduces (function_of W) sound.total c (negate (subst_of s u.term) ∷ c.0) k
        (negate_known (function_of W) (known_not (function_of W) ground) (subst_of s u.term) (known_subst (function_of W) s ks u.term good.term_known), k)
        (λ A ms e h. held A ms e h)
      where
        held : (A : Apply) → Models (function_of W) A → (e : Env) → AnyTrue A e (negate (subst_of s u.term) ∷ c.0) → AnyTrue A e c.0
        held A ms e (inl h) = absurd (h (negated_nil (function_of W) A ms ground e (subst_of s u.term) (instance_true (function_of W) A ms u.term good.valid s e)))
        held A ms e (inr h) = h
