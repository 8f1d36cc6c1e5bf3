-- Simplification keeps what a clause says: it is valid where all that it is simplified to are.
use Rattle.std.proofs.Common.{◌≡◌, ℕ, ◌+◌, Bool, true, false, cond, List, [], ◌∷◌, ◌++◌, map, length, Option, Some, None, option_map, refl, ap, sym, ◌∙◌, subst}
use Rattle.std.specs.Prelude.{slice_get}
use Rattle.ap_list.specs.Lists.{Each, joined}
use Rattle.ap_term.specs.declared.term.Term.{Term}
use Rattle.ap_term.specs.declared.term.Clause.{Clause}
use Rattle.ap_world.specs.Meaning.{Defs, Total, Valid}
use Rattle.ap_kernel.specs.declared.reductions.Inference.{Inference}
use Rattle.ap_kernel.specs.Standing.{DefinesNot}
use Rattle.ap_kernel.specs.Reductions.{KnownClause, Follows, all_from, all_to}
use Rattle.ap_kernel.specs.Splits.{and_then}
use Rattle.ap_kernel.specs.Solving.{solved_by, replaced_in, solved_made}
use Rattle.ap_kernel.specs.Tidying.{tidied, holds_by_itself, tidy_made}
use Rattle.ap_kernel.proofs.Splitting.{then_some}
use Rattle.ap_kernel.proofs.Tidied.{tidy_reduces}
use Rattle.ap_kernel.proofs.Solved.{solved_reduces}
use Rattle.ap_kernel.proofs.Reduced.{chained_reduces}
use Rattle.ap_clausify.specs.Splitting.{Left, settled, settled_all, settled_left}
use Rattle.ap_rewrite.specs.Settings.{Setting}
use Rattle.ap_rewrite.specs.SoundSettings.{defs_of, SoundSetting}
use Rattle.ap_rewrite.specs.Literals.{simplify_of}
use Rattle.ap_rewrite.proofs.SimplifyingReduces.{simplifying_reduces}
use Rattle.ap_strategy.specs.Repeats.{unrepeated_each, each_unrepeated}
use Rattle.ap_strategy.specs.Steps.{tidied_clause, or_later, first_solved, opened, reduced, reduced_to, unrepeated, simplified}

-- each of several clauses
from_settled : (cs : List Clause) → all_from (map tidy_made cs) ≡ cs
from_settled [] = refl
from_settled (c ∷ cs) = ap (λ ds. c ∷ ds) (from_settled cs)

to_settled : (cs : List Clause) → all_to (map tidy_made cs) ≡ joined (map settled cs)
to_settled [] = refl
to_settled (c ∷ cs) = ap (λ ds. settled c ++ ds) (to_settled cs)

all_settled : (D : Defs) → Total D → DefinesNot D → (cs : List Clause) → Each (KnownClause D) cs → Each (Follows D) (map tidy_made cs)
all_settled D total base [] ks = tt
all_settled D total base (c ∷ cs) ks = (tidy_reduces D total base c ks.0, all_settled D total base cs ks.1)

split_settled : (D : Defs) → Total D → DefinesNot D → (c : Clause) (cs : List Clause) → Follows D (record { from = c; to = cs }) → Follows D (record { from = c; to = joined (map settled cs) })
split_settled D total base c cs r =
    subst (λ ds. Follows D (record { from = c; to = ds })) (to_settled cs)
    (chained_reduces D (record { from = c; to = cs }) (map tidy_made cs) r (all_settled D total base cs r.goals) (from_settled cs))

-- the literal that solves a variable
solved_from : (c : Clause) (i : ℕ) (r : Inference) → solved_made c i ≡ Some r → r.from ≡ c
solved_from c i r h =
    let (p, solved, made) = then_some (and_then (slice_get c.0 i) solved_by) (λ p. Some (replaced_in c i p)) r h in
    let same : replaced_in c i p ≡ r = cc in
    ap (λ (q : Inference). q.from) (sym same)

first_from : (c : Clause) (i : ℕ) (us : List Term) (r : Inference) → first_solved c i us ≡ Some r → (j : ℕ) × (solved_made c j ≡ Some r)
first_from c i [] r h = cc
first_from c i (u ∷ us) r h = go (solved_made c i) refl h (first_from c (i + 1) us r)
  where
    go : (o : Option Inference) → solved_made c i ≡ o → or_later o (first_solved c (i + 1) us) ≡ Some r → (first_solved c (i + 1) us ≡ Some r → (j : ℕ) × (solved_made c j ≡ Some r))
        → (j : ℕ) × (solved_made c j ≡ Some r)
    go None q h more = more h
    go (Some s) q h more = (i, q ∙ h)

pub first_to : (c : Clause) (i : ℕ) (us : List Term) (r : Inference) → first_solved c i us ≡ Some r → length r.to ≡ 1
first_to c i us r h =
    let (j, q) = first_from c i us r h in
    let (p, solved, made) = then_some (and_then (slice_get c.0 j) solved_by) (λ p. Some (replaced_in c j p)) r q in
    let same : replaced_in c j p ≡ r = cc in
    ap (λ (q : Inference). length q.to) (sym same)

-- what is sound of the setting's world
total_of : (S : Setting) → SoundSetting S → Total (defs_of S)
total_of S right = right.sound.total

-- a tidied clause, opened
opened_reduces : (S : Setting) → SoundSetting S → (n : ℕ) (c : Clause) (o : Option Inference) (ds : List Clause) → KnownClause (defs_of S) c → first_solved c 0 c.0 ≡ o → opened S n c o ≡ Some ds
    → Follows (defs_of S) (record { from = c; to = ds })
opened_reduces S right n c (Some r) ds k q h =
    let (i, made) = first_from c 0 c.0 r q in
    let to_is : r.to ≡ ds = some_is r.to ds h in
    subst (λ es. Follows (defs_of S) (record { from = c; to = es })) to_is
    (subst (λ (d : Clause). Follows (defs_of S) (record { from = d; to = r.to })) (solved_from c i r made) (solved_reduces (defs_of S) (total_of S right) right.ground c i r k made))
  where
    some_is : (xs ys : List Clause) → Some xs ≡ Some ys → xs ≡ ys
    some_is xs ys e = cc
opened_reduces S right n c None ds k q h = go (simplify_of S n c) refl h
  where
    some_is : (xs ys : List Clause) → Some xs ≡ Some ys → xs ≡ ys
    some_is xs ys e = cc

    go : (o : Option (List Clause × ℕ)) → simplify_of S n c ≡ o → option_map settled_all o ≡ Some ds → Follows (defs_of S) (record { from = c; to = ds })
    go None q h = cc
    go (Some p) q h =
        subst (λ es. Follows (defs_of S) (record { from = c; to = es })) (some_is (settled_all p) ds h)
        (split_settled (defs_of S) (total_of S right) right.ground c p.0 (simplifying_reduces S right c n p.0 p.1 k q))

pub reduced_reduces : (S : Setting) → SoundSetting S → (n : ℕ) (c : Clause) (ds : List Clause) → KnownClause (defs_of S) c → reduced S n c ≡ Some ds → Follows (defs_of S) (record { from = c; to = ds })
reduced_reduces S right n c ds k h = go (holds_by_itself (tidied c.0)) (tidy_reduces (defs_of S) (total_of S right) right.ground c k) h
  where
    none_is : (ys : List Clause) → Some [] ≡ Some ys → [] ≡ ys
    none_is ys e = cc

    go : (b : Bool) → Follows (defs_of S) (record { from = c; to = cond b [] (tidied_clause c ∷ []) })
        → cond b (Some []) (opened S n (tidied_clause c) (first_solved (tidied_clause c) 0 (tidied c.0))) ≡ Some ds → Follows (defs_of S) (record { from = c; to = ds })
    go true r h = subst (λ es. Follows (defs_of S) (record { from = c; to = es })) (none_is ds h) r
    go false r h =
        let s = opened_reduces S right n (tidied_clause c) (first_solved (tidied_clause c) 0 (tidied c.0)) ds r.goals.0 refl h in
        record { start = k; goals = s.goals; valid = λ v. r.valid (s.valid v, tt) }

-- what a clause is split into, each part tidied, as an inference
pub settled_says : (c : Clause) (o : Left) → option_map (λ (p : List Clause × ℕ). record { from = c; to = p.0 }) (settled_left o) ≡ option_map (reduced_to c) (option_map settled_all o)
settled_says c None = refl
settled_says c (Some p) = refl

-- what is left of a clause whose literals were rewritten, and which was then split, settled
pub simplified_reduces : (S : Setting) → SoundSetting S → (n : ℕ) (c : Clause) (ds : List Clause) → KnownClause (defs_of S) c → simplified S n c ≡ Some ds → Follows (defs_of S) (record { from = c; to = ds })
simplified_reduces S right n c ds k h = go (reduced S n c) refl h
  where
    some_is : (xs ys : List Clause) → Some xs ≡ Some ys → xs ≡ ys
    some_is xs ys e = cc

    go : (o : Option (List Clause)) → reduced S n c ≡ o → option_map (unrepeated []) o ≡ Some ds → Follows (defs_of S) (record { from = c; to = ds })
    go None q h = cc
    go (Some es) q h =
        let r = reduced_reduces S right n c es k q in
        subst (λ xs. Follows (defs_of S) (record { from = c; to = xs })) (some_is (unrepeated [] es) ds h)
        (record { start = k; goals = unrepeated_each (KnownClause (defs_of S)) [] es tt r.goals; valid = λ v. r.valid (each_unrepeated (Valid (defs_of S)) [] es v).1 })
