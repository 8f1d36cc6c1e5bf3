-- What splitting says: the clause is valid where all that it is split into are, and how many these may be.
use Rattle.std.proofs.Common.{◌≡◌, ℕ, zero, suc, ◌+◌, ◌≤◌, List, [], ◌∷◌, ◌++◌, length, Option, Some, None, refl, ap, sym, ◌∙◌, subst, length-append, arith}
use Rattle.ap_list.specs.Lists.{Each}
use Rattle.ap_term.specs.declared.term.Clause.{Clause}
use Rattle.ap_world.specs.Meaning.{Defs, Total, Valid}
use Rattle.ap_kernel.specs.declared.reductions.Inference.{Inference}
use Rattle.ap_kernel.specs.Standing.{DefinesNot}
use Rattle.ap_kernel.specs.Reductions.{KnownClause, Follows}
use Rattle.ap_kernel.specs.Splits.{split_made}
use Rattle.ap_kernel.proofs.Reduced.{each_append, each_parts}
use Rattle.ap_kernel.proofs.Splitting.{then_some, split_reduces as cases_reduce}
use Rattle.ap_clausify.specs.Places.{first_choice}
use Rattle.ap_clausify.specs.Splitting.{Left, Splitter, before, then_rest, each_split, cases, split_by, split_to, split_of, steps_left}
use Rattle.ap_clausify.proofs.Framed.{split_from}

-- clauses are known, and others are valid where they are
record Serve (D : Defs) (from to : List Clause) : Type 0 where
  known : Each (KnownClause D) to
  valid : Each (λ (c : Clause). Valid D c.0) to → Each (λ (c : Clause). Valid D c.0) from

abbrev Serves : Defs → Splitter → Type 0
Serves D s = (c : Clause) (n : ℕ) (ds : List Clause) (l : ℕ) → KnownClause D c → s c n ≡ Some (ds, l) → Serve D (c ∷ []) ds

-- what is left, in parts
abbrev pub clauses_left : Left → List Clause
clauses_left None = []
clauses_left (Some p) = p.0

pub before_is : (cs ds : List Clause) (o : Left) (l : ℕ) → before cs o ≡ Some (ds, l) → (es : List Clause) × (o ≡ Some (es, l)) × (ds ≡ cs ++ es)
before_is cs ds None l h = cc
before_is cs ds (Some p) l h = (p.0, ap (λ m. Some (p.0, m)) (ap steps_left h), sym (ap clauses_left h))

none_serves : (D : Defs) → Serves D (λ c n. None)
none_serves D c n ds l k h = cc

both_serve : (D : Defs) (c : Clause) (cs ds es : List Clause) → Serve D (c ∷ []) ds → Serve D cs es → Serve D (c ∷ cs) (ds ++ es)
both_serve D c cs ds es s t = record {
  known = each_append (KnownClause D) ds es s.known t.known;
  valid = λ h. let p = each_parts (λ (c : Clause). Valid D c.0) ds es h in ((s.valid p.0).0, t.valid p.1);
}

each_serves : (D : Defs) (s : Splitter) → Serves D s → (cs : List Clause) (n : ℕ) (es : List Clause) (l : ℕ) → Each (KnownClause D) cs → each_split s cs n ≡ Some (es, l) → Serve D cs es
each_serves D s f [] n es l ks h = subst (Serve D []) (ap clauses_left h) (record { known = tt; valid = λ q. tt })
each_serves D s f (c ∷ cs) zero es l ks h = cc
each_serves D s f (c ∷ cs) (suc m) es l ks h = go (s c m) refl h (λ n ds. each_serves D s f cs n ds l ks.1)
  where
    go : (o : Left) → s c m ≡ o → then_rest o (each_split s cs) ≡ Some (es, l) → ((n : ℕ) (ds : List Clause) → each_split s cs n ≡ Some (ds, l) → Serve D cs ds) → Serve D (c ∷ cs) es
    go None q k more = cc
    go (Some p) q k more =
        let (ds, rest, is) = before_is p.0 es (each_split s cs p.1) l k in
        subst (Serve D (c ∷ cs)) (sym is) (both_serve D c cs p.0 ds (f c m p.0 p.1 ks.0 q) (more p.1 ds rest))

cases_are : (c : Clause) (r : Inference) → cases c ≡ Some r → (p : ℕ × List ℕ) × (split_made c p.0 p.1 ≡ Some r)
cases_are c r h = let (p, at, made) = then_some (first_choice c) (λ p. split_made c p.0 p.1) r h in (p, made)

by_serves : (D : Defs) → Total D → DefinesNot D → (s : Splitter) → Serves D s → (c : Clause) (n : ℕ) (o : Option Inference) → cases c ≡ o → (es : List Clause) (l : ℕ) → KnownClause D c
    → split_by s c n o ≡ Some (es, l) → Serve D (c ∷ []) es
by_serves D total ground s f c n None q es l k h = subst (Serve D (c ∷ [])) (ap clauses_left h) (record { known = (k, tt); valid = λ v. v })
by_serves D total ground s f c n (Some r) q es l k h =
    let (p, made) = cases_are c r q in
    let stands : Follows D r = cases_reduce D total ground c p.0 p.1 r k made in
    let e = each_serves D s f r.to n es l stands.goals h in
    record {
      known = e.known;
      valid = λ v. (subst (λ (c : Clause). Valid D c.0) (split_from c p.0 p.1 r made) (stands.valid (e.valid v)), tt);
    }

to_serves : (D : Defs) → Total D → DefinesNot D → (d : ℕ) → Serves D (split_to d)
to_serves D total ground zero c n ds l k h = by_serves D total ground (λ c n. None) (none_serves D) c n (cases c) refl ds l k h
to_serves D total ground (suc d) c n ds l k h = by_serves D total ground (split_to d) (to_serves D total ground d) c n (cases c) refl ds l k h

pub split_reduces : (D : Defs) → Total D → DefinesNot D → (n : ℕ) (c : Clause) (cs : List Clause) (m : ℕ) → KnownClause D c → split_of n c ≡ Some (cs, m) → Follows D (record { from = c; to = cs })
split_reduces D total ground n c cs m k h =
    let s = to_serves D total ground n c n cs m k h in
    record { start = k; goals = s.known; valid = λ v. (s.valid v).0 }

-- each clause that is made spends a step
abbrev Few : Splitter → Type 0
Few s = (c : Clause) (n : ℕ) (ds : List Clause) (l : ℕ) → s c n ≡ Some (ds, l) → length ds + l ≤ n + 1

none_few : Few (λ c n. None)
none_few c n ds l h = cc

each_few : (s : Splitter) → Few s → (cs : List Clause) (n : ℕ) (es : List Clause) (l : ℕ) → each_split s cs n ≡ Some (es, l) → length es + l ≤ n
each_few s f [] n es l h =
    let a : length es ≡ 0 = ap length (sym (ap clauses_left h)) in
    let b : l ≡ n = ap steps_left (sym h) in
    omega arith
each_few s f (c ∷ cs) zero es l h = cc
each_few s f (c ∷ cs) (suc m) es l h = go (s c m) refl h (λ n ds. each_few s f cs n ds l)
  where
    go : (o : Left) → s c m ≡ o → then_rest o (each_split s cs) ≡ Some (es, l) → ((n : ℕ) (ds : List Clause) → each_split s cs n ≡ Some (ds, l) → length ds + l ≤ n) → length es + l ≤ suc m
    go None q k more = cc
    go (Some p) q k more =
        let (ds, rest, is) = before_is p.0 es (each_split s cs p.1) l k in
        let a : length es ≡ length p.0 + length ds = ap length is ∙ length-append p.0 ds in
        let b : length p.0 + p.1 ≤ m + 1 = f c m p.0 p.1 q in
        let d : length ds + l ≤ p.1 = more p.1 ds rest in
        omega arith

by_few : (s : Splitter) → Few s → (c : Clause) (n : ℕ) (o : Option Inference) (es : List Clause) (l : ℕ) → split_by s c n o ≡ Some (es, l) → length es + l ≤ n + 1
by_few s f c n None es l h =
    let a : length es ≡ 1 = ap length (sym (ap clauses_left h)) in
    let b : l ≡ n = ap steps_left (sym h) in
    omega arith
by_few s f c n (Some r) es l h = let a = each_few s f r.to n es l h in omega arith

to_few : (d : ℕ) → Few (split_to d)
to_few zero c n ds l h = by_few (λ c n. None) none_few c n (cases c) ds l h
to_few (suc d) c n ds l h = by_few (split_to d) (to_few d) c n (cases c) ds l h

by_bound : (s : Splitter) → Few s → (c : Clause) (n b : ℕ) (o : Option Inference) (es : List Clause) (l : ℕ) → split_by s c n o ≡ Some (es, l) → n ≤ b → 1 ≤ b → length es ≤ b
by_bound s f c n b None es l h below one = let a : length es ≡ 1 = ap length (sym (ap clauses_left h)) in omega arith
by_bound s f c n b (Some r) es l h below one = let a = each_few s f r.to n es l h in omega arith

-- there are no more clauses than steps, but for the clause alone
pub split_few : (n b : ℕ) (c : Clause) (cs : List Clause) (m : ℕ) → split_of n c ≡ Some (cs, m) → n ≤ b → 1 ≤ b → length cs ≤ b
split_few zero b c cs m h below one = by_bound (λ c n. None) none_few c zero b (cases c) cs m h below one
split_few (suc d) b c cs m h below one = by_bound (split_to d) (to_few d) c (suc d) b (cases c) cs m h below one
