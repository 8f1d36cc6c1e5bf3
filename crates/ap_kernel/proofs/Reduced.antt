-- Clauses with one literal replaced, and reductions of one after another.
use Rattle.std.proofs.Common.{◌≡◌, ◌≢◌, ℕ, zero, suc, ◌+◌, Bool, true, false, List, [], ◌∷◌, ◌++◌, map, take, drop, Some, None, slice_get, ◌⊎◌, inl, inr, refl, ap, sym, ◌∙◌, subst, append_assoc, append-nil}
use Rattle.ap_list.specs.Lists.{Each, AnyOf}
use Rattle.ap_value.specs.Values.{value_eq}
use Rattle.ap_term.specs.declared.term.Term.{Term}
use Rattle.ap_term.specs.declared.term.Clause.{Clause}
use Rattle.ap_world.specs.Primitives.{nil}
use Rattle.ap_world.specs.Meaning.{Env, Defs, Total, FactHolds, Valid}
use Rattle.ap_world.specs.Sound.{known}
use Rattle.ap_world.specs.Facts.{KnownFacts, FactsHold}
use Rattle.ap_world.specs.Assume.{assumed}
use Rattle.ap_world.proofs.Knowing.{true_each}
use Rattle.ap_world.proofs.TotalMeaning.{Apply, Models, models, val, AnyTrue, valid_is, valid_of}
use Rattle.ap_world.proofs.Equations.{nil-eq, eq-not_nil}
use Rattle.ap_world.specs.World.{Shown, function_of}
use Rattle.ap_world.proofs.Assumed.{both_each, assumed_known, assumed_holds}
use Rattle.ap_kernel.specs.declared.objects.Sequent.{Sequent}
use Rattle.ap_kernel.specs.declared.reductions.Inference.{Inference}
use Rattle.ap_kernel.specs.declared.derivations.Derivation.{Derivation}
use Rattle.ap_kernel.specs.declared.reductions.Reduction.{Reduction}
use Rattle.ap_kernel.specs.Standing.{DefinesNot, Holds}
use Rattle.ap_kernel.specs.Reductions.{KnownClause, Follows, Reduces, put_at, others, all_false, to_one, dropped, rewritten, claims, all_from, all_to, chained}
use Rattle.ap_kernel.proofs.Standing.{agree}
use Rattle.ap_kernel.proofs.CallsStand.{both_nil}

-- lists in parts: what holds of some element, and of each
pub any_left : {A : Type 0} (P : A → Type 0) (xs ys : List A) → AnyOf P xs → AnyOf P (xs ++ ys)
any_left P [] ys h = absurd h
any_left P (x ∷ xs) ys (inl h) = inl h
any_left P (x ∷ xs) ys (inr h) = inr (any_left P xs ys h)

pub any_right : {A : Type 0} (P : A → Type 0) (xs ys : List A) → AnyOf P ys → AnyOf P (xs ++ ys)
any_right P [] ys h = h
any_right P (x ∷ xs) ys h = inr (any_right P xs ys h)

pub any_either : {A : Type 0} (P : A → Type 0) (xs ys : List A) → AnyOf P (xs ++ ys) → AnyOf P xs ⊎ AnyOf P ys
any_either P [] ys h = inr h
any_either P (x ∷ xs) ys (inl h) = inl (inl h)
any_either P (x ∷ xs) ys (inr h) = later (any_either P xs ys h)
  where
    later : AnyOf P xs ⊎ AnyOf P ys → AnyOf P (x ∷ xs) ⊎ AnyOf P ys
    later (inl k) = inl (inr k)
    later (inr k) = inr k

pub any_take : {A : Type 0} (P : A → Type 0) (i : ℕ) (xs : List A) → AnyOf P (take i xs) → AnyOf P xs
any_take P zero xs h = absurd h
any_take P (suc i) [] h = absurd h
any_take P (suc i) (x ∷ xs) (inl h) = inl h
any_take P (suc i) (x ∷ xs) (inr h) = inr (any_take P i xs h)

pub any_drop : {A : Type 0} (P : A → Type 0) (i : ℕ) (xs : List A) → AnyOf P (drop i xs) → AnyOf P xs
any_drop P zero xs h = h
any_drop P (suc i) [] h = absurd h
any_drop P (suc i) (x ∷ xs) h = inr (any_drop P i xs h)

pub any_others : {A : Type 0} (P : A → Type 0) (i : ℕ) (xs : List A) → AnyOf P (others i xs) → AnyOf P xs
any_others P i xs h = go (any_either P (take i xs) (drop (i + 1) xs) h)
  where
    go : AnyOf P (take i xs) ⊎ AnyOf P (drop (i + 1) xs) → AnyOf P xs
    go (inl k) = any_take P i xs k
    go (inr k) = any_drop P (i + 1) xs k

-- of a list with an element replaced: one of the others, or one of those that are put there
pub any_put : {A : Type 0} (P : A → Type 0) (i : ℕ) (ys xs : List A) → AnyOf P (put_at i ys xs) → AnyOf P (others i xs) ⊎ AnyOf P ys
any_put P i ys xs h = go (any_either P (take i xs) (ys ++ drop (i + 1) xs) h)
  where
    back : AnyOf P ys ⊎ AnyOf P (drop (i + 1) xs) → AnyOf P (others i xs) ⊎ AnyOf P ys
    back (inl k) = inr k
    back (inr k) = inl (any_right P (take i xs) (drop (i + 1) xs) k)

    go : AnyOf P (take i xs) ⊎ AnyOf P (ys ++ drop (i + 1) xs) → AnyOf P (others i xs) ⊎ AnyOf P ys
    go (inl k) = inl (any_left P (take i xs) (drop (i + 1) xs) k)
    go (inr k) = back (any_either P ys (drop (i + 1) xs) k)

pub any_at : {A : Type 0} (P : A → Type 0) (xs : List A) (i : ℕ) (x : A) → slice_get xs i ≡ Some x → P x → AnyOf P xs
any_at P [] i x h p = absurd (no_value h)
  where
    no_value : None ≡ Some x → ⊥
    no_value k = cc
any_at P (y ∷ ys) zero x h p = let same : y ≡ x = cc in inl (subst P (sym same) p)
any_at P (y ∷ ys) (suc i) x h p = inr (any_at P ys i x h p)

pub each_take : {A : Type 0} (P : A → Type 0) (i : ℕ) (xs : List A) → Each P xs → Each P (take i xs)
each_take P zero xs h = tt
each_take P (suc i) [] h = tt
each_take P (suc i) (x ∷ xs) h = (h.0, each_take P i xs h.1)

pub each_drop : {A : Type 0} (P : A → Type 0) (i : ℕ) (xs : List A) → Each P xs → Each P (drop i xs)
each_drop P zero xs h = h
each_drop P (suc i) [] h = tt
each_drop P (suc i) (x ∷ xs) h = each_drop P i xs h.1

pub each_append : {A : Type 0} (P : A → Type 0) (xs ys : List A) → Each P xs → Each P ys → Each P (xs ++ ys)
each_append P [] ys h k = k
each_append P (x ∷ xs) ys h k = (h.0, each_append P xs ys h.1 k)

pub each_parts : {A : Type 0} (P : A → Type 0) (xs ys : List A) → Each P (xs ++ ys) → Each P xs × Each P ys
each_parts P [] ys h = (tt, h)
each_parts P (x ∷ xs) ys h = let p = each_parts P xs ys h.1 in ((h.0, p.0), p.1)

pub each_put : {A : Type 0} (P : A → Type 0) (i : ℕ) (ys xs : List A) → Each P ys → Each P xs → Each P (put_at i ys xs)
each_put P i ys xs h k = each_append P (take i xs) (ys ++ drop (i + 1) xs) (each_take P i xs k) (each_append P ys (drop (i + 1) xs) h (each_drop P (i + 1) xs k))

-- some literal is other than nil, or each is nil
pub any_or : (A : Apply) (e : Env) (ts : List Term) → AnyTrue A e ts ⊎ Each (λ u. val A u e ≡ nil) ts
any_or A e [] = inr tt
any_or A e (t ∷ ts) = go (value_eq (val A t e) nil) refl (any_or A e ts)
  where
    go : (b : Bool) → value_eq (val A t e) nil ≡ b → AnyTrue A e ts ⊎ Each (λ u. val A u e ≡ nil) ts → AnyTrue A e (t ∷ ts) ⊎ Each (λ u. val A u e ≡ nil) (t ∷ ts)
    go false q h = inl (inl (eq-not_nil (val A t e) q))
    go true q (inl h) = inl (inr h)
    go true q (inr h) = inr (nil-eq (val A t e) q, h)

-- the facts of literals that are nil hold
pub all_false_hold : (D : Defs) (A : Apply) → Models D A → DefinesNot D → (e : Env) (ts : List Term) → Each (λ u. known D u ≡ true) ts → Each (λ u. val A u e ≡ nil) ts → FactsHold D e (all_false ts)
all_false_hold D A ms ground e [] ks hs = tt
all_false_hold D A ms ground e (t ∷ ts) ks hs =
    both_each (FactHolds D e) (assumed t false) (all_false ts) (assumed_holds D A ms ground e t false ks.0 hs.0) (all_false_hold D A ms ground e ts ks.1 hs.1)

-- the facts of a list in parts, and those of all but one
false_appended : (xs ys : List Term) → all_false (xs ++ ys) ≡ all_false xs ++ all_false ys
false_appended [] ys = refl
false_appended (x ∷ xs) ys = ap (λ fs. assumed x false ++ fs) (false_appended xs ys) ∙ sym (append_assoc (assumed x false) (all_false xs) (all_false ys))

pub others_are_false : (i : ℕ) (ts : List Term) → all_false (take i ts) ++ all_false (drop (i + 1) ts) ≡ all_false (others i ts)
others_are_false i ts = sym (false_appended (take i ts) (drop (i + 1) ts))

-- they are known where the literals are
pub all_false_known : (D : Defs) (ts : List Term) → Each (λ u. known D u ≡ true) ts → KnownFacts D (all_false ts)
all_false_known D [] ks = tt
all_false_known D (t ∷ ts) ks = each_append (λ (f : Term × Bool). known D f.0 ≡ true) (assumed t false) (all_false ts) (assumed_known D t false ks.0) (all_false_known D ts ks.1)

pub others_false_known : (D : Defs) (c : Clause) (i : ℕ) → KnownClause D c → KnownFacts D (all_false (others i c.0))
others_false_known D c i k = all_false_known D (others i c.0) (each_put (λ u. known D u ≡ true) i [] c.0 tt k)

-- a clause is reduced to one of known literals where under each assignment that one's being held is the clause's
pub to_one_reduces : (D : Defs) → Total D → (c : Clause) (ts : List Term) → KnownClause D c → Each (λ u. known D u ≡ true) ts
    → ((A : Apply) → Models D A → (e : Env) → AnyTrue A e ts → AnyTrue A e c.0) → Follows D (to_one c ts)
to_one_reduces D total c ts k ks h =
    let (A, ms) = models D total in
    record { start = k; goals = (ks, tt); valid = λ valid. valid_of D A ms c.0 (true_each (known D) c.0 k) (λ e. h A ms e (valid_is D A ms ts valid.0 e)) }

pub kept_reduces : (D : Defs) → Total D → (c : Clause) → KnownClause D c → Follows D (to_one c c.0)
kept_reduces D total c k = to_one_reduces D total c c.0 k k (λ A ms e h. h)

pub dropped_reduces : (D : Defs) → Total D → (c : Clause) (i : ℕ) → KnownClause D c → Follows D (dropped c i)
dropped_reduces D total c i k =
    to_one_reduces D total c (others i c.0) k (each_put (λ u. known D u ≡ true) i [] c.0 tt k) (λ A ms e h. any_others (λ u. val A u e ≢ nil) i c.0 h)

pub rewritten_reduces : (D : Defs) → Total D → DefinesNot D → (c : Clause) (i : ℕ) (q : Sequent) → KnownClause D c → Holds D q → slice_get c.0 i ≡ Some q.lhs
    → q.ctx.0 ≡ all_false (others i c.0) → Follows D (rewritten c i q.rhs)
rewritten_reduces D total ground c i q k s at facts =
    to_one_reduces D total c (put_at i (q.rhs ∷ []) c.0) k (each_put (λ u. known D u ≡ true) i (q.rhs ∷ []) c.0 (s.right, tt) k)
    (λ A ms e h. go A ms e (any_or A e (others i c.0)) (any_put (λ u. val A u e ≢ nil) i (q.rhs ∷ []) c.0 h))
  where
    go : (A : Apply) → Models D A → (e : Env) → AnyTrue A e (others i c.0) ⊎ Each (λ u. val A u e ≡ nil) (others i c.0)
        → AnyTrue A e (others i c.0) ⊎ AnyTrue A e (q.rhs ∷ []) → AnyTrue A e c.0
    go A ms e (inl h) l = any_others (λ u. val A u e ≢ nil) i c.0 h
    go A ms e (inr nils) (inl h) = any_others (λ u. val A u e ≢ nil) i c.0 h
    go A ms e (inr nils) (inr (inr h)) = absurd h
    go A ms e (inr nils) (inr (inl h)) =
        let held : FactsHold D e q.ctx.0 = subst (FactsHold D e) (sym facts)
        (all_false_hold D A ms ground e (others i c.0) (each_put (λ u. known D u ≡ true) i [] c.0 tt k) nils) in
        any_at (λ u. val A u e ≢ nil) c.0 i q.lhs at (λ isnil. h ((both_nil q.mode (val A q.lhs e) (val A q.rhs e) (agree D A ms q s e held)).0 isnil))

pub chained_reduces : (D : Defs) (a : Inference) (rs : List Inference) → Follows D a → Each (Follows D) rs → all_from rs ≡ a.to → Follows D (chained a rs)
chained_reduces D a rs s es e = record {
  start = s.start;
  goals = all_known rs es;
  valid = λ h. s.valid (subst (Each (λ (c : Clause). Valid D c.0)) e (all_valid rs es h));
}
  where
    all_known : (rs : List Inference) → Each (Follows D) rs → Each (KnownClause D) (all_to rs)
    all_known [] es = tt
    all_known (r ∷ rs) es = each_append (KnownClause D) r.to (all_to rs) es.0.goals (all_known rs es.1)

    all_valid : (rs : List Inference) → Each (Follows D) rs → Each (λ (c : Clause). Valid D c.0) (all_to rs) → Each (λ (c : Clause). Valid D c.0) (all_from rs)
    all_valid [] es h = tt
    all_valid (r ∷ rs) es h =
        let p = each_parts (λ (c : Clause). Valid D c.0) r.to (all_to rs) h in
        (es.0.valid p.0, all_valid rs es.1 p.1)

-- what each of a list says follows
pub all_follow : (w : Shown) (rs : List Reduction) → Each (Reduces w) rs → Each (Follows (function_of w.entries)) (claims rs)
all_follow w [] es = tt
all_follow w (r ∷ rs) es = (es.0.says, all_follow w rs es.1)

-- of one
pub then_reduces : (D : Defs) (a b : Inference) → Follows D a → Follows D b → a.to ≡ b.from ∷ [] → Follows D (record { from = a.from; to = b.to })
then_reduces D a b h k e = subst (λ cs. Follows D (record { from = a.from; to = cs })) (append-nil b.to) (chained_reduces D a (b ∷ []) h (k, tt) (sym e))

-- one reduction more
pub all_to_end : (rs : List Reduction) (r : Reduction) → all_to (claims (rs ++ r ∷ [])) ≡ all_to (claims rs) ++ r.says.to
all_to_end [] r = append-nil r.says.to
all_to_end (x ∷ rs) r = ap (λ cs. x.says.to ++ cs) (all_to_end rs r) ∙ sym (append_assoc x.says.to (all_to (claims rs)) r.says.to)

pub whys_end : (d : Derivation) (rs : List Reduction) (r : Reduction) → d ∷ map (λ (r : Reduction). r.why) (rs ++ r ∷ []) ≡ (d ∷ map (λ (r : Reduction). r.why) rs) ++ r.why ∷ []
whys_end d rs r = ap (λ ds. d ∷ ds) (go rs)
  where
    go : (rs : List Reduction) → map (λ (r : Reduction). r.why) (rs ++ r ∷ []) ≡ map (λ (r : Reduction). r.why) rs ++ r.why ∷ []
    go [] = refl
    go (x ∷ rs) = ap (λ ds. x.why ∷ ds) (go rs)
