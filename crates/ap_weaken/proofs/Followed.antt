-- The clause follows from the one that each engine leaves, by the definitions alone.
use Rattle.std.proofs.Common.{◌≡◌, ◌≢◌, ℕ, Bool, true, false, cond, ◌&&◌, List, [], ◌∷◌, Some, None, slice_get, inl, inr, refl, subst}
use Rattle.ap_list.specs.Lists.{Each, AnyOf}
use Rattle.ap_term.specs.declared.term.Term.{Term, out-Term}
use Rattle.ap_term.specs.declared.term.Clause.{Clause}
use Rattle.ap_world.specs.Primitives.{nil}
use Rattle.ap_world.specs.Meaning.{Defs, Total}
use Rattle.ap_world.specs.Shapes.{shape_of}
use Rattle.ap_world.specs.Sound.{known}
use Rattle.ap_world.specs.World.{function_of}
use Rattle.ap_world.proofs.TotalMeaning.{val}
use Rattle.ap_kernel.specs.declared.reductions.Inference.{Inference}
use Rattle.ap_kernel.specs.Fertilising.{negated_sides, literal_fertilised, fertilised, fertilised_by, fertilise_made}
use Rattle.ap_kernel.specs.Generalising.{generalised}
use Rattle.ap_kernel.specs.Reductions.{KnownClause, Follows, to_one}
use Rattle.ap_kernel.specs.Splits.{and_then}
use Rattle.ap_kernel.proofs.Fertilised.{fertilised_follows}
use Rattle.ap_kernel.proofs.Generalised.{generalised_follows}
use Rattle.ap_kernel.proofs.Reduced.{to_one_reduces}
use Rattle.ap_kernel.proofs.Splitting.{then_some}
use Rattle.ap_elim.specs.Naming.{new_name}
use Rattle.ap_elim.proofs.Named.{new_is_new}
use Rattle.ap_weaken.specs.Fertilize.{use_of}
use Rattle.ap_weaken.specs.Generalize.{letter_of, mask_in, chosen, generalised_at}
use Rattle.ap_weaken.specs.Irrelevance.{is_irrelevant, those_not, some_irrelevant, some_relevant, left_out}
use Rattle.ap_weaken.specs.Laws.{LeavesOne, FertilizeFollows, GeneralizeFollows, IrrelevanceFollows}
use Rattle.ap_weaken.proofs.Chosen.{chosen_known}

same_one : (i j : Inference) → Some i ≡ Some j → i ≡ j
same_one i j h = cc

-- one clause that is left
leaves_one : (D : Defs) (c : Clause) (ts : List Term) (i : Inference) → to_one c ts ≡ i → Follows D i → LeavesOne D c i
leaves_one D c ts i same h = subst (λ (i : Inference). Follows D i → LeavesOne D c i) {x = to_one c ts} same (λ h. record { start = refl; one = refl; follows = h }) h

fertilised_one : (D : Defs) (c : Clause) (i j : ℕ) (r : Inference) → fertilise_made c i j ≡ Some r → Follows D r → LeavesOne D c r
fertilised_one D c i j r h follows =
    let (p, sides, rest) = then_some (and_then (slice_get c.0 i) (λ u. negated_sides (shape_of u))) (fertilised_by c i j) r h in
    let (u, changed, made) = then_some (and_then (slice_get c.0 j) (literal_fertilised p)) (λ u. Some (fertilised c i j u)) r rest in
    leaves_one D c _ r (same_one (fertilised c i j u) r made) follows

pub fertilize_follows : FertilizeFollows
fertilize_follows D total ground c k i h =
    let (p, found, made) = then_some (use_of c) (λ (p : ℕ × ℕ). fertilise_made c p.0 p.1) i h in
    fertilised_one D c p.0 p.1 i made (fertilised_follows D total ground c p.0 p.1 i k made)

pub generalize_follows : GeneralizeFollows
generalize_follows w total functions masks c k i h =
    let (t, found, at) = then_some (chosen w c.0) (generalised_at w c) i h in
    let (v, name, made) = then_some (new_name (letter_of (out-Term t) ∷ []) c.0) (λ v. Some (generalised c t v (mask_in w t))) i at in
    let kt = chosen_known (function_of w.entries) w c.0 t k found in
    let same = same_one (generalised c t v (mask_in w t)) i made in
    let follows = generalised_follows (function_of w.entries) total functions c t v (mask_in w t) k kt (masks t kt) (new_is_new (letter_of (out-Term t) ∷ []) c.0 v name) in
    leaves_one (function_of w.entries) c _ i same (subst (Follows (function_of w.entries)) {x = generalised c t v (mask_in w t)} same follows)

-- what is left of some literals is of them
any_left : (P : Term → Type 0) (test : Term → Bool) (ts : List Term) → AnyOf P (those_not test ts) → AnyOf P ts
any_left P test [] h = h
any_left P test (t ∷ ts) h = go (test t) (any_left P test ts) h
  where
    go : (b : Bool) → (AnyOf P (those_not test ts) → AnyOf P ts) → AnyOf P (cond b (those_not test ts) (t ∷ those_not test ts)) → AnyOf P (t ∷ ts)
    go true later l = inr (later l)
    go false later (inl l) = inl l
    go false later (inr l) = inr (later l)

each_left : (P : Term → Type 0) (test : Term → Bool) (ts : List Term) → Each P ts → Each P (those_not test ts)
each_left P test [] es = tt
each_left P test (t ∷ ts) es = go (test t) (each_left P test ts es.1)
  where
    go : (b : Bool) → Each P (those_not test ts) → Each P (cond b (those_not test ts) (t ∷ those_not test ts))
    go true l = l
    go false l = (es.0, l)

left_out_follows : (D : Defs) → Total D → (c : Clause) → KnownClause D c → Follows D (left_out c)
left_out_follows D total c k = to_one_reduces D total c (those_not (is_irrelevant c.0) c.0) k (each_left (λ u. known D u ≡ true) (is_irrelevant c.0) c.0 k) (λ A ms e h. any_left (λ u. val A u e ≢ nil) (is_irrelevant c.0) c.0 h)

pub irrelevance_follows : IrrelevanceFollows
irrelevance_follows D total c k i h = go (some_irrelevant c.0 && some_relevant c.0) h
  where
    go : (b : Bool) → cond b (Some (left_out c)) None ≡ Some i → LeavesOne D c i
    go true l = let same = same_one (left_out c) i l in leaves_one D c (those_not (is_irrelevant c.0) c.0) i same (subst (Follows D) {x = left_out c} same (left_out_follows D total c k))
    go false l = cc
