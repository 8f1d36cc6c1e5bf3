-- A clause that vanishes: the steps that it costs, and what is left of it.
use Rattle.std.proofs.Common.{◌≡◌, ℕ, zero, suc, ◌+◌, ◌-◌, ◌*◌, ◌/◌, ◌<◌, ◌≤◌, true, List, [], ◌∷◌, length, take, drop, slice_get, Option, Some, None, refl, ap, sym, ◌∙◌, subst, zero-add, arith}
use Rattle.std.proofs.lemmas.List.{take-append-drop}
use Rattle.ap_list.specs.Lists.{Each}
use Rattle.ap_term.specs.declared.term.Term.{Term}
use Rattle.ap_term.specs.declared.term.Clause.{Clause}
use Rattle.ap_world.specs.World.{Shown}
use Rattle.ap_kernel.specs.declared.reductions.Inference.{Inference}
use Rattle.ap_kernel.specs.declared.reductions.Reduction.{Reduction}
use Rattle.ap_kernel.specs.Reductions.{Reduces}
use Rattle.ap_kernel.specs.Tidying.{tidied, holds_by_itself, tidy_made}
use Rattle.ap_clausify.specs.Places.{first_place, or_later, choice_from, first_choice}
use Rattle.ap_clausify.specs.declared.states.Frame.{Frame}
use Rattle.ap_clausify.specs.declared.states.Task.TheVariants as task
use Rattle.ap_clausify.specs.Splitting.{split_of, settled_left}
use Rattle.ap_clausify.specs.Frames.{Linked, outcome, origin, GoesOn}
use Rattle.ap_clausify.specs.Leaves.{clause_leaves, capped}
use Rattle.ap_clausify.specs.Vanishing.{Vanishes}
use Rattle.ap_clausify.proofs.Placed.{stands_from}
use Rattle.ap_clausify.proofs.Framed.{outcome_none}
use Rattle.ap_clausify.proofs.LeavesCounted.{all_some_leaves}
use Rattle.ap_clausify.proofs.Vanished.{vanished_settled, front_vanishes, vanishes, runs_out}

-- the steps
pub some_capped : (c : Clause) (limit n : ℕ) → 1 ≤ limit → n ≡ capped limit (clause_leaves c) → 1 ≤ n
some_capped c limit n o e = go (clause_leaves c) (all_some_leaves c.0) e
  where
    go : (l : ℕ) → 1 ≤ l → n ≡ capped limit l → 1 ≤ n
    go l h e = omega arith

pub spent : (c : Clause) (n left : ℕ) → n ≡ capped (left / 2 + 2) (clause_leaves c) → n - 1 ≤ left / 2 → left - 2 * (n - 1) + 2 * clause_leaves c ≡ left + 2
spent c n left e h = go (clause_leaves c) (all_some_leaves c.0) e
  where
    go : (l : ℕ) → 1 ≤ l → n ≡ capped (left / 2 + 2) l → left - 2 * (n - 1) + 2 * l ≡ left + 2
    go l k e = omega arith

-- the literals before the first one with an `if`
pub choice_within : (c : Clause) (i : ℕ) (is : List ℕ) → first_choice c ≡ Some (i, is) → i ≤ length c.0
choice_within c i is h =
    let l = stands_from 0 c.0 (i, is) h in
    let k : i ≡ l.k = l.at ∙ zero-add l.k in
    let below = get_below c.0 l.k l.u l.there in
    omega arith
  where
    get_below : (us : List Term) (k : ℕ) (u : Term) → slice_get us k ≡ Some u → k < length us
    get_below [] k u h = cc
    get_below (v ∷ us) zero u h = omega arith
    get_below (v ∷ us) (suc k) u h = let r = get_below us k u h in omega arith

front_none : (i : ℕ) (us : List Term) (p : ℕ × List ℕ) → choice_from i us ≡ Some p → (k : ℕ) → p.0 ≡ i + k → Each (λ u. first_place u ≡ None) (take k us)
front_none i [] p h k e = cc
front_none i (u ∷ us) p h zero e = tt
front_none i (u ∷ us) p h (suc k) e = go (first_place u) refl h (λ q. front_none (i + 1) us p q k (omega arith))
  where
    go : (o : Option (List ℕ)) → first_place u ≡ o → or_later i o (choice_from (i + 1) us) ≡ Some p → (choice_from (i + 1) us ≡ Some p → Each (λ u. first_place u ≡ None) (take k us)) → (first_place u ≡ None) × Each (λ u. first_place u ≡ None) (take k us)
    go None q h more = (q, more h)
    go (Some is) q h more =
        let same : (i, is) ≡ p = cc in
        let its : i ≡ p.0 = ap (λ (r : ℕ × List ℕ). r.0) same in
        absurd (omega arith)

pub front_closes : (c : Clause) (i : ℕ) (is : List ℕ) → first_choice c ≡ Some (i, is) → holds_by_itself (tidied (take i c.0)) ≡ true → Vanishes c
front_closes c i is h k = front_vanishes c (take i c.0) (drop i c.0) (sym (take-append-drop i c.0)) (front_none 0 c.0 (i, is) h i (sym (zero-add i))) k

-- what is left of it
pub goes_nowhere : (fs : List Frame) (c : Clause) (n : ℕ) → n + 2 < 2 * clause_leaves c → outcome fs (settled_left (split_of n c)) ≡ None
goes_nowhere fs c n h = ap (outcome fs) (runs_out c n h) ∙ outcome_none fs

pub goes_vanished : (W : Shown) (fs : List Frame) (c : Clause) (r : Reduction) (n m : ℕ) → Linked W fs c → Reduces W r → r.says ≡ tidy_made c → Vanishes c → m + 2 * clause_leaves c ≡ n + 2
    → GoesOn W fs c (settled_left (split_of n c)) (2 * n + (length fs + 1)) (record { frames = fs; task = task.Done r }) m
goes_vanished W fs c r n m l s e v q = record {
  linked = subst (λ (q : Inference). Linked W fs q.from) {x = tidy_made c} (sym e) l;
  holds = s;
  origin = ap (λ (q : Inference). origin fs q.from) e;
  outcome = ap (λ (q : Inference). outcome fs (Some (q.to, m))) e ∙ ap (λ ds. outcome fs (Some (ds, m))) (vanished_settled c v) ∙ ap (outcome fs) (sym (vanishes c n m v q));
  falls = let k = all_some_leaves c.0 in fewer (clause_leaves c) k q;
}
  where
    fewer : (k : ℕ) → 1 ≤ k → m + 2 * k ≡ n + 2 → 2 * m + (length fs + 0) < 2 * n + (length fs + 1)
    fewer k h q = omega arith
