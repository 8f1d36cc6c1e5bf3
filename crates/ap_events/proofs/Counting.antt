-- The single events of a form that is admitted are those that it holds.
use Rattle.std.proofs.Common.{◌≡◌, ℕ, zero, suc, ◌+◌, List, [], ◌∷◌, Option, Some, None, refl, ap, sym, subst, arith}
use Rattle.ap_reader.specs.declared.form.Form.{Form}
use Rattle.ap_world.specs.World.{Shown}
use Rattle.ap_plain.specs.Ends.{Done}
use Rattle.ap_events.specs.declared.held.Held.{Held}
use Rattle.ap_events.specs.Books.{first_event, again_event}
use Rattle.ap_events.specs.Counting.{if_admitted, count_all, count_in, counts, SinglesAreHeld, PlainIsOne}
use Rattle.ap_events.specs.Held.{with_all, with_nesting, with_form}
use Rattle.ap_events.specs.Nested.{Leaf, Nesting, plain, hidden, group, closed, nesting_of, then_by, all, closing_by, agains, first_in, firsts}

-- what was counted of a form that was done is what it holds
abbrev Counted : Leaf → (Form → Shown → ℕ) → (Form → Held → Held) → Type 0
Counted run count add = (f : Form) (w v : Shown) (h : Held) → (run f w).next ≡ Some v → (add f h).events ≡ h.events + count f w

all_counted : (run : Leaf) (count : Form → Shown → ℕ) (add : Form → Held → Held) → Counted run count add
    → (fs : List Form) (w v : Shown) (h : Held) → (all run fs w).next ≡ Some v → (with_all add fs h).events ≡ h.events + count_all run count fs w
all_counted run count add one [] w v h is = omega arith
all_counted run count add one (f ∷ fs) w v h is = go (λ u k. all_counted run count add one fs u v (add f h) k) (run f w).next refl is
  where
    go : ((u : Shown) → (all run fs u).next ≡ Some v → (with_all add fs (add f h)).events ≡ (add f h).events + count_all run count fs u)
        → (o : Option Shown) → (run f w).next ≡ o → (then_by (run f w) o (all run fs)).next ≡ Some v
        → (with_all add fs (add f h)).events ≡ h.events + (count f w + if_admitted o (count_all run count fs))
    go more None e k = absurd cc
    go more (Some u) e k = let first = one f w u h e in let rest = more u k in omega (arith, first, rest)

closed_counted : (run : Leaf) (count : Form → Shown → ℕ) (add : Form → Held → Held) → Counted run count add
    → (fs : List Form) (w v : Shown) (h : Held) (e : Done) → (closing_by (all run fs w) (all run fs w).next e).next ≡ Some v → (with_all add fs h).events ≡ h.events + count_all run count fs w
closed_counted run count add one fs w v h e is = go (all run fs w).next refl is
  where
    go : (o : Option Shown) → (all run fs w).next ≡ o → (closing_by (all run fs w) o e).next ≡ Some v → (with_all add fs h).events ≡ h.events + count_all run count fs w
    go None k j = absurd cc
    go (Some u) k j = all_counted run count add one fs w u h k

in_counted : (first inner redo : Leaf) (count : Form → Shown → ℕ) (add : Form → Held → Held) → Counted inner count add
    → (f : Form) (w v : Shown) (h : Held) (k : Nesting) → (first_in first inner redo f w k).next ≡ Some v → (with_nesting add f k h).events ≡ h.events + count_in first inner count f w k
in_counted first inner redo count add one f w v h plain is = ap (λ o. h.events + if_admitted o (λ u. 1)) (sym is)
in_counted first inner redo count add one f w v h (hidden g) is = one g w v h is
in_counted first inner redo count add one f w v h (group fs) is = all_counted inner count add one fs w v h is
in_counted first inner redo count add one f w v h (closed fs) is = closed_counted inner count add one fs w v h (all redo fs w) is

counted : (first again : Leaf) (n : ℕ) → Counted (firsts first again n) (counts first again n) (with_form n)
unfolding firsts counts with_form
counted first again zero f w v h is = absurd cc
counted first again (suc n) f w v h is =
    in_counted first (firsts first again n) (agains again n) (counts first again n) (with_form n) (counted first again n) f w v h (nesting_of f) is

pub singles_are_held : SinglesAreHeld
singles_are_held limits earlier w v f h is = counted (first_event limits earlier) (again_event earlier) 400 f w v h is

plain_counts : (first again : Leaf) (n : ℕ) (f : Form) (w : Shown) → nesting_of f ≡ plain → counts first again n f w ≡ if_admitted (firsts first again n f w).next (λ v. 1)
unfolding firsts counts
plain_counts first again zero f w is = refl
plain_counts first again (suc n) f w is =
    subst (λ k. count_in first (firsts first again n) (counts first again n) f w k ≡ if_admitted (first_in first (firsts first again n) (agains again n) f w k).next (λ v. 1)) (sym is) refl

pub plain_is_one : PlainIsOne
plain_is_one limits earlier w f is = plain_counts (first_event limits earlier) (again_event earlier) 400 f w is
