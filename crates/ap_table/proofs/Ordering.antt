-- The list of live nodes stays in serial order.
use Rattle.std.proofs.Common.{◌≡◌, ◌≢◌, ℕ, zero, suc, ◌+◌, ◌-◌, ◌≤◌, ◌<◌, List, [], ◌∷◌, ◌++◌, Option, Some, None, length, refl, sym, ap, subst, ◌∙◌, arith, inl, inr, ◌⊎◌, true, false, nat_eq, min}
use Rattle.std.proofs.lemmas.Bool.Decides.{nat_tests}
use Rattle.std.proofs.lemmas.Bool.{cases_lt}
use Rattle.std.specs.List.{slice_get}
use Rattle.ap_list.specs.Lists.{Each}
use Rattle.ap_walk.specs.declared.act.Stepped.{Stepped}
use Rattle.ap_walk.specs.declared.rule.Rule.{Rule}
use Rattle.ap_walk.specs.declared.mark.Walked.{Walked}
use Rattle.ap_walk.specs.Walks.{full}
use Rattle.ap_word.specs.Stops.{NONE}
use Rattle.ap_table.specs.Core.{Phase, Node, free, claimed, expanded, put, closed, dropped, Turn, claim, expand, finish, drop, mark, look, change, set_phase, above, parent_of, on_closed, new_nodes, root, children, joined_walk, kept_of, close_with, close_phase, close_node, close_up, put_node, expand_node, apply}
use Rattle.ap_table.specs.declared.link.Link.{Link}
use Rattle.ap_table.specs.declared.link.License.{License}
use Rattle.ap_table.specs.Sound.{Family, IsFree, IsClaimed, CanExpand, IsAllowed}
use Rattle.ap_table.specs.Order.{places, Before, numbers, replace, among, BeforeAt, Sorted, IsLive, IsOrder, IsFirst, expanded_live, live_after}
use Rattle.ap_table.proofs.Keeping.{same_or_not, some_is, get_other, change_length}
use Rattle.ap_table.proofs.Growing.{get_left, get_right, new_family}
use Rattle.ap_table.proofs.Replay.{Keeps, change_keeps, apply_keeps}

before_left : (a b s : List ℕ) → Before a b → Before (a ++ s) b
before_left [] b s h = absurd h
before_left (p ∷ ps) [] s h = absurd h
before_left (p ∷ ps) (q ∷ qs) s h = elim h [ inl lt ↦ inl lt | inr e ↦ inr (e.0, before_left ps qs s e.1) ]

before_right : (a b s : List ℕ) → Before a b → Before a (b ++ s)
before_right [] b s h = absurd h
before_right (p ∷ ps) [] s h = absurd h
before_right (p ∷ ps) (q ∷ qs) s h = elim h [ inl lt ↦ inl lt | inr e ↦ inr (e.0, before_right ps qs s e.1) ]

before_next : (p : List ℕ) (i j : ℕ) → i < j → Before (p ++ i ∷ []) (p ++ j ∷ [])
before_next [] i j h = inl h
before_next (x ∷ xs) i j h = inr (refl, before_next xs i j h)

pub not_eq : (j k : ℕ) → j ≢ k → nat_eq j k ≡ false
not_eq j k d = grind (arith, nat_tests)

pub eq_case : (j k : ℕ) → ((nat_eq j k ≡ true) × (j ≡ k)) ⊎ ((nat_eq j k ≡ false) × (j ≢ k))
eq_case j k =
    elim (same_or_not j k) [
      | inl e ↦ inl (grind (arith, nat_tests), e)
      | inr d ↦ inr (not_eq j k d, d)
    ]

in_left : (xs ys : List ℕ) (k : ℕ) → among xs k → among (xs ++ ys) k
in_left [] ys k h = absurd h
in_left (x ∷ xs) ys k h = elim h [ inl e ↦ inl e | inr r ↦ inr (in_left xs ys k r) ]

in_right : (xs ys : List ℕ) (k : ℕ) → among ys k → among (xs ++ ys) k
in_right [] ys k h = h
in_right (x ∷ xs) ys k h = inr (in_right xs ys k h)

in_kept : (js : List ℕ) (k i : ℕ) (xs : List ℕ) → among js i → i ≢ k → among (replace js k xs) i
unfolding replace
in_kept [] k i xs h d = absurd h
in_kept (j ∷ js) k i xs h d =
    elim (eq_case j k) [
      | inl e ↦ rw e.0 (elim h [ inl is ↦ absurd (d (sym is ∙ e.1)) | inr r ↦ in_right xs js i r ])
      | inr o ↦ rw o.0 (elim h [ inl is ↦ inl is | inr r ↦ inr (in_kept js k i xs r d) ])
    ]

in_new : (js : List ℕ) (k i : ℕ) (xs : List ℕ) → among js k → among xs i → among (replace js k xs) i
unfolding replace
in_new [] k i xs h x = absurd h
in_new (j ∷ js) k i xs h x =
    elim (eq_case j k) [
      | inl e ↦ rw e.0 (in_left xs js i x)
      | inr o ↦ rw o.0 (elim h [ inl is ↦ absurd (o.1 is) | inr r ↦ inr (in_new js k i xs r x) ])
    ]

in_numbers : (first c j : ℕ) → first ≤ j → j < first + c → among (numbers first c) j
in_numbers first zero j a b = absurd (omega arith)
in_numbers first (suc c) j a b =
    elim (same_or_not first j) [
      | inl e ↦ inl e
      | inr d ↦ inr (in_numbers (first + 1) c j (omega arith) (omega arith))
    ]

each_append : (P : ℕ → Type 0) (xs ys : List ℕ) → Each P xs → Each P ys → Each P (xs ++ ys)
each_append P [] ys a b = b
each_append P (x ∷ xs) ys a b = (a.0, each_append P xs ys a.1 b)

each_map : (P Q : ℕ → Type 0) (xs : List ℕ) → ((i : ℕ) → P i → Q i) → Each P xs → Each Q xs
each_map P Q [] f a = tt
each_map P Q (x ∷ xs) f a = (f x a.0, each_map P Q xs f a.1)

each_replace : (P Q : ℕ → Type 0) (js : List ℕ) (k : ℕ) (xs : List ℕ) → ((i : ℕ) → P i → Q i) → (P k → Each Q xs) → Each P js → Each Q (replace js k xs)
unfolding replace
each_replace P Q [] k xs f g a = tt
each_replace P Q (j ∷ js) k xs f g a =
    elim (eq_case j k) [
      | inl e ↦ rw e.0 (each_append Q xs js (g (subst P e.1 a.0)) (each_map P Q js f a.1))
      | inr o ↦ rw o.0 (f j a.0, each_replace P Q js k xs f g a.1)
    ]

split_in : (xs : List ℕ) (k : ℕ) (ys : List ℕ) (j : ℕ) → among (xs ++ k ∷ ys) j → among xs j ⊎ ((k ≡ j) ⊎ among ys j)
split_in [] k ys j h = inr h
split_in (x ∷ xs) k ys j h = elim h [ inl e ↦ inl (inl e) | inr r ↦ elim (split_in xs k ys j r) [ inl a ↦ inl (inr a) | inr b ↦ inr b ] ]

each_at : (P : ℕ → Type 0) (xs : List ℕ) (j : ℕ) → Each P xs → among xs j → P j
each_at P [] j a h = absurd h
each_at P (x ∷ xs) j a h = elim h [ inl e ↦ subst P e a.0 | inr r ↦ each_at P xs j a.1 r ]

module _ {T : Type 0} where
  abbrev Later : List (Node T) → List (Node T) → Type 0
  Later ns ms = (i j : ℕ) → BeforeAt ns i j → BeforeAt ms i j

  keeps_later : (ns ms : List (Node T)) → Keeps ns ms → Later ns ms
  keeps_later ns ms keeps i j b =
      let x = keeps i b.one b.at in
      let y = keeps j b.other b.other_at in
      record {
        one = x.0;
        other = y.0;
        at = x.1;
        other_at = y.1;
        before = subst (λ p. Before (places p) (places y.0.path)) (sym x.3) (subst (λ p. Before (places b.one.path) (places p)) (sym y.3) b.before);
      }

  sorted_later : (ns ms : List (Node T)) (js : List ℕ) → Later ns ms → Sorted ns js → Sorted ms js
  sorted_later ns ms [] l s = tt
  sorted_later ns ms (j ∷ js) l s = (each_map (BeforeAt ns j) (BeforeAt ms j) js (l j) s.0, sorted_later ns ms js l s.1)

  sorted_append : (ms : List (Node T)) (xs ys : List ℕ) → Sorted ms xs → Sorted ms ys → Each (λ x. Each (BeforeAt ms x) ys) xs → Sorted ms (xs ++ ys)
  sorted_append ms [] ys a b c = b
  sorted_append ms (x ∷ xs) ys a b c = (each_append (BeforeAt ms x) xs ys a.0 c.0, sorted_append ms xs ys a.1 b c.1)

  swap : (ns ms : List (Node T)) (xs ys : List ℕ) (k : ℕ) → ((j : ℕ) → BeforeAt ns k j → Each (λ x. BeforeAt ms x j) xs) → Each (BeforeAt ns k) ys → Each (λ x. Each (BeforeAt ms x) ys) xs
  swap ns ms [] ys k f a = tt
  swap ns ms (x ∷ xs) ys k f a = (each_map (BeforeAt ns k) (BeforeAt ms x) ys (λ j b. (f j b).0) a, swap ns ms xs ys k (λ j b. (f j b).1) a)

  sorted_replace : (ns ms : List (Node T)) (js : List ℕ) (k : ℕ) (xs : List ℕ) → Later ns ms → ((i : ℕ) → BeforeAt ns i k → Each (BeforeAt ms i) xs) → ((j : ℕ) → BeforeAt ns k j → Each (λ x. BeforeAt ms x j) xs) → Sorted ms xs → Sorted ns js → Sorted ms (replace js k xs)
  unfolding replace
  sorted_replace ns ms [] k xs l left right own s = tt
  sorted_replace ns ms (j ∷ js) k xs l left right own s =
      elim (eq_case j k) [
        | inl e ↦ rw e.0 (sorted_append ms xs js own (sorted_later ns ms js l s.1) (swap ns ms xs js k right (subst (λ i. Each (BeforeAt ns i) js) e.1 s.0)))
        | inr o ↦ rw o.0 (each_replace (BeforeAt ns j) (BeforeAt ms j) js k xs (l j) (left j) s.0, sorted_replace ns ms js k xs l left right own s.1)
      ]

  -- the children of a node, after what is before it
  family_right : (ns ms : List (Node T)) (k i : ℕ) (n a : Node T) (first place : ℕ) (cs : List T) → slice_get ms i ≡ Some a → Before (places a.path) (places n.path) → Family ms k n.path first place cs → Each (BeforeAt ms i) (numbers first (length cs))
  family_right ns ms k i n a first place [] at b f = tt
  family_right ns ms k i n a first place (c ∷ cs) at b f = (
    record { one = a; other = f.0.0; at = at; other_at = f.0.1; before = subst (λ p. Before (places a.path) (places p)) (sym f.0.3) (before_right (places a.path) (places n.path) (place ∷ []) b) },
    family_right ns ms k i n a (first + 1) (place + 1) cs at b f.1,
  )

  family_left : (ns ms : List (Node T)) (k j : ℕ) (n b : Node T) (first place : ℕ) (cs : List T) → slice_get ms j ≡ Some b → Before (places n.path) (places b.path) → Family ms k n.path first place cs → Each (λ x. BeforeAt ms x j) (numbers first (length cs))
  family_left ns ms k j n b first place [] at h f = tt
  family_left ns ms k j n b first place (c ∷ cs) at h f = (
    record { one = f.0.0; other = b; at = f.0.1; other_at = at; before = subst (λ p. Before (places p) (places b.path)) (sym f.0.3) (before_left (places n.path) (places b.path) (place ∷ []) h) },
    family_left ns ms k j n b (first + 1) (place + 1) cs at h f.1,
  )

  family_next : (ms : List (Node T)) (k i : ℕ) (path : List Link) (a : Node T) (p first place : ℕ) (cs : List T) → slice_get ms i ≡ Some a → a.path ≡ record { family = k; place = p } ∷ path → p < place → Family ms k path first place cs → Each (BeforeAt ms i) (numbers first (length cs))
  family_next ms k i path a p first place [] at is lt f = tt
  family_next ms k i path a p first place (c ∷ cs) at is lt f = (
    record { one = a; other = f.0.0; at = at; other_at = f.0.1; before = subst (λ x. Before (places x) (places f.0.0.path)) (sym is) (subst (λ x. Before (places path ++ p ∷ []) (places x)) (sym f.0.3) (before_next (places path) p place lt)) },
    family_next ms k i path a p (first + 1) (place + 1) cs at is (omega arith) f.1,
  )

  family_sorted : (ms : List (Node T)) (k : ℕ) (path : List Link) (first place : ℕ) (cs : List T) → Family ms k path first place cs → Sorted ms (numbers first (length cs))
  family_sorted ms k path first place [] f = tt
  family_sorted ms k path first place (c ∷ cs) f =
      (family_next ms k first path f.0.0 place (first + 1) (place + 1) cs f.0.1 f.0.3 (omega arith) f.1, family_sorted ms k path (first + 1) (place + 1) cs f.1)

  -- the nodes that are live after a step and were there were live before
  abbrev pub LiveBack : List (Node T) → List (Node T) → Type 0
  LiveBack ns ms = (j : ℕ) (m : Node T) → slice_get ms j ≡ Some m → IsLive m.phase → (x : Node T) × (slice_get ns j ≡ Some x) × IsLive x.phase

  back_all : (ns : List (Node T)) → LiveBack ns ns
  back_all ns j m e l = (m, e, l)

  back_then : (ns ms xs : List (Node T)) → LiveBack ns ms → LiveBack ms xs → LiveBack ns xs
  back_then ns ms xs a b j m e l = let y = b j m e l in a j y.0 y.1 y.2

  pub change_at : (ns : List (Node T)) (k : ℕ) (f : Node T → Node T) (m : Node T) → slice_get (change ns k f) k ≡ Some m → (n : Node T) × (slice_get ns k ≡ Some n) × (f n ≡ m)
  unfolding change
  change_at [] k f m e = absurd (cc)
  change_at (x ∷ xs) zero f m e = (x, refl, some_is (f x) m e)
  change_at (x ∷ xs) (suc k) f m e = change_at xs k f m e

  back_change : (ns : List (Node T)) (k : ℕ) (f : Node T → Node T) → ((n : Node T) → slice_get ns k ≡ Some n → IsLive (f n).phase → IsLive n.phase) → LiveBack ns (change ns k f)
  back_change ns k f h j m e l =
      elim (same_or_not j k) [
        | inl s ↦
            let x = change_at ns k f m (ap (slice_get (change ns k f)) (sym s) ∙ e) in
            (x.0, ap (slice_get ns) s ∙ x.1, h x.0 x.1 (subst (λ y. IsLive y.phase) (sym x.2) l))
        | inr d ↦ (m, sym (get_other ns k j f d) ∙ e, l)
      ]

  not_live : (p : Phase T) (w : Walked T) → p ≡ put w → IsLive p → ⊥
  not_live p w e l = elim l [ inl a ↦ (let x = sym e ∙ a in cc) | inr a ↦ (let x = sym e ∙ a in cc) ]

  closed_dead : (w : Walked T) → IsLive (closed w) → ⊥
  closed_dead w l = elim l [ inl a ↦ cc | inr a ↦ cc ]

  put_dead : (w : Walked T) → IsLive (put w) → ⊥
  put_dead w l = elim l [ inl a ↦ cc | inr a ↦ cc ]

  dropped_dead : (x : License) → IsLive {T = T} (dropped x) → ⊥
  dropped_dead x l = elim l [ inl a ↦ cc | inr a ↦ cc ]

  expanded_dead : IsLive {T = T} expanded → ⊥
  expanded_dead l = elim l [ inl a ↦ cc | inr a ↦ cc ]

  -- node k, which is no longer live, goes
  order_gone : (ns ms : List (Node T)) (live : List ℕ) (k : ℕ) → Keeps ns ms → LiveBack ns ms → ((m : Node T) → slice_get ms k ≡ Some m → IsLive m.phase → ⊥) → IsOrder ns live → IsOrder ms (replace live k [])
  order_gone ns ms live k keeps back gone o = record {
    sorted = sorted_replace ns ms live k [] (keeps_later ns ms keeps) (λ i b. tt) (λ j b. tt) tt o.sorted;
    all = λ j m e l.
        let x = back j m e l in
        in_kept live k j [] (o.all j x.0 x.1 x.2) (λ s. gone m (ap (slice_get ms) (sym s) ∙ e) l);
  }

  order_same : (ns ms : List (Node T)) (live : List ℕ) → Keeps ns ms → LiveBack ns ms → IsOrder ns live → IsOrder ms live
  order_same ns ms live keeps back o = record {
    sorted = sorted_later ns ms live (keeps_later ns ms keeps) o.sorted;
    all = λ j m e l. (let x = back j m e l in o.all j x.0 x.1 x.2);
  }

  after_first : (ns : List (Node T)) (xs : List ℕ) (k : ℕ) (ys : List ℕ) → Sorted ns (xs ++ k ∷ ys) → Each (BeforeAt ns k) ys
  after_first ns [] k ys s = s.0
  after_first ns (x ∷ xs) k ys s = after_first ns xs k ys s.1

  -- the first free node of the list is the first free node of all
  pub first_is : (ns : List (Node T)) (xs : List ℕ) (k : ℕ) (ys : List ℕ) (n : Node T) → IsOrder ns (xs ++ k ∷ ys) → slice_get ns k ≡ Some n → n.phase ≡ free
      → Each (λ x. (m : Node T) → slice_get ns x ≡ Some m → m.phase ≢ free) xs → IsFirst ns k
  first_is ns xs k ys n o at is before = record {
    node = n;
    at = at;
    is_free = is;
    first = λ j m e f.
        elim (split_in xs k ys j (o.all j m e (inl f))) [
          | inl a ↦ absurd (each_at (λ x. (y : Node T) → slice_get ns x ≡ Some y → y.phase ≢ free) xs j before a m e f)
          | inr b ↦ elim b [ inl s ↦ inl (sym s) | inr c ↦ inr (each_at (BeforeAt ns k) ys j (after_first ns xs k ys o.sorted) c) ]
        ];
  }

  -- where the list has no free node there is none
  pub none_free : (ns : List (Node T)) (live : List ℕ) → IsOrder ns live → Each (λ x. (m : Node T) → slice_get ns x ≡ Some m → m.phase ≢ free) live → (k : ℕ) (n : Node T) → slice_get ns k ≡ Some n → n.phase ≢ free
  none_free ns live o none k n at f = each_at (λ x. (y : Node T) → slice_get ns x ≡ Some y → y.phase ≢ free) live k none (o.all k n at (inl f)) n at f

new_in : {T : Type 0} (cs : List T) (k : ℕ) (path : List Link) (p i : ℕ) (m : Node T) → slice_get (new_nodes k path p cs) i ≡ Some m → i < length cs
new_in [] k path p i m e = absurd (cc)
new_in (c ∷ cs) k path p zero m e = omega arith
new_in (c ∷ cs) k path p (suc i) m e = let h = new_in cs k path (p + 1) i m e in omega arith

module _ {T : Type 0} (step : T → Stepped T) (depth : T → ℕ) (rule : Rule) where
  back_with : (f : ℕ) (ns : List (Node T)) (p : ℕ) (n : Node T) (r : Option (List (Walked T))) → ((ms : List (Node T)) (q : Option ℕ) → LiveBack ms (close_up step depth rule f ms q)) → LiveBack ns (on_closed (close_up step depth rule f) ns p (close_with step depth rule ns p n r))
  back_with f ns p n None go = back_all ns
  back_with f ns p n (Some ws) go =
      let w = joined_walk step depth rule n.task ws in
      let ms = set_phase ns p (closed w) in
      back_then ns ms (close_up step depth rule f ms (parent_of (slice_get ms p)))
      (back_change ns p (λ x. record x { phase = closed w }) (λ x e l. absurd (closed_dead w l)))
      (go ms (parent_of (slice_get ms p)))

  back_phase : (f : ℕ) (ns : List (Node T)) (p : ℕ) (n : Node T) (ph : Phase T) → ((ms : List (Node T)) (q : Option ℕ) → LiveBack ms (close_up step depth rule f ms q)) → LiveBack ns (on_closed (close_up step depth rule f) ns p (close_phase step depth rule ns p n ph))
  back_phase f ns p n free go = back_all ns
  back_phase f ns p n claimed go = back_all ns
  back_phase f ns p n (put w) go = back_all ns
  back_phase f ns p n (closed w) go = back_all ns
  back_phase f ns p n (dropped l) go = back_all ns
  back_phase f ns p n expanded go = back_with f ns p n (kept_of step depth rule ns n) go

  back_node : (f : ℕ) (ns : List (Node T)) (p : ℕ) (o : Option (Node T)) → ((ms : List (Node T)) (q : Option ℕ) → LiveBack ms (close_up step depth rule f ms q)) → LiveBack ns (on_closed (close_up step depth rule f) ns p (close_node step depth rule ns p o))
  back_node f ns p None go = back_all ns
  back_node f ns p (Some n) go = back_phase f ns p n n.phase go

  close_back : (f : ℕ) (ns : List (Node T)) (q : Option ℕ) → LiveBack ns (close_up step depth rule f ns q)
  unfolding close_up
  close_back zero ns q = back_all ns
  close_back (suc f) ns None = back_all ns
  close_back (suc f) ns (Some p) = back_node f ns p (slice_get ns p) (close_back f)

  order_put : (ns : List (Node T)) (live : List ℕ) (k : ℕ) (o : Option (Node T)) → slice_get ns k ≡ o → IsClaimed o → Keeps ns (put_node step depth rule ns k o) → IsOrder ns live → IsOrder (put_node step depth rule ns k o) (replace live k [])
  order_put ns live k None at a keeps ord = absurd a
  order_put ns live k (Some n) at a keeps ord =
      let w = full step depth rule n.task in
      let mid = set_phase ns k (put w) in
      let ms = close_up step depth rule (k + 1) mid (above n.path) in
      let back = close_back (k + 1) mid (above n.path) in
      order_gone ns ms live k keeps
      (back_then ns mid ms (back_change ns k (λ x. record x { phase = put w }) (λ x e l. absurd (put_dead w l))) back)
      (λ m e l.
      let x = back k m e l in
      let y = change_at ns k (λ z. record z { phase = put w }) x.0 x.1 in
      not_live x.0.phase w (ap (λ z. z.phase) (sym y.2)) x.2)
      ord

  order_drop : (ns : List (Node T)) (live : List ℕ) (k : ℕ) (c : License) → IsOrder ns live → IsOrder (set_phase ns k (dropped c)) (replace live k [])
  order_drop ns live k c ord =
      let f : Node T → Node T = λ x. record x { phase = dropped c } in
      order_gone ns (change ns k f) live k (change_keeps ns k f (λ x. refl) (λ x. refl)) (back_change ns k f (λ x e l. absurd (dropped_dead c l)))
      (λ m e l. (let y = change_at ns k f m e in dropped_dead c (subst (λ z. IsLive z.phase) (sym y.2) l)))
      ord

  order_claim : (ns : List (Node T)) (live : List ℕ) (k : ℕ) (o : Option (Node T)) → slice_get ns k ≡ o → IsFree o → IsOrder ns live → IsOrder (set_phase ns k claimed) live
  order_claim ns live k None at a ord = absurd a
  order_claim ns live k (Some n) at a ord =
      let f : Node T → Node T = λ x. record x { phase = claimed } in
      order_same ns (change ns k f) live (change_keeps ns k f (λ x. refl) (λ x. refl))
      (back_change ns k f (λ x e l. inl (ap (λ z. z.phase) (some_is x n (sym e ∙ at)) ∙ a))) ord

  order_expand : (ns : List (Node T)) (live : List ℕ) (k : ℕ) (o : Option (Node T)) → slice_get ns k ≡ o → CanExpand step depth rule o → Keeps ns (expand_node step depth rule ns k o) → IsOrder ns live → IsOrder (expand_node step depth rule ns k o) (expanded_live step depth rule ns live k o)
  order_expand ns live k None at a keeps ord = absurd a
  order_expand ns live k (Some n) at a keeps ord =
      let first = length ns in
      let cs = children step depth rule n.task in
      let f : Node T → Node T = λ x. record x { first = first; phase = expanded; word = NONE } in
      let old = change ns k f in
      let new = new_nodes k n.path 0 cs in
      let ms = old ++ new in
      let len = change_length ns k f in
      let fam : Family ms k n.path first 0 cs = new_family old k n.path 0 first cs (sym len) ms refl in
      record {
        sorted = sorted_replace ns ms live k (numbers first (length cs)) (keeps_later ns ms keeps)
            (λ i b.
            let x = keeps i b.one b.at in
            family_right ns ms k i n x.0 first 0 cs x.1
            (subst (λ p. Before (places x.0.path) (places p)) (ap (λ z. z.path) (some_is b.other n (sym b.other_at ∙ at))) (subst (λ p. Before (places p) (places b.other.path)) (sym x.3) b.before)) fam)
            (λ j b.
            let x = keeps j b.other b.other_at in
            family_left ns ms k j n x.0 first 0 cs x.1
            (subst (λ p. Before (places p) (places x.0.path)) (ap (λ z. z.path) (some_is b.one n (sym b.at ∙ at))) (subst (λ p. Before (places b.one.path) (places p)) (sym x.3) b.before)) fam)
            (family_sorted ms k n.path first 0 cs fam) ord.sorted;
        all = λ j m e l.
            elim (cases_lt j (length old)) [
              | inl lt ↦
                  let e' : slice_get old j ≡ Some m = sym (get_left old new j lt) ∙ e in
                  elim (same_or_not j k) [
                    | inl s ↦
                        let y = change_at ns k f m (ap (slice_get old) (sym s) ∙ e') in
                        absurd (expanded_dead (subst (λ z. IsLive z.phase) (sym y.2) l))
                    | inr d ↦ in_kept live k j (numbers first (length cs)) (ord.all j m (sym (get_other ns k j f d) ∙ e') l) d
                  ]
              | inr ge ↦
                  let x = new_in cs k n.path 0 (j - length old) m (sym (get_right old new (j - length old) j (omega arith)) ∙ e) in
                  in_new live k j (numbers first (length cs)) (ord.all k n at (inr a.0)) (in_numbers first (length cs) j (omega arith) (omega arith))
            ];
      }

  -- each allowed step keeps the list in order
  pub order_step : (ns : List (Node T)) (live : List ℕ) (e : Turn) → IsAllowed step depth rule ns e → IsOrder ns live → IsOrder (apply step depth rule ns e) (live_after step depth rule ns live e)
  order_step ns live (claim k) a o = order_claim ns live k (slice_get ns k) refl a o
  order_step ns live (expand k) a o = order_expand ns live k (slice_get ns k) refl a (apply_keeps step depth rule ns (expand k)) o
  order_step ns live (finish k) a o = order_put ns live k (slice_get ns k) refl a (apply_keeps step depth rule ns (finish k)) o
  order_step ns live (drop k c) a o = order_drop ns live k c o
  order_step ns live (mark f i) a o =
      order_same ns (apply step depth rule ns (mark f i)) live (apply_keeps step depth rule ns (mark f i)) (back_change ns f (λ x. record x { word = min x.word i }) (λ x e l. l)) o
  order_step ns live (look f) a o = o

module _ {T : Type 0} where
  root_in : (t : T) (k : ℕ) (n : Node T) → slice_get (root t) k ≡ Some n → among (0 ∷ []) k
  root_in t zero n e = inl refl
  root_in t (suc k) n e = absurd (cc)

  pub order_root : (t : T) → IsOrder (root t) (0 ∷ [])
  order_root t = record { sorted = (tt, tt); all = λ k n e l. root_in t k n e }
