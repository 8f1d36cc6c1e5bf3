-- A clause whose literals without `if` hold by themselves: so does each clause that it is split into.
use Rattle.std.proofs.Common.{◌≡◌, ℕ, zero, suc, ◌+◌, ◌*◌, ◌<◌, Bool, true, false, true≢false, cond, ◌||◌, List, [], ◌∷◌, ◌++◌, map, slice_get, Option, Some, None, is_some, ◌⊎◌, inl, inr, refl, ap, sym, ◌∙◌, subst, zero-add, arith}
use Rattle.ap_list.specs.Lists.{Each, is_among, joined}
use Rattle.ap_term.specs.declared.term.Term.{Term}
use Rattle.ap_term.specs.declared.term.Clause.{Clause}
use Rattle.ap_term.specs.Equal.{term_eq}
use Rattle.ap_term.proofs.Equals.{term_eq-true, term_eq-same}
use Rattle.ap_world.specs.Shapes.{Shape, negation, shape_of, is_constant}
use Rattle.ap_kernel.specs.declared.reductions.Inference.{Inference}
use Rattle.ap_kernel.specs.Reductions.{put_at}
use Rattle.ap_kernel.specs.Tidying.{plain, kept, tidied, is_opposed, decides, any_decides, holds_by_itself}
use Rattle.ap_clausify.specs.Places.{has_if, first_place, first_choice}
use Rattle.ap_clausify.specs.Splitting.{Left, Splitter, then_rest, each_split, cases, split_by, split_to, split_of, settled, settled_left}
use Rattle.ap_clausify.specs.Leaves.{clause_leaves}
use Rattle.ap_clausify.specs.Vanishing.{without_if, Vanishes}
use Rattle.ap_clausify.proofs.Placed.{place_has, stands_from}
use Rattle.ap_clausify.proofs.SplitStands.{clauses_left, before_is}
use Rattle.ap_clausify.proofs.LeavesCounted.{put_next}
use Rattle.ap_clausify.proofs.StepsCounted.{some_cases, Exact, exact}

-- tests
pub or_left : (a b : Bool) → a ≡ true → (a || b) ≡ true
or_left true b h = refl
or_left false b h = cc

pub or_right : (a b : Bool) → b ≡ true → (a || b) ≡ true
or_right true b h = refl
or_right false b h = h

pub either : (a b : Bool) → (a || b) ≡ true → (a ≡ true) ⊎ (b ≡ true)
either true b h = inl refl
either false b h = inr h

-- each of the first terms is one of the second
abbrev pub Within : List Term → List Term → Type 0
Within xs ys = (x : Term) → is_among term_eq x xs ≡ true → is_among term_eq x ys ≡ true

-- what decides among some decides among more
opposed_more : (xs ys : List Term) → Within xs ys → (y : Shape Term) → is_opposed xs y ≡ true → is_opposed ys y ≡ true
opposed_more xs ys w (negation a) h = w a h
opposed_more xs ys w y h = cc

decides_more : (xs ys : List Term) → Within xs ys → (u : Term) → decides xs u ≡ true → decides ys u ≡ true
decides_more xs ys w u h = go (either (is_constant true u) (is_opposed xs (shape_of u)) h)
  where
    go : (is_constant true u ≡ true) ⊎ (is_opposed xs (shape_of u) ≡ true) → decides ys u ≡ true
    go (inl k) = or_left (is_constant true u) (is_opposed ys (shape_of u)) k
    go (inr k) = or_right (is_constant true u) (is_opposed ys (shape_of u)) (opposed_more xs ys w (shape_of u) k)

pub decider : (ts us : List Term) → any_decides ts us ≡ true → (u : Term) × (is_among term_eq u us ≡ true) × (decides ts u ≡ true)
decider ts [] h = absurd (true≢false (sym h))
decider ts (u ∷ us) h = go (either (decides ts u) (any_decides ts us) h) (decider ts us)
  where
    go : (decides ts u ≡ true) ⊎ (any_decides ts us ≡ true) → (any_decides ts us ≡ true → (v : Term) × (is_among term_eq v us ≡ true) × (decides ts v ≡ true))
        → (v : Term) × (is_among term_eq v (u ∷ us) ≡ true) × (decides ts v ≡ true)
    go (inl k) later = (u, or_left (term_eq u u) (is_among term_eq u us) (term_eq-same u), k)
    go (inr k) later = let (v, among, d) = later k in (v, or_right (term_eq v u) (is_among term_eq v us) among, d)

pub decided_by : (ts us : List Term) (u : Term) → is_among term_eq u us ≡ true → decides ts u ≡ true → any_decides ts us ≡ true
decided_by ts [] u h d = absurd (true≢false (sym h))
decided_by ts (v ∷ us) u h d = go (either (term_eq u v) (is_among term_eq u us) h) (λ k. decided_by ts us u k d)
  where
    go : (term_eq u v ≡ true) ⊎ (is_among term_eq u us ≡ true) → (is_among term_eq u us ≡ true → any_decides ts us ≡ true) → (decides ts v || any_decides ts us) ≡ true
    go (inl k) later = or_left (decides ts v) (any_decides ts us) (subst (λ w. decides ts w ≡ true) (term_eq-true u v k) d)
    go (inr k) later = or_right (decides ts v) (any_decides ts us) (later k)

holds_within : (xs ys : List Term) → Within xs ys → holds_by_itself xs ≡ true → holds_by_itself ys ≡ true
holds_within xs ys w h = let (u, among, d) = decider xs xs h in decided_by ys ys u (w u among) (decides_more xs ys w u d)

-- which literals are kept
pub nowhere : {P : Type 0} → false ≡ true → P
nowhere h = cc

neither : (a b : Bool) → (a || b) ≡ false → a ≡ false
neither true b h = cc
neither false b h = refl

pub among_end : (x u : Term) (xs : List Term) → is_among term_eq x (xs ++ u ∷ []) ≡ true → (is_among term_eq x xs ≡ true) ⊎ (term_eq x u ≡ true)
among_end x u [] h = go (either (term_eq x u) false h)
  where
    go : (term_eq x u ≡ true) ⊎ (false ≡ true) → (false ≡ true) ⊎ (term_eq x u ≡ true)
    go (inl k) = inr k
    go (inr k) = inl k
among_end x u (y ∷ xs) h = go (either (term_eq x y) (is_among term_eq x (xs ++ u ∷ [])) h) (among_end x u xs)
  where
    last : (is_among term_eq x xs ≡ true) ⊎ (term_eq x u ≡ true) → ((term_eq x y || is_among term_eq x xs) ≡ true) ⊎ (term_eq x u ≡ true)
    last (inl k) = inl (or_right (term_eq x y) (is_among term_eq x xs) k)
    last (inr k) = inr k

    go : (term_eq x y ≡ true) ⊎ (is_among term_eq x (xs ++ u ∷ []) ≡ true) → (is_among term_eq x (xs ++ u ∷ []) ≡ true → (is_among term_eq x xs ≡ true) ⊎ (term_eq x u ≡ true))
        → ((term_eq x y || is_among term_eq x xs) ≡ true) ⊎ (term_eq x u ≡ true)
    go (inl k) later = inl (or_left (term_eq x y) (is_among term_eq x xs) k)
    go (inr k) later = last (later k)

kept_only : (x : Term) (before us : List Term) → is_among term_eq x (kept before us) ≡ true → (is_among term_eq x us ≡ true) × (is_constant false x ≡ false)
kept_only x before [] h = nowhere h
kept_only x before (u ∷ us) h = go (is_constant false u || is_among term_eq u before) refl h (kept_only x before us) (kept_only x (before ++ u ∷ []) us)
  where
    rest : (is_among term_eq x us ≡ true) × (is_constant false x ≡ false) → ((term_eq x u || is_among term_eq x us) ≡ true) × (is_constant false x ≡ false)
    rest p = (or_right (term_eq x u) (is_among term_eq x us) p.0, p.1)

    new : is_constant false u ≡ false → (term_eq x u ≡ true) ⊎ (is_among term_eq x (kept (before ++ u ∷ []) us) ≡ true) → (is_among term_eq x (kept (before ++ u ∷ []) us) ≡ true → (is_among term_eq x us ≡ true) × (is_constant false x ≡ false))
        → ((term_eq x u || is_among term_eq x us) ≡ true) × (is_constant false x ≡ false)
    new c (inl k) q = (or_left (term_eq x u) (is_among term_eq x us) k, subst (λ w. is_constant false w ≡ false) (sym (term_eq-true x u k)) c)
    new c (inr k) q = rest (q k)

    go : (b : Bool) → (is_constant false u || is_among term_eq u before) ≡ b → is_among term_eq x (cond b (kept before us) (u ∷ kept (before ++ u ∷ []) us)) ≡ true
        → (is_among term_eq x (kept before us) ≡ true → (is_among term_eq x us ≡ true) × (is_constant false x ≡ false))
        → (is_among term_eq x (kept (before ++ u ∷ []) us) ≡ true → (is_among term_eq x us ≡ true) × (is_constant false x ≡ false))
        → ((term_eq x u || is_among term_eq x us) ≡ true) × (is_constant false x ≡ false)
    go true e k p q = rest (p k)
    go false e k p q = new (neither (is_constant false u) (is_among term_eq u before) e) (either (term_eq x u) (is_among term_eq x (kept (before ++ u ∷ []) us)) k) q

abbrev Found : Term → List Term → List Term → Type 0
Found x before out = (is_among term_eq x before ≡ true) ⊎ (is_among term_eq x out ≡ true)

pub kept_has : (x : Term) (before us : List Term) → is_constant false x ≡ false → is_among term_eq x us ≡ true → Found x before (kept before us)
kept_has x before [] c h = nowhere h
kept_has x before (u ∷ us) c h = go (is_constant false u || is_among term_eq u before) refl (either (term_eq x u) (is_among term_eq x us) h) (kept_has x before us c) (kept_has x (before ++ u ∷ []) us c)
  where
    old : x ≡ u → (is_constant false u ≡ true) ⊎ (is_among term_eq u before ≡ true) → Found x before (kept before us)
    old e (inl k) = absurd (true≢false (sym k ∙ ap (is_constant false) (sym e) ∙ c))
    old e (inr k) = inl (subst (λ w. is_among term_eq w before ≡ true) (sym e) k)

    later : (out : List Term) → (is_among term_eq x before ≡ true) ⊎ (term_eq x u ≡ true) → Found x before (u ∷ out)
    later out (inl k) = inl k
    later out (inr k) = inr (or_left (term_eq x u) (is_among term_eq x out) k)

    next : (out : List Term) → Found x (before ++ u ∷ []) out → Found x before (u ∷ out)
    next out (inl k) = later out (among_end x u before k)
    next out (inr k) = inr (or_right (term_eq x u) (is_among term_eq x out) k)

    go : (b : Bool) → (is_constant false u || is_among term_eq u before) ≡ b → (term_eq x u ≡ true) ⊎ (is_among term_eq x us ≡ true)
        → (is_among term_eq x us ≡ true → Found x before (kept before us)) → (is_among term_eq x us ≡ true → Found x (before ++ u ∷ []) (kept (before ++ u ∷ []) us))
        → Found x before (cond b (kept before us) (u ∷ kept (before ++ u ∷ []) us))
    go true e (inl k) p q = old (term_eq-true x u k) (either (is_constant false u) (is_among term_eq u before) e)
    go true e (inr k) p q = p k
    go false e (inl k) p q = inr (or_left (term_eq x u) (is_among term_eq x (kept (before ++ u ∷ []) us)) k)
    go false e (inr k) p q = next (kept (before ++ u ∷ []) us) (q k)

plain_from : (x : Term) (us : List Term) → is_among term_eq x (map plain us) ≡ true → (u : Term) × (is_among term_eq u us ≡ true) × (x ≡ plain u)
plain_from x [] h = nowhere h
plain_from x (u ∷ us) h = go (either (term_eq x (plain u)) (is_among term_eq x (map plain us)) h) (plain_from x us)
  where
    go : (term_eq x (plain u) ≡ true) ⊎ (is_among term_eq x (map plain us) ≡ true) → (is_among term_eq x (map plain us) ≡ true → (v : Term) × (is_among term_eq v us ≡ true) × (x ≡ plain v))
        → (v : Term) × (is_among term_eq v (u ∷ us) ≡ true) × (x ≡ plain v)
    go (inl k) later = (u, or_left (term_eq u u) (is_among term_eq u us) (term_eq-same u), term_eq-true x (plain u) k)
    go (inr k) later = let (v, among, e) = later k in (v, or_right (term_eq v u) (is_among term_eq v us) among, e)

pub plain_to : (u : Term) (us : List Term) → is_among term_eq u us ≡ true → is_among term_eq (plain u) (map plain us) ≡ true
plain_to u [] h = nowhere h
plain_to u (v ∷ us) h = go (either (term_eq u v) (is_among term_eq u us) h) (plain_to u us)
  where
    go : (term_eq u v ≡ true) ⊎ (is_among term_eq u us ≡ true) → (is_among term_eq u us ≡ true → is_among term_eq (plain u) (map plain us) ≡ true) → (term_eq (plain u) (plain v) || is_among term_eq (plain u) (map plain us)) ≡ true
    go (inl k) later = or_left (term_eq (plain u) (plain v)) (is_among term_eq (plain u) (map plain us)) (subst (λ w. term_eq (plain u) (plain w) ≡ true) (term_eq-true u v k) (term_eq-same (plain u)))
    go (inr k) later = or_right (term_eq (plain u) (plain v)) (is_among term_eq (plain u) (map plain us)) (later k)

tidied_within : (xs ys : List Term) → Within xs ys → Within (tidied xs) (tidied ys)
tidied_within xs ys w x h =
    let (among, c) = kept_only x [] (map plain xs) h in
    let (u, from, e) = plain_from x xs among in
    let to : is_among term_eq x (map plain ys) ≡ true = subst (λ v. is_among term_eq v (map plain ys) ≡ true) (sym e) (plain_to u ys (w u from)) in
    go (kept_has x [] (map plain ys) c to)
  where
    go : (false ≡ true) ⊎ (is_among term_eq x (tidied ys) ≡ true) → is_among term_eq x (tidied ys) ≡ true
    go (inl k) = nowhere k
    go (inr k) = k

-- a clause with more literals holds by itself too
pub holds_more : (xs ys : List Term) → Within xs ys → holds_by_itself (tidied xs) ≡ true → holds_by_itself (tidied ys) ≡ true
holds_more xs ys w = holds_within (tidied xs) (tidied ys) (tidied_within xs ys w)

-- the literals without `if` are literals
pub more_among : (t x : Term) (us vs : List Term) → (is_among term_eq x us ≡ true → is_among term_eq x vs ≡ true) → is_among term_eq x (t ∷ us) ≡ true → is_among term_eq x (t ∷ vs) ≡ true
more_among t x us vs w h = go (either (term_eq x t) (is_among term_eq x us) h)
  where
    go : (term_eq x t ≡ true) ⊎ (is_among term_eq x us ≡ true) → (term_eq x t || is_among term_eq x vs) ≡ true
    go (inl k) = or_left (term_eq x t) (is_among term_eq x vs) k
    go (inr k) = or_right (term_eq x t) (is_among term_eq x vs) (w k)

without_within : (ts : List Term) → Within (without_if ts) ts
without_within [] x h = h
without_within (t ∷ ts) x h = go (has_if t) (without_within ts x) h
  where
    go : (b : Bool) → (is_among term_eq x (without_if ts) ≡ true → is_among term_eq x ts ≡ true) → is_among term_eq x (cond b (without_if ts) (t ∷ without_if ts)) ≡ true → (term_eq x t || is_among term_eq x ts) ≡ true
    go true w k = or_right (term_eq x t) (is_among term_eq x ts) (w k)
    go false w k = more_among t x (without_if ts) ts w k

-- they stay where others are put before them
without_behind : (ys ts : List Term) → Within (without_if ts) (without_if (ys ++ ts))
without_behind [] ts x h = h
without_behind (y ∷ ys) ts x h = go (has_if y) (without_behind ys ts x h)
  where
    go : (b : Bool) → is_among term_eq x (without_if (ys ++ ts)) ≡ true → is_among term_eq x (cond b (without_if (ys ++ ts)) (y ∷ without_if (ys ++ ts))) ≡ true
    go true k = k
    go false k = or_right (term_eq x y) (is_among term_eq x (without_if (ys ++ ts))) k

-- and where others are put in the place of one with an `if`
without_put : (ts : List Term) (k : ℕ) (t : Term) (ys : List Term) → slice_get ts k ≡ Some t → has_if t ≡ true → Within (without_if ts) (without_if (put_at k ys ts))
without_put [] k t ys h q x m = cc
without_put (u ∷ ts) zero t ys h q x m =
    let same : u ≡ t = cc in
    let its : has_if u ≡ true = ap has_if same ∙ q in
    without_behind ys ts x (subst (λ b. is_among term_eq x (cond b (without_if ts) (u ∷ without_if ts)) ≡ true) its m)
without_put (u ∷ ts) (suc k) t ys h q x m = subst (λ us. is_among term_eq x (without_if us) ≡ true) (sym (put_next k ys u ts)) (go (has_if u) (without_put ts k t ys h q x) m)
  where
    go : (b : Bool) → (is_among term_eq x (without_if ts) ≡ true → is_among term_eq x (without_if (put_at k ys ts)) ≡ true) → is_among term_eq x (cond b (without_if ts) (u ∷ without_if ts)) ≡ true
        → is_among term_eq x (cond b (without_if (put_at k ys ts)) (u ∷ without_if (put_at k ys ts))) ≡ true
    go true w l = w l
    go false w l = more_among u x (without_if ts) (without_if (put_at k ys ts)) w l

-- such a clause is tidied to none
pub vanished_settled : (c : Clause) → Vanishes c → settled c ≡ []
vanished_settled c h = ap (λ b. cond b [] (record { 0 = tidied c.0 } ∷ [])) (holds_more (without_if c.0) c.0 (without_within c.0) h)

-- and so are those literals before the first one with an `if` that hold by themselves
pub front_vanishes : (c : Clause) (front rest : List Term) → c.0 ≡ front ++ rest → Each (λ u. first_place u ≡ None) front → holds_by_itself (tidied front) ≡ true → Vanishes c
front_vanishes c front rest e ns h = holds_more front (without_if c.0) (λ x m. subst (λ us. is_among term_eq x (without_if us) ≡ true) (sym e) (within front ns x m)) h
  where
    within : (us : List Term) → Each (λ u. first_place u ≡ None) us → Within us (without_if (us ++ rest))
    within [] ns x m = nowhere m
    within (u ∷ us) ns x m =
        let none : has_if u ≡ false = sym (place_has u) ∙ ap is_some ns.0 in
        subst (λ b. is_among term_eq x (cond b (without_if (us ++ rest)) (u ∷ without_if (us ++ rest))) ≡ true) (sym none) (more_among u x us (without_if (us ++ rest)) (within us ns.1 x) m)

-- the cases of such a clause are such clauses
vanishes_put : (c : Clause) → Vanishes c → (i : ℕ) (is : List ℕ) → first_choice c ≡ Some (i, is) → (ys : List Term) → Vanishes (record { 0 = put_at i ys c.0 })
vanishes_put c h i is choice ys =
    let l = stands_from 0 c.0 (i, is) choice in
    let there : slice_get c.0 i ≡ Some l.u = ap (slice_get c.0) (l.at ∙ zero-add l.k) ∙ l.there in
    let its : has_if l.u ≡ true = sym (place_has l.u) ∙ ap is_some l.place in
    holds_more (without_if c.0) (without_if (put_at i ys c.0)) (without_put c.0 i l.u ys there its) h

vanishing_cases : (c : Clause) (r : Inference) → Vanishes c → cases c ≡ Some r → Each Vanishes r.to
vanishing_cases c r h e =
    let s = some_cases c r e in
    subst (Each Vanishes) (sym s.cases.to) (vanishes_put c h s.i s.is s.choice s.cases.first, (vanishes_put c h s.i s.is s.choice s.cases.second, tt))

-- each clause that is left is tidied to none
abbrev AllSettled : List Clause → Type 0
AllSettled ds = Each (λ d. settled d ≡ []) ds

abbrev Settles : Splitter → Type 0
Settles s = (c : Clause) (n : ℕ) (ds : List Clause) (l : ℕ) → Vanishes c → s c n ≡ Some (ds, l) → AllSettled ds

none_settles : Settles (λ c n. None)
none_settles c n ds l k h = cc

each_append : (ds es : List Clause) → AllSettled ds → AllSettled es → AllSettled (ds ++ es)
each_append [] es p q = q
each_append (d ∷ ds) es p q = (p.0, each_append ds es p.1 q)

each_settles : (s : Splitter) → Settles s → (cs : List Clause) (n : ℕ) (es : List Clause) (l : ℕ) → Each Vanishes cs → each_split s cs n ≡ Some (es, l) → AllSettled es
each_settles s f [] n es l ks h = subst AllSettled (ap clauses_left h) tt
each_settles s f (c ∷ cs) zero es l ks h = cc
each_settles s f (c ∷ cs) (suc m) es l ks h = go (s c m) refl h (λ n ds. each_settles s f cs n ds l ks.1)
  where
    go : (o : Left) → s c m ≡ o → then_rest o (each_split s cs) ≡ Some (es, l) → ((n : ℕ) (ds : List Clause) → each_split s cs n ≡ Some (ds, l) → AllSettled ds) → AllSettled es
    go None q k more = cc
    go (Some p) q k more =
        let (ds, rest, is) = before_is p.0 es (each_split s cs p.1) l k in
        subst AllSettled (sym is) (each_append p.0 ds (f c m p.0 p.1 ks.0 q) (more p.1 ds rest))

by_settles : (s : Splitter) → Settles s → (c : Clause) (n : ℕ) (o : Option Inference) → cases c ≡ o → (es : List Clause) (l : ℕ) → Vanishes c → split_by s c n o ≡ Some (es, l) → AllSettled es
by_settles s f c n None q es l k h = subst AllSettled (ap clauses_left h) (vanished_settled c k, tt)
by_settles s f c n (Some r) q es l k h = each_settles s f r.to n es l (vanishing_cases c r k q) h

to_settles : (d : ℕ) → Settles (split_to d)
to_settles zero c n ds l k h = by_settles (λ c n. None) none_settles c n (cases c) refl ds l k h
to_settles (suc d) c n ds l k h = by_settles (split_to d) (to_settles d) c n (cases c) refl ds l k h

all_settled : (ds : List Clause) → AllSettled ds → joined (map settled ds) ≡ []
all_settled [] h = refl
all_settled (d ∷ ds) h = ap (λ es. es ++ joined (map settled ds)) h.0 ∙ all_settled ds h.1

-- no clause is left of it, for two steps for each leaf but one
pub vanishes : (c : Clause) (n m : ℕ) → Vanishes c → m + 2 * clause_leaves c ≡ n + 2 → settled_left (split_of n c) ≡ Some ([], m)
vanishes c n m k e = go (split_of n c) refl (exact n n c (omega arith))
  where
    go : (o : Left) → split_of n c ≡ o → Exact (clause_leaves c) n o → settled_left o ≡ Some ([], m)
    go None q x = absurd (omega arith)
    go (Some p) q x =
        let a = x.0 in
        let l : p.1 ≡ m = omega arith in
        ap (λ cs. Some (cs, p.1)) (all_settled p.0 (to_settles n c n p.0 p.1 k q)) ∙ ap (λ i. Some ([], i)) l

-- the steps run out where there are fewer
pub runs_out : (c : Clause) (n : ℕ) → n + 2 < 2 * clause_leaves c → settled_left (split_of n c) ≡ None
runs_out c n e = go (split_of n c) refl (exact n n c (omega arith))
  where
    go : (o : Left) → split_of n c ≡ o → Exact (clause_leaves c) n o → settled_left o ≡ None
    go None q x = refl
    go (Some p) q x = let a = x.0 in absurd (omega arith)
