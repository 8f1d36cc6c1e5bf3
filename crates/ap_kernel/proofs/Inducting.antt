-- The law of induction: a candidate's clauses prove the clause, and are of known terms.
use Rattle.std.proofs.Common.{◌≡◌, ℕ, nat_eq, Bool, true, false, cond, not, ◌&&◌, ◌||◌, List, [], ◌∷◌, ◌++◌, map, zip, length, Some, None, ◌⊎◌, inl, inr, refl, sym, ap, ◌∙◌, subst, eqb-true, true≢false, arith}
use Rattle.std.proofs.Math.ListN.{length-map}
use Rattle.ap_list.specs.Lists.{Each, all_true, is_among, is_distinct, is_within}
use Rattle.ap_value.specs.declared.symbol.Symbol.{Symbol}
use Rattle.ap_value.specs.Values.{symbol_eq}
use Rattle.ap_value.proofs.Equals.{both, symbol_eq-true}
use Rattle.ap_term.specs.declared.term.Term.{Term, Var}
use Rattle.ap_term.specs.Terms.{vars_after, subst_of}
use Rattle.ap_world.specs.declared.entry.Case.{Case}
use Rattle.ap_world.specs.declared.entry.Measure.{Measure}
use Rattle.ap_world.specs.declared.entry.Function.{Function}
use Rattle.ap_world.specs.declared.entry.Entry.{Entry}
use Rattle.ap_world.specs.Primitives.{prim_of}
use Rattle.ap_world.specs.Clauses.{not_of, negate}
use Rattle.ap_world.specs.Meaning.{Defs}
use Rattle.ap_world.specs.Recursion.{mentions, is_changed}
use Rattle.ap_world.specs.Sound.{known, speaks_of, components, HasFunctions, Recurs, IsRecursive, GoodFunction, Sound}
use Rattle.ap_world.specs.World.{function_of}
use Rattle.ap_world.proofs.Knowing.{each_true, true_each, each_same}
use Rattle.ap_world.proofs.Looking.{good_of}
use Rattle.ap_world.proofs.Extending.{extends_self}
use Rattle.ap_world.proofs.Places.{neither}
use Rattle.ap_world.proofs.Adding.{each_append}
use Rattle.ap_kernel.specs.Induction.{choices, negated_at, with_choice, case_clauses, induction_at, Place, moved_at, moved_names, formals_of, actuals_of, pairs_of, variable_of, is_variable, occurs, count_true, any_true, is_apart, changes, led_names, place_of, places_of, fits, is_candidate, InductionIsSound, InductionIsKnown}
use Rattle.ap_world.proofs.Lists.{each_zip, map_each, joined_each}
use Rattle.ap_world.proofs.Cases.{CaseKnown, cases_known}
use Rattle.ap_world.proofs.Grounded.{nots}
use Rattle.ap_world.proofs.KnownTerms.{known_subst, known_negate}
use Rattle.ap_kernel.proofs.Mentioned.{occurs_among}
use Rattle.ap_kernel.proofs.Moving.{not_true, GoodPlace, is_measured_at}
use Rattle.ap_kernel.proofs.InductRow.{GoodCall, induct_row}
use Rattle.ap_kernel.proofs.Candidate.{each_all, or_left, or_right, variable_is, each_among, none_of, unchanged, Led, Follows, number, whole, HasVariable, has_variable, source, distinct_names, stays}

and_right : (a b : Bool) → (a && b) ≡ false → a ≡ true → b ≡ false
and_right true b h k = h
and_right false b h k = cc

firsts : {A B : Type 0} (xs : List A) (ys : List B) → length xs ≡ length ys → map (λ (p : A × B). p.0) (zip xs ys) ≡ xs
firsts [] ys l = refl
firsts (x ∷ xs) [] l = absurd (omega arith)
firsts (x ∷ xs) (y ∷ ys) l = ap (λ zs. x ∷ zs) (firsts xs ys (omega arith))

seconds : {A B : Type 0} (xs : List A) (ys : List B) → length xs ≡ length ys → map (λ (p : A × B). p.1) (zip xs ys) ≡ ys
seconds [] [] l = refl
seconds [] (y ∷ ys) l = absurd (omega arith)
seconds (x ∷ xs) [] l = absurd (omega arith)
seconds (x ∷ xs) (y ∷ ys) l = ap (λ zs. y ∷ zs) (seconds xs ys (omega arith))

within_each : (xs ys : List Symbol) → is_within symbol_eq xs ys ≡ true → Each (λ x. is_among symbol_eq x ys ≡ true) xs
within_each [] ys h = tt
within_each (x ∷ xs) ys h = let p = both (is_among symbol_eq x ys) (is_within symbol_eq xs ys) h in (p.0, within_each xs ys p.1)

-- each variable of the terms is mentioned
mentioned : (us : List Term) → Each (λ u. Each (λ x. mentions x us ≡ true) (vars_after u [])) us
mentioned [] = tt
mentioned (u ∷ us) = (
  each_same (vars_after u []) (λ x h. or_left (is_among symbol_eq x (vars_after u [])) (mentions x us) h) (each_among (vars_after u [])),
  each_same us (λ w hs. each_same (vars_after w []) (λ x h. or_right (is_among symbol_eq x (vars_after u [])) (mentions x us) h) hs) (mentioned us),
)

module _ (formals : List Symbol) (m : List Term) (ks : List Case) (actuals : List Term) where
  abbrev leds : List Symbol
  leds = led_names formals m ks (zip formals actuals)

  abbrev names : List Symbol
  names = moved_names (places_of formals m ks actuals)

  abbrev IsStill : Symbol × Term → Type 0
  IsStill p = (Led formals m ks actuals p || Follows formals m ks actuals p) ≡ false

  -- what is known of a pair
  abbrev Stays : Symbol × Term → Type 0
  Stays p = (w : (x : Symbol) × (is_among symbol_eq x names ≡ true) × (whole formals m ks actuals x ≡ 1)) → IsStill p → occurs w.0 p.1 ≡ false

  abbrev Row : Symbol × Term → Type 0
  Row p = HasVariable formals m ks actuals p × (fits formals m ks leds p ≡ true) × Stays p

  abbrev Unchanged : List (Symbol × Term) → Type 0
  Unchanged = Each (λ p. changes formals m ks p.0 ≡ false → p.1 ≡ Var p.0)

  module _ (sources : (x : Symbol) → is_among symbol_eq x names ≡ true → (is_among symbol_eq x leds ≡ true) ⊎ (whole formals m ks actuals x ≡ 1)) where
    place_good : (p : Symbol × Term) (d : Term) → Row p → (changes formals m ks p.0 ≡ false → d ≡ Var p.0) → GoodPlace names (place_of formals m ks actuals p) d
    place_good p d row same = record {
      moved = λ h. variable_is p.1 (row.0 h);
      still = λ h k. (same (and_right (mentions p.0 m) (changes formals m ks p.0) (led h) k), apart h k);
    }
      where
        led : IsStill p → Led formals m ks actuals p ≡ false
        led h = (neither (Led formals m ks actuals p) (Follows formals m ks actuals p) h).0

        is_clear : (b a t : Bool) → cond b a (not true || t) ≡ true → b ≡ false → t ≡ true
        is_clear true a t h k = absurd (true≢false k)
        is_clear false a t h k = h

        one : IsStill p → (x : Symbol) → not (is_among symbol_eq x leds) ≡ true → is_among symbol_eq x (vars_after p.1 []) ≡ true → (b : Bool) → is_among symbol_eq x names ≡ b → b ≡ false
        one h x free there false q = refl
        one h x free there true q = absurd (at (sources x q))
          where
            at : (is_among symbol_eq x leds ≡ true) ⊎ (whole formals m ks actuals x ≡ 1) → ⊥
            at (inl a) = true≢false (sym a ∙ not_true _ free)
            at (inr a) = true≢false (sym there ∙ sym (occurs_among x p.1) ∙ row.2 (x, q, a) h)

        apart : IsStill p → mentions p.0 m ≡ true → Each (λ x. is_among symbol_eq x names ≡ false) (vars_after p.1 [])
        apart h k =
            let fit : cond (Led formals m ks actuals p) (is_variable p.1) (not true || is_apart leds p.1) ≡ true =
            subst (λ b. cond (Led formals m ks actuals p) (is_variable p.1) (not b || is_apart leds p.1) ≡ true) k row.1 in
            let free = each_true (λ x. not (is_among symbol_eq x leds)) (vars_after p.1 []) (is_clear (Led formals m ks actuals p) _ (is_apart leds p.1) fit (led h)) in
            each_zip (λ x. not (is_among symbol_eq x leds) ≡ true) (λ x. is_among symbol_eq x (vars_after p.1 []) ≡ true) (λ x. is_among symbol_eq x names ≡ false) (vars_after p.1 [])
            (λ x f t. one h x f t (is_among symbol_eq x names) refl) free (each_among (vars_after p.1 []))

    rows : (fs : List Symbol) (us : List Term) (cs : List Term) → Each Row (zip fs us) → Unchanged (zip fs cs) → Each (λ r. GoodPlace names r.0 r.1) (zip (map (place_of formals m ks actuals) (zip fs us)) cs)
    rows [] us cs hs os = tt
    rows (f ∷ fs) [] cs hs os = tt
    rows (f ∷ fs) (u ∷ us) [] hs os = tt
    rows (f ∷ fs) (u ∷ us) (c ∷ cs) hs os = (place_good (f, u) c hs.0 os.0, rows fs us cs hs.1 os.1)

  formals_there : (fs : List Symbol) (us : List Term) → length fs ≡ length us → formals_of (map (place_of formals m ks actuals) (zip fs us)) ≡ fs
  formals_there [] us l = refl
  formals_there (f ∷ fs) [] l = absurd (omega arith)
  formals_there (f ∷ fs) (u ∷ us) l = ap (λ xs. f ∷ xs) (formals_there fs us (omega arith))

  measured_there : (x : Symbol) (fs : List Symbol) (us : List Term) → length fs ≡ length us → is_among symbol_eq x fs ≡ true → mentions x m ≡ true → is_measured_at (map (place_of formals m ks actuals) (zip fs us)) x ≡ true
  measured_there x [] us l h k = cc
  measured_there x (f ∷ fs) [] l h k = absurd (omega arith)
  measured_there x (f ∷ fs) (u ∷ us) l h k = go (symbol_eq x f) refl (λ a. measured_there x fs us (omega arith) a k) h
    where
      go : (b : Bool) → symbol_eq x f ≡ b → (is_among symbol_eq x fs ≡ true → is_measured_at (map (place_of formals m ks actuals) (zip fs us)) x ≡ true) → (b || is_among symbol_eq x fs) ≡ true
          → cond b (mentions f m) (is_measured_at (map (place_of formals m ks actuals) (zip fs us)) x) ≡ true
      go true q below a = subst (λ y. mentions y m ≡ true) (symbol_eq-true x f q) k
      go false q below a = below a

  -- no call changes a formal that isn't changed
  abbrev Same : List Term → Type 0
  Same c = (w : (x : Symbol) × (changes formals m ks x ≡ false)) → is_changed w.0 (zip formals c) ≡ false

  all_same : Each (λ k. Each Same k.calls) ks
  all_same = each_same ks (λ k h. each_all (λ (w : (x : Symbol) × (changes formals m ks x ≡ false)) c. is_changed w.0 (zip formals c) ≡ false) k.calls h)
      (each_all (λ (w : (x : Symbol) × (changes formals m ks x ≡ false)) k. Each (λ c. is_changed w.0 (zip formals c) ≡ false) k.calls) ks
      (λ w. each_same ks (λ k h. none_of (λ c. is_changed w.0 (zip formals c)) k.calls h) (none_of (λ k. any_true (map (λ c. is_changed w.0 (zip formals c)) k.calls)) ks w.1)))

  module _ (candidate : is_candidate formals m ks actuals ≡ true) (apart : is_distinct symbol_eq formals ≡ true) where
    parts : (nat_eq (length formals) (length actuals) ≡ true) × ((all_true (map (fits formals m ks leds) (zip formals actuals)) && is_distinct symbol_eq leds) ≡ true)
    parts = both (nat_eq (length formals) (length actuals)) (all_true (map (fits formals m ks leds) (zip formals actuals)) && is_distinct symbol_eq leds) candidate

    fitting : (all_true (map (fits formals m ks leds) (zip formals actuals)) ≡ true) × (is_distinct symbol_eq leds ≡ true)
    fitting = both (all_true (map (fits formals m ks leds) (zip formals actuals))) (is_distinct symbol_eq leds) parts.1

    as_many : length formals ≡ length actuals
    as_many = eqb-true (length formals) (length actuals) parts.0

    all_fit : Each (λ p. fits formals m ks leds p ≡ true) (zip formals actuals)
    all_fit = each_true (fits formals m ks leds) (zip formals actuals) fitting.0

    variables : Each (HasVariable formals m ks actuals) (zip formals actuals)
    variables = each_same (zip formals actuals) (has_variable formals m ks actuals leds) all_fit

    counted_all : (x : Symbol) → number formals m ks actuals x (zip formals actuals) ≡ whole formals m ks actuals x
    counted_all x = ap (λ us. count_true (map (occurs x) us)) (seconds formals actuals as_many)

    pub names_distinct : is_distinct symbol_eq names ≡ true
    names_distinct = distinct_names formals m ks actuals (zip formals actuals) variables fitting.1 (λ x. let q = counted_all x in omega arith)

    sources : (x : Symbol) → is_among symbol_eq x names ≡ true → (is_among symbol_eq x leds ≡ true) ⊎ (whole formals m ks actuals x ≡ 1)
    sources x h = (source formals m ks actuals (zip formals actuals) variables x h).0

    staying : Each Stays (zip formals actuals)
    staying = each_all (λ (w : (x : Symbol) × (is_among symbol_eq x names ≡ true) × (whole formals m ks actuals x ≡ 1)) p. IsStill p → occurs w.0 p.1 ≡ false) (zip formals actuals)
        (λ w. stays formals m ks actuals w.0 (zip formals actuals) variables (let q = counted_all w.0 in let r = w.2 in omega arith) w.1)

    all_rows : Each Row (zip formals actuals)
    all_rows = each_zip (HasVariable formals m ks actuals) (λ p. (fits formals m ks leds p ≡ true) × Stays p) Row (zip formals actuals) (λ p a b. (a, b.0, b.1)) variables
        (each_zip (λ p. fits formals m ks leds p ≡ true) Stays (λ p. (fits formals m ks leds p ≡ true) × Stays p) (zip formals actuals) (λ p a b. (a, b)) all_fit staying)

    pub call_good : (c : List Term) → length formals ≡ length c → Same c → GoodCall (places_of formals m ks actuals) c
    call_good c l same = record {
      as_many = length-map (zip formals actuals) (place_of formals m ks actuals) ∙ sym (length-map (zip formals actuals) (λ p. p.0)) ∙ ap length (firsts formals actuals as_many) ∙ l;
      places = rows sources formals actuals c all_rows (each_same (zip formals c) (λ p h k. h (same (p.0, k))) (unchanged formals c apart));
    }

    pub calls_good : (D : Defs) → Each (CaseKnown D (length formals)) ks → Each (λ k. Each (GoodCall (places_of formals m ks actuals)) k.calls) ks
    calls_good D hs = each_zip (CaseKnown D (length formals)) (λ k. Each Same k.calls) (λ k. Each (GoodCall (places_of formals m ks actuals)) k.calls) ks
        (λ k h s. each_zip (λ c. Each (λ u. known D u ≡ true) c × (length formals ≡ length c)) Same (GoodCall (places_of formals m ks actuals)) k.calls (λ c p q. call_good c p.1 q) h.1 s) hs all_same

    pub formals_kept : formals_of (places_of formals m ks actuals) ≡ formals
    formals_kept = formals_there formals actuals as_many

    pub measured : all_true (map (speaks_of formals) m) ≡ true → Each (λ u. Each (λ x. is_measured_at (places_of formals m ks actuals) x ≡ true) (vars_after u [])) m
    measured h = each_zip (λ u. speaks_of formals u ≡ true) (λ u. Each (λ x. mentions x m ≡ true) (vars_after u [])) (λ u. Each (λ x. is_measured_at (places_of formals m ks actuals) x ≡ true) (vars_after u [])) m
        (λ u s k. each_zip (λ x. is_among symbol_eq x formals ≡ true) (λ x. mentions x m ≡ true) (λ x. is_measured_at (places_of formals m ks actuals) x ≡ true) (vars_after u [])
        (λ x a b. measured_there x formals actuals as_many a b) (within_each (vars_after u []) formals s) k) (each_true (speaks_of formals) m h) (mentioned m)

-- what a sound world says of a recursive function
module _ (W : List Entry) (f : Symbol) (g : Function) (m : Measure) (sound : Sound W) (functions : HasFunctions (function_of W)) (here : function_of W f ≡ Some g) (no_prim : prim_of f ≡ None) (measure : g.measure ≡ Some m) where
  good : GoodFunction (function_of W) g × (g.name ≡ f)
  good = good_of W sound f g here

  found : function_of W g.name ≡ Some g
  found = subst (λ x. function_of W x ≡ Some g) (sym good.1) here

  prim_free : prim_of g.name ≡ None
  prim_free = ap prim_of good.1 ∙ no_prim

  recursive : IsRecursive (function_of W) g m.0
  recursive = subst (Recurs (function_of W) g) measure good.0.recursion

  cases : Each (CaseKnown (function_of W) (length g.formals)) g.cases
  cases = subst (Each (CaseKnown (function_of W) (length g.formals))) (sym recursive.cases)
      (cases_known (function_of W) (function_of W) g.name g (record { extends = extends_self (function_of W); only = λ x h. refl; here = found; no_prim = prim_free }) (nots (function_of W) functions) g.body good.0.body_known recursive.unnested)

  speaks : all_true (map (speaks_of g.formals) m.0) ≡ true
  speaks = sym (ap (λ o. all_true (map (speaks_of g.formals) (components o))) measure) ∙ good.0.measure_speaks

pub sound_induct : InductionIsSound
sound_induct W f g m sound functions here no_prim measure actuals candidate c c_known valid =
    let apart = (good W f g m sound functions here no_prim measure).0.formals in
    induct_row (function_of W) sound.total functions g (found W f g m sound functions here no_prim measure) (prim_free W f g m sound functions here no_prim measure)
    (good W f g m sound functions here no_prim measure).0.body_known m.0 (recursive W f g m sound functions here no_prim measure)
    (places_of g.formals m.0 g.cases actuals) (formals_kept g.formals m.0 g.cases actuals candidate apart) (names_distinct g.formals m.0 g.cases actuals candidate apart)
    (measured g.formals m.0 g.cases actuals candidate apart (speaks W f g m sound functions here no_prim measure))
    (calls_good g.formals m.0 g.cases actuals candidate apart (function_of W) (cases W f g m sound functions here no_prim measure)) c c_known valid

-- one of each list has what holds of all
choices_each : {A : Type 0} (P : A → Type 0) (xss : List (List A)) → Each (Each P) xss → Each (Each P) (choices xss)
choices_each P [] h = (tt, tt)
choices_each P (xs ∷ xss) h = joined_each (Each P) (λ x. map (λ ys. x ∷ ys) (choices xss)) xs
    (each_same xs (λ x px. map_each (Each P) (λ ys. x ∷ ys) (choices xss) (each_same (choices xss) (λ ys pys. (px, pys)) (choices_each P xss h.1))) h.0)

module _ (D : Defs) (not_known : (u : Term) → known D u ≡ true → known D (not_of u) ≡ true) where
  abbrev Known : Term → Type 0
  Known u = known D u ≡ true

  instance_known : (s : List (Symbol × Term)) → Each (λ p. Known p.1) s → (u : Term) → Known u → Known (negate (subst_of s u))
  instance_known s ss u k = known_negate D not_known (subst_of s u) (known_subst D s ss u k)

  moved_known : (s : List (Symbol × Term)) → Each (λ p. Known p.1) s → (ps : List Place) (cs : List Term) → Each Known cs → Each (λ p. Known p.1) (moved_at s ps cs)
  moved_known s ss [] cs ks = tt
  moved_known s ss (p ∷ ps) [] ks = tt
  moved_known s ss (p ∷ ps) (c ∷ cs) ks = go p.is_moved (moved_known s ss ps cs ks.1)
    where
      go : (b : Bool) → Each (λ p. Known p.1) (moved_at s ps cs) → Each (λ p. Known p.1) (cond b ((variable_of p.actual, subst_of s c) ∷ moved_at s ps cs) (moved_at s ps cs))
      go true h = (known_subst D s ss c ks.0, h)
      go false h = h

  pairs_known : (ps : List Place) → Each Known (actuals_of ps) → Each (λ p. Known p.1) (pairs_of ps)
  pairs_known [] h = tt
  pairs_known (p ∷ ps) h = (h.0, pairs_known ps h.1)

  pub induction_known : (n : ℕ) (ps : List Place) (ks : List Case) (c : List Term) → Each Known (actuals_of ps) → Each (CaseKnown D n) ks → Each Known c → Each (λ d. all_true (map (known D) d) ≡ true) (induction_at c ps ks)
  induction_known n ps ks c us hs cs = joined_each (λ d. all_true (map (known D) d) ≡ true) (case_clauses c (pairs_of ps) (moved_at (pairs_of ps) ps)) ks (each_same ks one hs)
    where
      s : List (Symbol × Term)
      s = pairs_of ps

      one : (k : Case) → CaseKnown D n k → Each (λ d. all_true (map (known D) d) ≡ true) (case_clauses c (pairs_of ps) (moved_at (pairs_of ps) ps) k)
      one k h =
          let negated = map_each (Each Known) (negated_at c (pairs_of ps) (moved_at (pairs_of ps) ps)) k.calls
          (each_same k.calls (λ call g. map_each Known (λ l. negate (subst_of (moved_at (pairs_of ps) ps call) l)) c
          (each_same c (instance_known (moved_at (pairs_of ps) ps call) (moved_known (pairs_of ps) (pairs_known ps us) ps call g.0)) cs)) h.1) in
          let tests = map_each Known (λ u. negate (subst_of (pairs_of ps) u)) k.tests (each_same k.tests (instance_known (pairs_of ps) (pairs_known ps us)) h.0) in
          map_each (λ d. all_true (map (known D) d) ≡ true) (with_choice c (pairs_of ps) (moved_at (pairs_of ps) ps) k) (choices (map (negated_at c (pairs_of ps) (moved_at (pairs_of ps) ps)) k.calls))
          (each_same (choices (map (negated_at c (pairs_of ps) (moved_at (pairs_of ps) ps)) k.calls))
          (λ ls ls_known. true_each (known D) (with_choice c (pairs_of ps) (moved_at (pairs_of ps) ps) k ls)
          (each_append Known (map (λ u. negate (subst_of (pairs_of ps) u)) k.tests) (ls ++ c) tests (each_append Known ls c ls_known cs)))
          (choices_each Known (map (negated_at c (pairs_of ps) (moved_at (pairs_of ps) ps)) k.calls) negated))

actuals_there : (formals : List Symbol) (m : List Term) (ks : List Case) (actuals : List Term) (fs : List Symbol) (us : List Term) → length fs ≡ length us → actuals_of (map (place_of formals m ks actuals) (zip fs us)) ≡ us
actuals_there formals m ks actuals [] [] l = refl
actuals_there formals m ks actuals [] (u ∷ us) l = absurd (omega arith)
actuals_there formals m ks actuals (f ∷ fs) [] l = absurd (omega arith)
actuals_there formals m ks actuals (f ∷ fs) (u ∷ us) l = ap (λ xs. u ∷ xs) (actuals_there formals m ks actuals fs us (omega arith))

pub known_induct : InductionIsKnown
known_induct W f g m sound functions here no_prim measure actuals us candidate c cs =
    let apart = (good W f g m sound functions here no_prim measure).0.formals in
    induction_known (function_of W) (nots (function_of W) functions) (length g.formals) (places_of g.formals m.0 g.cases actuals) g.cases c
    (subst (Each (λ u. known (function_of W) u ≡ true)) (sym (actuals_there g.formals m.0 g.cases actuals g.formals actuals (as_many g.formals m.0 g.cases actuals candidate apart))) (each_true (known (function_of W)) actuals us))
    (cases W f g m sound functions here no_prim measure) (each_true (known (function_of W)) c cs)
