-- The places of a candidate are good for each call.
use Rattle.std.proofs.Common.{◌≡◌, ℕ, ◌+◌, ◌≤◌, nat_eq, Bool, true, false, cond, not, ◌&&◌, ◌||◌, List, [], ◌∷◌, map, zip, ◌⊎◌, inl, inr, refl, sym, ap, ◌∙◌, subst, eqb-true, true≢false, arith}
use Rattle.ap_list.specs.Lists.{Each, is_among, is_distinct}
use Rattle.ap_value.specs.declared.symbol.Symbol.{Symbol}
use Rattle.ap_value.specs.Values.{symbol_eq}
use Rattle.ap_value.proofs.Equals.{both, and_true, symbol_eq-true, symbol_eq-same}
use Rattle.ap_term.specs.declared.term.Term.{Term, Var}
use Rattle.ap_term.specs.Equal.{term_eq}
use Rattle.ap_term.proofs.Equals.{term_eq-true}
use Rattle.ap_term.proofs.Induction.{term_ind}
use Rattle.ap_world.specs.declared.entry.Case.{Case}
use Rattle.ap_world.specs.Recursion.{mentions, is_changed}
use Rattle.ap_world.proofs.Knowing.{each_same}
use Rattle.ap_world.proofs.Written.{out_var, out_quote, out_call}
use Rattle.ap_world.proofs.Places.{neither}
use Rattle.ap_kernel.specs.Induction.{variable_in, variable_of, is_variable_in, is_variable, moved_names, any_true, count_true, occurs, is_apart, changes, is_led, led_names, follows, place_of, fits}
use Rattle.ap_kernel.proofs.Moving.{not_true, each_differs}
use Rattle.ap_kernel.proofs.PartsSwapped.{occurs_self}

no : {P : Type 0} → true ≡ false → P
no h = absurd (true≢false h)

-- a fact of each element for every x
pub each_all : {X A : Type 0} (P : X → A → Type 0) (rs : List A) → ((x : X) → Each (P x) rs) → Each (λ r. (x : X) → P x r) rs
each_all P [] h = tt
each_all P (r ∷ rs) h = (λ x. (h x).0, each_all P rs (λ x. (h x).1))

pub or_left : (a b : Bool) → a ≡ true → (a || b) ≡ true
or_left true b h = refl
or_left false b h = cc

pub or_right : (a b : Bool) → b ≡ true → (a || b) ≡ true
or_right true b h = refl
or_right false b h = h

-- a variable is the term of its name
pub variable_is : (u : Term) → is_variable u ≡ true → Var (variable_of u) ≡ u
variable_is = term_ind (λ u. is_variable u ≡ true → Var (variable_of u) ≡ u)
    (λ x h. ap Var (ap variable_in (out_var x)))
    (λ v h. no (sym h ∙ ap is_variable_in (out_quote v)))
    (λ f ts es h. no (sym h ∙ ap is_variable_in (out_call f ts)))

-- and occurs in itself
pub occurs_variable : (x : Symbol) (u : Term) → is_variable u ≡ true → symbol_eq x (variable_of u) ≡ true → occurs x u ≡ true
occurs_variable x u h is = subst (λ w. occurs x w ≡ true) (variable_is u h) (subst (λ v. occurs x (Var v) ≡ true) (symbol_eq-true x (variable_of u) is) (occurs_self x))

-- each of the symbols is among them
pub each_among : (xs : List Symbol) → Each (λ x. is_among symbol_eq x xs ≡ true) xs
each_among [] = tt
each_among (x ∷ xs) = (or_left (symbol_eq x x) (is_among symbol_eq x xs) (symbol_eq-same x), each_same xs (λ y h. or_right (symbol_eq y x) (is_among symbol_eq y xs) h) (each_among xs))

some_false : (bs : List Bool) → any_true bs ≡ false → Each (λ b. b ≡ false) bs
some_false [] h = tt
some_false (b ∷ bs) h = let p = neither b (any_true bs) h in (p.0, some_false bs p.1)

pub none_of : {A : Type 0} (t : A → Bool) (xs : List A) → any_true (map t xs) ≡ false → Each (λ x. t x ≡ false) xs
none_of t [] h = tt
none_of t (x ∷ xs) h = let p = neither (t x) (any_true (map t xs)) h in (p.0, none_of t xs p.1)

-- an argument in the place of an unchanged formal is the formal
pub unchanged : (fs : List Symbol) (cs : List Term) → is_distinct symbol_eq fs ≡ true → Each (λ p. is_changed p.0 (zip fs cs) ≡ false → p.1 ≡ Var p.0) (zip fs cs)
unchanged [] cs d = tt
unchanged (f ∷ fs) [] d = tt
unchanged (f ∷ fs) (c ∷ cs) d =
    let p = both (not (is_among symbol_eq f fs)) (is_distinct symbol_eq fs) d in
    (first, rest fs cs (each_differs f fs (not_true _ p.0)) (unchanged fs cs p.1))
  where
    same : (b : Bool) → term_eq c (Var f) ≡ b → not b ≡ false → c ≡ Var f
    same true q h = term_eq-true c (Var f) q
    same false q h = no h

    first : cond (symbol_eq f f) (not (term_eq c (Var f))) (is_changed f (zip fs cs)) ≡ false → c ≡ Var f
    first h = same (term_eq c (Var f)) refl (sym (ap (λ b. cond b (not (term_eq c (Var f))) (is_changed f (zip fs cs))) (symbol_eq-same f)) ∙ h)

    rest : (gs : List Symbol) (ds : List Term) → Each (λ x. symbol_eq x f ≡ false) gs → Each (λ p. is_changed p.0 (zip fs cs) ≡ false → p.1 ≡ Var p.0) (zip gs ds)
        → Each (λ p. cond (symbol_eq p.0 f) (not (term_eq c (Var p.0))) (is_changed p.0 (zip fs cs)) ≡ false → p.1 ≡ Var p.0) (zip gs ds)
    rest [] ds os hs = tt
    rest (g ∷ gs) [] os hs = tt
    rest (g ∷ gs) (d ∷ ds) os hs =
        (λ h. hs.0 (sym (ap (λ b. cond b (not (term_eq c (Var g))) (is_changed g (zip fs cs))) os.0) ∙ h), rest gs ds os.1 hs.1)

module _ (formals : List Symbol) (m : List Term) (ks : List Case) (actuals : List Term) where
  abbrev pub Pair : Type 0
  Pair = Symbol × Term

  abbrev pub Led : Pair → Bool
  Led p = is_led formals m ks p.0

  abbrev pub Follows : Pair → Bool
  Follows p = follows formals m ks actuals p

  -- the variables that are replaced at these pairs, those of the led among them, and the number of actuals in which a variable stands
  abbrev pub names_at : List Pair → List Symbol
  names_at ps = moved_names (map (place_of formals m ks actuals) ps)

  abbrev pub led_at : List Pair → List Symbol
  led_at ps = led_names formals m ks ps

  abbrev pub number : Symbol → List Pair → ℕ
  number x ps = count_true (map (occurs x) (map (λ p. p.1) ps))

  abbrev pub whole : Symbol → ℕ
  whole x = count_true (map (occurs x) actuals)

  -- what is replaced is a variable
  abbrev pub HasVariable : Pair → Type 0
  HasVariable p = (Led p || Follows p) ≡ true → is_variable p.1 ≡ true

  follower : (p : Pair) → Follows p ≡ true → (is_variable p.1 ≡ true) × (whole (variable_of p.1) ≡ 1)
  follower p h =
      let q = both (changes formals m ks p.0) (is_variable p.1 && nat_eq (whole (variable_of p.1)) 1) h in
      let r = both (is_variable p.1) (nat_eq (whole (variable_of p.1)) 1) q.1 in
      (r.0, eqb-true (whole (variable_of p.1)) 1 r.1)

  pub has_variable : (names : List Symbol) (p : Pair) → fits formals m ks names p ≡ true → HasVariable p
  has_variable names p h = go (Led p) (Follows p) refl h
    where
      go : (b e : Bool) → Follows p ≡ e → cond b (is_variable p.1) (not (mentions p.0 m) || is_apart names p.1) ≡ true → (b || e) ≡ true → is_variable p.1 ≡ true
      go true e q k l = k
      go false e q k l = (follower p (q ∙ l)).0

  counted : (x : Symbol) (p : Pair) (ps : List Pair) (b : Bool) → occurs x p.1 ≡ b → number x (p ∷ ps) ≡ cond b 1 0 + number x ps
  counted x p ps b h = ap (λ b. cond b 1 0 + number x ps) h

  -- a variable that is replaced is that of a led formal or stands in one actual alone, and it stands in one
  abbrev pub Source : Symbol → List Symbol → List Pair → Type 0
  Source x leds ps = ((is_among symbol_eq x leds ≡ true) ⊎ (whole x ≡ 1)) × (1 ≤ number x ps)

  pub source : (ps : List Pair) → Each HasVariable ps → (x : Symbol) → is_among symbol_eq x (names_at ps) ≡ true → Source x (led_at ps) ps
  source [] vs x h = no (sym h)
  source (p ∷ ps) vs x h = go (Led p) (Follows p) refl refl (source ps vs.1 x) h
    where
      w : Symbol
      w = variable_of p.1

      later : (leds : List Symbol) → (is_among symbol_eq x (led_at ps) ≡ true → is_among symbol_eq x leds ≡ true) → Source x (led_at ps) ps → Source x leds (p ∷ ps)
      later leds k (inl a, n) = (inl (k a), omega arith)
      later leds k (inr a, n) = (inr a, omega arith)

      stands : is_variable p.1 ≡ true → symbol_eq x (variable_of p.1) ≡ true → 1 ≤ number x (p ∷ ps)
      stands v is = let q = counted x p ps true (occurs_variable x p.1 v is) in omega arith

      step : (b e : Bool) → Led p ≡ b → Follows p ≡ e → (b || e) ≡ true → (is_among symbol_eq x (names_at ps) ≡ true → Source x (led_at ps) ps) → (t : Bool) → symbol_eq x (variable_of p.1) ≡ t
          → (t || is_among symbol_eq x (names_at ps)) ≡ true → Source x (cond b (variable_of p.1 ∷ led_at ps) (led_at ps)) (p ∷ ps)
      step true e q r l below true is k = (inl (or_left (symbol_eq x (variable_of p.1)) (is_among symbol_eq x (led_at ps)) is), stands (vs.0 (or_left (Led p) (Follows p) q)) is)
      step false e q r l below true is k =
          let f = follower p (r ∙ l) in
          (inr (ap whole (symbol_eq-true x (variable_of p.1) is) ∙ f.1), stands f.0 is)
      step true e q r l below false is k = later (variable_of p.1 ∷ led_at ps) (or_right (symbol_eq x (variable_of p.1)) (is_among symbol_eq x (led_at ps))) (below k)
      step false e q r l below false is k = later (led_at ps) (λ a. a) (below k)

      go : (b e : Bool) → Led p ≡ b → Follows p ≡ e → (is_among symbol_eq x (names_at ps) ≡ true → Source x (led_at ps) ps)
          → is_among symbol_eq x (cond (b || e) (variable_of p.1 ∷ names_at ps) (names_at ps)) ≡ true → Source x (cond b (variable_of p.1 ∷ led_at ps) (led_at ps)) (p ∷ ps)
      go true e q r below k = step true e q r refl below (symbol_eq x (variable_of p.1)) refl k
      go false true q r below k = step false true q r refl below (symbol_eq x (variable_of p.1)) refl k
      go false false q r below k = later (led_at ps) (λ a. a) (below k)

  -- so the replaced variables are distinct
  pub distinct_names : (ps : List Pair) → Each HasVariable ps → is_distinct symbol_eq (led_at ps) ≡ true → ((x : Symbol) → number x ps ≤ whole x) → is_distinct symbol_eq (names_at ps) ≡ true
  distinct_names [] vs d most = refl
  distinct_names (p ∷ ps) vs d most = go (Led p) (Follows p) refl refl d (λ d. distinct_names ps vs.1 d (λ x. let n = most x in omega arith))
    where
      two : is_variable p.1 ≡ true → 1 ≤ number (variable_of p.1) ps → whole (variable_of p.1) ≡ 1 → ⊥
      two v n one =
          let q = counted (variable_of p.1) p ps true (occurs_variable (variable_of p.1) p.1 v (symbol_eq-same (variable_of p.1))) in
          let k = most (variable_of p.1) in
          omega arith

      fresh : (b : Bool) → (b ≡ true → is_among symbol_eq (variable_of p.1) (led_at ps) ≡ false) → (b ≡ false → whole (variable_of p.1) ≡ 1) → is_variable p.1 ≡ true → (t : Bool) → is_among symbol_eq (variable_of p.1) (names_at ps) ≡ t → not t ≡ true
      fresh b led follow v false q = refl
      fresh b led follow v true q = absurd (at b led follow (source ps vs.1 (variable_of p.1) q))
        where
          at : (b : Bool) → (b ≡ true → is_among symbol_eq (variable_of p.1) (led_at ps) ≡ false) → (b ≡ false → whole (variable_of p.1) ≡ 1) → Source (variable_of p.1) (led_at ps) ps → ⊥
          at true led follow (inl a, n) = true≢false (sym a ∙ led refl)
          at true led follow (inr a, n) = two v n a
          at false led follow (k, n) = two v n (follow refl)

      go : (b e : Bool) → Led p ≡ b → Follows p ≡ e → is_distinct symbol_eq (cond b (variable_of p.1 ∷ led_at ps) (led_at ps)) ≡ true → (is_distinct symbol_eq (led_at ps) ≡ true → is_distinct symbol_eq (names_at ps) ≡ true)
          → is_distinct symbol_eq (cond (b || e) (variable_of p.1 ∷ names_at ps) (names_at ps)) ≡ true
      go true e q r d below =
          let a = both (not (is_among symbol_eq (variable_of p.1) (led_at ps))) (is_distinct symbol_eq (led_at ps)) d in
          and_true _ _ (fresh true (λ h. not_true _ a.0) (λ h. no h) (vs.0 (or_left (Led p) (Follows p) q)) (is_among symbol_eq (variable_of p.1) (names_at ps)) refl) (below a.1)
      go false true q r d below =
          and_true _ _ (fresh false (λ h. no (sym h)) (λ h. (follower p r).1) (follower p r).0 (is_among symbol_eq (variable_of p.1) (names_at ps)) refl) (below d)
      go false false q r d below = below d

  -- where a replaced variable stands in one actual alone, it stands in none that stays
  nowhere : (x : Symbol) (ps : List Pair) → number x ps ≤ 0 → Each (λ p. occurs x p.1 ≡ false) ps
  nowhere x [] n = tt
  nowhere x (p ∷ ps) n = (go (occurs x p.1) refl, nowhere x ps (omega arith))
    where
      go : (b : Bool) → occurs x p.1 ≡ b → b ≡ false
      go false q = refl
      go true q = let c = counted x p ps true q in absurd (omega arith)

  pub stays : (x : Symbol) (ps : List Pair) → Each HasVariable ps → number x ps ≤ 1 → is_among symbol_eq x (names_at ps) ≡ true → Each (λ p. (Led p || Follows p) ≡ false → occurs x p.1 ≡ false) ps
  stays x [] vs n h = tt
  stays x (p ∷ ps) vs n h = go (Led p || Follows p) refl (stays x ps vs.1 (omega arith)) h
    where
      Goal : Bool → Type 0
      Goal b = (b ≡ false → occurs x p.1 ≡ false) × Each (λ p. (Led p || Follows p) ≡ false → occurs x p.1 ≡ false) ps

      moved : is_variable p.1 ≡ true → (is_among symbol_eq x (names_at ps) ≡ true → Each (λ p. (Led p || Follows p) ≡ false → occurs x p.1 ≡ false) ps)
          → (t : Bool) → symbol_eq x (variable_of p.1) ≡ t → (t || is_among symbol_eq x (names_at ps)) ≡ true → Each (λ p. (Led p || Follows p) ≡ false → occurs x p.1 ≡ false) ps
      moved v below true is k =
          let c = counted x p ps true (occurs_variable x p.1 v is) in
          each_same ps (λ q o l. o) (nowhere x ps (omega arith))
      moved v below false is k = below k

      absent : is_among symbol_eq x (names_at ps) ≡ true → (t : Bool) → occurs x p.1 ≡ t → t ≡ false
      absent k false q = refl
      absent k true q = let c = counted x p ps true q in let s = (source ps vs.1 x k).1 in absurd (omega arith)

      go : (b : Bool) → (Led p || Follows p) ≡ b → (is_among symbol_eq x (names_at ps) ≡ true → Each (λ p. (Led p || Follows p) ≡ false → occurs x p.1 ≡ false) ps)
          → is_among symbol_eq x (cond b (variable_of p.1 ∷ names_at ps) (names_at ps)) ≡ true → (b ≡ false → occurs x p.1 ≡ false) × Each (λ p. (Led p || Follows p) ≡ false → occurs x p.1 ≡ false) ps
      go true q below k = (λ h. no h, moved (vs.0 q) below (symbol_eq x (variable_of p.1)) refl k)
      go false q below k = (λ h. absent k (occurs x p.1) refl, below k)
