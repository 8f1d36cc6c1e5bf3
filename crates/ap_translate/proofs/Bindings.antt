-- Variables and bindings, one after another.
use Rattle.std.proofs.Common.{◌≡◌, ℕ, ◌+◌, ◌≤◌, Bool, true, false, List, [], ◌∷◌, ◌++◌, length, drop, map, zip, Option, Some, None, Ok, Err, suc, refl, sym, ap, ◌∙◌, append_assoc}
use Rattle.std.proofs.lemmas.List.{append-nil, drop_all}
use Rattle.std.proofs.Math.ListN.{length-map}
use Rattle.ap_value.specs.declared.symbol.Symbol.{Symbol}
use Rattle.ap_term.specs.declared.term.Term.{Term}
use Rattle.ap_term.specs.Terms.{subst_of}
use Rattle.ap_reader.specs.declared.form.Form.{Form}
use Rattle.ap_world.specs.declared.entry.Entry.{Entry}
use Rattle.ap_translate.specs.declared.fault.TransKind.TheVariants as kinds
use Rattle.ap_translate.specs.declared.fault.TransError.{TransError}
use Rattle.ap_translate.specs.declared.fault.TransError.TheVariants as errors
use Rattle.ap_translate.specs.declared.scope.Bindings.{Bindings}
use Rattle.ap_translate.specs.Answers.{Answer, refused, ◌>>=◌, shaped, each, Fails}
use Rattle.ap_translate.specs.Parts.{symbol_in}
use Rattle.ap_translate.specs.Shapes.{Bind, binding_in, Scope}
use Rattle.ap_translate.specs.Sizes.{small, capped}
use Rattle.ap_translate.specs.Kept.{kept_bindings, each_small}
use Rattle.ap_translate.specs.Instances.{kept_either, kept_by}
use Rattle.ap_translate.specs.Table.{Bound, with_bound, variable, variables, bindings, scope_of, body_of, let_term, lambda_term, term_in, level}
use Rattle.ap_translate.proofs.Grown.{pairs_kept, body_kept}
use Rattle.ap_translate.proofs.Makings.{each_length}
use Rattle.ap_translate.proofs.Fails.{then_fails, fails_capped, same_fails}

-- variables before more of them
abbrev pub named_onto : List Symbol → Answer (List Symbol) → Answer (List Symbol)
named_onto xs (Ok vs) = Ok (xs ++ vs)
named_onto xs (Err e) = Err e

-- what is kept of terms before more of them
abbrev pub small_onto : List (Option Term) → Answer (List Term) → Answer (List (Option Term))
small_onto os (Ok us) = Ok (os ++ map small us)
small_onto os (Err e) = Err e

-- bindings before more of them
abbrev pub bound_onto : List Symbol → List (Option Term) → Answer (List (Symbol × Term)) → Answer Bindings
bound_onto xs os (Ok ss) = Ok (record { names = xs ++ map (λ s. s.0) ss; terms = os ++ map (λ s. small s.1) ss })
bound_onto xs os (Err e) = Err e

abbrev told_of : List Symbol → List (Option Term) → Answer Bindings
told_of xs os = Ok (record { names = xs; terms = os })

onto_fails : (e : TransError) (out : List Symbol) (r : Answer (List Symbol)) → Fails e r → Fails e (named_onto out r)
onto_fails errors.NoMemory out r h = tt
onto_fails (errors.Fault p k) out (Err q) h = cc
onto_fails (errors.Fault p k) out (Ok vs) h = absurd (no h)
  where
    no : Ok vs ≡ refused p k → ⊥
    no q = cc

bound_fails : (e : TransError) (xs : List Symbol) (os : List (Option Term)) (r : Answer (List (Symbol × Term))) → Fails e r → Fails e (bound_onto xs os r)
bound_fails errors.NoMemory xs os r h = tt
bound_fails (errors.Fault p k) xs os (Err q) h = cc
bound_fails (errors.Fault p k) xs os (Ok ss) h = absurd (no h)
  where
    no : Ok ss ≡ refused p k → ⊥
    no q = cc

small_fails : (e : TransError) (os : List (Option Term)) (r : Answer (List Term)) → Fails e r → Fails e (small_onto os r)
small_fails errors.NoMemory os r h = tt
small_fails (errors.Fault p k) os (Err q) h = cc
small_fails (errors.Fault p k) os (Ok us) h = absurd (no h)
  where
    no : Ok us ≡ refused p k → ⊥
    no q = cc

-- variables: one turn of the loop
name_step : (out : List Symbol) (v : Symbol) (q : Answer (List Symbol)) → named_onto (out ++ v ∷ []) q ≡ named_onto out (q >>= λ vs. Ok (v ∷ vs))
name_step out v (Ok vs) = ap Ok (append_assoc out (v ∷ []) vs)
name_step out v (Err e) = refl

module _ (p : ℕ) (fs : List Form) (i : ℕ) (f : Form) (out : List Symbol) (whole : Answer (List Symbol)) (here : drop i fs ≡ f ∷ drop (i + 1) fs)
    (told : named_onto out (variables p out (drop i fs)) ≡ whole) where
  by_name : (o : Option Symbol) → symbol_in f ≡ o
      → named_onto out (shaped p o (λ s. variable f.place out s >>= λ v. variables p (out ++ v ∷ []) (drop (i + 1) fs) >>= λ vs. Ok (v ∷ vs))) ≡ whole
  by_name o is =
      ap (λ o. named_onto out (shaped p o (λ s. variable f.place out s >>= λ v. variables p (out ++ v ∷ []) (drop (i + 1) fs) >>= λ vs. Ok (v ∷ vs)))) (sym is)
      ∙ ap (λ hs. named_onto out (variables p out hs)) (sym here) ∙ told

  name_next : (s v : Symbol) (after : List Symbol) → symbol_in f ≡ Some s → variable f.place out s ≡ Ok v → after ≡ out ++ v ∷ []
      → named_onto after (variables p after (drop (i + 1) fs)) ≡ whole
  name_next s v after is found same =
      ap (λ a. named_onto a (variables p a (drop (i + 1) fs))) same ∙ name_step out v (variables p (out ++ v ∷ []) (drop (i + 1) fs))
      ∙ ap (λ r. named_onto out (r >>= λ v. variables p (out ++ v ∷ []) (drop (i + 1) fs) >>= λ vs. Ok (v ∷ vs))) (sym found) ∙ by_name (Some s) is

  -- by the variable that the form is
  pub name_read : (v : Symbol) (after : List Symbol) → shaped p (symbol_in f) (variable f.place out) ≡ Ok v → after ≡ out ++ v ∷ []
      → named_onto after (variables p after (drop (i + 1) fs)) ≡ whole
  name_read v after found same = go (symbol_in f) refl found
    where
      go : (o : Option Symbol) → symbol_in f ≡ o → shaped p o (variable f.place out) ≡ Ok v → named_onto after (variables p after (drop (i + 1) fs)) ≡ whole
      go None is k = absurd (no k)
        where
          no : refused p kinds.BadForm ≡ Ok v → ⊥
          no q = cc
      go (Some s) is k = name_next s v after is k same

pub names_ended : (p : ℕ) (fs : List Form) (i : ℕ) (out : List Symbol) (whole : Answer (List Symbol)) → length fs ≤ i → named_onto out (variables p out (drop i fs)) ≡ whole → whole ≡ Ok out
names_ended p fs i out whole past told = sym (ap (λ hs. named_onto out (variables p out hs)) (sym (drop_all i fs past)) ∙ told) ∙ ap Ok (append-nil out)

pub names_begun : (r : Answer (List Symbol)) → named_onto [] r ≡ r
names_begun (Ok vs) = refl
names_begun (Err e) = refl

-- the terms of actuals, each by itself
small_step : (os : List (Option Term)) (r : Answer Term) (q : Answer (List Term)) (o : Option Term) → capped small r ≡ Ok o
    → small_onto (os ++ o ∷ []) q ≡ small_onto os (r >>= λ u. q >>= λ us. Ok (u ∷ us))
small_step os (Err e) q o k = absurd (no k)
  where
    no : Err e ≡ Ok o → ⊥
    no j = cc
small_step os (Ok u) (Err e) o k = refl
small_step os (Ok u) (Ok us) o k =
    let s : small u ≡ o = cc in
    ap Ok (append_assoc os (o ∷ []) (map small us) ∙ ap (λ x. os ++ x ∷ map small us) (sym s))

module _ (g : Form → Answer Term) (fs : List Form) (i : ℕ) (f : Form) (os : List (Option Term)) (whole : Answer (List (Option Term))) (here : drop i fs ≡ f ∷ drop (i + 1) fs)
    (told : small_onto os (each g (drop i fs)) ≡ whole) where
  pub small_next : (o : Option Term) (after : List (Option Term)) → capped small (g f) ≡ Ok o → after ≡ os ++ o ∷ [] → small_onto after (each g (drop (i + 1) fs)) ≡ whole
  small_next o after read same =
      ap (λ a. small_onto a (each g (drop (i + 1) fs))) same ∙ small_step os (g f) (each g (drop (i + 1) fs)) o read ∙ ap (λ hs. small_onto os (each g hs)) (sym here) ∙ told

  pub next_small_fails : (e : TransError) → Fails e (capped small (g f)) → Fails e whole
  next_small_fails e bad =
      same_fails e whole _ (sym (ap (λ hs. small_onto os (each g hs)) (sym here) ∙ told))
      (small_fails e os _ (then_fails e (g f) (λ u. each g (drop (i + 1) fs) >>= λ us. Ok (u ∷ us)) (fails_capped small e (g f) bad)))

pub smalls_ended : (g : Form → Answer Term) (fs : List Form) (i : ℕ) (os : List (Option Term)) (whole : Answer (List (Option Term))) → length fs ≤ i → small_onto os (each g (drop i fs)) ≡ whole
    → whole ≡ Ok os
smalls_ended g fs i os whole past told = sym (ap (λ hs. small_onto os (each g hs)) (sym (drop_all i fs past)) ∙ told) ∙ ap Ok (append-nil os)

pub smalls_begun : (r : Answer (List Term)) → small_onto [] r ≡ each_small r
smalls_begun (Ok us) = refl
smalls_begun (Err e) = refl

-- the bindings of a `let`
bound_step : (xs : List Symbol) (os : List (Option Term)) (v : Symbol) (r : Answer Term) (q : Answer (List (Symbol × Term))) (o : Option Term) → capped small r ≡ Ok o
    → bound_onto (xs ++ v ∷ []) (os ++ o ∷ []) q ≡ bound_onto xs os (r >>= λ u. q >>= λ ss. Ok ((v, u) ∷ ss))
bound_step xs os v (Err e) q o k = absurd (no k)
  where
    no : Err e ≡ Ok o → ⊥
    no j = cc
bound_step xs os v (Ok u) (Err e) o k = refl
bound_step xs os v (Ok u) (Ok ss) o k =
    let s : small u ≡ o = cc in
    let a = append_assoc xs (v ∷ []) (map (λ (s : Symbol × Term). s.0) ss) in
    let b = append_assoc os (o ∷ []) (map (λ (s : Symbol × Term). small s.1) ss) ∙ ap (λ x. os ++ x ∷ map (λ (s : Symbol × Term). small s.1) ss) (sym s) in
    both a b
  where
    both : {xs ys : List Symbol} {os ns : List (Option Term)} → xs ≡ ys → os ≡ ns → told_of xs os ≡ told_of ys ns
    both a b = cc

module _ (r : List Symbol → Form → Answer Term) (p : ℕ) (fs : List Form) (i : ℕ) (f : Form) (xs : List Symbol) (os : List (Option Term)) (whole : Answer Bindings)
    (here : drop i fs ≡ f ∷ drop (i + 1) fs) (told : bound_onto xs os (bindings r p xs (drop i fs)) ≡ whole) where
  by_binding : (o : Option Bind) → binding_in f ≡ o → bound_onto xs os (shaped p o (λ x. variable x.place xs x.name >>= λ v. r xs x.value >>= λ u. bindings r p (xs ++ v ∷ []) (drop (i + 1) fs) >>= λ ss. Ok ((v, u) ∷ ss))) ≡ whole
  by_binding o is = ap (λ o. bound_onto xs os (shaped p o (λ x. variable x.place xs x.name >>= λ v. r xs x.value >>= λ u. bindings r p (xs ++ v ∷ []) (drop (i + 1) fs) >>= λ ss. Ok ((v, u) ∷ ss)))) (sym is) ∙ ap (λ hs. bound_onto xs os (bindings r p xs hs)) (sym here) ∙ told

  pub bound_next : (x : Bind) (v : Symbol) (o : Option Term) (names : List Symbol) (terms : List (Option Term)) → binding_in f ≡ Some x → variable x.place xs x.name ≡ Ok v
      → capped small (r xs x.value) ≡ Ok o → names ≡ xs ++ v ∷ [] → terms ≡ os ++ o ∷ [] → bound_onto names terms (bindings r p names (drop (i + 1) fs)) ≡ whole
  bound_next x v o names terms is found read n t =
      ap (λ a. bound_onto a terms (bindings r p a (drop (i + 1) fs))) n ∙ ap (λ a. bound_onto (xs ++ v ∷ []) a (bindings r p (xs ++ v ∷ []) (drop (i + 1) fs))) t
      ∙ bound_step xs os v (r xs x.value) (bindings r p (xs ++ v ∷ []) (drop (i + 1) fs)) o read
      ∙ ap (λ q. bound_onto xs os (q >>= λ v. r xs x.value >>= λ u. bindings r p (xs ++ v ∷ []) (drop (i + 1) fs) >>= λ ss. Ok ((v, u) ∷ ss))) (sym found) ∙ by_binding (Some x) is

  pub variable_fails : (x : Bind) (e : TransError) → binding_in f ≡ Some x → Fails e (variable x.place xs x.name) → Fails e whole
  variable_fails x e is bad =
      same_fails e whole _ (sym (by_binding (Some x) is))
      (bound_fails e xs os _ (then_fails e (variable x.place xs x.name) (λ v. r xs x.value >>= λ u. bindings r p (xs ++ v ∷ []) (drop (i + 1) fs) >>= λ ss. Ok ((v, u) ∷ ss)) bad))

  pub term_fails : (x : Bind) (v : Symbol) (e : TransError) → binding_in f ≡ Some x → variable x.place xs x.name ≡ Ok v → Fails e (capped small (r xs x.value)) → Fails e whole
  term_fails x v e is found bad =
      same_fails e whole _
      (sym (ap (λ q. bound_onto xs os (q >>= λ v. r xs x.value >>= λ u. bindings r p (xs ++ v ∷ []) (drop (i + 1) fs) >>= λ ss. Ok ((v, u) ∷ ss))) (sym found) ∙ by_binding (Some x) is))
      (bound_fails e xs os _ (then_fails e (r xs x.value) (λ u. bindings r p (xs ++ v ∷ []) (drop (i + 1) fs) >>= λ ss. Ok ((v, u) ∷ ss)) (fails_capped small e (r xs x.value) bad)))

  pub no_binding : binding_in f ≡ None → whole ≡ refused p kinds.BadForm
  no_binding is = sym (by_binding None is)

pub bound_ended : (r : List Symbol → Form → Answer Term) (p : ℕ) (fs : List Form) (i : ℕ) (xs : List Symbol) (os : List (Option Term)) (whole : Answer Bindings) → length fs ≤ i
    → bound_onto xs os (bindings r p xs (drop i fs)) ≡ whole → whole ≡ Ok (record { names = xs; terms = os })
bound_ended r p fs i xs os whole past told =
    sym (ap (λ hs. bound_onto xs os (bindings r p xs hs)) (sym (drop_all i fs past)) ∙ told)
    ∙ both (append-nil xs) (append-nil os)
  where
    both : {xs ys : List Symbol} {os ns : List (Option Term)} → xs ≡ ys → os ≡ ns → told_of xs os ≡ told_of ys ns
    both a b = cc

pub bound_begun : (r : Answer (List (Symbol × Term))) → bound_onto [] [] r ≡ kept_bindings r
bound_begun (Ok ss) = refl
bound_begun (Err e) = refl

-- the scope of a `let*` with one variable more
pub wider_scope : (in_turn : Bool) (b : Bound) (xs : List Symbol) (v : Symbol) → scope_of in_turn (scope_of in_turn b xs) (v ∷ []) ≡ scope_of in_turn b (xs ++ v ∷ [])
wider_scope false b xs v = refl
wider_scope true None xs v = refl
wider_scope true (Some bs) xs v = ap Some (append_assoc bs xs (v ∷ []))

-- as many terms as variables
pub kept_lengths : (r : Answer (List (Symbol × Term))) (x : Bindings) → kept_bindings r ≡ Ok x → length x.names ≡ length x.terms
kept_lengths (Err e) x h = absurd (no h)
  where
    no : Err e ≡ Ok x → ⊥
    no q = cc
kept_lengths (Ok ss) x h = sym (ap (λ y. length y.names) same) ∙ length-map ss (λ s. s.0) ∙ sym (length-map ss (λ s. small s.1)) ∙ ap (λ y. length y.terms) same
  where
    same : record { names = map (λ s. s.0) ss; terms = map (λ s. small s.1) ss } ≡ x
    same = cc

pub named_length : (p : ℕ) (before : List Symbol) (fs : List Form) (vs : List Symbol) → variables p before fs ≡ Ok vs → length vs ≡ length fs
named_length p before [] vs h = ap length same
  where
    same : vs ≡ []
    same = cc
named_length p before (f ∷ fs) vs h = by_name (symbol_in f) h (λ xs us k. named_length p xs fs us k)
  where
    behind : (v : Symbol) (r : Answer (List Symbol)) → (r >>= λ us. Ok (v ∷ us)) ≡ Ok vs → ((us : List Symbol) → r ≡ Ok us → length us ≡ length fs) → length vs ≡ suc (length fs)
    behind v (Err e) k l = absurd (no k)
      where
        no : Err e ≡ Ok vs → ⊥
        no q = cc
    behind v (Ok us) k l =
        let same : v ∷ us ≡ vs = cc in
        sym (ap length same) ∙ ap suc (l us refl)

    by_variable : (r : Answer Symbol) → (r >>= λ v. variables p (before ++ v ∷ []) fs >>= λ us. Ok (v ∷ us)) ≡ Ok vs
        → ((xs us : List Symbol) → variables p xs fs ≡ Ok us → length us ≡ length fs) → length vs ≡ suc (length fs)
    by_variable (Err e) k l = absurd (no k)
      where
        no : Err e ≡ Ok vs → ⊥
        no q = cc
    by_variable (Ok v) k l = behind v (variables p (before ++ v ∷ []) fs) k (λ us. l (before ++ v ∷ []) us)

    by_name : (o : Option Symbol) → shaped p o (λ s. variable f.place before s >>= λ v. variables p (before ++ v ∷ []) fs >>= λ us. Ok (v ∷ us)) ≡ Ok vs
        → ((xs us : List Symbol) → variables p xs fs ≡ Ok us → length us ≡ length fs) → length vs ≡ suc (length fs)
    by_name None k l = absurd (no k)
      where
        no : refused p kinds.BadForm ≡ Ok vs → ⊥
        no q = cc
    by_name (Some s) k l = by_variable (variable f.place before s) k l

pub small_length : (g : Form → Answer Term) (fs : List Form) (os : List (Option Term)) → each_small (each g fs) ≡ Ok os → length os ≡ length fs
small_length g fs os h = go (each g fs) refl h
  where
    go : (r : Answer (List Term)) → each g fs ≡ r → each_small r ≡ Ok os → length os ≡ length fs
    go (Err e) q k = absurd (no k)
      where
        no : Err e ≡ Ok os → ⊥
        no j = cc
    go (Ok us) q k =
        let same : map small us ≡ os = cc in
        sym (ap length same) ∙ length-map us small ∙ each_length g fs us q

-- the body with its variables replaced
pub lambda_made : (W : List Entry) (n : ℕ) (b : Bound) (p : ℕ) (x : Scope) (fs : List Form) (names : List Symbol) (inner : Bound) (o : Option Term) (ts : List (Option Term)) (found : Option Term)
    → variables p [] x.heads ≡ Ok names → inner ≡ with_bound b names → capped small (term_in W n inner x.body) ≡ Ok o → each_small (each (term_in W n b) fs) ≡ Ok ts
    → found ≡ kept_by (kept_either false (zip names ts)) o → capped small (lambda_term (level W n) b p x fs) ≡ Ok found
lambda_made W n b p x fs names inner o ts found named scope read all same =
    ap (λ r. capped small (r >>= λ vs. term_in W n (with_bound b vs) x.body >>= λ u. each (term_in W n b) fs >>= λ us. Ok (subst_of (zip vs us) u))) named
    ∙ ap (λ y. capped small (term_in W n y x.body >>= λ u. each (term_in W n b) fs >>= λ us. Ok (subst_of (zip names us) u))) (sym scope)
    ∙ go (term_in W n inner x.body) (each (term_in W n b) fs) read all
  where
    go : (r : Answer Term) (q : Answer (List Term)) → capped small r ≡ Ok o → each_small q ≡ Ok ts → capped small (r >>= λ u. q >>= λ us. Ok (subst_of (zip names us) u)) ≡ Ok found
    go (Err e) q k l = absurd (no k)
      where
        no : Err e ≡ Ok o → ⊥
        no j = cc
    go (Ok u) (Err e) k l = absurd (no l)
      where
        no : Err e ≡ Ok ts → ⊥
        no j = cc
    go (Ok u) (Ok us) k l =
        let a : small u ≡ o = cc in
        let c : map small us ≡ ts = cc in
        ap Ok (sym (body_kept false names us u) ∙ ap (λ y. kept_by (kept_either false (zip names (map small us))) y) a ∙ ap (λ y. kept_by (kept_either false (zip names y)) o) c ∙ sym same)

pub let_made : (W : List Entry) (n : ℕ) (b : Bound) (p : ℕ) (in_turn : Bool) (x : Scope) (y : Bindings) (inner : Bound) (o found : Option Term)
    → kept_bindings (bindings (λ before. term_in W n (scope_of in_turn b before)) p [] x.heads) ≡ Ok y → inner ≡ with_bound b y.names
    → capped small (term_in W n inner x.body) ≡ Ok o → found ≡ kept_by (kept_either in_turn (zip y.names y.terms)) o → capped small (let_term in_turn (level W n) b p x) ≡ Ok found
let_made W n b p in_turn x y inner o found bound scope read same = go (bindings (λ before. term_in W n (scope_of in_turn b before)) p [] x.heads) bound
  where
    body : (ss : List (Symbol × Term)) → map (λ s. s.0) ss ≡ y.names → map (λ s. small s.1) ss ≡ y.terms → (r : Answer Term) → capped small r ≡ Ok o
        → capped small (r >>= λ u. Ok (body_of in_turn ss u)) ≡ Ok found
    body ss h k (Err e) l = absurd (no l)
      where
        no : Err e ≡ Ok o → ⊥
        no j = cc
    body ss h k (Ok u) l =
        let a : small u ≡ o = cc in
        ap Ok (sym (pairs_kept in_turn ss u) ∙ ap (λ z. kept_by (kept_either in_turn (zip (map (λ s. s.0) ss) (map (λ s. small s.1) ss))) z) a
        ∙ ap (λ z. kept_by (kept_either in_turn (zip z (map (λ s. small s.1) ss))) o) h ∙ ap (λ z. kept_by (kept_either in_turn (zip y.names z)) o) k ∙ sym same)

    go : (r : Answer (List (Symbol × Term))) → kept_bindings r ≡ Ok y → capped small (r >>= λ ss. term_in W n (with_bound b (map (λ s. s.0) ss)) x.body >>= λ u. Ok (body_of in_turn ss u)) ≡ Ok found
    go (Err e) k = absurd (no k)
      where
        no : Err e ≡ Ok y → ⊥
        no j = cc
    go (Ok ss) k =
        let whole : record { names = map (λ s. s.0) ss; terms = map (λ s. small s.1) ss } ≡ y = cc in
        let h : map (λ s. s.0) ss ≡ y.names = ap (λ z. z.names) whole in
        let l : map (λ s. small s.1) ss ≡ y.terms = ap (λ z. z.terms) whole in
        ap (λ z. capped small (term_in W n (with_bound b z) x.body >>= λ u. Ok (body_of in_turn ss u))) h
        ∙ ap (λ z. capped small (term_in W n z x.body >>= λ u. Ok (body_of in_turn ss u))) (sym scope)
        ∙ body ss h l (term_in W n inner x.body) read
