-- Equations that lead on, to what they lead.
use Rattle.std.proofs.Common.{◌≡◌, Bool, true, false, cond, ◌&&◌, true≢false, [], ◌∷◌, Option, Some, None, refl, ap, sym, ◌∙◌, subst}
use Rattle.ap_list.specs.Lists.{lookup_by}
use Rattle.ap_value.specs.declared.value.Value.{Value, roll-Value, out-Value, fold-roll-Value, roll-out-Value}
use Rattle.ap_value.specs.declared.value.Value.TheOpen.{Value-F}
use Rattle.ap_value.specs.Values.{V, cons, val_step, val_of, value_eq}
use Rattle.ap_value.proofs.Equals.{value_eq-true, value_eq-same}
use Rattle.ap_term.specs.declared.term.Term.{Term, Quote}
use Rattle.ap_term.specs.Equal.{term_eq}
use Rattle.ap_term.proofs.Equals.{term_eq-true}
use Rattle.ap_world.specs.Names.{equal_name, cons_name}
use Rattle.ap_world.specs.Primitives.{nil, truth}
use Rattle.ap_world.specs.Meaning.{Env, Defs, Total, FactHolds}
use Rattle.ap_world.specs.Sound.{known}
use Rattle.ap_world.specs.Recursion.{nil_constant, t_constant}
use Rattle.ap_world.specs.Facts.{Facts, KnownFacts, FactsHold}
use Rattle.ap_world.specs.Shapes.{Shape, constant, equation, pair, shape_of}
use Rattle.ap_world.proofs.Knowing.{known_by, known_quote, known_args, each_true, true_each}
use Rattle.ap_world.proofs.TotalMeaning.{Apply, Models, models, val, val_quote}
use Rattle.ap_world.proofs.Equations.{val_if, val_equal, val_cons, val_nil_constant, val_t_constant, t-not_nil, t_isnt_nil, prim_of_equal}
use Rattle.ap_world.proofs.Shaped.{Says, shape_says}
use Rattle.ap_world.proofs.Assumed.{Signed, fact_says}
use Rattle.ap_kernel.specs.declared.objects.Ctx.{Ctx}
use Rattle.ap_kernel.specs.Standing.{Holds}
use Rattle.ap_kernel.specs.Equations.{equal_of, truth_constant, constant_parts, parts_by, cons_parts, apart, both_apart, by_sign, sides_lead, shape_leads, equation_leads, equation_made}
use Rattle.ap_kernel.proofs.Standing.{stand}
use Rattle.ap_kernel.proofs.CallsStand.{known_if}

pub value_eq-turned : (v w : V) → value_eq v w ≡ value_eq w v
value_eq-turned v w = go (value_eq v w) refl (value_eq w v) refl
  where
    no : (x y : V) → value_eq x y ≡ true → value_eq y x ≡ false → ⊥
    no x y p q = true≢false (sym (subst (λ z. value_eq z x ≡ true) (value_eq-true x y p) (value_eq-same x)) ∙ q)

    go : (a : Bool) → value_eq v w ≡ a → (b : Bool) → value_eq w v ≡ b → a ≡ b
    go true p true q = refl
    go false p false q = refl
    go true p false q = absurd (no v w p q)
    go false p true q = absurd (no w v q p)

-- the sign of a truth is the truth
signed_truth : (s b : Bool) → Signed s (truth b) → truth b ≡ truth s
signed_truth true true h = refl
signed_truth true false h = absurd (h refl)
signed_truth false true h = absurd (t_isnt_nil h)
signed_truth false false h = refl

-- both tests, one after the other
both_truths : (x y : Bool) → truth (x && y) ≡ cond (value_eq (truth x) nil) nil (truth y)
both_truths true y = sym (ap (λ b. cond b nil (truth y)) t-not_nil)
both_truths false y = sym (ap (λ b. cond b nil (truth y)) (value_eq-same nil))

cons_truth : (a b c d : V) → truth (value_eq (cons a b) (cons c d)) ≡ cond (value_eq (truth (value_eq a c)) nil) nil (truth (value_eq b d))
unfolding value_eq
cons_truth a b c d = both_truths (value_eq a c) (value_eq b d)

pub val_truth_constant : (A : Apply) (s : Bool) (e : Env) → val A (truth_constant s) e ≡ truth s
val_truth_constant A true e = val_t_constant A e
val_truth_constant A false e = val_nil_constant A e

pub known_equal : (D : Defs) (a b : Term) → known D a ≡ true → known D b ≡ true → known D (equal_of a b) ≡ true
known_equal D a b p q = known_by D equal_name (a ∷ b ∷ []) (rw prim_of_equal refl) (true_each (known D) (a ∷ b ∷ []) (p, (q, tt)))

-- the first fact on a term holds where all do
pub looked_up : (D : Defs) (e : Env) (fs : Facts) (u : Term) (s : Bool) → FactsHold D e fs → lookup_by term_eq fs u ≡ Some s → FactHolds D e (u, s)
looked_up D e [] u s hs h = absurd (no h)
  where
    no : None ≡ Some s → ⊥
    no k = cc
looked_up D e (f ∷ fs) u s hs h = go (term_eq u f.0) refl (looked_up D e fs u s hs.1) h
  where
    go : (b : Bool) → term_eq u f.0 ≡ b → (lookup_by term_eq fs u ≡ Some s → FactHolds D e (u, s)) → cond b (Some f.1) (lookup_by term_eq fs u) ≡ Some s → FactHolds D e (u, s)
    go true p later k =
        let same : f.1 ≡ s = cc in
        subst (λ x. FactHolds D e (x, s)) (sym (term_eq-true u f.0 p)) (subst (λ r. FactHolds D e (f.0, r)) same hs.0)
    go false p later k = later k

-- the parts of a cons are known, and it is the cons of their values
abbrev KnownParts : Defs → Option (Term × Term) → Type 0
KnownParts D None = Unit {0}
KnownParts D (Some p) = (known D p.0 ≡ true) × (known D p.1 ≡ true)

abbrev PartsMean : Apply → Env → Term → Option (Term × Term) → Type 0
PartsMean A e u None = Unit {0}
PartsMean A e u (Some p) = val A u e ≡ cons (val A p.0 e) (val A p.1 e)

known_constants : (D : Defs) (y : Value-F Value) → KnownParts D (constant_parts y)
known_constants D (Value-F.Cons a b) = (known_quote D a, known_quote D b)
known_constants D y = tt

known_parts : (D : Defs) (u : Term) (y : Shape Term) → Says u y → known D u ≡ true → KnownParts D (parts_by y)
known_parts D u (pair a b) h k =
    let ks = each_true (known D) (a ∷ b ∷ []) (known_args D cons_name (a ∷ b ∷ []) (subst (λ u. known D u ≡ true) h k)) in
    (ks.0, ks.1.0)
known_parts D u (constant v) h k = known_constants D (out-Value v)
known_parts D u y h k = tt

constants_mean : (A : Apply) (e : Env) (u : Term) (y : Value-F Value) → val A u e ≡ val_of (roll-Value y) → PartsMean A e u (constant_parts y)
constants_mean A e u (Value-F.Cons a b) h =
    h ∙ fold-roll-Value V val_step (Value-F.Cons a b) ∙ ap (λ x. cons x (val_of b)) (sym (val_quote A a e)) ∙ ap (cons (val A (Quote a) e)) (sym (val_quote A b e))
constants_mean A e u y h = tt

parts_mean : (A : Apply) (e : Env) (u : Term) (y : Shape Term) → Says u y → PartsMean A e u (parts_by y)
parts_mean A e u (pair a b) h = ap (λ u. val A u e) h ∙ val_cons A a b e
parts_mean A e u (constant v) h =
    constants_mean A e u (out-Value v) (ap (λ u. val A u e) h ∙ val_quote A v e ∙ ap val_of (sym (roll-out-Value v)))
parts_mean A e u y h = tt

-- what an equation leads to is known, and has its value
abbrev KnownEnd : Defs → Option Term → Type 0
KnownEnd D None = Unit {0}
KnownEnd D (Some r) = known D r ≡ true

abbrev SameEnd : Apply → Env → Term → Option Term → Type 0
SameEnd A e u None = Unit {0}
SameEnd A e u (Some r) = val A u e ≡ val A r e

known_apart : (D : Defs) (o r : Option (Term × Term)) → KnownParts D o → KnownParts D r → KnownEnd D (both_apart o r)
known_apart D (Some p) (Some q) h k =
    known_if D (equal_of p.0 q.0) (equal_of p.1 q.1) nil_constant (known_equal D p.0 q.0 h.0 k.0) (known_equal D p.1 q.1 h.1 k.1) (known_quote D _)
known_apart D o r h k = tt

known_sides : (D : Defs) (fs : Facts) (a b : Term) → known D a ≡ true → known D b ≡ true → KnownEnd D (sides_lead fs a b)
known_sides D fs a b p q = go (term_eq a b) (lookup_by term_eq fs (equal_of b a))
  where
    truth_known : (s : Bool) → known D (truth_constant s) ≡ true
    truth_known true = known_quote D _
    truth_known false = known_quote D _

    go : (x : Bool) (o : Option Bool) → KnownEnd D (cond x (Some t_constant) (by_sign o (both_apart (cons_parts a) (cons_parts b))))
    go true o = known_quote D _
    go false (Some s) = truth_known s
    go false None = known_apart D (cons_parts a) (cons_parts b) (known_parts D a (shape_of a) (shape_says a) p) (known_parts D b (shape_of b) (shape_says b) q)

same_apart : (A : Apply) (e : Env) (a b : Term) (o r : Option (Term × Term)) → PartsMean A e a o → PartsMean A e b r → SameEnd A e (equal_of a b) (both_apart o r)
same_apart A e a b (Some p) (Some q) h k =
    let first = val_equal A p.0 q.0 e in
    let rest = val_equal A p.1 q.1 e in
    let none = val_nil_constant A e in
    let right : val A (apart p q) e ≡ cond (value_eq (truth (value_eq (val A p.0 e) (val A q.0 e))) nil) nil (truth (value_eq (val A p.1 e) (val A q.1 e))) =
    val_if A (equal_of p.0 q.0) (equal_of p.1 q.1) nil_constant e ∙ rw (first, rest, none) refl in
    val_equal A a b e ∙ rw (h, k) (cons_truth (val A p.0 e) (val A p.1 e) (val A q.0 e) (val A q.1 e)) ∙ sym right
same_apart A e a b o r h k = tt

same_sides : (D : Defs) (A : Apply) → Models D A → (e : Env) (fs : Facts) → FactsHold D e fs → (a b : Term) → SameEnd A e (equal_of a b) (sides_lead fs a b)
same_sides D A ms e fs hs a b = go (term_eq a b) refl (lookup_by term_eq fs (equal_of b a)) refl
  where
    go : (x : Bool) → term_eq a b ≡ x → (o : Option Bool) → lookup_by term_eq fs (equal_of b a) ≡ o
        → SameEnd A e (equal_of a b) (cond x (Some t_constant) (by_sign o (both_apart (cons_parts a) (cons_parts b))))
    go true p o q =
        let same : value_eq (val A a e) (val A b e) ≡ true = subst (λ c. value_eq (val A a e) (val A c e) ≡ true) (term_eq-true a b p) (value_eq-same (val A a e)) in
        val_equal A a b e ∙ ap truth same ∙ sym (val_t_constant A e)
    go false p (Some s) q =
        let says : Signed s (truth (value_eq (val A b e) (val A a e))) =
        subst (Signed s) (val_equal A b a e) (fact_says D A ms e (equal_of b a) s (looked_up D e fs (equal_of b a) s hs q)) in
        val_equal A a b e ∙ ap truth (value_eq-turned (val A a e) (val A b e)) ∙ signed_truth s (value_eq (val A b e) (val A a e)) says ∙ sym (val_truth_constant A s e)
    go false p None q = same_apart A e a b (cons_parts a) (cons_parts b) (parts_mean A e a (shape_of a) (shape_says a)) (parts_mean A e b (shape_of b) (shape_says b))

known_leads : (D : Defs) (fs : Facts) (u : Term) (y : Shape Term) → Says u y → known D u ≡ true → KnownEnd D (shape_leads fs y)
known_leads D fs u (equation a b) h k =
    let ks = each_true (known D) (a ∷ b ∷ []) (known_args D equal_name (a ∷ b ∷ []) (subst (λ u. known D u ≡ true) h k)) in
    known_sides D fs a b ks.0 ks.1.0
known_leads D fs u y h k = tt

same_leads : (D : Defs) (A : Apply) → Models D A → (e : Env) (fs : Facts) → FactsHold D e fs → (u : Term) (y : Shape Term) → Says u y → SameEnd A e u (shape_leads fs y)
same_leads D A ms e fs hs u (equation a b) h = subst (λ x. SameEnd A e x (sides_lead fs a b)) (sym h) (same_sides D A ms e fs hs a b)
same_leads D A ms e fs hs u y h = tt

pub equation_stands : (D : Defs) → Total D → (c : Ctx) (u r : Term) → KnownFacts D c.0 → known D u ≡ true → equation_leads c.0 u ≡ Some r → Holds D (equation_made c u r)
equation_stands D total c u r facts u_known leads =
    let (A, ms) = models D total in
    stand D A ms (equation_made c u r) facts u_known
    (subst (KnownEnd D) leads (known_leads D c.0 u (shape_of u) (shape_says u) u_known))
    (λ e h. subst (SameEnd A e u) leads (same_leads D A ms e c.0 h u (shape_of u) (shape_says u)))
