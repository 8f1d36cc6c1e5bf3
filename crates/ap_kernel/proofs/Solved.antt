-- A variable replaced by what it equals: the values stay.
use Rattle.std.proofs.Common.{◌≡◌, ◌≢◌, ℕ, Bool, true, false, cond, List, [], ◌∷◌, map, Option, Some, None, slice_get, unwrap_or, ◌⊎◌, inl, inr, refl, ap, sym, ◌∙◌, subst}
use Rattle.ap_list.specs.Lists.{Each, lookup_by}
use Rattle.ap_value.specs.declared.symbol.Symbol.{Symbol}
use Rattle.ap_value.specs.declared.value.Value.{Value}
use Rattle.ap_value.specs.Values.{symbol_eq, value_eq}
use Rattle.ap_value.proofs.Equals.{symbol_eq-true, value_eq-true}
use Rattle.ap_term.specs.declared.term.Term.{Term, out-Term, roll-Term, roll-out-Term, Var, Quote, Call}
use Rattle.ap_term.specs.declared.term.Term.TheOpen.{Term-F}
use Rattle.ap_term.specs.declared.term.Term.TheVariants.{rolls-Var}
use Rattle.ap_term.specs.declared.term.Clause.{Clause}
use Rattle.ap_term.specs.Terms.{subst_of}
use Rattle.ap_term.proofs.Induction.{term_ind}
use Rattle.ap_world.specs.Names.{not_name, equal_name}
use Rattle.ap_world.specs.Primitives.{nil, truth, prim_of}
use Rattle.ap_world.specs.Meaning.{Env, value_at, Defs, Total}
use Rattle.ap_world.specs.Clauses.{not_of}
use Rattle.ap_world.specs.Sound.{known}
use Rattle.ap_world.specs.Shapes.{Shape, negation, equation, shape_of}
use Rattle.ap_world.proofs.Knowing.{known_args, each_true}
use Rattle.ap_world.proofs.TotalMeaning.{Apply, Models, val, values_of, val_var, val_quote, val_call, head_val, replaced, val_subst, AnyTrue}
use Rattle.ap_world.proofs.Equations.{val_equal, eq-not_nil, t_isnt_nil}
use Rattle.ap_world.proofs.Starting.{val_not}
use Rattle.ap_world.proofs.Shaped.{Says, shape_says}
use Rattle.ap_kernel.specs.declared.reductions.Inference.{Inference}
use Rattle.ap_kernel.specs.Standing.{DefinesNot}
use Rattle.ap_kernel.specs.Equations.{equal_of}
use Rattle.ap_kernel.specs.Reductions.{KnownClause, Follows, others}
use Rattle.ap_kernel.specs.Splits.{and_then}
use Rattle.ap_kernel.specs.Solving.{occurs, side_solved, left_first, sides_solved, equation_solved, negated_solved, solved_by, replaced_in, solved_made}
use Rattle.ap_kernel.proofs.Typed.{each_at}
use Rattle.ap_kernel.proofs.Reduced.{each_put, any_others, any_at, to_one_reduces}
use Rattle.ap_kernel.proofs.Splitting.{then_some}
use Rattle.ap_world.proofs.Instances.{known_subst}

-- assignments that give each variable the same value give each term the same value
alike : (A : Apply) (d e : Env) → ((x : Symbol) → value_at d x ≡ value_at e x) → (u : Term) → val A u d ≡ val A u e
alike A d e h u = term_ind (λ u. val A u d ≡ val A u e) variable quoted call u
  where
    variable : (x : Symbol) → val A (Var x) d ≡ val A (Var x) e
    variable x = val_var A x d ∙ h x ∙ sym (val_var A x e)

    quoted : (q : Value) → val A (Quote q) d ≡ val A (Quote q) e
    quoted q = val_quote A q d ∙ sym (val_quote A q e)

    args : (ts : List Term) → Each (λ u. val A u d ≡ val A u e) ts → values_of A ts d ≡ values_of A ts e
    args [] es = refl
    args (t ∷ ts) es = ap (λ v. v ∷ values_of A ts d) es.0 ∙ ap (λ vs. val A t e ∷ vs) (args ts es.1)

    call : (f : Symbol) (ts : List Term) → Each (λ u. val A u d ≡ val A u e) ts → val A (Call f ts) d ≡ val A (Call f ts) e
    call f ts es = val_call A f ts d ∙ ap (head_val A f (prim_of f)) (args ts es) ∙ sym (val_call A f ts e)

-- a variable replaced by a term of its value
same_replaced : (A : Apply) (e : Env) (x : Symbol) (by u : Term) → value_at e x ≡ val A by e → val A (subst_of ((x, by) ∷ []) u) e ≡ val A u e
same_replaced A e x by u h = val_subst A ((x, by) ∷ []) u e ∙ alike A (replaced A ((x, by) ∷ []) e) e each u
  where
    each : (y : Symbol) → value_at (replaced A ((x, by) ∷ []) e) y ≡ value_at e y
    each y = go (symbol_eq y x) refl
      where
        go : (b : Bool) → symbol_eq y x ≡ b → unwrap_or (cond b (Some (val A by e)) (lookup_by symbol_eq e y)) nil ≡ value_at e y
        go true q = sym h ∙ ap (value_at e) (sym (symbol_eq-true y x q))
        go false q = refl

any_replaced : (A : Apply) (e : Env) (x : Symbol) (by : Term) → value_at e x ≡ val A by e → (ts : List Term) → AnyTrue A e (map (subst_of ((x, by) ∷ [])) ts) → AnyTrue A e ts
any_replaced A e x by h [] k = k
any_replaced A e x by h (t ∷ ts) (inl k) = inl (λ isnil. k (same_replaced A e x by t h ∙ isnil))
any_replaced A e x by h (t ∷ ts) (inr k) = inr (any_replaced A e x by h ts k)

-- and it is known
each_replaced : (D : Defs) (x : Symbol) (by : Term) → known D by ≡ true → (ts : List Term) → Each (λ u. known D u ≡ true) ts → Each (λ u. known D u ≡ true) (map (subst_of ((x, by) ∷ [])) ts)
each_replaced D x by kb [] ks = tt
each_replaced D x by kb (t ∷ ts) ks = (known_subst D ((x, by) ∷ []) (kb, tt) t ks.0, each_replaced D x by kb ts ks.1)

-- a side that is solved is a variable, and the other side replaces it
abbrev SideIs : Term → Term → Symbol × Term → Type 0
SideIs a b p = (a ≡ Var p.0) × (b ≡ p.1)

side_is : (a b : Term) (p : Symbol × Term) → side_solved (out-Term a) b ≡ Some p → SideIs a b p
side_is a b p h = go (out-Term a) refl h
  where
    no_value : None ≡ Some p → ⊥
    no_value l = cc

    test : (x : Symbol) (c : Bool) → a ≡ Var x → cond c None (Some (x, b)) ≡ Some p → SideIs a b p
    test x true q h = absurd (no_value h)
    test x false q h = let same : (x, b) ≡ p = cc in subst (λ (p : Symbol × Term). SideIs a b p) same (q, refl)

    go : (y : Term-F Term) → out-Term a ≡ y → side_solved y b ≡ Some p → SideIs a b p
    go (Term-F.Var x) q h = test x (occurs x b) (sym (roll-out-Term a) ∙ ap roll-Term q ∙ rolls-Var x) h
    go (Term-F.Quote v) q h = absurd (no_value h)
    go (Term-F.Call f ts) q h = absurd (no_value h)

sides_are : (a b : Term) (p : Symbol × Term) → sides_solved a b ≡ Some p → SideIs a b p ⊎ SideIs b a p
sides_are a b p h = go (side_solved (out-Term a) b) refl h
  where
    go : (o : Option (Symbol × Term)) → side_solved (out-Term a) b ≡ o → left_first o (side_solved (out-Term b) a) ≡ Some p → SideIs a b p ⊎ SideIs b a p
    go None q h = inr (side_is b a p h)
    go (Some r) q h = let same : Some r ≡ Some p = h in inl (side_is a b p (q ∙ same))

-- the literal that solves a variable is the negation of an equation of it and of what replaces it
pub record Solves (u : Term) (p : Symbol × Term) : Type 0 where
  pub left : Term
  pub right : Term
  pub literal : u ≡ not_of (equal_of left right)
  pub sides : SideIs left right p ⊎ SideIs right left p

pub solves : (u : Term) (p : Symbol × Term) → solved_by u ≡ Some p → Solves u p
solves u p h = negated (shape_of u) (shape_says u) h
  where
    an_equation : (a : Term) → u ≡ not_of a → (y : Shape Term) → Says a y → equation_solved y ≡ Some p → Solves u p
    an_equation a is (equation l r) s h = record { left = l; right = r; literal = is ∙ ap not_of s; sides = sides_are l r p h }
    an_equation a is y s h = cc

    negated : (y : Shape Term) → Says u y → negated_solved y ≡ Some p → Solves u p
    negated (negation a) s h = an_equation a s (shape_of a) (shape_says a) h
    negated y s h = cc

-- where the literal is nil, the variable has the value of what replaces it
solved_value : (D : Defs) (A : Apply) → Models D A → DefinesNot D → (e : Env) (u : Term) (p : Symbol × Term) → Solves u p → val A u e ≡ nil → value_at e p.0 ≡ val A p.1 e
solved_value D A ms ground e u p s isnil = go s.sides
  where
    test : Bool
    test = value_eq (val A s.left e) (val A s.right e)

    same : val A s.left e ≡ val A s.right e
    same = value_eq-true (val A s.left e) (val A s.right e) (by_value (value_eq (val A (equal_of s.left s.right) e) nil) refl)
      where
        not_value : truth (value_eq (val A (equal_of s.left s.right) e) nil) ≡ nil
        not_value = sym (val_not D A ms ground (equal_of s.left s.right) e) ∙ ap (λ w. val A w e) (sym s.literal) ∙ isnil

        tested : (b : Bool) → test ≡ b → value_eq (val A (equal_of s.left s.right) e) nil ≡ false → test ≡ true
        tested true q h = q
        tested false q h = absurd (eq-not_nil (val A (equal_of s.left s.right) e) h (val_equal A s.left s.right e ∙ ap truth q))

        by_value : (b : Bool) → value_eq (val A (equal_of s.left s.right) e) nil ≡ b → test ≡ true
        by_value true q = absurd (t_isnt_nil (ap truth (sym q) ∙ not_value))
        by_value false q = tested test refl q

    go : SideIs s.left s.right p ⊎ SideIs s.right s.left p → value_at e p.0 ≡ val A p.1 e
    go (inl k) = sym (val_var A p.0 e) ∙ ap (λ w. val A w e) (sym k.0) ∙ same ∙ ap (λ w. val A w e) k.1
    go (inr k) = sym (val_var A p.0 e) ∙ ap (λ w. val A w e) (sym k.0) ∙ sym same ∙ ap (λ w. val A w e) k.1

solved_known : (D : Defs) (u : Term) (p : Symbol × Term) → Solves u p → known D u ≡ true → known D p.1 ≡ true
solved_known D u p s k = go s.sides
  where
    inner : known D (equal_of s.left s.right) ≡ true
    inner = (each_true (known D) (equal_of s.left s.right ∷ []) (known_args D not_name (equal_of s.left s.right ∷ []) (subst (λ w. known D w ≡ true) s.literal k))).0

    ks : Each (λ w. known D w ≡ true) (s.left ∷ s.right ∷ [])
    ks = each_true (known D) (s.left ∷ s.right ∷ []) (known_args D equal_name (s.left ∷ s.right ∷ []) inner)

    go : SideIs s.left s.right p ⊎ SideIs s.right s.left p → known D p.1 ≡ true
    go (inl h) = subst (λ w. known D w ≡ true) h.1 ks.1.0
    go (inr h) = subst (λ w. known D w ≡ true) h.1 ks.0

pub solved_reduces : (D : Defs) → Total D → DefinesNot D → (c : Clause) (i : ℕ) (r : Inference) → KnownClause D c → solved_made c i ≡ Some r → Follows D r
solved_reduces D total ground c i r k h =
    let (p, solved, made) = then_some (and_then (slice_get c.0 i) solved_by) (λ p. Some (replaced_in c i p)) r h in
    let (u, at, by) = then_some (slice_get c.0 i) solved_by p solved in
    let same : replaced_in c i p ≡ r = cc in
    subst (Follows D) {x = replaced_in c i p} same (reduces u p at (solves u p by))
  where
    reduces : (u : Term) (p : Symbol × Term) → slice_get c.0 i ≡ Some u → Solves u p → Follows D (replaced_in c i p)
    reduces u p at s =
        let ku = each_at (λ w. known D w ≡ true) c.0 i u k at in
        to_one_reduces D total c (map (subst_of (p ∷ [])) (others i c.0)) k
        (each_replaced D p.0 p.1 (solved_known D u p s ku) (others i c.0) (each_put (λ w. known D w ≡ true) i [] c.0 tt k))
        (λ A ms e held. go A ms e held (value_eq (val A u e) nil) refl)
      where
        go : (A : Apply) → Models D A → (e : Env) → AnyTrue A e (map (subst_of (p ∷ [])) (others i c.0)) → (b : Bool) → value_eq (val A u e) nil ≡ b → AnyTrue A e c.0
        go A ms e held false q = any_at (λ w. val A w e ≢ nil) c.0 i u at (eq-not_nil (val A u e) q)
        go A ms e held true q =
            any_others (λ w. val A w e ≢ nil) i c.0
            (any_replaced A e p.0 p.1 (solved_value D A ms ground e u p s (value_eq-true (val A u e) nil q)) (others i c.0) held)
