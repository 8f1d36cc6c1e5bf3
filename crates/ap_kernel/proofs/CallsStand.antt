-- Calls whose parts agree: an `if`, and any other call.
use Rattle.std.proofs.Common.{◌≡◌, ◌≢◌, ◌↔◌, ℕ, Bool, true, false, cond, ◌&&◌, List, [], ◌∷◌, length, Some, refl, ap, sym, ◌∙◌, subst, eqb-true, arith}
use Rattle.std.proofs.Math.ListN.{length-map}
use Rattle.ap_list.specs.Lists.{Each}
use Rattle.ap_value.specs.declared.symbol.Symbol.{Symbol}
use Rattle.ap_value.specs.Values.{V, symbol_eq, value_eq}
use Rattle.ap_value.proofs.Equals.{both, symbol_eq-true}
use Rattle.ap_term.specs.declared.term.Term.{Term, Call}
use Rattle.ap_world.specs.Names.{if_name, not_name}
use Rattle.ap_world.specs.Primitives.{nil, truth, prim_of}
use Rattle.ap_world.specs.Meaning.{Env, Defs, Total}
use Rattle.ap_world.specs.Clauses.{not_of}
use Rattle.ap_world.specs.Sound.{known, is_head, takes, not_function}
use Rattle.ap_world.specs.Facts.{KnownFacts, FactsHold}
use Rattle.ap_world.specs.Assume.{assume}
use Rattle.ap_world.specs.Shapes.{is_constant}
use Rattle.ap_world.proofs.Knowing.{known_by, true_each}
use Rattle.ap_world.proofs.TotalMeaning.{Apply, Models, models, val, values_of, val_call, head_val}
use Rattle.ap_world.proofs.Equations.{val_if, nil-eq, eq-not_nil, prim_of_if, prim_of_not}
use Rattle.ap_world.proofs.Starting.{val_not}
use Rattle.ap_world.proofs.Assumed.{Signed, constant_signed, assume_holds}
use Rattle.ap_kernel.specs.declared.objects.Ctx.{Ctx}
use Rattle.ap_kernel.specs.declared.objects.Mode.{Mode}
use Rattle.ap_kernel.specs.declared.objects.Mode.TheVariants.{Equal, Iff}
use Rattle.ap_world.specs.World.{Shown, function_of}
use Rattle.ap_kernel.specs.declared.objects.Sequent.{Sequent}
use Rattle.ap_kernel.specs.declared.objects.Equiv.{Equiv}
use Rattle.ap_kernel.specs.Standing.{DefinesNot, Same, Holds, SameSides}
use Rattle.ap_kernel.specs.Answers.{if_of, refl_made, branch_made, chosen_made, ModeFits, IsArgument, ArgumentHolds, said, lefts, rights, is_unchanged, are_unchanged, cong_made}
use Rattle.ap_kernel.proofs.Standing.{same_refl, agree, stand}

-- values that are the same are both nil or both not
pub both_nil : (m : Mode) (v w : V) → Same m v w → (v ≡ nil) ↔ (w ≡ nil)
both_nil Equal v w h = (λ k. sym h ∙ k, λ k. h ∙ k)
both_nil Iff v w h = h

pub nil_test : (v w : V) → ((v ≡ nil) ↔ (w ≡ nil)) → value_eq v nil ≡ value_eq w nil
nil_test v w h = go (value_eq v nil) refl (value_eq w nil) refl
  where
    go : (a : Bool) → value_eq v nil ≡ a → (b : Bool) → value_eq w nil ≡ b → a ≡ b
    go true p true q = refl
    go false p false q = refl
    go true p false q = absurd (eq-not_nil w q (h.0 (nil-eq v p)))
    go false p true q = absurd (eq-not_nil v p (h.1 (nil-eq w q)))

-- an `if` whose tests are both nil or both not, and whose chosen branches are the same
same_if : (m : Mode) (x y : V) (a b c d : V) → ((x ≡ nil) ↔ (y ≡ nil)) → (y ≢ nil → Same m a b) → (y ≡ nil → Same m c d)
    → Same m (cond (value_eq x nil) c a) (cond (value_eq y nil) d b)
same_if m x y a b c d h on off = rw (nil_test x y h) (go (value_eq y nil) refl)
  where
    go : (k : Bool) → value_eq y nil ≡ k → Same m (cond k c a) (cond k d b)
    go true q = off (nil-eq y q)
    go false q = on (eq-not_nil y q)

pub known_if : (D : Defs) (a b c : Term) → known D a ≡ true → known D b ≡ true → known D c ≡ true → known D (if_of a b c) ≡ true
known_if D a b c p q r = known_by D if_name (a ∷ b ∷ c ∷ []) (rw prim_of_if refl) (true_each (known D) (a ∷ b ∷ c ∷ []) (p, (q, (r, tt))))

pub branch_stands : (D : Defs) → Total D → DefinesNot D → (m : Mode) (test on off : Sequent) → Holds D test → Holds D on → Holds D off → on.mode ≡ m → off.mode ≡ m
    → on.ctx.0 ≡ assume test.ctx.0 test.rhs true → off.ctx.0 ≡ assume test.ctx.0 test.rhs false → Holds D (branch_made m test on off)
branch_stands D total ground m test on off s p q on_mode off_mode on_facts off_facts =
    let (A, ms) = models D total in
    stand D A ms (branch_made m test on off) s.facts (known_if D test.lhs on.lhs off.lhs s.left p.left q.left) (known_if D test.rhs on.rhs off.rhs s.right p.right q.right)
    (λ e h. agrees A ms e h)
  where
    agrees : (A : Apply) → Models D A → (e : Env) → FactsHold D e test.ctx.0 → Same m (val A (if_of test.lhs on.lhs off.lhs) e) (val A (if_of test.rhs on.rhs off.rhs) e)
    agrees A ms e h =
        let l = val_if A test.lhs on.lhs off.lhs e in
        let r = val_if A test.rhs on.rhs off.rhs e in
        let yes_holds : val A test.rhs e ≢ nil → FactsHold D e on.ctx.0 = λ k. subst (FactsHold D e) (sym on_facts) (assume_holds D A ms ground e test.ctx.0 test.rhs true s.right h k) in
        let no_holds : val A test.rhs e ≡ nil → FactsHold D e off.ctx.0 = λ k. subst (FactsHold D e) (sym off_facts) (assume_holds D A ms ground e test.ctx.0 test.rhs false s.right h k) in
        let same : Same m (cond (value_eq (val A test.lhs e) nil) (val A off.lhs e) (val A on.lhs e)) (cond (value_eq (val A test.rhs e) nil) (val A off.rhs e) (val A on.rhs e)) =
        same_if m (val A test.lhs e) (val A test.rhs e) (val A on.lhs e) (val A on.rhs e) (val A off.lhs e) (val A off.rhs e)
        (both_nil test.mode (val A test.lhs e) (val A test.rhs e) (agree D A ms test s e h))
        (λ k. subst (λ o. Same o (val A on.lhs e) (val A on.rhs e)) on_mode (agree D A ms on p e (yes_holds k)))
        (λ k. subst (λ o. Same o (val A off.lhs e) (val A off.rhs e)) off_mode (agree D A ms off q e (no_holds k))) in
        subst (λ x. Same m x (val A (if_of test.rhs on.rhs off.rhs) e)) (sym l) (subst (λ y. Same m (cond (value_eq (val A test.lhs e) nil) (val A off.lhs e) (val A on.lhs e)) y) (sym r) same)

-- the parts of an `if` are unchanged, and so is the `if`
pub branch_same : (m : Mode) (test on off : Equiv) → SameSides test → SameSides on → SameSides off → (is_unchanged test && (is_unchanged on && is_unchanged off)) ≡ true
    → (branch_made m test.says on.says off.says).lhs ≡ (branch_made m test.says on.says off.says).rhs
branch_same m test on off a b c k =
    let h = both (is_unchanged test) (is_unchanged on && is_unchanged off) k in
    let i = both (is_unchanged on) (is_unchanged off) h.1 in
    rw (a h.0, b i.0, c i.1) refl

-- an `if` whose test leads to a constant is the branch that this chooses
chosen_value : (m : Mode) (s : Bool) (x y : V) (A : Apply) (e : Env) (b c : Term) → ((x ≡ nil) ↔ (y ≡ nil)) → Signed s y → Same m (cond (value_eq x nil) (val A c e) (val A b e)) (val A (cond s b c) e)
chosen_value m true x y A e b c h s = rw (nil_test x y h) (go (value_eq y nil) refl)
  where
    go : (k : Bool) → value_eq y nil ≡ k → Same m (cond k (val A c e) (val A b e)) (val A b e)
    go true q = absurd (s (nil-eq y q))
    go false q = same_refl m (val A b e)
chosen_value m false x y A e b c h s = rw (nil_test x y h) (go (value_eq y nil) refl)
  where
    go : (k : Bool) → value_eq y nil ≡ k → Same m (cond k (val A c e) (val A b e)) (val A c e)
    go true q = same_refl m (val A c e)
    go false q = absurd (eq-not_nil y q s)

chosen_known : (D : Defs) (s : Bool) (b c : Term) → known D b ≡ true → known D c ≡ true → known D (cond s b c) ≡ true
chosen_known D true b c p q = p
chosen_known D false b c p q = q

pub chosen_stands : (D : Defs) → Total D → DefinesNot D → (m : Mode) (test : Sequent) (s : Bool) (b c : Term) → Holds D test → is_constant s test.rhs ≡ true → known D b ≡ true → known D c ≡ true
    → Holds D (chosen_made m test s b c)
chosen_stands D total ground m test s b c h constant p q =
    let (A, ms) = models D total in
    stand D A ms (chosen_made m test s b c) h.facts (known_if D test.lhs b c h.left p q) (chosen_known D s b c p q)
    (λ e k. subst (λ x. Same m x (val A (cond s b c) e)) (sym (val_if A test.lhs b c e))
    (chosen_value m s (val A test.lhs e) (val A test.rhs e) A e b c (both_nil test.mode (val A test.lhs e) (val A test.rhs e) (agree D A ms test h e k)) (constant_signed D A ms ground e s test.rhs constant)))

-- one argument, where the list has so many
one_argument : (P : List Sequent → Type 0) (qs : List Sequent) → ((q : Sequent) → P (q ∷ [])) → 1 ≡ length qs → P qs
one_argument P [] k h = absurd (omega arith)
one_argument P (q ∷ []) k h = k q
one_argument P (q ∷ r ∷ qs) k h = absurd (omega arith)

one_formal : (n : ℕ) → takes (Some not_function) n ≡ true → 1 ≡ n
unfolding not_function
one_formal n h = eqb-true 1 n h

module _ (D : Defs) (A : Apply) (ms : Models D A) (ground : DefinesNot D) (c : Ctx) (f : Symbol) where
  lefts_known : (qs : List Sequent) → Each (ArgumentHolds D c f) qs → Each (λ u. known D u ≡ true) (lefts qs)
  lefts_known [] es = tt
  lefts_known (q ∷ qs) es = (es.0.holds.left, lefts_known qs es.1)

  rights_known : (qs : List Sequent) → Each (ArgumentHolds D c f) qs → Each (λ u. known D u ≡ true) (rights qs)
  rights_known [] es = tt
  rights_known (q ∷ qs) es = (es.0.holds.right, rights_known qs es.1)

  known_call_of : (qs : List Sequent) (ts : List Term) → length ts ≡ length qs → is_head D f (prim_of f) (length qs) ≡ true → Each (λ u. known D u ≡ true) ts → known D (Call f ts) ≡ true
  known_call_of qs ts l h ks = known_by D f ts (rw l h) (true_each (known D) ts ks)

  -- under equality the arguments' values are the same
  same_values : (e : Env) → FactsHold D e c.0 → symbol_eq f not_name ≡ false → (qs : List Sequent) → Each (ArgumentHolds D c f) qs → values_of A (lefts qs) e ≡ values_of A (rights qs) e
  same_values e h isnt [] es = refl
  same_values e h isnt (q ∷ qs) es =
      let mode : q.mode ≡ Equal = subst (λ b. ModeFits b q.mode) isnt es.0.fits.mode in
      let facts : FactsHold D e q.ctx.0 = subst (λ (k : Ctx). FactsHold D e k.0) (sym es.0.fits.facts) h in
      let same : val A q.lhs e ≡ val A q.rhs e = subst (λ o. Same o (val A q.lhs e) (val A q.rhs e)) mode (agree D A ms q es.0.holds e facts) in
      ap (λ v. v ∷ values_of A (lefts qs) e) same ∙ ap (λ vs. val A q.rhs e ∷ vs) (same_values e h isnt qs es.1)

  -- under either mode the calls of `not` are equal
  same_nots : (e : Env) → FactsHold D e c.0 → (q : Sequent) → ArgumentHolds D c f q → val A (not_of q.lhs) e ≡ val A (not_of q.rhs) e
  same_nots e h q k =
      let facts : FactsHold D e q.ctx.0 = subst (λ (k : Ctx). FactsHold D e k.0) (sym k.fits.facts) h in
      let nils = both_nil q.mode (val A q.lhs e) (val A q.rhs e) (agree D A ms q k.holds e facts) in
      val_not D A ms ground q.lhs e ∙ ap truth (nil_test (val A q.lhs e) (val A q.rhs e) nils) ∙ sym (val_not D A ms ground q.rhs e)

  same_calls : (e : Env) → FactsHold D e c.0 → (qs : List Sequent) → is_head D f (prim_of f) (length qs) ≡ true → Each (ArgumentHolds D c f) qs → val A (Call f (lefts qs)) e ≡ val A (Call f (rights qs)) e
  same_calls e h qs k es = go (symbol_eq f not_name) refl
    where
      go : (b : Bool) → symbol_eq f not_name ≡ b → val A (Call f (lefts qs)) e ≡ val A (Call f (rights qs)) e
      go false q = val_call A f (lefts qs) e ∙ ap (head_val A f (prim_of f)) (same_values e h q qs es) ∙ sym (val_call A f (rights qs) e)
      go true q =
          let is : f ≡ not_name = symbol_eq-true f not_name q in
          let takes_one : takes (Some not_function) (length qs) ≡ true =
          subst (λ o. takes o (length qs) ≡ true) ground (subst (λ o. is_head D not_name o (length qs) ≡ true) prim_of_not (subst (λ g. is_head D g (prim_of g) (length qs) ≡ true) is k)) in
          one_argument (λ qs. Each (ArgumentHolds D c f) qs → val A (Call f (lefts qs)) e ≡ val A (Call f (rights qs)) e) qs
          (λ r es. ap (λ g. val A (Call g (r.lhs ∷ [])) e) is ∙ same_nots e h r es.0 ∙ ap (λ g. val A (Call g (r.rhs ∷ [])) e) (sym is)) (one_formal (length qs) takes_one) es

pub cong_stands : (D : Defs) → Total D → DefinesNot D → (c : Ctx) (f : Symbol) (qs : List Sequent) → KnownFacts D c.0 → is_head D f (prim_of f) (length qs) ≡ true
    → Each (ArgumentHolds D c f) qs → Holds D (cong_made c f qs)
cong_stands D total ground c f qs facts head es =
    let (A, ms) = models D total in
    stand D A ms (cong_made c f qs) facts
    (known_call_of D A ms ground c f qs (lefts qs) (length-map qs (λ (q : Sequent). q.lhs)) head (lefts_known D A ms ground c f qs es))
    (known_call_of D A ms ground c f qs (rights qs) (length-map qs (λ (q : Sequent). q.rhs)) head (rights_known D A ms ground c f qs es))
    (λ e h. same_calls D A ms ground c f e h qs head es)

-- where all are unchanged, the left sides are the right sides
pub sides_same : (qs : List Equiv) → Each SameSides qs → are_unchanged qs ≡ true → lefts (said qs) ≡ rights (said qs)
sides_same [] es k = refl
sides_same (q ∷ qs) es k =
    let h = both (is_unchanged q) (are_unchanged qs) k in
    rw (es.0 h.0, sides_same qs es.1 h.1) refl

arguments_same : (w : Shown) (c : Ctx) (f : Symbol) (qs : List Equiv) → Each (IsArgument w c f) qs → Each SameSides qs
arguments_same w c f [] es = tt
arguments_same w c f (q ∷ qs) es = (es.0.stands.same, arguments_same w c f qs es.1)

pub cong_same : (w : Shown) (c : Ctx) (f : Symbol) (qs : List Equiv) → Each (IsArgument w c f) qs → are_unchanged qs ≡ true → (cong_made c f (said qs)).lhs ≡ (cong_made c f (said qs)).rhs
cong_same w c f qs es k = ap (Call f) (sides_same qs (arguments_same w c f qs es) k)

-- what is made then from the left call to itself
pub cong_of_one : (w : Shown) (c : Ctx) (f : Symbol) (qs : List Equiv) (s : Sequent) → Each (IsArgument w c f) qs → are_unchanged qs ≡ true → s ≡ refl_made c Equal (Call f (lefts (said qs))) → s ≡ cong_made c f (said qs)
cong_of_one w c f qs s es k e = e ∙ ap (λ u. record { ctx = c; mode = Equal; lhs = Call f (lefts (said qs)); rhs = u }) (cong_same w c f qs es k)

-- what is handed in as arguments holds
pub arguments_hold : (w : Shown) (c : Ctx) (f : Symbol) (qs : List Equiv) → Each (IsArgument w c f) qs → Each (ArgumentHolds (function_of w.entries) c f) (said qs)
arguments_hold w c f [] es = tt
arguments_hold w c f (q ∷ qs) es = (record { holds = es.0.stands.says; fits = es.0.fits }, arguments_hold w c f qs es.1)

pub cong_holds : (w : Shown) → Total (function_of w.entries) → DefinesNot (function_of w.entries) → (c : Ctx) (f : Symbol) (qs : List Equiv) → KnownFacts (function_of w.entries) c.0
    → is_head (function_of w.entries) f (prim_of f) (length qs) ≡ true → Each (IsArgument w c f) qs → Holds (function_of w.entries) (cong_made c f (said qs))
cong_holds w total ground c f qs facts head es =
    cong_stands (function_of w.entries) total ground c f (said qs) facts
    (subst (λ n. is_head (function_of w.entries) f (prim_of f) n ≡ true) (sym (length-map qs (λ (q : Equiv). q.says))) head)
    (arguments_hold w c f qs es)
