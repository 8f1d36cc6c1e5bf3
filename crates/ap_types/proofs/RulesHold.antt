-- What a world says of the types of a function's calls holds of their values.
use Rattle.std.proofs.Common.{◌≡◌, ◌≢◌, ℕ, suc, Bool, true, false, cond, not, ◌||◌, true≢false, List, [], ◌∷◌, map, length, Option, Some, None, refl, sym, ap, ◌∙◌, subst, eqb-true, inl, inr}
use Rattle.std.specs.Int.Bits.{bit_and}
use Rattle.ap_list.specs.Lists.{Each, AnyOf, all_true, is_among, is_distinct}
use Rattle.ap_value.specs.declared.symbol.Symbol.{Symbol}
use Rattle.ap_value.specs.declared.value.Value.{Value}
use Rattle.ap_value.specs.Values.{V, symbol_eq}
use Rattle.ap_value.proofs.Equals.{symbol_eq-true, symbol_eq-same, both}
use Rattle.ap_term.specs.declared.term.Term.{Term, out-Term, Var, Quote, Call}
use Rattle.ap_term.specs.declared.term.Term.TheVariants.{outs-Var, outs-Quote, outs-Call}
use Rattle.ap_term.specs.Equal.{term_eq}
use Rattle.ap_term.proofs.Equals.{term_eq-same}
use Rattle.ap_term.proofs.Induction.{term_ind}
use Rattle.ap_world.specs.declared.entry.Function.{Function}
use Rattle.ap_world.specs.declared.entry.Entry.{Entry}
use Rattle.ap_world.specs.declared.entry.Entry.TheVariants as entry
use Rattle.ap_world.specs.declared.entry.Theorem.{Theorem}
use Rattle.ap_world.specs.declared.theory.Rune.TheVariants as rune
use Rattle.ap_world.specs.declared.theory.Theory.{Theory}
use Rattle.ap_world.specs.Prescribing.{prescribes, called, argument_called, prescribed, is_name, theorems_about}
use Rattle.ap_world.specs.Theories.{is_enabled}
use Rattle.ap_world.specs.declared.primitive.Primitive.{Primitive as Prim}
use Rattle.ap_world.specs.Primitives.{nil, truth, prim_of}
use Rattle.ap_world.specs.Meaning.{Env, Defs, CallValue}
use Rattle.ap_world.specs.Types.{type_of}
use Rattle.ap_world.specs.Sound.{known, is_head, takes, Good, GoodTheorem, Sound}
use Rattle.ap_world.specs.World.{Shown, function_of}
use Rattle.ap_world.specs.Kinds.{all}
use Rattle.ap_world.specs.Rows.{recognised}
use Rattle.ap_world.specs.Typing.{is_variable, are_distinct_variables, types_on, prescribed_types, left_by, narrowed, kept_of, function_types}
use Rattle.ap_world.proofs.Fuel.{call_unique}
use Rattle.ap_world.proofs.Knowing.{known_head, known_args, each_true}
use Rattle.ap_world.proofs.TotalMeaning.{Apply, Models, models, val, val_var, values_of, valid_is}
use Rattle.ap_world.proofs.Equations.{val_defined}
use Rattle.ap_world.proofs.Adding.{call_defined}
use Rattle.ap_world.proofs.Looking.{mask_holds}
use Rattle.ap_world.proofs.Sets.{In, all_in, in_both, recognises, recognised_in}
use Rattle.ap_world.proofs.Recognising.{TrueLists, tests, recognised_tested}
use Rattle.ap_kernel.specs.Standing.{DefinesNot}

-- an assignment of a value to a variable doesn't change another variable
apart_vars : (x y : Symbol) → term_eq (Var x) (Var y) ≡ false → symbol_eq y x ≡ false
apart_vars x y h = go (symbol_eq y x) refl
  where
    go : (b : Bool) → symbol_eq y x ≡ b → b ≡ false
    go false p = refl
    go true p = absurd (true≢false (sym (subst (λ z. term_eq (Var x) (Var z) ≡ true) (sym (symbol_eq-true y x p)) (term_eq-same (Var x))) ∙ h))

-- a term that is a variable
as_variable : (u : Term) → is_variable (out-Term u) ≡ true → (x : Symbol) × (u ≡ Var x)
as_variable u = term_ind Goal variable quoted call u
  where
    Goal : Term → Type 0
    Goal u = is_variable (out-Term u) ≡ true → (x : Symbol) × (u ≡ Var x)

    variable : (x : Symbol) → Goal (Var x)
    variable x h = (x, refl)

    no : false ≡ true → ⊥
    no h = cc

    quoted : (v : Value) → Goal (Quote v)
    quoted v h = absurd (no (subst (λ y. is_variable y ≡ true) (outs-Quote v) h))

    call : (f : Symbol) (ts : List Term) → Each Goal ts → Goal (Call f ts)
    call f ts es h = absurd (no (subst (λ y. is_variable y ≡ true) (outs-Call f ts) h))

neither : (b c : Bool) → (b || c) ≡ false → (b ≡ false) × (c ≡ false)
neither false false h = (refl, refl)
neither true c h = cc
neither false true h = cc

negated : (b : Bool) → not b ≡ true → b ≡ false
negated false h = refl
negated true h = cc

module _ (A : Apply) where
  -- variables that aren't x mean the same where x has a value
  unmoved : (x : Symbol) (v : V) (e : Env) (ts : List Term) → all_true (map (λ u. is_variable (out-Term u)) ts) ≡ true → is_among term_eq (Var x) ts ≡ false
      → values_of A ts ((x, v) ∷ e) ≡ values_of A ts e
  unmoved x v e [] k h = refl
  unmoved x v e (t ∷ ts) k h =
      let (here, rest) = both (is_variable (out-Term t)) (all_true (map (λ u. is_variable (out-Term u)) ts)) k in
      let (y, is) = as_variable t here in
      let (other, others) = neither (term_eq (Var x) t) (is_among term_eq (Var x) ts) h in
      let differs : symbol_eq y x ≡ false = apart_vars x y (subst (λ u. term_eq (Var x) u ≡ false) is other) in
      let same : val A t ((x, v) ∷ e) ≡ val A t e = (rw is (val_var A y ((x, v) ∷ e) ∙ (rw differs refl) ∙ sym (val_var A y e))) in
      ap (λ w. w ∷ values_of A ts ((x, v) ∷ e)) same ∙ ap (λ ws. val A t e ∷ ws) (unmoved x v e ts rest others)

  -- distinct variables have any values
  assigned : (ts : List Term) (vs : List V) → length ts ≡ length vs → all_true (map (λ u. is_variable (out-Term u)) ts) ≡ true → is_distinct term_eq ts ≡ true
      → (e : Env) × (values_of A ts e ≡ vs)
  assigned [] [] l k d = ([], refl)
  assigned [] (v ∷ vs) l k d = cc
  assigned (t ∷ ts) [] l k d = cc
  assigned (t ∷ ts) (v ∷ vs) l k d =
      let (here, rest) = both (is_variable (out-Term t)) (all_true (map (λ u. is_variable (out-Term u)) ts)) k in
      let (x, is) = as_variable t here in
      let (first, others) = both (not (is_among term_eq t ts)) (is_distinct term_eq ts) d in
      let (e, h) = assigned ts vs (shorter (length ts) (length vs) l) rest others in
      let own : val A t ((x, v) ∷ e) ≡ v = ap (λ u. val A u ((x, v) ∷ e)) is ∙ val_var A x ((x, v) ∷ e) ∙ (rw (symbol_eq-same x) refl) in
      let free : is_among term_eq (Var x) ts ≡ false = subst (λ u. is_among term_eq u ts ≡ false) is (negated (is_among term_eq t ts) first) in
      ((x, v) ∷ e, ap (λ w. w ∷ values_of A ts ((x, v) ∷ e)) own ∙ ap (λ ws. v ∷ ws) (unmoved x v e ts rest free ∙ h))
    where
      shorter : (n k : ℕ) → suc n ≡ suc k → n ≡ k
      shorter n k h = cc

module _ (D : Defs) (A : Apply) (m : Models D A) (ground : DefinesNot D) (lists : TrueLists D) where
  -- the value of a call of f is among these types
  abbrev pub Leaves : Symbol → ℕ → Type 0
  Leaves f n = (vs : List V) (v : V) → prim_of f ≡ None → CallValue D f vs v → In n v

  all_left : (f : Symbol) → Leaves f all
  all_left f vs v p value = all_in v

  taken : (o : Option Function) (n : ℕ) (g : Function) → o ≡ Some g → takes o n ≡ true → length g.formals ≡ n
  taken o n g h k = eqb-true (length g.formals) n (subst (λ p. takes p n ≡ true) h k)

  -- a recogniser that holds of each call of distinct variables
  on_call : (r : ℕ) (g : Symbol) (ts : List Term) → known D (Call g ts) ≡ true → are_distinct_variables ts ≡ true
      → ((e : Env) → recognises r (val A (Call g ts) e) ≡ true) → Leaves g r
  on_call r g ts k d says vs v prim value =
      let (fun, here, formals) = call_defined D g vs v value in
      let head : takes (D g) (length ts) ≡ true = subst (λ o. is_head D g o (length ts) ≡ true) prim (known_head D g ts k) in
      let count : length fun.formals ≡ length ts = taken (D g) (length ts) fun here head in
      let (vars, distinct) = both (all_true (map (λ u. is_variable (out-Term u)) ts)) (is_distinct term_eq ts) d in
      let (e, values) = assigned A ts vs (sym count ∙ formals) vars distinct in
      let means : val A (Call g ts) e ≡ v = val_defined A g ts e prim ∙ ap (A g) values ∙ call_unique D g vs (A g vs) v (m g fun vs here formals) value in
      subst (In r) means (recognised_in r (val A (Call g ts) e) (says e))

  not_nil_says : (b : Bool) → truth b ≢ nil → b ≡ true
  not_nil_says true h = refl
  not_nil_says false h = absurd (h refl)

  -- what a theorem leaves to the calls of the function that it is about
  on_term : (f s : Symbol) (a : Term) → is_name f (called (out-Term a)) ≡ true → known D (Call s (a ∷ [])) ≡ true → ((e : Env) → val A (Call s (a ∷ [])) e ≢ nil)
      → (o : Option ℕ) → recognised s ≡ o → Leaves f (types_on o (out-Term a))
  on_term f s a about k valid (Some r) q = term_ind Goal variable quoted call a about k valid
    where
      Goal : Term → Type 0
      Goal a = is_name f (called (out-Term a)) ≡ true → known D (Call s (a ∷ [])) ≡ true → ((e : Env) → val A (Call s (a ∷ [])) e ≢ nil) → Leaves f (types_on (Some r) (out-Term a))

      variable : (x : Symbol) → Goal (Var x)
      variable x about k h = rw (outs-Var x) (all_left f)

      quoted : (v : Value) → Goal (Quote v)
      quoted v about k h = rw (outs-Quote v) (all_left f)

      choose : (ts : List Term) → known D (Call s (Call f ts ∷ [])) ≡ true → ((e : Env) → val A (Call s (Call f ts ∷ [])) e ≢ nil)
          → (b : Bool) → are_distinct_variables ts ≡ b → Leaves f (cond b r all)
      choose ts k h true d =
          let inner : known D (Call f ts) ≡ true = (each_true (known D) (Call f ts ∷ []) (known_args D s (Call f ts ∷ []) k)).0 in
          on_call r f ts inner d (λ e. not_nil_says (recognises r (val A (Call f ts) e)) (λ z. h e (tests D A m ground lists s r (recognised_tested s r q) (Call f ts) e k ∙ z)))
      choose ts k h false d = all_left f

      call : (g : Symbol) (ts : List Term) → Each Goal ts → Goal (Call g ts)
      call g ts es about k h =
          let same : f ≡ g = symbol_eq-true f g (subst (λ y. is_name f (called y) ≡ true) (outs-Call g ts) about) in
          rw (outs-Call g ts)
          (choose ts (subst (λ x. known D (Call s (Call x ts ∷ [])) ≡ true) (sym same) k)
          (λ e. subst (λ x. val A (Call s (Call x ts ∷ [])) e ≢ nil) (sym same) (h e)) (are_distinct_variables ts) refl)
  on_term f s a about k valid None q = all_left f

  of_term : (f : Symbol) (u : Term) → is_name f (argument_called (out-Term u)) ≡ true → known D u ≡ true → ((e : Env) → val A u e ≢ nil) → Leaves f (prescribed_types (out-Term u))
  of_term f u = term_ind Goal variable quoted call u
    where
      Goal : Term → Type 0
      Goal u = is_name f (argument_called (out-Term u)) ≡ true → known D u ≡ true → ((e : Env) → val A u e ≢ nil) → Leaves f (prescribed_types (out-Term u))

      variable : (x : Symbol) → Goal (Var x)
      variable x about k h = rw (outs-Var x) (all_left f)

      quoted : (v : Value) → Goal (Quote v)
      quoted v about k h = rw (outs-Quote v) (all_left f)

      call : (g : Symbol) (ts : List Term) → Each Goal ts → Goal (Call g ts)
      call g [] es about k h = rw (outs-Call g []) (all_left f)
      call g (a ∷ []) es about k h =
          rw (outs-Call g (a ∷ [])) (on_term f g a (subst (λ y. is_name f (argument_called y) ≡ true) (outs-Call g (a ∷ [])) about) k h (recognised g) refl)
      call g (a ∷ b ∷ ts) es about k h = rw (outs-Call g (a ∷ b ∷ ts)) (all_left f)

  -- a good theorem that is about f
  of_theorem : (h : Theory) (f : Symbol) (u : Theorem) → GoodTheorem D u → is_name f (prescribed u) ≡ true → Leaves f (left_by h u)
  of_theorem h f u good about = go (is_enabled h (rune.TypePrescription u.name)) (prescribes u.classes) about
    where
      held : (e : Env) → val A u.term e ≢ nil
      held e = one (valid_is D A m (u.term ∷ []) good.valid e)
        where
          one : AnyOf (λ z. val A z e ≢ nil) (u.term ∷ []) → val A u.term e ≢ nil
          one (inl k) = k
          one (inr k) = absurd k

      go : (b p : Bool) → is_name f (cond p (argument_called (out-Term u.term)) None) ≡ true → Leaves f (cond b (prescribed_types (out-Term u.term)) all)
      go true true about = of_term f u.term about good.term_known held
      go true false about = absurd (true≢false (sym about))
      go false p about = all_left f

  theorems_leave : (h : Theory) (f : Symbol) (W : List Entry) → Each (Good D) W → Each (λ u. Leaves f (left_by h u)) (theorems_about f W)
  theorems_leave h f [] gs = tt
  theorems_leave h f (entry.Theorem u ∷ W) gs = go (is_name f (prescribed u)) refl (theorems_leave h f W gs.1)
    where
      go : (b : Bool) → is_name f (prescribed u) ≡ b → Each (λ z. Leaves f (left_by h z)) (theorems_about f W)
          → Each (λ z. Leaves f (left_by h z)) (cond b (u ∷ theorems_about f W) (theorems_about f W))
      go true q rest = (of_theorem h f u gs.0 q, rest)
      go false q rest = rest
  theorems_leave h f (entry.Function g ∷ W) gs = theorems_leave h f W gs.1
  theorems_leave h f (entry.Constant c v ∷ W) gs = theorems_leave h f W gs.1

  narrowed_in : (h : Theory) (f : Symbol) (vs : List V) (v : V) → prim_of f ≡ None → CallValue D f vs v → (us : List Theorem) → Each (λ u. Leaves f (left_by h u)) us
      → (n : ℕ) → In n v → In (narrowed h us n) v
  narrowed_in h f vs v p value [] ls n k = k
  narrowed_in h f vs v p value (u ∷ us) ls n k = narrowed_in h f vs v p value us ls.1 (bit_and n (left_by h u)) (in_both n (left_by h u) (type_of v) k (ls.0 vs v p value))

-- the types of a function's calls
pub function_in : (w : Shown) → Sound w.entries → DefinesNot (function_of w.entries) → TrueLists (function_of w.entries)
    → (f : Symbol) (vs : List V) (v : V) → prim_of f ≡ None → CallValue (function_of w.entries) f vs v → In (function_types w f) v
function_in w sound ground lists f vs v p value = go (is_enabled w.theory (rune.TypePrescription f))
  where
    D : Defs
    D = function_of w.entries

    kept : (o : Option Function) → D f ≡ o → In (kept_of o) v
    kept None q = all_in v
    kept (Some g) q = mask_holds w.entries sound f g q vs v value

    go : (b : Bool) → In (cond b (narrowed w.theory (theorems_about f w.entries) (kept_of (D f))) all) v
    go false = all_in v
    go true =
        let (A, m) = models D sound.total in
        narrowed_in D A m ground lists w.theory f vs v p value (theorems_about f w.entries) (theorems_leave D A m ground lists w.theory f w.entries sound.good) (kept_of (D f)) (kept (D f) refl)
