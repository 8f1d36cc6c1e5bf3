-- The types of a term hold of its value, where those of the calls that it makes do.
use Rattle.std.proofs.Common.{◌≡◌, ◌≢◌, ℕ, suc, Bool, true, false, cond, nat_eq, true≢false, List, [], ◌∷◌, map, length, Option, Some, None, refl, sym, ap, ◌∙◌, subst, eqb-true, nat_lt, arith}
use Rattle.std.specs.Int.{bit_at}
use Rattle.std.proofs.lemmas.Nat.Bits.{bit_at-zero}
use Rattle.ap_list.specs.Lists.{Each, all_some, with_first}
use Rattle.ap_value.specs.declared.symbol.Symbol.{Symbol}
use Rattle.ap_value.specs.declared.value.Value.{Value}
use Rattle.ap_value.specs.Values.{V, val_of, value_eq}
use Rattle.ap_term.specs.declared.term.Term.{Term, Var, Quote, Call}
use Rattle.ap_term.proofs.Induction.{term_ind}
use Rattle.ap_world.specs.declared.primitive.Primitive.{Primitive as Prim}
use Rattle.ap_world.specs.declared.primitive.Primitive.TheVariants.{If, Coerce}
use Rattle.ap_world.specs.Primitives.{nil, truth, prim, prim_of, coerce_of}
use Rattle.ap_world.specs.Meaning.{Env, Defs, Calls, if_of, applied, head_call, meaning}
use Rattle.ap_world.specs.Types.{type_of, nil_bit}
use Rattle.ap_world.specs.Sound.{known}
use Rattle.ap_world.specs.Facts.{Facts, KnownFacts, FactsHold}
use Rattle.ap_world.specs.Assume.{assume}
use Rattle.ap_world.specs.Shapes.{Shape, constant, shape_of}
use Rattle.ap_world.specs.Kinds.{bit, kind_of, all, without, meets, if_so}
use Rattle.ap_world.specs.Rows.{tested, test_types, row_one, row_two, coerce_by}
use Rattle.ap_world.specs.Narrowing.{cut}
use Rattle.ap_world.specs.Typing.{any_empty, chosen_types, if_parts, one_types, two_types, other_types, table, call_types, head_types, types_by}
use Rattle.ap_world.proofs.Fuel.{meaning_call}
use Rattle.ap_world.proofs.Knowing.{known_args, each_true}
use Rattle.ap_world.proofs.TotalMeaning.{Apply, Models, val, val_quote}
use Rattle.ap_world.proofs.Equations.{nil-eq, eq-not_nil}
use Rattle.ap_world.proofs.Shaped.{Says, shape_says}
use Rattle.ap_world.proofs.Assumed.{assume_known, assume_holds}
use Rattle.ap_world.proofs.Sets.{In, all_in, in_own, in_left, in_right, in_without, meets_at, union_at, test_in, recognises, nil_recognised, unrecognised_out, nil_has}
use Rattle.ap_world.proofs.Recognising.{TrueLists, tests}
use Rattle.ap_kernel.specs.Standing.{DefinesNot}
use Rattle.ap_types.proofs.Formed.{typed, types_var, types_quote, types_call, parts_some, head_if, head_other}
use Rattle.ap_types.proofs.RowsHold.{one_in, two_in, coerce_constant, coerce_any}
use Rattle.ap_types.proofs.Cutting.{cut_in}

-- each mask has the type of the value at its place
abbrev pub EachIn : List ℕ → List V → Type 0
EachIn [] [] = Unit {0}
EachIn (n ∷ ns) (v ∷ vs) = In n v × EachIn ns vs
EachIn ns vs = ⊥

-- a mask of some value isn't empty
not_empty : (n : ℕ) (v : V) → In n v → nat_eq n 0 ≡ false
not_empty n v h = go (nat_eq n 0) refl
  where
    go : (b : Bool) → nat_eq n 0 ≡ b → b ≡ false
    go true e =
        let z : bit_at 0 (type_of v) ≡ 1 = subst (λ k. bit_at k (type_of v) ≡ 1) (eqb-true n 0 e) h in
        let o : bit_at 0 (type_of v) ≡ 0 = bit_at-zero (type_of v) in absurd (omega arith)
    go false e = refl

none_empty : (ns : List ℕ) (vs : List V) → EachIn ns vs → any_empty ns ≡ false
none_empty [] vs h = refl
none_empty (n ∷ ns) [] h = absurd h
none_empty (n ∷ ns) (v ∷ vs) h = rw (not_empty n v h.0) (none_empty ns vs h.1)

-- where all options have values, each has its own
some_first : (o : Option (List V)) (x : V) (vs : List V) → with_first x o ≡ Some vs → (ws : List V) × (o ≡ Some ws) × (vs ≡ x ∷ ws)
some_first (Some ws) x vs h = (ws, refl, cc)
some_first None x vs h = cc

applied_some : (f : List V → Option V) (o : Option (List V)) (v : V) → applied f o ≡ Some v → (vs : List V) × (o ≡ Some vs) × (f vs ≡ Some v)
applied_some f (Some vs) v h = (vs, refl, h)
applied_some f None v h = cc

-- an `if` has a value where its test has one, and the branch that it chooses
if_some : (a b c : Option V) (v : V) → if_of (a ∷ b ∷ c ∷ []) ≡ Some v → (x : V) × (a ≡ Some x) × (cond (value_eq x nil) c b ≡ Some v)
if_some (Some x) b c v h = (x, refl, h)
if_some None b c v h = cc

-- an `if` of another number of parts has none
not_if : (os : List (Option V)) (v : V) → if_of os ≡ Some v → length os ≡ 3
not_if [] v h = cc
not_if (None ∷ os) v h = cc
not_if (Some a ∷ []) v h = cc
not_if (Some a ∷ b ∷ []) v h = cc
not_if (Some a ∷ b ∷ c ∷ []) v h = refl
not_if (Some a ∷ b ∷ c ∷ d ∷ os) v h = cc

both_same : (x y : V) (xs ys : List V) → x ≡ y → xs ≡ ys → x ∷ xs ≡ y ∷ ys
both_same x y xs ys p q = rw (p, q) refl

too_few : (n : ℕ) → (nat_lt n 3 ≡ true) → n ≡ 3 → ⊥
too_few n l h = absurd (true≢false (sym l ∙ ap (λ k. nat_lt k 3) h))

too_many : (n : ℕ) → suc (suc (suc (suc n))) ≡ 3 → ⊥
too_many n h = absurd (omega arith)

coerce_in : (A : Apply) (e : Env) (b : Term) (x : V) → In (coerce_by (shape_of b)) (coerce_of x (val A b e))
coerce_in A e b x = go (shape_of b) (shape_says b)
  where
    go : (y : Shape Term) → Says b y → In (coerce_by y) (coerce_of x (val A b e))
    go (constant w) says = rw (ap (λ u. val A u e) says ∙ val_quote A w e) (coerce_constant x (val_of w))
    go y says = coerce_any x (val A b e)

module _ (D : Defs) (A : Apply) (m : Models D A) (ground : DefinesNot D) (lists : TrueLists D) (K : Symbol → ℕ) (c : Calls)
    (agrees : (u : Term) (e : Env) (v : V) → meaning c u e ≡ Some v → v ≡ val A u e)
    (called : (f : Symbol) (vs : List V) (v : V) → prim_of f ≡ None → c f vs ≡ Some v → In (K f) v) where
  abbrev pub Holds : Term → Type 0
  Holds u = (e : Env) (fs : Facts) (v : V) → known D u ≡ true → KnownFacts D fs → FactsHold D e fs → meaning c u e ≡ Some v → In (types_by K u fs) v

  cut_at : (u : Term) (e : Env) (fs : Facts) (v : V) (n : ℕ) → KnownFacts D fs → FactsHold D e fs → meaning c u e ≡ Some v → In n v → In (cut fs u n) v
  cut_at u e fs v n ks hs is h =
      subst (In (cut fs u n)) (sym (agrees u e v is)) (cut_in D A m ground lists e fs u n ks hs (subst (In n) (agrees u e v is) h))

  variable : (x : Symbol) → Holds (Var x)
  variable x e fs v k ks hs is = rw (types_var K x fs) (cut_at (Var x) e fs v all ks hs is (all_in v))

  quoted : (q : Value) → Holds (Quote q)
  quoted q e fs v k ks hs is =
      let own : In (bit (kind_of (val_of q))) v = subst (In (bit (kind_of (val_of q)))) (sym (agrees (Quote q) e v is ∙ val_quote A q e)) (in_own (val_of q)) in
      rw (types_quote K q fs) (cut_at (Quote q) e fs v (bit (kind_of (val_of q))) ks hs is own)

  -- the arguments' masks have the types of their values
  args_in : (ts : List Term) (e : Env) (fs : Facts) → Each Holds ts → Each (λ u. known D u ≡ true) ts → KnownFacts D fs → FactsHold D e fs
      → (vs : List V) → all_some (map (λ n. n e) (map (meaning c) ts)) ≡ Some vs → EachIn (map (λ u. types_by K u fs) ts) vs
  args_in [] e fs ps us ks hs [] is = tt
  args_in [] e fs ps us ks hs (v ∷ vs) is = cc
  args_in (t ∷ ts) e fs ps us ks hs vs is = go (args_in ts e fs ps.1 us.1 ks hs) (meaning c t e) refl is
    where
      go : ((ws : List V) → all_some (map (λ n. n e) (map (meaning c) ts)) ≡ Some ws → EachIn (map (λ u. types_by K u fs) ts) ws) → (o : Option V) → meaning c t e ≡ o → all_some (o ∷ map (λ n. n e) (map (meaning c) ts)) ≡ Some vs → EachIn (types_by K t fs ∷ map (λ u. types_by K u fs) ts) vs
      go more None q l = cc
      go more (Some x) q l =
          let (ws, rest, whole) = some_first (all_some (map (λ n. n e) (map (meaning c) ts))) x vs l in
          rw whole (ps.0 e fs x us.0 ks hs q, more ws rest)

  -- the arguments' values are what they mean
  args_mean : (ts : List Term) (e : Env) (vs : List V) → all_some (map (λ n. n e) (map (meaning c) ts)) ≡ Some vs → vs ≡ map (λ u. val A u e) ts
  args_mean [] e vs is = cc
  args_mean (t ∷ ts) e vs is = go (args_mean ts e) (meaning c t e) refl is
    where
      go : ((ws : List V) → all_some (map (λ n. n e) (map (meaning c) ts)) ≡ Some ws → ws ≡ map (λ u. val A u e) ts) → (o : Option V) → meaning c t e ≡ o → all_some (o ∷ map (λ n. n e) (map (meaning c) ts)) ≡ Some vs → vs ≡ val A t e ∷ map (λ u. val A u e) ts
      go more None q l = cc
      go more (Some x) q l =
          let (ws, rest, whole) = some_first (all_some (map (λ n. n e) (map (meaning c) ts))) x vs l in
          let head = agrees t e x q in
          let tail = more ws rest in
          whole ∙ both_same x (val A t e) ws (map (λ u. val A u e) ts) head tail

  -- a head's value at the arguments' values
  abbrev pub Gives : Symbol → Option Prim → List V → V → Type 0
  Gives f (Some p) vs v = prim p vs ≡ Some v
  Gives f None vs v = c f vs ≡ Some v

  other_in : (f : Symbol) (o : Option Prim) (vs : List V) (v : V) → prim_of f ≡ o → Gives f o vs v → In (other_types K f o) v
  other_in f (Some p) vs v q h = all_in v
  other_in f None vs v q h = called f vs v q h

  one_at : (f : Symbol) (o : Option Prim) (a : Term) (e : Env) (n : ℕ) (x v : V) → prim_of f ≡ o → known D (Call f (a ∷ [])) ≡ true → Gives f o (x ∷ []) v
      → x ≡ val A a e → v ≡ val A (Call f (a ∷ [])) e → In n x → (r : Option ℕ) → tested f ≡ r → In (one_types K f o r n) v
  one_at f o a e n x v q k h x_is v_is has (Some r) t_is =
      let is : v ≡ truth (recognises r x) = v_is ∙ tests D A m ground lists f r t_is a e k ∙ ap (λ z. truth (recognises r z)) (sym x_is) in
      subst (In (test_types r n)) (sym is) (test_in r n x has)
  one_at f (Some p) a e n x v q k h x_is v_is has None t_is = union_at (row_one p) n x (type_of v) has (one_in p x v h)
  one_at f None a e n x v q k h x_is v_is has None t_is = called f (x ∷ []) v q h

  two_at : (f : Symbol) (o : Option Prim) (a b : Term) (e : Env) (n k : ℕ) (x y v : V) → prim_of f ≡ o → Gives f o (x ∷ y ∷ []) v → y ≡ val A b e → In n x → In k y
      → In (two_types K f o (a ∷ b ∷ []) n k) v
  two_at f (Some Coerce) a b e n k x y v q h y_is hx hy =
      let is : coerce_of x y ≡ v = cc in
      subst (In (coerce_by (shape_of b))) is (subst (λ z. In (coerce_by (shape_of b)) (coerce_of x z)) (sym y_is) (coerce_in A e b x))
  two_at f (Some p) a b e n k x y v q h y_is hx hy =
      union_at (λ j. Rattle.ap_world.specs.Kinds.union (row_two p j) k) n x (type_of v) hx (union_at (row_two p (kind_of x)) k y (type_of v) hy (two_in p x y v h))
  two_at f None a b e n k x y v q h y_is hx hy = called f (x ∷ y ∷ []) v q h

  table_in : (f : Symbol) (o : Option Prim) (ts : List Term) (e : Env) (ns : List ℕ) (v : V) → prim_of f ≡ o → known D (Call f ts) ≡ true → Gives f o (map (λ u. val A u e) ts) v
      → v ≡ val A (Call f ts) e → EachIn ns (map (λ u. val A u e) ts) → In (table K f o ts ns) v
  table_in f o [] e [] v q k h v_is has = other_in f o [] v q h
  table_in f o [] e (n ∷ ns) v q k h v_is has = absurd has
  table_in f o (a ∷ ts) e [] v q k h v_is has = absurd has
  table_in f o (a ∷ []) e (n ∷ []) v q k h v_is has = one_at f o a e n (val A a e) v q k h refl v_is has.0 (tested f) refl
  table_in f o (a ∷ []) e (n ∷ l ∷ ns) v q k h v_is has = absurd has.1
  table_in f o (a ∷ b ∷ ts) e (n ∷ []) v q k h v_is has = absurd has.1
  table_in f o (a ∷ b ∷ []) e (n ∷ l ∷ []) v q k h v_is has = two_at f o a b e n l (val A a e) (val A b e) v q h refl has.0 has.1.0
  table_in f o (a ∷ b ∷ []) e (n ∷ l ∷ i ∷ ns) v q k h v_is has = absurd has.1.1
  table_in f o (a ∷ b ∷ d ∷ ts) e (n ∷ l ∷ []) v q k h v_is has = absurd has.1.1
  table_in f o (a ∷ b ∷ d ∷ ts) e (n ∷ l ∷ i ∷ ns) v q k h v_is has = other_in f o (map (λ u. val A u e) (a ∷ b ∷ d ∷ ts)) v q h

  -- a call that isn't an `if`
  call_in : (f : Symbol) (ts : List Term) (e : Env) (fs : Facts) (v : V) → Each Holds ts → known D (Call f ts) ≡ true → KnownFacts D fs → FactsHold D e fs
      → meaning c (Call f ts) e ≡ Some v → (o : Option Prim) → prim_of f ≡ o → (g : List V → Option V) → applied g (all_some (map (λ n. n e) (map (meaning c) ts))) ≡ Some v
      → ((vs : List V) → g vs ≡ Some v → Gives f o vs v) → In (call_types K f o ts (map (λ u. types_by K u fs) ts)) v
  call_in f ts e fs v ps k ks hs is o q g ap_is gives =
      let (vs, some, value) = applied_some g (all_some (map (λ n. n e) (map (meaning c) ts))) v ap_is in
      let vs_is = args_mean ts e vs some in
      let has : EachIn (map (λ u. types_by K u fs) ts) vs = args_in ts e fs ps (each_true (known D) ts (known_args D f ts k)) ks hs vs some in
      let has : EachIn (map (λ u. types_by K u fs) ts) (map (λ u. val A u e) ts) = subst (EachIn (map (λ u. types_by K u fs) ts)) vs_is has in
      rw (none_empty (map (λ u. types_by K u fs) ts) (map (λ u. val A u e) ts) has)
      (table_in f o ts e (map (λ u. types_by K u fs) ts) v q k (subst (λ ws. Gives f o ws v) vs_is (gives vs value)) (agrees (Call f ts) e v is) has)

  head_means : (f : Symbol) (ts : List Term) (e : Env) (v : V) → meaning c (Call f ts) e ≡ Some v → (o : Option Prim) → prim_of f ≡ o
      → head_call c f o (map (λ n. n e) (map (meaning c) ts)) ≡ Some v
  head_means f ts e v is o q = ap (λ p. head_call c f p (map (λ n. n e) (map (meaning c) ts))) (sym q) ∙ sym (meaning_call c f ts e) ∙ is

  three_parts : (ts : List Term) (e : Env) (v : V) → if_parts (Some If) ts ≡ None → if_of (map (λ n. n e) (map (meaning c) ts)) ≡ Some v → ⊥
  three_parts [] e v p h = too_few 0 refl (not_if [] v h)
  three_parts (a ∷ []) e v p h = too_few 1 refl (not_if (meaning c a e ∷ []) v h)
  three_parts (a ∷ b ∷ []) e v p h = too_few 2 refl (not_if (meaning c a e ∷ meaning c b e ∷ []) v h)
  three_parts (a ∷ b ∷ d ∷ []) e v p h = cc
  three_parts (a ∷ b ∷ d ∷ g ∷ ts) e v p h = too_many (length (map (λ n. n e) (map (meaning c) ts))) (not_if (map (λ n. n e) (map (meaning c) (a ∷ b ∷ d ∷ g ∷ ts))) v h)

  other_head : (f : Symbol) (ts : List Term) (e : Env) (fs : Facts) (v : V) → Each Holds ts → known D (Call f ts) ≡ true → KnownFacts D fs → FactsHold D e fs
      → meaning c (Call f ts) e ≡ Some v → (o : Option Prim) → prim_of f ≡ o → if_parts o ts ≡ None → head_call c f o (map (λ n. n e) (map (meaning c) ts)) ≡ Some v
      → In (call_types K f o ts (map (λ u. types_by K u fs) ts)) v
  other_head f ts e fs v ps k ks hs is (Some If) q none h = absurd (three_parts ts e v none h)
  other_head f ts e fs v ps k ks hs is (Some p) q none h = call_in f ts e fs v ps k ks hs is (Some p) q (prim p) h (λ vs g. g)
  other_head f ts e fs v ps k ks hs is None q none h = call_in f ts e fs v ps k ks hs is None q (c f) h (λ vs g. g)

  -- an `if`: the branch that its test chooses, under it
  if_in : (a b d : Term) (e : Env) (fs : Facts) (v : V) → Holds a → Holds b → Holds d → known D a ≡ true → known D b ≡ true → known D d ≡ true → KnownFacts D fs → FactsHold D e fs
      → if_of (meaning c a e ∷ meaning c b e ∷ meaning c d e ∷ []) ≡ Some v
      → In (chosen_types (types_by K a fs) (types_by K b (assume fs a true)) (types_by K d (assume fs a false))) v
  if_in a b d e fs v pa pb pd ka kb kd ks hs is =
      let (x, test, chosen) = if_some (meaning c a e) (meaning c b e) (meaning c d e) v is in
      go x test (value_eq x nil) refl chosen
    where
      n : ℕ
      n = types_by K a fs

      go : (x : V) → meaning c a e ≡ Some x → (z : Bool) → value_eq x nil ≡ z → cond z (meaning c d e) (meaning c b e) ≡ Some v
          → In (chosen_types n (types_by K b (assume fs a true)) (types_by K d (assume fs a false))) v
      go x test true q h =
          let has : In n x = pa e fs x ka ks hs test in
          let met : meets n nil_bit ≡ true = meets_at n nil_bit (type_of x) has (subst (In nil_bit) (sym (nil-eq x q)) nil_has) in
          let signed : val A a e ≡ nil = sym (agrees a e x test) ∙ nil-eq x q in
          let branch : In (types_by K d (assume fs a false)) v = pd e (assume fs a false) v kd (assume_known D fs a false ks ka) (assume_holds D A m ground e fs a false ka hs signed) h in
          in_right (if_so (meets n (without nil_bit)) (types_by K b (assume fs a true))) (if_so (meets n nil_bit) (types_by K d (assume fs a false))) (type_of v) (rw met branch)
      go x test false q h =
          let has : In n x = pa e fs x ka ks hs test in
          let met : meets n (without nil_bit) ≡ true = meets_at n (without nil_bit) (type_of x) has (in_without nil_bit x (unrecognised_out nil_bit x (nil_recognised x ∙ q))) in
          let signed : val A a e ≢ nil = λ z. eq-not_nil x q (agrees a e x test ∙ z) in
          let branch : In (types_by K b (assume fs a true)) v = pb e (assume fs a true) v kb (assume_known D fs a true ks ka) (assume_holds D A m ground e fs a true ka hs signed) h in
          in_left (if_so (meets n (without nil_bit)) (types_by K b (assume fs a true))) (if_so (meets n nil_bit) (types_by K d (assume fs a false))) (type_of v) (rw met branch)

  head_in : (f : Symbol) (ts : List Term) (e : Env) (fs : Facts) (v : V) → Each Holds ts → known D (Call f ts) ≡ true → KnownFacts D fs → FactsHold D e fs
      → meaning c (Call f ts) e ≡ Some v → (r : Option (Term × Term × Term)) → if_parts (prim_of f) ts ≡ r → In (head_types K f (prim_of f) (map (typed K) ts) fs) v
  head_in f ts e fs v ps k ks hs is (Some (a, b, d)) q =
      let (p, whole) = parts_some K (prim_of f) ts a b d q in
      let es : Each Holds (a ∷ b ∷ d ∷ []) = subst (Each Holds) whole ps in
      let us : Each (λ u. known D u ≡ true) (a ∷ b ∷ d ∷ []) = subst (Each (λ u. known D u ≡ true)) whole (each_true (known D) ts (known_args D f ts k)) in
      let h : if_of (meaning c a e ∷ meaning c b e ∷ meaning c d e ∷ []) ≡ Some v = subst (λ xs. if_of (map (λ n. n e) (map (meaning c) xs)) ≡ Some v) whole (head_means f ts e v is (Some If) p) in
      rw (head_if K f (prim_of f) ts a b d fs q) (if_in a b d e fs v es.0 es.1.0 es.1.1.0 us.0 us.1.0 us.1.1.0 ks hs h)
  head_in f ts e fs v ps k ks hs is None q =
      rw (head_other K f (prim_of f) ts fs q) (other_head f ts e fs v ps k ks hs is (prim_of f) refl q (head_means f ts e v is (prim_of f) refl))

  called_at : (f : Symbol) (ts : List Term) → Each Holds ts → Holds (Call f ts)
  called_at f ts ps e fs v k ks hs is =
      rw (types_call K f ts fs) (cut_at (Call f ts) e fs v (head_types K f (prim_of f) (map (typed K) ts) fs) ks hs is (head_in f ts e fs v ps k ks hs is (if_parts (prim_of f) ts) refl))

  pub types_hold : (u : Term) → Holds u
  types_hold u = term_ind Holds variable quoted called_at u
