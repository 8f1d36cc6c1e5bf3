-- What terms mean in a total world, with no units and no missing value: a plain fold over what calls
-- give. It is the tool of the proofs about total worlds; no contract speaks of it.
use Rattle.std.proofs.Common.{◌≡◌, ◌≢◌, ℕ, zero, suc, ◌+◌, Bool, true, false, cond, nat_eq, List, [], ◌∷◌, ◌++◌, map, length, zip, Option, Some, None, unwrap_or, refl, ap, ◌∙◌, sym, subst, add_comm, eqb-true, eq-eqb, inl, inr, arith}
use Rattle.std.proofs.Math.ListN.{length-map}
use Rattle.ap_list.specs.Lists.{Each, AnyOf, with_first, all_some, all_true, lookup_by}
use Rattle.ap_value.specs.declared.symbol.Symbol.{Symbol}
use Rattle.ap_value.specs.declared.value.Value.{Value}
use Rattle.ap_value.specs.Values.{V, val_of, symbol_eq, value_eq}
use Rattle.ap_term.specs.declared.term.Term.{Term, fold-Term, Var, Quote, Call}
use Rattle.ap_term.specs.declared.term.Term.TheOpen.{Term-F}
use Rattle.ap_term.specs.Terms.{subst_step, subst_of}
use Rattle.ap_term.proofs.Induction.{term_ind, fold_var, fold_quote, fold_call}
use Rattle.ap_world.specs.declared.entry.Function.{Function}
use Rattle.ap_world.specs.Primitives.{nil, Prim, If, Equal, Consp, Integerp, Symbolp, Stringp, Characterp, Cons, Car, Cdr, Plus, Times, Minus, Less, CharCode, CodeChar, SymbolName, Coerce, prim, prim_of, prim_arity}
use Rattle.ap_world.specs.Meaning.{Env, value_at, Defs, Calls, if_of, applied, prim_call, head_call, meaning, body_value, calls, ev, HasValue, CallValue, Total, IsHeld, Valid}
use Rattle.ap_world.specs.Sound.{is_head, takes, known}
use Rattle.ap_world.proofs.Fuel.{CallsKeep, meaning_var, meaning_quote, meaning_call, meaning_keep, calls_more, ev-more, call_unique}
use Rattle.ap_world.proofs.Knowing.{known_head, known_args, each_true, each_same}

-- what each call gives
abbrev pub Apply : Type 0
Apply = Symbol → List V → V

-- a primitive's value, nil where the number of arguments is another
abbrev pub prim_val : Prim → List V → V
prim_val p vs = unwrap_or (prim p vs) nil

abbrev pub head_val : Apply → Symbol → Option Prim → List V → V
head_val A f (Some p) vs = prim_val p vs
head_val A f None vs = A f vs

abbrev pub val_step : Apply → Term-F (Env → V) → Env → V
val_step A (Term-F.Var x) e = value_at e x
val_step A (Term-F.Quote q) e = val_of q
val_step A (Term-F.Call f ms) e = head_val A f (prim_of f) (map (λ m. m e) ms)

abbrev pub val : Apply → Term → Env → V
val A = fold-Term (Env → V) (val_step A)

-- the values of terms
abbrev pub values_of : Apply → List Term → Env → List V
values_of A ts e = map (λ m. m e) (map (val A) ts)

-- A is what calls of D's functions give
abbrev pub Models : Defs → Apply → Type 0
Models D A = (f : Symbol) (g : Function) (vs : List V) → D f ≡ Some g → length g.formals ≡ length vs → CallValue D f vs (A f vs)

-- every term, and some term, is other than nil
abbrev pub AllTrue : Apply → Env → List Term → Type 0
AllTrue A e ts = Each (λ u. val A u e ≢ nil) ts

abbrev pub AnyTrue : Apply → Env → List Term → Type 0
AnyTrue A e ts = AnyOf (λ u. val A u e ≢ nil) ts

pub val_var : (A : Apply) (x : Symbol) (e : Env) → val A (Var x) e ≡ value_at e x
val_var A x e = ap (λ m. m e) (fold_var (val_step A) x)

pub val_quote : (A : Apply) (q : Value) (e : Env) → val A (Quote q) e ≡ val_of q
val_quote A q e = ap (λ m. m e) (fold_quote (val_step A) q)

pub val_call : (A : Apply) (f : Symbol) (ts : List Term) (e : Env) → val A (Call f ts) e ≡ head_val A f (prim_of f) (values_of A ts e)
val_call A f ts e = ap (λ m. m e) (fold_call (val_step A) f ts)

-- a total world has such calls
pub models : (D : Defs) → Total D → (A : Apply) × Models D A
models D total = (λ f vs. (at f vs).0, λ f g vs. (at f vs).1 g)
  where
    Given : Symbol → List V → V → Type 0
    Given f vs v = (g : Function) → D f ≡ Some g → length g.formals ≡ length vs → CallValue D f vs v

    fit : (f : Symbol) (vs : List V) (k : Function) → D f ≡ Some k → (b : Bool) → nat_eq (length k.formals) (length vs) ≡ b → (v : V) × Given f vs v
    fit f vs k e true q = let t = total f k vs e (eqb-true (length k.formals) (length vs) q) in (t.0, λ g h l. t.1)
    fit f vs k e false q = (nil, λ g h l. absurd (not_so g h l))
      where
        not_so : (g : Function) → D f ≡ Some g → length g.formals ≡ length vs → ⊥
        not_so g h l =
            let same : g ≡ k = cc in
            let r = eq-eqb (length k.formals) (length vs) (ap (λ (x : Function). length x.formals) (sym same) ∙ l) in cc

    go : (f : Symbol) (vs : List V) (o : Option Function) → D f ≡ o → (v : V) × Given f vs v
    go f vs None e = (nil, λ g h l. absurd (not_so g h))
      where
        not_so : (g : Function) → D f ≡ Some g → ⊥
        not_so g h = cc
    go f vs (Some k) e = fit f vs k e (nat_eq (length k.formals) (length vs)) refl

    at : (f : Symbol) (vs : List V) → (v : V) × Given f vs v
    at f vs = go f vs (D f) refl

-- what the option gives, if anything, is the value
abbrev Gives : {A : Type 0} → Option A → A → Type 0
Gives {A} o w = (v : A) → o ≡ Some v → v ≡ w

abbrev GiveEach : List (Option V) → List V → Type 0
GiveEach [] [] = Unit {0}
GiveEach (o ∷ os) (w ∷ ws) = Gives o w × GiveEach os ws
GiveEach os ws = ⊥

first_gives : (a b : V) (o : Option (List V)) (ws : List V) → a ≡ b → Gives o ws → Gives (with_first a o) (b ∷ ws)
first_gives a b None ws e k v h = cc
first_gives a b (Some xs) ws e k v h = let m = k xs refl in cc

all_some_gives : (os : List (Option V)) (ws : List V) → GiveEach os ws → Gives (all_some os) ws
all_some_gives [] [] k v h = cc
all_some_gives [] (w ∷ ws) k v h = absurd k
all_some_gives (o ∷ os) [] k v h = absurd k
all_some_gives (None ∷ os) (w ∷ ws) k v h = cc
all_some_gives (Some a ∷ os) (w ∷ ws) k v h = first_gives a w (all_some os) ws (k.0 a refl) (all_some_gives os ws k.1) v h

choose_gives : (t : Bool) (a b : Option V) (x y : V) → Gives a x → Gives b y → Gives (cond t a b) (cond t x y)
choose_gives true a b x y k l = k
choose_gives false a b x y k l = l

if_gives : (os : List (Option V)) (ws : List V) → GiveEach os ws → Gives (if_of os) (prim_val If ws)
if_gives (Some a ∷ b ∷ c ∷ []) (x ∷ y ∷ z ∷ []) k = rw (← k.0 a refl) (choose_gives (value_eq a nil) c b z y k.1.1.0 k.1.0)
if_gives (Some a ∷ b ∷ c ∷ []) [] k = absurd k
if_gives (Some a ∷ b ∷ c ∷ []) (x ∷ []) k = absurd k.1
if_gives (Some a ∷ b ∷ c ∷ []) (x ∷ y ∷ []) k = absurd k.1.1
if_gives (Some a ∷ b ∷ c ∷ []) (x ∷ y ∷ z ∷ w ∷ ws) k = absurd k.1.1.1
if_gives os ws k = λ v h. cc

applied_gives : (f : List V → Option V) (g : List V → V) → ((vs : List V) → Gives (f vs) (g vs)) → (o : Option (List V)) (ws : List V) → Gives o ws → Gives (applied f o) (g ws)
applied_gives f g k None ws l v h = cc
applied_gives f g k (Some vs) ws l v h = rw (← l vs refl) (k vs v h)

or_gives : (o : Option V) → Gives o (unwrap_or o nil)
or_gives None v h = cc
or_gives (Some w) v h = cc

prim_gives : (p : Prim) (os : List (Option V)) (ws : List V) → GiveEach os ws → Gives (prim_call p os) (prim_val p ws)
prim_gives If os ws k = if_gives os ws k
prim_gives p os ws k = applied_gives (prim p) (prim_val p) (λ vs. or_gives (prim p vs)) (all_some os) ws (all_some_gives os ws k)

-- every call has the value that A gives
abbrev full : Apply → Calls
full A f vs = Some (A f vs)

head_gives : (A : Apply) (f : Symbol) (o : Option Prim) (os : List (Option V)) (ws : List V) → GiveEach os ws → Gives (head_call (full A) f o os) (head_val A f o ws)
head_gives A f (Some p) os ws k = prim_gives p os ws k
head_gives A f None os ws k = applied_gives (full A f) (A f) (λ vs v h. cc) (all_some os) ws (all_some_gives os ws k)

full_gives : (A : Apply) (u : Term) (e : Env) → Gives (meaning (full A) u e) (val A u e)
full_gives A u e = term_ind (λ u. Gives (meaning (full A) u e) (val A u e)) variable constant call u
  where
    variable : (x : Symbol) → Gives (meaning (full A) (Var x) e) (val A (Var x) e)
    variable x = λ v h. let p = meaning_var (full A) x e in let q = val_var A x e in cc

    constant : (q : Value) → Gives (meaning (full A) (Quote q) e) (val A (Quote q) e)
    constant q = λ v h. let p = meaning_quote (full A) q e in let r = val_quote A q e in cc

    args : (ts : List Term) → Each (λ u. Gives (meaning (full A) u e) (val A u e)) ts → GiveEach (map (λ m. m e) (map (meaning (full A)) ts)) (values_of A ts e)
    args [] es = tt
    args (t ∷ ts) es = (es.0, args ts es.1)

    call : (f : Symbol) (ts : List Term) → Each (λ u. Gives (meaning (full A) u e) (val A u e)) ts → Gives (meaning (full A) (Call f ts) e) (val A (Call f ts) e)
    call f ts es = λ v h. head_gives A f (prim_of f) _ _ (args ts es) v (sym (meaning_call (full A) f ts e) ∙ h) ∙ sym (val_call A f ts e)

calls_full : (D : Defs) (A : Apply) → Models D A → (n : ℕ) → CallsKeep (calls n D) (full A)
calls_full D A m zero f vs v h = cc
calls_full D A m (suc n) f vs v h = defined (D f) refl h
  where
    fits : (g : Function) → D f ≡ Some g → (b : Bool) → nat_eq (length g.formals) (length vs) ≡ b → Some (A f vs) ≡ Some v
    fits g e true q = ap Some (call_unique D f vs (A f vs) v (m f g vs e (eqb-true (length g.formals) (length vs) q)) (suc n, h))
    fits g e false q = absurd (no_value (rw (e, q) at h))
      where
        no_value : None ≡ Some v → ⊥
        no_value l = cc

    defined : (o : Option Function) → D f ≡ o → body_value (calls n D) o vs ≡ Some v → Some (A f vs) ≡ Some v
    defined None e l = cc
    defined (Some g) e l = fits g e (nat_eq (length g.formals) (length vs)) refl

-- whatever has a value in a total world means it
pub value_is : (D : Defs) (A : Apply) → Models D A → (u : Term) (e : Env) (v : V) → HasValue D u e v → v ≡ val A u e
value_is D A m u e v (n, h) = full_gives A u e v (meaning_keep (calls n D) (full A) (calls_full D A m n) u e v h)

-- what a call gives is what its function's body means
pub apply_is : (D : Defs) (A : Apply) → Models D A → (f : Symbol) (g : Function) (vs : List V) → D f ≡ Some g → length g.formals ≡ length vs → A f vs ≡ val A g.body (zip g.formals vs)
apply_is D A m f g vs e l = go (m f g vs e l)
  where
    opened : (c : Calls) → body_value c (D f) vs ≡ meaning c g.body (zip g.formals vs)
    opened c = rw (e, eq-eqb (length g.formals) (length vs) l) refl

    go : CallValue D f vs (A f vs) → A f vs ≡ val A g.body (zip g.formals vs)
    go (zero, h) = absurd (no_value h)
      where
        no_value : None ≡ Some (A f vs) → ⊥
        no_value l = cc
    go (suc n, h) = value_is D A m g.body (zip g.formals vs) (A f vs) (n, sym (opened (calls n D)) ∙ h)

-- a list of one, two, three elements
pub one_of : (P : List V → Type 0) → ((x : V) → P (x ∷ [])) → (ws : List V) → 1 ≡ length ws → P ws
one_of P k [] h = absurd (omega arith)
one_of P k (x ∷ []) h = k x
one_of P k (x ∷ y ∷ ws) h = absurd (omega arith)

pub two_of : (P : List V → Type 0) → ((x y : V) → P (x ∷ y ∷ [])) → (ws : List V) → 2 ≡ length ws → P ws
two_of P k [] h = absurd (omega arith)
two_of P k (x ∷ []) h = absurd (omega arith)
two_of P k (x ∷ y ∷ []) h = k x y
two_of P k (x ∷ y ∷ z ∷ ws) h = absurd (omega arith)

pub three_of : (P : List V → Type 0) → ((x y z : V) → P (x ∷ y ∷ z ∷ [])) → (ws : List V) → 3 ≡ length ws → P ws
three_of P k [] h = absurd (omega arith)
three_of P k (x ∷ []) h = absurd (omega arith)
three_of P k (x ∷ y ∷ []) h = absurd (omega arith)
three_of P k (x ∷ y ∷ z ∷ []) h = k x y z
three_of P k (x ∷ y ∷ z ∷ w ∷ ws) h = absurd (omega arith)

abbrev pub Fits : Prim → List V → Type 0
Fits p ws = prim_call p (map Some ws) ≡ Some (prim_val p ws)

pub choose_some : (t : Bool) (y z : V) → cond t (Some z) (Some y) ≡ Some (cond t z y)
choose_some true y z = refl
choose_some false y z = refl

pub prim_counted : (p : Prim) (ws : List V) → prim_arity p ≡ length ws → Fits p ws
prim_counted If ws h = three_of (Fits If) (λ x y z. choose_some (value_eq x nil) y z) ws h
prim_counted Equal ws h = two_of (Fits Equal) (λ x y. refl) ws h
prim_counted Consp ws h = one_of (Fits Consp) (λ x. refl) ws h
prim_counted Integerp ws h = one_of (Fits Integerp) (λ x. refl) ws h
prim_counted Symbolp ws h = one_of (Fits Symbolp) (λ x. refl) ws h
prim_counted Stringp ws h = one_of (Fits Stringp) (λ x. refl) ws h
prim_counted Characterp ws h = one_of (Fits Characterp) (λ x. refl) ws h
prim_counted Cons ws h = two_of (Fits Cons) (λ x y. refl) ws h
prim_counted Car ws h = one_of (Fits Car) (λ x. refl) ws h
prim_counted Cdr ws h = one_of (Fits Cdr) (λ x. refl) ws h
prim_counted Plus ws h = two_of (Fits Plus) (λ x y. refl) ws h
prim_counted Times ws h = two_of (Fits Times) (λ x y. refl) ws h
prim_counted Minus ws h = one_of (Fits Minus) (λ x. refl) ws h
prim_counted Less ws h = two_of (Fits Less) (λ x y. refl) ws h
prim_counted CharCode ws h = one_of (Fits CharCode) (λ x. refl) ws h
prim_counted CodeChar ws h = one_of (Fits CodeChar) (λ x. refl) ws h
prim_counted SymbolName ws h = one_of (Fits SymbolName) (λ x. refl) ws h
prim_counted Coerce ws h = two_of (Fits Coerce) (λ x y. refl) ws h

pub all_some_values : (ws : List V) → all_some (map Some ws) ≡ Some ws
all_some_values [] = refl
all_some_values (w ∷ ws) = ap (with_first w) (all_some_values ws)

-- a head with its number of arguments gives its value, with so many units and any more
head_ready : (D : Defs) (A : Apply) → Models D A → (f : Symbol) (o : Option Prim) (ws : List V) → is_head D f o (length ws) ≡ true
    → (k : ℕ) × ((n : ℕ) → head_call (calls (n + k) D) f o (map Some ws) ≡ Some (head_val A f o ws))
head_ready D A m f (Some p) ws h = (0, λ n. prim_counted p ws (eqb-true (prim_arity p) (length ws) h))
head_ready D A m f None ws h = defined (D f) refl h
  where
    defined : (o : Option Function) → D f ≡ o → takes o (length ws) ≡ true → (k : ℕ) × ((n : ℕ) → head_call (calls (n + k) D) f None (map Some ws) ≡ Some (A f ws))
    defined None e l = absurd (not_so l)
      where
        not_so : false ≡ true → ⊥
        not_so q = cc
    defined (Some g) e l =
        let c = m f g ws e (eqb-true (length g.formals) (length ws) l) in
        (c.0, λ n. ap (applied (calls (n + c.0) D f)) (all_some_values ws) ∙ calls_more D n c.0 f ws (A f ws) c.1)

-- each term has its value with so many units
abbrev EachValued : Defs → Apply → Env → ℕ → List Term → Type 0
EachValued D A e n ts = Each (λ u. ev n D u e ≡ Some (val A u e)) ts

valued_more : (D : Defs) (A : Apply) (e : Env) (k n : ℕ) (ts : List Term) → EachValued D A e n ts → EachValued D A e (k + n) ts
valued_more D A e k n ts es = each_same ts (λ u h. ev-more D k n u e (val A u e) h) es

valued_args : (D : Defs) (A : Apply) (e : Env) (ts : List Term) → Each (λ u. HasValue D u e (val A u e)) ts → (n : ℕ) × EachValued D A e n ts
valued_args D A e [] es = (0, tt)
valued_args D A e (t ∷ ts) es =
    let (m, p) = es.0 in
    let (n, ps) = valued_args D A e ts es.1 in
    (n + m, (ev-more D n m t e (val A t e) p, subst (λ k. EachValued D A e k ts) (add_comm m n) (valued_more D A e m n ts ps)))

values_are : (D : Defs) (A : Apply) (e : Env) (n : ℕ) (ts : List Term) → EachValued D A e n ts → map (λ m. m e) (map (meaning (calls n D)) ts) ≡ map Some (values_of A ts e)
values_are D A e n [] es = refl
values_are D A e n (t ∷ ts) es = ap (λ o. o ∷ map (λ m. m e) (map (meaning (calls n D)) ts)) es.0 ∙ ap (λ os. Some (val A t e) ∷ os) (values_are D A e n ts es.1)

pub values_of-length : (A : Apply) (ts : List Term) (e : Env) → length (values_of A ts e) ≡ length ts
values_of-length A ts e = length-map (map (val A) ts) (λ m. m e) ∙ length-map ts (val A)

-- a known term has its value
pub val_is : (D : Defs) (A : Apply) → Models D A → (u : Term) → known D u ≡ true → (e : Env) → HasValue D u e (val A u e)
val_is D A m u u_known e = term_ind Goal variable constant call u u_known
  where
    Goal : Term → Type 0
    Goal u = known D u ≡ true → HasValue D u e (val A u e)

    variable : (x : Symbol) → Goal (Var x)
    variable x = λ k. (0, meaning_var (calls 0 D) x e ∙ ap Some (sym (val_var A x e)))

    constant : (q : Value) → Goal (Quote q)
    constant q = λ k. (0, meaning_quote (calls 0 D) q e ∙ ap Some (sym (val_quote A q e)))

    args : (ts : List Term) → Each Goal ts → Each (λ u. known D u ≡ true) ts → Each (λ u. HasValue D u e (val A u e)) ts
    args [] es ks = tt
    args (t ∷ ts) es ks = (es.0 ks.0, args ts es.1 ks.1)

    ready : (f : Symbol) (ts : List Term) → (k : ℕ) × ((n : ℕ) → head_call (calls (n + k) D) f (prim_of f) (map Some (values_of A ts e)) ≡ Some (head_val A f (prim_of f) (values_of A ts e)))
        → (n : ℕ) × EachValued D A e n ts → HasValue D (Call f ts) e (val A (Call f ts) e)
    ready f ts (k, h) (n, es) =
        let es : EachValued D A e (n + k) ts = subst (λ j. EachValued D A e j ts) (add_comm k n) (valued_more D A e k n ts es) in
        (n + k, meaning_call (calls (n + k) D) f ts e ∙ ap (head_call (calls (n + k) D) f (prim_of f)) (values_are D A e (n + k) ts es) ∙ h n ∙ ap Some (sym (val_call A f ts e)))

    call : (f : Symbol) (ts : List Term) → Each Goal ts → Goal (Call f ts)
    call f ts es = λ k. ready f ts
        (head_ready D A m f (prim_of f) (values_of A ts e) (rw (values_of-length A ts e) (known_head D f ts k)))
        (valued_args D A e ts (args ts es (each_true (known D) ts (known_args D f ts k))))

-- in a total world each known term has a value
pub known_valued : (D : Defs) → Total D → (u : Term) → known D u ≡ true → (e : Env) → (v : V) × HasValue D u e v
known_valued D total u u_known e = let m = models D total in (val m.0 u e, val_is D m.0 m.1 u u_known e)

-- a term that is held means other than nil, and the other way round where it is known
pub held_is : (D : Defs) (A : Apply) → Models D A → (e : Env) (ts : List Term) → AnyOf (IsHeld D e) ts → AnyTrue A e ts
held_is D A m e [] h = h
held_is D A m e (t ∷ ts) (inl h) = inl (λ isnil. h.2 (value_is D A m t e h.0 h.1 ∙ isnil))
held_is D A m e (t ∷ ts) (inr h) = inr (held_is D A m e ts h)

pub true_held : (D : Defs) (A : Apply) → Models D A → (e : Env) (ts : List Term) → all_true (map (known D) ts) ≡ true → AnyTrue A e ts → AnyOf (IsHeld D e) ts
true_held D A m e ts ts_known h = go ts (each_true (known D) ts ts_known) h
  where
    go : (ts : List Term) → Each (λ u. known D u ≡ true) ts → AnyTrue A e ts → AnyOf (IsHeld D e) ts
    go [] ks h = h
    go (t ∷ ts) ks (inl h) = inl (val A t e, val_is D A m t ks.0 e, h)
    go (t ∷ ts) ks (inr h) = inr (go ts ks.1 h)

-- a valid clause has a literal other than nil, and a clause of known terms that has one is valid
pub valid_is : (D : Defs) (A : Apply) → Models D A → (ts : List Term) → Valid D ts → (e : Env) → AnyTrue A e ts
valid_is D A m ts valid e = held_is D A m e ts (valid e)

pub valid_of : (D : Defs) (A : Apply) → Models D A → (ts : List Term) → all_true (map (known D) ts) ≡ true → ((e : Env) → AnyTrue A e ts) → Valid D ts
valid_of D A m ts ts_known h = λ e. true_held D A m e ts ts_known (h e)

-- the assignment under which a term means what its instance means: the pairs' terms at their values, first
abbrev pub replaced : Apply → List (Symbol × Term) → Env → Env
replaced A s e = map (λ p. (p.0, val A p.1 e)) s ++ e

pub val_subst : (A : Apply) (s : List (Symbol × Term)) (u : Term) (e : Env) → val A (subst_of s u) e ≡ val A u (replaced A s e)
val_subst A s u e = term_ind (λ u. val A (subst_of s u) e ≡ val A u (replaced A s e)) variable constant call u
  where
    found : (s : List (Symbol × Term)) (x : Symbol) → val A (unwrap_or (lookup_by symbol_eq s x) (Var x)) e ≡ value_at (replaced A s e) x
    found [] x = val_var A x e
    found (p ∷ ps) x = choose (symbol_eq x p.0) (found ps x)
      where
        choose : (b : Bool) → val A (unwrap_or (lookup_by symbol_eq ps x) (Var x)) e ≡ value_at (replaced A ps e) x
            → val A (unwrap_or (cond b (Some p.1) (lookup_by symbol_eq ps x)) (Var x)) e ≡ unwrap_or (cond b (Some (val A p.1 e)) (lookup_by symbol_eq (replaced A ps e) x)) nil
        choose true h = refl
        choose false h = h

    variable : (x : Symbol) → val A (subst_of s (Var x)) e ≡ val A (Var x) (replaced A s e)
    variable x = ap (λ u. val A u e) (fold_var (subst_step s) x) ∙ found s x ∙ sym (val_var A x (replaced A s e))

    constant : (q : Value) → val A (subst_of s (Quote q)) e ≡ val A (Quote q) (replaced A s e)
    constant q = ap (λ u. val A u e) (fold_quote (subst_step s) q) ∙ val_quote A q e ∙ sym (val_quote A q (replaced A s e))

    args : (ts : List Term) → Each (λ u. val A (subst_of s u) e ≡ val A u (replaced A s e)) ts → values_of A (map (subst_of s) ts) e ≡ values_of A ts (replaced A s e)
    args [] es = refl
    args (t ∷ ts) es = ap (λ v. v ∷ values_of A (map (subst_of s) ts) e) es.0 ∙ ap (λ vs. val A t (replaced A s e) ∷ vs) (args ts es.1)

    call : (f : Symbol) (ts : List Term) → Each (λ u. val A (subst_of s u) e ≡ val A u (replaced A s e)) ts → val A (subst_of s (Call f ts)) e ≡ val A (Call f ts) (replaced A s e)
    call f ts es = ap (λ u. val A u e) (fold_call (subst_step s) f ts) ∙ val_call A f (map (subst_of s) ts) e
        ∙ ap (head_val A f (prim_of f)) (args ts es) ∙ sym (val_call A f ts (replaced A s e))
