-- What may be added to a sound world so that it stays sound.
use Rattle.std.proofs.Common.{◌≡◌, ℕ, zero, suc, Bool, true, false, cond, nat_eq, IfSome, List, [], ◌∷◌, ◌++◌, map, length, zip, Option, Some, None, is_some, refl, ap, ◌∙◌, sym, subst, true≢false, eqb-true, eq-eqb}
use Rattle.ap_list.specs.Lists.{Each, all_true, joined, is_distinct}
use Rattle.ap_value.specs.declared.symbol.Symbol.{Symbol}
use Rattle.ap_value.specs.declared.value.Value.{Value}
use Rattle.ap_value.specs.Values.{V, symbol_eq}
use Rattle.ap_value.proofs.Equals.{symbol_eq-true, symbol_eq-same}
use Rattle.ap_term.specs.declared.term.Term.{Term, Call}
use Rattle.ap_term.proofs.Induction.{term_ind}
use Rattle.ap_world.specs.declared.entry.Measure.{Measure}
use Rattle.ap_world.specs.declared.entry.Function.{Function}
use Rattle.ap_world.specs.declared.entry.Theorem.{Theorem}
use Rattle.ap_world.specs.declared.entry.Entry.{Entry}
use Rattle.ap_world.specs.declared.entry.Entry.TheVariants as entry
use Rattle.ap_world.specs.Primitives.{prim_of}
use Rattle.ap_world.specs.Meaning.{Defs, meaning, body_value, calls, HasValue, CallValue, Total, Valid}
use Rattle.ap_world.specs.Types.{Has}
use Rattle.ap_world.specs.Recursion.{is_empty, calls_in, has_no_call}
use Rattle.ap_world.specs.Sound.{takes, is_head, known, components, speaks_of, given_function, HasFunctions, DefinedAlike, Recurs, GoodFunction, GoodTheorem, Good, Sound}
use Rattle.ap_world.specs.World.{name_in, entry_of, as_function, function_of, has_name}
use Rattle.ap_world.proofs.Fuel.{call_unique, value_unique}
use Rattle.ap_world.proofs.Knowing.{known_head, known_args, each_true, each_same}
use Rattle.ap_world.proofs.Written.{calls_var, calls_quote, calls_call}
use Rattle.ap_world.proofs.TotalMeaning.{known_valued}
use Rattle.ap_world.specs.Ground.{ground_functions}
use Rattle.ap_world.proofs.Extending.{Extends, value_extend, call_extend, known_extend, all_known_extend, valid_extend, entry_of-kept, not_taken, extends-append, function_of-theorem, function_of-constant, function_of-here, function_of-other}

pub each_append : {A : Type 0} (P : A → Type 0) (xs ys : List A) → Each P xs → Each P ys → Each P (xs ++ ys)
each_append P [] ys ps qs = qs
each_append P (x ∷ xs) ys ps qs = (ps.0, each_append P xs ys ps.1 qs)

-- where a call has a value, its name is defined, with as many formals
pub call_defined : (D : Defs) (f : Symbol) (vs : List V) (v : V) → CallValue D f vs v → (g : Function) × (D f ≡ Some g) × (length g.formals ≡ length vs)
call_defined D f vs v (zero, h) = absurd (no h)
  where
    no : None ≡ Some v → ⊥
    no l = cc
call_defined D f vs v (suc n, h) = defined (D f) refl h
  where
    fits : (g : Function) → D f ≡ Some g → (b : Bool) → nat_eq (length g.formals) (length vs) ≡ b → cond b (meaning (calls n D) g.body (zip g.formals vs)) None ≡ Some v → (g : Function) × (D f ≡ Some g) × (length g.formals ≡ length vs)
    fits g e true q l = (g, e, eqb-true (length g.formals) (length vs) q)
    fits g e false q l = absurd (no l)
      where
        no : None ≡ Some v → ⊥
        no k = cc

    defined : (o : Option Function) → D f ≡ o → body_value (calls n D) o vs ≡ Some v → (g : Function) × (D f ≡ Some g) × (length g.formals ≡ length vs)
    defined None e l = absurd (no l)
      where
        no : None ≡ Some v → ⊥
        no k = cc
    defined (Some g) e l = fits g e (nat_eq (length g.formals) (length vs)) refl l

-- where a name has the definition that it had, a call has the value that it had, since it had one
pub call_back : (D E : Defs) → Total D → Extends D E → (f : Symbol) → E f ≡ D f → (vs : List V) (v : V) → CallValue E f vs v → CallValue D f vs v
call_back D E total x f same vs v h =
    let (g, e, l) = call_defined E f vs v h in
    let (w, d) = total f g vs (sym same ∙ e) l in
    subst (λ u. CallValue D f vs u) (call_unique E f vs w v (call_extend D E x f vs w d) h) d

recurs_extend : (D E : Defs) → Extends D E → (f : Function) (o : Option Measure) → Recurs D f o → Recurs E f o
recurs_extend D E x f None r = r
recurs_extend D E x f (Some m) r = record {
  recurs = r.recurs;
  unnested = r.unnested;
  cases = r.cases;
  natural = each_same _ (valid_extend D E x) r.natural;
  falls = each_same _ (valid_extend D E x) r.falls;
}

-- a good function stays good in a larger world in which its name has the definition that it had
pub good-extend : (D E : Defs) → Total D → Extends D E → (f : Function) → E f.name ≡ D f.name → GoodFunction D f → GoodFunction E f
good-extend D E total x f same g = record {
  formals = g.formals;
  body_speaks = g.body_speaks;
  measure_speaks = g.measure_speaks;
  body_known = known_extend D E x f.body g.body_known;
  measure_known = all_known_extend D E x (components f.measure) g.measure_known;
  given = g.given;
  recursion = recurs_extend D E x f f.measure g.recursion;
  mask = λ vs v l h. g.mask vs v l (call_back D E total x f.name same vs v h);
}

pub good_theorem-extend : (D E : Defs) → Extends D E → (u : Theorem) → GoodTheorem D u → GoodTheorem E u
good_theorem-extend D E x u g = record {
  term_known = known_extend D E x u.term g.term_known;
  valid = valid_extend D E x (u.term ∷ []) g.valid;
}

-- each entry's name has an entry
pub all_named : (W : List Entry) → Each (λ y. is_some (entry_of W (name_in y)) ≡ true) W
all_named [] = tt
all_named (z ∷ W) = (ap (λ b. is_some (cond b (Some z) (entry_of W (name_in z)))) (symbol_eq-same (name_in z)), each_same W more (all_named W))
  where
    more : (y : Entry) → is_some (entry_of W (name_in y)) ≡ true → is_some (entry_of (z ∷ W) (name_in y)) ≡ true
    more y h = choose (symbol_eq (name_in y) (name_in z))
      where
        choose : (b : Bool) → is_some (cond b (Some z) (entry_of W (name_in y))) ≡ true
        choose true = refl
        choose false = h

-- a name that has an entry has the definition that it had
pub defined_as_before : (W X : List Entry) (x : Symbol) → is_some (entry_of W x) ≡ true → function_of (W ++ X) x ≡ function_of W x
defined_as_before W X x h = go (entry_of W x) refl h
  where
    go : (o : Option Entry) → entry_of W x ≡ o → is_some o ≡ true → function_of (W ++ X) x ≡ as_function o
    go None e k = cc
    go (Some y) e k = ap as_function (entry_of-kept W X x y e)

good_entry-extend : (D E : Defs) → Total D → Extends D E → (y : Entry) → E (name_in y) ≡ D (name_in y) → Good D y → Good E y
good_entry-extend D E total x (entry.Function f) same g = good-extend D E total x f same g
good_entry-extend D E total x (entry.Theorem u) same g = good_theorem-extend D E x u g
good_entry-extend D E total x (entry.Constant c v) same g = g

-- the entries of a world stay good when more are added
pub entries_good : (W X : List Entry) → Sound W → Each (Good (function_of (W ++ X))) W
entries_good W X sound = go W (all_named W) sound.good
  where
    go : (Y : List Entry) → Each (λ y. is_some (entry_of W (name_in y)) ≡ true) Y → Each (Good (function_of W)) Y → Each (Good (function_of (W ++ X))) Y
    go [] ns gs = tt
    go (y ∷ Y) ns gs = (good_entry-extend (function_of W) (function_of (W ++ X)) sound.total (extends-append W X) y (defined_as_before W X (name_in y) ns.0) gs.0, go Y ns.1 gs.1)

pub sound-none : Sound []
sound-none = record {
  total = λ f g vs h l. absurd (no g h);
  good = tt;
}
  where
    no : (g : Function) → None ≡ Some g → ⊥
    no g k = cc

pub sound-theorem : (W : List Entry) (u : Theorem) → Sound W → known (function_of W) u.term ≡ true → Valid (function_of W) (u.term ∷ []) → Sound (W ++ entry.Theorem u ∷ [])
sound-theorem W u sound u_known valid = record {
  total = subst Total (sym (function_of-theorem W u)) sound.total;
  good = subst (λ D. Each (Good D) (W ++ entry.Theorem u ∷ [])) (sym (function_of-theorem W u))
      (each_append (Good (function_of W)) W (entry.Theorem u ∷ []) sound.good (record { term_known = u_known; valid = valid }, tt));
}

pub sound-constant : (W : List Entry) (c : Symbol) (v : Value) → Sound W → Sound (W ++ entry.Constant c v ∷ [])
sound-constant W c v sound = record {
  total = subst Total (sym (function_of-constant W c v)) sound.total;
  good = subst (λ D. Each (Good D) (W ++ entry.Constant c v ∷ [])) (sym (function_of-constant W c v))
      (each_append (Good (function_of W)) W (entry.Constant c v ∷ []) sound.good (tt, tt));
}

-- a function may be added that is good in the world with it, if that world is total
pub sound-function : (W : List Entry) (f : Function) → Sound W → Total (function_of (W ++ entry.Function f ∷ [])) → GoodFunction (function_of (W ++ entry.Function f ∷ [])) f → Sound (W ++ entry.Function f ∷ [])
sound-function W f sound total good = record {
  total = total;
  good = each_append (Good (function_of (W ++ entry.Function f ∷ []))) W (entry.Function f ∷ []) (entries_good W (entry.Function f ∷ []) sound) (good, tt);
}

-- a function whose body is known without it is total
pub total-define : (W : List Entry) (f : Function) → Total (function_of W) → has_name W f.name ≡ false → known (function_of W) f.body ≡ true → Total (function_of (W ++ entry.Function f ∷ []))
total-define W f total fresh body_known = λ x g vs e l. at x g vs e l (symbol_eq x f.name) refl
  where
    D : Defs
    D = function_of W

    E : Defs
    E = function_of (W ++ entry.Function f ∷ [])

    opened : (n : ℕ) (vs : List V) → length f.formals ≡ length vs → calls (suc n) E f.name vs ≡ meaning (calls n E) f.body (zip f.formals vs)
    opened n vs l = rw (function_of-here W f fresh, eq-eqb (length f.formals) (length vs) l) refl

    here : (vs : List V) → length f.formals ≡ length vs → (v : V) × CallValue E f.name vs v
    here vs l =
        let (v, h) = known_valued D total f.body body_known (zip f.formals vs) in
        let (n, k) = value_extend D E (extends-append W (entry.Function f ∷ [])) f.body (zip f.formals vs) v h in
        (v, (suc n, opened n vs l ∙ k))

    at : (x : Symbol) (g : Function) (vs : List V) → E x ≡ Some g → length g.formals ≡ length vs → (b : Bool) → symbol_eq x f.name ≡ b → (v : V) × CallValue E x vs v
    at x g vs e l true q =
        let p = symbol_eq-true x f.name q in
        let found : Some f ≡ Some g = sym (function_of-here W f fresh) ∙ ap E (sym p) ∙ e in
        let same : f ≡ g = cc in
        subst (λ y. (v : V) × CallValue E y vs v) (sym p) (here vs (ap (λ (k : Function). length k.formals) same ∙ l))
    at x g vs e l false q =
        let (v, h) = total x g vs (sym (function_of-other W f x q) ∙ e) l in
        (v, call_extend D E (extends-append W (entry.Function f ∷ [])) x vs v h)

-- what a call of such a function gives is its body's value in the smaller world
pub plain_call : (W : List Entry) (f : Function) → Total (function_of W) → has_name W f.name ≡ false → known (function_of W) f.body ≡ true
    → (vs : List V) (v : V) → length f.formals ≡ length vs → CallValue (function_of (W ++ entry.Function f ∷ [])) f.name vs v → HasValue (function_of W) f.body (zip f.formals vs) v
plain_call W f total fresh body_known vs v l h = go h
  where
    D : Defs
    D = function_of W

    E : Defs
    E = function_of (W ++ entry.Function f ∷ [])

    opened : (n : ℕ) → calls (suc n) E f.name vs ≡ meaning (calls n E) f.body (zip f.formals vs)
    opened n = rw (function_of-here W f fresh, eq-eqb (length f.formals) (length vs) l) refl

    go : CallValue E f.name vs v → HasValue D f.body (zip f.formals vs) v
    go (zero, k) = absurd (no k)
      where
        no : None ≡ Some v → ⊥
        no q = cc
    go (suc n, k) =
        let (w, d) = known_valued D total f.body body_known (zip f.formals vs) in
        let larger = value_extend D E (extends-append W (entry.Function f ∷ [])) f.body (zip f.formals vs) w d in
        subst (λ u. HasValue D f.body (zip f.formals vs) u)
        (value_unique E f.body (zip f.formals vs) w v larger (n, sym (opened n) ∙ k)) d

-- a known term doesn't call a name that isn't defined
pub known_no_call : (D : Defs) (F : Symbol) → prim_of F ≡ None → D F ≡ None → (u : Term) → known D u ≡ true → calls_in F u ≡ []
known_no_call D F no_prim undefined u u_known = term_ind Goal (λ x k. calls_var F x) (λ q k. calls_quote F q) call u u_known
  where
    Goal : Term → Type 0
    Goal u = known D u ≡ true → calls_in F u ≡ []

    args : (ts : List Term) → Each Goal ts → Each (λ u. known D u ≡ true) ts → joined (map (calls_in F) ts) ≡ []
    args [] es ks = refl
    args (t ∷ ts) es ks = ap (λ cs. cs ++ joined (map (calls_in F) ts)) (es.0 ks.0) ∙ args ts es.1 ks.1

    own : (f : Symbol) (ts : List Term) → is_head D f (prim_of f) (length ts) ≡ true → (b : Bool) → symbol_eq f F ≡ b → cond b (ts ∷ []) [] ≡ []
    own f ts h false q = refl
    own f ts h true q =
        let same = subst (λ g. is_head D g (prim_of g) (length ts) ≡ true) (symbol_eq-true f F q) h in
        absurd (true≢false (sym same ∙ ap (λ o. is_head D F o (length ts)) no_prim ∙ ap (λ o. takes o (length ts)) undefined))

    call : (f : Symbol) (ts : List Term) → Each Goal ts → Goal (Call f ts)
    call f ts es = λ k. calls_call F f ts
        ∙ ap (λ cs. cs ++ joined (map (calls_in F) ts)) (own f ts (known_head D f ts k) (symbol_eq f F) refl)
        ∙ args ts es (each_true (known D) ts (known_args D f ts k))

pub plain_body : (W : List Entry) (f : Function) → has_name W f.name ≡ false → known (function_of W) f.body ≡ true → has_no_call f.name f.body ≡ true
plain_body W f fresh body_known =
    let p = not_taken W f.name fresh in
    ap is_empty (known_no_call (function_of W) f.name p.0 (ap as_function p.1) f.body body_known)

-- a function without a measure may be added whose body is known without it, where the rest of what is asked of it holds
pub sound-define : (W : List Entry) (f : Function) → Sound W → has_name W f.name ≡ false
    → is_distinct symbol_eq f.formals ≡ true → speaks_of f.formals f.body ≡ true → known (function_of W) f.body ≡ true
    → f.measure ≡ None → f.cases ≡ [] → IfSome (given_function f.name) (DefinedAlike f)
    → ((vs : List V) (v : V) → length f.formals ≡ length vs → HasValue (function_of W) f.body (zip f.formals vs) v → Has f.mask v)
    → Sound (W ++ entry.Function f ∷ [])
sound-define W f sound fresh formals speaks body_known measure cases given mask =
    sound-function W f sound (total-define W f sound.total fresh body_known) (record {
      formals = formals;
      body_speaks = speaks;
      measure_speaks = ap (λ o. all_true (map (speaks_of f.formals) (components o))) measure;
      body_known = known_extend D E (extends-append W (entry.Function f ∷ [])) f.body body_known;
      measure_known = ap (λ o. all_true (map (known E) (components o))) measure;
      given = given;
      recursion = subst (λ o. Recurs E f o) (sym measure) (record { plain = plain_body W f fresh body_known; cases = cases });
      mask = λ vs v l h. mask vs v l (plain_call W f sound.total fresh body_known vs v l h);
    })
  where
    D : Defs
    D = function_of W

    E : Defs
    E = function_of (W ++ entry.Function f ∷ [])

-- a world that has the functions of the ground world has them when entries are added
pub has_functions-more : (W X : List Entry) → HasFunctions (function_of W) → HasFunctions (function_of (W ++ X))
has_functions-more W X = go ground_functions
  where
    go : (fs : List Function) → Each (λ f. function_of W f.name ≡ Some f) fs → Each (λ f. function_of (W ++ X) f.name ≡ Some f) fs
    go [] h = tt
    go (f ∷ fs) h = (extends-append W X f.name f h.0, go fs h.1)
