-- Which terms are known: one line for a variable, a constant and a call, and lists of them.
use Rattle.std.proofs.Common.{◌≡◌, ℕ, Bool, true, ◌&&◌, List, [], ◌∷◌, map, length, refl, ap, ◌∙◌}
use Rattle.std.proofs.Math.ListN.{length-map}
use Rattle.ap_list.specs.Lists.{Each, all_true}
use Rattle.ap_value.specs.declared.symbol.Symbol.{Symbol}
use Rattle.ap_value.specs.declared.value.Value.{Value}
use Rattle.ap_value.proofs.Equals.{both, and_true}
use Rattle.ap_term.specs.declared.term.Term.{Term, Var, Quote, Call}
use Rattle.ap_term.proofs.Induction.{fold_var, fold_quote, fold_call}
use Rattle.ap_world.specs.Primitives.{prim_of}
use Rattle.ap_world.specs.Meaning.{Defs}
use Rattle.ap_world.specs.Sound.{is_head, known_step, known}

pub known_var : (D : Defs) (x : Symbol) → known D (Var x) ≡ true
known_var D x = fold_var (known_step D) x

pub known_quote : (D : Defs) (q : Value) → known D (Quote q) ≡ true
known_quote D q = fold_quote (known_step D) q

pub known_call : (D : Defs) (f : Symbol) (ts : List Term) → known D (Call f ts) ≡ (is_head D f (prim_of f) (length ts) && all_true (map (known D) ts))
known_call D f ts = fold_call (known_step D) f ts ∙ ap (λ (n : ℕ). is_head D f (prim_of f) n && all_true (map (known D) ts)) (length-map ts (known D))

-- a call is known where its head is one of so many arguments, and each argument is known
pub known_head : (D : Defs) (f : Symbol) (ts : List Term) → known D (Call f ts) ≡ true → is_head D f (prim_of f) (length ts) ≡ true
known_head D f ts h = (both _ _ (rw (known_call D f ts) at h)).0

pub known_args : (D : Defs) (f : Symbol) (ts : List Term) → known D (Call f ts) ≡ true → all_true (map (known D) ts) ≡ true
known_args D f ts h = (both (is_head D f (prim_of f) (length ts)) _ (rw (known_call D f ts) at h)).1

pub known_by : (D : Defs) (f : Symbol) (ts : List Term) → is_head D f (prim_of f) (length ts) ≡ true → all_true (map (known D) ts) ≡ true → known D (Call f ts) ≡ true
known_by D f ts h k = rw (known_call D f ts) (and_true _ _ h k)

-- every test of the list is true where it is true of each element, and the other way round
pub each_true : {A : Type 0} (test : A → Bool) (xs : List A) → all_true (map test xs) ≡ true → Each (λ x. test x ≡ true) xs
each_true test [] h = tt
each_true test (x ∷ xs) h = let p = both (test x) (all_true (map test xs)) h in (p.0, each_true test xs p.1)

pub true_each : {A : Type 0} (test : A → Bool) (xs : List A) → Each (λ x. test x ≡ true) xs → all_true (map test xs) ≡ true
true_each test [] h = refl
true_each test (x ∷ xs) h = and_true (test x) (all_true (map test xs)) h.0 (true_each test xs h.1)

-- what holds of each element by the first fact, holds by the second
pub each_same : {A : Type 0} {P Q : A → Type 0} (xs : List A) → ((x : A) → P x → Q x) → Each P xs → Each Q xs
each_same [] k ps = tt
each_same (x ∷ xs) k ps = (k x ps.0, each_same xs k ps.1)
