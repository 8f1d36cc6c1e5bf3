-- The laws of meaning and soundness, as the public functions of the module of laws state them.
use Rattle.std.specs.Prelude.{◌≡◌, ℕ, ◌+◌, length, zip, cond, Bool, true, ◌&&◌, ◌||◌, ◌↔◌, List, [], ◌∷◌, ◌++◌, map, Option, Some, None, is_some}
use Rattle.ap_list.specs.Lists.{all_true}
use Rattle.ap_value.specs.declared.symbol.Symbol.{Symbol}
use Rattle.ap_value.specs.Values.{V}
use Rattle.ap_term.specs.declared.term.Term.{Term, fold-Term, Call}
use Rattle.ap_term.specs.declared.term.Term.TheOpen.{Term-F}
use Rattle.ap_world.specs.declared.entry.Function.{Function}
use Rattle.ap_world.specs.declared.entry.Entry.{Entry}
use Rattle.ap_world.specs.declared.entry.Entry.TheVariants as entry
use Rattle.ap_term.specs.Terms.{subst_of}
use Rattle.ap_world.specs.declared.entry.Case.{Case}
use Rattle.ap_world.specs.Names.{equal_name, implies_name}
use Rattle.ap_world.specs.Clauses.{not_of, negate, is_nil, conjuncts, flat}
use Rattle.ap_world.specs.Recursion.{has_no_call, one_case, with_test, cases_of, nil_constant, less, decrease}
use Rattle.ap_world.specs.Ground.{if_term, two}
use Rattle.ap_world.specs.Primitives.{prim_of}
use Rattle.ap_world.specs.Meaning.{Env, Defs, ev, HasValue, CallValue, Total, Valid}
use Rattle.ap_world.specs.Sound.{known, not_function, Sound}
use Rattle.ap_world.specs.World.{function_of, are_distinct}
use Rattle.ap_world.specs.Alike.{DefinesAlike}

-- a value that some number of units gives, every greater number gives
abbrev pub MoreFuelKeeps : Type 0
MoreFuelKeeps = (D : Defs) (k n : ℕ) (u : Term) (e : Env) (v : V) → ev n D u e ≡ Some v → ev (k + n) D u e ≡ Some v

-- a term has one value at most, and so has a call
abbrev pub ValuesAreUnique : Type 0
ValuesAreUnique = (D : Defs) (u : Term) (e : Env) (v w : V) → HasValue D u e v → HasValue D u e w → v ≡ w

abbrev pub CallsAreUnique : Type 0
CallsAreUnique = (D : Defs) (f : Symbol) (vs : List V) (v w : V) → CallValue D f vs v → CallValue D f vs w → v ≡ w

-- where every function is total, each known term has a value under every assignment
abbrev pub KnownTermsHaveValues : Type 0
KnownTermsHaveValues = (D : Defs) → Total D → (u : Term) → known D u ≡ true → (e : Env) → (v : V) × HasValue D u e v

-- entries that are added keep the value of every term that has one
abbrev pub EntriesKeepValues : Type 0
EntriesKeepValues = (W X : List Entry) (u : Term) (e : Env) (v : V) → HasValue (function_of W) u e v → HasValue (function_of (W ++ X)) u e v

-- so they keep validity, and of terms that the old world knows they make nothing valid that wasn't
abbrev pub EntriesKeepValidity : Type 0
EntriesKeepValidity = (W X : List Entry) (c : List Term) → Valid (function_of W) c → Valid (function_of (W ++ X)) c

abbrev pub EntriesAddNoValidity : Type 0
EntriesAddNoValidity = (W X : List Entry) (c : List Term) → Total (function_of W) → all_true (map (known (function_of W)) c) ≡ true
    → Valid (function_of (W ++ X)) c → Valid (function_of W) c

-- each call in a term is one of a primitive or of a name of the set, which is given by its test
abbrev pub calls_only_step : (Symbol → Bool) → Term-F Bool → Bool
calls_only_step S (Term-F.Var x) = true
calls_only_step S (Term-F.Quote v) = true
calls_only_step S (Term-F.Call f ks) = (is_some (prim_of f) || S f) && all_true ks

abbrev pub calls_only : (Symbol → Bool) → Term → Bool
calls_only S = fold-Term Bool (calls_only_step S)

-- two definitions have one meaning: the same formals and the same body, or neither is there
abbrev pub Alike : Option Function → Option Function → Type 0
Alike None None = Unit {0}
Alike (Some f) (Some g) = (f.formals ≡ g.formals) × (f.body ≡ g.body)
Alike o p = ⊥

-- the two worlds define each name of the set alike, and the bodies there call no name beyond it
pub record AgreeOn (S : Symbol → Bool) (D E : Defs) : Type 0 where
  pub alike : (f : Symbol) → S f ≡ true → Alike (D f) (E f)
  pub closed : (f : Symbol) (g : Function) → S f ≡ true → D f ≡ Some g → calls_only S g.body ≡ true

-- worlds that define the functions of a clause, and all that these call, alike agree on its validity
abbrev pub WorldsThatAgree : Type 0
WorldsThatAgree = (S : Symbol → Bool) (D E : Defs) → AgreeOn S D E → (c : List Term) → all_true (map (calls_only S) c) ≡ true → Valid D c ↔ Valid E c

-- where a world defines all that another does, alike, it keeps values, the values of calls, what is known and
-- what is valid, whatever the masks
abbrev pub AlikeKeepsValues : Type 0
AlikeKeepsValues = (D E : Defs) → DefinesAlike D E → (u : Term) (e : Env) (v : V) → HasValue D u e v → HasValue E u e v

abbrev pub AlikeKeepsCalls : Type 0
AlikeKeepsCalls = (D E : Defs) → DefinesAlike D E → (f : Symbol) (vs : List V) (v : V) → CallValue D f vs v → CallValue E f vs v

abbrev pub AlikeKeepsKnown : Type 0
AlikeKeepsKnown = (D E : Defs) → DefinesAlike D E → (u : Term) → known D u ≡ true → known E u ≡ true

abbrev pub AlikeKeepsValidity : Type 0
AlikeKeepsValidity = (D E : Defs) → DefinesAlike D E → (c : List Term) → Valid D c → Valid E c

-- and where the smaller one is total, of its own terms nothing else is valid in the larger one, and a call of its own
-- functions has no other value there
abbrev pub AlikeAddsNoValidity : Type 0
AlikeAddsNoValidity = (D E : Defs) → Total D → DefinesAlike D E → (c : List Term) → all_true (map (known D) c) ≡ true → Valid E c → Valid D c

abbrev pub AlikeAddsNoValues : Type 0
AlikeAddsNoValues = (D E : Defs) → Total D → DefinesAlike D E → (f : Symbol) (g : Function) → D f ≡ Some g → (vs : List V) (v : V) → length g.formals ≡ length vs
    → CallValue E f vs v → CallValue D f vs v

-- where the names of entries are distinct no function has a primitive's name
abbrev pub NamesAreNoPrimitives : Type 0
NamesAreNoPrimitives = (W : List Entry) → are_distinct W ≡ true → (f : Symbol) (g : Function) → function_of W f ≡ Some g → prim_of f ≡ None

-- a known term equals itself
abbrev pub EqualSidesAreValid : Type 0
EqualSidesAreValid = (D : Defs) → Total D → (u : Term) → known D u ≡ true → Valid D (Call equal_name (u ∷ u ∷ []) ∷ [])

-- the world of `not` alone is sound
abbrev pub StartingWorldIsSound : Type 0
StartingWorldIsSound = Sound (entry.Function not_function ∷ [])

-- the conjuncts of (if a b c): those of a and of b where c is nil, and else the term alone
abbrev pub ConjunctsOfIf : Type 0
ConjunctsOfIf = (a b c : Term) → conjuncts (if_term a b c) ≡ cond (is_nil c) (conjuncts a ++ conjuncts b) (if_term a b c ∷ [])

-- the clause of (implies h c): the negations of h's conjuncts, then the clause of c
abbrev pub FlatOfImplies : Type 0
FlatOfImplies = (h c : Term) → flat (two implies_name h c) ≡ map negate (conjuncts h) ++ flat c

-- the cases of (if a b c): where b or c has a call of F, those of b with the test a and those of c with (not a), and
-- else one case with the distinct calls
abbrev pub CasesOfIf : Type 0
CasesOfIf = (F : Symbol) (a b c : Term) → cases_of F (if_term a b c)
    ≡ cond (has_no_call F b && has_no_call F c) (one_case F (if_term a b c)) (map (with_test a) (cases_of F b) ++ map (with_test (not_of a)) (cases_of F c))

-- the conjunction of a test and others, and a conjecture under tests
abbrev pub conjunction : Term → List Term → Term
conjunction a [] = a
conjunction a (b ∷ ts) = if_term a (conjunction b ts) nil_constant

abbrev pub under : List Term → Term → Term
under [] u = u
under (a ∷ ts) u = two implies_name (conjunction a ts) u

-- an obligation is the clause of this: the tests imply that the measure is less
abbrev pub DecreaseIsFlat : Type 0
DecreaseIsFlat = (formals : List Symbol) (m : List Term) (k : Case) (c : List Term) → decrease formals m k c ≡ flat (under k.tests (less (map (subst_of (zip formals c)) m) m))
