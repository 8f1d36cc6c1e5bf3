-- What the table gives at a variable, a constant and a call.
use Rattle.std.proofs.Common.{◌≡◌, ℕ, true, false, ◌+◌, ◌≤◌, zero, suc, List, [], ◌∷◌, map, Option, Some, None, Result, Ok, Err, IfOk, length, ◌<◌, get_or, refl, ap, sym, ◌∙◌, arith}
use Rattle.ap_value.specs.declared.symbol.Symbol.{Symbol}
use Rattle.ap_value.specs.declared.value.Value.{Value}
use Rattle.ap_value.specs.Values.{val_of}
use Rattle.ap_term.specs.declared.term.Term.{Term, Var, Quote, Call}
use Rattle.ap_list.specs.Lists.{sum_of}
use Rattle.ap_term.specs.Terms.{size_step, term_size}
use Rattle.ap_term.proofs.Induction.{fold_call, para_var, para_quote, para_call}
use Rattle.ap_world.specs.declared.primitive.Primitive.{Primitive as Prim}
use Rattle.ap_world.specs.declared.primitive.Primitive.TheVariants.{If}
use Rattle.ap_world.specs.Primitives.{prim_of}
use Rattle.ap_world.specs.Assume.{assume}
use Rattle.ap_world.specs.Facts.{Facts}
use Rattle.ap_world.specs.Kinds.{bit, kind_of, all}
use Rattle.ap_world.specs.Narrowing.{cut}
use Rattle.ap_world.specs.Typing.{if_parts, call_types, chosen_types, split_types, head_types, types_step, types_by}

same_parts : (p q : Term × Term × Term) → Some p ≡ Some q → p ≡ q
same_parts p q h = cc

-- an argument is no larger than all together
pub item_size : (ts : List Term) (i : ℕ) (u : Term) → i < length ts → u ≡ get_or ts i u → term_size u ≤ sum_of (map term_size ts)
item_size [] i u l h = absurd (omega arith)
item_size (t ∷ ts) zero u l h = rw h (omega arith)
item_size (t ∷ ts) (suc i) u l h = let le = item_size ts i u (omega arith) h in omega arith

-- a call is larger than its arguments together
pub call_size : (u : Term) (f : Symbol) (ts us : List Term) → u ≡ Call f ts → us ≡ ts → term_size u ≡ sum_of (map term_size us) + 1
call_size u f ts us e same = ap term_size e ∙ fold_call size_step f ts ∙ ap (λ vs. sum_of (map term_size vs) + 1) (sym same)

no_parts_one : {A : Type 0} (o : Option Prim) (a : A) → if_parts o (a ∷ []) ≡ None
no_parts_one (Some If) a = refl
no_parts_one o a = refl

no_parts_two : {A : Type 0} (o : Option Prim) (a b : A) → if_parts o (a ∷ b ∷ []) ≡ None
no_parts_two (Some If) a b = refl
no_parts_two o a b = refl

module _ (K : Symbol → ℕ) where
  abbrev pub typed : Term → Term × (Facts → ℕ)
  typed u = (u, types_by K u)

  pub firsts : (ts : List Term) → map (λ p. p.0) (map typed ts) ≡ ts
  firsts [] = refl
  firsts (t ∷ ts) = ap (λ us. t ∷ us) (firsts ts)

  pub seconds : (ts : List Term) (fs : Facts) → map (λ p. p.1 fs) (map typed ts) ≡ map (λ u. types_by K u fs) ts
  seconds [] fs = refl
  seconds (t ∷ ts) fs = ap (λ ms. types_by K t fs ∷ ms) (seconds ts fs)

  pub types_var : (x : Symbol) (fs : Facts) → types_by K (Var x) fs ≡ cut fs (Var x) all
  types_var x fs = ap (λ k. k fs) (para_var (types_step K) x)

  pub types_quote : (v : Value) (fs : Facts) → types_by K (Quote v) fs ≡ cut fs (Quote v) (bit (kind_of (val_of v)))
  types_quote v fs = ap (λ k. k fs) (para_quote (types_step K) v)

  pub types_call : (f : Symbol) (ts : List Term) (fs : Facts) → types_by K (Call f ts) fs ≡ cut fs (Call f ts) (head_types K f (prim_of f) (map typed ts) fs)
  types_call f ts fs = ap (λ k. k fs) (para_call (types_step K) f ts) ∙ ap (λ us. cut fs (Call f us) (head_types K f (prim_of f) (map typed ts) fs)) (firsts ts)

  -- the parts of an `if` with what they mean
  pub parts_none : (o : Option Prim) (ts : List Term) → if_parts o ts ≡ None → if_parts o (map typed ts) ≡ None
  parts_none (Some If) [] h = refl
  parts_none (Some If) (a ∷ []) h = refl
  parts_none (Some If) (a ∷ b ∷ []) h = refl
  parts_none (Some If) (a ∷ b ∷ c ∷ []) h = cc
  parts_none (Some If) (a ∷ b ∷ c ∷ d ∷ ts) h = refl
  parts_none o ts h = refl

  pub parts_some : (o : Option Prim) (ts : List Term) (a b c : Term) → if_parts o ts ≡ Some (a, b, c) → (o ≡ Some If) × (ts ≡ a ∷ b ∷ c ∷ [])
  parts_some (Some If) (x ∷ y ∷ z ∷ []) a b c h = let e = same_parts (x, y, z) (a, b, c) h in (refl, rw (ap (λ p. p.0) e, ap (λ p. p.1) e, ap (λ p. p.2) e) refl)
  parts_some (Some If) [] a b c h = cc
  parts_some (Some If) (x ∷ []) a b c h = cc
  parts_some (Some If) (x ∷ y ∷ []) a b c h = cc
  parts_some (Some If) (x ∷ y ∷ z ∷ w ∷ ts) a b c h = cc
  parts_some o ts a b c h = cc

  pub head_if : (f : Symbol) (o : Option Prim) (ts : List Term) (a b c : Term) (fs : Facts) → if_parts o ts ≡ Some (a, b, c)
      → head_types K f o (map typed ts) fs ≡ chosen_types (types_by K a fs) (types_by K b (assume fs a true)) (types_by K c (assume fs a false))
  head_if f o ts a b c fs h = let (p, q) = parts_some o ts a b c h in rw (p, q) refl

  pub head_other : (f : Symbol) (o : Option Prim) (ts : List Term) (fs : Facts) → if_parts o ts ≡ None
      → head_types K f o (map typed ts) fs ≡ call_types K f o ts (map (λ u. types_by K u fs) ts)
  head_other f o ts fs h =
      ap (split_types K f o (map typed ts) fs) (parts_none o ts h)
      ∙ ap (λ us. call_types K f o us (map (λ p. p.1 fs) (map typed ts))) (firsts ts)
      ∙ ap (call_types K f o ts) (seconds ts fs)

  -- a call of one argument or of two isn't such an `if`
  pub head_one : (f : Symbol) (o : Option Prim) (a : Term) (fs : Facts) → head_types K f o (map typed (a ∷ [])) fs ≡ call_types K f o (a ∷ []) (types_by K a fs ∷ [])
  head_one f o a fs = head_other f o (a ∷ []) fs (no_parts_one o a)

  pub head_two : (f : Symbol) (o : Option Prim) (a b : Term) (fs : Facts)
      → head_types K f o (map typed (a ∷ b ∷ [])) fs ≡ call_types K f o (a ∷ b ∷ []) (types_by K a fs ∷ types_by K b fs ∷ [])
  head_two f o a b fs = head_other f o (a ∷ b ∷ []) fs (no_parts_two o a b)

  -- a call's types, cut by the facts on it
  pub call_cut : {E : Type 0} (r : Result ℕ E) (u : Term) (f : Symbol) (ts : List Term) (fs : Facts) → u ≡ Call f ts
      → IfOk r (λ m. m ≡ head_types K f (prim_of f) (map typed ts) fs) → IfOk r (λ m. cut fs u m ≡ types_by K u fs)
  call_cut (Ok m) u f ts fs e h = rw e (ap (cut fs (Call f ts)) h ∙ sym (types_call f ts fs))
  call_cut (Err x) u f ts fs e h = h
