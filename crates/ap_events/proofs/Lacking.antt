-- What is found in a world that covers another, and not in that one, has a name that isn't there: constants, functions, and
-- so the terms that forms are.
use Rattle.std.proofs.Common.{◌≡◌, true, length, List, [], ◌∷◌, ◌++◌, ◌⊎◌, inl, inr, Option, Some, None, is_some, refl, ap, ◌∙◌, sym}
use Rattle.std.proofs.lemmas.Option.{none-some}
use Rattle.ap_value.specs.declared.symbol.Symbol.{Symbol}
use Rattle.ap_term.specs.declared.term.Term.{Term}
use Rattle.ap_reader.specs.declared.form.Form.{Form}
use Rattle.ap_world.specs.declared.entry.Entry.{Entry}
use Rattle.ap_world.specs.declared.entry.Entry.TheVariants as entry
use Rattle.ap_world.specs.declared.primitive.Primitive.{Primitive}
use Rattle.ap_world.specs.Alike.{SameButMask, Covers}
use Rattle.ap_world.specs.Primitives.{prim_of}
use Rattle.ap_world.specs.World.{entry_of, as_function, function_of, as_constant, constant_of}
use Rattle.ap_world.proofs.Extending.{entry_of-kept, entry_of-passed}
use Rattle.ap_translate.specs.Answers.{each}
use Rattle.ap_translate.specs.Plans.{arity_of, arity_in}
use Rattle.ap_translate.specs.Table.{Bound, translated}
use Rattle.ap_events.proofs.Lessening.{Near, Finds, near_translated, near_all}

-- a name that the second world has, and the first lacks
pub record Lacks (V U : List Entry) : Type 0 where
  pub name : Symbol
  pub there : is_some (entry_of U name) ≡ true
  pub gone : entry_of V name ≡ None

-- what both lack before an entry that both get
pub lacks_before : (V U : List Entry) (y : Entry) → Lacks (V ++ y ∷ []) (U ++ y ∷ []) → Lacks V U
lacks_before V U y l = go (entry_of V l.name) refl (entry_of U l.name) refl
  where
    go : (o : Option Entry) → entry_of V l.name ≡ o → (p : Option Entry) → entry_of U l.name ≡ p → Lacks V U
    go (Some z) e p q = absurd (none-some z (sym l.gone ∙ entry_of-kept V (y ∷ []) l.name z e))
    go None e (Some z) q = record { name = l.name; there = ap is_some q; gone = e }
    go None e None q =
        let here : entry_of (V ++ y ∷ []) l.name ≡ entry_of (y ∷ []) l.name = entry_of-passed V (y ∷ []) l.name e in
        let both : entry_of (U ++ y ∷ []) l.name ≡ None = entry_of-passed U (y ∷ []) l.name q ∙ sym here ∙ l.gone in
        absurd (cc (ap is_some both, l.there))

-- a name of a world is one of each that covers it
pub there_on : (U W : List Entry) → Covers U W → (n : Symbol) → is_some (entry_of U n) ≡ true → is_some (entry_of W n) ≡ true
there_on U W covered n h = go (entry_of U n) refl h
  where
    go : (o : Option Entry) → entry_of U n ≡ o → is_some o ≡ true → is_some (entry_of W n) ≡ true
    go None e k = absurd (cc k)
    go (Some y) e k = let (z, d, s) = covered n y e in ap is_some d

module _ (V U : List Entry) (covered : Covers V U) where
  -- what is looked up under a name, masks aside
  pub looked : {A : Type 0} (look : Option Entry → Option A) → look None ≡ None → ((y z : Entry) → SameButMask y z → look (Some y) ≡ look (Some z)) → (n : Symbol)
      → Finds (Lacks V U) (look (entry_of V n)) (look (entry_of U n))
  looked {A} look none alike n a q = go (entry_of V n) refl
    where
      lost : entry_of V n ≡ None → (o : Option Entry) → entry_of U n ≡ o → Lacks V U
      lost e None k = absurd (none-some a (sym none ∙ sym (ap look k) ∙ q))
      lost e (Some z) k = record { name = n; there = ap is_some k; gone = e }

      go : (o : Option Entry) → entry_of V n ≡ o → (look (entry_of V n) ≡ Some a) ⊎ ((look (entry_of V n) ≡ None) × Lacks V U)
      go None e = inr (ap look e ∙ none, lost e (entry_of U n) refl)
      go (Some y) e =
          let (z, d, s) = covered n y e in
          inl (ap look e ∙ alike y z s ∙ sym (ap look d) ∙ q)

  -- constants, and functions with their arguments
  constant_alike : (y z : Entry) → SameButMask y z → as_constant (Some y) ≡ as_constant (Some z)
  constant_alike (entry.Function f) (entry.Function g) s = refl
  constant_alike (entry.Theorem t) (entry.Theorem u) s = refl
  constant_alike (entry.Constant c v) (entry.Constant d w) s = ap (λ y. as_constant (Some y)) s
  constant_alike y z s = absurd (cc s)

  finds_constant : (s : Symbol) → Finds (Lacks V U) (constant_of V s) (constant_of U s)
  finds_constant s = looked as_constant refl constant_alike s

  arity_alike : (y z : Entry) → SameButMask y z → arity_of None (as_function (Some y)) ≡ arity_of None (as_function (Some z))
  arity_alike (entry.Function f) (entry.Function g) s = ap (λ (xs : List Symbol). Some (length xs)) s.formals
  arity_alike (entry.Theorem t) (entry.Theorem u) s = refl
  arity_alike (entry.Constant c v) (entry.Constant d w) s = refl
  arity_alike y z s = absurd (cc s)

  finds_arity : (s : Symbol) → Finds (Lacks V U) (arity_in V s) (arity_in U s)
  finds_arity s = go (prim_of s)
    where
      go : (p : Option Primitive) → Finds (Lacks V U) (arity_of p (function_of V s)) (arity_of p (function_of U s))
      go (Some p) n q = inl q
      go None n q = looked (λ o. arity_of None (as_function o)) refl arity_alike s n q

  -- a form that is a term of the covering world
  pub lacks_term : (b : Bound) (f : Form) → Near (Lacks V U) Term (translated V b f) (translated U b f)
  lacks_term b f = near_translated (Lacks V U) V U finds_arity finds_constant b f

  pub lacks_terms : (b : Bound) (fs : List Form) → Near (Lacks V U) (List Term) (each (translated V b) fs) (each (translated U b) fs)
  lacks_terms b fs = near_all (Lacks V U) V U finds_arity finds_constant b fs
