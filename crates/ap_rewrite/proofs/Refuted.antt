-- What refuting a comparison answers, and what that decides.
use Rattle.std.proofs.Common.{◌≡◌, ℕ, Bool, true, false, not, cond, List, [], ◌∷◌, ◌++◌, map, reverse, take, length, get_or, slice_get, suc, ◌≤◌, ◌<◌, arith, Option, Some, None, is_some, IfSome, refl, sym, ap, ◌∙◌, subst}
use Rattle.std.specs.Option.{option_map}
use Rattle.ap_list.specs.Lists.{Each, lookup_by}
use Rattle.ap_value.specs.declared.symbol.Symbol.{Symbol}
use Rattle.ap_value.specs.Values.{symbol_eq}
use Rattle.ap_value.proofs.Equals.{symbol_eq-true}
use Rattle.ap_term.specs.declared.term.Term.{Term, Call, out-Term}
use Rattle.ap_term.specs.declared.term.Term.TheVariants.{outs-Call}
use Rattle.ap_term.specs.Metered.{Got}
use Rattle.ap_world.specs.declared.entry.Mask.{Mask}
use Rattle.ap_world.specs.declared.theory.Theory.{Theory}
use Rattle.ap_world.specs.declared.primitive.Primitive.{Primitive as Prim}
use Rattle.ap_world.specs.Meaning.{Defs}
use Rattle.ap_world.specs.Names.{less_name, equal_name}
use Rattle.ap_world.specs.declared.primitive.Primitive.TheVariants as prim
use Rattle.ap_world.specs.Primitives.{prim_of, primitives}
use Rattle.ap_world.specs.Sound.{known}
use Rattle.ap_world.specs.World.{Shown, function_of}
use Rattle.ap_world.proofs.Equations.{prim_of_less, prim_of_equal}
use Rattle.ap_world.proofs.Knowing.{known_by, true_each}
use Rattle.ap_poly.specs.Polynomials.{Polynomial}
use Rattle.ap_poly.specs.Elimination.{lin}
use Rattle.ap_poly.specs.Bounds.{first_atoms}
use Rattle.ap_rules.specs.declared.linear.LinearRule.{LinearRule}
use Rattle.ap_rules.specs.Linear.{may_match, all_linear}
use Rattle.ap_rules.specs.Indexed.{kept}
use Rattle.ap_kernel.specs.declared.objects.Ctx.{Ctx}
use Rattle.ap_kernel.specs.declared.objects.Sequent.{Sequent}
use Rattle.ap_kernel.specs.declared.objects.Equiv.{Equiv}
use Rattle.ap_kernel.specs.declared.objects.Mode.TheVariants.{Equal}
use Rattle.ap_kernel.specs.Equations.{equal_of, truth_constant}
use Rattle.ap_kernel.specs.Linear.{compares, form_compares, is_comparison, less_of, refuted_made, NeitherLess}
use Rattle.ap_kernel.specs.Standing.{Stands}
use Rattle.ap_rewrite.specs.Arithmetic.{is_usable}
use Rattle.ap_rewrite.specs.Settings.{Setting, Place, Inner}
use Rattle.ap_rewrite.specs.InWorld.{world_setting}
use Rattle.ap_rewrite.specs.Linear.{most_polys, bounds, given, with_rules, refuted, by_truth, by_less, by_orders, by_equal}
use Rattle.ap_rewrite.specs.Refuting.{Refutes, Squeezes, IntegersWithin}
use Rattle.ap_rewrite.specs.Leading.{said_of}
use Rattle.ap_rewrite.specs.Answering.{From, used_each}
use Rattle.ap_rewrite.proofs.Froms.{call_parts}
use Rattle.ap_rewrite.proofs.Ruled.{after_out, after_some}
use Rattle.ap_rewrite.proofs.Triggers.{all_triggered}
use Rattle.ap_rewrite.proofs.LinearUsed.{Triggered, found_all}

-- the list that is refuted, by the rules that the index gives
module _ (w : Shown) (h : Theory) (us : List Term) (r : Inner) (p : Place) (u : Term) (s : Bool) (n : ℕ) where
  abbrev pub Here : Setting
  Here = world_setting w h us

  abbrev pub Listed : Got (List Polynomial)
  Listed = with_rules Here r p Here.arithmetic.rules (first_atoms (given Here p.facts u s)) (given Here p.facts u s ++ bounds Here p.facts (first_atoms (given Here p.facts u s))) n

  pub listed : (gs : List LinearRule) (is : List ℕ) (xs : List Term) (ps : List Polynomial) → gs ≡ all_linear w.entries → xs ≡ first_atoms (given Here p.facts u s)
      → ps ≡ given Here p.facts u s ++ bounds Here p.facts xs → map (slice_get gs) is ≡ map Some (kept (may_match xs) (reverse gs)) → used_each Here r p gs is xs ps n ≡ Listed
  listed gs is xs ps ge xe pe e =
      found_all Here r p gs is xs (subst (Each Triggered) (sym ge) (all_triggered w.entries)) e ps n
      ∙ ap (λ (z : List LinearRule). with_rules Here r p (kept (is_usable h) (reverse z)) xs ps n) ge
      ∙ ap (λ (z : List Polynomial). with_rules Here r p Here.arithmetic.rules xs z n) pe
      ∙ ap (λ (z : List Term). with_rules Here r p Here.arithmetic.rules z (given Here p.facts u s ++ bounds Here p.facts z) n) xe

  pub refuted_out : None ≡ Listed → None ≡ refuted Here r p u s n
  refuted_out e = after_out _ _ e

  pub refuted_found : (qs : List Polynomial) (m : ℕ) (o : Option Equiv) (c : Ctx) → Some (qs, m) ≡ Listed → said_of o ≡ option_map (λ by. refuted_made c u s) (lin (take most_polys qs))
      → Some (is_some o, m) ≡ refuted Here r p u s n
  refuted_found qs m o c e is = ap (λ b. Some (b, m)) (go o (lin (take most_polys qs)) is) ∙ after_some _ _ qs m _ e refl
    where
      go : (o : Option Equiv) (x : Option (List ℕ)) → said_of o ≡ option_map (λ by. refuted_made c u s) x → is_some o ≡ is_some x
      go None None q = refl
      go None (Some y) q = cc
      go (Some z) None q = cc
      go (Some z) (Some y) q = refl

-- what is found refutes
pub each_refutes : (w : Shown) (c : Ctx) (u : Term) (s : Bool) (o : Option Equiv) (x : Option (List ℕ)) → IfSome o (λ q. Stands w q) → said_of o ≡ option_map (λ by. refuted_made c u s) x
    → IfSome o (Refutes w c u s)
each_refutes w c u s None x h e = tt
each_refutes w c u s (Some q) None h e = cc
each_refutes w c u s (Some q) (Some y) h e = record { stands = h; says = cc }

-- so it leads to the truth that the sign denies
pub from_refuted : (w : Shown) (c : Ctx) (u : Term) (s : Bool) (q : Equiv) → Refutes w c u s q → From w Equal c u q
from_refuted w c u s q h = record { stands = h.stands; ctx = ap (λ (x : Sequent). x.ctx) h.says; mode = ap (λ (x : Sequent). x.mode) h.says; lhs = ap (λ (x : Sequent). x.lhs) h.says }

pub to_refuted : (w : Shown) (c : Ctx) (u : Term) (s : Bool) (q : Equiv) → Refutes w c u s q → q.says.rhs ≡ truth_constant (not s)
to_refuted w c u s q h = ap (λ (x : Sequent). x.rhs) h.says

pub from_squeezed : (w : Shown) (c : Ctx) (a b : Term) (q : Equiv) → Squeezes w c a b q → From w Equal c (equal_of a b) q
from_squeezed w c a b q h = record { stands = h.stands; ctx = ap (λ (x : Sequent). x.ctx) h.says; mode = ap (λ (x : Sequent). x.mode) h.says; lhs = ap (λ (x : Sequent). x.lhs) h.says }

pub to_squeezed : (w : Shown) (c : Ctx) (a b : Term) (q : Equiv) → Squeezes w c a b q → q.says.rhs ≡ truth_constant true
to_squeezed w c a b q h = ap (λ (x : Sequent). x.rhs) h.says

-- neither order
pub neither_order : (w : Shown) (c : Ctx) (a b : Term) (p q : Equiv) (m n : Mask) → IntegersWithin w c.0 a b m n → Refutes w c (less_of a b) true p → Refutes w c (less_of b a) true q
    → NeitherLess (function_of w.entries) c p.says q.says m n
neither_order w c a b p q m n i j k = record { left = a; right = b; less = j.says; more = k.says; left_mask = i.left; right_mask = i.right }

-- a name of `equal` is `EQUAL`
named : (k : Symbol) (p : Prim) (xs : List (Symbol × Prim)) → Each (λ (x : Symbol × Prim). x.1 ≡ p → x.0 ≡ k) xs → (f : Symbol) → lookup_by symbol_eq xs f ≡ Some p → f ≡ k
named k p [] h f e = cc
named k p (x ∷ xs) h f e = go (symbol_eq f x.0) refl e (named k p xs h.1 f)
  where
    go : (b : Bool) → symbol_eq f x.0 ≡ b → cond b (Some x.1) (lookup_by symbol_eq xs f) ≡ Some p → (lookup_by symbol_eq xs f ≡ Some p → f ≡ k) → f ≡ k
    go true q r later = let same : x.1 ≡ p = cc in symbol_eq-true f x.0 q ∙ h.0 same
    go false q r later = later r

equal_named : (f : Symbol) → prim_of f ≡ Some prim.Equal → f ≡ equal_name
unfolding prim_of primitives
equal_named f e = named equal_name prim.Equal primitives
    (λ q. cc, (λ q. refl, (λ q. cc, (λ q. cc, (λ q. cc, (λ q. cc, (λ q. cc, (λ q. cc, (λ q. cc, (λ q. cc, (λ q. cc, (λ q. cc, (λ q. cc, (λ q. cc, (λ q. cc, (λ q. cc, (λ q. cc, (λ q. cc, tt))))))))))))))))))
    f e

-- a list of two
pub two_of : (us : List Term) (a b : Term) → 2 ≤ length us → length us < 3 → a ≡ get_or us 0 a → b ≡ get_or us 1 b → us ≡ a ∷ b ∷ []
two_of [] a b few many p q = absurd (no few)
  where
    no : 2 ≤ 0 → ⊥
    no h = omega arith
two_of (x ∷ []) a b few many p q = absurd (no few)
  where
    no : 2 ≤ 1 → ⊥
    no h = omega arith
two_of (x ∷ y ∷ []) a b few many p q = sym (ap (λ z. z ∷ b ∷ []) p ∙ ap (λ z. x ∷ z ∷ []) q)
two_of (x ∷ y ∷ z ∷ us) a b few many p q = absurd (no (length us) many)
  where
    no : (n : ℕ) → suc (suc (suc n)) < 3 → ⊥
    no n h = omega arith

pub equation_of : (u : Term) (f : Symbol) (us : List Term) (a b : Term) → u ≡ Call f us → us ≡ a ∷ b ∷ [] → prim_of f ≡ Some prim.Equal → u ≡ equal_of a b
equation_of u f us a b e k p = e ∙ ap (Call f) k ∙ ap (λ x. Call x (a ∷ b ∷ [])) (equal_named f p)

-- comparisons, and their sides
pub less_compares : (a b : Term) → is_comparison (less_of a b) ≡ true
less_compares a b = rw (outs-Call less_name (a ∷ b ∷ []), prim_of_less) refl

pub equal_compares : (a b : Term) → is_comparison (equal_of a b) ≡ true
equal_compares a b = rw (outs-Call equal_name (a ∷ b ∷ []), prim_of_equal) refl

pub less_known : (D : Defs) (a b : Term) → known D a ≡ true → known D b ≡ true → known D (less_of a b) ≡ true
less_known D a b ka kb = known_by D less_name (a ∷ b ∷ []) (rw prim_of_less refl) (true_each (known D) (a ∷ b ∷ []) (ka, (kb, tt)))

pub call_compares : (u : Term) (f : Symbol) (us : List Term) → u ≡ Call f us → prim_of f ≡ Some prim.Less → is_comparison u ≡ true
call_compares u f us e p = ap is_comparison e ∙ ap form_compares (outs-Call f us) ∙ ap compares p

pub sides_known : (D : Defs) (u a b : Term) → known D u ≡ true → u ≡ equal_of a b → (known D a ≡ true) × (known D b ≡ true)
sides_known D u a b k e =
    let ks = call_parts D equal_name (a ∷ b ∷ []) (subst (λ x. known D x ≡ true) e k) in
    (ks.0, ks.1.0)

-- what is answered, by what is refuted
module _ (S : Setting) (r : Inner) (p : Place) (u : Term) (n m : ℕ) where
  pub truth_out : None ≡ refuted S r p u true n → None ≡ by_truth S r p u n
  truth_out e = after_out _ _ e

  pub truth_none : Some (false, m) ≡ refuted S r p u true n → ◌≡◌ {A = Got (Option Term)} (Some (None, m)) (by_truth S r p u n)
  truth_none e = after_some _ _ false m _ e refl

  pub truth_some : (v : Term) → v ≡ truth_constant false → Some (true, m) ≡ refuted S r p u true n → Some (Some v, m) ≡ by_truth S r p u n
  truth_some v is e = ap (λ (x : Term). Some (Some x, m)) is ∙ after_some _ _ true m _ e refl

  pub less_out : None ≡ refuted S r p u false n → None ≡ by_less S r p u n
  less_out e = after_out _ _ e

  pub less_none : Some (false, m) ≡ refuted S r p u false n → by_truth S r p u m ≡ by_less S r p u n
  less_none e = after_some _ _ false m _ e refl

  pub less_some : (v : Term) → v ≡ truth_constant true → Some (true, m) ≡ refuted S r p u false n → Some (Some v, m) ≡ by_less S r p u n
  less_some v is e = ap (λ (x : Term). Some (Some x, m)) is ∙ after_some _ _ true m _ e refl

  module _ (a b : Term) where
    pub orders_out : None ≡ refuted S r p (less_of a b) true n → None ≡ by_orders S r p a b n
    orders_out e = after_out _ _ e

    pub orders_none : Some (false, m) ≡ refuted S r p (less_of a b) true n → Some (false, m) ≡ by_orders S r p a b n
    orders_none e = after_some _ _ false m _ e refl

    pub orders_more : Some (true, m) ≡ refuted S r p (less_of a b) true n → refuted S r p (less_of b a) true m ≡ by_orders S r p a b n
    orders_more e = after_some _ _ true m _ e refl

    pub equal_out : None ≡ by_orders S r p a b n → None ≡ by_equal S r p u a b n
    equal_out e = after_out _ _ e

    pub equal_none : Some (false, m) ≡ by_orders S r p a b n → by_truth S r p u m ≡ by_equal S r p u a b n
    equal_none e = after_some _ _ false m _ e refl

    pub equal_some : (v : Term) → v ≡ truth_constant true → Some (true, m) ≡ by_orders S r p a b n → Some (Some v, m) ≡ by_equal S r p u a b n
    equal_some v is e = ap (λ (x : Term). Some (Some x, m)) is ∙ after_some _ _ true m _ e refl
