-- Generalization reduces: give the new variable the term's value.
use Rattle.std.proofs.Common.{◌≡◌, ◌≢◌, ℕ, ◌+◌, Bool, true, false, cond, List, [], ◌∷◌, ◌++◌, map, Option, Some, None, ◌⊎◌, inl, inr, refl, ap, sym, ◌∙◌, subst, eqb-true}
use Rattle.std.specs.Int.Bits.{bit_and}
use Rattle.std.specs.Int.{bit_at}
use Rattle.ap_list.specs.Lists.{Each}
use Rattle.ap_value.specs.declared.symbol.Symbol.{Symbol}
use Rattle.ap_value.specs.Values.{V, value_eq}
use Rattle.ap_term.specs.declared.term.Term.{Term, Var, Call}
use Rattle.ap_term.specs.declared.term.Clause.{Clause}
use Rattle.ap_world.specs.declared.entry.Function.{Function}
use Rattle.ap_world.specs.declared.entry.Mask.{Mask}
use Rattle.ap_world.specs.Names.{integerp_name, true_listp_name, consp_name, symbolp_name, stringp_name, characterp_name}
use Rattle.ap_world.specs.Primitives.{nil, truth}
use Rattle.ap_world.specs.Meaning.{Env, value_at, Defs, Total}
use Rattle.ap_world.specs.Types.{type_of, zero_bit, positive_bit, negative_bit, nil_bit, t_bit, symbol_bit, proper_bit, improper_bit, string_bit, character_bit}
use Rattle.ap_world.specs.Kinds.{without}
use Rattle.ap_world.specs.Rows.{recognisers, recognised}
use Rattle.ap_world.specs.Sound.{known, HasFunctions}
use Rattle.ap_world.specs.Ground.{ground_functions, true_listp_function}
use Rattle.ap_world.proofs.Knowing.{known_var, true_each}
use Rattle.ap_world.proofs.TotalMeaning.{Apply, Models, models, val, val_is, val_var, AnyTrue, valid_is, valid_of}
use Rattle.ap_world.proofs.Equations.{names_open, knowing, t-not_nil}
use Rattle.ap_world.proofs.Starting.{val_not}
use Rattle.ap_world.proofs.Grounded.{has_not}
use Rattle.ap_world.proofs.Sets.{apart, recognises, unrecognised_out, in_without}
use Rattle.ap_world.proofs.Recognising.{TrueLists, tests, recognised_tested}
use Rattle.ap_kernel.specs.Masks.{MaskHolds}
use Rattle.ap_kernel.specs.Reductions.{KnownClause, Follows}
use Rattle.ap_kernel.specs.Solving.{occurs_in}
use Rattle.ap_kernel.specs.Swapping.{swapped}
use Rattle.ap_kernel.specs.Generalising.{lies_within, tried, first_fitting, asked, restriction, generalised}
use Rattle.ap_kernel.proofs.ChoicesStand.{known_not}
use Rattle.ap_kernel.proofs.Reduced.{any_either, each_append}
use Rattle.ap_kernel.proofs.PartsSwapped.{SameAt, any_swapped, each_swapped, New, each_new, new_apart, at_self, at_other}

-- the function of the ground world that is spoken of
has_true_listp : (D : Defs) → HasFunctions D → D true_listp_name ≡ Some true_listp_function
unfolding ground_functions true_listp_function
has_true_listp D h = h.1.1.1.1.1.1.1.1.1.1.1.1.1.1.1.1.1.1.1.1.1.1.1.1.1.1.0

true_lists_here : (D : Defs) → HasFunctions D → TrueLists D
true_lists_here D h g here =
    let same : true_listp_function ≡ g = some_one true_listp_function g (sym (has_true_listp D h) ∙ here) in
    record { formals = ap (λ (f : Function). f.formals) (sym same); body = ap (λ (f : Function). f.body) (sym same); measure = ap (λ (f : Function). f.measure) (sym same) }
  where
    some_one : (f g : Function) → Some f ≡ Some g → f ≡ g
    some_one f g q = cc

prim_of_true_listp_known : (D : Defs) → D true_listp_name ≡ Some true_listp_function → (v : Symbol) → known D (Call true_listp_name (Var v ∷ [])) ≡ true
unfolding names_open true_listp_function
prim_of_true_listp_known D here v = simp (here, knowing) refl

-- a recogniser makes a known term of the variable, and is true of these types
abbrev Tries : Defs → Symbol → Symbol × ℕ → Type 0
Tries D v p = (known D (Call p.0 (Var v ∷ [])) ≡ true) × (recognised p.0 ≡ Some p.1)

integers_are : recognised integerp_name ≡ Some (zero_bit + positive_bit + negative_bit)
unfolding recognised recognisers names_open
integers_are = refl

lists_are : recognised true_listp_name ≡ Some (nil_bit + proper_bit)
unfolding recognised recognisers names_open
lists_are = refl

conses_are : recognised consp_name ≡ Some (proper_bit + improper_bit)
unfolding recognised recognisers names_open
conses_are = refl

symbols_are : recognised symbolp_name ≡ Some (nil_bit + t_bit + symbol_bit)
unfolding recognised recognisers names_open
symbols_are = refl

strings_are : recognised stringp_name ≡ Some string_bit
unfolding recognised recognisers names_open
strings_are = refl

characters_are : recognised characterp_name ≡ Some character_bit
unfolding recognised recognisers names_open
characters_are = refl

each_tries : (D : Defs) → HasFunctions D → (v : Symbol) → Each (Tries D v) tried
unfolding tried
each_tries D h v = (
  (simp knowing refl, integers_are),
  (
    (prim_of_true_listp_known D (has_true_listp D h) v, lists_are),
    (
      (simp knowing refl, conses_are),
      ((simp knowing refl, symbols_are), ((simp knowing refl, strings_are), ((simp knowing refl, characters_are), tt))),
    ),
  ),
)

-- what is found first has what holds of each, with types that the mask lies within
found_fitting : (P : Symbol × ℕ → Type 0) (m : ℕ) (xs : List (Symbol × ℕ)) (f : Symbol) → Each P xs → first_fitting m xs ≡ Some f → (r : ℕ) × P (f, r) × (lies_within m r ≡ true)
found_fitting P m [] f ps h = cc
found_fitting P m (x ∷ xs) f ps h = go (lies_within m x.1) refl (found_fitting P m xs f ps.1) h
  where
    go : (c : Bool) → lies_within m x.1 ≡ c → (first_fitting m xs ≡ Some f → (r : ℕ) × P (f, r) × (lies_within m r ≡ true)) → cond c (Some x.0) (first_fitting m xs) ≡ Some f
        → (r : ℕ) × P (f, r) × (lies_within m r ≡ true)
    go true q later l = let same : x.0 ≡ f = cc in (x.1, subst (λ y. P (y, x.1)) same ps.0, q)
    go false q later l = later l

-- a value of a mask within types has one of these
within_has : (m r : ℕ) (w : V) → lies_within m r ≡ true → bit_at m (type_of w) ≡ 1 → recognises r w ≡ true
within_has m r w h has = go (recognises r w) refl
  where
    go : (b : Bool) → recognises r w ≡ b → b ≡ true
    go true q = refl
    go false q = absurd (apart m (without r) (type_of w) (eqb-true (bit_and m (without r)) 0 h) has (in_without r w (unrecognised_out r w q)))

module _ (D : Defs) (functions : HasFunctions D) (m : ℕ) (v : Symbol) where
  restriction_known : Each (λ u. known D u ≡ true) (restriction m v)
  restriction_known = go (first_fitting m tried) refl
    where
      go : (o : Option Symbol) → first_fitting m tried ≡ o → Each (λ u. known D u ≡ true) (asked v o)
      go None q = tt
      go (Some f) q =
          let found = found_fitting (Tries D v) m tried f (each_tries D functions v) q in
          (known_not D (has_not D functions) (Call f (Var v ∷ [])) found.1.0, tt)

  -- where the variable's value has the mask, it is nil
  restriction_nil : (A : Apply) → Models D A → (e : Env) → bit_at m (type_of (value_at e v)) ≡ 1 → AnyTrue A e (restriction m v) → ⊥
  restriction_nil A ms e has h = go (first_fitting m tried) refl h
    where
      go : (o : Option Symbol) → first_fitting m tried ≡ o → AnyTrue A e (asked v o) → ⊥
      go None q h = h
      go (Some f) q (inr h) = h
      go (Some f) q (inl h) =
          let (r, tries, within) = found_fitting (Tries D v) m tried f (each_tries D functions v) q in
          h (val_not D A ms (has_not D functions) (Call f (Var v ∷ [])) e
          ∙ ap (λ w. truth (value_eq w nil)) (tests D A ms (has_not D functions) (true_lists_here D functions) f r (recognised_tested f r tries.1) (Var v) e tries.0
          ∙ ap (λ w. truth (recognises r w)) (val_var A v e) ∙ ap truth (within_has m r (value_at e v) within has))
          ∙ ap truth t-not_nil)

-- the new variable has the term's value
with_value : Apply → Term → Symbol → Env → Env
with_value A t v e = (v, val A t e) ∷ e

value_new : (A : Apply) (t : Term) (v : Symbol) (e : Env) → value_at (with_value A t v e) v ≡ val A t e
unfolding with_value
value_new A t v e = at_self v (val A t e) e

value_old : (A : Apply) (t : Term) (v : Symbol) (e : Env) (ts : List Term) → Each (New v) ts → Each (SameAt e (with_value A t v e)) ts
unfolding with_value
value_old A t v e [] new = tt
value_old A t v e (u ∷ us) new = (λ x o. at_other v x (val A t e) e (new_apart v x u new.0 o), value_old A t v e us new.1)

pub generalised_follows : (D : Defs) → Total D → HasFunctions D → (c : Clause) (t : Term) (v : Symbol) (m : Mask) → KnownClause D c → known D t ≡ true
    → MaskHolds D [] t m → occurs_in v c.0 ≡ false → Follows D (generalised c t v m)
generalised_follows D total functions c t v m k kt mask new =
    let (A, ms) = models D total in
    record {
      start = k;
      goals = (
        each_append (λ u. known D u ≡ true) (restriction m.0 v) (map (swapped ((t, Var v) ∷ [])) c.0) (restriction_known D functions m.0 v)
            (each_swapped D ((t, Var v) ∷ []) (known_var D v, tt) c.0 k),
        tt,
      );
      valid = λ valid. valid_of D A ms c.0 (true_each (known D) c.0 k) (λ e. held A ms e
          (any_either (λ u. val A u (with_value A t v e) ≢ nil) (restriction m.0 v) (map (swapped ((t, Var v) ∷ [])) c.0)
          (valid_is D A ms (restriction m.0 v ++ map (swapped ((t, Var v) ∷ [])) c.0) valid.0 (with_value A t v e))));
    }
  where
    held : (A : Apply) → Models D A → (e : Env) → AnyTrue A (with_value A t v e) (restriction m.0 v) ⊎ AnyTrue A (with_value A t v e) (map (swapped ((t, Var v) ∷ [])) c.0) → AnyTrue A e c.0
    held A ms e (inl h) =
        absurd (restriction_nil D functions m.0 v A ms (with_value A t v e)
        (subst (λ w. bit_at m.0 (type_of w) ≡ 1) (sym (value_new A t v e)) (mask e tt (val A t e) (val_is D A ms t kt e))) h)
    held A ms e (inr h) =
        any_swapped A e (with_value A t v e) ((t, Var v) ∷ []) (val_var A v (with_value A t v e) ∙ value_new A t v e, tt) c.0
        (value_old A t v e c.0 (each_new v c.0 new)) h
