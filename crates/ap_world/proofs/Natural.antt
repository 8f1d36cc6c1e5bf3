-- What `natp` of a value says, and that the count of a variable is a natural number.
use Rattle.std.proofs.Common.{◌≡◌, ◌≢◌, ℕ, Bool, true, false, cond, pos, negsuc, int_lt, List, [], ◌∷◌, Some, refl, sym, ap, ◌∙◌, inl, inr, arith}
use Rattle.std.proofs.lemmas.Int.{ints}
use Rattle.std.specs.Int.{bit_at}
use Rattle.ap_list.specs.Lists.{Each}
use Rattle.ap_value.specs.declared.symbol.Symbol.{Symbol}
use Rattle.ap_value.specs.Values.{V, int, chr, str, sym as symbol, cons, value_eq}
use Rattle.ap_value.proofs.Equals.{value_eq-same}
use Rattle.ap_term.specs.declared.term.Term.{Term, Var, Call}
use Rattle.ap_world.specs.declared.entry.Entry.{Entry}
use Rattle.ap_world.specs.Names.{not_name, natp_name, acl2_count_name, x_name}
use Rattle.ap_world.specs.Primitives.{nil, t, truth}
use Rattle.ap_world.specs.Meaning.{Env, Defs, Valid}
use Rattle.ap_world.specs.Recursion.{natp_of, count_of, natural_obligations}
use Rattle.ap_world.specs.Types.{Has, naturals, is_true_list}
use Rattle.ap_world.specs.Ground.{not_function, natp_function, acl2_count_function}
use Rattle.ap_world.specs.Sound.{known, Sound}
use Rattle.ap_world.specs.World.{function_of}
use Rattle.ap_world.proofs.TotalMeaning.{Apply, Models, models, val, apply_is, valid_is, valid_of, AnyTrue}
use Rattle.ap_world.proofs.Equations.{vals, knowing, t-not_nil, t_isnt_nil, prim_of_natp, prim_of_acl2_count, prim_of_not, val_defined, val_of_int}
use Rattle.ap_world.proofs.Starting.{not_is}
use Rattle.ap_world.proofs.Looking.{mask_holds}
use Rattle.ap_world.proofs.Falling.{nat_of, IsNat}

nil-is_nil : value_eq nil nil ≡ true
nil-is_nil = value_eq-same nil

not_below : (n : ℕ) → int_lt (pos n) (pos 0) ≡ false
not_below n = go (int_lt (pos n) (pos 0)) refl
  where
    go : (b : Bool) → int_lt (pos n) (pos 0) ≡ b → b ≡ false
    go true h = absurd (omega (arith, ints, h))
    go false h = refl

module _ (D : Defs) (A : Apply) (m : Models D A) (has_not : D not_name ≡ Some not_function) (has_natp : D natp_name ≡ Some natp_function) where
  not_val : (v : V) → A not_name (v ∷ []) ≡ truth (value_eq v nil)
  not_val = not_is D A m has_not

  val_not : (a : Term) (e : Env) → val A (Call not_name (a ∷ [])) e ≡ A not_name (val A a e ∷ [])
  val_not a e = val_defined A not_name (a ∷ []) e prim_of_not

  val_natp : (a : Term) (e : Env) → val A (natp_of a) e ≡ A natp_name (val A a e ∷ [])
  val_natp a e = val_defined A natp_name (a ∷ []) e prim_of_natp

  natp_natural : (n : ℕ) → A natp_name (int (pos n) ∷ []) ≡ t
  unfolding natp_function x_name
  natp_natural n = apply_is D A m natp_name natp_function (int (pos n) ∷ []) has_natp refl ∙ simp (vals, val_not, not_val, not_below, val_of_int, t-not_nil, nil-is_nil)

  -- a value of which `natp` holds is a natural number
  natp_nat : (v : V) → A natp_name (v ∷ []) ≢ nil → v ≡ int (pos (nat_of v))
  unfolding natp_function x_name
  natp_nat (int (pos n)) h = refl
  natp_nat (int (negsuc n)) h = absurd (h (apply_is D A m natp_name natp_function (int (negsuc n) ∷ []) has_natp refl ∙ simp (vals, val_not, not_val, val_of_int, t-not_nil)))
  natp_nat v h = absurd (h (apply_is D A m natp_name natp_function (v ∷ []) has_natp refl ∙ simp (vals, nil-is_nil)))

  -- so components with valid obligations are natural numbers
  pub natural_from : (ms : List Term) → Each (Valid D) (natural_obligations ms) → (e : Env) → Each (IsNat A e) ms
  natural_from [] h e = tt
  natural_from (u ∷ us) h e = (one (valid_is D A m (natp_of u ∷ []) h.0 e), natural_from us h.1 e)
    where
      one : AnyTrue A e (natp_of u ∷ []) → IsNat A e u
      one (inl l) = natp_nat (val A u e) (λ same. l (val_natp u e ∙ same))
      one (inr l) = absurd l

pub natp_is_known : (D : Defs) → D natp_name ≡ Some natp_function → (u : Term) → known D u ≡ true → known D (natp_of u) ≡ true
unfolding natp_function
natp_is_known D has_natp u k = simp (k, has_natp, prim_of_natp, knowing)

-- the mask of the naturals holds of no other value
mask_natural : (v : V) → Has naturals v → v ≡ int (pos (nat_of v))
mask_natural (int (pos n)) h = refl
mask_natural (int (negsuc n)) h = cc
mask_natural (chr c) h = cc
mask_natural (str s) h = cc
mask_natural (cons a b) h = go (is_true_list b) h
  where
    go : (x : Bool) → bit_at 3 (cond x 6 7) ≡ 1 → cons a b ≡ int (pos 0)
    go true k = cc
    go false k = cc
mask_natural (symbol k s) h = go (value_eq (symbol k s) nil) (value_eq (symbol k s) t) h
  where
    go : (x y : Bool) → bit_at 3 (cond x 3 (cond y 4 5)) ≡ 1 → symbol k s ≡ int (pos 0)
    go true y k = cc
    go false true k = cc
    go false false k = cc

-- in a sound world the count of a variable is a natural number, since the mask of `acl2-count` says so
pub count_natural : (W : List Entry) → Sound W → function_of W not_name ≡ Some not_function → function_of W natp_name ≡ Some natp_function → function_of W acl2_count_name ≡ Some acl2_count_function
    → (x : Symbol) → Each (Valid (function_of W)) (natural_obligations (count_of x ∷ []))
unfolding natp_function acl2_count_function
count_natural W sound has_not has_natp has_count x =
    let (A, m) = models (function_of W) sound.total in
    (valid_of (function_of W) A m (natp_of (count_of x) ∷ []) (simp (has_natp, has_count, prim_of_natp, prim_of_acl2_count, knowing)) (λ e. inl (holds A m e)), tt)
  where
    natural : (A : Apply) → Models (function_of W) A → (v : V) → A acl2_count_name (v ∷ []) ≡ int (pos (nat_of (A acl2_count_name (v ∷ []))))
    natural A m v = mask_natural (A acl2_count_name (v ∷ [])) (mask_holds W sound acl2_count_name acl2_count_function has_count (v ∷ []) (A acl2_count_name (v ∷ [])) (m acl2_count_name acl2_count_function (v ∷ []) has_count refl))

    holds : (A : Apply) → Models (function_of W) A → (e : Env) → val A (natp_of (count_of x)) e ≢ nil
    holds A m e h = t_isnt_nil (sym (natp_natural (function_of W) A m has_not has_natp (nat_of (A acl2_count_name (val A (Var x) e ∷ []))))
        ∙ ap (λ v. A natp_name (v ∷ [])) (sym (val_defined A acl2_count_name (Var x ∷ []) e prim_of_acl2_count ∙ natural A m (val A (Var x) e)))
        ∙ sym (val_defined A natp_name (count_of x ∷ []) e prim_of_natp) ∙ h)
