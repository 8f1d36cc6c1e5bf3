-- What calls of some functions of the ground world give.
use Rattle.std.proofs.Common.{◌≡◌, ℕ, suc, ◌+◌, Bool, true, false, not, cond, List, [], ◌∷◌, length, ℤ, pos, negsuc, ◌+ℤ◌, neg_ℤ, int_lt, nat_abs, refl, ap, ◌∙◌, arith}
use Rattle.std.proofs.Math.Numerals.{one-add}
use Rattle.std.proofs.lemmas.Int.{ints}
use Rattle.ap_value.specs.Values.{V, Byte, int, str, cons, value_eq}
use Rattle.ap_value.proofs.Equals.{value_eq-same}
use Rattle.ap_world.specs.Names.{acl2_count_name, endp_name, fix_name, implies_name, integer_abs_name, len_name, length_name, list_name, natp_name, not_name, p_name, q_name, x_name}
use Rattle.ap_term.specs.declared.term.Term.{Term, Call}
use Rattle.ap_world.specs.Meaning.{Env}
use Rattle.ap_world.specs.Primitives.{nil, t, truth, is_cons, int_of, chars_to, symbol_value}
use Rattle.ap_world.specs.Ground.{implies_function, endp_function, fix_function, natp_function, integer_abs_function, len_function, length_function, acl2_count_function}
use Rattle.ap_world.proofs.TotalMeaning.{Apply, Models, val, apply_is}
use Rattle.ap_world.proofs.Equations.{vals, t-not_nil, prim_of_not, prim_of_natp, prim_of_implies, prim_of_acl2_count, val_defined, val_of_int, val_of_sym}
use Rattle.ap_world.proofs.Starting.{not_is}
use Rattle.ap_ground.proofs.Meanings.{prim_of_endp, prim_of_fix, prim_of_integer_abs, prim_of_len, prim_of_length}
use Rattle.ap_ground.proofs.Valued.{nil-is_nil}
use Rattle.ap_ground.proofs.Totality.{G}
use Rattle.ap_ground.proofs.There.{has_not, has_implies, has_endp, has_fix, has_natp, has_integer_abs, has_len, has_length, has_acl2_count}

-- a test's value is nil where it is false
pub truth-nil : (b : Bool) → value_eq (truth b) nil ≡ not b
truth-nil true = t-not_nil
truth-nil false = nil-is_nil

pub truth-choose : (b : Bool) → cond b nil t ≡ truth (not b)
truth-choose true = refl
truth-choose false = refl

-- ACL2's count of a value, and the number of conses along its cdrs
abbrev pub count_v : V → ℕ
count_v (cons a b) = suc (count_v a + count_v b)
count_v (int n) = nat_abs n
count_v (str s) = length s
count_v v = 0

abbrev pub len_v : V → ℕ
len_v (cons a b) = suc (len_v b)
len_v v = 0

pub len-chars : (s : List Byte) → len_v (chars_to s) ≡ length s
unfolding nil
len-chars [] = refl
len-chars (c ∷ s) = ap suc (len-chars s)

pub list-is_list : value_eq (symbol_value list_name) (symbol_value list_name) ≡ true
list-is_list = value_eq-same (symbol_value list_name)

-- one more than a natural number, and the sum of two
one_more : (n : ℕ) → pos 1 +ℤ pos n ≡ pos (suc n)
one_more n = ap pos (one-add n)

both_more : (m n : ℕ) → pos 1 +ℤ (pos m +ℤ pos n) ≡ pos (suc (m + n))
both_more m n = ap pos (one-add (m + n))

pub not_below : (n : ℕ) → int_lt (pos n) (pos 0) ≡ false
not_below n = go (int_lt (pos n) (pos 0)) refl
  where
    go : (b : Bool) → int_lt (pos n) (pos 0) ≡ b → b ≡ false
    go true h = absurd (omega (arith, ints, h))
    go false h = refl

-- the absolute value, chosen by the sign
pub abs_is : (n : ℤ) → cond (value_eq (truth (int_lt n (pos 0))) nil) (int n) (int (neg_ℤ n)) ≡ int (pos (nat_abs n))
abs_is (pos k) = rw (not_below k, nil-is_nil) refl
abs_is (negsuc k) = rw (t-not_nil) refl

module _ (A : Apply) (m : Models G A) where
  pub not_val : (v : V) → A not_name (v ∷ []) ≡ truth (value_eq v nil)
  not_val = not_is G A m has_not

  -- calls of functions in a term
  pub val_not : (a : Term) (e : Env) → val A (Call not_name (a ∷ [])) e ≡ A not_name (val A a e ∷ [])
  val_not a e = val_defined A not_name (a ∷ []) e prim_of_not

  pub val_endp : (a : Term) (e : Env) → val A (Call endp_name (a ∷ [])) e ≡ A endp_name (val A a e ∷ [])
  val_endp a e = val_defined A endp_name (a ∷ []) e prim_of_endp

  pub val_fix : (a : Term) (e : Env) → val A (Call fix_name (a ∷ [])) e ≡ A fix_name (val A a e ∷ [])
  val_fix a e = val_defined A fix_name (a ∷ []) e prim_of_fix

  pub val_natp : (a : Term) (e : Env) → val A (Call natp_name (a ∷ [])) e ≡ A natp_name (val A a e ∷ [])
  val_natp a e = val_defined A natp_name (a ∷ []) e prim_of_natp

  pub val_implies : (a b : Term) (e : Env) → val A (Call implies_name (a ∷ b ∷ [])) e ≡ A implies_name (val A a e ∷ val A b e ∷ [])
  val_implies a b e = val_defined A implies_name (a ∷ b ∷ []) e prim_of_implies

  pub val_abs : (a : Term) (e : Env) → val A (Call integer_abs_name (a ∷ [])) e ≡ A integer_abs_name (val A a e ∷ [])
  val_abs a e = val_defined A integer_abs_name (a ∷ []) e prim_of_integer_abs

  pub val_len : (a : Term) (e : Env) → val A (Call len_name (a ∷ [])) e ≡ A len_name (val A a e ∷ [])
  val_len a e = val_defined A len_name (a ∷ []) e prim_of_len

  pub val_length : (a : Term) (e : Env) → val A (Call length_name (a ∷ [])) e ≡ A length_name (val A a e ∷ [])
  val_length a e = val_defined A length_name (a ∷ []) e prim_of_length

  pub val_count : (a : Term) (e : Env) → val A (Call acl2_count_name (a ∷ [])) e ≡ A acl2_count_name (val A a e ∷ [])
  val_count a e = val_defined A acl2_count_name (a ∷ []) e prim_of_acl2_count

  pub implies_val : (v w : V) → A implies_name (v ∷ w ∷ []) ≡ cond (value_eq v nil) t (truth (not (value_eq w nil)))
  unfolding implies_function p_name q_name
  implies_val v w = apply_is G A m implies_name implies_function (v ∷ w ∷ []) has_implies refl ∙ simp (vals, truth-choose)

  pub endp_val : (v : V) → A endp_name (v ∷ []) ≡ truth (not (is_cons v))
  unfolding endp_function x_name
  endp_val v = apply_is G A m endp_name endp_function (v ∷ []) has_endp refl ∙ val_not _ _ ∙ simp (vals, not_val, truth-nil)

  pub fix_val : (v : V) → A fix_name (v ∷ []) ≡ int (int_of v)
  unfolding fix_function x_name
  fix_val (int n) = apply_is G A m fix_name fix_function (int n ∷ []) has_fix refl ∙ simp (vals, t-not_nil)
  fix_val v = apply_is G A m fix_name fix_function (v ∷ []) has_fix refl ∙ simp (vals, nil-is_nil, val_of_int)

  pub natp_val : (n : ℕ) → A natp_name (int (pos n) ∷ []) ≡ t
  unfolding natp_function x_name
  natp_val n = apply_is G A m natp_name natp_function (int (pos n) ∷ []) has_natp refl ∙ simp (vals, val_not, not_val, not_below, truth-nil, val_of_int, t-not_nil, nil-is_nil)

  pub abs_val : (n : ℤ) → A integer_abs_name (int n ∷ []) ≡ int (pos (nat_abs n))
  unfolding integer_abs_function x_name
  abs_val n = apply_is G A m integer_abs_name integer_abs_function (int n ∷ []) has_integer_abs refl ∙ simp (vals, val_of_int, t-not_nil, abs_is)

  pub len_val : (v : V) → A len_name (v ∷ []) ≡ int (pos (len_v v))
  unfolding len_function x_name
  len_val (cons a b) = apply_is G A m len_name len_function (cons a b ∷ []) has_len refl ∙ simp (vals, val_len, t-not_nil, len_val b, val_of_int, one_more)
  len_val v = apply_is G A m len_name len_function (v ∷ []) has_len refl ∙ simp (vals, nil-is_nil, val_of_int)

  pub length_val : (s : List Byte) → A length_name (str s ∷ []) ≡ int (pos (length s))
  unfolding length_function x_name
  length_val s = apply_is G A m length_name length_function (str s ∷ []) has_length refl ∙ simp (vals, val_len, t-not_nil, val_of_sym, list-is_list, len_val, len-chars)

  pub count_val : (v : V) → A acl2_count_name (v ∷ []) ≡ int (pos (count_v v))
  unfolding acl2_count_function x_name
  count_val (cons a b) = apply_is G A m acl2_count_name acl2_count_function (cons a b ∷ []) has_acl2_count refl ∙ simp (vals, val_count, t-not_nil, count_val a, count_val b, val_of_int, both_more)
  count_val (int n) = apply_is G A m acl2_count_name acl2_count_function (int n ∷ []) has_acl2_count refl ∙ simp (vals, val_abs, nil-is_nil, t-not_nil, abs_val)
  count_val (str s) = apply_is G A m acl2_count_name acl2_count_function (str s ∷ []) has_acl2_count refl ∙ simp (vals, val_length, nil-is_nil, t-not_nil, length_val)
  count_val v = apply_is G A m acl2_count_name acl2_count_function (v ∷ []) has_acl2_count refl ∙ simp (vals, nil-is_nil, val_of_int)
