-- Each rule of the ground world is known and valid, over all values.
use Rattle.std.proofs.Common.{◌≡◌, ◌≢◌, Bool, true, false, not, cond, List, [], ◌∷◌, ℤ, pos, ◌+ℤ◌, ◌*ℤ◌, ◌*◌, nat_lt, refl, sym, ap, ◌∙◌, inl, arith}
use Rattle.std.proofs.Math.IntN.{+ℤ_assoc, +ℤ_comm, +ℤ_idl, *ℤ_comm, *ℤ-one, zero-*ℤ}
use Rattle.std.proofs.lemmas.Bool.{ltb-false}
use Rattle.std.proofs.lemmas.Int.{ints}
use borrow.Author.Differences.{up, down, sum_is_lem, product_is}
use Rattle.ap_list.specs.Lists.{Each}
use Rattle.ap_value.specs.Values.{V, Byte, int, chr, str, cons, value_eq, byte_of}
use Rattle.ap_value.proofs.Equals.{value_eq-same}
use Rattle.ap_value.proofs.Bytes.{byte_of_code}
use Rattle.ap_term.specs.declared.term.Term.{Term}
use Rattle.ap_world.specs.Names.{equal_name, list_name, string_name, x_name, y_name, z_name}
use Rattle.ap_world.specs.Primitives.{nil, t, truth, is_cons, is_character, is_string, int_of, car_of, cdr_of, char_code_of, code_char_of, coerce_of, chars_to, chars_from, symbol_value}
use Rattle.ap_world.specs.Meaning.{Env, value_at, Valid}
use Rattle.ap_world.specs.Sound.{known, GoodTheorem}
use Rattle.ap_world.specs.Ground.{two, ground_rules, fix_function, implies_function, car_cons, cdr_cons, car_cdr_elim, commutativity_of_plus, associativity_of_plus, commutativity_2_of_plus, unicity_of_0, commutativity_of_times, associativity_of_times, commutativity_2_of_times, unicity_of_1, times_zero, distributivity, code_char_char_code, coerce_inverse}
use Rattle.ap_world.proofs.TotalMeaning.{Apply, Models, val, valid_of}
use Rattle.ap_world.proofs.Equations.{names_open, vals, knowing, val_equal, not_nil-eq, t_isnt_nil, t-not_nil, val_of_int, val_of_sym}
use Rattle.ap_ground.proofs.Meanings.{ground_heads}
use Rattle.ap_ground.proofs.Valued.{nil-is_nil}
use Rattle.ap_ground.proofs.Totality.{G}
use Rattle.ap_ground.proofs.There.{has_fix, has_implies}
use Rattle.ap_ground.proofs.Meant.{list-is_list, val_fix, val_implies, fix_val, implies_val}

-- the laws of integers that the standard library doesn't state
swap : (a b c : ℤ) → a +ℤ (b +ℤ c) ≡ b +ℤ (a +ℤ c)
swap a b c = sym (+ℤ_assoc a b c) ∙ ap (λ n. n +ℤ c) (+ℤ_comm a b) ∙ +ℤ_assoc b a c

distribute : (a b c : ℤ) → a *ℤ (b +ℤ c) ≡ a *ℤ b +ℤ a *ℤ c
distribute a b c = omega (arith, ints, ap (λ n. up a * n) (sum_is_lem b c), ap (λ n. down a * n) (sum_is_lem b c))

times_assoc : (a b c : ℤ) → (a *ℤ b) *ℤ c ≡ a *ℤ (b *ℤ c)
times_assoc a b c = omega (
  arith,
  ints,
  ap (λ n. up c * n) (product_is a b).0,
  ap (λ n. up c * n) (product_is a b).1,
  ap (λ n. down c * n) (product_is a b).0,
  ap (λ n. down c * n) (product_is a b).1,
  ap (λ n. up a * n) (product_is b c).0,
  ap (λ n. up a * n) (product_is b c).1,
  ap (λ n. down a * n) (product_is b c).0,
  ap (λ n. down a * n) (product_is b c).1,
)

pub times_swap : (a b c : ℤ) → a *ℤ (b *ℤ c) ≡ b *ℤ (a *ℤ c)
times_swap a b c = sym (times_assoc a b c) ∙ ap (λ n. n *ℤ c) (*ℤ_comm a b) ∙ times_assoc b a c

-- a character is that of its code, and a string is that of its characters
code_back : (c : Byte) → code_char_of (char_code_of (chr c)) ≡ chr c
code_back c = go (nat_lt c.code 256) refl
  where
    go : (b : Bool) → nat_lt c.code 256 ≡ b → chr (byte_of (cond b c.code 0)) ≡ chr c
    go true h = ap chr (byte_of_code c)
    go false h = absurd (omega (arith, ltb-false c.code 256 h, c.small))

chars_back : (s : List Byte) → chars_from (chars_to s) ≡ s
unfolding nil
chars_back [] = refl
chars_back (c ∷ s) = ap (λ r. c ∷ r) (chars_back s)

-- an implication isn't nil where its conclusion isn't nil whenever its hypothesis isn't
implied : (b : Bool) (v : V) → (b ≡ true → v ≢ nil) → cond (value_eq (truth b) nil) t (truth (not (value_eq v nil))) ≢ nil
implied false v h = rw (nil-is_nil) t_isnt_nil
implied true v h = rw (t-not_nil, not_nil-eq v (h refl)) t_isnt_nil

list_isnt_string : value_eq (symbol_value string_name) (symbol_value list_name) ≡ false
unfolding value_eq names_open
list_isnt_string = refl

module _ (A : Apply) (m : Models G A) where
  valid_by : (u : Term) → known G u ≡ true → ((e : Env) → val A u e ≢ nil) → Valid G (u ∷ [])
  valid_by u u_known h = valid_of G A m (u ∷ []) (rw u_known refl) (λ e. inl (h e))

  equal_true : (l r : Term) (e : Env) → val A l e ≡ val A r e → val A (two equal_name l r) e ≢ nil
  equal_true l r e h n = t_isnt_nil (sym (val_equal A l r e ∙ ap truth (ap (λ v. value_eq v (val A r e)) h ∙ value_eq-same (val A r e))) ∙ n)

  equation : (l r : Term) → known G (two equal_name l r) ≡ true → ((e : Env) → val A l e ≡ val A r e) → Valid G (two equal_name l r ∷ [])
  equation l r u_known h = valid_by (two equal_name l r) u_known (λ e. equal_true l r e (h e))

  car_cons_good : GoodTheorem G car_cons
  unfolding car_cons
  car_cons_good = record { term_known = simp (knowing); valid = equation _ _ (simp (knowing)) (λ e. simp vals) }

  cdr_cons_good : GoodTheorem G cdr_cons
  unfolding cdr_cons
  cdr_cons_good = record { term_known = simp (knowing); valid = equation _ _ (simp (knowing)) (λ e. simp vals) }

  commutativity_of_plus_good : GoodTheorem G commutativity_of_plus
  unfolding commutativity_of_plus
  commutativity_of_plus_good = record { term_known = simp (knowing); valid = equation _ _ (simp (knowing)) (λ e. simp vals (ap int (+ℤ_comm (int_of (value_at e x_name)) (int_of (value_at e y_name))))) }

  associativity_of_plus_good : GoodTheorem G associativity_of_plus
  unfolding associativity_of_plus
  associativity_of_plus_good = record { term_known = simp (knowing); valid = equation _ _ (simp (knowing)) (λ e. simp vals (ap int (+ℤ_assoc (int_of (value_at e x_name)) (int_of (value_at e y_name)) (int_of (value_at e z_name))))) }

  commutativity_2_of_plus_good : GoodTheorem G commutativity_2_of_plus
  unfolding commutativity_2_of_plus
  commutativity_2_of_plus_good = record { term_known = simp (knowing); valid = equation _ _ (simp (knowing)) (λ e. simp vals (ap int (swap (int_of (value_at e x_name)) (int_of (value_at e y_name)) (int_of (value_at e z_name))))) }

  unicity_of_0_good : GoodTheorem G unicity_of_0
  unfolding unicity_of_0 fix_function
  unicity_of_0_good = record { term_known = simp (has_fix, knowing, ground_heads); valid = equation _ _ (simp (has_fix, knowing, ground_heads)) (λ e. simp (vals, val_of_int, val_fix A m, fix_val A m) (ap int (+ℤ_idl (int_of (value_at e x_name))))) }

  commutativity_of_times_good : GoodTheorem G commutativity_of_times
  unfolding commutativity_of_times
  commutativity_of_times_good = record { term_known = simp (knowing); valid = equation _ _ (simp (knowing)) (λ e. simp vals (ap int (*ℤ_comm (int_of (value_at e x_name)) (int_of (value_at e y_name))))) }

  associativity_of_times_good : GoodTheorem G associativity_of_times
  unfolding associativity_of_times
  associativity_of_times_good = record { term_known = simp (knowing); valid = equation _ _ (simp (knowing)) (λ e. simp vals (ap int (times_assoc (int_of (value_at e x_name)) (int_of (value_at e y_name)) (int_of (value_at e z_name))))) }

  commutativity_2_of_times_good : GoodTheorem G commutativity_2_of_times
  unfolding commutativity_2_of_times
  commutativity_2_of_times_good = record { term_known = simp (knowing); valid = equation _ _ (simp (knowing)) (λ e. simp vals (ap int (times_swap (int_of (value_at e x_name)) (int_of (value_at e y_name)) (int_of (value_at e z_name))))) }

  unicity_of_1_good : GoodTheorem G unicity_of_1
  unfolding unicity_of_1 fix_function lib.IntN.one
  unicity_of_1_good = record { term_known = simp (has_fix, knowing, ground_heads); valid = equation _ _ (simp (has_fix, knowing, ground_heads)) (λ e. simp (vals, val_of_int, val_fix A m, fix_val A m) (ap int (*ℤ_comm (pos 1) (int_of (value_at e x_name)) ∙ *ℤ-one (int_of (value_at e x_name))))) }

  times_zero_good : GoodTheorem G times_zero
  unfolding times_zero
  times_zero_good = record { term_known = simp (knowing); valid = equation _ _ (simp (knowing)) (λ e. simp (vals, val_of_int) (ap int (zero-*ℤ (int_of (value_at e x_name))))) }

  distributivity_good : GoodTheorem G distributivity
  unfolding distributivity
  distributivity_good = record { term_known = simp (knowing); valid = equation _ _ (simp (knowing)) (λ e. simp vals (ap int (distribute (int_of (value_at e x_name)) (int_of (value_at e y_name)) (int_of (value_at e z_name))))) }

  car_cdr_elim_holds : (v : V) → is_cons v ≡ true → truth (value_eq (cons (car_of v) (cdr_of v)) v) ≢ nil
  car_cdr_elim_holds (cons a b) h = rw (value_eq-same (cons a b)) t_isnt_nil
  car_cdr_elim_holds v h = cc

  car_cdr_elim_good : GoodTheorem G car_cdr_elim
  unfolding car_cdr_elim implies_function
  car_cdr_elim_good = record {
    term_known = simp (has_implies, knowing, ground_heads);
    valid = valid_by _ (simp (has_implies, knowing, ground_heads)) (λ e. simp (vals, val_of_sym, val_implies A m, implies_val A m)
        (implied (is_cons (value_at e x_name)) (truth (value_eq (cons (car_of (value_at e x_name)) (cdr_of (value_at e x_name))) (value_at e x_name))) (car_cdr_elim_holds (value_at e x_name))));
  }

  code_char_char_code_holds : (v : V) → is_character v ≡ true → truth (value_eq (code_char_of (char_code_of v)) v) ≢ nil
  code_char_char_code_holds (chr c) h = rw (code_back c, value_eq-same (chr c)) t_isnt_nil
  code_char_char_code_holds v h = cc

  code_char_char_code_good : GoodTheorem G code_char_char_code
  unfolding code_char_char_code implies_function
  code_char_char_code_good = record {
    term_known = simp (has_implies, knowing, ground_heads);
    valid = valid_by _ (simp (has_implies, knowing, ground_heads)) (λ e. simp (vals, val_of_sym, val_implies A m, implies_val A m)
        (implied (is_character (value_at e x_name)) (truth (value_eq (code_char_of (char_code_of (value_at e x_name))) (value_at e x_name))) (code_char_char_code_holds (value_at e x_name))));
  }

  coerce_inverse_holds : (v : V) → is_string v ≡ true → truth (value_eq (coerce_of (coerce_of v (symbol_value list_name)) (symbol_value string_name)) v) ≢ nil
  coerce_inverse_holds (str s) h = rw (list-is_list, list_isnt_string, chars_back s, value_eq-same (str s)) t_isnt_nil
  coerce_inverse_holds v h = cc

  coerce_inverse_good : GoodTheorem G coerce_inverse
  unfolding coerce_inverse implies_function
  coerce_inverse_good = record {
    term_known = simp (has_implies, knowing, ground_heads);
    valid = valid_by _ (simp (has_implies, knowing, ground_heads)) (λ e. simp (vals, val_of_sym, val_implies A m, implies_val A m)
        (implied (is_string (value_at e x_name)) (truth (value_eq (coerce_of (coerce_of (value_at e x_name) (symbol_value list_name)) (symbol_value string_name)) (value_at e x_name))) (coerce_inverse_holds (value_at e x_name))));
  }

  pub rules_good : Each (GoodTheorem G) ground_rules
  unfolding ground_rules
  rules_good = (car_cons_good, (cdr_cons_good, (car_cdr_elim_good, (commutativity_of_plus_good, (associativity_of_plus_good, (commutativity_2_of_plus_good, (unicity_of_0_good, (commutativity_of_times_good, (associativity_of_times_good, (commutativity_2_of_times_good, (unicity_of_1_good, (times_zero_good, (distributivity_good, (code_char_char_code_good, (coerce_inverse_good, tt)))))))))))))))
