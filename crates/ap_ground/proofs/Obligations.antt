-- The obligations of the recursive functions are valid: the count of x is a natural number, and falls at
-- the car and the cdr of a cons.
use Rattle.std.proofs.Common.{◌≡◌, ◌≢◌, ℕ, suc, ◌+◌, Bool, true, false, List, [], ◌∷◌, pos, int_lt, true≢false, refl, ap, sym, ◌∙◌, inl, inr, arith}
use Rattle.std.proofs.lemmas.Int.{ints}
use Rattle.ap_list.specs.Lists.{Each}
use Rattle.ap_value.specs.declared.symbol.Symbol.{Symbol}
use Rattle.ap_value.specs.Values.{V, cons, symbol_eq}
use Rattle.ap_value.proofs.Equals.{symbol_eq-same}
use Rattle.ap_term.specs.declared.term.Term.{Term, out-Term}
use Rattle.ap_term.specs.declared.term.Term.TheOpen.{Term-F}
use Rattle.ap_term.specs.Equal.{term_eq}
use Rattle.ap_world.specs.Names.{a_name, acl2_count_name, car_name, cdr_name, consp_name, endp_name, equal_name, less_name, not_name, x_name, y_name}
use Rattle.ap_world.specs.Primitives.{nil, is_cons}
use Rattle.ap_world.specs.Meaning.{Env, value_at, Valid}
use Rattle.ap_world.specs.Recursion.{natural_obligations, falling_obligations, count_of, natp_of}
use Rattle.ap_world.specs.Ground.{one, two, x, y, a, true_listp_function, len_function, acl2_count_function, append_function, member_equal_function, make_character_list_function, natp_function, endp_function, not_function}
use Rattle.ap_world.proofs.TotalMeaning.{Apply, Models, val, valid_of}
use Rattle.ap_world.proofs.Equations.{names_open, vals, knowing, t_isnt_nil}
use Rattle.ap_world.proofs.Written.{out_call, differs, instances, clauses, recursion}
use Rattle.ap_ground.proofs.Meanings.{ground_heads}
use Rattle.ap_ground.proofs.Totality.{G}
use Rattle.ap_ground.proofs.There.{there}
use Rattle.ap_ground.proofs.Meant.{truth-nil, val_not, val_endp, val_natp, val_count, not_val, endp_val, natp_val, count_val}

-- a part counts less than the cons
below_first : (m n : ℕ) → int_lt (pos m) (pos (suc (m + n))) ≡ true
below_first m n = go (int_lt (pos m) (pos (suc (m + n)))) refl
  where
    go : (b : Bool) → int_lt (pos m) (pos (suc (m + n))) ≡ b → b ≡ true
    go true h = refl
    go false h = absurd (omega (arith, ints, h))

below_rest : (m n : ℕ) → int_lt (pos n) (pos (suc (m + n))) ≡ true
below_rest m n = go (int_lt (pos n) (pos (suc (m + n)))) refl
  where
    go : (b : Bool) → int_lt (pos n) (pos (suc (m + n))) ≡ b → b ≡ true
    go true h = refl
    go false h = absurd (omega (arith, ints, h))

-- the cases of each body
pub true_listp_cases : true_listp_function.cases ≡ record { tests = one consp_name x ∷ []; calls = (one cdr_name x ∷ []) ∷ [] } ∷ record { tests = one not_name (one consp_name x) ∷ []; calls = [] } ∷ []
unfolding true_listp_function names_open
true_listp_cases = simp recursion

pub len_cases : len_function.cases ≡ record { tests = one consp_name x ∷ []; calls = (one cdr_name x ∷ []) ∷ [] } ∷ record { tests = one not_name (one consp_name x) ∷ []; calls = [] } ∷ []
unfolding len_function names_open
len_cases = simp recursion

parts_differ : term_eq (one cdr_name x) (one car_name x) ≡ false
unfolding names_open
parts_differ = differs (one cdr_name x) (one car_name x) (λ e. apart (sym (out_call cdr_name (x ∷ [])) ∙ ap out-Term e ∙ out_call car_name (x ∷ [])))
  where
    apart : Term-F.Call cdr_name (x ∷ []) ≡ Term-F.Call car_name (x ∷ []) → ⊥
    apart e = let same : cdr_name ≡ car_name = cc in true≢false (sym (symbol_eq-same cdr_name) ∙ ap (symbol_eq cdr_name) same)

pub acl2_count_cases : acl2_count_function.cases ≡ record { tests = one consp_name x ∷ []; calls = (one car_name x ∷ []) ∷ (one cdr_name x ∷ []) ∷ [] } ∷ record { tests = one not_name (one consp_name x) ∷ []; calls = [] } ∷ []
unfolding acl2_count_function names_open
acl2_count_cases = simp (recursion, parts_differ)

pub append_cases : append_function.cases ≡ record { tests = one endp_name x ∷ []; calls = [] } ∷ record { tests = one not_name (one endp_name x) ∷ []; calls = (one cdr_name x ∷ y ∷ []) ∷ [] } ∷ []
unfolding append_function names_open
append_cases = simp recursion

pub member_equal_cases : member_equal_function.cases ≡ record { tests = one endp_name x ∷ []; calls = [] } ∷ record { tests = one not_name (one endp_name x) ∷ two equal_name a (one car_name x) ∷ []; calls = [] } ∷ record { tests = one not_name (one endp_name x) ∷ one not_name (two equal_name a (one car_name x)) ∷ []; calls = (a ∷ one cdr_name x ∷ []) ∷ [] } ∷ []
unfolding member_equal_function names_open
member_equal_cases = simp recursion

pub make_character_list_cases : make_character_list_function.cases ≡ record { tests = one endp_name x ∷ []; calls = [] } ∷ record { tests = one not_name (one endp_name x) ∷ []; calls = (one cdr_name x ∷ []) ∷ [] } ∷ []
unfolding make_character_list_function names_open
make_character_list_cases = simp recursion

-- the measure of each
abbrev measure : List Term
measure = count_of x_name ∷ []

-- that the count of a part is less
abbrev falls_to : Symbol → Term
falls_to part = two less_name (one acl2_count_name (one part x)) (one acl2_count_name x)

module _ (A : Apply) (m : Models G A) where
  pub natural : Each (Valid G) (natural_obligations measure)
  unfolding natp_function acl2_count_function
  natural = (
    valid_of G A m (natp_of (count_of x_name) ∷ []) (simp (there, knowing, ground_heads))
        (λ e. inl (simp (vals, val_natp A m, val_count A m, count_val A m, natp_val A m) t_isnt_nil)),
    tt,
  )

  -- a cons counts more than its parts
  falls_car : (e : Env) (u w : V) → value_at e x_name ≡ cons u w → val A (falls_to car_name) e ≢ nil
  falls_car e u w h = simp (vals, val_count A m, count_val A m, h, below_first) t_isnt_nil

  falls_cdr : (e : Env) (u w : V) → value_at e x_name ≡ cons u w → val A (falls_to cdr_name) e ≢ nil
  falls_cdr e u w h = simp (vals, val_count A m, count_val A m, h, below_rest) t_isnt_nil

  -- what holds of x where it is a cons, and where it isn't
  by_cons : (e : Env) (P : Type 0) → ((u w : V) → value_at e x_name ≡ cons u w → P) → (is_cons (value_at e x_name) ≡ false → P) → P
  by_cons e P at_cons elsewhere = go (value_at e x_name) refl
    where
      go : (v : V) → value_at e x_name ≡ v → P
      go (cons u w) h = at_cons u w h
      go v h = elsewhere (ap is_cons h)

  no_cons : (e : Env) → is_cons (value_at e x_name) ≡ false → val A (one not_name (one consp_name x)) e ≢ nil
  no_cons e h = simp (vals, val_not A m, not_val A m, truth-nil, h) t_isnt_nil

  no_more : (e : Env) → is_cons (value_at e x_name) ≡ false → val A (one endp_name x) e ≢ nil
  no_more e h = simp (vals, val_endp A m, endp_val A m, h) t_isnt_nil

  consp_car : Valid G (one not_name (one consp_name x) ∷ falls_to car_name ∷ [])
  unfolding not_function acl2_count_function
  consp_car = valid_of G A m (one not_name (one consp_name x) ∷ falls_to car_name ∷ []) (simp (there, knowing, ground_heads)) (λ e. by_cons e _ (λ u w h. inr (inl (falls_car e u w h))) (λ h. inl (no_cons e h)))

  consp_cdr : Valid G (one not_name (one consp_name x) ∷ falls_to cdr_name ∷ [])
  unfolding not_function acl2_count_function
  consp_cdr = valid_of G A m (one not_name (one consp_name x) ∷ falls_to cdr_name ∷ []) (simp (there, knowing, ground_heads)) (λ e. by_cons e _ (λ u w h. inr (inl (falls_cdr e u w h))) (λ h. inl (no_cons e h)))

  endp_cdr : Valid G (one endp_name x ∷ falls_to cdr_name ∷ [])
  unfolding endp_function acl2_count_function
  endp_cdr = valid_of G A m (one endp_name x ∷ falls_to cdr_name ∷ []) (simp (there, knowing, ground_heads)) (λ e. by_cons e _ (λ u w h. inr (inl (falls_cdr e u w h))) (λ h. inl (no_more e h)))

  member_cdr : Valid G (one endp_name x ∷ two equal_name a (one car_name x) ∷ falls_to cdr_name ∷ [])
  unfolding endp_function acl2_count_function
  member_cdr = valid_of G A m (one endp_name x ∷ two equal_name a (one car_name x) ∷ falls_to cdr_name ∷ []) (simp (there, knowing, ground_heads)) (λ e. by_cons e _ (λ u w h. inr (inr (inl (falls_cdr e u w h)))) (λ h. inl (no_more e h)))

  pub true_listp_falls : Each (Valid G) (falling_obligations (x_name ∷ []) measure true_listp_function.cases)
  unfolding names_open
  true_listp_falls = simp (true_listp_cases, clauses, instances) (consp_cdr, tt)

  pub len_falls : Each (Valid G) (falling_obligations (x_name ∷ []) measure len_function.cases)
  unfolding names_open
  len_falls = simp (len_cases, clauses, instances) (consp_cdr, tt)

  pub acl2_count_falls : Each (Valid G) (falling_obligations (x_name ∷ []) measure acl2_count_function.cases)
  unfolding names_open
  acl2_count_falls = simp (acl2_count_cases, clauses, instances) (consp_car, (consp_cdr, tt))

  pub append_falls : Each (Valid G) (falling_obligations (x_name ∷ y_name ∷ []) measure append_function.cases)
  unfolding names_open
  append_falls = simp (append_cases, clauses, instances) (endp_cdr, tt)

  pub member_equal_falls : Each (Valid G) (falling_obligations (a_name ∷ x_name ∷ []) measure member_equal_function.cases)
  unfolding names_open
  member_equal_falls = simp (member_equal_cases, clauses, instances) (member_cdr, tt)

  pub make_character_list_falls : Each (Valid G) (falling_obligations (x_name ∷ []) measure make_character_list_function.cases)
  unfolding names_open
  make_character_list_falls = simp (make_character_list_cases, clauses, instances) (endp_cdr, tt)
