-- The types that calls of the ground world's functions can have.
use Rattle.std.proofs.Common.{◌≡◌, ℕ, zero, suc, Bool, true, false, cond, not, List, [], ◌∷◌, length, zip, ℤ, pos, negsuc, neg_ℤ, int_lt, nat_abs, Some, refl, ap, sym, ◌∙◌, subst}
use Rattle.std.specs.Int.{bit_at}
use Rattle.ap_value.specs.declared.symbol.Symbol.{Symbol}
use Rattle.ap_value.specs.declared.value.Value.TheVariants.{Sym}
use Rattle.ap_value.specs.Values.{V, int, chr, str, sym as symbol, cons, value_eq, byte_of}
use Rattle.ap_term.specs.declared.term.Term.{Term, Var, Quote, Call}
use Rattle.ap_world.specs.declared.entry.Mask.{Mask}
use Rattle.ap_world.specs.declared.entry.Function.{Function}
use Rattle.ap_world.specs.Names.{nil_name, t_name, if_name, equal_name, integerp_name, less_name, not_name, x_name, true_listp_name, len_name, acl2_count_name, make_character_list_name}
use Rattle.ap_world.specs.Primitives.{nil, t, truth, is_integer, is_character, int_of, code_char_of}
use Rattle.ap_world.specs.Meaning.{Env, CallValue}
use Rattle.ap_world.specs.Types.{is_true_list, Has, truths, integers, naturals, true_lists, no_negatives, all_types}
use Rattle.ap_world.specs.Ground.{one, two, if_term, x, zero_constant, not_function, implies_function, iff_function, atom_function, endp_function, null_function, eq_function, eql_function, numeric_equal_function, acl2_numberp_function, rationalp_function, booleanp_function, fix_function, ifix_function, natp_function, posp_function, zp_function, zip_function, zerop_function, plusp_function, minusp_function, abs_function, integer_abs_function, true_listp_function, len_function, length_function, acl2_count_function, make_character_list_function}
use Rattle.ap_world.proofs.Fuel.{call_unique}
use Rattle.ap_world.proofs.TotalMeaning.{Apply, Models, val, val_quote, apply_is}
use Rattle.ap_world.proofs.Equations.{names_open, vals, t-not_nil, nil-eq, val_if, val_equal, val_integerp, val_less, val_of_nil, val_of_t, val_of_int, val_defined}
use Rattle.ap_world.proofs.Starting.{has_truth, has_all}
use Rattle.ap_ground.proofs.Meanings.{prim_of_true_listp, prim_of_make_character_list}
use Rattle.ap_ground.proofs.Valued.{nil-is_nil}
use Rattle.ap_ground.proofs.Totality.{G, one_argument}
use Rattle.ap_ground.proofs.There.{has_true_listp, has_make_character_list}
use Rattle.ap_ground.proofs.Meant.{not_val, endp_val, val_not, val_len, val_endp, val_abs, len_val, len_v, count_val, count_v, not_below, abs_is}

-- a natural number, an integer, and the absolute value
has_natural : (n : ℕ) → Has naturals (int (pos n))
has_natural zero = refl
has_natural (suc n) = refl

has_integer : (n : ℤ) → Has integers (int n)
has_integer (pos zero) = refl
has_integer (pos (suc n)) = refl
has_integer (negsuc n) = refl

has_nil : Has true_lists nil
unfolding value_eq nil names_open
has_nil = refl

-- a true list
has_list : (v : V) → is_true_list v ≡ true → Has true_lists v
has_list (cons a b) h = rw h refl
has_list v h = subst (Has true_lists) (sym (nil-eq v h)) has_nil

nil_listed : is_true_list nil ≡ true
unfolding value_eq nil names_open
nil_listed = refl

-- the branch that is chosen
chosen : (k : Mask) (b : Bool) (v w : V) → Has k v → Has k w → Has k (cond b v w)
chosen k true v w h l = h
chosen k false v w h l = l

-- an integer, or else zero
fixed : (v : V) → Has integers (cond (value_eq (truth (is_integer v)) nil) (int (pos 0)) v)
fixed (int n) = rw t-not_nil (has_integer n)
fixed v = rw nil-is_nil (has_integer (pos 0))

-- what isn't below zero stays, and the negation of what is is positive
stays : (v : V) → Has no_negatives v → Has no_negatives (cond (value_eq (truth false) nil) v (int (neg_ℤ (int_of v))))
stays v h = rw nil-is_nil h

abs_of : (v : V) → Has no_negatives (cond (value_eq (truth (int_lt (int_of v) (pos 0))) nil) v (int (neg_ℤ (int_of v))))
abs_of (int (pos zero)) = stays (int (pos zero)) refl
abs_of (int (pos (suc n))) = rw (not_below (suc n)) (stays (int (pos (suc n))) refl)
abs_of (int (negsuc n)) = rw t-not_nil refl
abs_of (chr c) = stays (chr c) refl
abs_of (str s) = stays (str s) refl
abs_of (cons a b) = stays (cons a b) (go (is_true_list b))
  where
    go : (c : Bool) → bit_at no_negatives.0 (cond c 6 7) ≡ 1
    go true = refl
    go false = refl
abs_of (symbol k s) = stays (symbol k s) (go (value_eq (symbol k s) nil) (value_eq (symbol k s) t))
  where
    go : (c d : Bool) → bit_at no_negatives.0 (cond c 3 (cond d 4 5)) ≡ 1
    go true d = refl
    go false true = refl
    go false false = refl

-- the absolute value of an integer, or else zero
integer_abs_of : (v : V) → Has naturals (cond (value_eq (truth (is_integer v)) nil) (int (pos 0)) (cond (value_eq (truth (int_lt (int_of v) (pos 0))) nil) v (int (neg_ℤ (int_of v)))))
integer_abs_of (int n) = rw (t-not_nil, abs_is n) (has_natural (nat_abs n))
integer_abs_of v = rw nil-is_nil (has_natural 0)

module _ (A : Apply) (m : Models G A) where
  -- what the body has, calls have
  pub by_body : (g : Function) → G g.name ≡ Some g → ((e : Env) → Has g.mask (val A g.body e)) → (vs : List V) (v : V) → length g.formals ≡ length vs → CallValue G g.name vs v → Has g.mask v
  by_body g here h vs v l c =
      subst (Has g.mask) (sym (apply_is G A m g.name g vs here l) ∙ call_unique G g.name vs (A g.name vs) v (m g.name g vs here l) c) (h (zip g.formals vs))

  -- what each written body has
  by_if : (k : Mask) (a b c : Term) (e : Env) → Has k (val A b e) → Has k (val A c e) → Has k (val A (if_term a b c) e)
  by_if k a b c e h l = rw (val_if A a b c e) (chosen k (value_eq (val A a e) nil) (val A c e) (val A b e) l h)

  by_nil : (e : Env) → Has truths (val A (Quote (Sym nil_name)) e)
  by_nil e = rw (val_quote A (Sym nil_name) e, val_of_nil) (has_truth false)

  by_t : (e : Env) → Has truths (val A (Quote (Sym t_name)) e)
  by_t e = rw (val_quote A (Sym t_name) e, val_of_t) (has_truth true)

  by_equal : (a b : Term) (e : Env) → Has truths (val A (two equal_name a b) e)
  by_equal a b e = rw (val_equal A a b e) (has_truth _)

  by_less : (a b : Term) (e : Env) → Has truths (val A (two less_name a b) e)
  by_less a b e = rw (val_less A a b e) (has_truth _)

  by_integerp : (a : Term) (e : Env) → Has truths (val A (one integerp_name a) e)
  by_integerp a e = rw (val_integerp A a e) (has_truth _)

  by_not : (a : Term) (e : Env) → Has truths (val A (one not_name a) e)
  by_not a e = rw (val_not A m a e, not_val A m (val A a e)) (has_truth _)

  pub not_masked : (e : Env) → Has not_function.mask (val A not_function.body e)
  unfolding not_function
  not_masked e = by_if truths _ _ _ e (by_nil e) (by_t e)

  pub implies_masked : (e : Env) → Has implies_function.mask (val A implies_function.body e)
  unfolding implies_function
  implies_masked e = by_if truths _ _ _ e (by_if truths _ _ _ e (by_t e) (by_nil e)) (by_t e)

  pub iff_masked : (e : Env) → Has iff_function.mask (val A iff_function.body e)
  unfolding iff_function
  iff_masked e = by_if truths _ _ _ e (by_if truths _ _ _ e (by_t e) (by_nil e)) (by_if truths _ _ _ e (by_nil e) (by_t e))

  pub atom_masked : (e : Env) → Has atom_function.mask (val A atom_function.body e)
  unfolding atom_function
  atom_masked e = by_not _ e

  pub endp_masked : (e : Env) → Has endp_function.mask (val A endp_function.body e)
  unfolding endp_function
  endp_masked e = by_not _ e

  pub null_masked : (e : Env) → Has null_function.mask (val A null_function.body e)
  unfolding null_function
  null_masked e = by_equal _ _ e

  pub eq_masked : (e : Env) → Has eq_function.mask (val A eq_function.body e)
  unfolding eq_function
  eq_masked e = by_equal _ _ e

  pub eql_masked : (e : Env) → Has eql_function.mask (val A eql_function.body e)
  unfolding eql_function
  eql_masked e = by_equal _ _ e

  pub numeric_equal_masked : (e : Env) → Has numeric_equal_function.mask (val A numeric_equal_function.body e)
  unfolding numeric_equal_function
  numeric_equal_masked e = by_equal _ _ e

  pub acl2_numberp_masked : (e : Env) → Has acl2_numberp_function.mask (val A acl2_numberp_function.body e)
  unfolding acl2_numberp_function
  acl2_numberp_masked e = by_integerp _ e

  pub rationalp_masked : (e : Env) → Has rationalp_function.mask (val A rationalp_function.body e)
  unfolding rationalp_function
  rationalp_masked e = by_integerp _ e

  pub booleanp_masked : (e : Env) → Has booleanp_function.mask (val A booleanp_function.body e)
  unfolding booleanp_function
  booleanp_masked e = by_if truths _ _ _ e (by_t e) (by_equal _ _ e)

  pub fix_masked : (e : Env) → Has fix_function.mask (val A fix_function.body e)
  unfolding fix_function
  fix_masked e =
      let is : val A fix_function.body e ≡ cond (value_eq (truth (is_integer (val A x e))) nil) (int (pos 0)) (val A x e) = simp (vals, val_of_int) in
      subst (Has integers) (sym is) (fixed (val A x e))

  pub ifix_masked : (e : Env) → Has ifix_function.mask (val A ifix_function.body e)
  unfolding ifix_function
  ifix_masked e =
      let is : val A ifix_function.body e ≡ cond (value_eq (truth (is_integer (val A x e))) nil) (int (pos 0)) (val A x e) = simp (vals, val_of_int) in
      subst (Has integers) (sym is) (fixed (val A x e))

  pub natp_masked : (e : Env) → Has natp_function.mask (val A natp_function.body e)
  unfolding natp_function
  natp_masked e = by_if truths _ _ _ e (by_not _ e) (by_nil e)

  pub posp_masked : (e : Env) → Has posp_function.mask (val A posp_function.body e)
  unfolding posp_function
  posp_masked e = by_if truths _ _ _ e (by_less _ _ e) (by_nil e)

  pub zp_masked : (e : Env) → Has zp_function.mask (val A zp_function.body e)
  unfolding zp_function
  zp_masked e = by_if truths _ _ _ e (by_not _ e) (by_t e)

  pub zip_masked : (e : Env) → Has zip_function.mask (val A zip_function.body e)
  unfolding zip_function
  zip_masked e = by_if truths _ _ _ e (by_equal _ _ e) (by_t e)

  pub zerop_masked : (e : Env) → Has zerop_function.mask (val A zerop_function.body e)
  unfolding zerop_function
  zerop_masked e = by_equal _ _ e

  pub plusp_masked : (e : Env) → Has plusp_function.mask (val A plusp_function.body e)
  unfolding plusp_function
  plusp_masked e = by_less _ _ e

  pub minusp_masked : (e : Env) → Has minusp_function.mask (val A minusp_function.body e)
  unfolding minusp_function
  minusp_masked e = by_less _ _ e

  pub abs_masked : (e : Env) → Has abs_function.mask (val A abs_function.body e)
  unfolding abs_function
  abs_masked e =
      let is : val A abs_function.body e ≡ cond (value_eq (truth (int_lt (int_of (val A x e)) (pos 0))) nil) (val A x e) (int (neg_ℤ (int_of (val A x e)))) = simp (vals, val_of_int) in
      subst (Has no_negatives) (sym is) (abs_of (val A x e))

  pub integer_abs_masked : (e : Env) → Has integer_abs_function.mask (val A integer_abs_function.body e)
  unfolding integer_abs_function
  integer_abs_masked e =
      let is : val A integer_abs_function.body e ≡ cond (value_eq (truth (is_integer (val A x e))) nil) (int (pos 0)) (cond (value_eq (truth (int_lt (int_of (val A x e)) (pos 0))) nil) (val A x e) (int (neg_ℤ (int_of (val A x e))))) = simp (vals, val_of_int) in
      subst (Has naturals) (sym is) (integer_abs_of (val A x e))

  by_len : (a : Term) (e : Env) → Has naturals (val A (one len_name a) e)
  by_len a e = rw (val_len A m a e, len_val A m (val A a e)) (has_natural (len_v (val A a e)))

  pub length_masked : (e : Env) → Has length_function.mask (val A length_function.body e)
  unfolding length_function
  length_masked e = by_if naturals _ _ _ e (by_len _ e) (by_len _ e)

  -- what every call has
  pub by_calls : (g : Function) → G g.name ≡ Some g → ((ws : List V) → length g.formals ≡ length ws → Has g.mask (A g.name ws)) → (vs : List V) (v : V) → length g.formals ≡ length vs → CallValue G g.name vs v → Has g.mask v
  by_calls g here h vs v l c = subst (Has g.mask) (call_unique G g.name vs (A g.name vs) v (m g.name g vs here l) c) (h vs l)

  pub len_masked : (vs : List V) → length len_function.formals ≡ length vs → Has len_function.mask (A len_function.name vs)
  unfolding len_function
  len_masked vs l = one_argument (λ ws. Has naturals (A len_name ws)) (λ v. rw (len_val A m v) (has_natural (len_v v))) vs l

  pub acl2_count_masked : (vs : List V) → length acl2_count_function.formals ≡ length vs → Has acl2_count_function.mask (A acl2_count_function.name vs)
  unfolding acl2_count_function
  acl2_count_masked vs l = one_argument (λ ws. Has naturals (A acl2_count_name ws)) (λ v. rw (count_val A m v) (has_natural (count_v v))) vs l

  val_true_listp : (a : Term) (e : Env) → val A (Call true_listp_name (a ∷ [])) e ≡ A true_listp_name (val A a e ∷ [])
  val_true_listp a e = val_defined A true_listp_name (a ∷ []) e prim_of_true_listp

  true_listp_val : (v : V) → A true_listp_name (v ∷ []) ≡ truth (is_true_list v)
  unfolding true_listp_function x_name
  true_listp_val (cons a b) = apply_is G A m true_listp_name true_listp_function (cons a b ∷ []) has_true_listp refl ∙ simp (vals, val_true_listp, t-not_nil, true_listp_val b)
  true_listp_val v = apply_is G A m true_listp_name true_listp_function (v ∷ []) has_true_listp refl ∙ simp (vals, nil-is_nil)

  pub true_listp_masked : (vs : List V) → length true_listp_function.formals ≡ length vs → Has true_listp_function.mask (A true_listp_function.name vs)
  unfolding true_listp_function
  true_listp_masked vs l = one_argument (λ ws. Has truths (A true_listp_name ws)) (λ v. rw (true_listp_val v) (has_truth (is_true_list v))) vs l

  val_characters : (a : Term) (e : Env) → val A (Call make_character_list_name (a ∷ [])) e ≡ A make_character_list_name (val A a e ∷ [])
  val_characters a e = val_defined A make_character_list_name (a ∷ []) e prim_of_make_character_list

  characters_of_cons : (a b : V) → A make_character_list_name (cons a b ∷ []) ≡ cons (cond (value_eq (truth (is_character a)) nil) (code_char_of (int (pos 0))) a) (A make_character_list_name (b ∷ []))
  unfolding make_character_list_function x_name
  characters_of_cons a b = apply_is G A m make_character_list_name make_character_list_function (cons a b ∷ []) has_make_character_list refl
      ∙ simp (vals, val_endp A m, endp_val A m, val_characters, nil-is_nil, val_of_int)

  characters_listed : (v : V) → is_true_list (A make_character_list_name (v ∷ [])) ≡ true
  unfolding make_character_list_function x_name
  characters_listed (cons a b) = ap is_true_list (characters_of_cons a b) ∙ characters_listed b
  characters_listed v =
      let is : A make_character_list_name (v ∷ []) ≡ nil = apply_is G A m make_character_list_name make_character_list_function (v ∷ []) has_make_character_list refl ∙ simp (vals, val_endp A m, endp_val A m, t-not_nil) in
      ap is_true_list is ∙ nil_listed

  pub make_character_list_masked : (vs : List V) → length make_character_list_function.formals ≡ length vs → Has make_character_list_function.mask (A make_character_list_function.name vs)
  unfolding make_character_list_function
  make_character_list_masked vs l = one_argument (λ ws. Has true_lists (A make_character_list_name ws)) (λ v. has_list (A make_character_list_name (v ∷ [])) (characters_listed v)) vs l
