-- A function has a value at all arguments because a recursion on the argument's size gives it one.
use Rattle.std.proofs.Common.{◌≡◌, ℕ, suc, ◌+◌, Bool, true, false, not, List, [], ◌∷◌, length, zip, pos, ◌+ℤ◌, Some, refl, subst}
use Rattle.std.proofs.Math.Nat.{add_comm}
use Rattle.std.proofs.lemmas.Bool.{eq-eqb}
use Rattle.ap_value.specs.declared.symbol.Symbol.{Symbol}
use Rattle.ap_value.specs.Values.{V, int, chr, str, cons, value_eq, byte_of}
use Rattle.ap_value.proofs.Equals.{value_eq-same}
use Rattle.ap_world.specs.declared.entry.Function.{Function}
use Rattle.ap_world.specs.Names.{p_name, a_name, x_name, y_name, not_name, endp_name, integer_abs_name, true_listp_name, len_name, length_name, acl2_count_name, append_name, member_equal_name, make_character_list_name}
use Rattle.ap_world.specs.Primitives.{nil, t, truth, is_cons, is_character, int_of}
use Rattle.ap_world.specs.Meaning.{Defs, calls, meaning, CallValue}
use Rattle.ap_world.specs.Ground.{not_function, endp_function, true_listp_function, len_function, acl2_count_function, append_function, member_equal_function, make_character_list_function}
use Rattle.ap_world.proofs.Fuel.{calls_more}
use Rattle.ap_world.proofs.Equations.{vals, val_of_nil, val_of_t, val_of_int, val_of_sym, t-not_nil}
use Rattle.ap_ground.proofs.Meanings.{meanings}

-- a call with one unit more than its body takes
pub body_call : (D : Defs) (f : Symbol) (g : Function) (vs : List V) (v : V) (n : ℕ) → D f ≡ Some g → length g.formals ≡ length vs
    → meaning (calls n D) g.body (zip g.formals vs) ≡ Some v → calls (suc n) D f vs ≡ Some v
body_call D f g vs v n here l h = rw (here, eq-eqb (length g.formals) (length vs) l) h

-- two calls with one number of units
pub both_calls : (D : Defs) (f g : Symbol) (vs ws : List V) (v w : V) → CallValue D f vs v → CallValue D g ws w
    → (n : ℕ) × ((calls n D f vs ≡ Some v) × (calls n D g ws ≡ Some w))
both_calls D f g vs ws v w (m, h) (n, k) =
    (m + n, (subst (λ j. calls j D f vs ≡ Some v) (add_comm n m) (calls_more D n m f vs v h), calls_more D m n g ws w k))

pub nil-is_nil : value_eq nil nil ≡ true
nil-is_nil = value_eq-same nil

-- what a body that is written out means
pub ruleset computed = (meanings, nil-is_nil, t-not_nil, val_of_nil, val_of_t, val_of_int, val_of_sym)

pub true_listp_valued : (D : Defs) → D true_listp_name ≡ Some true_listp_function → (v : V) → (w : V) × CallValue D true_listp_name (v ∷ []) w
unfolding true_listp_function x_name
true_listp_valued D here (cons a b) =
    let (w, (n, k)) = true_listp_valued D here b in
    (w, (suc n, body_call D true_listp_name true_listp_function (cons a b ∷ []) w n here refl (simp (k, computed))))
true_listp_valued D here v = (truth (value_eq v nil), (1, body_call D true_listp_name true_listp_function (v ∷ []) (truth (value_eq v nil)) 0 here refl (simp computed)))

pub len_valued : (D : Defs) → D len_name ≡ Some len_function → (v : V) → (w : V) × CallValue D len_name (v ∷ []) w
unfolding len_function x_name
len_valued D here (cons a b) =
    let (w, (n, k)) = len_valued D here b in
    (int (pos 1 +ℤ int_of w), (suc n, body_call D len_name len_function (cons a b ∷ []) (int (pos 1 +ℤ int_of w)) n here refl (simp (k, computed))))
len_valued D here v = (int (pos 0), (1, body_call D len_name len_function (v ∷ []) (int (pos 0)) 0 here refl (simp computed)))

-- `endp` of a value, and so the branch that a body takes on it
pub endp_call : (D : Defs) → D not_name ≡ Some not_function → D endp_name ≡ Some endp_function → (v : V) → CallValue D endp_name (v ∷ []) (truth (not (is_cons v)))
unfolding not_function endp_function x_name p_name
endp_call D has_not has_endp v = (2, body_call D endp_name endp_function (v ∷ []) (truth (not (is_cons v))) 1 has_endp refl (simp (negated, computed)))
  where
    at : (b : Bool) → calls 1 D not_name (truth b ∷ []) ≡ Some (truth (not b))
    at true = body_call D not_name not_function (t ∷ []) nil 0 has_not refl (simp computed)
    at false = body_call D not_name not_function (nil ∷ []) t 0 has_not refl (simp computed)

    negated : calls 1 D not_name (truth (is_cons v) ∷ []) ≡ Some (truth (not (is_cons v)))
    negated = at (is_cons v)

pub acl2_count_valued : (D : Defs) → D acl2_count_name ≡ Some acl2_count_function
    → ((v : V) → (w : V) × CallValue D integer_abs_name (v ∷ []) w) → ((v : V) → (w : V) × CallValue D length_name (v ∷ []) w)
    → (v : V) → (w : V) × CallValue D acl2_count_name (v ∷ []) w
unfolding acl2_count_function x_name
acl2_count_valued D here abs size (cons a b) =
    let (v, h) = acl2_count_valued D here abs size a in
    let (w, k) = acl2_count_valued D here abs size b in
    let (n, (hn, kn)) = both_calls D acl2_count_name acl2_count_name (a ∷ []) (b ∷ []) v w h k in
    (int (pos 1 +ℤ (int_of v +ℤ int_of w)), (suc n, body_call D acl2_count_name acl2_count_function (cons a b ∷ []) (int (pos 1 +ℤ (int_of v +ℤ int_of w))) n here refl (simp (hn, kn, computed))))
acl2_count_valued D here abs size (int m) =
    let (w, (n, k)) = abs (int m) in
    (w, (suc n, body_call D acl2_count_name acl2_count_function (int m ∷ []) w n here refl (simp (k, computed))))
acl2_count_valued D here abs size (str s) =
    let (w, (n, k)) = size (str s) in
    (w, (suc n, body_call D acl2_count_name acl2_count_function (str s ∷ []) w n here refl (simp (k, computed))))
acl2_count_valued D here abs size v = (int (pos 0), (1, body_call D acl2_count_name acl2_count_function (v ∷ []) (int (pos 0)) 0 here refl (simp computed)))

module _ (D : Defs) (has_not : D not_name ≡ Some not_function) (has_endp : D endp_name ≡ Some endp_function) where
  pub append_valued : D append_name ≡ Some append_function → (v y : V) → (w : V) × CallValue D append_name (v ∷ y ∷ []) w
  unfolding append_function x_name y_name
  append_valued here (cons a b) y =
      let (w, k) = append_valued here b y in
      let (n, (kn, en)) = both_calls D append_name endp_name (b ∷ y ∷ []) (cons a b ∷ []) w nil k (endp_call D has_not has_endp (cons a b)) in
      (cons a w, (suc n, body_call D append_name append_function (cons a b ∷ y ∷ []) (cons a w) n here refl (simp (kn, en, computed))))
  append_valued here v y =
      let (n, en) = endp_call D has_not has_endp v in
      (y, (suc n, body_call D append_name append_function (v ∷ y ∷ []) y n here refl (simp (en, computed))))

  pub member_equal_valued : D member_equal_name ≡ Some member_equal_function → (a v : V) → (w : V) × CallValue D member_equal_name (a ∷ v ∷ []) w
  unfolding member_equal_function a_name x_name
  member_equal_valued here u (cons a b) =
      let (w, k) = member_equal_valued here u b in
      let (n, (kn, en)) = both_calls D member_equal_name endp_name (u ∷ b ∷ []) (cons a b ∷ []) w nil k (endp_call D has_not has_endp (cons a b)) in
      choose w n kn en (value_eq u a) refl
    where
      choose : (w : V) (n : ℕ) → calls n D member_equal_name (u ∷ b ∷ []) ≡ Some w → calls n D endp_name (cons a b ∷ []) ≡ Some nil → (e : Bool) → value_eq u a ≡ e → (x : V) × CallValue D member_equal_name (u ∷ cons a b ∷ []) x
      choose w n kn en true q = (cons a b, (suc n, body_call D member_equal_name member_equal_function (u ∷ cons a b ∷ []) (cons a b) n here refl (simp (kn, en, q, computed))))
      choose w n kn en false q = (w, (suc n, body_call D member_equal_name member_equal_function (u ∷ cons a b ∷ []) w n here refl (simp (kn, en, q, computed))))
  member_equal_valued here u v =
      let (n, en) = endp_call D has_not has_endp v in
      (nil, (suc n, body_call D member_equal_name member_equal_function (u ∷ v ∷ []) nil n here refl (simp (en, computed))))

  pub make_character_list_valued : D make_character_list_name ≡ Some make_character_list_function → (v : V) → (w : V) × CallValue D make_character_list_name (v ∷ []) w
  unfolding make_character_list_function x_name
  make_character_list_valued here (cons a b) =
      let (w, k) = make_character_list_valued here b in
      let (n, (kn, en)) = both_calls D make_character_list_name endp_name (b ∷ []) (cons a b ∷ []) w nil k (endp_call D has_not has_endp (cons a b)) in
      choose w n kn en (is_character a) refl
    where
      choose : (w : V) (n : ℕ) → calls n D make_character_list_name (b ∷ []) ≡ Some w → calls n D endp_name (cons a b ∷ []) ≡ Some nil → (c : Bool) → is_character a ≡ c → (x : V) × CallValue D make_character_list_name (cons a b ∷ []) x
      choose w n kn en true q = (cons a w, (suc n, body_call D make_character_list_name make_character_list_function (cons a b ∷ []) (cons a w) n here refl (simp (kn, en, q, computed))))
      choose w n kn en false q = (cons (chr (byte_of 0)) w, (suc n, body_call D make_character_list_name make_character_list_function (cons a b ∷ []) (cons (chr (byte_of 0)) w) n here refl (simp (kn, en, q, computed))))
  make_character_list_valued here v =
      let (n, en) = endp_call D has_not has_endp v in
      (nil, (suc n, body_call D make_character_list_name make_character_list_function (v ∷ []) nil n here refl (simp (en, computed))))
