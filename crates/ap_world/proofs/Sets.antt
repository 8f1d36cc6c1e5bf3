-- Masks as sets: which types are in a union, a cut, a complement, and which the rows of a mask give.
use Rattle.std.proofs.Common.{◌≡◌, ◌⊎◌, inl, inr, ℕ, zero, suc, Bool, true, false, cond, not, nat_eq, true≢false, List, [], ◌∷◌, ℤ, pos, negsuc, refl, sym, ap, ◌∙◌, eqb-true, eq-eqb, arith, min}
use Rattle.std.specs.Int.{bit_at}
use Rattle.std.specs.Int.Bits.{bit_and, bit_or}
use Rattle.std.proofs.lemmas.Nat.Bits.{bit_at_and, bit_at_or, bit_at_xor, bit_at-lt, bit_at-zero}
use Rattle.ap_list.specs.Lists.{AnyOf}
use Rattle.ap_value.specs.Values.{V, int, chr, str, sym as symbol, cons, value_eq}
use Rattle.ap_world.specs.Primitives.{nil, t, truth}
use Rattle.ap_world.specs.Types.{is_true_list, type_of, nil_bit, t_bit}
use Rattle.ap_world.specs.Kinds.{Kind, Zero, Positive, Negative, Nil, True, OtherSymbol, Proper, Improper, Text, Character, kinds, bit, int_kind, symbol_kind, cons_kind, kind_of, all, without, meets, if_so, union_from, union}
use Rattle.ap_world.specs.Rows.{test_types}
use Rattle.ap_world.specs.Narrowing.{signed}
use Rattle.ap_world.proofs.Equations.{names_open}
use Rattle.ap_world.proofs.Starting.{has_all}

-- a value's type is in a mask
abbrev pub In : ℕ → V → Type 0
In m v = bit_at m (type_of v) ≡ 1

-- the place of a type
abbrev pub number : Kind → ℕ
number Zero = 0
number Positive = 1
number Negative = 2
number Nil = 3
number True = 4
number OtherSymbol = 5
number Proper = 6
number Improper = 7
number Text = 8
number Character = 9

-- what holds at each type that such a value can have
pub int_cases : (P : Kind → Type 0) → P Zero → P Positive → P Negative → (n : ℤ) → P (int_kind n)
int_cases P z p n (pos zero) = z
int_cases P z p n (pos (suc k)) = p
int_cases P z p n (negsuc k) = n

pub symbol_cases : (P : Kind → Type 0) → P Nil → P True → P OtherSymbol → (v : V) → P (symbol_kind v)
symbol_cases P n y o v = go (value_eq v nil) (value_eq v t)
  where
    go : (b c : Bool) → P (cond b Nil (cond c True OtherSymbol))
    go true c = n
    go false true = y
    go false false = o

pub cons_cases : (P : Kind → Type 0) → P Proper → P Improper → (b : V) → P (cons_kind b)
cons_cases P p i b = go (is_true_list b)
  where
    go : (c : Bool) → P (cond c Proper Improper)
    go true = p
    go false = i

pub numbered : (v : V) → type_of v ≡ number (kind_of v)
numbered (int (pos zero)) = refl
numbered (int (pos (suc n))) = refl
numbered (int (negsuc n)) = refl
numbered (chr c) = refl
numbered (str s) = refl
numbered (cons a b) = go (is_true_list b)
  where
    go : (c : Bool) → cond c 6 7 ≡ number (cond c Proper Improper)
    go true = refl
    go false = refl
numbered (symbol k s) = go (value_eq (symbol k s) nil) (value_eq (symbol k s) t)
  where
    go : (b c : Bool) → cond b 3 (cond c 4 5) ≡ number (cond b Nil (cond c True OtherSymbol))
    go true c = refl
    go false true = refl
    go false false = refl

bit_here : (k : Kind) → bit_at (bit k) (number k) ≡ 1
bit_here Zero = refl
bit_here Positive = refl
bit_here Negative = refl
bit_here Nil = refl
bit_here True = refl
bit_here OtherSymbol = refl
bit_here Proper = refl
bit_here Improper = refl
bit_here Text = refl
bit_here Character = refl

pub in_own : (v : V) → In (bit (kind_of v)) v
in_own v = rw (numbered v) (bit_here (kind_of v))

pub all_in : (v : V) → In all v
all_in v = has_all v

-- a bit is 1 or 0
pub one_or_none : (m i : ℕ) → (bit_at m i ≡ 1) ⊎ (bit_at m i ≡ 0)
one_or_none m i = go (bit_at m i) refl
  where
    go : (b : ℕ) → bit_at m i ≡ b → (bit_at m i ≡ 1) ⊎ (bit_at m i ≡ 0)
    go zero e = inr e
    go (suc b) e = let l = bit_at-lt m i in inl (omega arith)

-- two masks that share no type
pub apart : (m o i : ℕ) → bit_and m o ≡ 0 → bit_at m i ≡ 1 → bit_at o i ≡ 1 → ⊥
apart m o i h k l =
    let e : min (bit_at m i) (bit_at o i) ≡ 0 = sym (bit_at_and m o i) ∙ ap (λ n. bit_at n i) h ∙ bit_at-zero i in
    absurd (omega arith)

pub in_both : (m n i : ℕ) → bit_at m i ≡ 1 → bit_at n i ≡ 1 → bit_at (bit_and m n) i ≡ 1
in_both m n i h k = bit_at_and m n i ∙ (rw (h, k) refl)

pub in_left : (m n i : ℕ) → bit_at m i ≡ 1 → bit_at (bit_or m n) i ≡ 1
in_left m n i h = let l = bit_at-lt n i in let e = bit_at_or m n i in omega arith

pub in_right : (m n i : ℕ) → bit_at n i ≡ 1 → bit_at (bit_or m n) i ≡ 1
in_right m n i h = let l = bit_at-lt m i in let e = bit_at_or m n i in omega arith

pub in_without : (m : ℕ) (v : V) → bit_at m (type_of v) ≡ 0 → In (without m) v
in_without m v h = bit_at_xor all m (type_of v) ∙ (rw (all_in v, h) refl)

-- masks that share a type
pub meets_at : (m n i : ℕ) → bit_at m i ≡ 1 → bit_at n i ≡ 1 → meets m n ≡ true
meets_at m n i h k = go (nat_eq (bit_and m n) 0) refl
  where
    go : (b : Bool) → nat_eq (bit_and m n) 0 ≡ b → not b ≡ true
    go true e = absurd (apart m n i (eqb-true (bit_and m n) 0 e) h k)
    go false e = refl

pub meets_own : (m : ℕ) (v : V) → In m v → meets m (bit (kind_of v)) ≡ true
meets_own m v h = meets_at m (bit (kind_of v)) (type_of v) h (in_own v)

-- a union has what it had, and what the row of one of its types has
keeps : (row : Kind → ℕ) (ks : List Kind) (m out i : ℕ) → bit_at out i ≡ 1 → bit_at (union_from row ks m out) i ≡ 1
keeps row [] m out i h = h
keeps row (k ∷ ks) m out i h = keeps row ks m (bit_or out (if_so (meets m (bit k)) (row k))) i (in_left out (if_so (meets m (bit k)) (row k)) i h)

takes : (row : Kind → ℕ) (ks : List Kind) (m out i : ℕ) (k : Kind) → AnyOf (λ j. j ≡ k) ks → meets m (bit k) ≡ true → bit_at (row k) i ≡ 1 → bit_at (union_from row ks m out) i ≡ 1
takes row [] m out i k a q h = absurd a
takes row (j ∷ ks) m out i k (inl e) q h =
    let here : bit_at (if_so (meets m (bit j)) (row j)) i ≡ 1 = rw (e, q) h in
    keeps row ks m (bit_or out (if_so (meets m (bit j)) (row j))) i (in_right out (if_so (meets m (bit j)) (row j)) i here)
takes row (j ∷ ks) m out i k (inr a) q h = takes row ks m (bit_or out (if_so (meets m (bit j)) (row j))) i k a q h

every : (k : Kind) → AnyOf (λ j. j ≡ k) kinds
every Zero = inl refl
every Positive = inr (inl refl)
every Negative = inr (inr (inl refl))
every Nil = inr (inr (inr (inl refl)))
every True = inr (inr (inr (inr (inl refl))))
every OtherSymbol = inr (inr (inr (inr (inr (inl refl)))))
every Proper = inr (inr (inr (inr (inr (inr (inl refl))))))
every Improper = inr (inr (inr (inr (inr (inr (inr (inl refl)))))))
every Text = inr (inr (inr (inr (inr (inr (inr (inr (inl refl))))))))
every Character = inr (inr (inr (inr (inr (inr (inr (inr (inr (inl refl)))))))))

pub union_at : (row : Kind → ℕ) (m : ℕ) (v : V) (i : ℕ) → In m v → bit_at (row (kind_of v)) i ≡ 1 → bit_at (union row m) i ≡ 1
union_at row m v i h k = takes row kinds m 0 i (kind_of v) (every (kind_of v)) (meets_own m v h) k

-- whether a value has one of the types
abbrev pub recognises : ℕ → V → Bool
recognises r v = nat_eq (bit_at r (type_of v)) 1

pub recognised_in : (r : ℕ) (v : V) → recognises r v ≡ true → In r v
recognised_in r v h = eqb-true (bit_at r (type_of v)) 1 h

pub unrecognised_out : (r : ℕ) (v : V) → recognises r v ≡ false → bit_at r (type_of v) ≡ 0
unrecognised_out r v h = go (one_or_none r (type_of v))
  where
    go : (bit_at r (type_of v) ≡ 1) ⊎ (bit_at r (type_of v) ≡ 0) → bit_at r (type_of v) ≡ 0
    go (inl e) = absurd (true≢false (sym (eq-eqb (bit_at r (type_of v)) 1 e) ∙ h))
    go (inr e) = e

nil_in : In nil_bit nil
unfolding value_eq nil names_open
nil_in = refl

t_in : In t_bit t
unfolding value_eq t nil names_open
t_in = refl

pub nil_has : In nil_bit nil
nil_has = nil_in

pub t_has : In t_bit t
t_has = t_in

-- what a test of types gives
pub test_in : (r m : ℕ) (v : V) → In m v → In (test_types r m) (truth (recognises r v))
test_in r m v h = go (recognises r v) refl
  where
    go : (b : Bool) → recognises r v ≡ b → In (test_types r m) (truth b)
    go true e = in_left (if_so (meets m r) t_bit) (if_so (meets m (without r)) nil_bit) (type_of t) (rw (meets_at m r (type_of v) h (recognised_in r v e)) t_in)
    go false e = in_right (if_so (meets m r) t_bit) (if_so (meets m (without r)) nil_bit) (type_of nil)
        (rw (meets_at m (without r) (type_of v) h (in_without r v (unrecognised_out r v e))) nil_in)

-- what a sign of a test of types leaves
pub signed_in : (s : Bool) (r : ℕ) (v : V) → recognises r v ≡ s → In (signed s r) v
signed_in true r v h = recognised_in r v h
signed_in false r v h = in_without r v (unrecognised_out r v h)

-- nil alone has the type of nil
pub nil_recognised : (v : V) → recognises nil_bit v ≡ value_eq v nil
unfolding value_eq nil names_open
nil_recognised (int (pos zero)) = refl
nil_recognised (int (pos (suc n))) = refl
nil_recognised (int (negsuc n)) = refl
nil_recognised (chr c) = refl
nil_recognised (str s) = refl
nil_recognised (cons a b) = go (is_true_list b)
  where
    go : (c : Bool) → nat_eq (bit_at nil_bit (cond c 6 7)) 1 ≡ false
    go true = refl
    go false = refl
nil_recognised (symbol k s) = go (value_eq (symbol k s) nil) (value_eq (symbol k s) t)
  where
    go : (b c : Bool) → nat_eq (bit_at nil_bit (cond b 3 (cond c 4 5))) 1 ≡ b
    go true c = refl
    go false true = refl
    go false false = refl

-- the other types are recognised where these aren't
pub without_recognised : (r : ℕ) (v : V) → recognises (without r) v ≡ not (recognises r v)
without_recognised r v = go (recognises r v) refl
  where
    go : (b : Bool) → recognises r v ≡ b → recognises (without r) v ≡ not b
    go true e = let out : bit_at (without r) (type_of v) ≡ 0 = bit_at_xor all r (type_of v) ∙ (rw (all_in v, recognised_in r v e) refl) in ap (λ n. nat_eq n 1) out
    go false e = eq-eqb (bit_at (without r) (type_of v)) 1 (in_without r v (unrecognised_out r v e))
