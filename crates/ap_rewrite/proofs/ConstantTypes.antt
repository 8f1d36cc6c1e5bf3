-- The types of a constant and of its negation: under any facts they lack those of other values.
use Rattle.std.proofs.Common.{◌≡◌, ℕ, zero, suc, pos, negsuc, nat_eq, Bool, true, false, cond, not, [], ◌∷◌, map, Option, None, Some, refl, sym, ap, ◌∙◌, subst, eq-eqb, arith}
use Rattle.std.specs.Int.Bits.{bit_and, bit_or}
use Rattle.std.proofs.lemmas.Nat.{and_comm, and_assoc, and_le_l, and_le_r}
use Rattle.ap_value.specs.declared.value.Value.{Value}
use Rattle.ap_value.specs.Values.{V, int, chr, str, sym as symbol, cons, val_of, value_eq}
use Rattle.ap_value.proofs.Equals.{symbol_eq-same}
use Rattle.ap_term.specs.declared.term.Term.{Term, Quote}
use Rattle.ap_world.specs.declared.entry.Mask.{Mask}
use Rattle.ap_world.specs.declared.primitive.Primitive.{Primitive as Prim}
use Rattle.ap_world.specs.Clauses.{not_of}
use Rattle.ap_world.specs.Facts.{Facts}
use Rattle.ap_world.specs.Kinds.{bit, kind_of, meets, if_so, without}
use Rattle.ap_world.specs.declared.kinds.Kind.TheVariants.{True, OtherSymbol, Proper, Improper}
use Rattle.ap_world.specs.Names.{not_name}
use Rattle.ap_world.specs.Narrowing.{leaves, cut}
use Rattle.ap_world.specs.Primitives.{nil, t, truth, prim_of}
use Rattle.ap_world.specs.Rows.{recognised, test_types}
use Rattle.ap_world.specs.Types.{is_true_list, nil_bit, t_bit}
use Rattle.ap_world.specs.Typing.{any_empty, one_types, head_types, function_types, types}
use Rattle.ap_world.specs.World.{Shown}
use Rattle.ap_world.proofs.Equations.{nil-eq, names_open, prim_of_not}
use Rattle.ap_types.proofs.Formed.{typed, types_quote, types_call}
use Rattle.ap_kernel.specs.Masks.{has_only}
use Rattle.ap_rewrite.proofs.Truths.{others_nil, others_t}

-- what a mask lacks, each part of it lacks
and_less : (m k o : ℕ) → bit_and m o ≡ 0 → bit_and (bit_and m k) o ≡ 0
and_less m k o h = ap (λ n. bit_and n o) (and_comm m k) ∙ and_assoc o k m ∙ ap (bit_and k) h ∙ none
  where
    none : bit_and k 0 ≡ 0
    none = let l = and_le_r k 0 in omega arith

cut_lacks : (fs : Facts) (u : Term) (m o : ℕ) → bit_and m o ≡ 0 → bit_and (cut fs u m) o ≡ 0
cut_lacks [] u m o h = h
cut_lacks (f ∷ fs) u m o h = cut_lacks fs u (bit_and m (leaves u f.0 f.1)) o (and_less m (leaves u f.0 f.1) o h)

pub quote_lacks : (w : Shown) (fs : Facts) (v : Value) (o : ℕ) → bit_and (bit (kind_of (val_of v))) o ≡ 0 → bit_and (types w fs (Quote v)) o ≡ 0
quote_lacks w fs v o h = subst (λ m. bit_and m o ≡ 0) (sym (types_quote (function_types w) v fs)) (cut_lacks fs (Quote v) (bit (kind_of (val_of v))) o h)

-- the type of a value other than nil, and that of nil
pub other_kind : (v : V) → value_eq v nil ≡ false → bit_and (bit (kind_of v)) nil_bit ≡ 0
other_kind (int (pos zero)) h = refl
other_kind (int (pos (suc n))) h = refl
other_kind (int (negsuc n)) h = refl
other_kind (chr c) h = refl
other_kind (str s) h = refl
other_kind (cons a b) h = go (is_true_list b)
  where
    go : (x : Bool) → bit_and (bit (cond x Proper Improper)) nil_bit ≡ 0
    go true = refl
    go false = refl
other_kind (symbol k s) h = rw h (go (value_eq (symbol k s) t))
  where
    go : (y : Bool) → bit_and (bit (cond y True OtherSymbol)) nil_bit ≡ 0
    go true = refl
    go false = refl

nil_own : bit (kind_of nil) ≡ nil_bit
unfolding value_eq nil names_open
nil_own = refl

nil_kind : (v : V) → value_eq v nil ≡ true → bit_and (bit (kind_of v)) (without nil_bit) ≡ 0
nil_kind v h = ap (λ x. bit_and (bit (kind_of x)) (without nil_bit)) (nil-eq v h) ∙ ap (λ n. bit_and n (without nil_bit)) nil_own

-- what a test of nil gives of a mask of nil alone, and of one without nil
test_nil : (m : ℕ) → bit_and m (without nil_bit) ≡ 0 → bit_and (test_types nil_bit m) (without t_bit) ≡ 0
test_nil m h = ap (λ n. bit_and (bit_or (if_so (meets m nil_bit) t_bit) (if_so (not (nat_eq n 0)) nil_bit)) (without t_bit)) h ∙ go (meets m nil_bit)
  where
    go : (b : Bool) → bit_and (bit_or (if_so b t_bit) 0) (without t_bit) ≡ 0
    go true = refl
    go false = refl

test_other : (m : ℕ) → bit_and m nil_bit ≡ 0 → bit_and (test_types nil_bit m) (without nil_bit) ≡ 0
test_other m h = ap (λ n. bit_and (bit_or (if_so (not (nat_eq n 0)) t_bit) (if_so (meets m (without nil_bit)) nil_bit)) (without nil_bit)) h ∙ go (meets m (without nil_bit))
  where
    go : (b : Bool) → bit_and (bit_or 0 (if_so b nil_bit)) (without nil_bit) ≡ 0
    go true = refl
    go false = refl

not_lacks : (w : Shown) (fs : Facts) (v : Value) (o : ℕ) → bit_and (test_types nil_bit (types w fs (Quote v))) o ≡ 0 → bit_and (types w fs (not_of (Quote v))) o ≡ 0
not_lacks w fs v o h =
    subst (λ m. bit_and m o ≡ 0) (sym (types_call (function_types w) not_name (Quote v ∷ []) fs))
    (cut_lacks fs (not_of (Quote v)) _ o (subst (λ m. bit_and m o ≡ 0) (sym head) (go (any_empty (types w fs (Quote v) ∷ [])))))
  where
    head : head_types (function_types w) not_name (prim_of not_name) (map (typed (function_types w)) (Quote v ∷ [])) fs
        ≡ cond (any_empty (types w fs (Quote v) ∷ [])) 0 (test_types nil_bit (types w fs (Quote v)))
    head =
        ap (λ (p : Option Prim). head_types (function_types w) not_name p (map (typed (function_types w)) (Quote v ∷ [])) fs) prim_of_not
        ∙ ap (λ b. cond (any_empty (types w fs (Quote v) ∷ [])) 0 (one_types (function_types w) not_name None (cond b (Some nil_bit) (recognised not_name)) (types w fs (Quote v)))) (symbol_eq-same not_name)

    none : bit_and 0 o ≡ 0
    none = let l = and_le_l 0 o in omega arith

    go : (b : Bool) → bit_and (cond b 0 (test_types nil_bit (types w fs (Quote v)))) o ≡ 0
    go true = none
    go false = h

-- so the negation of a constant has one value by its types
pub turned_only : (w : Shown) (fs : Facts) (v x : Value) (k : Mask) → k.0 ≡ types w fs (not_of (Quote v)) → val_of x ≡ truth (value_eq (val_of v) nil) → has_only k (val_of x) ≡ true
turned_only w fs v x k e is = go (value_eq (val_of v) nil) refl
  where
    go : (b : Bool) → value_eq (val_of v) nil ≡ b → has_only k (val_of x) ≡ true
    go true q =
        ap (has_only k) (is ∙ ap truth q) ∙ ap (λ n. nat_eq (bit_and k.0 n) 0) others_t
        ∙ eq-eqb (bit_and k.0 (without t_bit)) 0 (ap (λ n. bit_and n (without t_bit)) e ∙ not_lacks w fs v (without t_bit) (test_nil (types w fs (Quote v)) (quote_lacks w fs v (without nil_bit) (nil_kind (val_of v) q))))
    go false q =
        ap (has_only k) (is ∙ ap truth q) ∙ ap (λ n. nat_eq (bit_and k.0 n) 0) others_nil
        ∙ eq-eqb (bit_and k.0 (without nil_bit)) 0 (ap (λ n. bit_and n (without nil_bit)) e ∙ not_lacks w fs v (without nil_bit) (test_other (types w fs (Quote v)) (quote_lacks w fs v nil_bit (other_kind (val_of v) q))))
