-- The deques of sides that are given and settled.
use Rattle.std.proofs.Common.{◌≡◌, ℕ, zero, suc, ◌+◌, ◌<◌, ◌≤◌, List, [], ◌∷◌, ◌++◌, length, get_or, set, take, refl, sym, ap, ◌∙◌, arith, add-one}
use Rattle.std.specs.Prelude.{Vec}
use Rattle.std.specs.declared.alloc.Global.{Global}
use Rattle.ap_list.specs.Lists.{Each}
use Rattle.ap_deal.specs.declared.hands.Hand.{Hand}
use Rattle.ap_deal.specs.declared.hands.Dealer.{Dealer}
use Rattle.ap_deal.specs.Deals.{times}
use Rattle.ap_deal.specs.Hands.{hand_log, dealer_log, SameDeque}
use Rattle.ap_speculate.specs.Sides.{Deque, hand_deque, dealer_deque, owned, sided, dealt_by, got_by, stolen_by, stolen_in}

pub owned_append : (xs ys : List Hand) → owned (xs ++ ys) ≡ owned xs ++ owned ys
owned_append [] ys = refl
owned_append (x ∷ xs) ys = ap (λ (l : List Deque). hand_deque x ∷ l) (owned_append xs ys)

pub sided_append : (xs ys : List Dealer) → sided (xs ++ ys) ≡ sided xs ++ sided ys
sided_append [] ys = refl
sided_append (x ∷ xs) ys = ap (λ (l : List Deque). dealer_deque x ∷ l) (sided_append xs ys)

-- a deque more on both sides
pub one_more : (hs : List Hand) (ds : List Dealer) (h : Hand) (d : Dealer) → sided ds ≡ owned hs → dealer_deque d ≡ hand_deque h → sided (ds ++ d ∷ []) ≡ owned (hs ++ h ∷ [])
one_more hs ds h d is of = sided_append ds (d ∷ []) ∙ (ap (λ (l : List Deque). l ++ dealer_deque d ∷ []) is ∙ (ap (λ (q : Deque). owned hs ++ q ∷ []) of ∙ sym (owned_append hs (h ∷ []))))

-- the first list begins the second
abbrev pub Begins : List Deque → List Deque → Type 0
Begins [] ys = Unit {0}
Begins (x ∷ xs) [] = ⊥
Begins (x ∷ xs) (y ∷ ys) = (x ≡ y) × Begins xs ys

pub begins_same : (xs : List Deque) → Begins xs xs
begins_same [] = tt
begins_same (x ∷ xs) = (refl, begins_same xs)

pub begins_less : (ds : List Dealer) (d : Dealer) (all : List Deque) → Begins (sided (ds ++ d ∷ [])) all → Begins (sided ds) all
begins_less [] d all b = tt
begins_less (e ∷ ds) d [] b = absurd b
begins_less (e ∷ ds) d (q ∷ all) b = (b.0, begins_less ds d all b.1)

-- the owner at a place is of this deque
abbrev pub At : ℕ → List Hand → Deque → Type 0
At zero [] q = ⊥
At zero (h ∷ hs) q = hand_deque h ≡ q
At (suc i) [] q = ⊥
At (suc i) (h ∷ hs) q = At i hs q

pub begins_at : (ds : List Dealer) (d : Dealer) (hs : List Hand) → Begins (sided (ds ++ d ∷ [])) (owned hs) → At (length ds) hs (dealer_deque d)
begins_at [] d [] b = absurd b
begins_at [] d (h ∷ hs) b = sym b.0
begins_at (e ∷ ds) d [] b = absurd b
begins_at (e ∷ ds) d (h ∷ hs) b = begins_at ds d hs b.1

pub at_below : (i : ℕ) (hs : List Hand) (q : Deque) → At i hs q → i < length hs
at_below zero [] q a = absurd a
at_below zero (h ∷ hs) q a = omega arith
at_below (suc i) [] q a = absurd a
at_below (suc i) (h ∷ hs) q a = let l = at_below i hs q a in omega arith

pub at_is : (i : ℕ) (hs : List Hand) (q : Deque) (h : Hand) → At i hs q → h ≡ get_or hs i h → hand_deque h ≡ q
at_is zero [] q h a is = absurd a
at_is zero (k ∷ hs) q h a is = ap hand_deque is ∙ a
at_is (suc i) [] q h a is = absurd a
at_is (suc i) (k ∷ hs) q h a is = at_is i hs q h a is

pub owned_set : (i : ℕ) (hs : List Hand) (q : Deque) (h : Hand) → At i hs q → hand_deque h ≡ q → owned (set hs i h) ≡ owned hs
owned_set zero [] q h a is = absurd a
owned_set zero (k ∷ hs) q h a is = ap (λ (p : Deque). p ∷ owned hs) (is ∙ sym a)
owned_set (suc i) [] q h a is = absurd a
owned_set (suc i) (k ∷ hs) q h a is = ap (λ (l : List Deque). hand_deque k ∷ l) (owned_set i hs q h a is)

pub dealt_set : (x i : ℕ) (hs : List Hand) (old new : Hand) → old ≡ get_or hs i old → (hand_log new).dealt ≡ (hand_log old).dealt → dealt_by x (set hs i new) ≡ dealt_by x hs
dealt_set x i [] old new is same = refl
dealt_set x zero (k ∷ hs) old new is same = ap (λ (l : List ℕ). times x l + dealt_by x hs) (same ∙ ap (λ (h : Hand). (hand_log h).dealt) is)
dealt_set x (suc i) (k ∷ hs) old new is same = ap (λ (n : ℕ). times x (hand_log k).dealt + n) (dealt_set x i hs old new is same)

pub got_set : (x i more : ℕ) (hs : List Hand) (old new : Hand) → i < length hs → old ≡ get_or hs i old → times x (hand_log new).got ≡ times x (hand_log old).got + more → got_by x (set hs i new) ≡ got_by x hs + more
got_set x i more [] old new low is same = absurd (omega arith)
got_set x zero more (k ∷ hs) old new low is same = let e = ap (λ (h : Hand). times x (hand_log h).got) is in omega arith
got_set x (suc i) more (k ∷ hs) old new low is same = let e = got_set x i more hs old new (omega arith) is same in omega arith

pub stolen_last : (x : ℕ) (ds : List Dealer) (d : Dealer) → stolen_by x (ds ++ d ∷ []) ≡ stolen_by x ds + times x (dealer_log d).got
stolen_last x [] d = omega arith
stolen_last x (e ∷ ds) d = let l = stolen_last x ds d in omega arith

pub stolen_in_last : (x : ℕ) (rows : List (Vec Dealer Global)) (row : Vec Dealer Global) → stolen_in x (rows ++ row ∷ []) ≡ stolen_in x rows + stolen_by x row.items
stolen_in_last x [] row = omega arith
stolen_in_last x (r ∷ rows) row = let l = stolen_in_last x rows row in omega arith

-- P holds of each from a place on
abbrev pub EachFrom : (Hand → Type 0) → ℕ → List Hand → Type 0
EachFrom P zero hs = Each P hs
EachFrom P (suc i) [] = Unit {0}
EachFrom P (suc i) (h ∷ hs) = EachFrom P i hs

pub from_end : (P : Hand → Type 0) (hs : List Hand) → EachFrom P (length hs) hs
from_end P [] = tt
from_end P (h ∷ hs) = from_end P hs

pub from_set : (P : Hand → Type 0) (i : ℕ) (hs : List Hand) (h : Hand) → i < length hs → EachFrom P (suc i) hs → P h → EachFrom P i (set hs i h)
from_set P i [] h low e p = absurd (omega arith)
from_set P zero (k ∷ hs) h low e p = (p, e)
from_set P (suc i) (k ∷ hs) h low e p = from_set P i hs h (omega arith) e p

-- a thief's side of the same deque is put in the place of one
pub sided_set : (i : ℕ) (ds : List Dealer) (d e : Dealer) → SameDeque (get_or ds i d) e → sided (set ds i e) ≡ sided ds
sided_set i [] d e is = refl
sided_set zero (x ∷ ds) d e is = ap (λ (q : Deque). q ∷ sided ds) is
sided_set (suc i) (x ∷ ds) d e is = ap (λ (l : List Deque). dealer_deque x ∷ l) (sided_set i ds d e is)

-- the first some and the next
take_next : (i : ℕ) (ds : List Dealer) (d e : Dealer) → i < length ds → SameDeque (get_or ds i d) e → take i (sided ds) ++ dealer_deque e ∷ [] ≡ take (suc i) (sided ds)
take_next i [] d e low is = absurd (omega arith)
take_next zero (x ∷ ds) d e low is = ap (λ (q : Deque). q ∷ []) is
take_next (suc i) (x ∷ ds) d e low is = ap (λ (l : List Deque). dealer_deque x ∷ l) (take_next i ds d e (omega arith) is)

-- of the first some a further side is there, and of the next
pub made_next : (i : ℕ) (ds made : List Dealer) (d e : Dealer) → sided made ≡ take i (sided ds) → i < length ds → SameDeque (get_or ds i d) e → sided (made ++ e ∷ []) ≡ take (i + 1) (sided ds)
made_next i ds made d e is low of = rw add-one (sided_append made (e ∷ []) ∙ (ap (λ (l : List Deque). l ++ dealer_deque e ∷ []) is ∙ take_next i ds d e low of))

pub take_all : (i : ℕ) (ds : List Dealer) → length ds ≤ i → take i (sided ds) ≡ sided ds
take_all zero [] long = refl
take_all zero (x ∷ ds) long = absurd (omega arith)
take_all (suc i) [] long = refl
take_all (suc i) (x ∷ ds) long = ap (λ (l : List Deque). dealer_deque x ∷ l) (take_all i ds (omega arith))

pub sided_long : (ds : List Dealer) → length (sided ds) ≡ length ds
sided_long [] = refl
sided_long (x ∷ ds) = ap suc (sided_long ds)

pub owned_long : (hs : List Hand) → length (owned hs) ≡ length hs
owned_long [] = refl
owned_long (x ∷ hs) = ap suc (owned_long hs)

pub row_long : (ds : List Dealer) (hs : List Hand) → sided ds ≡ owned hs → length ds ≡ length hs
row_long ds hs is = sym (sided_long ds) ∙ (ap length is ∙ owned_long hs)

set_long : (i : ℕ) (ds : List Dealer) (e : Dealer) → length (set ds i e) ≡ length ds
set_long i [] e = refl
set_long zero (x ∷ ds) e = refl
set_long (suc i) (x ∷ ds) e = ap suc (set_long i ds e)

taken_back : (n : ℕ) (ds rest : List Dealer) → length ds ≡ n → sided (take n (ds ++ rest)) ≡ sided ds
taken_back zero [] rest e = refl
taken_back zero (x ∷ ds) rest e = absurd (omega arith)
taken_back (suc n) [] rest e = absurd (omega arith)
taken_back (suc n) (x ∷ ds) rest e = ap (λ (l : List Deque). dealer_deque x ∷ l) (taken_back n ds rest (omega arith))

-- the same where as many are written back
pub set_back : (n i : ℕ) (ds rest : List Dealer) (d e : Dealer) → length ds ≡ n → SameDeque (get_or ds i d) e → sided (take n (set ds i e ++ rest)) ≡ sided ds
set_back n i ds rest d e long is = taken_back n (set ds i e) rest (set_long i ds e ∙ long) ∙ sided_set i ds d e is
