-- The deques are told apart by their numbers, and brought together in the order of these.
use Rattle.std.proofs.Common.{◌≡◌, ℕ, zero, suc, ◌+◌, List, [], ◌∷◌, ◌++◌, length, take, Some, sym, ap, ◌∙◌, subst, add-one}
use Rattle.std.specs.Prelude.{slice_get, Vec}
use Rattle.std.specs.declared.alloc.Global.{Global}
use Rattle.ap_list.proofs.Eachs.{each_append}
use Rattle.ap_deal.specs.declared.hands.Dealer.{Dealer}
use Rattle.ap_deal.specs.declared.hands.Hand.{Hand}
use Rattle.ap_speculate.specs.Sides.{Deque, hand_deque, owned, sided, IsRow, AreRows}
use Rattle.ap_speculate.proofs.Siding.{Begins, begins_same, owned_append}

front_begins : (hs : List Hand) (h : Hand) (all : List Deque) → Begins (owned (hs ++ h ∷ [])) all → Begins (owned hs) all
front_begins [] h all b = tt
front_begins (k ∷ hs) h [] b = absurd b
front_begins (k ∷ hs) h (q ∷ all) b = (b.0, front_begins hs h all b.1)

last_at : (hs : List Hand) (h : Hand) (all : List Deque) → Begins (owned (hs ++ h ∷ [])) all → slice_get all (length hs) ≡ Some (hand_deque h)
last_at [] h [] b = absurd b
last_at [] h (q ∷ all) b = ap Some (sym b.0)
last_at (k ∷ hs) h [] b = absurd b
last_at (k ∷ hs) h (q ∷ all) b = last_at hs h all b.1

pub owned_begin : (hs : List Hand) (all : List Deque) → owned hs ≡ all → Begins (owned hs) all
owned_begin hs all is = subst (Begins (owned hs)) is (begins_same (owned hs))

-- the last is taken off
pub rest_begins : (old hs : List Hand) (h : Hand) (all : List Deque) → old ≡ hs ++ h ∷ [] → Begins (owned old) all → Begins (owned hs) all
rest_begins old hs h all is b = front_begins hs h all (subst (λ (l : List Hand). Begins (owned l) all) is b)

-- its number is how many are left
pub last_numbered : (at : ℕ) (old hs : List Hand) (h : Hand) (all : List Deque) → at ≡ length hs → old ≡ hs ++ h ∷ [] → Begins (owned old) all → slice_get all at ≡ Some (hand_deque h)
last_numbered at old hs h all place is b = ap (slice_get all) place ∙ last_at hs h all (subst (λ (l : List Hand). Begins (owned l) all) is b)

take_there : (at : ℕ) (q : Deque) (all : List Deque) → slice_get all at ≡ Some q → take at all ++ q ∷ [] ≡ take (suc at) all
take_there zero q [] is = absurd (cc is)
take_there (suc at) q [] is = absurd (cc is)
take_there zero q (x ∷ all) is = let e : x ≡ q = cc is in ap (λ (p : Deque). p ∷ []) (sym e)
take_there (suc at) q (x ∷ all) is = ap (λ (l : List Deque). x ∷ l) (take_there at q all is)

-- one more is there, in order
pub next_in_order : (at : ℕ) (hs new : List Hand) (h : Hand) (all : List Deque) → owned hs ≡ take at all → slice_get all at ≡ Some (hand_deque h) → new ≡ hs ++ h ∷ [] → owned new ≡ take (at + 1) all
next_in_order at hs new h all so there is = rw add-one (ap owned is ∙ (owned_append hs (h ∷ []) ∙ (ap (λ (l : List Deque). l ++ hand_deque h ∷ []) so ∙ take_there at (hand_deque h) all there)))

-- one row more is there
pub row_more : (all : List Deque) (old new : List (Vec Dealer Global)) (row : Vec Dealer Global) → new ≡ old ++ row ∷ [] → AreRows all old → sided row.items ≡ all → AreRows all new
row_more all old new row is are one = subst (AreRows all) (sym is) (each_append (λ r. IsRow all r.items) old (row ∷ []) are (one, tt))
