-- The sides of deques that workers have, and what these got.
use Rattle.std.specs.Prelude.{◌≡◌, ℕ, ◌+◌, ◌≤◌, List, [], ◌∷◌, Vec}
use Rattle.std.specs.declared.alloc.Global.{Global}
use Rattle.ap_deal.specs.declared.hands.Hand.{Hand}
use Rattle.ap_deal.specs.declared.hands.Dealer.{Dealer}
use Rattle.ap_deal.specs.Deals.{times}
use Rattle.crossbeam_deque.specs.Handles.{worker_deque, stealer_deque}
use Rattle.ap_deal.specs.Hands.{hand_log, dealer_log}
use Rattle.ap_list.specs.Lists.{Each}

abbrev pub Deque : Type 0
Deque = (ℕ × ℕ) × Global

-- which deque a side is of: its owner's, and a thief's
abbrev pub hand_deque : Hand → Deque
hand_deque h = worker_deque h.worker

abbrev pub dealer_deque : Dealer → Deque
dealer_deque d = stealer_deque d.stealer

-- the deques of some owners' sides, and of some thieves', in order
abbrev pub owned : List Hand → List Deque
owned [] = []
owned (h ∷ hs) = hand_deque h ∷ owned hs

abbrev pub sided : List Dealer → List Deque
sided [] = []
sided (d ∷ ds) = dealer_deque d ∷ sided ds

-- how often a number was dealt, and got, by some owners
abbrev pub dealt_by : ℕ → List Hand → ℕ
dealt_by x [] = 0
dealt_by x (h ∷ hs) = times x (hand_log h).dealt + dealt_by x hs

abbrev pub got_by : ℕ → List Hand → ℕ
got_by x [] = 0
got_by x (h ∷ hs) = times x (hand_log h).got + got_by x hs

-- how often it was got by some thieves
abbrev pub stolen_by : ℕ → List Dealer → ℕ
stolen_by x [] = 0
stolen_by x (d ∷ ds) = times x (dealer_log d).got + stolen_by x ds

-- of what the owner got, with what each settled thief's side did, each number was dealt as often or oftener
abbrev pub IsSettled : Hand → Type 0
IsSettled h = (x : ℕ) → times x (hand_log h).got ≤ times x (hand_log h).dealt

-- a side of each of these deques, in order
abbrev pub IsRow : List Deque → List Dealer → Type 0
IsRow all row = sided row ≡ all

abbrev pub AreRows : List Deque → List (Vec Dealer Global) → Type 0
AreRows all rows = Each (λ row. IsRow all row.items) rows

-- how often a number was got by some workers' thieves' sides
abbrev pub stolen_in : ℕ → List (Vec Dealer Global) → ℕ
stolen_in x [] = 0
stolen_in x (row ∷ rows) = stolen_by x row.items + stolen_in x rows
