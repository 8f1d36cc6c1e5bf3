-- What looks leave of a seat.
use Rattle.std.proofs.Common.{◌≡◌, ℕ, ◌+◌, ◌<◌, ◌≤◌, [], ◌∷◌, subst, refl, sym, ◌∙◌, arith, List}
use Rattle.ap_list.specs.Lists.{Each}
use Rattle.ap_word.specs.Seats.{TableId, seat_table, seat_view}
use Rattle.ap_table.specs.Seated.{HasLooked}
use Rattle.ap_table.specs.declared.seats.AncestorSeat.{AncestorSeat}
use Rattle.ap_speculate.specs.Jobs.{Both, Stays, LookedOn, JobStays}
use Rattle.ap_table.specs.declared.stored.Job.{Job}
use Rattle.ap_speculate.specs.Boards.{LooksAt}
use Rattle.ap_speculate.proofs.Pairs.{both_same}

pub stays_same : (s : AncestorSeat) → Stays s s
stays_same s = record { family = refl; place = refl; word = refl; table = refl; known = refl; looks = omega arith; low = omega arith }

abbrev pub Looked : AncestorSeat → AncestorSeat → Type 0
Looked old new = Stays old new × LookedOn 1 old new

pub looked_stays : (old new : AncestorSeat) → Looked old new → Stays old new
looked_stays old new l = l.0

pub looked_on : (old new : AncestorSeat) → Looked old new → LookedOn 1 old new
looked_on old new l = l.1

-- the seat made so many looks, and where it made one it knows no number below its place
pub record LookedBy (many : ℕ) (old new : AncestorSeat) : Type 0 where
  pub stays : Stays old new
  pub looks : (seat_view new.seat).looks ≡ (seat_view old.seat).looks + many
  pub low : 0 < many → new.place ≤ (seat_view new.seat).low

pub no_look : (s : AncestorSeat) → LookedBy 0 s s
no_look s = record { stays = stays_same s; looks = omega arith; low = λ h. absurd (omega arith) }

stays_then : (a b c : AncestorSeat) → Stays a b → Stays b c → Stays a c
stays_then a b c p q = record {
  family = q.family ∙ p.family;
  place = q.place ∙ p.place;
  word = q.word ∙ p.word;
  table = q.table ∙ p.table;
  known = q.known ∙ p.known;
  looks = omega arith;
  low = omega arith;
}

looked_then : (many : ℕ) (a b c : AncestorSeat) → LookedBy many a b → Stays b c → LookedOn 1 b c → LookedBy (many + 1) a c
looked_then many a b c p q l = record { stays = stays_then a b c p.stays q; looks = omega arith; low = λ h. l.low }

-- one look more of each
pub looked_more : (many more : ℕ) (xs ys zs : List AncestorSeat) → more ≡ many + 1 → Both (LookedBy many) xs ys → Both Stays ys zs → Both (LookedOn 1) ys zs → Both (LookedBy more) xs zs
looked_more many more [] [] [] is p q l = tt
looked_more many more [] [] (z ∷ zs) is p q l = absurd q
looked_more many more [] (y ∷ ys) zs is p q l = absurd p
looked_more many more (x ∷ xs) [] zs is p q l = absurd p
looked_more many more (x ∷ xs) (y ∷ ys) [] is p q l = absurd q
looked_more many more (x ∷ xs) (y ∷ ys) (z ∷ zs) is p q l =
    (subst (λ n. LookedBy n x z) (sym is) (looked_then many x y z p.0 q.0 l.0), looked_more many more xs ys zs is p.1 q.1 l.1)

-- a look that was cut short
pub looked_less : (many : ℕ) (xs ys zs : List AncestorSeat) → Both (LookedBy many) xs ys → Both Stays ys zs → Both Stays xs zs
looked_less many [] [] [] p q = tt
looked_less many [] [] (z ∷ zs) p q = absurd q
looked_less many [] (y ∷ ys) zs p q = absurd p
looked_less many (x ∷ xs) [] zs p q = absurd p
looked_less many (x ∷ xs) (y ∷ ys) [] p q = absurd q
looked_less many (x ∷ xs) (y ∷ ys) (z ∷ zs) p q = (stays_then x y z p.0.stays q.0, looked_less many xs ys zs p.1 q.1)

pub by_stays : (many : ℕ) (old new : AncestorSeat) → LookedBy many old new → Stays old new
by_stays many old new l = l.stays

pub by_on : (many : ℕ) → 0 < many → (old new : AncestorSeat) → LookedBy many old new → LookedOn many old new
by_on many some old new l = record { looks = l.looks; low = l.low some }

-- a job that wasn't touched
pub same_job : {T : Type 0} (j : Job T) → JobStays j j
same_job j = record { task = refl; rule = refl; node = refl; seats = both_same Stays stays_same j.seats }

-- a seat that looked so often can be handed in with so many marks
pub done_looked : (many : ℕ) (olds news : List AncestorSeat) → Both (LookedOn many) olds news → Each (HasLooked many) news
done_looked many [] [] b = tt
done_looked many [] (y ∷ ys) b = absurd b
done_looked many (x ∷ xs) [] b = absurd b
done_looked many (x ∷ xs) (y ∷ ys) b = let l = b.0.looks in (record { looks = omega arith; low = b.0.low }, done_looked many xs ys b.1)

-- seats that looked are of the words that they were of
pub still_at : (word : ℕ → TableId → Type 0) (olds news : List AncestorSeat) → Both Stays olds news → Each (LooksAt word) olds → Each (LooksAt word) news
still_at word [] [] b e = tt
still_at word [] (y ∷ ys) b e = absurd b
still_at word (x ∷ xs) [] b e = absurd b
still_at word (x ∷ xs) (y ∷ ys) b e = (
  subst (λ (k : ℕ). word k (seat_table y.seat)) (sym b.0.family) (subst (λ (t : TableId). word x.family t) (sym b.0.table) e.0),
  still_at word xs ys b.1 e.1,
)

-- words that stay are still those of the seats
pub at_later : (word later : ℕ → TableId → Type 0) → ((k : ℕ) (t : TableId) → word k t → later k t) → (ss : List AncestorSeat) → Each (LooksAt word) ss → Each (LooksAt later) ss
at_later word later stay [] e = tt
at_later word later stay (s ∷ ss) e = (stay s.family (seat_table s.seat) e.0, at_later word later stay ss e.1)
