-- A row of thieves' sides is settled, one after another from its end, and row after row.
use Rattle.std.proofs.Common.{◌≡◌, ℕ, suc, ◌+◌, ◌<◌, List, [], ◌∷◌, ◌++◌, length, get_or, set, refl, sym, ap, ◌∙◌, subst, arith, inl, inr}
use Rattle.std.specs.Prelude.{Vec, ◌⊎◌}
use Rattle.std.specs.declared.alloc.Global.{Global}
use Rattle.std.proofs.lemmas.List.{length-append}
use Rattle.ap_list.specs.Lists.{Each}
use Rattle.ap_list.proofs.Eachs.{each_parts}
use Rattle.ap_deal.specs.declared.rule.Log.{Log}
use Rattle.ap_deal.specs.declared.hands.Hand.{Hand}
use Rattle.ap_deal.specs.declared.hands.Dealer.{Dealer}
use Rattle.ap_deal.specs.Deals.{times, getting}
use Rattle.ap_deal.specs.Hands.{hand_log, dealer_log, SameHand, IsOf}
use Rattle.ap_deal.proofs.Totals.{times_append}
use Rattle.ap_speculate.specs.Sides.{dealer_deque, owned, sided, dealt_by, got_by, stolen_by, stolen_in, IsSettled, IsRow, AreRows}
use Rattle.ap_speculate.proofs.Siding.{Begins, EachFrom, At, begins_same, begins_less, begins_at, at_below, at_is, owned_set, dealt_set, got_set, stolen_last, stolen_in_last, from_end, from_set, row_long}

-- what is there when a row is settled from its end down to some first ones
pub record RowLeft (first : List Hand) (whole : List Dealer) (owns : List Hand) (row : List Dealer) : Type 0 where
  pub same : owned owns ≡ owned first
  pub begins : Begins (sided row) (owned owns)
  pub dealt : (x : ℕ) → dealt_by x owns ≡ dealt_by x first
  pub got : (x : ℕ) → got_by x owns + stolen_by x row ≡ got_by x first + stolen_by x whole
  pub settled : EachFrom IsSettled (length row) owns

pub row_begins : (owns : List Hand) (row : List Dealer) → sided row ≡ owned owns → RowLeft owns row owns row
row_begins owns row is = record {
  same = refl;
  begins = subst (λ l. Begins (sided row) l) is (begins_same (sided row));
  dealt = λ x. refl;
  got = λ x. refl;
  settled = subst (λ n. EachFrom IsSettled n owns) (sym (row_long row owns is)) (from_end IsSettled owns);
}

-- the deque of the last side is at its place
pub row_at : (first : List Hand) (whole : List Dealer) (owns : List Hand) (row rest : List Dealer) (d : Dealer) → row ≡ rest ++ d ∷ [] → RowLeft first whole owns row → At (length rest) owns (dealer_deque d)
row_at first whole owns row rest d is h = begins_at rest d owns (subst (λ l. Begins (sided l) (owned owns)) is h.begins)

pub row_below : (first : List Hand) (whole : List Dealer) (owns : List Hand) (row rest : List Dealer) (d : Dealer) → row ≡ rest ++ d ∷ [] → RowLeft first whole owns row → length rest < length owns
row_below first whole owns row rest d is h = at_below (length rest) owns (dealer_deque d) (row_at first whole owns row rest d is h)

pub row_of : (first : List Hand) (whole : List Dealer) (owns : List Hand) (row rest : List Dealer) (d : Dealer) (own : Hand) → row ≡ rest ++ d ∷ [] → RowLeft first whole owns row → own ≡ get_or owns (length rest) own → IsOf own d
row_of first whole owns row rest d own is h there = sym (at_is (length rest) owns (dealer_deque d) own (row_at first whole owns row rest d is h) there)

pub row_next : (first : List Hand) (whole : List Dealer) (owns : List Hand) (row rest : List Dealer) (d : Dealer) (old new : Hand) → row ≡ rest ++ d ∷ [] → RowLeft first whole owns row → old ≡ get_or owns (length rest) old → SameHand old new → hand_log new ≡ getting (hand_log old) (dealer_log d).got → IsSettled new → RowLeft first whole (set owns (length rest) new) rest
row_next first whole owns row rest d old new is h there same gets settled =
    let at = row_at first whole owns row rest d is h in
    let low = at_below (length rest) owns (dealer_deque d) at in
    let of = at_is (length rest) owns (dealer_deque d) old at there in
    let long : length row ≡ suc (length rest) = let e = ap length is in let p = length-append rest (d ∷ []) in omega arith in
    let kept = owned_set (length rest) owns (dealer_deque d) new at (same.0 ∙ of) in
    record {
      same = kept ∙ h.same;
      begins = subst (λ l. Begins (sided rest) l) (sym kept) (begins_less rest d (owned owns) (subst (λ l. Begins (sided l) (owned owns)) is h.begins));
      dealt = λ x. dealt_set x (length rest) owns old new there (ap (λ (l : Log). l.dealt) gets) ∙ h.dealt x;
      got = λ x.
          let e = got_set x (length rest) (times x (dealer_log d).got) owns old new low there (ap (λ (l : Log). times x l.got) gets ∙ times_append x (hand_log old).got (dealer_log d).got) in
          let s = ap (stolen_by x) is ∙ stolen_last x rest d in
          let k = h.got x in
          omega arith;
      settled = from_set IsSettled (length rest) owns new low (subst (λ n. EachFrom IsSettled n owns) long h.settled) settled;
    }

-- the same of several rows
pub record RowsLeft (first : List Hand) (whole : List (Vec Dealer Global)) (owns : List Hand) (rows : List (Vec Dealer Global)) : Type 0 where
  pub same : owned owns ≡ owned first
  pub sides : AreRows (owned first) rows
  pub dealt : (x : ℕ) → dealt_by x owns ≡ dealt_by x first
  pub got : (x : ℕ) → got_by x owns + stolen_in x rows ≡ got_by x first + stolen_in x whole
  pub settled : (0 < length rows) ⊎ Each IsSettled owns

pub rows_begin : (owns : List Hand) (rows : List (Vec Dealer Global)) → AreRows (owned owns) rows → 0 < length rows → RowsLeft owns rows owns rows
rows_begin owns rows are some = record { same = refl; sides = are; dealt = λ x. refl; got = λ x. refl; settled = inl some }

pub last_row : (first : List Hand) (whole : List (Vec Dealer Global)) (owns : List Hand) (rows rest : List (Vec Dealer Global)) (row : Vec Dealer Global) → rows ≡ rest ++ row ∷ [] → RowsLeft first whole owns rows → sided row.items ≡ owned owns
last_row first whole owns rows rest row is h = (each_parts (λ r. IsRow (owned first) r.items) rest (row ∷ []) (subst (AreRows (owned first)) is h.sides)).1.0 ∙ sym h.same

pub rows_next : (first : List Hand) (whole : List (Vec Dealer Global)) (owns new : List Hand) (rows rest : List (Vec Dealer Global)) (row : Vec Dealer Global) → rows ≡ rest ++ row ∷ [] → RowsLeft first whole owns rows → owned new ≡ owned owns → ((x : ℕ) → dealt_by x new ≡ dealt_by x owns) → ((x : ℕ) → got_by x new ≡ got_by x owns + stolen_by x row.items) → Each IsSettled new → RowsLeft first whole new rest
rows_next first whole owns new rows rest row is h same dealt got settled = record {
  same = same ∙ h.same;
  sides = (each_parts (λ r. IsRow (owned first) r.items) rest (row ∷ []) (subst (AreRows (owned first)) is h.sides)).0;
  dealt = λ x. dealt x ∙ h.dealt x;
  got = λ x.
      let e = got x in
      let s = ap (stolen_in x) is ∙ stolen_in_last x rest row in
      let k = h.got x in
      omega arith;
  settled = inr settled;
}

-- nothing is left of a row, or of the rows
pub row_ends : (first : List Hand) (whole : List Dealer) (owns : List Hand) (row : List Dealer) → length row ≡ 0 → RowLeft first whole owns row → ((x : ℕ) → got_by x owns ≡ got_by x first + stolen_by x whole) × Each IsSettled owns
row_ends first whole owns [] none h = ((λ x. let k = h.got x in omega arith), h.settled)
row_ends first whole owns (d ∷ row) none h = absurd (omega arith)

rows_settled : (owns : List Hand) (rows : List (Vec Dealer Global)) → length rows ≡ 0 → (0 < length rows) ⊎ Each IsSettled owns → Each IsSettled owns
rows_settled owns rows none (inl some) = absurd (omega arith)
rows_settled owns rows none (inr settled) = settled

pub rows_end : (first : List Hand) (whole : List (Vec Dealer Global)) (owns : List Hand) (rows : List (Vec Dealer Global)) → length rows ≡ 0 → RowsLeft first whole owns rows → ((x : ℕ) → got_by x owns ≡ got_by x first + stolen_in x whole) × Each IsSettled owns
rows_end first whole owns [] none h = ((λ x. let k = h.got x in omega arith), rows_settled owns [] none h.settled)
rows_end first whole owns (r ∷ rows) none h = absurd (omega arith)

-- the same where the place is known by another number
pub row_below_at : (first : List Hand) (whole : List Dealer) (owns : List Hand) (row rest : List Dealer) (d : Dealer) (at : ℕ) → at ≡ length rest → row ≡ rest ++ d ∷ [] → RowLeft first whole owns row → at < length owns
row_below_at first whole owns row rest d at place is h = let low = row_below first whole owns row rest d is h in omega arith

pub row_of_at : (first : List Hand) (whole : List Dealer) (owns : List Hand) (row rest : List Dealer) (d : Dealer) (own : Hand) (at : ℕ) → at ≡ length rest → row ≡ rest ++ d ∷ [] → RowLeft first whole owns row → own ≡ get_or owns at own → IsOf own d
row_of_at first whole owns row rest d own at place is h there = row_of first whole owns row rest d own is h (subst (λ (n : ℕ). own ≡ get_or owns n own) place there)

pub row_next_at : (first : List Hand) (whole : List Dealer) (owns : List Hand) (row rest : List Dealer) (d : Dealer) (old new : Hand) (at : ℕ) → at ≡ length rest → row ≡ rest ++ d ∷ [] → RowLeft first whole owns row → old ≡ get_or owns at old → SameHand old new → hand_log new ≡ getting (hand_log old) (dealer_log d).got → IsSettled new → RowLeft first whole (set owns at new) rest
row_next_at first whole owns row rest d old new at place is h there same gets settled =
    subst (λ (n : ℕ). RowLeft first whole (set owns n new) rest) (sym place) (row_next first whole owns row rest d old new is h (subst (λ (n : ℕ). old ≡ get_or owns n old) place there) same gets settled)
