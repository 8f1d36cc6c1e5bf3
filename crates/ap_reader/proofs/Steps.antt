-- One step of each loop, at what is left of a text.
use Rattle.std.proofs.Common.{◌≡◌, ℕ, ◌+◌, ◌<◌, ◌≤◌, Bool, true, false, List, [], ◌∷◌, ◌++◌, length, get_or, drop}
use Rattle.std.proofs.lemmas.List.{at_drop_more, at_drop_all, append_assoc}
use Rattle.ap_reader.specs.declared.name.Letter.{Letter}
use Rattle.ap_reader.specs.Numbers.{past_digits, is_dots, value_after}
use Rattle.ap_reader.specs.Names.{letters_of, has_colon}
use Rattle.ap_reader.specs.Strings.{unquoted}

pub digits_more : (t : List ℕ) (n d : ℕ) → n < length t → past_digits (drop n t) ≡ past_digits (get_or t n d ∷ drop (n + 1) t)
digits_more t n d h = at_drop_more past_digits t n d h

pub digits_all : (t : List ℕ) (n : ℕ) → length t ≤ n → past_digits (drop n t) ≡ []
digits_all t n h = at_drop_all past_digits t n h

pub dots_more : (t : List ℕ) (n d : ℕ) → n < length t → is_dots (drop n t) ≡ is_dots (get_or t n d ∷ drop (n + 1) t)
dots_more t n d h = at_drop_more is_dots t n d h

pub dots_all : (t : List ℕ) (n : ℕ) → length t ≤ n → is_dots (drop n t) ≡ true
dots_all t n h = at_drop_all is_dots t n h

pub value_more : (base m : ℕ) (t : List ℕ) (n d : ℕ) → n < length t → value_after base m (drop n t) ≡ value_after base m (get_or t n d ∷ drop (n + 1) t)
value_more base m t n d h = at_drop_more (value_after base m) t n d h

pub value_all : (base m : ℕ) (t : List ℕ) (n : ℕ) → length t ≤ n → value_after base m (drop n t) ≡ m
value_all base m t n h = at_drop_all (value_after base m) t n h

pub letters_more : (bar escape : Bool) (t : List ℕ) (n d : ℕ) → n < length t
    → letters_of bar escape (drop n t) ≡ letters_of bar escape (get_or t n d ∷ drop (n + 1) t)
letters_more bar escape t n d h = at_drop_more (letters_of bar escape) t n d h

pub letters_all : (bar escape : Bool) (t : List ℕ) (n : ℕ) → length t ≤ n → letters_of bar escape (drop n t) ≡ []
letters_all bar escape t n h = at_drop_all (letters_of bar escape) t n h

pub colon_more : (t : List Letter) (n : ℕ) (d : Letter) → n < length t → has_colon (drop n t) ≡ has_colon (get_or t n d ∷ drop (n + 1) t)
colon_more t n d h = at_drop_more has_colon t n d h

pub colon_all : (t : List Letter) (n : ℕ) → length t ≤ n → has_colon (drop n t) ≡ false
colon_all t n h = at_drop_all has_colon t n h

pub unquoted_more : (escape : Bool) (t : List ℕ) (n d : ℕ) → n < length t
    → unquoted escape (drop n t) ≡ unquoted escape (get_or t n d ∷ drop (n + 1) t)
unquoted_more escape t n d h = at_drop_more (unquoted escape) t n d h

pub unquoted_all : (escape : Bool) (t : List ℕ) (n : ℕ) → length t ≤ n → unquoted escape (drop n t) ≡ []
unquoted_all escape t n h = at_drop_all (unquoted escape) t n h

-- one more at the end is one more before the rest
pub pushed : {A : Type 0} (xs : List A) (x : A) (ys : List A) → (xs ++ x ∷ []) ++ ys ≡ xs ++ x ∷ ys
pushed xs x ys = append_assoc xs (x ∷ []) ys

pub ruleset steps = (digits_more, digits_all, dots_more, dots_all, value_more, value_all, letters_more, letters_all, colon_more, colon_all, unquoted_more, unquoted_all, pushed)
