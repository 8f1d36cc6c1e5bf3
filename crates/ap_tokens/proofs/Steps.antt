-- One step of each scan, at what is left of a text.
use Rattle.std.proofs.Common.{◌≡◌, ℕ, ◌+◌, ◌<◌, ◌≤◌, Bool, true, List, [], ◌∷◌, length, get_or, drop, Option, Some, None, refl, ap, arith}
use Rattle.std.proofs.lemmas.List.{at_drop_more, at_drop_all}
use Rattle.ap_tokens.specs.declared.hash.Base.{Base}
use Rattle.ap_tokens.specs.Hashes.{digits_of}
use Rattle.ap_tokens.specs.Scans.{more, line_len, run_len, string_len, atom_len}

pub more_more : (a b : ℕ) (o : Option ℕ) → more a (more b o) ≡ more (a + b) o
more_more a b None = refl
more_more a b (Some n) = ap Some (omega arith)

pub line_more : (t : List ℕ) (n d : ℕ) → n < length t → line_len (drop n t) ≡ line_len (get_or t n d ∷ drop (n + 1) t)
line_more t n d h = at_drop_more line_len t n d h

pub line_all : (t : List ℕ) (n : ℕ) → length t ≤ n → line_len (drop n t) ≡ 0
line_all t n h = at_drop_all line_len t n h

pub run_more : (t : List ℕ) (n d : ℕ) → n < length t → run_len (drop n t) ≡ run_len (get_or t n d ∷ drop (n + 1) t)
run_more t n d h = at_drop_more run_len t n d h

pub run_all : (t : List ℕ) (n : ℕ) → length t ≤ n → run_len (drop n t) ≡ 0
run_all t n h = at_drop_all run_len t n h

pub string_more : (taken : Bool) (t : List ℕ) (n d : ℕ) → n < length t → string_len taken (drop n t) ≡ string_len taken (get_or t n d ∷ drop (n + 1) t)
string_more taken t n d h = at_drop_more (string_len taken) t n d h

pub string_all : (taken : Bool) (t : List ℕ) (n : ℕ) → length t ≤ n → string_len taken (drop n t) ≡ None
string_all taken t n h = at_drop_all (string_len taken) t n h

pub atom_more : (bar taken : Bool) (t : List ℕ) (n d : ℕ) → n < length t → atom_len bar taken (drop n t) ≡ atom_len bar taken (get_or t n d ∷ drop (n + 1) t)
atom_more bar taken t n d h = at_drop_more (atom_len bar taken) t n d h

pub atom_all : (bar taken : Bool) (t : List ℕ) (n : ℕ) → length t ≤ n → atom_len bar taken (drop n t) ≡ atom_len bar taken []
atom_all bar taken t n h = at_drop_all (atom_len bar taken) t n h

pub digits_more : (base : Base) (t : List ℕ) (n d : ℕ) → n < length t → digits_of base (drop n t) ≡ digits_of base (get_or t n d ∷ drop (n + 1) t)
digits_more base t n d h = at_drop_more (digits_of base) t n d h

pub digits_all : (base : Base) (t : List ℕ) (n : ℕ) → length t ≤ n → digits_of base (drop n t) ≡ true
digits_all base t n h = at_drop_all (digits_of base) t n h

pub ruleset steps = (digits_more, digits_all, more_more, line_more, line_all, run_more, run_all, string_more, string_all, atom_more, atom_all)
