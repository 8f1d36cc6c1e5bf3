-- How the parts of a name are read: the digits at the head of a text, the number that they are, and
-- the numbers with dots.
use Rattle.std.proofs.Common.{◌≡◌, ℕ, Option, Some, None, zero, suc, Result, Ok, Err, MatchOption, Bool, true, false, nat_lt, length, get_or, take, ◌^◌, ◌<◌, ◌≤◌, List, [], ◌∷◌, ◌++◌, refl, sym, ap, ◌∙◌, arith, decimal, codes, replicate}
use mathlib.Core.List.{append_assoc, append-nil}
use Rattle.std.proofs.lemmas.Bool.{ltb-true, ltb-false}
use Rattle.std.proofs.lemmas.Bool.Decides.{nat_tests}
use Rattle.std.proofs.lemmas.List.{length-replicate}
use Rattle.std.proofs.lemmas.Fmt.{IsAscii-decimal, decimal-digits_value, decimal_digit, decimal_injective, decimal_nonempty, first_decimal, parse-decimal}
use Rattle.std.proofs.lemmas.Str.{IsUtf8-from_ascii}
use Rattle.std.proofs.lemmas.Str.Parse.{IsNumeralModel, numerals_by_value, tells_digits, parse_plain}
use Rattle.std.specs.Result.{result_ok}
use Rattle.std.specs.Str.{IsUtf8}
use Rattle.std.specs.Str.Parse.{AllDigits, digits_value, ParsesUnsigned}
use Rattle.ap_list.specs.Lists.{Each}
use Rattle.ap_names.specs.Names.{IsCount}
use Rattle.ap_names.specs.Printed.{dotted, primes_text}
use Rattle.ap_names.specs.Reads.{IsDigit, EndsNumber, EndsNumbers, IsNumbers, numbered, IsWhole, IsNumberHead, HasNoNumber, IsNumbersHead, HasNoNumbers, AddsDotted, HasNoDotted, BeginsWithout}
use Rattle.ap_names.proofs.OneReading.{digits_decimal, digits_apart, each-append, dotted-cons, ends-dotted}

pub false_true : false ≡ true → ⊥
false_true h = cc

-- a number's first digit isn't 0
pub begins_count : (k : ℕ) → IsCount k → (c : ℕ) (cs : List ℕ) → c ∷ cs ≡ decimal k → (49 ≤ c) × (c ≤ 57)
begins_count k h c cs = by (decimal k) (digits_decimal k (omega arith)) (first_decimal k (omega arith) (omega arith))
  where
    by : (ds : List ℕ) → Each IsDigit ds → 48 < get_or ds 0 0 → c ∷ cs ≡ ds → (49 ≤ c) × (c ≤ 57)
    by [] p q e = absurd (cc)
    by (d ∷ ds) p q e = let same : c ≡ d = cc in (omega arith, omega (arith, p.0.1))

pub no_count_in_nothing : (text : List ℕ) → length text ≡ 0 → IsWhole IsCount decimal text None
no_count_in_nothing text h k is e =
    let some : 0 < length (decimal k) = decimal_nonempty k (omega arith) in
    let same : length text ≡ length (decimal k) = ap length e in omega arith

pub not_begun : (c : ℕ) (cs text : List ℕ) → text ≡ c ∷ cs → ((49 ≤ c) × (c ≤ 57) → ⊥) → IsWhole IsCount decimal text None
not_begun c cs text e h k is f = h (begins_count k is c cs (sym e ∙ f))

pub not_utf8 : (text : List ℕ) → ¬ (IsUtf8 text) → IsWhole IsCount decimal text None
not_utf8 text h k is e = h (rw e (IsUtf8-from_ascii (decimal k) (IsAscii-decimal k (omega arith))))

own : IsNumeralModel (AllDigits 10) (digits_value 10)
own = numerals_by_value _ tells_digits

pub parsed : {E : Type 0} (c : ℕ) (cs : List ℕ) (r : Result ℕ E) → 49 ≤ c → c ≤ 57 → ParsesUnsigned 32 10 (c ∷ cs) r → IsWhole IsCount decimal (c ∷ cs) (result_ok r)
parsed {E = E} c cs (Err e) p q h = λ k is f. absurd (failed k (parse-decimal {E = E} 32 k (c ∷ cs) (Err e) is.1 (omega arith) f h))
  where
    failed : (k : ℕ) → Err e ≡ Ok k → ⊥
    failed k g = cc
parsed {E = E} c cs (Ok v) p q h =
    let plain = parse_plain own {E = E} 32 (c ∷ cs) (Ok v) h (λ e. omega arith) in
    let value : v ≡ digits_value 10 (c ∷ cs) = plain.1 in
    let back : decimal (digits_value 10 (c ∷ cs)) ≡ c ∷ cs =
    decimal-digits_value own (c ∷ cs) plain.0.0 plain.0.1 (λ e. absurd (omega arith)) (omega (arith, plain.0.2)) in
    let prints : c ∷ cs ≡ decimal v = sym back ∙ ap decimal (sym value) in
    ((positive v prints, omega (arith, plain.0.2)), prints)
  where
    positive : (v : ℕ) → c ∷ cs ≡ decimal v → 1 ≤ v
    positive zero e = let zeros : c ∷ cs ≡ 48 ∷ [] = e ∙ decimal_digit 0 (omega arith) in let same : c ≡ 48 = cc in absurd (omega arith)
    positive (suc v) e = omega arith

pub parsed_text : {E : Type 0} (c : ℕ) (cs text : List ℕ) (r : Result ℕ E) → text ≡ c ∷ cs → 49 ≤ c → c ≤ 57 → ParsesUnsigned 32 10 text r → IsWhole IsCount decimal text (result_ok r)
parsed_text c cs text r e p q h =
    let at_bytes : ParsesUnsigned 32 10 (c ∷ cs) r = rw e at h in
    let whole = parsed c cs r p q at_bytes in rw e whole

pub no_number : (text digits rest : List ℕ) → text ≡ digits ++ rest → Each IsDigit digits → EndsNumber rest → IsWhole IsCount decimal digits None → HasNoNumber text
no_number text digits rest e p u h k t is v f =
    h k is (digits_apart digits (decimal k) rest t p (digits_decimal k (omega arith)) u v (sym e ∙ f)).0

pub a_number : (text digits rest : List ℕ) (k : ℕ) → text ≡ digits ++ rest → Each IsDigit digits → EndsNumber rest → IsWhole IsCount decimal digits (Some k) → IsNumberHead text k rest
a_number text digits rest k e p u h = record {
  is = h.0;
  prints = e ∙ ap (λ xs. xs ++ rest) h.1;
  alone = λ b t is v f.
      let parts = digits_apart digits (decimal b) rest t p (digits_decimal b (omega arith)) u v (sym e ∙ f) in
      (decimal_injective k b (omega arith) (omega arith) (sym h.1 ∙ parts.0), parts.1);
}

-- a list with a number more, each after a dot
dotted-snoc : (ks : List ℕ) (k : ℕ) (s : List ℕ) → dotted (ks ++ k ∷ []) ++ s ≡ dotted ks ++ (46 ∷ (decimal k ++ s))
dotted-snoc [] k s = dotted-cons k [] s
dotted-snoc (l ∷ ks) k s =
    dotted-cons l (ks ++ k ∷ []) s ∙ ap (λ xs. 46 ∷ (decimal l ++ xs)) (dotted-snoc ks k s) ∙ sym (dotted-cons l ks (46 ∷ (decimal k ++ s)))

-- what numbers with dots leave to be read once ks are
abbrev pub Left : List ℕ → List ℕ → List ℕ → List ℕ → Type 0
Left b t ks rest = (ls : List ℕ) × (Each IsCount ls × ((b ≡ ks ++ ls) × (rest ≡ dotted ls ++ t)))

-- ks are read from the text, and added to the numbers before
pub record Reading (before text numbers rest ks : List ℕ) : Type 0 where
  pub added : numbers ≡ before ++ ks
  pub counts : Each IsCount ks
  pub done : text ≡ dotted ks ++ rest
  pub left : (b t : List ℕ) → Each IsCount b → EndsNumbers t → text ≡ dotted b ++ t → Left b t ks rest

pub begun : (before text : List ℕ) → Reading before text before text []
begun before text = record { added = sym (append-nil before); counts = tt; done = refl; left = λ b t p u e. (b, (p, (refl, e))) }

-- no dot follows: all is read
pub ended : (before text numbers rest ks : List ℕ) → Reading before text numbers rest ks → BeginsWithout 46 rest → AddsDotted before text numbers rest
ended before text numbers rest ks r hn = (ks, r.added, record { is = r.counts; prints = r.done; alone = λ b t p u e. by b t (r.left b t p u e) })
  where
    by : (b t : List ℕ) → Left b t ks rest → (ks ≡ b) × (rest ≡ t)
    by b t ([], l) = (sym (append-nil ks) ∙ sym l.1.0, l.1.1)
    by b t (k ∷ ls, l) = absurd (hn (decimal k ++ (dotted ls ++ t)) (l.1.1 ∙ dotted-cons k ls t))

-- a dot follows, and no number after it: nothing is read
pub broken : (before text numbers rest ks after : List ℕ) → Reading before text numbers rest ks → rest ≡ 46 ∷ after → HasNoNumber after → HasNoDotted text
broken before text numbers rest ks after r dot hn = λ b t p u e. by b t u (r.left b t p u e)
  where
    by : (b t : List ℕ) → EndsNumbers t → Left b t ks rest → ⊥
    by b [] u ([], l) = let same : 46 ∷ after ≡ [] = sym dot ∙ l.1.1 in cc
    by b (c ∷ t) u ([], l) = let same : 46 ∷ after ≡ c ∷ t = sym dot ∙ l.1.1 in let dotted : c ≡ 46 = cc in u.1 dotted
    by b t u (k ∷ ls, l) =
        let same : ◌≡◌ {A = List ℕ} (46 ∷ after) (46 ∷ (decimal k ++ (dotted ls ++ t))) = sym dot ∙ l.1.1 ∙ dotted-cons k ls t in
        let rest : after ≡ decimal k ++ (dotted ls ++ t) = cc in
        hn k (dotted ls ++ t) l.0.0 (ends-dotted ls t u) rest

-- a dot follows, and a number after it
pub read_on : (before text numbers rest ks after : List ℕ) (k : ℕ) (left : List ℕ) → Reading before text numbers rest ks → rest ≡ 46 ∷ after → IsNumberHead after k left
    → Reading before text (numbers ++ k ∷ []) left (ks ++ k ∷ [])
read_on before text numbers rest ks after k left r dot head = record {
  added = ap (λ xs. xs ++ k ∷ []) r.added ∙ append_assoc before ks (k ∷ []);
  counts = each-append IsCount ks (k ∷ []) r.counts (head.is, tt);
  done = r.done ∙ ap (λ xs. dotted ks ++ xs) (dot ∙ ap (λ xs. 46 ∷ xs) head.prints) ∙ sym (dotted-snoc ks k left);
  left = λ b t p u e. by b t u (r.left b t p u e);
}
  where
    by : (b t : List ℕ) → EndsNumbers t → Left b t ks rest → Left b t (ks ++ k ∷ []) left
    by b [] u ([], l) = let same : 46 ∷ after ≡ [] = sym dot ∙ l.1.1 in absurd (cc)
    by b (c ∷ t) u ([], l) = let same : 46 ∷ after ≡ c ∷ t = sym dot ∙ l.1.1 in let dotted : c ≡ 46 = cc in absurd (u.1 dotted)
    by b t u (n ∷ ls, l) =
        let same : ◌≡◌ {A = List ℕ} (46 ∷ after) (46 ∷ (decimal n ++ (dotted ls ++ t))) = sym dot ∙ l.1.1 ∙ dotted-cons n ls t in
        let more : after ≡ decimal n ++ (dotted ls ++ t) = cc in
        let one = head.alone n (dotted ls ++ t) l.0.0 (ends-dotted ls t u) more in
        let this : k ≡ n = one.0 in
        (ls, (l.0.1, (l.1.0 ∙ ap (λ m. ks ++ m ∷ ls) (sym this) ∙ sym (append_assoc ks (k ∷ []) ls), one.1)))

-- numbers begin with a number
pub no_numbers_first : (text : List ℕ) → HasNoNumber text → HasNoNumbers text
no_numbers_first text hn = λ b t p u e. by b t p u e
  where
    by : (b t : List ℕ) → IsNumbers b → EndsNumbers t → text ≡ numbered b ++ t → ⊥
    by [] t p u e = p
    by (k ∷ ks) t p u e = hn k (dotted ks ++ t) p.0 (ends-dotted ks t u) (e ∙ append_assoc (decimal k) (dotted ks) t)

-- and go on with numbers after dots
pub no_numbers_then : (text : List ℕ) (k : ℕ) (rest : List ℕ) → IsNumberHead text k rest → HasNoDotted rest → HasNoNumbers text
no_numbers_then text k rest head hn = λ b t p u e. by b t p u e
  where
    by : (b t : List ℕ) → IsNumbers b → EndsNumbers t → text ≡ numbered b ++ t → ⊥
    by [] t p u e = p
    by (n ∷ ks) t p u e =
        let one = head.alone n (dotted ks ++ t) p.0 (ends-dotted ks t u) (e ∙ append_assoc (decimal n) (dotted ks) t) in
        hn ks t p.1 u one.1

pub all_numbers : (text : List ℕ) (k : ℕ) (rest numbers left : List ℕ) → IsNumberHead text k rest → AddsDotted (k ∷ []) rest numbers left → IsNumbersHead text numbers left
all_numbers text k rest numbers left head (ks, added, more) = rw added whole
  where
    by : (b t : List ℕ) → IsNumbers b → EndsNumbers t → text ≡ numbered b ++ t → (k ∷ ks ≡ b) × (left ≡ t)
    by [] t p u e = absurd p
    by (n ∷ ns) t p u e =
        let one = head.alone n (dotted ns ++ t) p.0 (ends-dotted ns t u) (e ∙ append_assoc (decimal n) (dotted ns) t) in
        let others = more.alone ns t p.1 u one.1 in
        let first : k ≡ n = one.0 in
        let after : ks ≡ ns = others.0 in
        (cc, others.1)

    whole : IsNumbersHead text (k ∷ ks) left
    whole = record {
      is = (head.is, more.is);
      prints = head.prints ∙ ap (λ xs. decimal k ++ xs) more.prints ∙ sym (append_assoc (decimal k) (dotted ks) left);
      alone = by;
    }

pub numbers_then : {X : Type 0} (text : List ℕ) (k : ℕ) (rest before : List ℕ) → IsNumberHead text k rest → before ≡ k ∷ [] → (numbers left : X → List ℕ) (o : Option X)
    → MatchOption o (HasNoDotted rest) (λ p. AddsDotted before rest (numbers p) (left p)) → MatchOption o (HasNoNumbers text) (λ p. IsNumbersHead text (numbers p) (left p))
numbers_then text k rest before head e numbers left None more = no_numbers_then text k rest head more
numbers_then text k rest before head e numbers left (Some p) more =
    let added : AddsDotted (k ∷ []) rest (numbers p) (left p) = rw e at more in
    all_numbers text k rest (numbers p) (left p) head added

-- up to three primes print as themselves
pub few_primes : (n : ℕ) → n < 4 → primes_text n ≡ replicate n 39
unfolding primes_text
few_primes n h = grind (arith, nat_tests)

-- and more as their number between two
pub many_primes : (n : ℕ) → 4 ≤ n → primes_text n ≡ codes "'" ++ decimal n ++ codes "'"
unfolding primes_text
many_primes n h = grind (arith, nat_tests)

few_taken : (n : ℕ) → n < 4 → replicate {A = ℕ} n 39 ≡ take n (39 ∷ 39 ∷ 39 ∷ [])
few_taken zero h = refl
few_taken (suc zero) h = refl
few_taken (suc (suc zero)) h = refl
few_taken (suc (suc (suc zero))) h = refl
few_taken (suc (suc (suc (suc n)))) h = absurd (omega arith)

-- a text of up to three primes
pub read_few : (text : List ℕ) → length text < 4 → text ≡ take (length text) (39 ∷ 39 ∷ 39 ∷ []) → IsWhole (λ n. n < 2 ^ 32) primes_text text (Some (length text))
read_few text h e = (omega arith, e ∙ sym (few_taken (length text) h) ∙ sym (few_primes (length text) h))

-- and any other
pub read_many : (text : List ℕ) → (length text < 4 → text ≡ take (length text) (39 ∷ 39 ∷ 39 ∷ []) → ⊥) → (o : Option ℕ)
    → IsWhole (λ n. (4 ≤ n) × (n < 2 ^ 32)) (λ n. codes "'" ++ decimal n ++ codes "'") text o → IsWhole (λ n. n < 2 ^ 32) primes_text text o
read_many text many (Some n) h = (h.0.1, h.1 ∙ sym (many_primes n h.0.0))
read_many text many None h = λ n small e. by n small e (nat_lt n 4) refl
  where
    by : (n : ℕ) → n < 2 ^ 32 → text ≡ primes_text n → (b : Bool) → nat_lt n 4 ≡ b → ⊥
    by n small e true t =
        let few : n < 4 = ltb-true n 4 t in
        let repeated : text ≡ replicate n 39 = e ∙ few_primes n few in
        let len : length text ≡ n = ap length repeated ∙ length-replicate n 39 in
        many (omega (arith, len, few)) (repeated ∙ few_taken n few ∙ ap (λ m. take m (39 ∷ 39 ∷ 39 ∷ [])) (sym len))
    by n small e false t = let large : 4 ≤ n = ltb-false n 4 t in h n (large, small) (e ∙ many_primes n large)
