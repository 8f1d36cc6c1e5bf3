-- The name that a text is read as is the one that prints as it, the case of letters aside.
use Rattle.std.proofs.Common.{◌≡◌, ◌&&◌, true, false, Bool, cond, nat_eq, nat_le, nat_lt, ℕ, zero, suc, Option, Some, None, MatchOption, length, take, drop, lit<, ◌+◌, ◌^◌, ◌<◌, ◌≤◌, List, [], ◌∷◌, ◌++◌, map, refl, sym, ap, subst, ◌∙◌, arith, decimal, codes}
use Rattle.std.proofs.lemmas.Bool.{eqb-true, leb-true, ltb-true, ltb-false}
use Rattle.std.proofs.lemmas.Fmt.{decimal_is_IsNumeral}
use Rattle.std.proofs.lemmas.List.{take-append-drop, length-take-le}
use Rattle.std.specs.Char.{to_ascii_lowercase}
use Rattle.std.specs.Cmp.Lexicographic.{pointwise, same_text, other_text}
use Rattle.std.specs.Str.Parse.{digits_value}
use Rattle.ap_list.specs.Lists.{Each}
use Rattle.ap_names.specs.Names.{Name, IsCount}
use Rattle.ap_names.specs.Printed.{primes_text, IsReading}
use Rattle.ap_names.specs.Reads.{IsDigit, EndsNumber, IsWhole, IsNumberHead, HasNoNumber, IsNumbersHead, HasNoNumbers, AddsDotted, HasNoDotted, BeginsWithout, IsAfter, BeginsOtherwise, IsReadingAfter}
use Rattle.ap_names.specs.Reading.{is_text, and_then, is_digit, digits, after_digits, as_count, number_at, dotted_at, more_at, numbers_at, after_byte, closed_by_prime, counted_primes, are_few_primes, primes_of, after, root_by, pushed_at, pushed_by, placed_by, case_by, by_star, subgoal_by, by_fronts, name_of}
use Rattle.ap_names.proofs.Parts.{no_number, a_number, Reading, begun, ended, broken, read_on, no_numbers_first, no_numbers_then, all_numbers, read_few, read_many}
use Rattle.ap_names.proofs.Named.{after_front, not_after_front, short_front, no_root, the_root, no_pushed_numbers, no_pushed_end, the_pushed, no_placed_numbers, no_placed_primes, the_placed, no_case_numbers, no_case_slash, no_case_number, no_case_path, no_case_primes, the_case, no_front}

-- the digits of a text
split : (text : List ℕ) → text ≡ digits text ++ after_digits text
split [] = refl
split (c ∷ cs) = go (is_digit c) (split cs)
  where
    go : (b : Bool) → cs ≡ digits cs ++ after_digits cs → c ∷ cs ≡ cond b (c ∷ digits cs) [] ++ cond b (after_digits cs) (c ∷ cs)
    go true e = ap (λ xs. c ∷ xs) e
    go false e = refl

digit_true : (c : ℕ) → is_digit c ≡ true → IsDigit c
digit_true c h = go (nat_le 48 c) (nat_lt c 58) refl refl h
  where
    go : (a b : Bool) → nat_le 48 c ≡ a → nat_lt c 58 ≡ b → (a && b) ≡ true → IsDigit c
    go true true p q h = (leb-true 48 c p, ltb-true c 58 q)
    go true false p q h = cc
    go false b p q h = cc

digit_false : (c : ℕ) → is_digit c ≡ false → IsDigit c → ⊥
digit_false c h d = grind (arith, h, d.0, d.1)

all_digits : (text : List ℕ) → Each IsDigit (digits text)
all_digits [] = tt
all_digits (c ∷ cs) = go (is_digit c) refl (all_digits cs)
  where
    go : (b : Bool) → is_digit c ≡ b → Each IsDigit (digits cs) → Each IsDigit (cond b (c ∷ digits cs) [])
    go true q more = (digit_true c q, more)
    go false q more = tt

ends_digits : (text : List ℕ) → EndsNumber (after_digits text)
ends_digits [] = tt
ends_digits (c ∷ cs) = go (is_digit c) refl (ends_digits cs)
  where
    go : (b : Bool) → is_digit c ≡ b → EndsNumber (after_digits cs) → EndsNumber (cond b (after_digits cs) (c ∷ cs))
    go true q more = more
    go false q more = digit_false c q

shorter : (text : List ℕ) → length (after_digits text) ≤ length text
shorter [] = omega arith
shorter (c ∷ cs) = go (is_digit c) (shorter cs)
  where
    go : (b : Bool) → length (after_digits cs) ≤ length cs → length (cond b (after_digits cs) (c ∷ cs)) ≤ suc (length cs)
    go true h = omega (arith, h)
    go false h = omega arith

-- a number
count_reads : (ds : List ℕ) → IsWhole IsCount decimal ds (as_count (digits_value 10 ds) ds)
count_reads ds = go (nat_le 1 v) (nat_lt v (2 ^ 32)) (is_text ds (decimal v)) refl refl refl
  where
    v : ℕ
    v = digits_value 10 ds

    value : (k : ℕ) → IsCount k → ds ≡ decimal k → v ≡ k
    value k is e = ap (digits_value 10) e ∙ (decimal_is_IsNumeral k (let small = is.1 in omega (arith, small))).1

    go : (a b c : Bool) → nat_le 1 v ≡ a → nat_lt v (2 ^ 32) ≡ b → is_text ds (decimal v) ≡ c → IsWhole IsCount decimal ds (cond (a && (b && c)) (Some v) None)
    go true true true p q r = ((leb-true 1 v p, ltb-true v (2 ^ 32) q), same_text ds (decimal v) (sym r))
    go true true false p q r = λ k is e. other_text ds (decimal v) (sym r) (e ∙ ap decimal (sym (value k is e)))
    go true false c p q r = λ k is e. let same = value k is e in let large = ltb-false v (2 ^ 32) q in let small = is.1 in omega (arith, same, large, small)
    go false b c p q r = λ k is e. let same = value k is e in let some = is.0 in grind (arith, p, same, some)

abbrev ReadsNumber : List ℕ → Option (ℕ × List ℕ) → Type 0
ReadsNumber text o = MatchOption o (HasNoNumber text) (λ p. IsNumberHead text p.0 p.1)

number_reads : (text : List ℕ) → ReadsNumber text (number_at text)
number_reads text = go (as_count (digits_value 10 (digits text)) (digits text)) (count_reads (digits text))
  where
    go : (o : Option ℕ) → IsWhole IsCount decimal (digits text) o → ReadsNumber text (and_then o (λ k. Some (k, after_digits text)))
    go None h = no_number text (digits text) (after_digits text) (split text) (all_digits text) (ends_digits text) h
    go (Some k) h = a_number text (digits text) (after_digits text) k (split text) (all_digits text) (ends_digits text) h

number_shorter : (text : List ℕ) (p : ℕ × List ℕ) → number_at text ≡ Some p → length p.1 ≤ length text
number_shorter text p h = go (as_count (digits_value 10 (digits text)) (digits text)) h
  where
    go : (o : Option ℕ) → and_then o (λ k. Some (k, after_digits text)) ≡ Some p → length p.1 ≤ length text
    go None e = absurd (cc)
    go (Some k) e =
        let same : (k, after_digits text) ≡ p = cc in
        let rest : after_digits text ≡ p.1 = ap (λ (q : ℕ × List ℕ). q.1) same in
        subst (λ xs. length xs ≤ length text) rest (shorter text)

-- numbers behind dots
abbrev ReadsDotted : List ℕ → List ℕ → Option (List ℕ × List ℕ) → Type 0
ReadsDotted before text o = MatchOption o (HasNoDotted text) (λ p. AddsDotted before text p.0 p.1)

byte_true : (c b : ℕ) → nat_eq c b ≡ true → c ≡ b
byte_true c b h = eqb-true c b h

byte_false : (c b : ℕ) (cs : List ℕ) → nat_eq c b ≡ false → BeginsWithout b (c ∷ cs)
byte_false c b cs h rest e = let same : c ≡ b = cc in grind (arith, h, same)

dotted_reads : (n : ℕ) (before text numbers rest ks : List ℕ) → length rest ≤ n → Reading before text numbers rest ks → ReadsDotted before text (dotted_at n numbers rest)
dotted_reads zero before text numbers [] ks f r = ended before text numbers [] ks r (λ rest e. cc)
dotted_reads zero before text numbers (c ∷ cs) ks f r = absurd (omega (arith, f))
dotted_reads (suc n) before text numbers [] ks f r = ended before text numbers [] ks r (λ rest e. cc)
dotted_reads (suc n) before text numbers (c ∷ cs) ks f r = go (nat_eq c 46) refl (λ p less more. dotted_reads n before text (numbers ++ p.0 ∷ []) p.1 (ks ++ p.0 ∷ []) less more)
  where
    Goes : Type 0
    Goes = (p : ℕ × List ℕ) → length p.1 ≤ n → Reading before text (numbers ++ p.0 ∷ []) p.1 (ks ++ p.0 ∷ []) → ReadsDotted before text (dotted_at n (numbers ++ p.0 ∷ []) p.1)

    at_number : (o : Option (ℕ × List ℕ)) → number_at cs ≡ o → ReadsNumber cs o → c ≡ 46 → Goes → ReadsDotted before text (and_then o (λ p. dotted_at n (numbers ++ p.0 ∷ []) p.1))
    at_number None q h dot on = broken before text numbers (c ∷ cs) ks cs r (ap (λ d. d ∷ cs) dot) h
    at_number (Some p) q h dot on =
        on p (let less = number_shorter cs p q in omega (arith, less, f)) (read_on before text numbers (c ∷ cs) ks cs p.0 p.1 r (ap (λ d. d ∷ cs) dot) h)

    go : (b : Bool) → nat_eq c 46 ≡ b → Goes → ReadsDotted before text (cond b (and_then (number_at cs) (λ p. dotted_at n (numbers ++ p.0 ∷ []) p.1)) (Some (numbers, c ∷ cs)))
    go true q on = at_number (number_at cs) refl (number_reads cs) (byte_true c 46 q) on
    go false q on = ended before text numbers (c ∷ cs) ks r (byte_false c 46 cs q)

more_reads : (before text : List ℕ) → ReadsDotted before text (more_at before text)
more_reads before text = dotted_reads (length text) before text before text [] (omega arith) (begun before text)

-- numbers with dots between them
abbrev ReadsNumbers : List ℕ → Option (List ℕ × List ℕ) → Type 0
ReadsNumbers text o = MatchOption o (HasNoNumbers text) (λ p. IsNumbersHead text p.0 p.1)

numbers_reads : (text : List ℕ) → ReadsNumbers text (numbers_at text)
numbers_reads text = go (number_at text) (number_reads text)
  where
    more : (k : ℕ) (rest : List ℕ) → IsNumberHead text k rest → (o : Option (List ℕ × List ℕ)) → ReadsDotted (k ∷ []) rest o → ReadsNumbers text o
    more k rest head None h = no_numbers_then text k rest head h
    more k rest head (Some p) h = all_numbers text k rest p.0 p.1 head h

    go : (o : Option (ℕ × List ℕ)) → ReadsNumber text o → ReadsNumbers text (and_then o (λ p. more_at (p.0 ∷ []) p.1))
    go None h = no_numbers_first text h
    go (Some p) h = more p.0 p.1 h (more_at (p.0 ∷ []) p.1) (more_reads (p.0 ∷ []) p.1)

-- a byte
abbrev ReadsByte : ℕ → List ℕ → Option (List ℕ) → Type 0
ReadsByte b text o = MatchOption o (BeginsWithout b text) (λ rest. text ≡ b ∷ rest)

byte_reads : (b : ℕ) (text : List ℕ) → ReadsByte b text (after_byte b text)
byte_reads b [] = λ rest e. cc
byte_reads b (c ∷ cs) = go (nat_eq c b) refl
  where
    go : (t : Bool) → nat_eq c b ≡ t → ReadsByte b (c ∷ cs) (cond t (Some cs) None)
    go true q = ap (λ d. d ∷ cs) (byte_true c b q)
    go false q = byte_false c b cs q

-- primes
abbrev IsMany : ℕ → Type 0
IsMany n = (4 ≤ n) × (n < 2 ^ 32)

abbrev many_text : ℕ → List ℕ
many_text n = codes "'" ++ decimal n ++ codes "'"

ends_prime : EndsNumber (codes "'")
ends_prime = λ d. omega (arith, d.0)

counted_reads : (text : List ℕ) → IsWhole IsMany many_text text (counted_primes text)
counted_reads text = at_byte (after_byte 39 text) (byte_reads 39 text)
  where
    begins : (cs : List ℕ) (n : ℕ) → text ≡ 39 ∷ cs → text ≡ many_text n → cs ≡ decimal n ++ codes "'"
    begins cs n e f = let same : ◌≡◌ {A = List ℕ} (39 ∷ cs) (39 ∷ (decimal n ++ codes "'")) = sym e ∙ f in cc

    count : (n : ℕ) → IsMany n → IsCount n
    count n is = let few = is.0 in (omega (arith, few), is.1)

    closed : (cs : List ℕ) (p : ℕ × List ℕ) → text ≡ 39 ∷ cs → IsNumberHead cs p.0 p.1 → (a b : Bool) → nat_le 4 p.0 ≡ a → is_text p.1 (39 ∷ []) ≡ b
        → IsWhole IsMany many_text text (cond (a && b) (Some p.0) None)
    closed cs p e head true true q r =
        ((leb-true 4 p.0 q, head.is.1), e ∙ ap (λ xs. 39 ∷ xs) (head.prints ∙ ap (λ xs. decimal p.0 ++ xs) (same_text p.1 (39 ∷ []) (sym r))))
    closed cs p e head true false q r = λ n is f. other_text p.1 (39 ∷ []) (sym r) (head.alone n (codes "'") (count n is) ends_prime (begins cs n e f)).1
    closed cs p e head false b q r = λ n is f.
        let same : p.0 ≡ n = (head.alone n (codes "'") (count n is) ends_prime (begins cs n e f)).0 in
        let few = is.0 in grind (arith, q, same, few)

    at_number : (cs : List ℕ) → text ≡ 39 ∷ cs → (o : Option (ℕ × List ℕ)) → ReadsNumber cs o → IsWhole IsMany many_text text (and_then o closed_by_prime)
    at_number cs e None h = λ n is f. h n (codes "'") (count n is) ends_prime (begins cs n e f)
    at_number cs e (Some p) h = closed cs p e h (nat_le 4 p.0) (is_text p.1 (39 ∷ [])) refl refl

    at_byte : (o : Option (List ℕ)) → ReadsByte 39 text o → IsWhole IsMany many_text text (and_then (and_then o number_at) closed_by_prime)
    at_byte None h = λ n is f. h (decimal n ++ codes "'") f
    at_byte (Some cs) h = at_number cs h (number_at cs) (number_reads cs)

abbrev ReadsPrimes : List ℕ → Option ℕ → Type 0
ReadsPrimes text o = IsWhole (λ n. n < 2 ^ 32) primes_text text o

primes_reads : (text : List ℕ) → ReadsPrimes text (primes_of text)
primes_reads text = go (nat_lt (length text) 4) (is_text text (take (length text) (39 ∷ 39 ∷ 39 ∷ []))) refl refl
  where
    go : (a b : Bool) → nat_lt (length text) 4 ≡ a → is_text text (take (length text) (39 ∷ 39 ∷ 39 ∷ [])) ≡ b → ReadsPrimes text (cond (a && b) (Some (length text)) (counted_primes text))
    go true true p q = read_few text (ltb-true (length text) 4 p) (same_text text (take (length text) (39 ∷ 39 ∷ 39 ∷ [])) (sym q))
    go true false p q = read_many text (λ f e. other_text text (take (length text) (39 ∷ 39 ∷ 39 ∷ [])) (sym q) e) (counted_primes text) (counted_reads text)
    go false b p q = read_many text (λ f e. let large = ltb-false (length text) 4 p in omega (arith, large, f)) (counted_primes text) (counted_reads text)

-- a front
abbrev ReadsFront : List ℕ → List ℕ → Option (List ℕ) → Type 0
ReadsFront front text o = MatchOption o (BeginsOtherwise front text) (λ rest. IsAfter front text rest)

front_reads : (front text : List ℕ) → map to_ascii_lowercase front ≡ front → ReadsFront front text (after front text)
front_reads front text low = go (is_text (map to_ascii_lowercase (take (length front) text)) front) refl
  where
    joined : text ≡ take (length front) text ++ drop (length front) text
    joined = sym (take-append-drop (length front) text)

    go : (b : Bool) → is_text (map to_ascii_lowercase (take (length front) text)) front ≡ b → ReadsFront front text (cond b (Some (drop (length front) text)) None)
    go true q = after_front front text (take (length front) text) (drop (length front) text) joined (same_text (map to_ascii_lowercase (take (length front) text)) front (sym q) ∙ sym low)
    go false q = by_length (nat_lt (length text) (length front)) refl
      where
        by_length : (b : Bool) → nat_lt (length text) (length front) ≡ b → BeginsOtherwise front text
        by_length true s = short_front front text (ltb-true (length text) (length front) s)
        by_length false s =
            not_after_front front text (take (length front) text) (drop (length front) text) joined (length-take-le (length front) text (ltb-false (length text) (length front) s))
            (λ e. other_text (map to_ascii_lowercase (take (length front) text)) front (sym q) (e ∙ low))

-- the names
root_reads : (rest : List ℕ) → IsReadingAfter (codes "goal") rest (root_by rest)
root_reads rest = go (primes_of rest) (primes_reads rest)
  where
    go : (o : Option ℕ) → ReadsPrimes rest o → IsReadingAfter (codes "goal") rest (and_then o (λ n. Some (record { induction = []; case = None; path = []; primes = n })))
    go None h = no_root rest h
    go (Some n) h = the_root rest n h

pushed_reads : (rest : List ℕ) → IsReadingAfter (codes "*") rest (pushed_by rest)
pushed_reads rest = go (numbers_at rest) (numbers_reads rest)
  where
    at : (ks more : List ℕ) → IsNumbersHead rest ks more → IsReadingAfter (codes "*") rest (pushed_at ks more)
    at ks [] head = the_pushed rest ks [] head refl
    at ks (c ∷ cs) head = no_pushed_end rest ks (c ∷ cs) head (λ e. cc)

    go : (o : Option (List ℕ × List ℕ)) → ReadsNumbers rest o → IsReadingAfter (codes "*") rest (and_then o (λ p. pushed_at p.0 p.1))
    go None h = no_pushed_numbers rest h
    go (Some p) h = at p.0 p.1 h

placed_reads : (rest : List ℕ) → BeginsWithout 42 rest → IsReadingAfter (codes "subgoal ") rest (placed_by rest)
placed_reads rest star = go (numbers_at rest) (numbers_reads rest)
  where
    primed : (p : List ℕ × List ℕ) → IsNumbersHead rest p.0 p.1 → (o : Option ℕ) → ReadsPrimes p.1 o
        → IsReadingAfter (codes "subgoal ") rest (and_then o (λ n. Some (record { induction = []; case = None; path = p.0; primes = n })))
    primed p head None h = no_placed_primes rest p.0 p.1 star head h
    primed p head (Some n) h = the_placed rest p.0 p.1 n head h

    go : (o : Option (List ℕ × List ℕ)) → ReadsNumbers rest o
        → IsReadingAfter (codes "subgoal ") rest (and_then o (λ p. and_then (primes_of p.1) (λ n. Some (record { induction = []; case = None; path = p.0; primes = n }))))
    go None h = no_placed_numbers rest star h
    go (Some p) h = primed p h (primes_of p.1) (primes_reads p.1)

case_reads : (rest : List ℕ) → IsReadingAfter (codes "subgoal *") rest (case_by rest)
case_reads rest = go (numbers_at rest) (numbers_reads rest)
  where
    primed : (p : List ℕ × List ℕ) (cased : List ℕ) (q : ℕ × List ℕ) (r : List ℕ × List ℕ) → IsNumbersHead rest p.0 p.1 → p.1 ≡ 47 ∷ cased → IsNumberHead cased q.0 q.1
        → AddsDotted [] q.1 r.0 r.1 → (o : Option ℕ) → ReadsPrimes r.1 o
        → IsReadingAfter (codes "subgoal *") rest (and_then o (λ n. Some (record { induction = p.0; case = Some q.0; path = r.0; primes = n })))
    primed p cased q r head slash number dots None h = no_case_primes rest p.0 p.1 cased q.0 q.1 r.0 r.1 head slash number dots h
    primed p cased q r head slash number dots (Some n) h = the_case rest p.0 p.1 cased q.0 q.1 r.0 r.1 n head slash number dots h

    dotted : (p : List ℕ × List ℕ) (cased : List ℕ) (q : ℕ × List ℕ) → IsNumbersHead rest p.0 p.1 → p.1 ≡ 47 ∷ cased → IsNumberHead cased q.0 q.1
        → (o : Option (List ℕ × List ℕ)) → ReadsDotted [] q.1 o
        → IsReadingAfter (codes "subgoal *") rest (and_then o (λ r. and_then (primes_of r.1) (λ n. Some (record { induction = p.0; case = Some q.0; path = r.0; primes = n }))))
    dotted p cased q head slash number None h = no_case_path rest p.0 p.1 cased q.0 q.1 head slash number h
    dotted p cased q head slash number (Some r) h = primed p cased q r head slash number h (primes_of r.1) (primes_reads r.1)

    numbered : (p : List ℕ × List ℕ) (cased : List ℕ) → IsNumbersHead rest p.0 p.1 → p.1 ≡ 47 ∷ cased → (o : Option (ℕ × List ℕ)) → ReadsNumber cased o
        → IsReadingAfter (codes "subgoal *") rest (and_then o (λ q. and_then (more_at [] q.1) (λ r. and_then (primes_of r.1) (λ n. Some (record { induction = p.0; case = Some q.0; path = r.0; primes = n })))))
    numbered p cased head slash None h = no_case_number rest p.0 p.1 cased head slash h
    numbered p cased head slash (Some q) h = dotted p cased q head slash h (more_at [] q.1) (more_reads [] q.1)

    slashed : (p : List ℕ × List ℕ) → IsNumbersHead rest p.0 p.1 → (o : Option (List ℕ)) → ReadsByte 47 p.1 o
        → IsReadingAfter (codes "subgoal *") rest (and_then o (λ cased. and_then (number_at cased) (λ q. and_then (more_at [] q.1) (λ r. and_then (primes_of r.1) (λ n. Some (record { induction = p.0; case = Some q.0; path = r.0; primes = n }))))))
    slashed p head None h = no_case_slash rest p.0 p.1 head h
    slashed p head (Some cased) h = numbered p cased head h (number_at cased) (number_reads cased)

    go : (o : Option (List ℕ × List ℕ)) → ReadsNumbers rest o
        → IsReadingAfter (codes "subgoal *") rest (and_then o (λ p. and_then (after_byte 47 p.1) (λ cased. and_then (number_at cased) (λ q. and_then (more_at [] q.1) (λ r. and_then (primes_of r.1) (λ n. Some (record { induction = p.0; case = Some q.0; path = r.0; primes = n })))))))
    go None h = no_case_numbers rest h
    go (Some p) h = slashed p h (after_byte 47 p.1) (byte_reads 47 p.1)

-- the star belongs to the front
star_front : (rest starred : List ℕ) → rest ≡ 42 ∷ starred → (o : Option Name) → IsReadingAfter (codes "subgoal *") starred o → IsReadingAfter (codes "subgoal ") rest o
star_front rest starred e o h text f = h text (f ∙ ap (λ xs. codes "subgoal " ++ map to_ascii_lowercase xs) e)

subgoal_reads : (rest : List ℕ) → IsReadingAfter (codes "subgoal ") rest (subgoal_by rest)
subgoal_reads rest = go (after_byte 42 rest) (byte_reads 42 rest)
  where
    go : (o : Option (List ℕ)) → ReadsByte 42 rest o → IsReadingAfter (codes "subgoal ") rest (by_star rest o)
    go None h = placed_reads rest h
    go (Some starred) h = star_front rest starred h (case_by starred) (case_reads starred)

pub name_reads : (text : List ℕ) → IsReading text (name_of text)
unfolding name_of
name_reads text =
    go (after (codes "*") text) (after (codes "subgoal ") text) (after (codes "goal") text) (front_reads (codes "*") text refl) (front_reads (codes "subgoal ") text refl) (front_reads (codes "goal") text refl)
  where
    go : (p s g : Option (List ℕ)) → ReadsFront (codes "*") text p → ReadsFront (codes "subgoal ") text s → ReadsFront (codes "goal") text g → IsReading text (by_fronts p s g)
    go (Some rest) s g a b c = pushed_reads rest text a
    go None (Some rest) g a b c = subgoal_reads rest text b
    go None None (Some rest) a b c = root_reads rest text c
    go None None None a b c = no_front text a b c
