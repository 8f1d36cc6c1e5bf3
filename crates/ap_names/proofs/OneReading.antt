-- No two names print as one text, the case of letters aside: where a number ends, and what stands
-- after it, can be read off the text.
use Rattle.std.proofs.Common.{◌≡◌, ℕ, Option, Some, None, zero, suc, Bool, true, false, nat_lt, if◌then◌else◌, length, lit<, ◌+◌, ◌%◌, ◌^◌, ◌<◌, List, [], ◌∷◌, ◌++◌, map, refl, sym, ap, ◌∙◌, arith, decimal, codes, replicate}
use mathlib.Core.List.{append_assoc}
use Rattle.std.proofs.lemmas.Bool.Decides.{nat_tests}
use Rattle.std.proofs.lemmas.Fmt.{decimal_by_steps, decimal_injective, decimal_nonempty}
use Rattle.std.specs.Char.{to_ascii_lowercase}
use Rattle.ap_list.specs.Lists.{Each}
use Rattle.ap_names.specs.Names.{Name, IsName, IsCount, IsPlaced}
use Rattle.ap_names.specs.Printed.{dotted, primes_text, place_text, induction_text, bare_text, name_text, IsReading}
use Rattle.ap_names.specs.Reads.{IsDigit, EndsNumber, EndsNumbers}

ends : (s : List ℕ) → EndsNumbers s → EndsNumber s
ends [] h = tt
ends (c ∷ cs) h = h.0

pub each-append : (P : ℕ → Type 0) (xs ys : List ℕ) → Each P xs → Each P ys → Each P (xs ++ ys)
each-append P [] ys p q = q
each-append P (x ∷ xs) ys p q = (p.0, each-append P xs ys p.1 q)

pub digits_decimal : (n : ℕ) → n < 2 ^ 64 → Each IsDigit (decimal n)
digits_decimal = decimal_by_steps (λ n ds. Each IsDigit ds) (λ n h. ((omega arith, omega arith), tt)) (λ n ds h p. each-append IsDigit ds ((48 + n % 10) ∷ []) p ((omega arith, omega arith), tt))

pub digits_apart : (ds es s t : List ℕ) → Each IsDigit ds → Each IsDigit es → EndsNumber s → EndsNumber t → ds ++ s ≡ es ++ t → (ds ≡ es) × (s ≡ t)
digits_apart [] [] s t p q u v h = (refl, h)
digits_apart [] (e ∷ es) [] t p q u v h = absurd (cc)
digits_apart [] (e ∷ es) (c ∷ s) t p q u v h = let same : e ≡ c = cc in let digit : IsDigit c = (omega (arith, q.0.0), omega (arith, q.0.1)) in absurd (u digit)
digits_apart (d ∷ ds) [] s [] p q u v h = absurd (cc)
digits_apart (d ∷ ds) [] s (c ∷ t) p q u v h = let same : d ≡ c = cc in let digit : IsDigit c = (omega (arith, p.0.0), omega (arith, p.0.1)) in absurd (v digit)
digits_apart (d ∷ ds) (e ∷ es) s t p q u v h =
    let same : d ≡ e = cc in
    let rest : ds ++ s ≡ es ++ t = cc in
    let more = digits_apart ds es s t p.1 q.1 u v rest in
    (let more0 : ds ≡ es = more.0 in cc, more.1)

number_apart : (a b : ℕ) (s t : List ℕ) → a < 2 ^ 32 → b < 2 ^ 32 → EndsNumber s → EndsNumber t → decimal a ++ s ≡ decimal b ++ t → (a ≡ b) × (s ≡ t)
number_apart a b s t p q u v h =
    let small_a : a < 2 ^ 64 = omega arith in
    let small_b : b < 2 ^ 64 = omega arith in
    let parts = digits_apart (decimal a) (decimal b) s t (digits_decimal a small_a) (digits_decimal b small_b) u v h in
    (decimal_injective a b small_a small_b parts.0, parts.1)

pub ends-dotted : (ks s : List ℕ) → EndsNumbers s → EndsNumber (dotted ks ++ s)
ends-dotted [] s u = ends s u
ends-dotted (k ∷ ks) s u = λ d. omega (arith, d.0)

pub dotted-cons : (k : ℕ) (ks s : List ℕ) → dotted (k ∷ ks) ++ s ≡ 46 ∷ (decimal k ++ (dotted ks ++ s))
dotted-cons k ks s = ap (λ xs. 46 ∷ xs) (append_assoc (decimal k) (dotted ks) s)

dotted_apart : (ks ls s t : List ℕ) → Each IsCount ks → Each IsCount ls → EndsNumbers s → EndsNumbers t → dotted ks ++ s ≡ dotted ls ++ t → (ks ≡ ls) × (s ≡ t)
dotted_apart [] [] s t p q u v h = (refl, h)
dotted_apart [] (l ∷ ls) [] t p q u v h = absurd (cc)
dotted_apart [] (l ∷ ls) (c ∷ s) t p q u v h =
    let e : (c ∷ s) ≡ 46 ∷ (decimal l ++ (dotted ls ++ t)) = h ∙ dotted-cons l ls t in
    let same : c ≡ 46 = cc in absurd (u.1 same)
dotted_apart (k ∷ ks) [] s [] p q u v h = absurd (cc)
dotted_apart (k ∷ ks) [] s (c ∷ t) p q u v h =
    let e : (c ∷ t) ≡ 46 ∷ (decimal k ++ (dotted ks ++ s)) = sym h ∙ dotted-cons k ks s in
    let same : c ≡ 46 = cc in absurd (v.1 same)
dotted_apart (k ∷ ks) (l ∷ ls) s t p q u v h =
    let e : ◌≡◌ {A = List ℕ} (46 ∷ (decimal k ++ (dotted ks ++ s))) (46 ∷ (decimal l ++ (dotted ls ++ t))) =
    sym (dotted-cons k ks s) ∙ h ∙ dotted-cons l ls t in
    let rest : decimal k ++ (dotted ks ++ s) ≡ decimal l ++ (dotted ls ++ t) = cc in
    let first = number_apart k l (dotted ks ++ s) (dotted ls ++ t) p.0.1 q.0.1 (ends-dotted ks s u) (ends-dotted ls t v) rest in
    let more = dotted_apart ks ls s t p.1 q.1 u v first.1 in
    let same : k ≡ l = first.0 in
    let same_rest : ks ≡ ls = more.0 in
    (cc, more.1)

-- numbers with dots between them
numbers_apart : (k l : ℕ) (ks ls s t : List ℕ) → Each IsCount (k ∷ ks) → Each IsCount (l ∷ ls) → EndsNumbers s → EndsNumbers t
    → decimal k ++ (dotted ks ++ s) ≡ decimal l ++ (dotted ls ++ t) → (k ≡ l) × ((ks ≡ ls) × (s ≡ t))
numbers_apart k l ks ls s t p q u v h =
    let first = number_apart k l (dotted ks ++ s) (dotted ls ++ t) p.0.1 q.0.1 (ends-dotted ks s u) (ends-dotted ls t v) h in
    (first.0, dotted_apart ks ls s t p.1 q.1 u v first.1)

replicate_apart : (m n : ℕ) → replicate {A = ℕ} m 39 ≡ replicate n 39 → m ≡ n
replicate_apart zero zero h = refl
replicate_apart zero (suc n) h = absurd (cc)
replicate_apart (suc m) zero h = absurd (cc)
replicate_apart (suc m) (suc n) h = let rest : replicate {A = ℕ} m 39 ≡ replicate n 39 = cc in ap suc (replicate_apart m n rest)

-- primes aren't a number between primes
not_counted : (m n : ℕ) (xs : List ℕ) → n < 2 ^ 32 → replicate m 39 ≡ 39 ∷ (decimal n ++ 39 ∷ xs) → ⊥
not_counted zero n xs h e = cc
not_counted (suc m) n xs h e =
    let rest : replicate m 39 ≡ decimal n ++ 39 ∷ xs = cc in
    after (decimal n) m (digits_decimal n (omega arith)) (decimal_nonempty n (omega arith)) rest
  where
    after : (ds : List ℕ) (m : ℕ) → Each IsDigit ds → 0 < length ds → replicate m 39 ≡ ds ++ 39 ∷ xs → ⊥
    after [] m p q r = omega arith
    after (d ∷ ds) zero p q r = cc
    after (d ∷ ds) (suc m) p q r = let same : 39 ≡ d = cc in omega (arith, p.0.0)

primes_apart : (m n : ℕ) → m < 2 ^ 32 → n < 2 ^ 32 → primes_text m ≡ primes_text n → m ≡ n
unfolding primes_text
primes_apart m n p q h = by (nat_lt m 4) (nat_lt n 4) h
  where
    counted : (k : ℕ) → codes "'" ++ decimal k ++ codes "'" ≡ 39 ∷ (decimal k ++ 39 ∷ [])
    counted k = refl

    by : (a b : Bool) → (if a then replicate m 39 else codes "'" ++ decimal m ++ codes "'") ≡ (if b then replicate n 39 else codes "'" ++ decimal n ++ codes "'") → m ≡ n
    by true true e = replicate_apart m n e
    by true false e = absurd (not_counted m n [] q (e ∙ counted n))
    by false true e = absurd (not_counted n m [] p (sym e ∙ counted m))
    by false false e =
        let both : ◌≡◌ {A = List ℕ} (39 ∷ (decimal m ++ 39 ∷ [])) (39 ∷ (decimal n ++ 39 ∷ [])) = sym (counted m) ∙ e ∙ counted n in
        let rest : decimal m ++ 39 ∷ [] ≡ decimal n ++ 39 ∷ [] = cc in
        (number_apart m n (39 ∷ []) (39 ∷ []) p q (λ d. omega (arith, d.0)) (λ d. omega (arith, d.0)) rest).0

-- the bytes below the letters keep their case
pub lowered_uncased : (xs : List ℕ) → Each (λ c. c < 65) xs → map to_ascii_lowercase xs ≡ xs
lowered_uncased [] p = refl
lowered_uncased (x ∷ xs) p =
    let same : to_ascii_lowercase x ≡ x = grind (arith, nat_tests, p.0) in
    let rest = lowered_uncased xs p.1 in
    cc

each-weaken : (P Q : ℕ → Type 0) → ((c : ℕ) → P c → Q c) → (xs : List ℕ) → Each P xs → Each Q xs
each-weaken P Q f [] p = tt
each-weaken P Q f (x ∷ xs) p = (f x p.0, each-weaken P Q f xs p.1)

abbrev pub IsUncased : ℕ → Type 0
IsUncased c = c < 65

uncased_decimal : (n : ℕ) → n < 2 ^ 32 → Each IsUncased (decimal n)
uncased_decimal n h = each-weaken IsDigit IsUncased (λ c p. omega (arith, p.1)) (decimal n) (digits_decimal n (omega arith))

uncased_dotted : (ks : List ℕ) → Each IsCount ks → Each IsUncased (dotted ks)
uncased_dotted [] p = tt
uncased_dotted (k ∷ ks) p = (lit< tt, each-append IsUncased (decimal k) (dotted ks) (uncased_decimal k p.0.1) (uncased_dotted ks p.1))

uncased_replicate : (n : ℕ) → Each IsUncased (replicate n 39)
uncased_replicate zero = tt
uncased_replicate (suc n) = (lit< tt, uncased_replicate n)

pub uncased_primes : (n : ℕ) → n < 2 ^ 32 → Each IsUncased (primes_text n)
unfolding primes_text
uncased_primes n h = by (nat_lt n 4)
  where
    by : (b : Bool) → Each IsUncased (if b then replicate n 39 else codes "'" ++ decimal n ++ codes "'")
    by true = uncased_replicate n
    by false = (lit< tt, each-append IsUncased (decimal n) (39 ∷ []) (uncased_decimal n h) (lit< tt, tt))

pub ends_primes : (n : ℕ) → EndsNumbers (primes_text n)
unfolding primes_text
ends_primes n = by (nat_lt n 4) n
  where
    by : (b : Bool) (m : ℕ) → EndsNumbers (if b then replicate m 39 else codes "'" ++ decimal n ++ codes "'")
    by true zero = tt
    by true (suc m) = ((λ d. omega (arith, d.0)), λ h. omega arith)
    by false m = ((λ d. omega (arith, d.0)), λ h. omega arith)

-- a name's text in lower case, before what the primes print
abbrev pub low_text : List ℕ → Option ℕ → List ℕ → List ℕ → List ℕ
low_text [] case [] ps = codes "goal" ++ ps
low_text [] case (k ∷ ks) ps = codes "subgoal " ++ (decimal k ++ (dotted ks ++ ps))
low_text (i ∷ is) None path ps = codes "*" ++ (decimal i ++ (dotted is ++ ps))
low_text (i ∷ is) (Some c) path ps =
    codes "subgoal *" ++ (decimal i ++ (dotted is ++ (47 ∷ (decimal c ++ (dotted path ++ ps)))))

pub uncased_numbers : (k : ℕ) (ks xs : List ℕ) → Each IsCount (k ∷ ks) → Each IsUncased xs → Each IsUncased (decimal k ++ (dotted ks ++ xs))
uncased_numbers k ks xs p q =
    each-append IsUncased (decimal k) (dotted ks ++ xs) (uncased_decimal k p.0.1) (each-append IsUncased (dotted ks) xs (uncased_dotted ks p.1) q)

low-text : (is : List ℕ) (case : Option ℕ) (path : List ℕ) (n : ℕ) (ps : List ℕ) → Each IsCount is → Each IsCount path → IsPlaced is case path n → Each IsUncased ps
    → map to_ascii_lowercase (bare_text is case path ++ ps) ≡ low_text is case path ps
unfolding place_text induction_text
low-text [] case [] n ps p q r u = ap (λ xs. codes "goal" ++ xs) (lowered_uncased ps u)
low-text [] case (k ∷ ks) n ps p q r u =
    ap (λ xs. codes "subgoal " ++ map to_ascii_lowercase xs) (append_assoc (decimal k) (dotted ks) ps)
    ∙ ap (λ xs. codes "subgoal " ++ xs) (lowered_uncased (decimal k ++ (dotted ks ++ ps)) (uncased_numbers k ks ps q u))
low-text (i ∷ is) None path n ps p q r u =
    ap (λ xs. codes "*" ++ map to_ascii_lowercase xs) (append_assoc (decimal i) (dotted is) ps)
    ∙ ap (λ xs. codes "*" ++ xs) (lowered_uncased (decimal i ++ (dotted is ++ ps)) (uncased_numbers i is ps p u))
low-text (i ∷ is) (Some c) path n ps p q r u =
    let tail = 47 ∷ (decimal c ++ (dotted path ++ ps)) in
    let regroup : (decimal i ++ dotted is ++ 47 ∷ [] ++ decimal c ++ dotted path) ++ ps ≡ decimal i ++ (dotted is ++ tail) = simp append_assoc in
    ap (λ xs. codes "subgoal *" ++ map to_ascii_lowercase xs) regroup
    ∙ ap (λ xs. codes "subgoal *" ++ xs)
    (lowered_uncased (decimal i ++ (dotted is ++ tail)) (uncased_numbers i is tail p (lit< tt, uncased_numbers c path ps (r, q) u)))

-- a number doesn't begin with a star
pub no_star : (k : ℕ) (xs ys : List ℕ) → k < 2 ^ 32 → decimal k ++ xs ≡ 42 ∷ ys → ⊥
no_star k xs ys h = begins (decimal k) (digits_decimal k (omega arith)) (decimal_nonempty k (omega arith))
  where
    begins : (ds : List ℕ) → Each IsDigit ds → 0 < length ds → ds ++ xs ≡ 42 ∷ ys → ⊥
    begins [] p q e = omega arith
    begins (d ∷ ds) p q e = let same : d ≡ 42 = cc in omega (arith, p.0.0)

-- texts whose first bytes differ
pub differ : (a b : ℕ) {xs ys : List ℕ} → (a ≡ b → ⊥) → a ∷ xs ≡ b ∷ ys → ⊥
differ a b ne h = let same : a ≡ b = cc in ne same

-- the parts of two names
abbrev SameParts : List ℕ → Option ℕ → List ℕ → ℕ → List ℕ → Option ℕ → List ℕ → ℕ → Type 0
SameParts is c path p js d route r = (is ≡ js) × ((c ≡ d) × ((path ≡ route) × (p ≡ r)))

parts_apart : (is : List ℕ) (c : Option ℕ) (path : List ℕ) (p : ℕ) (js : List ℕ) (d : Option ℕ) (route : List ℕ) (r : ℕ)
    → Each IsCount is → Each IsCount path → IsPlaced is c path p → p < 2 ^ 32
    → Each IsCount js → Each IsCount route → IsPlaced js d route r → r < 2 ^ 32
    → low_text is c path (primes_text p) ≡ low_text js d route (primes_text r) → SameParts is c path p js d route r
parts_apart [] (Some c) path p js d route r ki kp k kb li lp l lb h = absurd k
parts_apart [] None path p [] (Some d) route r ki kp k kb li lp l lb h = absurd l
parts_apart [] None [] p [] None [] r ki kp k kb li lp l lb h =
    let rest : primes_text p ≡ primes_text r = cc in (refl, (refl, (refl, primes_apart p r kb lb rest)))
parts_apart [] None [] p [] None (t ∷ ts) r ki kp k kb li lp l lb h = absurd (differ 103 115 (λ e. omega arith) h)
parts_apart [] None [] p (j ∷ js) None route r ki kp k kb li lp l lb h = absurd (differ 103 42 (λ e. omega arith) h)
parts_apart [] None [] p (j ∷ js) (Some d) route r ki kp k kb li lp l lb h = absurd (differ 103 115 (λ e. omega arith) h)
parts_apart [] None (s ∷ ss) p [] None [] r ki kp k kb li lp l lb h = absurd (differ 115 103 (λ e. omega arith) h)
parts_apart [] None (s ∷ ss) p [] None (t ∷ ts) r ki kp k kb li lp l lb h =
    let rest : decimal s ++ (dotted ss ++ primes_text p) ≡ decimal t ++ (dotted ts ++ primes_text r) = cc in
    let parts = numbers_apart s t ss ts (primes_text p) (primes_text r) kp lp (ends_primes p) (ends_primes r) rest in
    let first : s ≡ t = parts.0 in
    let more : ss ≡ ts = parts.1.0 in
    (refl, (refl, (cc, primes_apart p r kb lb parts.1.1)))
parts_apart [] None (s ∷ ss) p (j ∷ js) None route r ki kp k kb li lp l lb h = absurd (differ 115 42 (λ e. omega arith) h)
parts_apart [] None (s ∷ ss) p (j ∷ js) (Some d) route r ki kp k kb li lp l lb h =
    let rest : decimal s ++ (dotted ss ++ primes_text p) ≡ 42 ∷ (decimal j ++ (dotted js ++ (47 ∷ (decimal d ++ (dotted route ++ primes_text r))))) = cc in
    absurd (no_star s (dotted ss ++ primes_text p) (decimal j ++ (dotted js ++ (47 ∷ (decimal d ++ (dotted route ++ primes_text r))))) kp.0.1 rest)
parts_apart (i ∷ is) None path p [] (Some d) route r ki kp k kb li lp l lb h = absurd l
parts_apart (i ∷ is) None path p [] None [] r ki kp k kb li lp l lb h = absurd (differ 42 103 (λ e. omega arith) h)
parts_apart (i ∷ is) None path p [] None (t ∷ ts) r ki kp k kb li lp l lb h = absurd (differ 42 115 (λ e. omega arith) h)
parts_apart (i ∷ is) None path p (j ∷ js) None route r ki kp k kb li lp l lb h =
    let rest : decimal i ++ (dotted is ++ primes_text p) ≡ decimal j ++ (dotted js ++ primes_text r) = cc in
    let parts = numbers_apart i j is js (primes_text p) (primes_text r) ki li (ends_primes p) (ends_primes r) rest in
    let first : i ≡ j = parts.0 in
    let more : is ≡ js = parts.1.0 in
    (cc, (refl, (k.0 ∙ sym l.0, k.1 ∙ sym l.1)))
parts_apart (i ∷ is) None path p (j ∷ js) (Some d) route r ki kp k kb li lp l lb h = absurd (differ 42 115 (λ e. omega arith) h)
parts_apart (i ∷ is) (Some c) path p [] (Some d) route r ki kp k kb li lp l lb h = absurd l
parts_apart (i ∷ is) (Some c) path p [] None [] r ki kp k kb li lp l lb h = absurd (differ 115 103 (λ e. omega arith) h)
parts_apart (i ∷ is) (Some c) path p [] None (t ∷ ts) r ki kp k kb li lp l lb h =
    let rest : decimal t ++ (dotted ts ++ primes_text r) ≡ 42 ∷ (decimal i ++ (dotted is ++ (47 ∷ (decimal c ++ (dotted path ++ primes_text p))))) = cc in
    absurd (no_star t (dotted ts ++ primes_text r) (decimal i ++ (dotted is ++ (47 ∷ (decimal c ++ (dotted path ++ primes_text p))))) lp.0.1 rest)
parts_apart (i ∷ is) (Some c) path p (j ∷ js) None route r ki kp k kb li lp l lb h = absurd (differ 115 42 (λ e. omega arith) h)
parts_apart (i ∷ is) (Some c) path p (j ∷ js) (Some d) route r ki kp k kb li lp l lb h =
    let tail : List ℕ = 47 ∷ (decimal c ++ (dotted path ++ primes_text p)) in
    let tail' : List ℕ = 47 ∷ (decimal d ++ (dotted route ++ primes_text r)) in
    let rest : decimal i ++ (dotted is ++ tail) ≡ decimal j ++ (dotted js ++ tail') = cc in
    let parts = numbers_apart i j is js tail tail' ki li ((λ d. omega (arith, d.0)), λ e. omega arith) ((λ d. omega (arith, d.0)), λ e. omega arith) rest in
    let first : i ≡ j = parts.0 in
    let more : is ≡ js = parts.1.0 in
    let tails : tail ≡ tail' = parts.1.1 in
    let under : decimal c ++ (dotted path ++ primes_text p) ≡ decimal d ++ (dotted route ++ primes_text r) = cc in
    let lower = numbers_apart c d path route (primes_text p) (primes_text r) (k, kp) (l, lp) (ends_primes p) (ends_primes r) under in
    let cases : c ≡ d = lower.0 in
    (cc, (cc, (lower.1.0, primes_apart p r kb lb lower.1.1)))

name_same : (m n : Name) → SameParts m.induction m.case m.path m.primes n.induction n.case n.path n.primes → m ≡ n
name_same m n e = λ x. record { induction = e.0 x; case = e.1.0 x; path = e.1.1.0 x; primes = e.1.1.1 x }

pub name_lowered : (m : Name) → IsName m → map to_ascii_lowercase (name_text m) ≡ low_text m.induction m.case m.path (primes_text m.primes)
name_lowered m h = low-text m.induction m.case m.path m.primes (primes_text m.primes) h.induction h.path h.placed (uncased_primes m.primes h.primes)

pub one_reading : (m n : Name) → IsName m → IsName n → map to_ascii_lowercase (name_text m) ≡ map to_ascii_lowercase (name_text n) → m ≡ n
one_reading m n h k e =
    name_same m n (parts_apart m.induction m.case m.path m.primes n.induction n.case n.path n.primes
    h.induction h.path h.placed h.primes k.induction k.path k.placed k.primes
    (sym (name_lowered m h) ∙ e ∙ name_lowered n k))

pub reading_same : (text : List ℕ) (a b : Option Name) → IsReading text a → IsReading text b → a ≡ b
reading_same text None None p q = refl
reading_same text None (Some n) p q = absurd (p n q.0 q.1)
reading_same text (Some m) None p q = absurd (q m p.0 p.1)
reading_same text (Some m) (Some n) p q = ap Some (one_reading m n p.0 q.0 (p.1 ∙ sym q.1))
