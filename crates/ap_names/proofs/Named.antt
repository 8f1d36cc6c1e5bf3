-- What a text is read as, by its front and by the parts after it.
use Rattle.std.proofs.Common.{◌≡◌, ◌==◌, true, false, ℕ, Option, Some, None, length, take, drop, lit<, ◌^◌, ◌<◌, ◌+◌, List, [], ◌∷◌, ◌++◌, map, refl, sym, ap, ◌∙◌, arith, decimal, codes}
use mathlib.Core.List.{append_assoc}
use Rattle.std.proofs.lemmas.Bool.{eqb-true}
use Rattle.std.proofs.lemmas.Bool.Decides.{nat_tests}
use Rattle.std.proofs.lemmas.List.{map-append, length-map, length-append, take-append-drop}
use Rattle.std.specs.Char.{to_ascii_lowercase}
use Rattle.ap_list.specs.Lists.{Each}
use Rattle.ap_names.specs.Names.{Name, IsName, IsCount, IsPlaced}
use Rattle.ap_names.specs.Printed.{dotted, primes_text, PrintsAs, IsReading}
use Rattle.ap_names.specs.Reads.{IsNumbers, numbered, IsWhole, IsNumberHead, HasNoNumber, IsNumbersHead, HasNoNumbers, AddsDotted, HasNoDotted, BeginsWithout, IsAfter, BeginsOtherwise, IsReadingAfter}
use Rattle.ap_names.proofs.OneReading.{IsUncased, ends-dotted, lowered_uncased, uncased_numbers, uncased_primes, ends_primes, low_text, name_lowered, no_star, differ}

-- the parts of a split joined
pub joined_split : (n : ℕ) (text head rest : List ℕ) → head ≡ take n text → rest ≡ drop n text → text ≡ head ++ rest
joined_split n text head rest h r = let whole : take n text ++ drop n text ≡ text = take-append-drop n text in cc

pub after_front : (front text head rest : List ℕ) → text ≡ head ++ rest → map to_ascii_lowercase head ≡ map to_ascii_lowercase front → IsAfter front text rest
after_front front text head rest e h =
    ap (map to_ascii_lowercase) e ∙ map-append to_ascii_lowercase head rest ∙ ap (λ xs. xs ++ map to_ascii_lowercase rest) h

same_front : (xs ys s t : List ℕ) → length xs ≡ length ys → xs ++ s ≡ ys ++ t → xs ≡ ys
same_front [] [] s t n e = refl
same_front [] (y ∷ ys) s t n e = absurd (omega arith)
same_front (x ∷ xs) [] s t n e = absurd (omega arith)
same_front (x ∷ xs) (y ∷ ys) s t n e =
    let same : x ≡ y = cc in
    let rest : xs ++ s ≡ ys ++ t = cc in
    let more = same_front xs ys s t (omega arith) rest in cc

-- where a text's head differs, no text begins it
pub not_after_front : (front text head rest : List ℕ) → text ≡ head ++ rest → length head ≡ length front → ¬ (map to_ascii_lowercase head ≡ map to_ascii_lowercase front) → BeginsOtherwise front text
not_after_front front text head rest e n h t f =
    h (same_front (map to_ascii_lowercase head) (map to_ascii_lowercase front) (map to_ascii_lowercase rest) t
    (length-map head to_ascii_lowercase ∙ n ∙ sym (length-map front to_ascii_lowercase))
    (sym (ap (map to_ascii_lowercase) e ∙ map-append to_ascii_lowercase head rest) ∙ f))

pub short_front : (front text : List ℕ) → length text < length front → BeginsOtherwise front text
short_front front text n t f =
    let a : length (map to_ascii_lowercase text) ≡ length text = length-map text to_ascii_lowercase in
    let b : length (map to_ascii_lowercase front) ≡ length front = length-map front to_ascii_lowercase in
    let c : length (map to_ascii_lowercase front ++ t) ≡ length (map to_ascii_lowercase front) + length t = length-append (map to_ascii_lowercase front) t in
    let d : length (map to_ascii_lowercase text) ≡ length (map to_ascii_lowercase front ++ t) = ap length f in
    omega (arith, a, b, c, d, n)

-- a text whose lower case is below the letters is that text
raised : (ps rest : List ℕ) → Each IsUncased ps → ps ≡ map to_ascii_lowercase rest → rest ≡ ps
raised [] [] u e = refl
raised [] (x ∷ xs) u e = absurd (cc)
raised (p ∷ ps) [] u e = absurd (cc)
raised (p ∷ ps) (x ∷ xs) u e =
    let low : to_ascii_lowercase x ≡ p = cc in
    let small : to_ascii_lowercase x < 65 = omega (arith, u.0, low) in
    let same : to_ascii_lowercase x ≡ x = grind (arith, nat_tests, small) in
    let more = raised ps xs u.1 (let tails : ps ≡ map to_ascii_lowercase xs = cc in tails) in cc

low_same : (ps rest : List ℕ) → Each IsUncased ps → rest ≡ ps → ps ≡ map to_ascii_lowercase rest
low_same ps rest u e = sym (lowered_uncased ps u) ∙ ap (map to_ascii_lowercase) (sym e)

uncased_case : (i c : ℕ) (is path : List ℕ) (p : ℕ) → Each IsCount (i ∷ is) → IsCount c → Each IsCount path → p < 2 ^ 32
    → Each IsUncased (decimal i ++ (dotted is ++ (47 ∷ (decimal c ++ (dotted path ++ primes_text p)))))
uncased_case i c is path p ki k kp b =
    uncased_numbers i is (47 ∷ (decimal c ++ (dotted path ++ primes_text p))) ki (lit< tt, uncased_numbers c path (primes_text p) (k, kp) (uncased_primes p b))

-- what a name in lower case that begins with a front has after it
after_goal : (is : List ℕ) (c : Option ℕ) (path : List ℕ) (p : ℕ) (rest : List ℕ) → IsPlaced is c path p → p < 2 ^ 32
    → low_text is c path (primes_text p) ≡ codes "goal" ++ map to_ascii_lowercase rest → rest ≡ primes_text p
after_goal [] (Some c) path p rest k b h = absurd k
after_goal [] None [] p rest k b h =
    let low : primes_text p ≡ map to_ascii_lowercase rest = cc in raised (primes_text p) rest (uncased_primes p b) low
after_goal [] None (s ∷ ss) p rest k b h = absurd (differ 115 103 (λ e. omega arith) h)
after_goal (i ∷ is) None path p rest k b h = absurd (differ 42 103 (λ e. omega arith) h)
after_goal (i ∷ is) (Some c) path p rest k b h = absurd (differ 115 103 (λ e. omega arith) h)

after_star : (is : List ℕ) (c : Option ℕ) (path : List ℕ) (p : ℕ) (rest : List ℕ) → Each IsCount is → IsPlaced is c path p
    → low_text is c path (primes_text p) ≡ codes "*" ++ map to_ascii_lowercase rest → IsNumbers is × (rest ≡ numbered is ++ [])
unfolding primes_text
after_star [] (Some c) path p rest ki k h = absurd k
after_star [] None [] p rest ki k h = absurd (differ 103 42 (λ e. omega arith) h)
after_star [] None (s ∷ ss) p rest ki k h = absurd (differ 115 42 (λ e. omega arith) h)
after_star (i ∷ is) None path p rest ki k h =
    let low : decimal i ++ (dotted is ++ primes_text p) ≡ map to_ascii_lowercase rest = cc in
    let bare : decimal i ++ (dotted is ++ []) ≡ map to_ascii_lowercase rest = ap (λ n. decimal i ++ (dotted is ++ primes_text n)) (sym k.1) ∙ low in
    (ki, raised (decimal i ++ (dotted is ++ [])) rest (uncased_numbers i is [] ki tt) bare ∙ sym (append_assoc (decimal i) (dotted is) []))
after_star (i ∷ is) (Some c) path p rest ki k h = absurd (differ 115 42 (λ e. omega arith) h)

after_blank : (is : List ℕ) (c : Option ℕ) (path : List ℕ) (p : ℕ) (rest : List ℕ) → Each IsCount is → Each IsCount path → IsPlaced is c path p → p < 2 ^ 32
    → BeginsWithout 42 rest → low_text is c path (primes_text p) ≡ codes "subgoal " ++ map to_ascii_lowercase rest → IsNumbers path × (rest ≡ numbered path ++ primes_text p)
after_blank [] (Some c) path p rest ki kp k b star h = absurd k
after_blank [] None [] p rest ki kp k b star h = absurd (differ 103 115 (λ e. omega arith) h)
after_blank [] None (s ∷ ss) p rest ki kp k b star h =
    let low : decimal s ++ (dotted ss ++ primes_text p) ≡ map to_ascii_lowercase rest = cc in (
      kp,
      raised (decimal s ++ (dotted ss ++ primes_text p)) rest (uncased_numbers s ss (primes_text p) kp (uncased_primes p b)) low
          ∙ sym (append_assoc (decimal s) (dotted ss) (primes_text p)),
    )
after_blank (i ∷ is) None path p rest ki kp k b star h = absurd (differ 42 115 (λ e. omega arith) h)
after_blank (i ∷ is) (Some c) path p rest ki kp k b star h =
    let tail : List ℕ = decimal i ++ (dotted is ++ (47 ∷ (decimal c ++ (dotted path ++ primes_text p)))) in
    let low : ◌≡◌ {A = List ℕ} (42 ∷ tail) (map to_ascii_lowercase rest) = cc in
    absurd (star tail (raised (42 ∷ tail) rest (lit< tt, uncased_case i c is path p ki k kp b) low))

-- the goal at the parts of a case's text
after_case : (is : List ℕ) (c : Option ℕ) (path : List ℕ) (p : ℕ) (rest : List ℕ) → Each IsCount is → Each IsCount path → IsPlaced is c path p → p < 2 ^ 32
    → low_text is c path (primes_text p) ≡ codes "subgoal *" ++ map to_ascii_lowercase rest
    → (k : ℕ) × (IsNumbers is × (IsCount k × (rest ≡ numbered is ++ (47 ∷ (decimal k ++ (dotted path ++ primes_text p))))))
after_case [] (Some c) path p rest ki kp k b h = absurd k
after_case [] None [] p rest ki kp k b h = absurd (differ 103 115 (λ e. omega arith) h)
after_case [] None (s ∷ ss) p rest ki kp k b h =
    let low : decimal s ++ (dotted ss ++ primes_text p) ≡ 42 ∷ map to_ascii_lowercase rest = cc in
    absurd (no_star s (dotted ss ++ primes_text p) (map to_ascii_lowercase rest) kp.0.1 low)
after_case (i ∷ is) None path p rest ki kp k b h = absurd (differ 42 115 (λ e. omega arith) h)
after_case (i ∷ is) (Some c) path p rest ki kp k b h =
    let tail : List ℕ = 47 ∷ (decimal c ++ (dotted path ++ primes_text p)) in
    let low : decimal i ++ (dotted is ++ tail) ≡ map to_ascii_lowercase rest = cc in
    (c, (ki, (k, raised (decimal i ++ (dotted is ++ tail)) rest (uncased_case i c is path p ki k kp b) low ∙ sym (append_assoc (decimal i) (dotted is) tail))))

-- the lower case of a name that prints as a text
lowered_as : (front rest text : List ℕ) → map to_ascii_lowercase text ≡ front ++ map to_ascii_lowercase rest → (n : Name) → IsName n → PrintsAs n text
    → low_text n.induction n.case n.path (primes_text n.primes) ≡ front ++ map to_ascii_lowercase rest
lowered_as front rest text e n is p = sym (name_lowered n is) ∙ p ∙ e

-- the root
pub no_root : (rest : List ℕ) → IsWhole (λ n. n < 2 ^ 32) primes_text rest None → IsReadingAfter (codes "goal") rest None
no_root rest h text e n is p =
    h n.primes is.primes (after_goal n.induction n.case n.path n.primes rest is.placed is.primes (lowered_as (codes "goal") rest text e n is p))

pub the_root : (rest : List ℕ) (p : ℕ) → IsWhole (λ n. n < 2 ^ 32) primes_text rest (Some p)
    → IsReadingAfter (codes "goal") rest (Some (record { induction = []; case = None; path = []; primes = p }))
the_root rest p h text e =
    let name : Name = record { induction = []; case = None; path = []; primes = p } in
    let is : IsName name = record { induction = tt; path = tt; primes = h.0; placed = tt } in
    (is, name_lowered name is ∙ ap (λ xs. codes "goal" ++ xs) (low_same (primes_text p) rest (uncased_primes p h.0) h.1) ∙ sym e)

-- a pushed goal
pub no_pushed_numbers : (rest : List ℕ) → HasNoNumbers rest → IsReadingAfter (codes "*") rest None
no_pushed_numbers rest h text e n is p =
    let parts = after_star n.induction n.case n.path n.primes rest is.induction is.placed (lowered_as (codes "*") rest text e n is p) in
    h n.induction [] parts.0 tt parts.1

pub no_pushed_end : (rest numbers more : List ℕ) → IsNumbersHead rest numbers more → ¬ (more ≡ []) → IsReadingAfter (codes "*") rest None
no_pushed_end rest numbers more head h text e n is p =
    let parts = after_star n.induction n.case n.path n.primes rest is.induction is.placed (lowered_as (codes "*") rest text e n is p) in
    h (head.alone n.induction [] parts.0 tt parts.1).1

pub the_pushed : (rest numbers more : List ℕ) → IsNumbersHead rest numbers more → more ≡ []
    → IsReadingAfter (codes "*") rest (Some (record { induction = numbers; case = None; path = []; primes = 0 }))
unfolding primes_text
the_pushed rest [] more head h text e = absurd head.is
the_pushed rest (i ∷ is) more head h text e =
    let name : Name = record { induction = i ∷ is; case = None; path = []; primes = 0 } in
    let named : IsName name = record { induction = head.is; path = tt; primes = lit< tt; placed = (refl, refl) } in
    let whole : rest ≡ decimal i ++ (dotted is ++ []) = head.prints ∙ ap (λ xs. (decimal i ++ dotted is) ++ xs) h ∙ append_assoc (decimal i) (dotted is) [] in
    (named, name_lowered name named ∙ ap (λ xs. codes "*" ++ xs) (low_same (decimal i ++ (dotted is ++ [])) rest (uncased_numbers i is [] head.is tt) whole) ∙ sym e)

-- a subgoal under no induction
pub no_placed_numbers : (rest : List ℕ) → BeginsWithout 42 rest → HasNoNumbers rest → IsReadingAfter (codes "subgoal ") rest None
no_placed_numbers rest star h text e n is p =
    let parts = after_blank n.induction n.case n.path n.primes rest is.induction is.path is.placed is.primes star (lowered_as (codes "subgoal ") rest text e n is p) in
    h n.path (primes_text n.primes) parts.0 (ends_primes n.primes) parts.1

pub no_placed_primes : (rest path more : List ℕ) → BeginsWithout 42 rest → IsNumbersHead rest path more → IsWhole (λ n. n < 2 ^ 32) primes_text more None
    → IsReadingAfter (codes "subgoal ") rest None
no_placed_primes rest path more star head h text e n is p =
    let parts = after_blank n.induction n.case n.path n.primes rest is.induction is.path is.placed is.primes star (lowered_as (codes "subgoal ") rest text e n is p) in
    h n.primes is.primes (head.alone n.path (primes_text n.primes) parts.0 (ends_primes n.primes) parts.1).1

pub the_placed : (rest path more : List ℕ) (p : ℕ) → IsNumbersHead rest path more → IsWhole (λ n. n < 2 ^ 32) primes_text more (Some p)
    → IsReadingAfter (codes "subgoal ") rest (Some (record { induction = []; case = None; path = path; primes = p }))
the_placed rest [] more p head h text e = absurd head.is
the_placed rest (k ∷ ks) more p head h text e =
    let name : Name = record { induction = []; case = None; path = k ∷ ks; primes = p } in
    let named : IsName name = record { induction = tt; path = head.is; primes = h.0; placed = tt } in
    let tail : List ℕ = decimal k ++ (dotted ks ++ primes_text p) in
    let whole : rest ≡ tail = head.prints ∙ ap (λ xs. (decimal k ++ dotted ks) ++ xs) h.1 ∙ append_assoc (decimal k) (dotted ks) (primes_text p) in
    (named, name_lowered name named ∙ ap (λ xs. codes "subgoal " ++ xs) (low_same tail rest (uncased_numbers k ks (primes_text p) head.is (uncased_primes p h.0)) whole) ∙ sym e)

-- a goal under an induction: what a name leaves to be read after its induction, its case and its path
case_under : (rest induction under text : List ℕ) → IsNumbersHead rest induction under → map to_ascii_lowercase text ≡ codes "subgoal *" ++ map to_ascii_lowercase rest
    → (n : Name) → IsName n → PrintsAs n text → (k : ℕ) × (IsCount k × (under ≡ 47 ∷ (decimal k ++ (dotted n.path ++ primes_text n.primes))))
case_under rest induction under text head e n is p =
    let parts = after_case n.induction n.case n.path n.primes rest is.induction is.path is.placed is.primes (lowered_as (codes "subgoal *") rest text e n is p) in
    (parts.0, (parts.1.1.0, (head.alone n.induction (47 ∷ (decimal parts.0 ++ (dotted n.path ++ primes_text n.primes))) parts.1.0 ((λ d. omega (arith, d.0)), λ f. omega arith) parts.1.1.1).1))

case_number : (rest induction under cased text : List ℕ) → IsNumbersHead rest induction under → under ≡ 47 ∷ cased → map to_ascii_lowercase text ≡ codes "subgoal *" ++ map to_ascii_lowercase rest
    → (n : Name) → IsName n → PrintsAs n text → (k : ℕ) × (IsCount k × (cased ≡ decimal k ++ (dotted n.path ++ primes_text n.primes)))
case_number rest induction under cased text head slash e n is p =
    let parts = case_under rest induction under text head e n is p in
    let both : ◌≡◌ {A = List ℕ} (47 ∷ cased) (47 ∷ (decimal parts.0 ++ (dotted n.path ++ primes_text n.primes))) = sym slash ∙ parts.1.1 in
    let same : cased ≡ decimal parts.0 ++ (dotted n.path ++ primes_text n.primes) = cc in
    (parts.0, (parts.1.0, same))

case_placed : (rest induction under cased : List ℕ) (k : ℕ) (placed text : List ℕ) → IsNumbersHead rest induction under → under ≡ 47 ∷ cased → IsNumberHead cased k placed
    → map to_ascii_lowercase text ≡ codes "subgoal *" ++ map to_ascii_lowercase rest → (n : Name) → IsName n → PrintsAs n text → placed ≡ dotted n.path ++ primes_text n.primes
case_placed rest induction under cased k placed text head slash number e n is p =
    let parts = case_number rest induction under cased text head slash e n is p in
    (number.alone parts.0 (dotted n.path ++ primes_text n.primes) parts.1.0 (ends-dotted n.path (primes_text n.primes) (ends_primes n.primes)) parts.1.1).1

pub no_case_numbers : (rest : List ℕ) → HasNoNumbers rest → IsReadingAfter (codes "subgoal *") rest None
no_case_numbers rest h text e n is p =
    let parts = after_case n.induction n.case n.path n.primes rest is.induction is.path is.placed is.primes (lowered_as (codes "subgoal *") rest text e n is p) in
    h n.induction (47 ∷ (decimal parts.0 ++ (dotted n.path ++ primes_text n.primes))) parts.1.0 ((λ d. omega (arith, d.0)), λ f. omega arith) parts.1.1.1

pub no_case_slash : (rest induction under : List ℕ) → IsNumbersHead rest induction under → BeginsWithout 47 under → IsReadingAfter (codes "subgoal *") rest None
no_case_slash rest induction under head h text e n is p = let parts = case_under rest induction under text head e n is p in h _ parts.1.1

pub no_case_number : (rest induction under cased : List ℕ) → IsNumbersHead rest induction under → under ≡ 47 ∷ cased → HasNoNumber cased → IsReadingAfter (codes "subgoal *") rest None
no_case_number rest induction under cased head slash h text e n is p =
    let parts = case_number rest induction under cased text head slash e n is p in
    h parts.0 (dotted n.path ++ primes_text n.primes) parts.1.0 (ends-dotted n.path (primes_text n.primes) (ends_primes n.primes)) parts.1.1

pub no_case_path : (rest induction under cased : List ℕ) (k : ℕ) (placed : List ℕ) → IsNumbersHead rest induction under → under ≡ 47 ∷ cased → IsNumberHead cased k placed
    → HasNoDotted placed → IsReadingAfter (codes "subgoal *") rest None
no_case_path rest induction under cased k placed head slash number h text e n is p =
    h n.path (primes_text n.primes) is.path (ends_primes n.primes) (case_placed rest induction under cased k placed text head slash number e n is p)

pub no_case_primes : (rest induction under cased : List ℕ) (k : ℕ) (placed path more : List ℕ) → IsNumbersHead rest induction under → under ≡ 47 ∷ cased → IsNumberHead cased k placed
    → AddsDotted [] placed path more → IsWhole (λ n. n < 2 ^ 32) primes_text more None → IsReadingAfter (codes "subgoal *") rest None
no_case_primes rest induction under cased k placed path more head slash number (ks, added, dots) h text e n is p =
    let left = case_placed rest induction under cased k placed text head slash number e n is p in
    h n.primes is.primes (dots.alone n.path (primes_text n.primes) is.path (ends_primes n.primes) left).1

pub the_case : (rest induction under cased : List ℕ) (k : ℕ) (placed path more : List ℕ) (p : ℕ) → IsNumbersHead rest induction under → under ≡ 47 ∷ cased → IsNumberHead cased k placed
    → AddsDotted [] placed path more → IsWhole (λ n. n < 2 ^ 32) primes_text more (Some p)
    → IsReadingAfter (codes "subgoal *") rest (Some (record { induction = induction; case = Some k; path = path; primes = p }))
the_case rest [] under cased k placed path more p head slash number dots h text e = absurd head.is
the_case rest (i ∷ is) under cased k placed path more p head slash number (ks, added, dots) h text e =
    let counts : Each IsCount path = rw added dots.is in
    let name : Name = record { induction = i ∷ is; case = Some k; path = path; primes = p } in
    let named : IsName name = record { induction = head.is; path = counts; primes = h.0; placed = number.is } in
    let tail : List ℕ = 47 ∷ (decimal k ++ (dotted path ++ primes_text p)) in
    let left : placed ≡ dotted path ++ primes_text p = dots.prints ∙ ap (λ xs. dotted xs ++ more) (sym added) ∙ ap (λ xs. dotted path ++ xs) h.1 in
    let below : under ≡ tail = slash ∙ ap (λ xs. 47 ∷ xs) number.prints ∙ ap (λ xs. 47 ∷ (decimal k ++ xs)) left in
    let whole : rest ≡ decimal i ++ (dotted is ++ tail) = head.prints ∙ ap (λ xs. (decimal i ++ dotted is) ++ xs) below ∙ append_assoc (decimal i) (dotted is) tail in
    (named, name_lowered name named ∙ ap (λ xs. codes "subgoal *" ++ xs) (low_same (decimal i ++ (dotted is ++ tail)) rest (uncased_case i k is path p head.is number.is counts h.0) whole) ∙ sym e)

-- each name has one of three fronts
pub no_front : (text : List ℕ) → BeginsOtherwise (codes "*") text → BeginsOtherwise (codes "subgoal ") text → BeginsOtherwise (codes "goal") text → IsReading text None
no_front text star subgoal goal n is p = by n.induction n.case n.path n.primes is.placed (sym (name_lowered n is) ∙ p)
  where
    by : (is : List ℕ) (c : Option ℕ) (path : List ℕ) (p : ℕ) → IsPlaced is c path p → low_text is c path (primes_text p) ≡ map to_ascii_lowercase text → ⊥
    by [] (Some c) path p k h = k
    by [] None [] p k h = goal _ (sym h)
    by [] None (s ∷ ss) p k h = subgoal _ (sym h)
    by (i ∷ is) None path p k h = star _ (sym h)
    by (i ∷ is) (Some c) path p k h = subgoal _ (sym h)

pub emptied : (xs : List ℕ) → true ≡ (length xs == 0) → xs ≡ []
emptied [] e = refl
emptied (x ∷ xs) e = let none : length (x ∷ xs) ≡ 0 = eqb-true (length (x ∷ xs)) 0 (sym e) in absurd (omega arith)

pub filled : (xs : List ℕ) → false ≡ (length xs == 0) → ¬ (xs ≡ [])
filled [] e f = cc
filled (x ∷ xs) e f = cc
