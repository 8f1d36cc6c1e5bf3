-- The name that a text is read as, as a function. What it has to be is said in `Printed.antt` (`IsReading`), and that it
-- is that by the law `printing_has_one_reading`.
use Rattle.std.specs.Prelude.{ℕ, zero, suc, ◌+◌, ◌^◌, Bool, true, false, cond, ◌&&◌, nat_eq, nat_le, nat_lt, List, [], ◌∷◌, ◌++◌, length, take, drop, Option, Some, None, codes, decimal}
use Rattle.std.specs.Str.{str_to_ascii_lowercase}
use Rattle.std.specs.Str.Parse.{digits_value}
use Rattle.std.specs.Cmp.Lexicographic.{pointwise}
use Rattle.ap_names.specs.Names.{Name}

abbrev pub is_text : List ℕ → List ℕ → Bool
is_text = pointwise nat_eq

-- what goes on with what is there
abbrev pub and_then : {A B : Type 0} → Option A → (A → Option B) → Option B
and_then None g = None
and_then (Some a) g = g a

-- the digits that a text begins with, and what stands after them
abbrev pub is_digit : ℕ → Bool
is_digit c = nat_le 48 c && nat_lt c 58

abbrev pub digits : List ℕ → List ℕ
digits [] = []
digits (c ∷ cs) = cond (is_digit c) (c ∷ digits cs) []

abbrev pub after_digits : List ℕ → List ℕ
after_digits [] = []
after_digits (c ∷ cs) = cond (is_digit c) (after_digits cs) (c ∷ cs)

-- a number that a text begins with, as it prints, and what stands after it
abbrev pub as_count : ℕ → List ℕ → Option ℕ
as_count k ds = cond (nat_le 1 k && (nat_lt k (2 ^ 32) && is_text ds (decimal k))) (Some k) None

abbrev pub number_at : List ℕ → Option (ℕ × List ℕ)
number_at text = and_then (as_count (digits_value 10 (digits text)) (digits text)) (λ k. Some (k, after_digits text))

-- numbers behind others, each after a dot, no more of them than bytes
abbrev pub dotted_at : ℕ → List ℕ → List ℕ → Option (List ℕ × List ℕ)
dotted_at zero ks text = Some (ks, text)
dotted_at (suc n) ks [] = Some (ks, [])
dotted_at (suc n) ks (c ∷ cs) = cond (nat_eq c 46) (and_then (number_at cs) (λ p. dotted_at n (ks ++ p.0 ∷ []) p.1)) (Some (ks, c ∷ cs))

abbrev pub more_at : List ℕ → List ℕ → Option (List ℕ × List ℕ)
more_at ks text = dotted_at (length text) ks text

-- numbers with dots between them
abbrev pub numbers_at : List ℕ → Option (List ℕ × List ℕ)
numbers_at text = and_then (number_at text) (λ p. more_at (p.0 ∷ []) p.1)

-- what stands after a byte that a text begins with
abbrev pub after_byte : ℕ → List ℕ → Option (List ℕ)
after_byte b [] = None
after_byte b (c ∷ cs) = cond (nat_eq c b) (Some cs) None

-- primes: up to three of them, or their number between two
abbrev pub closed_by_prime : ℕ × List ℕ → Option ℕ
closed_by_prime p = cond (nat_le 4 p.0 && is_text p.1 (39 ∷ [])) (Some p.0) None

abbrev pub counted_primes : List ℕ → Option ℕ
counted_primes text = and_then (and_then (after_byte 39 text) number_at) closed_by_prime

abbrev pub are_few_primes : List ℕ → Bool
are_few_primes text = nat_lt (length text) 4 && is_text text (take (length text) (39 ∷ 39 ∷ 39 ∷ []))

abbrev pub primes_of : List ℕ → Option ℕ
primes_of text = cond (are_few_primes text) (Some (length text)) (counted_primes text)

-- what stands after a front in lower case, the case of letters aside
abbrev pub after : List ℕ → List ℕ → Option (List ℕ)
after front text = cond (is_text (str_to_ascii_lowercase (take (length front) text)) front) (Some (drop (length front) text)) None

-- the four kinds of names, by what stands after `Goal`, after the star of a pushed goal, and after `Subgoal` and a blank
abbrev pub root_by : List ℕ → Option Name
root_by text = and_then (primes_of text) (λ n. Some (record { induction = []; case = None; path = []; primes = n }))

abbrev pub pushed_at : List ℕ → List ℕ → Option Name
pushed_at ks [] = Some (record { induction = ks; case = None; path = []; primes = 0 })
pushed_at ks (c ∷ cs) = None

abbrev pub pushed_by : List ℕ → Option Name
pushed_by text = and_then (numbers_at text) (λ p. pushed_at p.0 p.1)

abbrev pub placed_by : List ℕ → Option Name
placed_by text = and_then (numbers_at text) (λ p. and_then (primes_of p.1) (λ n. Some (record { induction = []; case = None; path = p.0; primes = n })))

abbrev pub case_by : List ℕ → Option Name
case_by text =
    and_then (numbers_at text) (λ p. and_then (after_byte 47 p.1) (λ cased. and_then (number_at cased) (λ q. and_then (more_at [] q.1) (λ r.
    and_then (primes_of r.1) (λ n. Some (record { induction = p.0; case = Some q.0; path = r.0; primes = n }))))))

abbrev pub by_star : List ℕ → Option (List ℕ) → Option Name
by_star text (Some starred) = case_by starred
by_star text None = placed_by text

abbrev pub subgoal_by : List ℕ → Option Name
subgoal_by text = by_star text (after_byte 42 text)

abbrev pub by_fronts : Option (List ℕ) → Option (List ℕ) → Option (List ℕ) → Option Name
by_fronts (Some pushed) s g = pushed_by pushed
by_fronts None (Some subgoal) g = subgoal_by subgoal
by_fronts None None (Some goal) = root_by goal
by_fronts None None None = None

unfoldable pub name_of : List ℕ → Option Name
name_of text = by_fronts (after (codes "*") text) (after (codes "subgoal ") text) (after (codes "goal") text)
