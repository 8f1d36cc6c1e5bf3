-- How two parts of printed texts compare, whatever stands after them.
use Rattle.std.proofs.Common.{◌≡◌, suc, ℤ, pos, negsuc, ◌+◌, ◌%◌, ◌^◌, decimal, codes, ◌&&◌, ℕ, ◌<◌, ◌⊎◌, inl, inr, Bool, true, false, nat_lt, ◌==◌, List, [], ◌∷◌, ◌++◌, Option, Some, None, if◌then◌else◌, ◌||◌, refl, sym, ap, subst, ◌∙◌, arith}
use Rattle.std.proofs.lemmas.Bool.Decides.{nat_tests}
use Rattle.std.specs.Ordering.{nat_cmp, ordering_then}
use Rattle.std.specs.declared.cmp.Ordering.{Ordering}
use Rattle.std.specs.declared.cmp.Ordering.TheVariants.{Less, Equal, Greater}
use Rattle.std.specs.Cmp.{nat_cmp_is}
use mathlib.Core.List.{append_assoc}
use Rattle.std.proofs.lemmas.List.{append-nil}
use Rattle.std.specs.Fmt.{signed_decimal}
use lib.Signed.{mag}
use Rattle.std.proofs.lemmas.Fmt.{decimal_by_steps_wide}
use Rattle.std.proofs.lemmas.Bool.{eq-eqb, ne_eqb}
use Rattle.ap_value.proofs.Equals.{both, and_true}
use Rattle.ap_value.specs.declared.symbol.Symbol.{Symbol}
use Rattle.ap_term.specs.Atoms.{is_plain, ends_atom, all_plain, is_symbol_text, begins_with_digit, reads_back}
use Rattle.ap_term.specs.Printed.{escaped, quoted, symbol_text, colon_text, character_text, character_name}
use Rattle.ap_term.specs.Compared.{bytes_order, follow, beyond, IsEnd, EndsPart, Decided, is_end, run, skip, scan_name, scan, Ends, IsAtom}

pub cmp-less : (m n : ℕ) → m < n → nat_cmp m n ≡ Less
cmp-less m n h = sym (nat_cmp_is m n Less h)

pub cmp-greater : (m n : ℕ) → n < m → nat_cmp m n ≡ Greater
cmp-greater m n h = sym (nat_cmp_is m n Greater h)

pub cmp-same : (m : ℕ) → nat_cmp m m ≡ Equal
cmp-same m = sym (nat_cmp_is m m Equal refl)

-- a byte that two texts begin with is passed
pub order-same : (c d : ℕ) (xs ys : List ℕ) → c ≡ d → bytes_order (c ∷ xs) (d ∷ ys) ≡ bytes_order xs ys
order-same c d xs ys e =
    ap (λ n. ordering_then (nat_cmp c n) (bytes_order xs ys)) (sym e)
    ∙ ap (λ o. ordering_then o (bytes_order xs ys)) (cmp-same c)

-- a part beside itself, with one byte or nothing after both
same_compares : (p : List ℕ) (x : Option ℕ) (s t : List ℕ) → bytes_order (p ++ follow x s) (p ++ follow x t) ≡ bytes_order (beyond x s) (beyond x t)
same_compares [] None s t = refl
same_compares [] (Some c) s t = order-same c c s t refl
same_compares (c ∷ p) x s t = order-same c c (p ++ follow x s) (p ++ follow x t) refl ∙ same_compares p x s t

pub decided_texts : {A : Type 0} (text : A → List ℕ) (a b : A) (x y : Option ℕ) → a ≡ b → x ≡ y → Decided Equal (text a) x (text b) y
decided_texts text a b x y e f =
    subst (λ c. Decided Equal (text a) x (text c) y) e
    (subst (λ z. Decided Equal (text a) x (text a) z) f (same_compares (text a) x, λ g. refl))

pub three : (m n : ℕ) → (m < n) ⊎ ((m ≡ n) ⊎ (n < m))
three m n = by (nat_lt m n) (m == n) refl refl
  where
    by : (a b : Bool) → nat_lt m n ≡ a → (m == n) ≡ b → (m < n) ⊎ ((m ≡ n) ⊎ (n < m))
    by true b e f = inl (grind (arith, nat_tests))
    by false true e f = inr (inl (grind (arith, nat_tests)))
    by false false e f = inr (inr (grind (arith, nat_tests)))

-- at the first bytes that differ texts are told apart
pub order-differ : (c d : ℕ) (xs ys : List ℕ) → (c ≡ d → ⊥) → bytes_order (c ∷ xs) (d ∷ ys) ≡ nat_cmp c d
order-differ c d xs ys ne = by (three c d)
  where
    by : (c < d) ⊎ ((c ≡ d) ⊎ (d < c)) → bytes_order (c ∷ xs) (d ∷ ys) ≡ nat_cmp c d
    by (inl h) = ap (λ o. ordering_then o (bytes_order xs ys)) (cmp-less c d h) ∙ sym (cmp-less c d h)
    by (inr (inl h)) = absurd (ne h)
    by (inr (inr h)) = ap (λ o. ordering_then o (bytes_order xs ys)) (cmp-greater c d h) ∙ sym (cmp-greater c d h)

-- two texts are the same, or differ at a byte of both, or one goes on after the other
data Meets : List ℕ → List ℕ → Type 0 where
  same : {p q : List ℕ} → p ≡ q → Meets p q
  apart : {p q : List ℕ} → (r : Ordering) → (r ≡ Equal → ⊥) → ((s t : List ℕ) → bytes_order (p ++ s) (q ++ t) ≡ r) → Meets p q
  shorter : {p q : List ℕ} → (c : ℕ) (more : List ℕ) → q ≡ p ++ c ∷ more → Meets p q
  longer : {p q : List ℕ} → (c : ℕ) (more : List ℕ) → p ≡ q ++ c ∷ more → Meets p q

meets-cons : (c d : ℕ) (p q : List ℕ) → c ≡ d → Meets p q → Meets (c ∷ p) (d ∷ q)
meets-cons c d p q e (same h) = same (cc)
meets-cons c d p q e (apart r ne h) = apart r ne (λ s t. order-same c d (p ++ s) (q ++ t) e ∙ h s t)
meets-cons c d p q e (shorter b more h) = shorter b more (cc)
meets-cons c d p q e (longer b more h) = longer b more (cc)

meets : (p q : List ℕ) → Meets p q
meets [] [] = same refl
meets [] (d ∷ q) = shorter d q refl
meets (c ∷ p) [] = longer c p refl
meets (c ∷ p) (d ∷ q) = by (three c d) (meets p q)
  where
    by : (c < d) ⊎ ((c ≡ d) ⊎ (d < c)) → Meets p q → Meets (c ∷ p) (d ∷ q)
    by (inl h) rest = apart Less (λ e. cc) (λ s t. ap (λ o. ordering_then o (bytes_order (p ++ s) (q ++ t))) (cmp-less c d h))
    by (inr (inl e)) rest = meets-cons c d p q e rest
    by (inr (inr h)) rest = apart Greater (λ e. cc) (λ s t. ap (λ o. ordering_then o (bytes_order (p ++ s) (q ++ t))) (cmp-greater c d h))

pub ruleset steps = (order-same, order-differ)

strip : (p s t : List ℕ) → bytes_order (p ++ s) (p ++ t) ≡ bytes_order s t
strip [] s t = refl
strip (c ∷ p) s t = order-same c c (p ++ s) (p ++ t) refl ∙ strip p s t

-- no atom goes on after another with a byte that ends it
no_end : (p q : List ℕ) (c : ℕ) (more : List ℕ) → IsAtom p → IsAtom q → q ≡ p ++ c ∷ more → IsEnd c → ⊥
no_end p q c more hp hq e end =
    let a : scan (p ++ c ∷ more) ≡ c ∷ more = hp (c ∷ more) end in
    let b : scan (q ++ []) ≡ [] = hq [] tt in
    let n : q ++ [] ≡ q = append-nil q in
    let m : scan (q ++ []) ≡ scan (p ++ c ∷ more) = ap scan (n ∙ e) in
    let f : ◌≡◌ {A = List ℕ} [] (c ∷ more) = sym b ∙ m ∙ a in cc

then-equal : (n o : Ordering) → ordering_then n o ≡ ordering_then (ordering_then n Equal) o
then-equal Less o = refl
then-equal Equal o = refl
then-equal Greater o = refl

pub then-kept : (n o : Ordering) → (n ≡ Equal → ⊥) → n ≡ ordering_then n o
then-kept Less o ne = refl
then-kept Equal o ne = absurd (ne refl)
then-kept Greater o ne = refl

ends : (x y : Option ℕ) (s t : List ℕ) → bytes_order (follow x s) (follow y t) ≡ ordering_then (bytes_order (follow x []) (follow y [])) (bytes_order (beyond x s) (beyond y t))
ends None None s t = refl
ends None (Some d) s t = refl
ends (Some c) None s t = refl
ends (Some c) (Some d) s t = then-equal (nat_cmp c d) (bytes_order s t)

ends-equal : (x y : Option ℕ) → bytes_order (follow x []) (follow y []) ≡ Equal → x ≡ y
ends-equal None None h = refl
ends-equal None (Some d) h = absurd (cc)
ends-equal (Some c) None h = absurd (cc)
ends-equal (Some c) (Some d) h = by (three c d)
  where
    by : (c < d) ⊎ ((c ≡ d) ⊎ (d < c)) → Some c ≡ Some d
    by (inl k) = let e : Less ≡ Equal = sym (ap (λ o. ordering_then o Equal) (cmp-less c d k)) ∙ h in absurd (cc)
    by (inr (inl k)) = ap Some k
    by (inr (inr k)) = let e : Greater ≡ Equal = sym (ap (λ o. ordering_then o Equal) (cmp-greater c d k)) ∙ h in absurd (cc)

pub decided : (r r' : Ordering) (p : List ℕ) (x : Option ℕ) (q : List ℕ) (y : Option ℕ) → (r' ≡ r) → (r ≡ Equal → ⊥)
    → ((s t : List ℕ) → bytes_order (p ++ follow x s) (q ++ follow y t) ≡ r) → Decided r' p x q y
decided r r' p x q y e ne h = (λ s t. h s t ∙ sym e ∙ then-kept r' (bytes_order (beyond x s) (beyond y t)) (λ k. ne (sym e ∙ k)), λ k. absurd (ne (sym e ∙ k)))

pub cmp-other : (c d : ℕ) → (c ≡ d → ⊥) → nat_cmp c d ≡ Equal → ⊥
cmp-other c d ne h = by (three c d)
  where
    by : (c < d) ⊎ ((c ≡ d) ⊎ (d < c)) → ⊥
    by (inl k) = let e : Less ≡ Equal = sym (cmp-less c d k) ∙ h in cc
    by (inr (inl k)) = ne k
    by (inr (inr k)) = let e : Greater ≡ Equal = sym (cmp-greater c d k) ∙ h in cc

pub same_part : (p : List ℕ) (x y : Option ℕ) → Decided (bytes_order (p ++ follow x []) (p ++ follow y [])) p x p y
same_part p x y = (
  λ s t. strip p (follow x s) (follow y t) ∙ ends x y s t
      ∙ ap (λ o. ordering_then o (bytes_order (beyond x s) (beyond y t))) (sym (strip p (follow x []) (follow y []))),
  λ h. ends-equal x y (sym (strip p (follow x []) (follow y [])) ∙ h),
)

-- a part against one that goes on after it
shorter_part : (p : List ℕ) (x : Option ℕ) (q : List ℕ) (c : ℕ) (more : List ℕ) → q ≡ p ++ c ∷ more → (IsEnd c → ⊥) → EndsPart x
    → (r : Ordering) × ((r ≡ Equal → ⊥) × ((s z : List ℕ) → bytes_order (p ++ follow x s) (q ++ z) ≡ r))
shorter_part p None q c more e ne h =
    (Less, (λ k. cc, λ s z. ap (λ l. bytes_order (p ++ []) (l ++ z)) e ∙ ap (bytes_order (p ++ [])) (append_assoc p (c ∷ more) z) ∙ strip p [] (c ∷ (more ++ z))))
shorter_part p (Some d) q c more e ne h =
    let other : d ≡ c → ⊥ = λ k. ne (subst IsEnd k h) in (
      nat_cmp d c,
      (
        cmp-other d c other,
        λ s z. ap (λ l. bytes_order (p ++ d ∷ s) (l ++ z)) e ∙ ap (bytes_order (p ++ d ∷ s)) (append_assoc p (c ∷ more) z)
            ∙ strip p (d ∷ s) (c ∷ (more ++ z)) ∙ order-differ d c s (more ++ z) other,
      ),
    )

longer_part : (p : List ℕ) (q : List ℕ) (y : Option ℕ) (c : ℕ) (more : List ℕ) → p ≡ q ++ c ∷ more → (IsEnd c → ⊥) → EndsPart y
    → (r : Ordering) × ((r ≡ Equal → ⊥) × ((z t : List ℕ) → bytes_order (p ++ z) (q ++ follow y t) ≡ r))
longer_part p q None c more e ne h =
    (Greater, (λ k. cc, λ z t. ap (λ l. bytes_order (l ++ z) (q ++ [])) e ∙ ap (λ l. bytes_order l (q ++ [])) (append_assoc q (c ∷ more) z) ∙ strip q (c ∷ (more ++ z)) []))
longer_part p q (Some d) c more e ne h =
    let other : c ≡ d → ⊥ = λ k. ne (subst IsEnd (sym k) h) in (
      nat_cmp c d,
      (
        cmp-other c d other,
        λ z t. ap (λ l. bytes_order (l ++ z) (q ++ d ∷ t)) e ∙ ap (λ l. bytes_order l (q ++ d ∷ t)) (append_assoc q (c ∷ more) z)
            ∙ strip q (c ∷ (more ++ z)) (d ∷ t) ∙ order-differ c d (more ++ z) t other,
      ),
    )

-- two atoms compare as they do with the next bytes alone
pub compared : (p : List ℕ) (x : Option ℕ) (q : List ℕ) (y : Option ℕ) → IsAtom p → IsAtom q → EndsPart x → EndsPart y
    → Decided (bytes_order (p ++ follow x []) (q ++ follow y [])) p x q y
compared p x q y hp hq ex ey = by (meets p q)
  where
    by : Meets p q → Decided (bytes_order (p ++ follow x []) (q ++ follow y [])) p x q y
    by (same e) = subst (λ l. Decided (bytes_order (p ++ follow x []) (l ++ follow y [])) p x l y) e (same_part p x y)
    by (apart r ne h) = decided r _ p x q y (h (follow x []) (follow y [])) ne (λ s t. h (follow x s) (follow y t))
    by (shorter c more e) =
        let z = shorter_part p x q c more e (no_end p q c more hp hq e) ex in
        decided z.0 _ p x q y (z.1.1 [] (follow y [])) z.1.0 (λ s t. z.1.1 s (follow y t))
    by (longer c more e) =
        let z = longer_part p q y c more e (no_end q p c more hq hp e) ey in
        decided z.0 _ p x q y (z.1.1 (follow x []) []) z.1.0 (λ s t. z.1.1 (follow x s) t)

plain_goes_on : (d : ℕ) → is_plain d ≡ true → is_end d ≡ false
unfolding is_plain ends_atom
plain_goes_on d k = grind (arith, nat_tests)

-- plain bytes are run through
run-plain : (p s : List ℕ) → all_plain p ≡ true → Ends s → run (p ++ s) ≡ s
run-plain [] [] h e = refl
run-plain [] (c ∷ s) h e = by c e
  where
    by : (d : ℕ) → IsEnd d → run (d ∷ s) ≡ d ∷ s
    by d (inl k) = rw k refl
    by d (inr k) = rw k refl
run-plain (c ∷ p) s h e =
    let parts = both (is_plain c) (all_plain p) h in
    ap (λ b. if b then c ∷ (p ++ s) else run (p ++ s)) (plain_goes_on c parts.0) ∙ run-plain p s parts.1 e

-- a closed text is skipped
skip-escaped : (close : ℕ) (cs s : List ℕ) → (close ≡ 92 → ⊥) → skip close false ((escaped close cs ++ close ∷ []) ++ s) ≡ s
skip-escaped close [] s ne =
    ap (λ b. if b then skip close true s else (if close == close then s else skip close false s)) (ne_eqb close 92 ne)
    ∙ ap (λ b. if b then s else skip close false s) (eq-eqb close close refl)
skip-escaped close (c ∷ cs) s ne = by (c == close) (c == 92) refl refl (skip-escaped close cs s ne)
  where
    tail : List ℕ
    tail = (escaped close cs ++ close ∷ []) ++ s

    by : (a b : Bool) → (c == close) ≡ a → (c == 92) ≡ b → skip close false tail ≡ s → skip close false ((escaped close (c ∷ cs) ++ close ∷ []) ++ s) ≡ s
    by true b h k rest = rw h rest
    by false true h k rest = rw (h, k) rest
    by false false h k rest = rw (h, k, k, h) rest

pub string_atom : (cs : List ℕ) → IsAtom (quoted 34 cs)
string_atom cs s e = skip-escaped 34 cs s (λ k. omega arith)

pub bars_atom : (cs : List ℕ) → IsAtom (quoted 124 cs)
bars_atom cs s e = skip-escaped 124 cs s (λ k. omega arith)

pub plain_other : (k d : ℕ) → is_plain k ≡ false → is_plain d ≡ true → (d == k) ≡ false
plain_other k d h p = ne_eqb d k (λ e. let f : is_plain k ≡ true = ap is_plain (sym e) ∙ p in let g : false ≡ true = sym h ∙ f in cc)

pub special : (is_plain 34 ≡ false) × ((is_plain 58 ≡ false) × (is_plain 124 ≡ false))
unfolding is_plain ends_atom
special = (refl, (refl, refl))

-- what may stand after an atom ends it at once
run-end : (s : List ℕ) → Ends s → run s ≡ s
run-end s e = run-plain [] s refl e

scan_name-plain : (name s : List ℕ) → all_plain name ≡ true → Ends s → scan_name (name ++ s) ≡ s
scan_name-plain [] [] h e = refl
scan_name-plain [] (c ∷ s) h e = by c e
  where
    by : (d : ℕ) → IsEnd d → scan_name (d ∷ s) ≡ d ∷ s
    by d (inl k) = rw k refl
    by d (inr k) = rw k refl
scan_name-plain (c ∷ cs) s h e =
    ap (λ b. if b then skip 124 false (cs ++ s) else run (c ∷ (cs ++ s))) (plain_other 124 c special.1.1 (both (is_plain c) (all_plain cs) h).0)
    ∙ run-plain (c ∷ cs) s h e

-- plain bytes that don't begin with # are an atom
pub plain_atom : (c : ℕ) (cs : List ℕ) → all_plain (c ∷ cs) ≡ true → (c == 35) ≡ false → IsAtom (c ∷ cs)
plain_atom c cs h sharp s e =
    let p = (both (is_plain c) (all_plain cs) h).0 in
    let string : (c == 34) ≡ false = plain_other 34 c special.0 p in
    let colon : (c == 58) ≡ false = plain_other 58 c special.1.0 p in
    rw (string, sharp, colon) (scan_name-plain (c ∷ cs) s h e)

-- so is a keyword's name behind its colon
pub keyword_atom : (name : List ℕ) → all_plain name ≡ true → IsAtom (58 ∷ name)
keyword_atom name h s e = scan_name-plain name s h e

pub keyword_bars_atom : (name : List ℕ) → IsAtom (58 ∷ quoted 124 name)
keyword_bars_atom name s e = skip-escaped 124 name s (λ k. omega arith)

-- a symbol's text is an atom
pub symbol_atom : (s : Symbol) → IsAtom (symbol_text s)
unfolding symbol_text colon_text reads_back
symbol_atom s = by s.keyword s.name (all_plain s.name) (is_symbol_text s.name) refl refl
  where
    text : Bool → List ℕ → Bool → Bool → List ℕ
    text keyword name plain symbolic = (if keyword then codes ":" else []) ++ (if plain && (keyword || symbolic) then name else quoted 124 name)

    plain_name : (name : List ℕ) → all_plain name ≡ true → is_symbol_text name ≡ true → IsAtom name
    plain_name [] h k = absurd (cc)
    plain_name (c ∷ cs) h k = sharp c cs (c == 35) refl h k
      where
        sharp : (c : ℕ) (cs : List ℕ) (b : Bool) → (c == 35) ≡ b → all_plain (c ∷ cs) ≡ true → is_symbol_text (c ∷ cs) ≡ true → IsAtom (c ∷ cs)
        sharp c cs false e h k = plain_atom c cs h e
        sharp c cs true e h k = absurd (grind (arith, nat_tests))

    by : (keyword : Bool) (name : List ℕ) (plain symbolic : Bool) → all_plain name ≡ plain → is_symbol_text name ≡ symbolic → IsAtom (text keyword name plain symbolic)
    by true name true symbolic h k = keyword_atom name h
    by true name false symbolic h k = keyword_bars_atom name
    by false name true true h k = plain_name name h k
    by false name true false h k = bars_atom name
    by false name false symbolic h k = bars_atom name

pub symbols_compared : (a : Symbol) (x : Option ℕ) (b : Symbol) (y : Option ℕ) → EndsPart x → EndsPart y
    → Decided (bytes_order (symbol_text a ++ follow x []) (symbol_text b ++ follow y [])) (symbol_text a) x (symbol_text b) y
symbols_compared a x b y = compared (symbol_text a) x (symbol_text b) y (symbol_atom a) (symbol_atom b)

-- a character's text
pub character_atom : (c : ℕ) → IsAtom (character_text c)
unfolding character_text character_name
character_atom c s e = by (c == 32) (c == 10) (c == 9) (c == 12) (c == 127)
  where
    name : Bool → Bool → Bool → Bool → Bool → List ℕ
    name a b d f g =
        if a then codes "Space"
        else (if b then codes "Newline"
        else (if d then codes "Tab"
        else (if f then codes "Page"
        else (if g then codes "Rubout"
        else c ∷ []))))

    by : (a b d f g : Bool) → scan ((codes "#\\" ++ name a b d f g) ++ s) ≡ s
    by true b d f g = run-end s e
    by false true d f g = run-end s e
    by false false true f g = run-end s e
    by false false false true g = run-end s e
    by false false false false true = run-end s e
    by false false false false false = run-end s e

digit_plain : (n : ℕ) → n < 10 → is_plain (48 + n) ≡ true
unfolding is_plain ends_atom
digit_plain n h = grind (arith, nat_tests)

all_plain-push : (ds : List ℕ) (d : ℕ) → all_plain ds ≡ true → is_plain d ≡ true → all_plain (ds ++ d ∷ []) ≡ true
all_plain-push [] d h k = and_true (is_plain d) true k refl
all_plain-push (c ∷ ds) d h k =
    let parts = both (is_plain c) (all_plain ds) h in
    and_true (is_plain c) (all_plain (ds ++ d ∷ [])) parts.0 (all_plain-push ds d parts.1 k)

decimal_plain : (n : ℕ) → n < 10 ^ 64 → all_plain (decimal n) ≡ true
decimal_plain = decimal_by_steps_wide (λ n ds. all_plain ds ≡ true)
    (λ n h. and_true (is_plain (48 + n)) true (digit_plain n h) refl)
    (λ n ds h p. all_plain-push ds (48 + n % 10) p (digit_plain (n % 10) (omega arith)))

pub decimal_starts : (n : ℕ) → n < 10 ^ 64 → begins_with_digit (decimal n) ≡ true
decimal_starts = decimal_by_steps_wide (λ n ds. begins_with_digit ds ≡ true)
    (λ n h. grind (arith, nat_tests))
    (λ n ds h p. push ds (48 + n % 10) p)
  where
    push : (ds : List ℕ) (d : ℕ) → begins_with_digit ds ≡ true → begins_with_digit (ds ++ d ∷ []) ≡ true
    push [] d h = absurd (cc)
    push (c ∷ ds) d h = h

digits_atom : (ds : List ℕ) → all_plain ds ≡ true → begins_with_digit ds ≡ true → IsAtom ds
digits_atom [] h k = absurd (cc)
digits_atom (c ∷ cs) h k = let sharp : (c == 35) ≡ false = grind (arith, nat_tests) in plain_atom c cs h sharp

minus_plain : is_plain 45 ≡ true
unfolding is_plain ends_atom
minus_plain = refl

-- an integer's text
pub integer_atom : (z : ℤ) → mag z < 2 ^ 127 → IsAtom (signed_decimal z)
integer_atom (pos n) h =
    let small : n < 10 ^ 64 = omega arith in digits_atom (decimal n) (decimal_plain n small) (decimal_starts n small)
integer_atom (negsuc n) h =
    let small : suc n < 10 ^ 64 = omega arith in
    plain_atom 45 (decimal (suc n)) (and_true (is_plain 45) (all_plain (decimal (suc n))) minus_plain (decimal_plain (suc n) small)) refl
