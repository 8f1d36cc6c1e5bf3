-- The tests of equality say what they say, and hold of a thing and itself.
use Rattle.std.proofs.Common.{◌≡◌, ℕ, Bool, true, false, ◌&&◌, ℤ, pos, negsuc, List, [], ◌∷◌, refl, ap, ◌∙◌, eqb}
use Rattle.std.proofs.lemmas.Bool.{eqb-true, eq-eqb}
use Rattle.ap_value.specs.declared.symbol.Symbol.{Symbol}
use Rattle.ap_value.specs.Values.{Byte, V, int, chr, str, sym as symbol, cons, bool_eq, bytes_eq, string_eq, symbol_eq, int_eq, value_eq}
use Rattle.ap_value.proofs.Bytes.{same_byte}

-- both parts of a conjunction of tests
pub both : (a b : Bool) → (a && b) ≡ true → (a ≡ true) × (b ≡ true)
both true b h = (refl, h)
both false b h = cc

pub and_true : (a b : Bool) → a ≡ true → b ≡ true → (a && b) ≡ true
and_true true b h k = k
and_true false b h k = cc

pub bool_eq-true : (a b : Bool) → bool_eq a b ≡ true → a ≡ b
bool_eq-true true true h = refl
bool_eq-true false false h = refl
bool_eq-true true false h = cc
bool_eq-true false true h = cc

pub bool_eq-same : (a : Bool) → bool_eq a a ≡ true
bool_eq-same true = refl
bool_eq-same false = refl

pub bytes_eq-true : (xs ys : List ℕ) → bytes_eq xs ys ≡ true → xs ≡ ys
bytes_eq-true [] [] h = refl
bytes_eq-true (x ∷ xs) (y ∷ ys) h =
    let p = both (eqb x y) (bytes_eq xs ys) h in
    ap (λ n. n ∷ xs) (eqb-true x y p.0) ∙ ap (λ zs. y ∷ zs) (bytes_eq-true xs ys p.1)
bytes_eq-true [] (y ∷ ys) h = cc
bytes_eq-true (x ∷ xs) [] h = cc

pub bytes_eq-same : (xs : List ℕ) → bytes_eq xs xs ≡ true
bytes_eq-same [] = refl
bytes_eq-same (x ∷ xs) = and_true (eqb x x) (bytes_eq xs xs) (eq-eqb x x refl) (bytes_eq-same xs)

pub symbol_eq-true : (a b : Symbol) → symbol_eq a b ≡ true → a ≡ b
symbol_eq-true a b h =
    let p = both (bool_eq a.keyword b.keyword) (bytes_eq a.name b.name) h in
    λ i. record { keyword = bool_eq-true a.keyword b.keyword p.0 i; name = bytes_eq-true a.name b.name p.1 i }

pub symbol_eq-same : (a : Symbol) → symbol_eq a a ≡ true
symbol_eq-same a = and_true (bool_eq a.keyword a.keyword) (bytes_eq a.name a.name) (bool_eq-same a.keyword) (bytes_eq-same a.name)

pub int_eq-true : (m n : ℤ) → int_eq m n ≡ true → m ≡ n
int_eq-true (pos m) (pos n) h = ap pos (eqb-true m n h)
int_eq-true (negsuc m) (negsuc n) h = ap negsuc (eqb-true m n h)
int_eq-true (pos m) (negsuc n) h = cc
int_eq-true (negsuc m) (pos n) h = cc

pub int_eq-same : (n : ℤ) → int_eq n n ≡ true
int_eq-same (pos n) = eq-eqb n n refl
int_eq-same (negsuc n) = eq-eqb n n refl

pub string_eq-true : (s t : List Byte) → string_eq s t ≡ true → s ≡ t
string_eq-true [] [] h = refl
string_eq-true (x ∷ xs) (y ∷ ys) h =
    let p = both (eqb x.code y.code) (string_eq xs ys) h in
    ap (λ b. b ∷ xs) (same_byte x y (eqb-true x.code y.code p.0)) ∙ ap (λ zs. y ∷ zs) (string_eq-true xs ys p.1)
string_eq-true [] (y ∷ ys) h = cc
string_eq-true (x ∷ xs) [] h = cc

pub string_eq-same : (s : List Byte) → string_eq s s ≡ true
string_eq-same [] = refl
string_eq-same (x ∷ xs) = and_true (eqb x.code x.code) (string_eq xs xs) (eq-eqb x.code x.code refl) (string_eq-same xs)

-- two values that the test takes for one are one
pub value_eq-true : (v w : V) → value_eq v w ≡ true → v ≡ w
unfolding value_eq
value_eq-true (int m) (int n) h = ap int (int_eq-true m n h)
value_eq-true (chr c) (chr d) h = ap chr (same_byte c d (eqb-true c.code d.code h))
value_eq-true (str s) (str t) h = ap str (string_eq-true s t h)
value_eq-true (symbol j s) (symbol k t) h =
    let p = both (bool_eq j k) (string_eq s t) h in
    ap (λ b. symbol b s) (bool_eq-true j k p.0) ∙ ap (λ n. symbol k n) (string_eq-true s t p.1)
value_eq-true (cons a b) (cons c d) h =
    let p = both (value_eq a c) (value_eq b d) h in
    ap (λ x. cons x b) (value_eq-true a c p.0) ∙ ap (λ y. cons c y) (value_eq-true b d p.1)
value_eq-true v w h = cc

pub value_eq-same : (v : V) → value_eq v v ≡ true
unfolding value_eq
value_eq-same (int n) = int_eq-same n
value_eq-same (chr c) = eq-eqb c.code c.code refl
value_eq-same (str s) = string_eq-same s
value_eq-same (symbol k s) = and_true (bool_eq k k) (string_eq s s) (bool_eq-same k) (string_eq-same s)
value_eq-same (cons a b) = and_true (value_eq a a) (value_eq b b) (value_eq-same a) (value_eq-same b)
