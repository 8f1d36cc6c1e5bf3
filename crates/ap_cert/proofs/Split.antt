-- Lines: what the first one is, and that the lines of a text can be read off it.
use Rattle.std.proofs.Common.{◌≡◌, ℕ, Bool, true, false, nat_eq, cond, Option, Some, None, MatchOption, List, [], ◌∷◌, ◌++◌, refl, sym, ap, ◌∙◌}
use mathlib.Core.List.{append_assoc}
use Rattle.std.proofs.lemmas.Bool.{eqb-true}
use Rattle.ap_list.specs.Lists.{Each}
use Rattle.ap_cert.specs.Cert.{first_line, ended}
use Rattle.ap_cert.specs.Reads.{Without, IsCut, Reads, ReadsNone, Heads, HeadsNone}

pub each-append : {A : Type 0} (P : A → Type 0) (xs ys : List A) → Each P xs → Each P ys → Each P (xs ++ ys)
each-append P [] ys p q = q
each-append P (x ∷ xs) ys p q = (p.0, each-append P xs ys p.1 q)

-- what is before a byte in a text
pub without_not : (byte : ℕ) (front rest : List ℕ) → ¬ Without byte (front ++ byte ∷ rest)
without_not byte [] rest h = h.0 refl
without_not byte (c ∷ cs) rest h = without_not byte cs rest h.1

-- a first line goes on past another byte than a newline
goes_on : (c : ℕ) (found cs : List ℕ) → ¬ (c ≡ 10) → found ≡ cs → (b : Bool) → nat_eq c 10 ≡ b → cond b [] (c ∷ found) ≡ c ∷ cs
goes_on c found cs h same true e = absurd (h (eqb-true c 10 e))
goes_on c found cs h same false e = ap (λ xs. c ∷ xs) same

pub first_of_cut : (front rest : List ℕ) → Without 10 front → first_line (front ++ 10 ∷ rest) ≡ front
unfolding first_line
first_of_cut [] rest h = refl
first_of_cut (c ∷ cs) rest h = goes_on c (first_line (cs ++ 10 ∷ rest)) cs h.0 (first_of_cut cs rest h.1) (nat_eq c 10) refl

pub first_of_whole : (text : List ℕ) → Without 10 text → first_line text ≡ text
unfolding first_line
first_of_whole [] h = refl
first_of_whole (c ∷ cs) h = goes_on c (first_line cs) cs h.0 (first_of_whole cs h.1) (nat_eq c 10) refl

-- where a text is cut at the first such byte, is determined
pub cut_apart : (byte : ℕ) (a b s t : List ℕ) → Without byte a → Without byte b → a ++ byte ∷ s ≡ b ++ byte ∷ t → (a ≡ b) × (s ≡ t)
cut_apart byte [] [] s t p q h = (refl, cc)
cut_apart byte [] (y ∷ ys) s t p q h = let same : y ≡ byte = cc in absurd (q.0 same)
cut_apart byte (x ∷ xs) [] s t p q h = let same : x ≡ byte = cc in absurd (p.0 same)
cut_apart byte (x ∷ xs) (y ∷ ys) s t p q h =
    let same : x ≡ y = cc in
    let rest : xs ++ byte ∷ s ≡ ys ++ byte ∷ t = cc in
    let more = cut_apart byte xs ys s t p.1 q.1 rest in
    let front : xs ≡ ys = more.0 in
    (cc, more.1)

pub append_cancel : (front a b : List ℕ) → front ++ a ≡ front ++ b → a ≡ b
append_cancel [] a b h = h
append_cancel (c ∷ cs) a b h = let rest : cs ++ a ≡ cs ++ b = cc in append_cancel cs a b rest

pub ended-append : (xs ys : List (List ℕ)) → ended (xs ++ ys) ≡ ended xs ++ ended ys
unfolding ended
ended-append [] ys = refl
ended-append (x ∷ xs) ys = ap (λ zs. x ++ 10 ∷ zs) (ended-append xs ys) ∙ sym (append_assoc x (10 ∷ ended xs) (ended ys))

pub ended-cons : (x : List ℕ) (xs : List (List ℕ)) → ended (x ∷ xs) ≡ x ++ 10 ∷ ended xs
unfolding ended
ended-cons x xs = refl

-- a text has one list of lines
pub lines_apart : (xs ys : List (List ℕ)) → Each (Without 10) xs → Each (Without 10) ys → ended xs ≡ ended ys → xs ≡ ys
unfolding ended
lines_apart [] [] p q h = refl
lines_apart [] ([] ∷ ys) p q h = absurd (cc)
lines_apart [] ((c ∷ cs) ∷ ys) p q h = absurd (cc)
lines_apart ([] ∷ xs) [] p q h = absurd (cc)
lines_apart ((c ∷ cs) ∷ xs) [] p q h = absurd (cc)
lines_apart (x ∷ xs) (y ∷ ys) p q h =
    let both = cut_apart 10 x y (ended xs) (ended ys) p.0 q.0 h in
    let first : x ≡ y = both.0 in
    let rest : xs ≡ ys = lines_apart xs ys p.1 q.1 both.1 in
    cc

-- what a line is read as, is what heads the text that it is the first line of
pub headed : {A : Type 0} (Is : A → Type 0) (print : A → List ℕ) (text line rest : List ℕ) (a : A) → IsCut 10 text line rest → Reads Is print line a → Heads Is print text a rest
headed Is print text line rest a cut reads = (reads.0, cut.0 ∙ ap (λ xs. xs ++ 10 ∷ rest) reads.1)

pub not_headed : {A : Type 0} (Is : A → Type 0) (print : A → List ℕ) → ((a : A) → Is a → Without 10 (print a)) → (text line rest : List ℕ) → IsCut 10 text line rest → ReadsNone Is print line
    → HeadsNone Is print text
not_headed Is print plain text line rest cut none a t is e =
    none a is (cut_apart 10 line (print a) rest t cut.1 (plain a is) (sym cut.0 ∙ e)).0

pub no_line : {A : Type 0} (Is : A → Type 0) (print : A → List ℕ) (text : List ℕ) → Without 10 text → HeadsNone Is print text
no_line Is print text h a t is e = without_not 10 (print a) t (rw e at h)

-- what stands behind a word at the front of a line
pub front_none : {A : Type 0} (Is : A → Type 0) (print : A → List ℕ) (front line : List ℕ) → ((rest : List ℕ) → ¬ (line ≡ front ++ rest)) → ReadsNone Is (λ a. front ++ print a) line
front_none Is print front line h a is e = h (print a) e

pub front_reads : {A X : Type 0} (Is : A → Type 0) (print : A → List ℕ) (view : X → A) (front line rest : List ℕ) → line ≡ front ++ rest → (o : Option X)
    → MatchOption o (ReadsNone Is print rest) (λ x. Reads Is print rest (view x))
    → MatchOption o (ReadsNone Is (λ a. front ++ print a) line) (λ x. Reads Is (λ a. front ++ print a) line (view x))
front_reads Is print view front line rest e None none = λ a is f. none a is (append_cancel front rest (print a) (sym e ∙ f))
front_reads Is print view front line rest e (Some x) reads = (reads.0, e ∙ ap (λ xs. front ++ xs) reads.1)

pub front_other : {A : Type 0} (Is : A → Type 0) (print : A → List ℕ) (front line rest : List ℕ) → line ≡ front ++ rest → ReadsNone Is print rest → ReadsNone Is (λ a. front ++ print a) line
front_other Is print front line rest e none a is f = none a is (append_cancel front rest (print a) (sym e ∙ f))
