-- What is made of terms has no fewer nodes than these, so that what has too many is found early.
use Rattle.std.proofs.Common.{◌≡◌, ℕ, ◌+◌, ◌≤◌, Bool, true, false, cond, nat_le, nat_eq, ℤ, pos, negsuc, List, [], ◌∷◌, length, Option, Some, None, Ok, Err, IfSome, suc, refl, sym, ap, ◌∙◌, arith}
use Rattle.std.proofs.lemmas.Bool.Decides.{nat_tests}
use Rattle.ap_value.specs.declared.symbol.Symbol.{Symbol}
use Rattle.ap_value.specs.declared.value.Value.TheVariants.{Sym}
use Rattle.ap_term.specs.declared.term.Term.{Term, Quote}
use Rattle.ap_term.specs.Terms.{term_size}
use Rattle.ap_reader.specs.declared.form.Form.{Form}
use Rattle.ap_world.specs.Names.{if_name, equal_name, cons_name, plus_name, times_name, minus_name, less_name, not_name, append_name}
use Rattle.ap_translate.specs.declared.build.Maker.{Maker}
use Rattle.ap_translate.specs.declared.build.Maker.TheVariants as makers
use Rattle.ap_translate.specs.declared.build.Piece.{Piece}
use Rattle.ap_translate.specs.declared.macros.Macro.{Macro}
use Rattle.ap_translate.specs.declared.macros.Macro.TheVariants as m
use Rattle.ap_translate.specs.Answers.{Answer, ◌>>=◌, each}
use Rattle.ap_translate.specs.Quoted.{quote_name}
use Rattle.ap_translate.specs.Rows.{nil_term, t_term, integer_term, call_1, call_2, if_term, and_term, or_term, chained, joined, summed, built_few, built, turn_name, accessed, made, admits, pieced}
use Rattle.ap_translate.specs.Sizes.{total, few_by, few, small, capped}
use Rattle.ap_translate.specs.Kept.{kept_made, piece_size, few_pieces, small_piece, kept_pieced, quote_pieced, kept_quoted, as_piece}
use Rattle.ap_translate.proofs.Kept.{past}
use Rattle.ap_translate.proofs.Smalls.{small_none}
use Rattle.ap_translate.proofs.Grown.{size_call}

pub size_1 : (f : Symbol) (a : Term) → term_size (call_1 f a) ≡ term_size a + 1
size_1 f a = omega (arith, size_call f (a ∷ []))

pub size_2 : (f : Symbol) (a b : Term) → term_size (call_2 f a b) ≡ term_size a + term_size b + 1
size_2 f a b = omega (arith, size_call f (a ∷ b ∷ []))

pub size_if : (a b c : Term) → term_size (if_term a b c) ≡ term_size a + term_size b + term_size c + 1
size_if a b c = omega (arith, size_call if_name (a ∷ b ∷ c ∷ []))

-- joined from the right
abbrev Grows : (Term → Term → Term) → Type 0
Grows join = (a b : Term) → term_size a + term_size b ≤ term_size (join a b)

chained_size : (join : Term → Term → Term) → Grows join → (us : List Term) (e : Term) → total term_size us + term_size e ≤ term_size (chained join us e)
chained_size join g [] e = omega arith
chained_size join g (a ∷ us) e = let h = chained_size join g us e in let k = g a (chained join us e) in omega arith

joined_size : (join : Term → Term → Term) → Grows join → (e : Term) (us : List Term) → total term_size us ≤ term_size (joined join e us)
joined_size join g e [] = omega arith
joined_size join g e (a ∷ []) = omega arith
joined_size join g e (a ∷ b ∷ us) = let h = joined_size join g e (b ∷ us) in let k = g a (joined join e (b ∷ us)) in omega arith

summed_size : (join : Term → Term → Term) → Grows join → (e : Term) (us : List Term) → total term_size us ≤ term_size (summed join e us)
summed_size join g e [] = omega arith
summed_size join g e (a ∷ []) = let k = g e a in omega arith
summed_size join g e (a ∷ b ∷ us) = joined_size join g e (a ∷ b ∷ us)

call_grows : (f : Symbol) → Grows (call_2 f)
call_grows f = λ a b. omega (arith, size_2 f a b)

and_grows : Grows and_term
and_grows = λ a b. omega (arith, size_if a b nil_term)

or_grows : Grows or_term
or_grows = λ a b. omega (arith, size_if a a b)

-- where the number of terms is fixed
wrong : false ≡ true → ⊥
wrong q = cc

minus_size : (us : List Term) → admits (makers.Macro m.Minus) (length us) ≡ true → total term_size us ≤ term_size (built_few m.Minus us)
minus_size [] h = absurd (wrong h)
minus_size (a ∷ []) h = omega (arith, size_1 minus_name a)
minus_size (a ∷ b ∷ []) h = omega (arith, size_2 plus_name a (call_1 minus_name b), size_1 minus_name b)
minus_size (a ∷ b ∷ c ∷ us) h = absurd (too_many (length us) h)
  where
    too_many : (n : ℕ) → admits (makers.Macro m.Minus) (suc (suc (suc n))) ≡ true → ⊥
    too_many n q = grind (arith, nat_tests)

-- the two terms of a macro that takes two
two_size : (k : Macro) (join : Term → Term → Term) → ((a b : Term) → built_few k (a ∷ b ∷ []) ≡ join a b) → Grows join → (us : List Term) → length us ≡ 2
    → total term_size us ≤ term_size (built_few k us)
two_size k join e g [] h = absurd (omega arith)
two_size k join e g (a ∷ []) h = absurd (omega arith)
two_size k join e g (a ∷ b ∷ []) h = let q = ap term_size (e a b) in let p = g a b in omega arith
two_size k join e g (a ∷ b ∷ c ∷ us) h = absurd (omega arith)

one_size : (k : Macro) (n : ℤ) → ((a : Term) → built_few k (a ∷ []) ≡ call_2 plus_name (integer_term n) a) → (us : List Term) → length us ≡ 1
    → total term_size us ≤ term_size (built_few k us)
one_size k n e [] h = absurd (omega arith)
one_size k n e (a ∷ []) h = let q = ap term_size (e a) in omega (arith, size_2 plus_name (integer_term n) a)
one_size k n e (a ∷ b ∷ us) h = absurd (omega arith)

number : (m n : ℕ) → nat_eq m n ≡ true → m ≡ n
number m n h = grind (arith, nat_tests)

built_size : (k : Macro) (us : List Term) → admits (makers.Macro k) (length us) ≡ true → total term_size us ≤ term_size (built k us)
built_size m.And us h = joined_size and_term and_grows t_term us
built_size m.Or us h = joined_size or_term or_grows nil_term us
built_size m.Plus us h = summed_size (call_2 plus_name) (call_grows plus_name) (integer_term (pos 0)) us
built_size m.Times us h = summed_size (call_2 times_name) (call_grows times_name) (integer_term (pos 1)) us
built_size m.List us h = let k = chained_size (call_2 cons_name) (call_grows cons_name) us nil_term in omega arith
built_size m.ListStar us h = joined_size (call_2 cons_name) (call_grows cons_name) nil_term us
built_size m.Append us h = joined_size (call_2 append_name) (call_grows append_name) nil_term us
built_size m.Minus us h = minus_size us h
built_size m.Greater us h = two_size m.Greater (λ a b. call_2 less_name b a) (λ a b. refl) (λ a b. omega (arith, size_2 less_name b a)) us (number (length us) 2 h)
built_size m.AtMost us h =
    two_size m.AtMost (λ a b. call_1 not_name (call_2 less_name b a)) (λ a b. refl) (λ a b. omega (arith, size_1 not_name (call_2 less_name b a), size_2 less_name b a)) us (number (length us) 2 h)
built_size m.AtLeast us h =
    two_size m.AtLeast (λ a b. call_1 not_name (call_2 less_name a b)) (λ a b. refl) (λ a b. omega (arith, size_1 not_name (call_2 less_name a b), size_2 less_name a b)) us (number (length us) 2 h)
built_size m.Differs us h =
    two_size m.Differs (λ a b. call_1 not_name (call_2 equal_name a b)) (λ a b. refl) (λ a b. omega (arith, size_1 not_name (call_2 equal_name a b), size_2 equal_name a b)) us (number (length us) 2 h)
built_size m.Increment us h = one_size m.Increment (pos 1) (λ a. refl) us (number (length us) 1 h)
built_size m.Decrement us h = one_size m.Decrement (negsuc 0) (λ a. refl) us (number (length us) 1 h)
built_size m.Quote us h = absurd (wrong h)
built_size m.Cond us h = absurd (wrong h)
built_size m.Let us h = absurd (wrong h)
built_size m.LetStar us h = absurd (wrong h)

accessed_size : (path : List ℕ) (u : Term) → term_size u ≤ term_size (accessed path u)
accessed_size [] u = omega arith
accessed_size (c ∷ cs) u = let h = accessed_size cs u in omega (arith, size_1 (turn_name c) (accessed cs u))

alone_size : (k : Maker) (f : Term → Term) → ((a : Term) → made k (a ∷ []) ≡ f a) → ((a : Term) → term_size a ≤ term_size (f a)) → (us : List Term) → length us ≡ 1
    → total term_size us ≤ term_size (made k us)
alone_size k f e g [] h = absurd (omega arith)
alone_size k f e g (a ∷ []) h = let q = ap term_size (e a) in let p = g a in omega arith
alone_size k f e g (a ∷ b ∷ us) h = absurd (omega arith)

pub made_size : (k : Maker) (us : List Term) → admits k (length us) ≡ true → total term_size us ≤ term_size (made k us)
made_size (makers.Macro k) us h = built_size k us h
made_size (makers.Literal n) us h =
    alone_size (makers.Literal n) (call_2 plus_name (integer_term n)) (λ a. refl) (λ a. omega (arith, size_2 plus_name (integer_term n) a)) us (number (length us) 1 h)
made_size (makers.Path path) us h = alone_size (makers.Path path) (accessed path) (λ a. refl) (λ a. accessed_size path a) us (number (length us) 1 h)
made_size (makers.Call s) us h = omega (arith, size_call s us)

-- as many terms as forms
pub each_length : {A B : Type 0} (g : A → Answer B) (xs : List A) (ys : List B) → each g xs ≡ Ok ys → length ys ≡ length xs
each_length g [] ys h = ap length same
  where
    same : ys ≡ []
    same = cc
each_length {A} {B} g (x ∷ xs) ys h = go (g x) (each g xs) refl h (λ zs k. each_length g xs zs k)
  where
    go : (r : Answer B) (q : Answer (List B)) → each g xs ≡ q → (r >>= λ y. q >>= λ zs. Ok (y ∷ zs)) ≡ Ok ys → ((zs : List B) → each g xs ≡ Ok zs → length zs ≡ length xs) → length ys ≡ suc (length xs)
    go (Err e) q k l rest = absurd (no l)
      where
        no : Err e ≡ Ok ys → ⊥
        no j = cc
    go (Ok y) (Err e) k l rest = absurd (no l)
      where
        no : Err e ≡ Ok ys → ⊥
        no j = cc
    go (Ok y) (Ok zs) k l rest =
        let same : y ∷ zs ≡ ys = cc in
        let n = rest zs k in
        sym (ap length same) ∙ ap suc n

-- what is kept of a list and made of it
keeps : {A : Type 0} (weight : A → ℕ) (f : List A → Term) (xs : List A) → total weight xs ≤ term_size (f xs)
    → (b : Bool) → nat_le (total weight xs) 4096 ≡ b → (k : Option (List A) → Option Term) → k None ≡ None → k (Some xs) ≡ small (f xs) → small (f xs) ≡ k (cond b (Some xs) None)
keeps weight f xs g true h k none some = sym some
keeps weight f xs g false h k none some = let over = past (total weight xs) h in small_none (f xs) (omega arith) ∙ sym none

pub list_makes : {A : Type 0} (weight : A → ℕ) (f : List A → Term) (k : Option (List A) → Option Term) → k None ≡ None → ((xs : List A) → k (Some xs) ≡ small (f xs))
    → (r : Answer (List A)) (o : Option (List A)) → capped (few_by weight) r ≡ Ok o → ((xs : List A) → r ≡ Ok xs → total weight xs ≤ term_size (f xs))
    → capped small (r >>= λ xs. Ok (f xs)) ≡ Ok (k o)
list_makes weight f k none some (Err e) o h g = absurd (no h)
  where
    no : Err e ≡ Ok o → ⊥
    no q = cc
list_makes weight f k none some (Ok xs) o h g =
    let same : few_by weight xs ≡ o = cc in
    ap Ok (keeps weight f xs (g xs refl) (nat_le (total weight xs) 4096) refl k none (some xs) ∙ ap k same)

-- what a plan builds
pub plan_built : (k : Maker) (g : Form → Answer Term) (fs : List Form) (us : Option (List Term)) (o : Option Term) → admits k (length fs) ≡ true → capped few (each g fs) ≡ Ok us
    → o ≡ kept_made k us → capped small (each g fs >>= λ us. Ok (made k us)) ≡ Ok o
plan_built k g fs us o h read made_so =
    list_makes term_size (made k) (kept_made k) refl (λ xs. refl) (each g fs) us read
    (λ xs e. made_size k xs (ap (admits k) (each_length g fs xs e) ∙ h))
    ∙ ap Ok (sym made_so)

pub enough : (k : Maker) (g : Form → Answer Term) (fs : List Form) (us : Option (List Term)) → admits k (length fs) ≡ true → capped few (each g fs) ≡ Ok us
    → IfSome us (λ xs. admits k (length xs) ≡ true)
enough k g fs None h read = tt
enough k g fs (Some us) h read = go (each g fs) refl read
  where
    kept : (xs : List Term) (b : Bool) → cond b (Some xs) None ≡ Some us → xs ≡ us
    kept xs true q = cc
    kept xs false q = cc

    go : (r : Answer (List Term)) → each g fs ≡ r → capped few r ≡ Ok (Some us) → admits k (length us) ≡ true
    go (Err e) q l = absurd (no l)
      where
        no : Err e ≡ Ok (Some us) → ⊥
        no j = cc
    go (Ok xs) q l =
        let some : few xs ≡ Some us = cc in
        let same = kept xs (nat_le (total term_size xs) 4096) some in
        ap (λ ys. admits k (length ys)) (sym same) ∙ ap (admits k) (each_length g fs xs q) ∙ h

-- backquoted lists
pieced_size : (xs : List Piece) → total piece_size xs ≤ term_size (pieced xs)
pieced_size [] = omega arith
pieced_size (x ∷ xs) = by_kind x.spliced (pieced_size xs)
  where
    by_kind : (b : Bool) → total piece_size xs ≤ term_size (pieced xs) → piece_size x + total piece_size xs ≤ term_size (cond b (call_2 append_name x.term (pieced xs)) (call_2 cons_name x.term (pieced xs)))
    by_kind true h = omega (arith, size_2 append_name x.term (pieced xs))
    by_kind false h = omega (arith, size_2 cons_name x.term (pieced xs))

pub list_pieced : (r : Answer (List Piece)) (xs : Option (List Piece)) (o : Option Term) → capped few_pieces r ≡ Ok xs → o ≡ kept_pieced xs
    → capped small (r >>= λ ys. Ok (pieced ys)) ≡ Ok o
list_pieced r xs o read made_so = list_makes piece_size pieced kept_pieced refl (λ ys. refl) r xs read (λ ys e. pieced_size ys) ∙ ap Ok (sym made_so)

quote_size : (x : Piece) → piece_size x ≤ term_size (quote_pieced x)
quote_size x = let h = pieced_size (x ∷ []) in omega (arith, size_2 cons_name (Quote (Sym quote_name)) (pieced (x ∷ [])))

pub one_pieced : (r : Answer Piece) (x : Option Piece) (o : Option Term) → capped small_piece r ≡ Ok x → o ≡ kept_quoted x
    → capped small (r >>= λ y. Ok (quote_pieced y)) ≡ Ok o
one_pieced (Err e) x o read made_so = absurd (no read)
  where
    no : Err e ≡ Ok x → ⊥
    no q = cc
one_pieced (Ok y) x o read made_so = let same : small_piece y ≡ x = cc in ap Ok (by_size (nat_le (piece_size y) 4096) refl ∙ ap kept_quoted same ∙ sym made_so)
  where
    by_size : (b : Bool) → nat_le (piece_size y) 4096 ≡ b → small (quote_pieced y) ≡ kept_quoted (cond b (Some y) None)
    by_size true h = refl
    by_size false h = let over = past (piece_size y) h in small_none (quote_pieced y) (omega (arith, quote_size y))

pub piece_kept : (b : Bool) (r : Answer Term) (o : Option Term) → capped small r ≡ Ok o → capped small_piece (r >>= λ u. Ok (record { spliced = b; term = u })) ≡ Ok (as_piece b o)
piece_kept b (Err e) o h = absurd (no h)
  where
    no : Err e ≡ Ok o → ⊥
    no q = cc
piece_kept b (Ok u) o h = let same : small u ≡ o = cc in ap Ok (by_size (nat_le (term_size u) 4096) ∙ ap (as_piece b) same)
  where
    by_size : (c : Bool) → cond c (Some (record { spliced = b; term = u })) None ≡ as_piece b (cond c (Some u) None)
    by_size true = refl
    by_size false = refl
