-- Values and terms that print alike are one.
use Rattle.std.proofs.Common.{◌≡◌, ℕ, ◌<◌, ◌^◌, ℤ, pos, negsuc, ◌⊎◌, inl, inr, Bool, true, false, List, [], ◌∷◌, ◌++◌, map, codes, refl, sym, ap, subst, ◌∙◌, arith, append_assoc}
use Rattle.std.specs.Prelude.{if◌then◌else◌}
use Rattle.std.specs.Fmt.{signed_decimal}
use Rattle.std.proofs.lemmas.Bool.{ltb-true}
use Rattle.std.proofs.lemmas.List.{append_cancel_right}
use lib.Signed.{mag}
use Rattle.ap_list.specs.Lists.{Each, all_true}
use Rattle.ap_value.specs.declared.symbol.Symbol.{Symbol}
use Rattle.ap_value.specs.declared.value.Value.{Value, Int, Chr, Str, Sym, Cons}
use Rattle.ap_value.specs.Values.{acl2}
use Rattle.ap_value.specs.Fits.{fits, fit_step, all_fit}
use Rattle.ap_value.proofs.Equals.{both, symbol_eq-true}
use Rattle.ap_value.proofs.Induction.{value_ind, fold_int, fold_chr, fold_str, fold_sym, fold_cons}
use Rattle.ap_term.specs.declared.term.Term.{Term, out-Term, Var, Quote, Call}
use Rattle.ap_term.specs.declared.term.Term.TheOpen.{Term-F}
use Rattle.ap_term.specs.Terms as terms
use Rattle.ap_term.specs.Terms.{term_fits}
use Rattle.ap_term.specs.Compared.{scan, Ends, IsWhole, stands_alone}
use Rattle.ap_term.specs.Starts.{arguments_text}
use Rattle.ap_term.specs.Printed.{quoted, symbol_text, character_text, is_nil, dotted_rest, atom_written, written_step, written, value_text, rest_text, term_text}
use Rattle.ap_term.proofs.AtomTexts.{symbol_in, symbol_in_text, value_in, string_in_text, character_in_text, integer_in_text, name_in_text}
use Rattle.ap_term.proofs.Folds.{cons_text, cons_rest, var_text, constant_text, call_text}
use Rattle.ap_term.proofs.Induction.{term_ind, fold_quote, fold_call, OutSays, out_says}
use Rattle.ap_term.proofs.Parts.{Unopened, alone_unopened}
use Rattle.ap_term.proofs.Wholes.{symbol_whole, string_whole, character_whole, integer_whole}

cut : (c d : ℕ) (xs ys : List ℕ) → c ∷ xs ≡ d ∷ ys → xs ≡ ys
cut c d xs ys e = cc

first_same : (c d : ℕ) (xs ys : List ℕ) → c ∷ xs ≡ d ∷ ys → c ≡ d
first_same c d xs ys e = cc

-- two atoms and what ends them
atoms_alike : (p q s t : List ℕ) → IsWhole p → IsWhole q → Ends s → Ends t → p ++ s ≡ q ++ t → (p ≡ q) × (s ≡ t)
atoms_alike p q s t h k es et e =
    let tails : s ≡ t = sym (h.atom s es) ∙ ap scan e ∙ k.atom t et in
    (append_cancel_right p q s (e ∙ ap (λ l. q ++ l) (sym tails)), tails)

-- an atom opens with neither a quote mark nor a parenthesis
not_quoted : (p s t : List ℕ) → IsWhole p → p ++ s ≡ 39 ∷ t → ⊥
not_quoted p s t h e = go p (alone_unopened p h.alone) e
  where
    go : (p : List ℕ) → Unopened p → p ++ s ≡ 39 ∷ t → ⊥
    go [] u e = u
    go (c ∷ cs) u e = u.0 (first_same c 39 (cs ++ s) t e)

not_listed : (p s t : List ℕ) → IsWhole p → p ++ s ≡ 40 ∷ t → ⊥
not_listed p s t h e = go p (alone_unopened p h.alone) e
  where
    go : (p : List ℕ) → Unopened p → p ++ s ≡ 40 ∷ t → ⊥
    go [] u e = u
    go (c ∷ cs) u e = u.1 (first_same c 40 (cs ++ s) t e)

-- no atom is a dot before a space
not_dot : (p s t : List ℕ) → IsWhole p → Ends s → p ++ s ≡ 46 ∷ 32 ∷ t → ⊥
not_dot p s t h es e =
    let tails : s ≡ 32 ∷ t = sym (h.atom s es) ∙ ap scan e in
    let whole : p ≡ 46 ∷ [] = append_cancel_right p (46 ∷ []) s (e ∙ ap (λ l. 46 ∷ l) (sym tails)) in
    let alone : stands_alone (46 ∷ []) ≡ true = ap stands_alone (sym whole) ∙ h.alone in
    let no : false ≡ true = alone in cc

-- how a value that is no cons is written as the rest of a list
abbrev RestIs : Value → Type 0
RestIs v = ((rest_text v ≡ 41 ∷ []) × (v ≡ Sym (acl2 (codes "NIL")))) ⊎ (rest_text v ≡ 32 ∷ 46 ∷ 32 ∷ (value_text v ++ 41 ∷ []))

-- its text is an atom and says which value it is
abbrev TextIs : Value → Type 0
TextIs v = all_fit v ≡ true → IsWhole (value_text v) × (value_in (value_text v) ≡ v)

-- a value that is no cons, or one
data Shape (v : Value) : Type 0 where
  atom : TextIs v → RestIs v → Shape v
  pair : (a b : Value) → v ≡ Cons a b → Shape v

-- a value that is written as its text, after a dot as the rest of a list
dotted : (v : Value) (text : List ℕ) → written v ≡ atom_written text → (all_fit v ≡ true → IsWhole text × (value_in text ≡ v)) → TextIs v × RestIs v
unfolding dotted_rest
dotted v text e h = (
  λ fit. subst (λ p. IsWhole p × (value_in p ≡ v)) (sym (ap (λ w. w.alone) e)) (h fit),
  inr (ap (λ w. w.rest) e ∙ ap (λ p. 32 ∷ 46 ∷ 32 ∷ (p ++ 41 ∷ [])) (sym (ap (λ w. w.alone) e))),
)

small : (n : ℤ) → fits n ≡ true → mag n < 2 ^ 127
small (pos n) h = ltb-true n (2 ^ 127) h
small (negsuc n) h = ltb-true n (2 ^ 127) h

int_is : (n : ℤ) → TextIs (Int n) × RestIs (Int n)
int_is n = dotted (Int n) (signed_decimal n) (fold_int written_step n)
    (λ fit. let f : fits n ≡ true = sym (fold_int fit_step n) ∙ fit in (integer_whole n (small n f), integer_in_text n f))

chr_is : (c : ℕ) → TextIs (Chr c) × RestIs (Chr c)
chr_is c = dotted (Chr c) (character_text c) (fold_chr written_step c) (λ fit. (character_whole c, character_in_text c))

str_is : (s : List ℕ) → TextIs (Str s) × RestIs (Str s)
str_is s = dotted (Str s) (quoted 34 s) (fold_str written_step s) (λ fit. (string_whole s, string_in_text s))

sym_is : (s : Symbol) → TextIs (Sym s) × RestIs (Sym s)
unfolding is_nil
sym_is s = by (is_nil s) refl (fold_sym written_step s)
  where
    by : (b : Bool) → is_nil s ≡ b → written (Sym s) ≡ record { alone = symbol_text s; rest = if is_nil s then codes ")" else dotted_rest (symbol_text s) } → TextIs (Sym s) × RestIs (Sym s)
    by true q e =
        let w = e ∙ ap (λ b. record { alone = symbol_text s; rest = if b then codes ")" else dotted_rest (symbol_text s) }) q in (
          λ fit. subst (λ p. IsWhole p × (value_in p ≡ Sym s)) (sym (ap (λ w. w.alone) w)) (symbol_whole s, name_in_text s),
          inl (ap (λ w. w.rest) w, ap Sym (symbol_eq-true s (acl2 (codes "NIL")) q)),
        )
    by false q e =
        dotted (Sym s) (symbol_text s) (e ∙ ap (λ b. record { alone = symbol_text s; rest = if b then codes ")" else dotted_rest (symbol_text s) }) q)
        (λ fit. (symbol_whole s, name_in_text s))

shape : (v : Value) → Shape v
shape = value_ind Shape (λ n. of_atom (int_is n)) (λ c. of_atom (chr_is c)) (λ s. of_atom (str_is s)) (λ s. of_atom (sym_is s)) (λ a b f g. pair a b refl)
  where
    of_atom : {v : Value} → TextIs v × RestIs v → Shape v
    of_atom h = atom h.0 h.1

space_ends : (xs : List ℕ) → Ends (32 ∷ xs)
space_ends xs = inl refl

close_ends : (xs : List ℕ) → Ends (41 ∷ xs)
close_ends xs = inr refl

rest_ends : (v : Value) (s : List ℕ) → Ends (rest_text v ++ s)
rest_ends v s = go (shape v)
  where
    go : Shape v → Ends (rest_text v ++ s)
    go (atom h (inl r)) = subst (λ p. Ends (p ++ s)) (sym r.0) (close_ends s)
    go (atom h (inr r)) = subst (λ p. Ends (p ++ s)) (sym r) (space_ends ((46 ∷ 32 ∷ (value_text v ++ 41 ∷ [])) ++ s))
    go (pair a b e) = subst (λ p. Ends (p ++ s)) (sym (cons_rest v a b e)) (space_ends ((value_text a ++ rest_text b) ++ s))

-- what begins as this value's text is this value's text, and so with the rest of a list
record Told (v : Value) : Type 0 where
  alone : (w : Value) (s t : List ℕ) → all_fit v ≡ true → all_fit w ≡ true → Ends s → Ends t → value_text v ++ s ≡ value_text w ++ t → (v ≡ w) × (s ≡ t)
  rest : (w : Value) (s t : List ℕ) → all_fit v ≡ true → all_fit w ≡ true → rest_text v ++ s ≡ rest_text w ++ t → (v ≡ w) × (s ≡ t)

pair_fits : (v a b : Value) → v ≡ Cons a b → all_fit v ≡ true → (all_fit a ≡ true) × (all_fit b ≡ true)
pair_fits v a b e h = both (all_fit a) (all_fit b) (sym (fold_cons fit_step a b) ∙ ap all_fit (sym e) ∙ h)

-- the text of a pair, and of a pair as the rest of a list
pair_text : (v a b : Value) (s : List ℕ) → v ≡ Cons a b → value_text v ++ s ≡ 40 ∷ (value_text a ++ (rest_text b ++ s))
pair_text v a b s e = ap (λ l. l ++ s) (cons_text v a b e) ∙ ap (λ l. 40 ∷ l) (append_assoc (value_text a) (rest_text b) s)

pair_rest : (v a b : Value) (s : List ℕ) → v ≡ Cons a b → rest_text v ++ s ≡ 32 ∷ (value_text a ++ (rest_text b ++ s))
pair_rest v a b s e = ap (λ l. l ++ s) (cons_rest v a b e) ∙ ap (λ l. 32 ∷ l) (append_assoc (value_text a) (rest_text b) s)

dot_text : (v : Value) (s : List ℕ) → rest_text v ≡ 32 ∷ 46 ∷ 32 ∷ (value_text v ++ 41 ∷ []) → rest_text v ++ s ≡ 32 ∷ 46 ∷ 32 ∷ (value_text v ++ 41 ∷ s)
dot_text v s e = ap (λ l. l ++ s) e ∙ ap (λ l. 32 ∷ 46 ∷ 32 ∷ l) (append_assoc (value_text v) (41 ∷ []) s)

-- no value stands before a space as a dot does
pair_not_dot : (v : Value) (s t : List ℕ) → all_fit v ≡ true → Ends s → value_text v ++ s ≡ 46 ∷ 32 ∷ t → ⊥
pair_not_dot v s t fit es e = go (shape v)
  where
    go : Shape v → ⊥
    go (atom h r) = not_dot (value_text v) s t (h fit).0 es e
    go (pair a b p) = let k : 40 ≡ 46 = first_same 40 46 (value_text a ++ (rest_text b ++ s)) (32 ∷ t) (sym (pair_text v a b s p) ∙ e) in omega (arith, k)

atom_alone : (v : Value) → TextIs v
    → (w : Value) (s t : List ℕ) → all_fit v ≡ true → all_fit w ≡ true → Ends s → Ends t → value_text v ++ s ≡ value_text w ++ t → (v ≡ w) × (s ≡ t)
atom_alone v h w s t fv fw es et e = go (shape w)
  where
    go : Shape w → (v ≡ w) × (s ≡ t)
    go (atom k r) =
        let p = atoms_alike (value_text v) (value_text w) s t (h fv).0 (k fw).0 es et e in
        (sym (h fv).1 ∙ ap value_in p.0 ∙ (k fw).1, p.1)
    go (pair a b p) = absurd (not_listed (value_text v) s (value_text a ++ (rest_text b ++ t)) (h fv).0 (e ∙ pair_text w a b t p))

atom_told : (v : Value) → TextIs v × RestIs v → Told v
atom_told v is = record { alone = atom_alone v is.0; rest = λ w s t fv fw e. go w s t fv fw e is.1 (shape w) }
  where
    go : (w : Value) (s t : List ℕ) → all_fit v ≡ true → all_fit w ≡ true → rest_text v ++ s ≡ rest_text w ++ t → RestIs v → Shape w → (v ≡ w) × (s ≡ t)
    go w s t fv fw e (inl x) (atom k (inl y)) =
        (x.1 ∙ sym y.1, cut 41 41 s t (ap (λ l. l ++ s) (sym x.0) ∙ e ∙ ap (λ l. l ++ t) y.0))
    go w s t fv fw e (inl x) (atom k (inr y)) =
        let n : 41 ≡ 32 = first_same 41 32 s (46 ∷ 32 ∷ (value_text w ++ 41 ∷ t)) (ap (λ l. l ++ s) (sym x.0) ∙ e ∙ dot_text w t y) in absurd (omega (arith, n))
    go w s t fv fw e (inl x) (pair a b p) =
        let n : 41 ≡ 32 = first_same 41 32 s (value_text a ++ (rest_text b ++ t)) (ap (λ l. l ++ s) (sym x.0) ∙ e ∙ pair_rest w a b t p) in absurd (omega (arith, n))
    go w s t fv fw e (inr x) (atom k (inl y)) =
        let n : 32 ≡ 41 = first_same 32 41 (46 ∷ 32 ∷ (value_text v ++ 41 ∷ s)) t (sym (dot_text v s x) ∙ e ∙ ap (λ l. l ++ t) y.0) in absurd (omega (arith, n))
    go w s t fv fw e (inr x) (atom k (inr y)) =
        let f : 32 ∷ 46 ∷ 32 ∷ (value_text v ++ 41 ∷ s) ≡ 32 ∷ 46 ∷ 32 ∷ (value_text w ++ 41 ∷ t) = sym (dot_text v s x) ∙ e ∙ dot_text w t y in
        let g : value_text v ++ 41 ∷ s ≡ value_text w ++ 41 ∷ t = cc in
        let p = atom_alone v is.0 w (41 ∷ s) (41 ∷ t) fv fw (close_ends s) (close_ends t) g in
        (p.0, cut 41 41 s t p.1)
    go w s t fv fw e (inr x) (pair a b p) =
        let f : 32 ∷ 46 ∷ 32 ∷ (value_text v ++ 41 ∷ s) ≡ 32 ∷ (value_text a ++ (rest_text b ++ t)) = sym (dot_text v s x) ∙ e ∙ pair_rest w a b t p in
        absurd (pair_not_dot a (rest_text b ++ t) (value_text v ++ 41 ∷ s) (pair_fits w a b p fw).0 (rest_ends b t) (sym (cut 32 32 _ _ f)))

pair_told : (a b : Value) → Told a → Told b → Told (Cons a b)
pair_told a b f g = record { alone = λ w s t fv fw es et e. alone w s t fv fw e (shape w); rest = λ w s t fv fw e. rest w s t fv fw e (shape w) }
  where
    parts : (c d : Value) (s t : List ℕ) → all_fit (Cons a b) ≡ true → (all_fit c ≡ true) × (all_fit d ≡ true) → value_text a ++ (rest_text b ++ s) ≡ value_text c ++ (rest_text d ++ t)
        → (a ≡ c) × ((b ≡ d) × (s ≡ t))
    parts c d s t fv fs e =
        let k = pair_fits (Cons a b) a b refl fv in
        let p = f.alone c (rest_text b ++ s) (rest_text d ++ t) k.0 fs.0 (rest_ends b s) (rest_ends d t) e in
        (p.0, g.rest d s t k.1 fs.1 p.1)

    same : (w c d : Value) (s t : List ℕ) → w ≡ Cons c d → (a ≡ c) × ((b ≡ d) × (s ≡ t)) → (Cons a b ≡ w) × (s ≡ t)
    same w c d s t q p = (ap (λ x. Cons x b) p.0 ∙ ap (λ x. Cons c x) p.1.0 ∙ sym q, p.1.1)

    alone : (w : Value) (s t : List ℕ) → all_fit (Cons a b) ≡ true → all_fit w ≡ true → value_text (Cons a b) ++ s ≡ value_text w ++ t → Shape w → (Cons a b ≡ w) × (s ≡ t)
    alone w s t fv fw e (atom k r) = absurd (not_listed (value_text w) t (value_text a ++ (rest_text b ++ s)) (k fw).0 (sym e ∙ pair_text (Cons a b) a b s refl))
    alone w s t fv fw e (pair c d q) =
        same w c d s t q (parts c d s t fv (pair_fits w c d q fw) (cut 40 40 _ _ (sym (pair_text (Cons a b) a b s refl) ∙ e ∙ pair_text w c d t q)))

    rest : (w : Value) (s t : List ℕ) → all_fit (Cons a b) ≡ true → all_fit w ≡ true → rest_text (Cons a b) ++ s ≡ rest_text w ++ t → Shape w → (Cons a b ≡ w) × (s ≡ t)
    rest w s t fv fw e (atom k (inl y)) =
        let n : 32 ≡ 41 = first_same 32 41 (value_text a ++ (rest_text b ++ s)) t (sym (pair_rest (Cons a b) a b s refl) ∙ e ∙ ap (λ l. l ++ t) y.0) in absurd (omega (arith, n))
    rest w s t fv fw e (atom k (inr y)) =
        let n : 32 ∷ (value_text a ++ (rest_text b ++ s)) ≡ 32 ∷ 46 ∷ 32 ∷ (value_text w ++ 41 ∷ t) = sym (pair_rest (Cons a b) a b s refl) ∙ e ∙ dot_text w t y in
        absurd (pair_not_dot a (rest_text b ++ s) (value_text w ++ 41 ∷ t) (pair_fits (Cons a b) a b refl fv).0 (rest_ends b s) (cut 32 32 _ _ n))
    rest w s t fv fw e (pair c d q) =
        same w c d s t q (parts c d s t fv (pair_fits w c d q fw) (cut 32 32 _ _ (sym (pair_rest (Cons a b) a b s refl) ∙ e ∙ pair_rest w c d t q)))

told : (v : Value) → Told v
told = value_ind Told (λ n. atom_told (Int n) (int_is n)) (λ c. atom_told (Chr c) (chr_is c)) (λ s. atom_told (Str s) (str_is s)) (λ s. atom_told (Sym s) (sym_is s)) pair_told

-- values that print alike are one
pub values_apart : (v w : Value) → all_fit v ≡ true → all_fit w ≡ true → value_text v ≡ value_text w → v ≡ w
values_apart v w fv fw e = ((told v).alone w [] [] fv fw tt tt (ap (λ l. l ++ []) e)).0

-- what begins as this term's text is this term's text
abbrev TermTold : Term → Type 0
TermTold t = (u : Term) (r s : List ℕ) → term_fits t ≡ true → term_fits u ≡ true → Ends r → Ends s → term_text t ++ r ≡ term_text u ++ s → (t ≡ u) × (r ≡ s)

call_starts : (t : Term) (f : Symbol) (ts : List Term) (r : List ℕ) → t ≡ Call f ts → term_text t ++ r ≡ 40 ∷ (symbol_text f ++ (arguments_text (map term_text ts) ++ r))
call_starts t f ts r e = ap (λ l. l ++ r) (call_text t f ts e) ∙ ap (λ l. 40 ∷ l) (append_assoc (symbol_text f) (arguments_text (map term_text ts)) r)

constant_starts : (t : Term) (v : Value) (r : List ℕ) → t ≡ Quote v → term_text t ++ r ≡ 39 ∷ (value_text v ++ r)
constant_starts t v r e = ap (λ l. l ++ r) (constant_text t v e)

variable_starts : (t : Term) (x : Symbol) (r : List ℕ) → t ≡ Var x → term_text t ++ r ≡ symbol_text x ++ r
variable_starts t x r e = ap (λ l. l ++ r) (var_text t x e)

constant_fits : (t : Term) (v : Value) → t ≡ Quote v → term_fits t ≡ true → all_fit v ≡ true
constant_fits t v e h = sym (fold_quote terms.fit_step v) ∙ ap term_fits (sym e) ∙ h

call_fits : (t : Term) (f : Symbol) (ts : List Term) → t ≡ Call f ts → term_fits t ≡ true → all_true (map term_fits ts) ≡ true
call_fits t f ts e h = sym (fold_call terms.fit_step f ts) ∙ ap term_fits (sym e) ∙ h

var_told : (x : Symbol) → TermTold (Var x)
var_told x u r s ft fu er es e = go (out-Term u) (out_says u) (sym (variable_starts (Var x) x r refl) ∙ e)
  where
    go : (y : Term-F Term) → OutSays u y → symbol_text x ++ r ≡ term_text u ++ s → (Var x ≡ u) × (r ≡ s)
    go (Term-F.Var y) o k =
        let p = atoms_alike (symbol_text x) (symbol_text y) r s (symbol_whole x) (symbol_whole y) er es (k ∙ variable_starts u y s o) in
        (ap Var (sym (symbol_in_text x) ∙ ap symbol_in p.0 ∙ symbol_in_text y) ∙ sym o, p.1)
    go (Term-F.Quote v) o k = absurd (not_quoted (symbol_text x) r (value_text v ++ s) (symbol_whole x) (k ∙ constant_starts u v s o))
    go (Term-F.Call f ts) o k = absurd (not_listed (symbol_text x) r (symbol_text f ++ (arguments_text (map term_text ts) ++ s)) (symbol_whole x) (k ∙ call_starts u f ts s o))

quote_told : (v : Value) → TermTold (Quote v)
quote_told v u r s ft fu er es e = go (out-Term u) (out_says u) (sym (constant_starts (Quote v) v r refl) ∙ e)
  where
    go : (y : Term-F Term) → OutSays u y → 39 ∷ (value_text v ++ r) ≡ term_text u ++ s → (Quote v ≡ u) × (r ≡ s)
    go (Term-F.Var y) o k = absurd (not_quoted (symbol_text y) s (value_text v ++ r) (symbol_whole y) (sym (k ∙ variable_starts u y s o)))
    go (Term-F.Quote w) o k =
        let p = (told v).alone w r s (constant_fits (Quote v) v refl ft) (constant_fits u w o fu) er es (cut 39 39 _ _ (k ∙ constant_starts u w s o)) in
        (ap Quote p.0 ∙ sym o, p.1)
    go (Term-F.Call f ts) o k =
        let n : 39 ≡ 40 = first_same 39 40 (value_text v ++ r) (symbol_text f ++ (arguments_text (map term_text ts) ++ s)) (k ∙ call_starts u f ts s o) in absurd (omega (arith, n))

arguments_end : (ts : List (List ℕ)) (r : List ℕ) → Ends (arguments_text ts ++ r)
arguments_end [] r = close_ends r
arguments_end (t ∷ ts) r = space_ends ((t ++ arguments_text ts) ++ r)

argument_starts : (t : List ℕ) (ts : List (List ℕ)) (r : List ℕ) → arguments_text (t ∷ ts) ++ r ≡ 32 ∷ (t ++ (arguments_text ts ++ r))
argument_starts t ts r = ap (λ l. 32 ∷ l) (append_assoc t (arguments_text ts) r)

arguments_told : (ts us : List Term) (r s : List ℕ) → Each TermTold ts → all_true (map term_fits ts) ≡ true → all_true (map term_fits us) ≡ true
    → arguments_text (map term_text ts) ++ r ≡ arguments_text (map term_text us) ++ s → (ts ≡ us) × (r ≡ s)
arguments_told [] [] r s es ft fu e = (refl, cut 41 41 r s e)
arguments_told [] (u ∷ us) r s es ft fu e =
    let n : 41 ≡ 32 = first_same 41 32 r ((term_text u ++ arguments_text (map term_text us)) ++ s) e in absurd (omega (arith, n))
arguments_told (t ∷ ts) [] r s es ft fu e =
    let n : 32 ≡ 41 = first_same 32 41 ((term_text t ++ arguments_text (map term_text ts)) ++ r) s e in absurd (omega (arith, n))
arguments_told (t ∷ ts) (u ∷ us) r s es ft fu e =
    let k = both (term_fits t) (all_true (map term_fits ts)) ft in
    let m = both (term_fits u) (all_true (map term_fits us)) fu in
    let more = arguments_text (map term_text ts) ++ r in
    let others = arguments_text (map term_text us) ++ s in
    let p = es.0 u more others k.0 m.0 (arguments_end (map term_text ts) r) (arguments_end (map term_text us) s)
    (cut 32 32 _ _ (sym (argument_starts (term_text t) (map term_text ts) r) ∙ e ∙ argument_starts (term_text u) (map term_text us) s)) in
    let q = arguments_told ts us r s es.1 k.1 m.1 p.1 in
    (ap (λ x. x ∷ ts) p.0 ∙ ap (λ x. u ∷ x) q.0, q.1)

call_told : (f : Symbol) (ts : List Term) → Each TermTold ts → TermTold (Call f ts)
call_told f ts es u r s ft fu er ends e = go (out-Term u) (out_says u) (sym (call_starts (Call f ts) f ts r refl) ∙ e)
  where
    go : (y : Term-F Term) → OutSays u y → 40 ∷ (symbol_text f ++ (arguments_text (map term_text ts) ++ r)) ≡ term_text u ++ s → (Call f ts ≡ u) × (r ≡ s)
    go (Term-F.Var y) o k = absurd (not_listed (symbol_text y) s (symbol_text f ++ (arguments_text (map term_text ts) ++ r)) (symbol_whole y) (sym (k ∙ variable_starts u y s o)))
    go (Term-F.Quote w) o k =
        let n : 40 ≡ 39 = first_same 40 39 (symbol_text f ++ (arguments_text (map term_text ts) ++ r)) (value_text w ++ s) (k ∙ constant_starts u w s o) in absurd (omega (arith, n))
    go (Term-F.Call g us) o k =
        let p = atoms_alike (symbol_text f) (symbol_text g) (arguments_text (map term_text ts) ++ r) (arguments_text (map term_text us) ++ s) (symbol_whole f) (symbol_whole g)
        (arguments_end (map term_text ts) r) (arguments_end (map term_text us) s) (cut 40 40 _ _ (k ∙ call_starts u g us s o)) in
        let q = arguments_told ts us r s es (call_fits (Call f ts) f ts refl ft) (call_fits u g us o fu) p.1 in
        (ap (λ x. Call x ts) (sym (symbol_in_text f) ∙ ap symbol_in p.0 ∙ symbol_in_text g) ∙ ap (λ x. Call g x) q.0 ∙ sym o, q.1)

-- terms that print alike are one
pub terms_apart : (t u : Term) → term_fits t ≡ true → term_fits u ≡ true → term_text t ≡ term_text u → t ≡ u
terms_apart t u ft fu e = (term_ind TermTold var_told quote_told call_told t u [] [] ft fu tt tt (ap (λ l. l ++ []) e)).0
