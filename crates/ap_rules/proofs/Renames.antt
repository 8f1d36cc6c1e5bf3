-- What is found renames.
use Rattle.std.proofs.Common.{◌≡◌, ◌⊎◌, inl, inr, Bool, true, false, cond, ◌||◌, List, [], ◌∷◌, ◌++◌, map, Option, Some, None, unwrap_or, refl, ap, sym, ◌∙◌, subst, true≢false}
use Rattle.ap_list.specs.Lists.{Each, AnyOf, in_turn, is_among, lookup_by}
use Rattle.ap_list.proofs.Eachs.{each_append}
use Rattle.ap_value.specs.declared.symbol.Symbol.{Symbol}
use Rattle.ap_value.specs.declared.value.Value.{Value}
use Rattle.ap_value.specs.Values.{symbol_eq}
use Rattle.ap_value.proofs.Equals.{both, symbol_eq-true, symbol_eq-same}
use Rattle.ap_term.specs.declared.term.Term.{Term, fold-Term, out-Term, Var, Quote, Call}
use Rattle.ap_term.specs.declared.term.Term.TheOpen.{Term-F}
use Rattle.ap_term.specs.Equal.{term_eq}
use Rattle.ap_term.proofs.Equals.{term_eq-true}
use Rattle.ap_term.proofs.Induction.{term_ind, fold_var, fold_quote, fold_call, OutSays, out_says}
use Rattle.ap_term.specs.Terms.{vars_after}
use Rattle.ap_world.specs.Rules.{Renaming, Renames, same_bool, agrees, with_renaming, rename_all, rename_var, rename_call, rename_step}
use Rattle.ap_world.proofs.Written.{vars_var, vars_quote, vars_call}
use Rattle.ap_rules.specs.Renaming.{renamed_step, renamed, IsRenamed}

abbrev pub R : Term → Renames
R = fold-Term Renames rename_step

pub r_var : (x : Symbol) (u : Term) (s : Renaming) → R (Var x) u s ≡ rename_var x (out-Term u) u s
r_var x u s = ap (λ k. k u s) (fold_var rename_step x)

pub r_quote : (v : Value) (u : Term) (s : Renaming) → R (Quote v) u s ≡ cond (term_eq (Quote v) u) (Some s) None
r_quote v u s = ap (λ k. k u s) (fold_quote rename_step v)

pub r_call : (f : Symbol) (ts : List Term) (u : Term) (s : Renaming) → R (Call f ts) u s ≡ rename_call f (map R ts) (out-Term u) s
r_call f ts u s = ap (λ k. k u s) (fold_call rename_step f ts)

pub renamed_var : (h : Symbol → Symbol) (x : Symbol) → renamed h (Var x) ≡ Var (h x)
renamed_var h x = fold_var (renamed_step h) x

pub renamed_quote : (h : Symbol → Symbol) (v : Value) → renamed h (Quote v) ≡ Quote v
renamed_quote h v = fold_quote (renamed_step h) v

pub renamed_call : (h : Symbol → Symbol) (f : Symbol) (ts : List Term) → renamed h (Call f ts) ≡ Call f (map (renamed h) ts)
renamed_call h f ts = fold_call (renamed_step h) f ts

-- a pair stands in a renaming
abbrev pub Among : Symbol × Symbol → Renaming → Type 0
Among p s = AnyOf (λ q. q ≡ p) s

-- firsts are the same where seconds are
abbrev Apart : Renaming → Type 0
Apart s = (p q : Symbol × Symbol) → Among p s → Among q s → symbol_eq p.0 q.0 ≡ symbol_eq p.1 q.1

abbrev Follows : (Symbol → Symbol) → Renaming → Type 0
Follows h s = (p : Symbol × Symbol) → Among p s → h p.0 ≡ p.1

abbrev Bound : Renaming → Symbol → Type 0
Bound s x = (y : Symbol) × Among (x, y) s

-- what holds of each symbol of a list holds of one that is among them
pub each_among : (P : Symbol → Type 0) (x : Symbol) (xs : List Symbol) → Each P xs → is_among symbol_eq x xs ≡ true → P x
each_among P x [] es h = absurd (true≢false (sym h))
each_among P x (y ∷ ys) es h = go (symbol_eq x y) refl (each_among P x ys es.1) h
  where
    go : (b : Bool) → symbol_eq x y ≡ b → (is_among symbol_eq x ys ≡ true → P x) → (b || is_among symbol_eq x ys) ≡ true → P x
    go true e later k = subst P (sym (symbol_eq-true x y e)) es.0
    go false e later k = later k

some_same : {A : Type 0} {x y : A} → Some x ≡ Some y → y ≡ x
some_same h = cc

among_front : (p : Symbol × Symbol) (s t : Renaming) → Among p s → Among p (s ++ t)
among_front p [] t a = absurd a
among_front p (q ∷ s) t (inl e) = inl e
among_front p (q ∷ s) t (inr a) = inr (among_front p s t a)

among_last : (p : Symbol × Symbol) (s : Renaming) → Among p (s ++ p ∷ [])
among_last p [] = inl refl
among_last p (q ∷ s) = inr (among_last p s)

among_either : (p q : Symbol × Symbol) (s : Renaming) → Among p (s ++ q ∷ []) → Among p s ⊎ (q ≡ p)
among_either p q [] (inl e) = inr e
among_either p q [] (inr a) = absurd a
among_either p q (r ∷ s) (inl e) = inl (inl e)
among_either p q (r ∷ s) (inr a) = go (among_either p q s a)
  where
    go : Among p s ⊎ (q ≡ p) → Among p (r ∷ s) ⊎ (q ≡ p)
    go (inl b) = inl (inr b)
    go (inr e) = inr e

same_bools : (b c : Bool) → same_bool b c ≡ true → b ≡ c
same_bools true c h = sym h
same_bools false true h = cc
same_bools false false h = refl

agrees_among : (x y : Symbol) (s : Renaming) → agrees x y s ≡ true → (p : Symbol × Symbol) → Among p s → symbol_eq x p.0 ≡ symbol_eq y p.1
agrees_among x y [] h p a = absurd a
agrees_among x y (q ∷ s) h p (inl e) =
    let (here, rest) = both (same_bool (symbol_eq x q.0) (symbol_eq y q.1)) (agrees x y s) h in
    subst (λ (z : Symbol × Symbol). symbol_eq x z.0 ≡ symbol_eq y z.1) e (same_bools (symbol_eq x q.0) (symbol_eq y q.1) here)
agrees_among x y (q ∷ s) h p (inr a) =
    let (here, rest) = both (same_bool (symbol_eq x q.0) (symbol_eq y q.1)) (agrees x y s) h in
    agrees_among x y s rest p a

-- the test of symbols doesn't mind the order
turned : (a b : Symbol) → symbol_eq a b ≡ symbol_eq b a
turned a b = go (symbol_eq a b) refl (symbol_eq b a) refl
  where
    go : (c : Bool) → symbol_eq a b ≡ c → (d : Bool) → symbol_eq b a ≡ d → c ≡ d
    go true e true f = refl
    go true e false f = absurd (true≢false (sym (subst (λ z. symbol_eq z a ≡ true) (symbol_eq-true a b e) (symbol_eq-same a)) ∙ f))
    go false e true f = absurd (true≢false (sym (subst (λ z. symbol_eq z b ≡ true) (symbol_eq-true b a f) (symbol_eq-same b)) ∙ e))
    go false e false f = refl

apart_more : (x y : Symbol) (s : Renaming) → agrees x y s ≡ true → Apart s → Apart (s ++ (x, y) ∷ [])
apart_more x y s h d p q a b = go (among_either p (x, y) s a) (among_either q (x, y) s b)
  where
    go : Among p s ⊎ ((x, y) ≡ p) → Among q s ⊎ ((x, y) ≡ q) → symbol_eq p.0 q.0 ≡ symbol_eq p.1 q.1
    go (inl i) (inl j) = d p q i j
    go (inl i) (inr e) = subst (λ (z : Symbol × Symbol). symbol_eq p.0 z.0 ≡ symbol_eq p.1 z.1) e (turned p.0 x ∙ agrees_among x y s h p i ∙ turned y p.1)
    go (inr e) (inl j) = subst (λ (z : Symbol × Symbol). symbol_eq z.0 q.0 ≡ symbol_eq z.1 q.1) e (agrees_among x y s h q j)
    go (inr e) (inr f) =
        subst (λ (w : Symbol × Symbol). symbol_eq p.0 w.0 ≡ symbol_eq p.1 w.1) f
        (subst (λ (z : Symbol × Symbol). symbol_eq z.0 x ≡ symbol_eq z.1 y) e (symbol_eq-same x ∙ sym (symbol_eq-same y)))

-- the variables of a term have pairs in each renaming that has these
abbrev Binds : (List Symbol → List Symbol) → Renaming → Type 0
Binds more s' = (r : Renaming) → ((p : Symbol × Symbol) → Among p s' → Among p r) → (seen : List Symbol) → Each (Bound r) seen → Each (Bound r) (more seen)

-- what is known where a renaming of a term to another was found, from one renaming to a longer one
record Found (t u : Term) (s s' : Renaming) : Type 0 where
  apart : Apart s'
  more : (p : Symbol × Symbol) → Among p s → Among p s'
  bound : Binds (vars_after t) s'
  is : (h : Symbol → Symbol) → Follows h s' → renamed h t ≡ u

record AllFound (ts us : List Term) (s s' : Renaming) : Type 0 where
  apart : Apart s'
  more : (p : Symbol × Symbol) → Among p s → Among p s'
  bound : Binds (in_turn (map vars_after ts)) s'
  is : (h : Symbol → Symbol) → Follows h s' → map (renamed h) ts ≡ us

abbrev Forth : Term → Type 0
Forth t = (u : Term) (s s' : Renaming) → Apart s → R t u s ≡ Some s' → Found t u s s'

forth_var : (x : Symbol) → Forth (Var x)
forth_var x u s s' d h = go (out-Term u) (out_says u) (sym (r_var x u s) ∙ h)
  where
    added : (b : Bool) (r : Renaming) (seen : List Symbol) → Each (Bound r) seen → Bound r x → Each (Bound r) (cond b seen (seen ++ x ∷ []))
    added true r seen es b = es
    added false r seen es b = each_append (Bound r) seen (x ∷ []) es (b, tt)

    made : (y : Symbol) → u ≡ Var y → (b : Bool) → agrees x y s ≡ b → cond b (Some (s ++ (x, y) ∷ [])) None ≡ Some s' → Found (Var x) u s s'
    made y is true e k =
        subst (Found (Var x) u s) (sym (some_same k)) (record {
          apart = apart_more x y s e d;
          more = λ p a. among_front p s ((x, y) ∷ []) a;
          bound = λ r m seen es. subst (Each (Bound r)) (sym (vars_var x seen)) (added (is_among symbol_eq x seen) r seen es (y, m (x, y) (among_last (x, y) s)));
          is = λ g f. renamed_var g x ∙ ap Var (f (x, y) (among_last (x, y) s)) ∙ sym is;
        })
    made y is false e k = cc

    go : (y : Term-F Term) → OutSays u y → rename_var x y u s ≡ Some s' → Found (Var x) u s s'
    go (Term-F.Var y) is k = made y is (agrees x y s) refl k
    go (Term-F.Quote v) is k = cc
    go (Term-F.Call f us) is k = cc

forth_quote : (v : Value) → Forth (Quote v)
forth_quote v u s s' d h = go (term_eq (Quote v) u) refl (sym (r_quote v u s) ∙ h)
  where
    go : (b : Bool) → term_eq (Quote v) u ≡ b → cond b (Some s) None ≡ Some s' → Found (Quote v) u s s'
    go true e k =
        subst (Found (Quote v) u s) (sym (some_same k)) (record {
          apart = d;
          more = λ p a. a;
          bound = λ r m seen es. subst (Each (Bound r)) (sym (vars_quote v seen)) es;
          is = λ g f. renamed_quote g v ∙ term_eq-true (Quote v) u e;
        })
    go false e k = cc

forth_all : (ts us : List Term) (s s' : Renaming) → Each Forth ts → Apart s → rename_all (map R ts) us s ≡ Some s' → AllFound ts us s s'
forth_all [] [] s s' es d h =
    subst (AllFound [] [] s) (sym (some_same h)) (record { apart = d; more = λ p a. a; bound = λ r m seen es. es; is = λ g f. refl })
forth_all [] (u ∷ us) s s' es d h = cc
forth_all (t ∷ ts) [] s s' es d h = cc
forth_all (t ∷ ts) (u ∷ us) s s' es d h = go (R t u s) refl (λ z. forth_all ts us z s' es.1) h
  where
    go : (o : Option Renaming) → R t u s ≡ o → ((z : Renaming) → Apart z → rename_all (map R ts) us z ≡ Some s' → AllFound ts us z s') → with_renaming o (rename_all (map R ts) us) ≡ Some s'
        → AllFound (t ∷ ts) (u ∷ us) s s'
    go None e next k = cc
    go (Some z) e next k =
        let one = es.0 u s z d e in
        let rest = next z one.apart k in
        record {
          apart = rest.apart;
          more = λ p a. rest.more p (one.more p a);
          bound = λ r m seen es. rest.bound r m (vars_after t seen) (one.bound r (λ p a. m p (rest.more p a)) seen es);
          is = λ g f. ap (λ w. w ∷ map (renamed g) ts) (one.is g (λ p a. f p (rest.more p a))) ∙ ap (λ ws. u ∷ ws) (rest.is g f);
        }

forth_call : (f : Symbol) (ts : List Term) → Each Forth ts → Forth (Call f ts)
forth_call f ts es u s s' d h = go (out-Term u) (out_says u) (sym (r_call f ts u s) ∙ h)
  where
    made : (g : Symbol) (us : List Term) → u ≡ Call g us → (b : Bool) → symbol_eq f g ≡ b → cond b (rename_all (map R ts) us s) None ≡ Some s' → Found (Call f ts) u s s'
    made g us is true e k =
        let all = forth_all ts us s s' es d k in
        record {
          apart = all.apart;
          more = all.more;
          bound = λ r m seen es. subst (Each (Bound r)) (sym (vars_call f ts seen)) (all.bound r m seen es);
          is = λ w k. renamed_call w f ts ∙ ap (Call f) (all.is w k) ∙ ap (λ j. Call j us) (symbol_eq-true f g e) ∙ sym is;
        }
    made g us is false e k = cc

    go : (y : Term-F Term) → OutSays u y → rename_call f (map R ts) y s ≡ Some s' → Found (Call f ts) u s s'
    go (Term-F.Var y) is k = cc
    go (Term-F.Quote v) is k = cc
    go (Term-F.Call g us) is k = made g us is (symbol_eq f g) refl k

forth : (t : Term) → Forth t
forth = term_ind Forth forth_var forth_quote forth_call

-- the renaming as a function
abbrev by_pairs : Renaming → Symbol → Symbol
by_pairs s x = unwrap_or (lookup_by symbol_eq s x) x

looked_up : (s : Renaming) (p : Symbol × Symbol) → Among p s → ((q : Symbol × Symbol) → Among q s → symbol_eq p.0 q.0 ≡ symbol_eq p.1 q.1) → lookup_by symbol_eq s p.0 ≡ Some p.1
looked_up [] p a h = absurd a
looked_up (q ∷ s) p a h = go (symbol_eq p.0 q.0) refl a (λ b. looked_up s p b (λ z i. h z (inr i)))
  where
    go : (b : Bool) → symbol_eq p.0 q.0 ≡ b → Among p (q ∷ s) → (Among p s → lookup_by symbol_eq s p.0 ≡ Some p.1) → cond b (Some q.1) (lookup_by symbol_eq s p.0) ≡ Some p.1
    go true e a next = ap Some (sym (symbol_eq-true p.1 q.1 (sym (h q (inl refl)) ∙ e)))
    go false e (inl i) next = absurd (true≢false (sym (symbol_eq-same p.0) ∙ sym (ap (λ (z : Symbol × Symbol). symbol_eq p.0 z.0) i) ∙ e))
    go false e (inr i) next = next i

follows : (s : Renaming) → Apart s → Follows (by_pairs s) s
follows s d p a = ap (λ o. unwrap_or o p.0) (looked_up s p a (λ q b. d p q a b))

pub found_renames : (a b : Term) (s : Renaming) → R a b [] ≡ Some s → IsRenamed a b
found_renames a b s h =
    let found = forth a b [] s (λ p q i j. absurd i) h in
    let f : Follows (by_pairs s) s = follows s found.apart in
    let bound : Each (Bound s) (vars_after a []) = found.bound s (λ p i. i) [] tt in (
      by_pairs s,
      λ x y i j e. one x y found.apart f (each_among (Bound s) x (vars_after a []) bound i) (each_among (Bound s) y (vars_after a []) bound j) e,
      found.is (by_pairs s) f,
    )
  where
    one : (x y : Symbol) → Apart s → Follows (by_pairs s) s → Bound s x → Bound s y → by_pairs s x ≡ by_pairs s y → x ≡ y
    one x y d f (v, i) (w, j) e =
        let same : v ≡ w = sym (f (x, v) i) ∙ e ∙ f (y, w) j in
        symbol_eq-true x y (d (x, v) (y, w) i j ∙ ap (λ z. symbol_eq z w) same ∙ symbol_eq-same w)
