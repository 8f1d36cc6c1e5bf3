-- What renames is found.
use Rattle.std.proofs.Common.{◌≡◌, ◌↔◌, Bool, true, false, cond, ◌||◌, List, [], ◌∷◌, ◌++◌, map, Option, Some, None, refl, ap, sym, ◌∙◌, subst}
use Rattle.ap_list.specs.Lists.{Each, in_turn, is_among, is_within}
use Rattle.ap_list.proofs.Eachs.{each_append, each_parts}
use Rattle.ap_value.specs.declared.symbol.Symbol.{Symbol}
use Rattle.ap_value.specs.declared.value.Value.{Value}
use Rattle.ap_value.specs.Values.{symbol_eq}
use Rattle.ap_value.proofs.Equals.{and_true, symbol_eq-true, symbol_eq-same}
use Rattle.ap_term.specs.declared.term.Term.{Term, Var, Quote, Call}
use Rattle.ap_term.specs.declared.term.Term.TheVariants.{outs-Var, outs-Call}
use Rattle.ap_term.proofs.Equals.{term_eq-same, tests_same}
use Rattle.ap_term.proofs.Induction.{term_ind}
use Rattle.ap_term.specs.Terms.{vars_after}
use Rattle.ap_world.proofs.Written.{vars_var, vars_quote, vars_call}
use Rattle.ap_world.specs.Rules.{Rule, Renaming, same_bool, agrees, with_renaming, rename_all, rename_var, rename_call, is_renaming, is_permutative}
use Rattle.ap_rules.specs.Renaming.{renamed, StandsIn, KeepsApart, IsRenamed}
use Rattle.ap_rules.proofs.Renames.{R, r_var, r_quote, r_call, renamed_var, renamed_quote, renamed_call, each_among, found_renames}

same_true : (b c : Bool) → b ≡ c → same_bool b c ≡ true
same_true true c h = sym h
same_true false true h = cc
same_true false false h = refl

or_right : (a b : Bool) → b ≡ true → (a || b) ≡ true
or_right true b h = refl
or_right false b h = h

-- each symbol of a list is among them
each_itself : (xs : List Symbol) → Each (λ x. is_among symbol_eq x xs ≡ true) xs
each_itself [] = tt
each_itself (y ∷ ys) = (ap (λ b. b || is_among symbol_eq y ys) (symbol_eq-same y), wider ys (each_itself ys))
  where
    wider : (xs : List Symbol) → Each (λ x. is_among symbol_eq x ys ≡ true) xs → Each (λ x. is_among symbol_eq x (y ∷ ys) ≡ true) xs
    wider [] es = tt
    wider (x ∷ xs) es = (or_right (symbol_eq x y) (is_among symbol_eq x ys) es.0, wider xs es.1)

module _ (h : Symbol → Symbol) (a : Term) (apart : KeepsApart h a) where
  -- each pair is of a variable of the whole term and of what it becomes
  abbrev Proper : Renaming → Type 0
  Proper s = Each (λ (p : Symbol × Symbol). (h p.0 ≡ p.1) × StandsIn p.0 a) s

  abbrev Grows : Term → Term → Type 0
  Grows t u = (s : Renaming) → Proper s → (z : Renaming) × (R t u s ≡ Some z) × Proper z

  -- where the term's variables, with those that were seen before, all stand in the whole
  abbrev Seen : List Symbol → Type 0
  Seen xs = Each (λ x. StandsIn x a) xs

  abbrev Back : Term → Type 0
  Back t = (seen : List Symbol) → Seen (vars_after t seen) → Seen seen × Grows t (renamed h t)

  pair_agrees : (x : Symbol) → StandsIn x a → (p : Symbol × Symbol) → (h p.0 ≡ p.1) × StandsIn p.0 a → symbol_eq x p.0 ≡ symbol_eq (h x) p.1
  pair_agrees x o p k = tests_same (symbol_eq x p.0) (symbol_eq (h x) p.1) forth back
    where
      forth : symbol_eq x p.0 ≡ true → symbol_eq (h x) p.1 ≡ true
      forth e = subst (λ z. symbol_eq (h x) z ≡ true) (ap h (symbol_eq-true x p.0 e) ∙ k.0) (symbol_eq-same (h x))

      back : symbol_eq (h x) p.1 ≡ true → symbol_eq x p.0 ≡ true
      back e = subst (λ z. symbol_eq x z ≡ true) (apart x p.0 o k.1 (symbol_eq-true (h x) p.1 e ∙ sym k.0)) (symbol_eq-same x)

  all_agree : (x : Symbol) → StandsIn x a → (s : Renaming) → Proper s → agrees x (h x) s ≡ true
  all_agree x o [] k = refl
  all_agree x o (p ∷ s) k =
      and_true (same_bool (symbol_eq x p.0) (symbol_eq (h x) p.1)) (agrees x (h x) s)
      (same_true (symbol_eq x p.0) (symbol_eq (h x) p.1) (pair_agrees x o p k.0)) (all_agree x o s k.1)

  back_var : (x : Symbol) → Back (Var x)
  back_var x seen w = go (is_among symbol_eq x seen) refl (subst Seen (vars_var x seen) w)
    where
      grows : StandsIn x a → Grows (Var x) (renamed h (Var x))
      grows o s k = (
        s ++ (x, h x) ∷ [],
        ap (λ u. R (Var x) u s) (renamed_var h x) ∙ r_var x (Var (h x)) s ∙ ap (λ y. rename_var x y (Var (h x)) s) (outs-Var (h x))
            ∙ ap (λ b. cond b (Some (s ++ (x, h x) ∷ [])) None) (all_agree x o s k),
        each_append (λ (p : Symbol × Symbol). (h p.0 ≡ p.1) × StandsIn p.0 a) s ((x, h x) ∷ []) k ((refl, o), tt),
      )

      go : (b : Bool) → is_among symbol_eq x seen ≡ b → Seen (cond b seen (seen ++ x ∷ [])) → Seen seen × Grows (Var x) (renamed h (Var x))
      go true e v = (v, grows (each_among (λ y. StandsIn y a) x seen v e))
      go false e v = let parts = each_parts (λ y. StandsIn y a) seen (x ∷ []) v in (parts.0, grows parts.1.0)

  back_quote : (v : Value) → Back (Quote v)
  back_quote v seen w = (
    subst Seen (vars_quote v seen) w,
    λ s k. (s, ap (λ u. R (Quote v) u s) (renamed_quote h v) ∙ r_quote v (Quote v) s ∙ ap (λ b. cond b (Some s) None) (term_eq-same (Quote v)), k),
  )

  abbrev AllGrow : List Term → Type 0
  AllGrow ts = (s : Renaming) → Proper s → (z : Renaming) × (rename_all (map R ts) (map (renamed h) ts) s ≡ Some z) × Proper z

  back_all : (ts : List Term) → Each Back ts → (seen : List Symbol) → Seen (in_turn (map vars_after ts) seen) → Seen seen × AllGrow ts
  back_all [] es seen w = (w, λ s k. (s, refl, k))
  back_all (t ∷ ts) es seen w =
      let rest = back_all ts es.1 (vars_after t seen) w in
      let one = es.0 seen rest.0 in (
        one.0,
        λ s k. let (y, e, l) = one.1 s k in let (z, f, m) = rest.1 y l in (z, ap (λ o. with_renaming o (rename_all (map R ts) (map (renamed h) ts))) e ∙ f, m),
      )

  back_call : (f : Symbol) (ts : List Term) → Each Back ts → Back (Call f ts)
  back_call f ts es seen w = let all = back_all ts es seen (subst Seen (vars_call f ts seen) w) in (all.0, grows all.1)
    where
      grows : AllGrow ts → Grows (Call f ts) (renamed h (Call f ts))
      grows all s k = let (z, e, m) = all s k in (
        z,
        ap (λ u. R (Call f ts) u s) (renamed_call h f ts) ∙ r_call f ts (Call f (map (renamed h) ts)) s ∙ ap (λ y. rename_call f (map R ts) y s) (outs-Call f (map (renamed h) ts))
            ∙ ap (λ b. cond b (rename_all (map R ts) (map (renamed h) ts) s) None) (symbol_eq-same f) ∙ e,
        m,
      )

  back : (t : Term) → Back t
  back = term_ind Back back_var back_quote back_call

pub renames_found : (a b : Term) → IsRenamed a b → is_renaming (R a b []) ≡ true
renames_found a b (h, apart, is) =
    let (z, e, m) = (back h a apart a [] (each_itself (vars_after a []))).1 [] tt in
    ap is_renaming (sym (ap (λ u. R a u []) is) ∙ e)

pub permutative : (r : Rule) → (is_permutative r ≡ true) ↔ IsRenamed r.lhs r.rhs
permutative r = (λ h. go (R r.lhs r.rhs []) refl h, renames_found r.lhs r.rhs)
  where
    go : (o : Option Renaming) → R r.lhs r.rhs [] ≡ o → is_renaming o ≡ true → IsRenamed r.lhs r.rhs
    go None e h = cc
    go (Some s) e h = found_renames r.lhs r.rhs s e

-- a constant is itself with its variables renamed, and has none that isn't its own
constant_renames : (v : Value) → true ≡ is_renaming (R (Quote v) (Quote v) [])
constant_renames v = ap is_renaming (sym (r_quote v (Quote v) [] ∙ ap (λ b. cond b (Some []) None) (term_eq-same (Quote v))))

constant_binds : (v : Value) → true ≡ is_within symbol_eq (vars_after (Quote v) []) (vars_after (Quote v) [])
constant_binds v = ap (λ xs. is_within symbol_eq xs xs) (sym (vars_quote v []))

-- and so are two terms that are this constant
pub constants_rename : (v : Value) (a b : Term) → a ≡ Quote v → b ≡ Quote v → true ≡ is_renaming (R a b [])
constants_rename v a b is is' = constant_renames v ∙ ap (λ u. is_renaming (R u (Quote v) [])) (sym is) ∙ ap (λ u. is_renaming (R a u [])) (sym is')

pub constants_bind : (v : Value) (a b : Term) → a ≡ Quote v → b ≡ Quote v → true ≡ is_within symbol_eq (vars_after b []) (vars_after a [])
constants_bind v a b is is' =
    constant_binds v ∙ ap (λ u. is_within symbol_eq (vars_after (Quote v) []) (vars_after u [])) (sym is) ∙ ap (λ u. is_within symbol_eq (vars_after u []) (vars_after a [])) (sym is')
