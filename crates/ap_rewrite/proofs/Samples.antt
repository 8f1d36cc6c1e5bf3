-- Rewritings with every step counted, as docs/DEFINITIONS.md works them by hand. What masks settle is a premise.
use Rattle.std.proofs.Common.{◌≡◌, ℕ, suc, Bool, true, false, cond, not, ◌&&◌, nat_le, List, [], ◌∷◌, ◌++◌, map, Option, None, Some, unwrap_or, refl, ap, ◌∙◌}
use Rattle.ap_list.specs.Lists.{Each, lookup_by}
use Rattle.ap_value.specs.Values.{symbol_eq}
use Rattle.ap_value.proofs.Equals.{symbol_eq-same}
use Rattle.ap_term.specs.Terms.{size_step, term_size, subst_of}
use Rattle.ap_term.proofs.Induction.{fold_var, fold_call}
use Rattle.ap_world.specs.Facts.{Facts}
use Rattle.ap_world.proofs.Written.{subst_var, subst_call}
use Rattle.ap_term.specs.Matching.{Pairs, match_step, matched, bound_step, is_bound}
use Rattle.ap_world.specs.Rules.{Rule, rename_step, is_permutative, is_bound_by_left}
use Rattle.ap_value.specs.declared.symbol.Symbol.{Symbol}
use Rattle.ap_value.specs.declared.value.Value.{Value}
use Rattle.ap_term.specs.declared.term.Term.{Term, Var, Quote, Call}
use Rattle.ap_term.specs.declared.term.Term.TheVariants.{outs-Var, outs-Quote, outs-Call}
use Rattle.ap_term.specs.Equal.{term_eq}
use Rattle.ap_term.proofs.Equals.{term_eq-same}
use Rattle.ap_world.specs.declared.theory.Rune.TheVariants as rune
use Rattle.ap_world.specs.Theories.{is_enabled}
use Rattle.ap_world.specs.Names.{consp_name}
use Rattle.ap_world.specs.Recursion.{nil_constant, t_constant}
use Rattle.ap_world.specs.Shapes.{is_constant, constant, other, other_head, head_of, call_shape, shape_of}
use Rattle.ap_world.proofs.Equations.{names_open, val_of_t, t-not_nil}
use Rattle.ap_world.proofs.Shaped.{shape_call}
use Rattle.ap_kernel.specs.declared.objects.Mode.{Mode}
use Rattle.ap_kernel.specs.declared.objects.Mode.TheVariants.{Equal, Iff}
use Rattle.ap_kernel.specs.Answers.{if_of}
use Rattle.ap_term.specs.Metered.{By, known, after, mapped, or_else, first_that}
use Rattle.ap_rewrite.specs.Relieving.{by_sign, if_so, then_more, relieve}
use Rattle.ap_rewrite.specs.Settings.{Setting, Place, under, relieving}
use Rattle.ap_rewrite.specs.Linear.{by_arithmetic}
use Rattle.ap_rewrite.specs.Rewriting.{most_nodes, answered, none, by_mask, changed, in_order, right, relieved, apply, try_rule, truth_of, shaped, run, settle, equate, branches, by_rules, by_definition, tried, rewrite_args, rewrite_if, rewrite_call, rewrite_parts, rewrite_shape, rewrite_to}
use Rattle.ap_rewrite.proofs.Truths.{shape_if}

head_consp : head_of consp_name ≡ other_head
unfolding head_of names_open
head_consp = refl

shape_var : (x : Symbol) → shape_of (Var x) ≡ other
shape_var x = rw (outs-Var x) refl

shape_quote : (v : Value) → shape_of (Quote v) ≡ constant v
shape_quote v = rw (outs-Quote v) refl

shape_consp : (u : Term) → shape_of (Call consp_name (u ∷ [])) ≡ other
shape_consp u = shape_call consp_name (u ∷ []) ∙ ap (λ h. call_shape h (u ∷ [])) head_consp

-- where nothing that is tried applies
nothing_applies : (ks : List (By (Option Term))) (n : ℕ) → Each (λ (k : By (Option Term)). k n ≡ known None n) ks → first_that ks n ≡ known None n
nothing_applies [] n h = refl
nothing_applies (k ∷ ks) n h = ap (λ g. after g (λ o. or_else o (first_that ks))) h.0 ∙ nothing_applies ks n h.1

-- what applies behind what doesn't
applies_behind : (ks : List (By (Option Term))) (k : By (Option Term)) (rest : List (By (Option Term))) (n m : ℕ) (v : Term) → Each (λ (j : By (Option Term)). j n ≡ known None n) ks
    → k n ≡ Some (Some v, m) → first_that (ks ++ k ∷ rest) n ≡ Some (Some v, m)
applies_behind [] k rest n m v h q = ap (λ g. after g (λ o. or_else o (first_that rest))) q
applies_behind (j ∷ ks) k rest n m v h q = ap (λ g. after g (λ o. or_else o (first_that (ks ++ k ∷ rest)))) h.0 ∙ applies_behind ks k rest n m v h.1 q

module _ (S : Setting) (d : ℕ) (o : Mode) (p : Place) where
  -- a variable that its mask doesn't settle, and a constant under equality, for a step each
  variable_stays : (x : Symbol) (n : ℕ) → by_mask o (S.types p.facts (Var x)) ≡ None → rewrite_to S (suc d) o p (Var x) (suc n) ≡ Some (Var x, n)
  unfolding rewrite_to
  variable_stays x n h =
      ap (λ y. rewrite_shape S (rewrite_to S d) o p (Var x) y n) (shape_var x)
      ∙ ap (λ y. rewrite_parts S (rewrite_to S d) o p (Var x) y n) (outs-Var x)
      ∙ ap (λ m. known (unwrap_or m (Var x)) n) h

  constant_stays : (v : Value) (n : ℕ) → rewrite_to S (suc d) Equal p (Quote v) (suc n) ≡ Some (Quote v, n)
  unfolding rewrite_to
  constant_stays v n =
      ap (λ y. rewrite_shape S (rewrite_to S d) Equal p (Quote v) y n) (shape_quote v)
      ∙ ap (λ y. rewrite_parts S (rewrite_to S d) Equal p (Quote v) y n) (outs-Quote v)

  -- a call of another head than `if` and `not`: its arguments, then what is tried
  called : (f : Symbol) (us : List Term) (n : ℕ) → shape_of (Call f us) ≡ other → rewrite_to S (suc d) o p (Call f us) (suc n) ≡ rewrite_call S (rewrite_to S d) o p f us n
  unfolding rewrite_to
  called f us n h =
      ap (λ y. rewrite_shape S (rewrite_to S d) o p (Call f us) y n) h
      ∙ ap (λ y. rewrite_parts S (rewrite_to S d) o p (Call f us) y n) (outs-Call f us)

  chosen : (a b c : Term) (n : ℕ) → rewrite_to S (suc d) o p (if_of a b c) (suc n) ≡ rewrite_if S (rewrite_to S d) o p a b c n
  unfolding rewrite_to
  chosen a b c n = ap (λ y. rewrite_shape S (rewrite_to S d) o p (if_of a b c) y n) (shape_if a b c)

  -- a call of one argument that stays, of which what is tried answers this
  one_argument : (f : Symbol) (a : Term) (n m k : ℕ) (x : Option Term) → shape_of (Call f (a ∷ [])) ≡ other → rewrite_to S d Equal p a n ≡ Some (a, m)
      → first_that (tried S (rewrite_to S d) o p f (a ∷ [])) m ≡ Some (x, k) → rewrite_to S (suc d) o p (Call f (a ∷ [])) (suc n) ≡ Some (unwrap_or x (Call f (a ∷ [])), k)
  one_argument f a n m k x shape stays is =
      called f (a ∷ []) n shape
      ∙ ap (λ g. after (after g (λ u' n. after (rewrite_args S (rewrite_to S d) p [] n) (λ us'. known (u' ∷ us')))) (λ us' n. mapped (λ v. unwrap_or v (Call f us')) (first_that (tried S (rewrite_to S d) o p f us') n))) stays
      ∙ ap (λ g. mapped (λ v. unwrap_or v (Call f (a ∷ []))) g) is

-- (consp x)
module _ (S : Setting) (d : ℕ) (p : Place) (x : Symbol) (open_variable : by_mask Equal (S.types p.facts (Var x)) ≡ None) where
  abbrev test : Term
  test = Call consp_name (Var x ∷ [])

  not_run : (o : Mode) → run S o consp_name (Var x ∷ []) ≡ None
  not_run o = rw (outs-Call consp_name (Var x ∷ []), outs-Var x) refl

  -- two steps, where its mask doesn't settle it, no rule is there and `consp` isn't opened
  test_stays : S.rules ≡ [] → S.functions consp_name ≡ None → (o : Mode) (n : ℕ) → by_mask o (S.types p.facts test) ≡ None → rewrite_to S (suc (suc d)) o p test (suc (suc n)) ≡ Some (test, n)
  test_stays no_rules no_body o n h = one_argument S (suc d) o p consp_name (Var x) (suc n) n n None (shape_consp (Var x)) (variable_stays S d Equal p x n open_variable)
      (nothing_applies (tried S (rewrite_to S (suc d)) o p consp_name (Var x ∷ [])) n (
        ap (λ r. known r n) (not_run o),
        (
          ap (λ m. known (changed test (unwrap_or m test)) n) h ∙ ap (λ b. known (cond b None (Some test)) n) (term_eq-same test),
          (
            rw (shape_consp (Var x)) refl,
            (
              refl,
              (
                rw no_rules refl,
                (
                  rw no_body refl,
                  tt,
                ),
              ),
            ),
          ),
        ),
      ))

  abbrev others : Mode → List (By (Option Term))
  others o =
      equate S (rewrite_to S (suc d)) o p test
      ∷ by_arithmetic S (rewrite_to S (suc d)) p consp_name (Var x ∷ [])
      ∷ by_rules S (rewrite_to S (suc d)) o p test
      ∷ by_definition S (rewrite_to S (suc d)) o p consp_name (Var x ∷ [])
      ∷ []

  -- two steps, where its mask settles it
  test_settles : (o : Mode) (v : Term) (n : ℕ) → by_mask o (S.types p.facts test) ≡ Some v → term_eq test v ≡ false → rewrite_to S (suc (suc d)) o p test (suc (suc n)) ≡ Some (v, n)
  test_settles o v n h k = one_argument S (suc d) o p consp_name (Var x) (suc n) n n (Some v) (shape_consp (Var x)) (variable_stays S d Equal p x n open_variable)
      (applies_behind (known (run S o consp_name (Var x ∷ [])) ∷ []) (known (settle S o p test)) (others o) n n v (ap (λ r. known r n) (not_run o), tt)
      (ap (λ m. known (changed test (unwrap_or m test)) n) h ∙ ap (λ b. known (cond b None (Some v)) n) k))

-- (if (consp x) (consp x) 'NIL), where under its truth the test is settled to 'T and nothing else is settled: (consp x)
-- itself, for six steps
module _ (S : Setting) (d : ℕ) (p : Place) (x : Symbol) (no_rules : S.rules ≡ []) (no_body : S.functions consp_name ≡ None) where
  abbrev this : Term
  this = Call consp_name (Var x ∷ [])

  pub itself : (n : ℕ) → by_mask Equal (S.types p.facts (Var x)) ≡ None → by_mask Iff (S.types p.facts this) ≡ None
      → by_mask Equal (S.types (under p this true).facts (Var x)) ≡ None → by_mask Equal (S.types (under p this true).facts this) ≡ Some t_constant
      → term_eq this t_constant ≡ false → shaped S Equal p.facts this t_constant nil_constant ≡ this
      → rewrite_to S (suc (suc (suc d))) Equal p (if_of this this nil_constant) (suc (suc (suc (suc (suc (suc n)))))) ≡ Some (this, n)
  itself n x_open test_open x_open_under settled apart shape =
      chosen S (suc (suc d)) Equal p this this nil_constant (suc (suc (suc (suc (suc n)))))
      ∙ ap (λ g. after g (λ a. branches S (rewrite_to S (suc (suc d))) Equal p a (truth_of a) this nil_constant)) (test_stays S d p x x_open no_rules no_body Iff (suc (suc (suc n))) test_open)
      ∙ ap (λ b. branches S (rewrite_to S (suc (suc d))) Equal p this b this nil_constant (suc (suc (suc n)))) no_truth
      ∙ ap (λ g. after g (λ b n. after (rewrite_to S (suc (suc d)) Equal (under p this false) nil_constant n) (λ c. known (shaped S Equal p.facts this b c))))
      (test_settles S d (under p this true) x x_open_under Equal t_constant (suc n) settled apart)
      ∙ ap (λ g. after g (λ c. known (shaped S Equal p.facts this t_constant c))) (constant_stays S (suc d) Equal (under p this false) _ n)
      ∙ ap (λ u. known u n) shape
    where
      no_truth : truth_of this ≡ None
      no_truth = rw (shape_consp (Var x)) refl

-- (f y) by the rule of (implies (consp x) (equal (f x) (h x))), where (consp y) is settled to 'T and nothing else is:
-- (h y), for six steps
module _ (S : Setting) (d : ℕ) (fs : Facts) (closed : List Symbol) (name f h x y : Symbol) (no_body : S.functions f ≡ None) (no_more : S.functions h ≡ None)
    (f_shape : (u : Term) → shape_of (Call f (u ∷ [])) ≡ other) (h_shape : (u : Term) → shape_of (Call h (u ∷ [])) ≡ other) (apart : symbol_eq f h ≡ false)
    (open_variable : by_mask Equal (S.types fs (Var y)) ≡ None) where
  abbrev one : Symbol → Symbol → Term
  one g z = Call g (Var z ∷ [])

  abbrev the_rule : Rule
  the_rule = record { theorem = name; part = 0; iff = false; lhs = one f x; rhs = one h x; hyps = one consp_name x ∷ [] }

  abbrev here : Place
  here = record { facts = fs; closed = closed; chain = 0 }

  abbrev pairs : Pairs
  pairs = (x, Var y) ∷ []

  looked_up : lookup_by symbol_eq pairs x ≡ Some (Var y)
  looked_up = ap (λ b. cond b (Some (Var y)) None) (symbol_eq-same x)

  instance_is : (g : Symbol) → subst_of pairs (one g x) ≡ one g y
  instance_is g = subst_call pairs g (Var x ∷ []) ∙ ap (λ t. Call g (t ∷ [])) (subst_var pairs x ∙ ap (λ o. unwrap_or o (Var x)) looked_up)

  matches : matched (one f x) (one f y) [] ≡ Some pairs
  matches = rw (fold_call match_step f (Var x ∷ []), outs-Call f (Var y ∷ []), symbol_eq-same f, fold_var match_step x) refl

  no_match : matched (one f x) (one h y) [] ≡ None
  no_match = rw (fold_call match_step f (Var x ∷ []), outs-Call h (Var y ∷ []), apart) refl

  has_pair : is_bound pairs (one consp_name x) ≡ true
  has_pair = rw (fold_call (bound_step pairs) consp_name (Var x ∷ []), fold_var (bound_step pairs) x, looked_up) refl

  no_renaming : is_permutative the_rule ≡ false
  no_renaming = rw (fold_call rename_step f (Var x ∷ []), outs-Call h (Var x ∷ []), apart) refl

  t_holds : is_constant true t_constant ≡ true
  t_holds = rw (outs-Quote _, val_of_t, t-not_nil) refl

  -- the hypothesis is relieved, for two steps
  module _ (settled : by_mask Iff (S.types fs (one consp_name y)) ≡ Some t_constant) (no_truth : term_eq (one consp_name y) t_constant ≡ false) where
    relieves : (n : ℕ) → relieve (rewrite_to S (suc (suc d))) here (one consp_name x ∷ []) pairs (suc (suc n)) ≡ Some (Some pairs, n)
    relieves n = ap (λ g. after g (λ o. then_more o (relieve (rewrite_to S (suc (suc d))) here []))) (
        ap (λ b. cond b (after (rewrite_to S (suc (suc d)) Iff (relieving here) (subst_of pairs (one consp_name x)) (suc (suc n))) (λ v. known (if_so (is_constant true v) pairs)))
        (known (by_sign (one consp_name x) (shape_of (one consp_name x)) pairs fs) (suc (suc n)))) has_pair
        ∙ ap (λ u. after (rewrite_to S (suc (suc d)) Iff (relieving here) u (suc (suc n))) (λ v. known (if_so (is_constant true v) pairs))) (instance_is consp_name)
        ∙ ap (λ g. after g (λ v. known (if_so (is_constant true v) pairs))) (test_settles S d (relieving here) y open_variable Iff t_constant n settled no_truth)
        ∙ ap (λ b. known (if_so b pairs) n) t_holds)

    module _ (rules_are : S.rules ≡ the_rule ∷ []) (enabled : is_enabled S.theory (rune.Rewrite name) ≡ true) (f_open : by_mask Equal (S.types fs (one f y)) ≡ None)
        (h_open : by_mask Equal (S.types fs (one h y)) ≡ None) where
      not_run_at : (g : Symbol) → run S Equal g (Var y ∷ []) ≡ None
      not_run_at g = rw (outs-Call g (Var y ∷ []), outs-Var y) refl

      unsettled : (g : Symbol) → by_mask Equal (S.types fs (one g y)) ≡ None → settle S Equal here (one g y) ≡ None
      unsettled g q = ap (λ m. changed (one g y) (unwrap_or m (one g y))) q ∙ ap (λ b. cond b None (Some (one g y))) (term_eq-same (one g y))

      ordered : (b : Bool) → in_order b the_rule pairs (one f y) ≡ true
      ordered true = rw no_renaming refl
      ordered false = refl

      small : nat_le (term_size (one h y)) most_nodes ≡ true
      small = rw (fold_call size_step h (Var y ∷ []), fold_var size_step y) refl

      -- the right side's instance, for two steps
      right_stays : (n : ℕ) → rewrite_to S (suc (suc d)) Equal here (one h y) (suc (suc n)) ≡ Some (one h y, n)
      right_stays n = one_argument S (suc d) Equal here h (Var y) (suc n) n n None (h_shape (Var y)) (variable_stays S d Equal here y n open_variable)
          (nothing_applies (tried S (rewrite_to S (suc d)) Equal here h (Var y ∷ [])) n (
            ap (λ r. known r n) (not_run_at h),
            (
              ap (λ r. known r n) (unsettled h h_open),
              (
                rw (h_shape (Var y)) refl,
                (
                  refl,
                  (
                    rw (rules_are, enabled, no_match) refl,
                    (
                      rw no_more refl,
                      tt,
                    ),
                  ),
                ),
              ),
            ),
          ))

      fires : (n : ℕ) → try_rule S (rewrite_to S (suc (suc d))) Equal here (one f y) the_rule (suc (suc (suc (suc n)))) ≡ Some (Some (one h y), n)
      fires n =
          ap (λ b. cond (b && true) (apply S (rewrite_to S (suc (suc d))) Equal here (one f y) the_rule (matched (one f x) (one f y) []) (suc (suc (suc (suc n))))) (none (suc (suc (suc (suc n)))))) enabled
          ∙ ap (λ o. apply S (rewrite_to S (suc (suc d))) Equal here (one f y) the_rule o (suc (suc (suc (suc n))))) matches
          ∙ ap (λ b. cond b (after (relieve (rewrite_to S (suc (suc d))) here (one consp_name x ∷ []) pairs (suc (suc (suc (suc n))))) (relieved S (rewrite_to S (suc (suc d))) Equal here (one f y) the_rule)) (none (suc (suc (suc (suc n)))))) (ordered (is_bound_by_left the_rule))
          ∙ ap (λ g. after g (relieved S (rewrite_to S (suc (suc d))) Equal here (one f y) the_rule)) (relieves (suc (suc n)))
          ∙ ap (λ b. cond b (right S (rewrite_to S (suc (suc d))) Equal here (subst_of pairs (one h x)) (suc (suc n))) (none (suc (suc n)))) (ordered (not (is_bound_by_left the_rule)))
          ∙ ap (λ u. right S (rewrite_to S (suc (suc d))) Equal here u (suc (suc n))) (instance_is h)
          ∙ ap (λ b. cond b (answered (rewrite_to S (suc (suc d)) Equal here (one h y) (suc (suc n)))) (none (suc (suc n)))) small
          ∙ ap answered (right_stays n)

      pub by_the_rule : (n : ℕ) → rewrite_to S (suc (suc (suc d))) Equal here (one f y) (suc (suc (suc (suc (suc (suc n)))))) ≡ Some (one h y, n)
      by_the_rule n = one_argument S (suc (suc d)) Equal here f (Var y) (suc (suc (suc (suc (suc n))))) (suc (suc (suc (suc n)))) n (Some (one h y)) (f_shape (Var y)) (variable_stays S (suc d) Equal here y (suc (suc (suc (suc n)))) open_variable)
          (applies_behind (known (run S Equal f (Var y ∷ [])) ∷ known (settle S Equal here (one f y)) ∷ equate S (rewrite_to S (suc (suc d))) Equal here (one f y) ∷ by_arithmetic S (rewrite_to S (suc (suc d))) here f (Var y ∷ []) ∷ [])
          (by_rules S (rewrite_to S (suc (suc d))) Equal here (one f y)) (by_definition S (rewrite_to S (suc (suc d))) Equal here f (Var y ∷ []) ∷ []) (suc (suc (suc (suc n)))) n (one h y) (
            ap (λ r. known r (suc (suc (suc (suc n))))) (not_run_at f),
            (
              ap (λ r. known r (suc (suc (suc (suc n))))) (unsettled f f_open),
              (
                rw (f_shape (Var y)) refl,
                (
                  refl,
                  tt,
                ),
              ),
            ),
          )
          (ap (λ gs. first_that (map (try_rule S (rewrite_to S (suc (suc d))) Equal here (one f y)) gs) (suc (suc (suc (suc n))))) rules_are ∙ ap (λ g. after g (λ o. or_else o (first_that []))) (fires n)))
