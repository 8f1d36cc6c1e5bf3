-- The hypotheses of a rule, and how each is relieved.
use Rattle.std.specs.Prelude.{ℕ, nat_lt, Bool, true, false, cond, List, [], ◌∷◌, Option, Some, None}
use Rattle.ap_term.specs.declared.term.Term.{Term}
use Rattle.ap_term.specs.Terms.{subst_of}
use Rattle.ap_world.specs.Facts.{Facts}
use Rattle.ap_world.specs.Shapes.{Shape, negation, shape_of, is_constant}
use Rattle.ap_kernel.specs.declared.objects.Mode.TheVariants.{Iff}
use Rattle.ap_term.specs.Metered.{By, known, after}
use Rattle.ap_term.specs.Matching.{Pairs, matched, is_bound}
use Rattle.ap_world.specs.Rules.{same_bool}
use Rattle.ap_rewrite.specs.Settings.{Place, Inner, relieving}

-- at most so many hypotheses are relieved within each other
abbrev pub most_chained : ℕ
most_chained = 10

abbrev pub found_or : Option Pairs → Option Pairs → Option Pairs
found_or (Some s) o = Some s
found_or None o = o

-- the first fact of the sign whose term the pattern matches
abbrev pub by_facts : Term → Bool → Pairs → Facts → Option Pairs
by_facts h b s [] = None
by_facts h b s (f ∷ fs) = found_or (cond (same_bool b f.1) (matched h f.0 s) None) (by_facts h b s fs)

-- for (not h) a false fact that h matches
abbrev pub by_sign : Term → Shape Term → Pairs → Facts → Option Pairs
by_sign h (negation a) s fs = by_facts a false s fs
by_sign h y s fs = by_facts h true s fs

abbrev pub if_so : Bool → Pairs → Option Pairs
if_so true s = Some s
if_so false s = None

-- what follows where the pairs are there
abbrev pub then_more : Option Pairs → (Pairs → By (Option Pairs)) → By (Option Pairs)
then_more None k = known None
then_more (Some s) k = k s

module _ (r : Inner) (p : Place) where
  -- one hypothesis: an instance that becomes a constant other than nil, or, with unbound variables, a fact, which
  -- binds them
  abbrev pub relieve_one : Term → Pairs → By (Option Pairs)
  relieve_one h s n =
      cond (is_bound s h)
      (after (r Iff (relieving p) (subst_of s h) n) (λ h'. known (if_so (is_constant true h') s)))
      (known (by_sign h (shape_of h) s p.facts) n)

  -- the hypotheses from left to right, each only where fewer than ten are being relieved around it
  abbrev pub relieve : List Term → Pairs → By (Option Pairs)
  relieve [] s n = Some (Some s, n)
  relieve (h ∷ hs) s n = cond (nat_lt p.chain most_chained) (after (relieve_one h s n) (λ o. then_more o (relieve hs))) (known None n)
