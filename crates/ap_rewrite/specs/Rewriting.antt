-- Rewriting a term: one definition for each thing that is tried, and the level above it.
use Rattle.std.specs.Prelude.{ℕ, zero, suc, nat_le, Bool, true, false, cond, not, ◌&&◌, ◌||◌, List, [], ◌∷◌, map, Option, Some, None, unwrap_or, is_some}
use Rattle.std.specs.Option.{option_map}
use Rattle.ap_list.specs.Lists.{is_among}
use Rattle.ap_value.specs.declared.symbol.Symbol.{Symbol}
use Rattle.ap_value.specs.declared.value.Value.{Value}
use Rattle.ap_value.specs.Values.{symbol_eq, val_of, value_eq}
use Rattle.ap_term.specs.declared.term.Term.{Term, Call, Quote, out-Term, para-Term}
use Rattle.ap_term.specs.declared.term.Term.TheOpen.{Term-F}
use Rattle.ap_term.specs.Equal.{term_eq}
use Rattle.ap_term.specs.Terms.{subst_of, term_size}
use Rattle.ap_term.specs.Order.{term_less}
use Rattle.ap_world.specs.declared.entry.Function.{Function}
use Rattle.ap_world.specs.declared.theory.Rune.TheVariants as rune
use Rattle.ap_world.specs.Kinds.{without}
use Rattle.ap_world.specs.Primitives.{nil}
use Rattle.ap_world.specs.Clauses.{not_of}
use Rattle.ap_world.specs.Recursion.{nil_constant, t_constant}
use Rattle.ap_world.specs.Ground.{zero_constant}
use Rattle.ap_world.specs.Types.{zero_bit, nil_bit, t_bit}
use Rattle.ap_world.specs.Theories.{is_enabled}
use Rattle.ap_world.specs.Facts.{Facts}
use Rattle.ap_world.specs.Shapes.{Shape, constant, choice, negation, shape_of, layer_shape}
use Rattle.ap_world.specs.Assume.{whole}
use Rattle.ap_poly.specs.Bounds.{lacks}
use Rattle.ap_kernel.specs.declared.objects.Mode.{Mode}
use Rattle.ap_kernel.specs.declared.objects.Mode.TheVariants.{Equal, Iff}
use Rattle.ap_kernel.specs.Choices.{bare, is_truth, if_shape}
use Rattle.ap_kernel.specs.Equations.{equation_leads, truth_constant}
use Rattle.ap_kernel.specs.Opening.{body_at, is_quoted, is_constant_call}
use Rattle.ap_term.specs.Metered.{Got, By, known, after, spend, mapped, first_that}
use Rattle.ap_term.specs.Matching.{Pairs, matched}
use Rattle.ap_world.specs.Rules.{Rule, is_permutative, is_bound_by_left}
use Rattle.ap_rewrite.specs.Settings.{Setting, Place, Inner, under, closing}
use Rattle.ap_rewrite.specs.Relieving.{relieve}
use Rattle.ap_rewrite.specs.Linear.{by_arithmetic}

-- right sides and bodies are tried at their instances of at most so many nodes
abbrev pub most_nodes : ℕ
most_nodes = 4096

-- an answer that is there, and one that isn't
abbrev pub answered : Got Term → Got (Option Term)
answered g = mapped Some g

abbrev pub none : By (Option Term)
none = known None

-- whether a constant means something else than nil
abbrev pub truth_in : Shape Term → Option Bool
truth_in (constant v) = Some (not (value_eq (val_of v) nil))
truth_in y = None

abbrev pub truth_of : Term → Option Bool
truth_of u = truth_in (shape_of u)

-- constants: under iff one that isn't nil becomes 'T
abbrev pub constant_in : Mode → Value → Term
constant_in Equal v = Quote v
constant_in Iff v = cond (value_eq (val_of v) nil) (Quote v) t_constant

abbrev pub is_iff : Mode → Bool
is_iff Equal = false
is_iff Iff = true

-- what a mask settles: nothing but nil, t or 0 is left, or under iff not nil
abbrev pub by_mask : Mode → ℕ → Option Term
by_mask o m =
    cond (is_iff o && lacks m nil_bit) (Some t_constant)
    (cond (lacks m (without nil_bit)) (Some nil_constant)
    (cond (lacks m (without t_bit)) (Some t_constant)
    (cond (lacks m (without zero_bit)) (Some zero_constant) None)))

-- another term than it was
abbrev pub changed : Term → Term → Option Term
changed u v = cond (term_eq u v) None (Some v)

-- a rule's instance is less, where the rule is permutative and this is the time to test it
abbrev pub in_order : Bool → Rule → Pairs → Term → Bool
in_order now g s u = not (now && is_permutative g) || term_less (subst_of s g.rhs) u

-- a rule under iff serves under iff alone
abbrev pub fits_mode : Mode → Rule → Bool
fits_mode Equal g = not g.iff
fits_mode Iff g = true

-- a walk is told whether a branch was taken
abbrev pub Walk : Type 0
Walk = Bool → By (Option Term)

abbrev pub is_recursive : Function → Bool
is_recursive g = is_some g.measure

module _ (S : Setting) where
  -- a term by what its mask settles
  abbrev pub settled : Mode → Facts → Term → Term
  settled o fs u = unwrap_or (by_mask o (S.types fs u)) u

  -- whether the values of a test without the calls of `not` around it count as truths
  abbrev pub is_truth_at : Mode → Facts → Term → Bool
  is_truth_at o fs u = is_truth o (record { 0 = S.types fs (bare u).0 })

  -- the `if` of what its parts became
  abbrev pub shaped : Mode → Facts → Term → Term → Term → Term
  shaped o fs a b c = if_shape (is_truth_at o fs a) a b c

  -- a negation of what its argument became
  abbrev pub unwrapped : Mode → Facts → Term → Shape Term → Term
  unwrapped o fs a (negation z) = cond (is_truth o (record { 0 = S.types fs z })) z (not_of a)
  unwrapped o fs a y = not_of a

  abbrev pub negated : Mode → Facts → Term → Option Bool → Term
  negated o fs a (Some b) = truth_constant (not b)
  negated o fs a None = unwrapped o fs a (shape_of a)

  -- a call of constants is run
  abbrev pub run : Mode → Symbol → List Term → Option Term
  run o f us =
      cond (is_constant_call (Call f us) && is_enabled S.theory (rune.Executable f))
      (option_map (constant_in o) (S.value (Call f us)))
      None

  -- what its mask settles, where that is another term
  abbrev pub settle : Mode → Place → Term → Option Term
  settle o p u = changed u (settled o p.facts u)

  -- whether a call may be opened to this instance of its body
  abbrev pub may_open : Place → Symbol → Term → Bool
  may_open p f v = is_enabled S.theory (rune.Definition f) && (not (is_among symbol_eq f p.closed) && nat_le (term_size v) most_nodes)

  module _ (r : Inner) where
    -- an `if`: the branch that the test's constant chooses, or both branches under the test
    abbrev pub both : Mode → Place → Term → Term → Term → By Term
    both o q a b c n =
        after (r o (under q a true) b n) (λ b' n.
        after (r o (under q a false) c n) (λ c'.
        known (shaped o q.facts a b' c')))

    abbrev pub branches : Mode → Place → Term → Option Bool → Term → Term → By Term
    branches o p a (Some true) b c n = r o p b n
    branches o p a (Some false) b c n = r o p c n
    branches o p a None b c n = both o p a b c n

    abbrev pub rewrite_if : Mode → Place → Term → Term → Term → By Term
    rewrite_if o p a b c n = after (r Iff p a n) (λ a'. branches o p a' (truth_of a') b c)

    -- a negation
    abbrev pub rewrite_not : Mode → Place → Term → By Term
    rewrite_not o p a n = after (r Iff p a n) (λ a'. known (negated o p.facts a' (truth_of a')))

    -- another call: its arguments from left to right
    abbrev pub rewrite_args : Place → List Term → By (List Term)
    rewrite_args p [] n = Some ([], n)
    rewrite_args p (u ∷ us) n = after (r Equal p u n) (λ u' n. after (rewrite_args p us n) (λ us'. known (u' ∷ us')))

    -- an equation: of one term, by a fact, or part by part, which is rewritten
    abbrev pub led : Mode → Place → Option Term → By (Option Term)
    led o p None n = none n
    led o p (Some u) n = cond (is_quoted u) (known (Some u) n) (answered (r o p u n))

    abbrev pub equate : Mode → Place → Term → By (Option Term)
    equate o p u n = led o p (equation_leads p.facts u) n

    -- a rule: its right instance, where it is in order, its hypotheses are relieved, and it isn't too large
    abbrev pub right : Mode → Place → Term → By (Option Term)
    right o p v n = cond (nat_le (term_size v) most_nodes) (answered (r o p v n)) (none n)

    abbrev pub relieved : Mode → Place → Term → Rule → Option Pairs → By (Option Term)
    relieved o p u g None n = none n
    relieved o p u g (Some s) n = cond (in_order (not (is_bound_by_left g)) g s u) (right o p (subst_of s g.rhs) n) (none n)

    abbrev pub apply : Mode → Place → Term → Rule → Option Pairs → By (Option Term)
    apply o p u g None n = none n
    apply o p u g (Some s) n =
        cond (in_order (is_bound_by_left g) g s u) (after (relieve r p g.hyps s n) (relieved o p u g)) (none n)

    abbrev pub try_rule : Mode → Place → Term → Rule → By (Option Term)
    try_rule o p u g n =
        cond (is_enabled S.theory (rune.Rewrite g.theorem) && fits_mode o g) (apply o p u g (matched g.lhs u []) n) (none n)

    -- the first rule that applies, from the newest on
    abbrev pub by_rules : Mode → Place → Term → By (Option Term)
    by_rules o p u = first_that (map (try_rule o p u) S.rules)

    -- the definition. While the body's instance, or the branch taken, is an `if` whose test becomes a constant,
    -- its branch is taken; it is opened where that is so at least once. `q` has the function closed besides
    abbrev pub walk_on : Mode → Place → Place → Bool → Term → Option Bool → Term × Walk → Term × Walk → By (Option Term)
    walk_on o p q taken a (Some true) b c n = b.1 true n
    walk_on o p q taken a (Some false) b c n = c.1 true n
    walk_on o p q true a None b c n = answered (both o q a b.0 c.0 n)
    walk_on o p q false a None b c n = none n

    abbrev pub walk_shape : Mode → Place → Place → Term → Shape (Term × Walk) → Walk
    walk_shape o p q u (choice a b c) taken n = after (r Iff p a.0 n) (λ a'. walk_on o p q taken a' (truth_of a') b c)
    walk_shape o p q u y true n = answered (r o p u n)
    walk_shape o p q u y false n = none n

    abbrev pub walk : Mode → Place → Place → Term → Walk
    walk o p q = para-Term Walk (λ y. walk_shape o p q (whole y) (layer_shape y))

    abbrev pub open_instance : Mode → Place → Term → Symbol → Function → Term → By (Option Term)
    open_instance o p u f g v n =
        cond (not (is_recursive g)) (answered (r o p v n))
        (cond (is_among term_eq u S.expand) (answered (r o (closing f p) v n)) (walk o p (closing f p) v false n))

    abbrev pub opened : Mode → Place → Term → Symbol → List Term → Option Function → By (Option Term)
    opened o p u f us None n = none n
    opened o p u f us (Some g) n = cond (may_open p f (body_at g us)) (open_instance o p u f g (body_at g us) n) (none n)

    abbrev pub by_definition : Mode → Place → Symbol → List Term → By (Option Term)
    by_definition o p f us n = opened o p (Call f us) f us (S.functions f) n

    -- what is tried on a call whose arguments are rewritten, in order; where nothing applies it is the call itself
    abbrev pub tried : Mode → Place → Symbol → List Term → List (By (Option Term))
    tried o p f us =
        known (run o f us)
        ∷ known (settle o p (Call f us))
        ∷ equate o p (Call f us)
        ∷ by_arithmetic S r p f us
        ∷ by_rules o p (Call f us)
        ∷ by_definition o p f us
        ∷ []

    abbrev pub rewrite_call : Mode → Place → Symbol → List Term → By Term
    rewrite_call o p f us n = after (rewrite_args p us n) (λ us' n. mapped (λ v. unwrap_or v (Call f us')) (first_that (tried o p f us') n))

    abbrev pub rewrite_parts : Mode → Place → Term → Term-F Term → By Term
    rewrite_parts o p u (Term-F.Var x) n = known (settled o p.facts u) n
    rewrite_parts o p u (Term-F.Quote v) n = known (constant_in o v) n
    rewrite_parts o p u (Term-F.Call f us) n = rewrite_call o p f us n

    -- a term by what it is
    abbrev pub rewrite_shape : Mode → Place → Term → Shape Term → By Term
    rewrite_shape o p u (choice a b c) n = rewrite_if o p a b c n
    rewrite_shape o p u (negation a) n = rewrite_not o p a n
    rewrite_shape o p u y n = rewrite_parts o p u (out-Term u) n

    -- a level: a step is spent first
    abbrev pub level : Inner
    level o p u = spend (rewrite_shape o p u (shape_of u))

  -- where no level is left a term stays
  abbrev pub stays : Inner
  stays o p u = spend (known u)

  -- so many levels; each inner call is one level down
  unfoldable pub rewrite_to : ℕ → Inner
  rewrite_to zero = stays
  rewrite_to (suc d) = level (rewrite_to d)

-- a term as deep as it stands itself: 200 levels are left
abbrev pub rewrite_of : Setting → Inner
rewrite_of S = rewrite_to S 200
