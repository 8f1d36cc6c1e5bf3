-- What a theorem's part leads to, and when its hypotheses are relieved.
use Rattle.std.specs.Prelude.{◌≡◌, ℕ, Bool, true, false, cond, List, [], ◌∷◌, Option, Some, None, slice_get}
use Rattle.ap_value.specs.Values.{symbol_eq}
use Rattle.ap_term.specs.declared.term.Term.{Term}
use Rattle.ap_term.specs.declared.term.Term.TheOpen.{Term-F}
use Rattle.ap_term.specs.Terms.{subst_of}
use Rattle.ap_term.specs.Matching.{Pairs}
use Rattle.ap_world.specs.declared.entry.Theorem.{Theorem}
use Rattle.ap_world.specs.Clauses.{is_nil, conjuncts}
use Rattle.ap_world.specs.Names.{implies_name}
use Rattle.ap_world.specs.Recursion.{nil_constant, t_constant}
use Rattle.ap_world.specs.Rules.{Rule, Sides, stated}
use Rattle.ap_world.specs.Shapes.{Shape, choice}
use Rattle.ap_kernel.specs.declared.objects.Ctx.{Ctx}
use Rattle.ap_kernel.specs.declared.objects.Mode.{Mode}
use Rattle.ap_kernel.specs.declared.objects.Mode.TheVariants.{Equal, Iff}
use Rattle.ap_kernel.specs.declared.objects.Sequent.{Sequent}
use Rattle.ap_kernel.specs.declared.objects.Equiv.{Equiv}
use Rattle.ap_kernel.specs.declared.parts.Reading.{Reading}
use Rattle.ap_kernel.specs.declared.parts.Reading.TheVariants as lent

abbrev pub mode_in : Bool → Mode
mode_in true = Iff
mode_in false = Equal

-- from the instance of the part's left side to that of its right side
abbrev pub applied_made : Ctx → Pairs → Rule → Sequent
applied_made c s g = record { ctx = c; mode = mode_in g.iff; lhs = subst_of s g.lhs; rhs = subst_of s g.rhs }

-- what says that a hypothesis's instance leads under these facts to 'T
pub record LeadsToTrue (c : Ctx) (s : Pairs) (h : Term) (q : Sequent) : Type 0 where
  pub facts : q.ctx ≡ c
  pub left : q.lhs ≡ subst_of s h
  pub right : q.rhs ≡ t_constant

-- one for each hypothesis, in order
abbrev pub AllLead : Ctx → Pairs → List Term → List Equiv → Type 0
AllLead c s [] [] = Unit {0}
AllLead c s (h ∷ hs) (q ∷ qs) = LeadsToTrue c s h q.says × AllLead c s hs qs
AllLead c s hs qs = ⊥

-- there is such a part, and each of its hypotheses is relieved
abbrev pub PartRelieved : Ctx → Pairs → Option Rule → List Equiv → Type 0
PartRelieved c s None qs = ⊥
PartRelieved c s (Some g) qs = AllLead c s g.hyps qs

-- the conjunct that a part of a theorem is read from
abbrev pub conjunct_at : ℕ → Option Theorem → Option Term
conjunct_at i None = None
conjunct_at i (Some u) = slice_get (conjuncts (stated u.term).1) i

-- the parts of a conjunction, and of an implication
abbrev pub joined_parts : Shape Term → Option (Term × Term)
joined_parts (choice a b c) = cond (is_nil c) (Some (a, b)) None
joined_parts y = None

abbrev pub implied_parts : Term-F Term → Option (Term × Term)
implied_parts (Term-F.Call f (h ∷ c ∷ [])) = cond (symbol_eq f implies_name) (Some (h, c)) None
implied_parts y = None

-- how a conjunct is read, as it is lent
abbrev pub seen_sides : Reading → Sides
seen_sides (lent.Equal a b) = (false, a.now, b.now)
seen_sides (lent.Iff a b) = (true, a.now, b.now)
seen_sides (lent.Nil a) = (false, a.now, nil_constant)
seen_sides (lent.True u) = (true, u.now, t_constant)
