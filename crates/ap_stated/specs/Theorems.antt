-- A theorem: what its event states, what that owes, and what is put into the world.
use Rattle.std.specs.Prelude.{◌≡◌, false, true, List, [], ◌∷◌, Option, Some, None, Ok, Err}
use Rattle.ap_term.specs.declared.term.Term.{Term}
use Rattle.ap_world.specs.declared.entry.Theorem.{Theorem}
use Rattle.ap_world.specs.Clauses.{flat}
use Rattle.ap_world.specs.Sound.{known}
use Rattle.ap_world.specs.World.{Shown, function_of, has_name}
use Rattle.ap_rules.specs.declared.refusing.RuleError.{RuleError}
use Rattle.ap_rules.specs.Refused.{refusal}
use Rattle.ap_translate.specs.Table.{translated}
use Rattle.ap_stated.specs.declared.owed.Owed.{Owed}
use Rattle.ap_stated.specs.declared.refusing.Refusal.{Refusal}
use Rattle.ap_stated.specs.Classes.{classes_in}
use Rattle.ap_stated.specs.Refusals.{Answer, ◌>>=◌, unless, as_translated}
use Rattle.ap_stated.specs.Shapes.{Stated}

abbrev pub theorem_of : Stated → Term → Theorem
theorem_of s u = record { name = s.name; term = u; classes = classes_in s.chosen.classes }

-- one that gives no rules of its classes is refused
abbrev pub ruled_by : Theorem → Option RuleError → Answer Theorem
ruled_by t None = Ok t
ruled_by t (Some e) = Err (Refusal.Rule e)

abbrev pub ruled : Theorem → Answer Theorem
ruled t = ruled_by t (refusal t.name t.term t.classes)

-- its name is free, its term is one of the world, and it gives rules of its classes
abbrev pub stated_theorem : Shown → Stated → Answer Theorem
stated_theorem w s =
    unless (has_name w.entries s.name) Refusal.NameTaken
    (as_translated (translated w.entries None s.term) >>= λ u. ruled (theorem_of s u))

-- it owes its clause, which has no line of its own
abbrev pub owed_theorem : Theorem → List Owed
owed_theorem t = record { heading = []; clause = record { 0 = flat t.term } } ∷ []

-- what is known of a theorem that was stated in a world
pub record IsTheorem (w : Shown) (t : Theorem) : Type 0 where
  pub free : has_name w.entries t.name ≡ false
  pub term_known : known (function_of w.entries) t.term ≡ true
