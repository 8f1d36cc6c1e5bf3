-- An event with a name: what it states is put into the world where what that owes is proved.
use Rattle.std.specs.Prelude.{ℕ, Bool, true, false, List, [], ◌++◌, Option, unwrap_or, codes, Ok, Err}
use Rattle.ap_value.specs.declared.symbol.Symbol.{Symbol}
use Rattle.ap_world.specs.declared.entry.Entry.{Entry}
use Rattle.ap_world.specs.declared.entry.Entry.TheVariants as entry
use Rattle.ap_world.specs.Theories.{ShownTheory}
use Rattle.ap_world.specs.World.{Shown, added}
use Rattle.ap_reader.specs.declared.form.Form.{Form}
use Rattle.ap_attempt.specs.declared.verdict.Verdict.{Verdict}
use Rattle.ap_attempt.specs.Attempts.{RootedWalk}
use Rattle.ap_hints.specs.declared.hint.Hints.{Hints}
use Rattle.ap_hints.specs.Runes.{runes_named, changed_runes}
use Rattle.ap_strategy.specs.Goals.{Goal}
use Rattle.ap_plain.specs.declared.limits.Limits.{Limits}
use Rattle.ap_stated.specs.declared.owed.Owed.{Owed}
use Rattle.ap_plain.specs.declared.proposing.Proposal.{Proposal}
use Rattle.ap_plain.specs.declared.proposing.Proposal.TheVariants as proposal
use Rattle.ap_stated.specs.declared.refusing.Refusal.{Refusal}
use Rattle.ap_plain.specs.Attempts.{Tried, first_rule, tried, plan_for}
use Rattle.ap_stated.specs.Definitions.{IsDefinition, stated_definition, owed_by, measure_text, function_in}
use Rattle.ap_plain.specs.Ends.{Done, refused, admitted}
use Rattle.ap_stated.specs.Hinting.{given_hints}
use Rattle.ap_stated.specs.Refusals.{Answer, ◌>>=◌}
use Rattle.ap_stated.specs.Shapes.{Stated, Defined}
use Rattle.ap_stated.specs.Texts.{title, said_line, refused_line, event_text}
use Rattle.ap_stated.specs.Theorems.{IsTheorem, stated_theorem, owed_theorem}

-- what is stated: a theorem, or a definition that ends
abbrev pub proposed_theorem : Shown → Stated → Answer Proposal
proposed_theorem w s = stated_theorem w s >>= λ t. Ok (proposal.Theorem t)

abbrev pub proposed_definition : Shown → Defined → Answer Proposal
proposed_definition w d = stated_definition w d >>= λ t. Ok (proposal.Function t)

-- the lines before its attempts, what it owes, and what is said once that is proved
abbrev pub opening_of : Proposal → List ℕ
opening_of (proposal.Theorem t) = []
opening_of (proposal.Function t) = measure_text t.measure

abbrev pub owed_of : Proposal → List Owed
owed_of (proposal.Theorem t) = owed_theorem t
owed_of (proposal.Function t) = owed_by t.definition t.measure

abbrev pub said_of : Proposal → List ℕ
said_of (proposal.Theorem t) = codes " proved"
said_of (proposal.Function t) = codes " admitted"

-- its name, and the entry that is put into the world
abbrev pub name_of : Proposal → Symbol
name_of (proposal.Theorem t) = t.name
name_of (proposal.Function t) = t.definition.name

abbrev pub entry_in : Shown → Proposal → Entry
entry_in w (proposal.Theorem t) = entry.Theorem t
entry_in w (proposal.Function t) = entry.Function (function_in w t)

-- `defthmd` and `defund` disable the name that they made
abbrev pub with_theory : Shown → ShownTheory → Shown
with_theory w h = record w { theory = h }

abbrev pub without_name : Symbol → Shown → Shown
without_name n w = with_theory w (changed_runes [] (unwrap_or (runes_named w.entries n) []) w.theory)

abbrev pub left : Bool → Symbol → Shown → Shown
left true n w = w
left false n w = without_name n w

abbrev pub put : Bool → Shown → Proposal → Shown
put enabled w p = left enabled (name_of p) (added w (entry_in w p))

-- what is known of what was stated in a world
abbrev pub IsStated : Shown → Proposal → Type 0
IsStated w (proposal.Theorem t) = IsTheorem w t
IsStated w (proposal.Function t) = IsDefinition w t

-- The event: what it states comes first, then its hints, and then the attempts, by whether it asks for `:otf-flg`. A refusal has its line behind those of
-- the attempts that were made.

unfoldable pub proved_event : Shown → List ℕ → Bool → Proposal → List ℕ → List (RootedWalk Goal) → Verdict → Done
proved_event w title enabled p lines walks Verdict.Qed = admitted (put enabled w p) (event_text title lines (said_line title (said_of p))) walks
proved_event w title enabled p lines walks (Verdict.Failed r) = refused (event_text title lines (refused_line title (Refusal.Attempt r))) walks

abbrev pub tried_event : Shown → List ℕ → Bool → Proposal → Tried → Done
tried_event w title enabled p t = proved_event w title enabled p (opening_of p ++ t.lines) t.walks t.verdict

unfoldable pub hinted_event : Limits → Bool → Shown → List ℕ → Bool → Proposal → Answer Hints → Done
hinted_event limits otf w title enabled p (Err r) = refused (event_text title [] (refused_line title r)) []
hinted_event limits otf w title enabled p (Ok hs) = tried_event w title enabled p (tried (first_rule limits otf) (plan_for limits w hs) (owed_of p))

unfoldable pub proposed_event : Limits → Bool → Shown → List ℕ → Bool → Option Form → Answer Proposal → Done
proposed_event limits otf w title enabled hints (Err r) = refused (event_text title [] (refused_line title r)) []
proposed_event limits otf w title enabled hints (Ok p) = hinted_event limits otf w title enabled p (given_hints w hints)
