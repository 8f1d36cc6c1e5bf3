-- An event leaves the functions that a world has: the next world has the entries of the one before, and perhaps more.
use Rattle.std.proofs.Common.{◌≡◌, ℕ, Bool, true, false, cond, Option, Some, None, Result, Ok, Err, IfOk, OnErr, List, [], ◌∷◌, ◌++◌, refl, ap, sym, ◌∙◌, subst, append-nil}
use Rattle.ap_value.specs.declared.symbol.Symbol.{Symbol}
use Rattle.ap_value.specs.declared.value.Value.{Value}
use Rattle.ap_world.specs.declared.entry.Entry.{Entry}
use Rattle.ap_world.specs.Sound.{HasFunctions}
use Rattle.ap_world.specs.Theories.{ShownTheory}
use Rattle.ap_world.specs.World.{Shown, function_of, has_name}
use Rattle.ap_world.proofs.Adding.{has_functions-more}
use Rattle.ap_reader.specs.declared.form.Form.{Form}
use Rattle.ap_translate.specs.Answers as translation
use Rattle.ap_translate.specs.Written.{written}
use Rattle.ap_attempt.specs.declared.verdict.Verdict.{Verdict}
use Rattle.ap_attempt.specs.Attempts.{RootedWalk}
use Rattle.ap_hints.specs.declared.hint.Hints.{Hints}
use Rattle.ap_hints.specs.Changes.{Changed, changed_theory}
use Rattle.ap_strategy.specs.Goals.{Goal}
use Rattle.ap_plain.specs.declared.end.Outcome.{Outcome}
use Rattle.ap_plain.specs.declared.kinds.Kind.{Kind}
use Rattle.ap_plain.specs.declared.kinds.Kind.TheVariants as kind
use Rattle.ap_plain.specs.declared.limits.Limits.{Limits}
use Rattle.ap_plain.specs.declared.proposing.Proposal.{Proposal}
use Rattle.ap_plain.specs.Attempts.{first_rule, tried, plan_for}
use Rattle.ap_plain.specs.Changes.{changes_of, changed_event, theory_event}
use Rattle.ap_plain.specs.Constants.{stated_constant, valued_constant, written_constant, constant_event}
use Rattle.ap_plain.specs.Ends.{Done, Did}
use Rattle.ap_plain.specs.Events.{kind_of, theorem_event, definition_event, event_by, headed_event, event_with, event_of}
use Rattle.ap_stated.specs.Hinting.{given_hints}
use Rattle.ap_plain.specs.Proposals.{entry_in, put, owed_of, opening_of, proposed_theorem, proposed_definition, proved_event, hinted_event, proposed_event}
use Rattle.ap_stated.specs.Refusals.{Answer}
use Rattle.ap_stated.specs.Shapes.{Stated, Defined, head_of, statement_of, definition_of, constant_of}

-- the next world, if there is one, has the entries of this one first
abbrev pub GrowsTo : Shown → Option Shown → Type 0
GrowsTo w None = Unit {0}
GrowsTo w (Some v) = (es : List Entry) × (v.entries ≡ w.entries ++ es)

put_grows : (enabled : Bool) (w : Shown) (p : Proposal) → GrowsTo w (Some (put enabled w p))
put_grows true w p = (entry_in w p ∷ [], refl)
put_grows false w p = (entry_in w p ∷ [], refl)

proved_grows : (w : Shown) (title : List ℕ) (enabled : Bool) (p : Proposal) (lines : List ℕ) (walks : List (RootedWalk Goal)) (v : Verdict)
    → GrowsTo w (proved_event w title enabled p lines walks v).next
unfolding proved_event
proved_grows w title enabled p lines walks Verdict.Qed = put_grows enabled w p
proved_grows w title enabled p lines walks (Verdict.Failed r) = tt

hinted_grows : (limits : Limits) (otf : Bool) (w : Shown) (title : List ℕ) (enabled : Bool) (p : Proposal) (a : Answer Hints) → GrowsTo w (hinted_event limits otf w title enabled p a).next
unfolding hinted_event
hinted_grows limits otf w title enabled p (Err r) = tt
hinted_grows limits otf w title enabled p (Ok hs) =
    let t = tried (first_rule limits otf) (plan_for limits w hs) (owed_of p) in
    proved_grows w title enabled p (opening_of p ++ t.lines) t.walks t.verdict

proposed_grows : (limits : Limits) (otf : Bool) (w : Shown) (title : List ℕ) (enabled : Bool) (hints : Option Form) (a : Answer Proposal) → GrowsTo w (proposed_event limits otf w title enabled hints a).next
unfolding proposed_event
proposed_grows limits otf w title enabled hints (Err r) = tt
proposed_grows limits otf w title enabled hints (Ok p) = hinted_grows limits otf w title enabled p (given_hints w hints)

theorem_grows : (limits : Limits) (w : Shown) (enabled : Bool) (s : Option Stated) → GrowsTo w (theorem_event limits w enabled s).next
unfolding theorem_event
theorem_grows limits w enabled None = tt
theorem_grows limits w enabled (Some s) = proposed_grows limits s.chosen.otf w _ enabled s.chosen.hints (proposed_theorem w s)

definition_grows : (limits : Limits) (w : Shown) (enabled : Bool) (d : Option Defined) → GrowsTo w (definition_event limits w enabled d).next
unfolding definition_event
definition_grows limits w enabled None = tt
definition_grows limits w enabled (Some d) = proposed_grows limits d.xargs.otf w _ enabled d.xargs.hints (proposed_definition w d)

valued_grows : (w : Shown) (n : Symbol) (a : Answer Value) → GrowsTo w (valued_constant w n a).next
valued_grows w n (Ok v) = (_ ∷ [], refl)
valued_grows w n (Err r) = tt

written_grows : (w : Shown) (n : Symbol) (a : translation.Answer (Option Value)) → GrowsTo w (written_constant w n a).next
unfolding written_constant
written_grows w n (Ok None) = tt
written_grows w n (Ok (Some v)) = valued_grows w n (stated_constant w n (Ok v))
written_grows w n (Err e) = valued_grows w n (stated_constant w n (Err _))

constant_grows : (w : Shown) (p : Option (Symbol × Form)) → GrowsTo w (constant_event w p).next
unfolding constant_event
constant_grows w None = tt
constant_grows w (Some p) = written_grows w p.0 (written p.1)

changed_grows : (w : Shown) (h : Option ShownTheory) → GrowsTo w (changed_event w h).next
unfolding changed_event
changed_grows w None = tt
changed_grows w (Some h) = ([], sym (append-nil w.entries))

theory_grows : (w : Shown) (c : Option Changed) → GrowsTo w (theory_event w c).next
unfolding theory_event
theory_grows w None = tt
theory_grows w (Some c) = changed_grows w (changed_theory w c)

kind_grows : (limits : Limits) (w : Shown) (f : Form) (k : Kind) → GrowsTo w (event_by limits w f k).next
unfolding event_by
kind_grows limits w f kind.Theorem = theorem_grows limits w true (statement_of f)
kind_grows limits w f kind.DisabledTheorem = theorem_grows limits w false (statement_of f)
kind_grows limits w f kind.Function = definition_grows limits w true (definition_of f)
kind_grows limits w f kind.DisabledFunction = definition_grows limits w false (definition_of f)
kind_grows limits w f kind.Constant = constant_grows w (constant_of f)
kind_grows limits w f kind.Theory = theory_grows w (changes_of f)

headed_grows : (limits : Limits) (w : Shown) (f : Form) (h : Symbol) (k : Option Kind) → GrowsTo w (headed_event limits w f h k).next
unfolding headed_event
headed_grows limits w f h None = tt
headed_grows limits w f h (Some k) = kind_grows limits w f k

with_grows : (limits : Limits) (w : Shown) (f : Form) (h : Option Symbol) → GrowsTo w (event_with limits w f h).next
unfolding event_with
with_grows limits w f None = tt
with_grows limits w f (Some h) = headed_grows limits w f h (kind_of h)

pub event_grows : (limits : Limits) (w : Shown) (f : Form) → GrowsTo w (event_of limits w f).next
unfolding event_of
event_grows limits w f = with_grows limits w f (head_of f)

pub functions_grow : (w : Shown) (o : Option Shown) (v : Shown) → GrowsTo w o → o ≡ Some v → HasFunctions (function_of w.entries) → HasFunctions (function_of v.entries)
functions_grow w o v grows is functions =
    let p = subst (GrowsTo w) is grows in
    subst (λ es. HasFunctions (function_of es)) (sym p.1) (has_functions-more w.entries p.0 functions)

-- so the world that a call leaves has them, whatever it answered
pub functions_kept : {E : Type 0} (r : Result Outcome E) (d : Done) (w v : Shown) → HasFunctions (function_of w.entries) → GrowsTo w d.next → IfOk r (Did d w v) → OnErr r (v ≡ w)
    → HasFunctions (function_of v.entries)
functions_kept (Err e) d w v functions grows did same = subst (λ (u : Shown). HasFunctions (function_of u.entries)) (sym same) functions
functions_kept (Ok e) d w v functions grows did same = go e.admitted refl
  where
    go : (b : Bool) → e.admitted ≡ b → HasFunctions (function_of v.entries)
    go true q = functions_grow w d.next v grows (did.next ∙ ap (λ b. cond b (Some v) None) q) functions
    go false q = subst (λ (u : Shown). HasFunctions (function_of u.entries)) (sym (did.kept q)) functions
