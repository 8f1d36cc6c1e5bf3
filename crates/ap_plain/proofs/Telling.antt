-- What events tell, one after another, and that an admitted event tells the world after it.
use Rattle.std.proofs.Common.{◌≡◌, ℕ, ◌+◌, Bool, true, false, List, [], ◌∷◌, ◌++◌, map, Option, Some, None, Ok, Err, inl, inr, refl, sym, ap, ◌∙◌, subst}
use Rattle.std.specs.Prelude.{codes}
use Rattle.std.proofs.lemmas.Option.{none-some, same_Some}
use Rattle.ap_list.specs.Lists.{Each, AnyOf}
use Rattle.ap_value.specs.declared.symbol.Symbol.{Symbol}
use Rattle.ap_value.specs.declared.value.Value.{Value}
use Rattle.ap_world.specs.declared.entry.Entry.TheVariants as entry
use Rattle.ap_world.specs.Theories.{ShownTheory}
use Rattle.ap_world.specs.World.{Shown, added, has_name}
use Rattle.ap_reader.specs.declared.form.Form.{Form}
use Rattle.ap_translate.specs.Answers as translation
use Rattle.ap_translate.specs.Written.{written}
use Rattle.ap_hints.specs.declared.hint.Hints.{Hints}
use Rattle.ap_hints.specs.Changes.{Changed, changed_theory}
use Rattle.ap_table.specs.declared.link.DropNote.{DropNote}
use Rattle.ap_attempt.specs.declared.verdict.Verdict.{Verdict}
use Rattle.ap_attempt.specs.Attempts.{RootedWalk}
use Rattle.ap_attempt.proofs.Dividing.{divided_none, divided_more}
use Rattle.ap_strategy.specs.Goals.{Goal}
use Rattle.ap_strategy.specs.Steps.{step_of, depth_of}
use Rattle.ap_plain.specs.declared.kinds.Kind.{Kind}
use Rattle.ap_plain.specs.declared.kinds.Kind.TheVariants as kind
use Rattle.ap_plain.specs.declared.limits.Limits.{Limits}
use Rattle.ap_plain.specs.declared.proposing.Proposal.{Proposal}
use Rattle.ap_stated.specs.declared.refusing.Refusal.{Refusal}
use Rattle.ap_plain.specs.Attempts.{first_rule, plan_for, tried}
use Rattle.ap_plain.specs.Changes.{changes_of, changed_event, theory_event}
use Rattle.ap_plain.specs.Constants.{constant_title, valued_constant, stated_constant, written_constant, constant_event}
use Rattle.ap_plain.specs.Counts.{goals_of}
use Rattle.ap_plain.specs.Drops.{DividedWalks}
use Rattle.ap_plain.specs.Ends.{Told, passed, walked, worlds_in, walks_in, goals_in, Done, refused, admitted}
use Rattle.ap_plain.specs.Events.{kind_of, theorem_event, definition_event, event_by, headed_event, event_with, event_of}
use Rattle.ap_stated.specs.Hinting.{given_hints}
use Rattle.ap_plain.specs.Proposals.{proposed_theorem, proposed_definition, opening_of, owed_of, said_of, with_theory, put, proved_event, hinted_event, proposed_event}
use Rattle.ap_stated.specs.Refusals.{Answer}
use Rattle.ap_stated.specs.Shapes.{Stated, Defined, head_of, statement_of, definition_of, constant_of}
use Rattle.ap_stated.specs.Texts.{title, said_line, event_text}
use Rattle.ap_plain.proofs.Counting.{goals_both}

-- Lists of what is told.

pub worlds_after : (xs ys : List Told) → worlds_in (xs ++ ys) ≡ worlds_in xs ++ worlds_in ys
worlds_after [] ys = refl
worlds_after (passed w ∷ xs) ys = ap (λ ws. w ∷ ws) (worlds_after xs ys)
worlds_after (walked a ∷ xs) ys = worlds_after xs ys

walks_after : (xs ys : List Told) → walks_in (xs ++ ys) ≡ walks_in xs ++ walks_in ys
walks_after [] ys = refl
walks_after (passed w ∷ xs) ys = walks_after xs ys
walks_after (walked a ∷ xs) ys = ap (λ ws. a ∷ ws) (walks_after xs ys)

pub each_after : {A : Type 0} (P : A → Type 0) (xs ys : List A) → Each P xs → Each P ys → Each P (xs ++ ys)
each_after P [] ys h k = k
each_after P (x ∷ xs) ys h k = (h.0, each_after P xs ys h.1 k)

-- what holds of all that is told holds of each
pub of_told : {A : Type 0} (P : A → Type 0) (ws : List A) (w : A) → Each P ws → AnyOf (λ v. v ≡ w) ws → P w
of_told P [] w h t = absurd t
of_told P (v ∷ ws) w h (inl e) = subst P e h.0
of_told P (v ∷ ws) w h (inr t) = of_told P ws w h.1 t

pub told_left : (xs ys : List Told) (w : Shown) → AnyOf (λ v. v ≡ w) (worlds_in xs) → AnyOf (λ v. v ≡ w) (worlds_in (xs ++ ys))
told_left [] ys w t = absurd t
told_left (passed v ∷ xs) ys w (inl e) = inl e
told_left (passed v ∷ xs) ys w (inr t) = inr (told_left xs ys w t)
told_left (walked a ∷ xs) ys w t = told_left xs ys w t

pub told_right : (xs ys : List Told) (w : Shown) → AnyOf (λ v. v ≡ w) (worlds_in ys) → AnyOf (λ v. v ≡ w) (worlds_in (xs ++ ys))
told_right [] ys w t = t
told_right (passed v ∷ xs) ys w t = inr (told_right xs ys w t)
told_right (walked a ∷ xs) ys w t = told_right xs ys w t

-- Notes of what is told.

pub notes_none : (xs : List Told) → DividedWalks [] (walks_in xs)
notes_none xs = divided_none step_of depth_of (λ (g : Goal). g.name) (walks_in xs)

pub notes_more : (ns ms : List DropNote) (xs ys : List Told) → DividedWalks ns (walks_in xs) → DividedWalks ms (walks_in ys) → DividedWalks (ns ++ ms) (walks_in (xs ++ ys))
notes_more ns ms xs ys h k =
    subst (DividedWalks (ns ++ ms)) (sym (walks_after xs ys)) (divided_more step_of depth_of (λ (g : Goal). g.name) ns ms (walks_in xs) (walks_in ys) h k)

-- How many goals are visited in what is told.

pub goals_after : (xs ys : List Told) → goals_in (xs ++ ys) ≡ goals_in xs + goals_in ys
goals_after xs ys = ap goals_of (walks_after xs ys) ∙ goals_both (walks_in xs) (walks_in ys)

-- The world after an admitted event is told.

abbrev Tells : Done → Type 0
Tells d = (v : Shown) → d.next ≡ Some v → AnyOf (λ u. u ≡ v) (worlds_in d.told)

refused_tells : (text : List ℕ) (walks : List (RootedWalk Goal)) → Tells (refused text walks)
refused_tells text walks v e = absurd (none-some v e)

admitted_tells : (w : Shown) (text : List ℕ) (walks : List (RootedWalk Goal)) → Tells (admitted w text walks)
admitted_tells w text walks v e = told_right (map walked walks) (passed w ∷ []) v (inl (same_Some w v e))

proved_tells : (w : Shown) (title : List ℕ) (enabled : Bool) (p : Proposal) (lines : List ℕ) (walks : List (RootedWalk Goal)) (v : Verdict) → Tells (proved_event w title enabled p lines walks v)
unfolding proved_event
proved_tells w title enabled p lines walks Verdict.Qed = admitted_tells (put enabled w p) (event_text title lines (said_line title (said_of p))) walks
proved_tells w title enabled p lines walks (Verdict.Failed r) = refused_tells [] walks

hinted_tells : (limits : Limits) (otf : Bool) (w : Shown) (title : List ℕ) (enabled : Bool) (p : Proposal) (a : Answer Hints) → Tells (hinted_event limits otf w title enabled p a)
unfolding hinted_event
hinted_tells limits otf w title enabled p (Err r) = refused_tells [] []
hinted_tells limits otf w title enabled p (Ok hs) =
    let t = tried (first_rule limits otf) (plan_for limits w hs) (owed_of p) in
    proved_tells w title enabled p (opening_of p ++ t.lines) t.walks t.verdict

proposed_tells : (limits : Limits) (otf : Bool) (w : Shown) (title : List ℕ) (enabled : Bool) (hints : Option Form) (a : Answer Proposal) → Tells (proposed_event limits otf w title enabled hints a)
unfolding proposed_event
proposed_tells limits otf w title enabled hints (Err r) = refused_tells [] []
proposed_tells limits otf w title enabled hints (Ok p) = hinted_tells limits otf w title enabled p (given_hints w hints)

theorem_tells : (limits : Limits) (w : Shown) (enabled : Bool) (s : Option Stated) → Tells (theorem_event limits w enabled s)
unfolding theorem_event
theorem_tells limits w enabled None = refused_tells [] []
theorem_tells limits w enabled (Some s) = proposed_tells limits s.chosen.otf w (title (codes "DEFTHM") s.name) enabled s.chosen.hints (proposed_theorem w s)

definition_tells : (limits : Limits) (w : Shown) (enabled : Bool) (d : Option Defined) → Tells (definition_event limits w enabled d)
unfolding definition_event
definition_tells limits w enabled None = refused_tells [] []
definition_tells limits w enabled (Some d) = proposed_tells limits d.xargs.otf w (title (codes "DEFUN") d.name) enabled d.xargs.hints (proposed_definition w d)

valued_tells : (w : Shown) (n : Symbol) (a : Answer Value) → Tells (valued_constant w n a)
valued_tells w n (Ok v) = admitted_tells (added w (entry.Constant n v)) [] []
valued_tells w n (Err r) = refused_tells [] []

written_tells : (w : Shown) (n : Symbol) (a : translation.Answer (Option Value)) → Tells (written_constant w n a)
unfolding written_constant
written_tells w n (Ok None) = refused_tells [] []
written_tells w n (Ok (Some v)) = valued_tells w n (stated_constant w n (Ok v))
written_tells w n (Err e) = valued_tells w n (stated_constant w n (Err (Refusal.Translation e.kind)))

constant_tells : (w : Shown) (p : Option (Symbol × Form)) → Tells (constant_event w p)
unfolding constant_event
constant_tells w None = refused_tells [] []
constant_tells w (Some p) = written_tells w p.0 (written p.1)

changed_tells : (w : Shown) (h : Option ShownTheory) → Tells (changed_event w h)
unfolding changed_event
changed_tells w None = refused_tells [] []
changed_tells w (Some h) = admitted_tells (with_theory w h) [] []

theory_tells : (w : Shown) (c : Option Changed) → Tells (theory_event w c)
unfolding theory_event
theory_tells w None = refused_tells [] []
theory_tells w (Some c) = changed_tells w (changed_theory w c)

kind_tells : (limits : Limits) (w : Shown) (f : Form) (k : Kind) → Tells (event_by limits w f k)
unfolding event_by
kind_tells limits w f kind.Theorem = theorem_tells limits w true (statement_of f)
kind_tells limits w f kind.DisabledTheorem = theorem_tells limits w false (statement_of f)
kind_tells limits w f kind.Function = definition_tells limits w true (definition_of f)
kind_tells limits w f kind.DisabledFunction = definition_tells limits w false (definition_of f)
kind_tells limits w f kind.Constant = constant_tells w (constant_of f)
kind_tells limits w f kind.Theory = theory_tells w (changes_of f)

headed_tells : (limits : Limits) (w : Shown) (f : Form) (h : Symbol) (k : Option Kind) → Tells (headed_event limits w f h k)
unfolding headed_event
headed_tells limits w f h None = refused_tells [] []
headed_tells limits w f h (Some k) = kind_tells limits w f k

with_tells : (limits : Limits) (w : Shown) (f : Form) (h : Option Symbol) → Tells (event_with limits w f h)
unfolding event_with
with_tells limits w f None = refused_tells [] []
with_tells limits w f (Some h) = headed_tells limits w f h (kind_of h)

pub next_told : (limits : Limits) (w : Shown) (f : Form) (v : Shown) → (event_of limits w f).next ≡ Some v → AnyOf (λ u. u ≡ v) (worlds_in (event_of limits w f).told)
unfolding event_of
next_told limits w f = with_tells limits w f (head_of f)
