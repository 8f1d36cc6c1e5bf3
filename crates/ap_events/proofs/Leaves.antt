-- Events that hold no others, first and again: each is a step, and keeps worlds good.
use Rattle.std.proofs.Common.{◌≡◌, ℕ, Bool, true, false, List, [], ◌∷◌, ◌++◌, ◌⊎◌, inl, inr, Option, Some, None, Ok, Err, refl, ap, sym, ◌∙◌, subst}
use Rattle.std.specs.Prelude.{codes}
use Rattle.std.proofs.lemmas.Option.{same_Some}
use Rattle.ap_list.specs.Lists.{Each, AnyOf, lookup_by}
use Rattle.ap_value.specs.declared.symbol.Symbol.{Symbol}
use Rattle.ap_value.specs.Values.{bytes_eq}
use Rattle.ap_term.specs.Printed.{symbol_text}
use Rattle.ap_reader.specs.declared.form.Form.{Form}
use Rattle.ap_world.specs.declared.entry.Entry.{Entry}
use Rattle.ap_world.specs.Including.{missing, has_clash, included}
use Rattle.ap_world.specs.World.{Shown}
use Rattle.ap_world.proofs.Adding.{has_functions-more}
use Rattle.ap_world.proofs.Included.{without_clash, included_sound, included_distinct}
use Rattle.ap_plain.specs.declared.kinds.Kind.{Kind}
use Rattle.ap_plain.specs.declared.kinds.Kind.TheVariants as kind
use Rattle.ap_plain.specs.declared.limits.Limits.{Limits}
use Rattle.ap_plain.specs.declared.proposing.Proposal.{Proposal}
use Rattle.ap_stated.specs.declared.refusing.Refusal.{Refusal}
use Rattle.ap_plain.specs.Changes.{changes_of, theory_event}
use Rattle.ap_plain.specs.Constants.{constant_event}
use Rattle.ap_plain.specs.Ends.{Done, admitted, refused_alone, worlds_in}
use Rattle.ap_plain.specs.Events.{kind_of, event_by, headed_event, event_with, event_of}
use Rattle.ap_plain.specs.Laws.{GoodWorld}
use Rattle.ap_plain.specs.Limits.{are_within}
use Rattle.ap_plain.specs.Proposals.{proposed_theorem, proposed_definition, entry_in, put, IsStated}
use Rattle.ap_stated.specs.Refusals.{Answer}
use Rattle.ap_stated.specs.Shapes.{Stated, Defined, head_of, statement_of, definition_of, constant_of}
use Rattle.ap_stated.specs.Texts.{title, said_line}
use Rattle.ap_plain.proofs.Growing.{GrowsTo, event_grows}
use Rattle.ap_plain.proofs.Sounding.{Gives, theorem_proposed, definition_proposed, put_good, events_keep_good}
use Rattle.ap_plain.proofs.Telling.{of_told, next_told}
use Rattle.ap_events.specs.Backing.{Backed}
use Rattle.ap_events.specs.Books.{Earlier, book_of, include_title, include_by, include_of, included_by, include_event, Asks, book, events, event, asks_of, asked_first, headed_first, first_event, silent_by, silent, put_again, theorem_again, definition_again, kind_again, known_again, asked_again, headed_again, again_event}
use Rattle.ap_events.specs.Laws.{AreGood}
use Rattle.ap_events.proofs.Books.{found_book, put_entries}
use Rattle.ap_events.proofs.Keeping.{AllGood, Redone}
use Rattle.ap_events.proofs.Owing.{put_owed}
use Rattle.ap_events.proofs.Steps.{Step, no_step}

-- Steps.

refused_step : (title : List ℕ) (r : Refusal) (w : Shown) → Step (refused_alone title r) w
refused_step title r w = no_step (refused_alone title r) w refl

admitted_step : (w v : Shown) (text : List ℕ) → (es : List Entry) × (v.entries ≡ w.entries ++ es) → Step (admitted v text []) w
admitted_step w v text grown = record {
  grows = λ x h. subst (λ (y : Shown). (es : List Entry) × (y.entries ≡ w.entries ++ es)) (same_Some v x h) grown;
  tells = λ x h. inr (inl (same_Some v x h));
}

silent_step : (d : Done) (w : Shown) → Step d w → Step (silent d) w
silent_step d w step = go d.next refl
  where
    go : (o : Option Shown) → d.next ≡ o → Step (silent_by d o) w
    go None e = step
    go (Some v) e = record { grows = λ x h. step.grows x (e ∙ h); tells = λ x h. step.tells x (e ∙ h) }

silent_told : (d : Done) → (silent d).told ≡ d.told
silent_told d = go d.next
  where
    go : (o : Option Shown) → (silent_by d o).told ≡ d.told
    go None = refl
    go (Some v) = refl

-- one event, by its head
event_step : (limits : Limits) (f : Form) (w : Shown) → Step (event_of limits w f) w
event_step limits f w = record {
  grows = λ v h. subst (GrowsTo w) h (event_grows limits w f);
  tells = λ v h. inr (next_told limits w f v h);
}

event_is : (limits : Limits) (f : Form) (w : Shown) (n : Symbol) (k : Kind) → head_of f ≡ Some n → kind_of n ≡ Some k → event_of limits w f ≡ event_by limits w f k
unfolding event_of event_with headed_event
event_is limits f w n k e q = ap (event_with limits w f) e ∙ ap (headed_event limits w f n) q

-- a book
included_step : (w : Shown) (n : List ℕ) (k : Shown) → Step (include_of w n k) w
unfolding include_of
included_step w n k = go (has_clash w.entries k.entries)
  where
    go : (b : Bool) → Step (include_by b w n k) w
    go true = refused_step (include_title n) Refusal.NameTaken w
    go false = admitted_step w (included w k) (said_line (include_title n) (codes " admitted")) (missing w.entries k.entries, refl)

include_step : (earlier : Earlier) (w : Shown) (n : Option (List ℕ)) → Step (include_event earlier w n) w
unfolding include_event
include_step earlier w None = refused_step (codes "INCLUDE-BOOK") Refusal.BadEvent w
include_step earlier w (Some n) = go (lookup_by bytes_eq earlier n)
  where
    go : (o : Option Shown) → Step (included_by w n o) w
    go None = refused_step (include_title n) Refusal.NoSuchBook w
    go (Some k) = included_step w n k

pub first_step : (limits : Limits) (earlier : Earlier) (f : Form) (w : Shown) → Step (first_event limits earlier f w) w
unfolding first_event
first_step limits earlier f w = by_head (head_of f)
  where
    by_asked : (n : Symbol) (a : Asks) → Step (asked_first limits earlier f w n a) w
    by_asked n book = include_step earlier w (book_of f)
    by_asked n events = refused_step (symbol_text n) Refusal.BadEvent w
    by_asked n event = event_step limits f w

    by_head : (o : Option Symbol) → Step (headed_first limits earlier f w o) w
    by_head None = event_step limits f w
    by_head (Some n) = by_asked n (asks_of n)

-- again
some_limits : Limits
some_limits = record { steps = 1; goals = 1; revert = 2; within = are_within 1 1 2 refl }

put_step : (w : Shown) (title : List ℕ) (enabled : Bool) (a : Answer Proposal) → Step (put_again w title enabled a) w
put_step w title enabled (Err r) = refused_step title r w
put_step w title enabled (Ok p) = admitted_step w (put enabled w p) [] (entry_in w p ∷ [], put_entries enabled w p)

theorem_step : (w : Shown) (enabled : Bool) (s : Option Stated) → Step (theorem_again w enabled s) w
unfolding theorem_again
theorem_step w enabled None = refused_step (codes "DEFTHM") Refusal.BadEvent w
theorem_step w enabled (Some s) = put_step w (title (codes "DEFTHM") s.name) enabled (proposed_theorem w s)

definition_step : (w : Shown) (enabled : Bool) (d : Option Defined) → Step (definition_again w enabled d) w
unfolding definition_again
definition_step w enabled None = refused_step (codes "DEFUN") Refusal.BadEvent w
definition_step w enabled (Some d) = put_step w (title (codes "DEFUN") d.name) enabled (proposed_definition w d)

kind_step : (f : Form) (w : Shown) (n : Symbol) (k : Kind) → head_of f ≡ Some n → kind_of n ≡ Some k → Step (kind_again w f k) w
unfolding kind_again event_by
kind_step f w n kind.Theorem e q = theorem_step w true (statement_of f)
kind_step f w n kind.DisabledTheorem e q = theorem_step w false (statement_of f)
kind_step f w n kind.Function e q = definition_step w true (definition_of f)
kind_step f w n kind.DisabledFunction e q = definition_step w false (definition_of f)
kind_step f w n kind.Constant e q =
    silent_step (constant_event w (constant_of f)) w (subst (λ d. Step d w) (event_is some_limits f w n kind.Constant e q) (event_step some_limits f w))
kind_step f w n kind.Theory e q =
    silent_step (theory_event w (changes_of f)) w (subst (λ d. Step d w) (event_is some_limits f w n kind.Theory e q) (event_step some_limits f w))

pub again_step : (earlier : Earlier) (f : Form) (w : Shown) → Step (again_event earlier f w) w
unfolding again_event
again_step earlier f w = by_head (head_of f) refl
  where
    by_kind : (n : Symbol) → head_of f ≡ Some n → (o : Option Kind) → kind_of n ≡ o → Step (known_again w f n o) w
    by_kind n e None q = refused_step (symbol_text n) Refusal.NotSupported w
    by_kind n e (Some k) q = kind_step f w n k e q

    by_asked : (n : Symbol) → head_of f ≡ Some n → (a : Asks) → Step (asked_again earlier f w n a) w
    by_asked n e book = silent_step (include_event earlier w (book_of f)) w (include_step earlier w (book_of f))
    by_asked n e events = refused_step (symbol_text n) Refusal.BadEvent w
    by_asked n e event = by_kind n e (kind_of n) refl

    by_head : (o : Option Symbol) → head_of f ≡ o → Step (headed_again earlier f w o) w
    by_head None e = refused_step (codes "FORM") Refusal.NotSupported w
    by_head (Some n) e = by_asked n e (asks_of n)

-- Good worlds.

-- a step whose worlds are good gives a good one
step_good : (d : Done) (w : Shown) → Step d w → GoodWorld w → Each GoodWorld (worlds_in d.told) → AllGood d
step_good d w step good told = record { on_the_way = told; last = λ v h. go v (step.tells v h) }
  where
    go : (v : Shown) → (w ≡ v) ⊎ AnyOf (λ u. u ≡ v) (worlds_in d.told) → GoodWorld v
    go v (inl same) = subst GoodWorld same good
    go v (inr t) = of_told GoodWorld (worlds_in d.told) v told t

abbrev TellsGood : Done → Type 0
TellsGood d = Each GoodWorld (worlds_in d.told)

silent_good : (d : Done) → TellsGood d → TellsGood (silent d)
silent_good d good = subst (λ ts. Each GoodWorld (worlds_in ts)) (sym (silent_told d)) good

included_good : (w k : Shown) → GoodWorld w → GoodWorld k → has_clash w.entries k.entries ≡ false → GoodWorld (included w k)
included_good w k good kept h = record {
  sound = included_sound w.entries k.entries good.sound kept.sound kept.distinct (without_clash w.entries k.entries h);
  distinct = included_distinct w.entries k.entries good.distinct kept.distinct;
  functions = has_functions-more w.entries (missing w.entries k.entries) good.functions;
}

include_of_good : (w : Shown) (n : List ℕ) (k : Shown) → GoodWorld w → GoodWorld k → TellsGood (include_of w n k)
unfolding include_of
include_of_good w n k good kept = go (has_clash w.entries k.entries) refl
  where
    go : (b : Bool) → has_clash w.entries k.entries ≡ b → TellsGood (include_by b w n k)
    go true e = tt
    go false e = (included_good w k good kept e, tt)

include_good : (earlier : Earlier) → AreGood earlier → (w : Shown) (n : Option (List ℕ)) → GoodWorld w → TellsGood (include_event earlier w n)
unfolding include_event
include_good earlier books w None good = tt
include_good earlier books w (Some n) good = go (lookup_by bytes_eq earlier n) refl
  where
    go : (o : Option Shown) → lookup_by bytes_eq earlier n ≡ o → TellsGood (included_by w n o)
    go None e = tt
    go (Some k) e = include_of_good w n k good (found_book GoodWorld earlier n k books e)

pub first_good : (limits : Limits) (earlier : Earlier) → AreGood earlier → (f : Form) (w : Shown) → GoodWorld w → AllGood (first_event limits earlier f w)
unfolding first_event
first_good limits earlier books f w good = step_good (first_event limits earlier f w) w (first_step limits earlier f w) good (by_head (head_of f))
  where
    by_asked : (n : Symbol) (a : Asks) → TellsGood (asked_first limits earlier f w n a)
    by_asked n book = include_good earlier books w (book_of f) good
    by_asked n events = tt
    by_asked n event = events_keep_good limits w f good

    by_head : (o : Option Symbol) → TellsGood (headed_first limits earlier f w o)
    by_head None = events_keep_good limits w f good
    by_head (Some n) = by_asked n (asks_of n)

-- what is stated again is put again
module _ (w : Shown) (U : List Entry) (good : GoodWorld w) where
  stated_good : (title : List ℕ) (enabled : Bool) (a : Answer Proposal) → Gives (IsStated w) a → Backed (put_again w title enabled a) w U → TellsGood (put_again w title enabled a)
  stated_good title enabled (Err r) stated b = tt
  stated_good title enabled (Ok p) stated b = (put_good enabled w p good stated (put_owed w U good.sound good.functions b.sound b.before enabled p stated b.made), tt)

  theorem_good : (enabled : Bool) (s : Option Stated) → Backed (theorem_again w enabled s) w U → TellsGood (theorem_again w enabled s)
  unfolding theorem_again
  theorem_good enabled None b = tt
  theorem_good enabled (Some s) b = stated_good (title (codes "DEFTHM") s.name) enabled (proposed_theorem w s) (theorem_proposed w s good) b

  definition_good : (enabled : Bool) (d : Option Defined) → Backed (definition_again w enabled d) w U → TellsGood (definition_again w enabled d)
  unfolding definition_again
  definition_good enabled None b = tt
  definition_good enabled (Some d) b = stated_good (title (codes "DEFUN") d.name) enabled (proposed_definition w d) (definition_proposed w d good) b

  kind_good : (f : Form) (n : Symbol) (k : Kind) → head_of f ≡ Some n → kind_of n ≡ Some k → Backed (kind_again w f k) w U → TellsGood (kind_again w f k)
  unfolding kind_again event_by
  kind_good f n kind.Theorem e q b = theorem_good true (statement_of f) b
  kind_good f n kind.DisabledTheorem e q b = theorem_good false (statement_of f) b
  kind_good f n kind.Function e q b = definition_good true (definition_of f) b
  kind_good f n kind.DisabledFunction e q b = definition_good false (definition_of f) b
  kind_good f n kind.Constant e q b =
      silent_good (constant_event w (constant_of f)) (subst TellsGood (event_is some_limits f w n kind.Constant e q) (events_keep_good some_limits w f good))
  kind_good f n kind.Theory e q b =
      silent_good (theory_event w (changes_of f)) (subst TellsGood (event_is some_limits f w n kind.Theory e q) (events_keep_good some_limits w f good))

  again_good : (earlier : Earlier) → AreGood earlier → (f : Form) → Backed (again_event earlier f w) w U → TellsGood (again_event earlier f w)
  unfolding again_event
  again_good earlier books f b = by_head (head_of f) refl b
    where
      by_kind : (n : Symbol) → head_of f ≡ Some n → (o : Option Kind) → kind_of n ≡ o → Backed (known_again w f n o) w U → TellsGood (known_again w f n o)
      by_kind n e None q b = tt
      by_kind n e (Some k) q b = kind_good f n k e q b

      by_asked : (n : Symbol) → head_of f ≡ Some n → (a : Asks) → Backed (asked_again earlier f w n a) w U → TellsGood (asked_again earlier f w n a)
      by_asked n e book b = silent_good (include_event earlier w (book_of f)) (include_good earlier books w (book_of f) good)
      by_asked n e events b = tt
      by_asked n e event b = by_kind n e (kind_of n) refl b

      by_head : (o : Option Symbol) → head_of f ≡ o → Backed (headed_again earlier f w o) w U → TellsGood (headed_again earlier f w o)
      by_head None e b = tt
      by_head (Some n) e b = by_asked n e (asks_of n) b

pub again_redone : (earlier : Earlier) → AreGood earlier → (f : Form) (w : Shown) → Redone (again_event earlier f w) w
again_redone earlier books f w = record {
  step = again_step earlier f w;
  good = λ U good b. step_good (again_event earlier f w) w (again_step earlier f w) good (again_good w U good earlier books f b);
}
