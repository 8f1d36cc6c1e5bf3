-- What is admitted first, and refused when it is done again, misses a name that isn't there: single events.
use Rattle.std.proofs.Common.{◌≡◌, ℕ, Bool, true, false, List, [], ◌∷◌, ◌⊎◌, inl, inr, Option, Some, None, Ok, Err, codes, refl, sym, ap, ◌∙◌, subst}
use Rattle.ap_list.specs.Lists.{Each, lookup_by}
use Rattle.ap_value.specs.declared.symbol.Symbol.{Symbol}
use Rattle.ap_value.specs.declared.value.Value.{Value}
use Rattle.ap_value.specs.Values.{bytes_eq}
use Rattle.ap_reader.specs.declared.form.Form.{Form}
use Rattle.ap_world.specs.Alike.{Covers}
use Rattle.ap_world.specs.Including.{has_clash}
use Rattle.ap_world.specs.Theories.{ShownTheory}
use Rattle.ap_world.specs.World.{Shown, entry_of, has_name, are_distinct}
use Rattle.ap_world.proofs.Covering.{covers_self, covers_included, covers_untaken}
use Rattle.ap_translate.specs.Answers as translation
use Rattle.ap_translate.specs.Written.{written}
use Rattle.ap_hints.specs.Changes.{Changed, changed_theory}
use Rattle.ap_plain.specs.declared.kinds.Kind.{Kind}
use Rattle.ap_plain.specs.declared.kinds.Kind.TheVariants as kind
use Rattle.ap_plain.specs.declared.limits.Limits.{Limits}
use Rattle.ap_plain.specs.declared.proposing.Proposal.{Proposal}
use Rattle.ap_stated.specs.declared.refusing.Refusal.{Refusal}
use Rattle.ap_plain.specs.Changes.{changes_of, changed_event, theory_event}
use Rattle.ap_plain.specs.Constants.{valued_constant, stated_constant, written_constant, constant_event}
use Rattle.ap_plain.specs.Ends.{Done, refused_alone, worlds_in}
use Rattle.ap_plain.specs.Events.{kind_of}
use Rattle.ap_plain.specs.Proposals.{proposed_theorem, proposed_definition, put}
use Rattle.ap_stated.specs.Refusals.{Answer, unless}
use Rattle.ap_stated.specs.Shapes.{Stated, Defined, head_of, statement_of, definition_of, constant_of}
use Rattle.ap_stated.specs.Texts.{title}
use Rattle.ap_events.specs.Books.{Earlier, book_of, include_by, include_of, included_by, include_event, Asks, book, events, event, asks_of, first_event, silent_by, silent, put_again, theorem_again, definition_again, kind_again, known_again, asked_again, headed_again, again_event}
use Rattle.ap_events.specs.Missing.{MissesName}
use Rattle.ap_events.proofs.Books.{found_book}
use Rattle.ap_events.proofs.Covered.{AreDistinct, no_world, silent_next, again_meets, first_same}
use Rattle.ap_events.proofs.Lacking.{Lacks, there_on}
use Rattle.ap_events.proofs.Naming.{theory_lacks}
use Rattle.ap_events.proofs.Passing.{LeavesMiss}
use Rattle.ap_events.proofs.Stating.{unknown, Stating, theorem_stating, definition_stating}

-- an event that is refused alone, for a name; and this holds
record Refuses (M : Type 0) (e : Done) : Type 0 where
  title : List ℕ
  is : e ≡ refused_alone title unknown
  holds : M

-- d is done, and e isn't
abbrev Misses : Type 0 → Done → Done → Type 0
Misses M d e = (w : Shown) → d.next ≡ Some w → e.next ≡ None → Refuses M e

some_world : {A : Type 0} (w : Shown) → Some w ≡ None → A
some_world w h = absurd (cc h)

silent_misses : (M : Type 0) (d e : Done) → Misses M d e → Misses M (silent d) (silent e)
silent_misses M d e misses w h n =
    let none : e.next ≡ None = sym (silent_next e) ∙ n in
    let r = misses w (sym (silent_next d) ∙ h) none in
    record { title = r.title; is = ap (silent_by e) none ∙ r.is; holds = r.holds }

put_misses : (M : Type 0) (title : List ℕ) (enabled : Bool) (v u : Shown) (b a : Answer Proposal) → Stating M Proposal b a → Misses M (put_again u title enabled a) (put_again v title enabled b)
put_misses M title enabled v u b (Err r) stating w h n = no_world w h
put_misses M title enabled v u b (Ok p) stating w h n = go (stating p refl)
  where
    go : (b ≡ Ok p) ⊎ ((b ≡ Err unknown) × M) → Refuses M (put_again v title enabled b)
    go (inl e) = some_world (put enabled v p) (sym (ap (λ x. (put_again v title enabled x).next) e) ∙ n)
    go (inr m) = record { title = title; is = ap (put_again v title enabled) m.0; holds = m.1 }

module _ (v u : Shown) (covered : Covers v.entries u.entries) where
  abbrev Lost : Type 0
  Lost = Lacks v.entries u.entries

  theorem_misses : (enabled : Bool) (s : Option Stated) → Misses Lost (theorem_again u enabled s) (theorem_again v enabled s)
  unfolding theorem_again
  theorem_misses enabled None w h n = no_world w h
  theorem_misses enabled (Some s) w h n = put_misses Lost (title (codes "DEFTHM") s.name) enabled v u (proposed_theorem v s) (proposed_theorem u s) (theorem_stating v u covered s) w h n

  definition_misses : (enabled : Bool) (d : Option Defined) → Misses Lost (definition_again u enabled d) (definition_again v enabled d)
  unfolding definition_again
  definition_misses enabled None w h n = no_world w h
  definition_misses enabled (Some d) w h n = put_misses Lost (title (codes "DEFUN") d.name) enabled v u (proposed_definition v d) (proposed_definition u d) (definition_stating v u covered d) w h n

  -- a constant speaks of no name
  valued_misses : (n : Symbol) (a : Answer Value) → Misses Lost (valued_constant u n (stated_constant u n a)) (valued_constant v n (stated_constant v n a))
  valued_misses n a w h none = go (has_name u.entries n) refl a h none
    where
      by_value : has_name v.entries n ≡ false → (a : Answer Value) → (valued_constant u n a).next ≡ Some w → (valued_constant v n (stated_constant v n a)).next ≡ None → Refuses Lost (valued_constant v n (stated_constant v n a))
      by_value free (Err r) k l = no_world w k
      by_value free (Ok x) k l = absurd (cc (free, l))

      go : (b : Bool) → has_name u.entries n ≡ b → (a : Answer Value) → (valued_constant u n (unless b Refusal.NameTaken a)).next ≡ Some w → (valued_constant v n (stated_constant v n a)).next ≡ None
          → Refuses Lost (valued_constant v n (stated_constant v n a))
      go true e a k l = no_world w k
      go false e a k l = by_value (covers_untaken v.entries u.entries covered n e) a k l

  written_misses : (n : Symbol) (a : translation.Answer (Option Value)) → Misses Lost (written_constant u n a) (written_constant v n a)
  unfolding written_constant
  written_misses n (Ok None) w h none = no_world w h
  written_misses n (Ok (Some x)) w h none = valued_misses n (Ok x) w h none
  written_misses n (Err e) w h none = valued_misses n (Err (Refusal.Translation e.kind)) w h none

  constant_misses : (p : Option (Symbol × Form)) → Misses Lost (constant_event u p) (constant_event v p)
  unfolding constant_event
  constant_misses None w h n = no_world w h
  constant_misses (Some p) w h n = written_misses p.0 (written p.1) w h n

  changed_misses : (a b : Option ShownTheory) → ((h : ShownTheory) → a ≡ Some h → b ≡ None → Lost) → Misses Lost (changed_event u a) (changed_event v b)
  unfolding changed_event
  changed_misses None b lost w h n = no_world w h
  changed_misses (Some a) (Some b) lost w h n = absurd (cc n)
  changed_misses (Some a) None lost w h n = record { title = codes "IN-THEORY"; is = refl; holds = lost a refl refl }

  theory_misses : (c : Option Changed) → Misses Lost (theory_event u c) (theory_event v c)
  unfolding theory_event
  theory_misses None w h n = no_world w h
  theory_misses (Some c) w h n = changed_misses (changed_theory u c) (changed_theory v c) (theory_lacks v u covered c) w h n

  -- a book that is included first has no clash again
  include_misses : (n : List ℕ) (k : Shown) → are_distinct k.entries ≡ true → Misses Lost (include_of u n k) (include_of v n k)
  unfolding include_of
  include_misses n k distinct w h none = go (has_clash u.entries k.entries) refl h
    where
      go : (b : Bool) → has_clash u.entries k.entries ≡ b → (include_by b u n k).next ≡ Some w → Refuses Lost (include_by (has_clash v.entries k.entries) v n k)
      go true e q = no_world w q
      go false e q = absurd (cc (ap (λ b. (include_by b v n k).next) (covers_included v.entries u.entries k.entries distinct covered e).0, none))

  kind_misses : (f : Form) (k : Kind) → Misses Lost (kind_again u f k) (kind_again v f k)
  unfolding kind_again
  kind_misses f kind.Theorem w h n = theorem_misses true (statement_of f) w h n
  kind_misses f kind.DisabledTheorem w h n = theorem_misses false (statement_of f) w h n
  kind_misses f kind.Function w h n = definition_misses true (definition_of f) w h n
  kind_misses f kind.DisabledFunction w h n = definition_misses false (definition_of f) w h n
  kind_misses f kind.Constant w h n = silent_misses Lost (constant_event u (constant_of f)) (constant_event v (constant_of f)) (constant_misses (constant_of f)) w h n
  kind_misses f kind.Theory w h n = silent_misses Lost (theory_event u (changes_of f)) (theory_event v (changes_of f)) (theory_misses (changes_of f)) w h n

  known_misses : (f : Form) (s : Symbol) (k : Option Kind) → Misses Lost (known_again u f s k) (known_again v f s k)
  known_misses f s None w h n = no_world w h
  known_misses f s (Some k) w h n = kind_misses f k w h n

module _ (earlier : Earlier) (distinct : AreDistinct earlier) (v u : Shown) (covered : Covers v.entries u.entries) where
  abbrev Left : Type 0
  Left = Lacks v.entries u.entries

  included_misses : (n : Option (List ℕ)) → Misses Left (include_event earlier u n) (include_event earlier v n)
  unfolding include_event
  included_misses None w h none = no_world w h
  included_misses (Some n) w h none = go (lookup_by bytes_eq earlier n) refl w h none
    where
      go : (o : Option Shown) → lookup_by bytes_eq earlier n ≡ o → Misses Left (included_by u n o) (included_by v n o)
      go None e x k l = no_world x k
      go (Some b) e x k l = include_misses v u covered n b (found_book (λ k. are_distinct k.entries ≡ true) earlier n b distinct e) x k l

  asked_misses : (f : Form) (s : Symbol) (a : Asks) → Misses Left (asked_again earlier f u s a) (asked_again earlier f v s a)
  asked_misses f s book w h n = silent_misses Left (include_event earlier u (book_of f)) (include_event earlier v (book_of f)) (included_misses (book_of f)) w h n
  asked_misses f s events w h n = no_world w h
  asked_misses f s event w h n = known_misses v u covered f s (kind_of s) w h n

  headed_misses : (f : Form) (o : Option Symbol) → Misses Left (headed_again earlier f u o) (headed_again earlier f v o)
  headed_misses f None w h n = no_world w h
  headed_misses f (Some s) w h n = asked_misses f s (asks_of s) w h n

  again_misses : (f : Form) → Misses Left (again_event earlier f u) (again_event earlier f v)
  unfolding again_event
  again_misses f w h n = headed_misses f (head_of f) w h n

-- Nothing is printed where an event is admitted when it is done again.

abbrev Quiet : Done → Type 0
Quiet d = (w : Shown) → d.next ≡ Some w → d.text ≡ []

silent_quiet : (d : Done) → Quiet (silent d)
silent_quiet d w h = go d.next refl h
  where
    go : (o : Option Shown) → d.next ≡ o → (silent_by d o).next ≡ Some w → (silent_by d o).text ≡ []
    go None e k = no_world w (sym e ∙ k)
    go (Some v) e k = refl

put_quiet : (w : Shown) (title : List ℕ) (enabled : Bool) (a : Answer Proposal) → Quiet (put_again w title enabled a)
put_quiet w title enabled (Err r) v h = no_world v h
put_quiet w title enabled (Ok p) v h = refl

theorem_quiet : (w : Shown) (enabled : Bool) (s : Option Stated) → Quiet (theorem_again w enabled s)
unfolding theorem_again
theorem_quiet w enabled None v h = no_world v h
theorem_quiet w enabled (Some s) v h = put_quiet w (title (codes "DEFTHM") s.name) enabled (proposed_theorem w s) v h

definition_quiet : (w : Shown) (enabled : Bool) (d : Option Defined) → Quiet (definition_again w enabled d)
unfolding definition_again
definition_quiet w enabled None v h = no_world v h
definition_quiet w enabled (Some d) v h = put_quiet w (title (codes "DEFUN") d.name) enabled (proposed_definition w d) v h

kind_quiet : (f : Form) (w : Shown) (k : Kind) → Quiet (kind_again w f k)
unfolding kind_again
kind_quiet f w kind.Theorem v h = theorem_quiet w true (statement_of f) v h
kind_quiet f w kind.DisabledTheorem v h = theorem_quiet w false (statement_of f) v h
kind_quiet f w kind.Function v h = definition_quiet w true (definition_of f) v h
kind_quiet f w kind.DisabledFunction v h = definition_quiet w false (definition_of f) v h
kind_quiet f w kind.Constant v h = silent_quiet (constant_event w (constant_of f)) v h
kind_quiet f w kind.Theory v h = silent_quiet (theory_event w (changes_of f)) v h

again_quiet : (earlier : Earlier) (f : Form) (w : Shown) → Quiet (again_event earlier f w)
unfolding again_event
again_quiet earlier f w v h = by_head (head_of f) v h
  where
    by_kind : (s : Symbol) (k : Option Kind) → Quiet (known_again w f s k)
    by_kind s None v h = no_world v h
    by_kind s (Some k) v h = kind_quiet f w k v h

    by_asked : (s : Symbol) (a : Asks) → Quiet (asked_again earlier f w s a)
    by_asked s book v h = silent_quiet (include_event earlier w (book_of f)) v h
    by_asked s events v h = no_world v h
    by_asked s event v h = by_kind s (kind_of s) v h

    by_head : (o : Option Symbol) → Quiet (headed_again earlier f w o)
    by_head None v h = no_world v h
    by_head (Some s) v h = by_asked s (asks_of s) v h

-- So single events miss a name as nested ones need it.

misses_name : (e : Done) (v u w : Shown) → Covers u.entries w.entries → Refuses (Lacks v.entries u.entries) e → MissesName e v w.entries
misses_name e v u w grown r = record {
  title = r.title;
  text = ap (λ (d : Done). d.text) r.is;
  name = r.holds.name;
  there = there_on u.entries w.entries grown r.holds.name r.holds.there;
  gone = subst (λ (d : Done). Each (λ x. entry_of x.entries r.holds.name ≡ None) (v ∷ worlds_in d.told)) (sym r.is) (r.holds.gone, tt);
}

pub leaves_miss : (limits : Limits) (earlier : Earlier) → AreDistinct earlier → LeavesMiss (first_event limits earlier) (again_event earlier)
leaves_miss limits earlier distinct = record { first_misses = λ f u v w c h n. missing f u v w c (first_same limits u earlier f w h) n; again_misses = missing; quiet = again_quiet earlier }
  where
    missing : (f : Form) (u v w : Shown) → Covers v.entries u.entries → (again_event earlier f u).next ≡ Some w → (again_event earlier f v).next ≡ None → MissesName (again_event earlier f v) v w.entries
    missing f u v w c h n =
        misses_name (again_event earlier f v) v u w (again_meets earlier distinct f u u (covers_self u.entries) w h).grows (again_misses earlier distinct v u c f w h n)
