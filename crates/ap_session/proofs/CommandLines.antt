-- Each line of the grammar is read as what it commands.
use Rattle.std.proofs.Common.{◌≡◌, ◌∙◌, ◌≤◌, ◌<◌, ◌^◌, ◌⊎◌, ◌↔◌, inl, inr, ℕ, Bool, true, false, true≢false, cond, not, ◌&&◌, nat_eq, nat_le, List, [], ◌∷◌, ◌++◌, length, get_or, drop, Option, Some, None, is_none, unwrap_or, decimal, append-nil, refl, ap, sym, subst, arith}
use Rattle.std.proofs.lemmas.Bool.{le-leb}
use Rattle.std.proofs.lemmas.Fmt.{decimal_injective}
use Rattle.std.proofs.Math.Bridge.{le_prop}
use Rattle.ap_list.specs.Lists.{Each}
use Rattle.ap_value.proofs.Equals.{both, and_true}
use Rattle.ap_cert.specs.Cert.{is_book_name, begins_well}
use Rattle.ap_plain.specs.Bounds.{WithinLimits}
use Rattle.ap_plain.specs.Limits.{are_limits, are_within, limits_by, limits_of}
use Rattle.ap_plain.specs.declared.limits.Limits.{Limits}
use Rattle.ap_session.specs.declared.command.Counted.{Counted}
use Rattle.ap_session.specs.declared.command.Counted.TheVariants.{Workers, Steps, Goals, Revert, Functions}
use Rattle.ap_session.specs.declared.command.Flag.{Flag}
use Rattle.ap_session.specs.declared.command.Flag.TheVariants.{Number, Trace}
use Rattle.ap_session.specs.declared.command.Options.{Options}
use Rattle.ap_session.specs.Command.{Order, Demo, Command, of_books, of_demo, flag_of, with_number, with_trace, no_options, limits_in, books_by, books_command, demo_by, is_bare, demo_command, with_options, last_word, first_word, command_from, are_books, where_books, command_of}
use Rattle.ap_session.specs.CommandLines.{Setting, counts, traces, option_of, word_of, written, most, IsTaken, Apart, Among, Says, AreNames, IsOrder, IsOfDemo, IsDemo, IsLine, IsName, LinesAreRead, LinesAreWrittenOneWay, LinesSayOneThing, OthersAreNone}
use Rattle.ap_session.proofs.Words.{cond_some, number_read, number_written, flag_read, flag_written, no_flag}
use Rattle.ap_session.proofs.Naming.{names_are, are_named}
use Rattle.ap_session.proofs.Settings.{value, put, traced, number_gets, number_gives, trace_gets, trace_gives, IsFree, IsWithin, Reads, reads_none, reads_number, reads_trace, free_behind, free_behind_trace}

-- words that were read are options and what stands behind them

-- what the options q command with the words bs behind them
abbrev Ends : Options → List (List ℕ) → Command → Type 0
Ends q bs c = ((bs ≡ []) × (demo_command q ≡ Some c)) ⊎ (books_command q bs ≡ Some c)

record Shape (p : Options) (ws : List (List ℕ)) (c : Command) : Type 0 where
  settings : List Setting
  behind : List (List ℕ)
  options : Options
  is : ws ≡ written settings ++ behind
  reads : Reads p settings options
  ends : Ends options behind c

most_small : (k : Counted) → most k < 2 ^ 64
most_small Workers = omega arith
most_small Steps = omega arith
most_small Goals = omega arith
most_small Revert = omega arith
most_small Functions = omega arith

shape_here : (p : Options) (ws : List (List ℕ)) (c : Command) → Ends p ws c → Shape p ws c
shape_here p ws c h = record { settings = []; behind = ws; options = p; is = refl; reads = reads_none p; ends = h }

shape : (ws : List (List ℕ)) (p : Options) (c : Command) → command_from ws p ≡ Some c → Shape p ws c
shape [] p c h = shape_here p [] c (inl (refl, h))
shape (w ∷ []) p c h = go (flag_of w) refl h
  where
    go : (o : Option Flag) → flag_of w ≡ o → last_word o p w ≡ Some c → Shape p (w ∷ []) c
    go None i h = shape_here p (w ∷ []) c (inr h)
    go (Some f) i h = cc
shape (w ∷ v ∷ ws) p c h = go (shape (v ∷ ws)) (shape ws) (flag_of w) refl h
  where
    trace_more : ((q : Options) (c : Command) → command_from (v ∷ ws) q ≡ Some c → Shape q (v ∷ ws) c) → w ≡ word_of Trace → (o : Option Options) → with_trace p ≡ o
        → with_options o (command_from (v ∷ ws)) ≡ Some c → Shape p (w ∷ v ∷ ws) c
    trace_more next i None j h = cc
    trace_more next i (Some q) j h =
        let s = next q c h in
        let k = trace_gets p q j in
        record {
          settings = traces ∷ s.settings;
          behind = s.behind;
          options = s.options;
          is = ap (λ u. u ∷ v ∷ ws) i ∙ ap (λ us. word_of Trace ∷ us) s.is;
          reads = reads_trace p s.options s.settings k.0 (subst (λ r. Reads r s.settings s.options) (sym k.1) s.reads);
          ends = s.ends;
        }

    number_more : ((q : Options) (c : Command) → command_from ws q ≡ Some c → Shape q ws c) → (k : Counted) → w ≡ word_of (Number k) → (o : Option Options) → with_number p k v ≡ o
        → with_options o (command_from ws) ≡ Some c → Shape p (w ∷ v ∷ ws) c
    number_more later k i None j h = cc
    number_more later k i (Some q) j h =
        let s = later q c h in
        let g = number_gets p q k v j in
        let n = number_read (most k) g.number v (most_small k) g.word in
        record {
          settings = counts k g.number ∷ s.settings;
          behind = s.behind;
          options = s.options;
          is = ap (λ u. u ∷ v ∷ ws) i ∙ ap (λ u. word_of (Number k) ∷ u ∷ ws) n.0 ∙ ap (λ us. word_of (Number k) ∷ decimal g.number ∷ us) s.is;
          reads = reads_number p s.options k g.number s.settings g.free n.1 (subst (λ r. Reads r s.settings s.options) (sym g.next) s.reads);
          ends = s.ends;
        }

    go : ((q : Options) (c : Command) → command_from (v ∷ ws) q ≡ Some c → Shape q (v ∷ ws) c) → ((q : Options) (c : Command) → command_from ws q ≡ Some c → Shape q ws c)
        → (o : Option Flag) → flag_of w ≡ o → first_word o p w v ws (command_from (v ∷ ws)) (command_from ws) ≡ Some c → Shape p (w ∷ v ∷ ws) c
    go next later None i h = shape_here p (w ∷ v ∷ ws) c (inr h)
    go next later (Some Trace) i h = trace_more next (flag_read w Trace i) (with_trace p) refl h
    go next later (Some (Number k)) i h = number_more later k (flag_read w (Number k) i) (with_number p k v) refl h

-- options and what stands behind them are read

not_bare : (p : Options) → p.trace ≡ true → demo_command p ≡ None
not_bare p h = go (is_none p.steps) (is_none p.goals) (is_none p.revert) p.trace h
  where
    go : (a b c t : Bool) → t ≡ true → cond (a && b && c && not t) (demo_by p p.demo (limits_in p)) None ≡ None
    go true true true true e = refl
    go false b c t e = refl
    go true false c t e = refl
    go true true false t e = refl
    go a b c false e = absurd (true≢false (sym e))

trace_goes_on : (p : Options) (us : List (List ℕ)) (c : Command) → p.trace ≡ false → command_from us (traced p) ≡ Some c → command_from (word_of Trace ∷ us) p ≡ Some c
trace_goes_on p [] c free h = absurd (no (demo_command (traced p)) (not_bare (traced p) refl) h)
  where
    no : (o : Option Command) → o ≡ None → o ≡ Some c → ⊥
    no o e h = cc
trace_goes_on p (v ∷ ws) c free h = ap (λ o. with_options o (command_from (v ∷ ws))) (trace_gives p free) ∙ h

number_goes_on : (p : Options) (k : Counted) (n : ℕ) (us : List (List ℕ)) (c : Command) → value p k ≡ None → (1 ≤ n) × (n ≤ most k) → command_from us (put p k n) ≡ Some c
    → command_from (word_of (Number k) ∷ decimal n ∷ us) p ≡ Some c
number_goes_on p k n us c free fits h =
    ap (λ o. first_word o p (word_of (Number k)) (decimal n) us (command_from (decimal n ∷ us)) (command_from us)) (flag_written (Number k))
    ∙ ap (λ o. with_options o (command_from us)) (number_gives p k (decimal n) n free (number_written (most k) n (most_small k) fits.0 fits.1))
    ∙ h

read_back : (os : List Setting) (bs : List (List ℕ)) (p : Options) (c : Command) → Each IsWithin os → Apart option_of os → Each (IsFree p) os
    → ((q : Options) → Reads p os q → command_from bs q ≡ Some c) → command_from (written os ++ bs) p ≡ Some c
read_back [] bs p c fits once free h = h p (reads_none p)
read_back (counts k n ∷ os) bs p c fits once free h =
    number_goes_on p k n (written os ++ bs) c free.0 fits.0
    (read_back os bs (put p k n) c fits.1 once.1 (free_behind p k n os free.1 once.0) (λ q r. h q (reads_number p q k n os free.0 fits.0 r)))
read_back (traces ∷ os) bs p c fits once free h =
    trace_goes_on p (written os ++ bs) c free.0
    (read_back os bs (traced p) c fits.1 once.1 (free_behind_trace p os free.1 once.0) (λ q r. h q (reads_trace p q os free.0 r)))

-- limits are those of their numbers

within_once : (steps goals revert : ℕ) → IsProp (WithinLimits steps goals revert)
within_once steps goals revert = hlevel le_prop

are_true : (steps goals revert : ℕ) → WithinLimits steps goals revert → are_limits steps goals revert ≡ true
are_true steps goals revert h =
    and_true _ (nat_le revert 100) (and_true _ (nat_le 2 revert) (and_true _ (nat_le goals 100000) (and_true _ (nat_le 1 goals)
    (and_true (nat_le 1 steps) (nat_le steps 1000000) (le-leb 1 steps h.steps_some) (le-leb steps 1000000 h.steps_few))
    (le-leb 1 goals h.goals_some)) (le-leb goals 100000 h.goals_few)) (le-leb 2 revert h.revert_some)) (le-leb revert 100 h.revert_few)

limits_are : (l : Limits) → limits_of l.steps l.goals l.revert ≡ Some l
limits_are l = go (are_limits l.steps l.goals l.revert) refl
  where
    go : (good : Bool) (h : are_limits l.steps l.goals l.revert ≡ good) → limits_by l.steps l.goals l.revert good h ≡ Some l
    go true h = λ i. Some (record { steps = l.steps; goals = l.goals; revert = l.revert; within = within_once l.steps l.goals l.revert (are_within l.steps l.goals l.revert h) l.within i })
    go false h = absurd (true≢false (sym (are_true l.steps l.goals l.revert l.within) ∙ h))

limits_said : (l : Limits) (steps goals revert : ℕ) → l.steps ≡ steps → l.goals ≡ goals → l.revert ≡ revert → limits_of steps goals revert ≡ Some l
limits_said l s g r h k e = sym (ap (λ x. limits_of x l.goals l.revert) h ∙ ap (λ x. limits_of s x l.revert) k ∙ ap (λ x. limits_of s g x) e) ∙ limits_are l

record Limited (steps goals revert : ℕ) (l : Limits) : Type 0 where
  within : WithinLimits steps goals revert
  steps_is : l.steps ≡ steps
  goals_is : l.goals ≡ goals
  revert_is : l.revert ≡ revert

limited : (s g r : ℕ) (l : Limits) → limits_of s g r ≡ Some l → Limited s g r l
limited s g r l h = go (are_limits s g r) refl h
  where
    go : (good : Bool) (e : are_limits s g r ≡ good) → limits_by s g r good e ≡ Some l → Limited s g r l
    go false e h = cc
    go true e h =
        let own : Limits = record { steps = s; goals = g; revert = r; within = are_within s g r e } in
        let same : own ≡ l = ap (λ o. unwrap_or o own) h in
        record {
          within = are_within s g r e;
          steps_is = ap (λ (x : Limits). x.steps) (sym same);
          goals_is = ap (λ (x : Limits). x.goals) (sym same);
          revert_is = ap (λ (x : Limits). x.revert) (sym same);
        }

-- what options say that were read from none

none_yet : (k : Counted) → value no_options k ≡ None
none_yet Workers = refl
none_yet Steps = refl
none_yet Goals = refl
none_yet Revert = refl
none_yet Functions = refl

all_free : (os : List Setting) → Each (IsFree no_options) os
all_free [] = tt
all_free (counts k n ∷ os) = (none_yet k, all_free os)
all_free (traces ∷ os) = (refl, all_free os)

-- each option's number is the one that stands among them
abbrev Tells : List Setting → Options → Type 0
Tells os q = (k : Counted) (n : ℕ) → (value q k ≡ Some n) ↔ Among (counts k n) os

tells : (os : List Setting) (q : Options) → Reads no_options os q → Tells os q
tells os q r k n = (λ h. to ((r.numbers k n).0 h), λ h. (r.numbers k n).1 (inr h))
  where
    to : (value no_options k ≡ Some n) ⊎ Among (counts k n) os → Among (counts k n) os
    to (inl h) = let e = none_yet k in cc
    to (inr h) = h

tells_trace : (os : List Setting) (q : Options) → Reads no_options os q → (q.trace ≡ true) ↔ Among traces os
tells_trace os q r = (λ h. to (r.trace.0 h), λ h. r.trace.1 (inr h))
  where
    to : (false ≡ true) ⊎ Among traces os → Among traces os
    to (inl h) = absurd (true≢false (sym h))
    to (inr h) = h

says : (os : List Setting) (q : Options) → Tells os q → (k : Counted) (usual : ℕ) → Says os k usual (unwrap_or (value q k) usual)
says os q t k usual = go (value q k) refl
  where
    go : (o : Option ℕ) → value q k ≡ o → Says os k usual (unwrap_or o usual)
    go (Some n) h = inl ((t k n).0 h)
    go None h = inr (λ m e. let some = (t k m).1 e in cc, refl)

said : (os : List Setting) (q : Options) → Tells os q → (k : Counted) (usual n : ℕ) → Says os k usual n → unwrap_or (value q k) usual ≡ n
said os q t k usual n (inl h) = ap (λ o. unwrap_or o usual) ((t k n).1 h)
said os q t k usual n (inr h) = go (value q k) refl
  where
    go : (o : Option ℕ) → value q k ≡ o → unwrap_or o usual ≡ n
    go None e = sym h.1
    go (Some m) e = absurd (h.0 m ((t k m).0 e))

not_said : (os : List Setting) (q : Options) → Tells os q → (k : Counted) → ((n : ℕ) → ¬ Among (counts k n) os) → value q k ≡ None
not_said os q t k h = go (value q k) refl
  where
    go : (o : Option ℕ) → value q k ≡ o → o ≡ None
    go None e = refl
    go (Some m) e = absurd (h m ((t k m).0 e))

none_said : (os : List Setting) (q : Options) → Tells os q → (k : Counted) → value q k ≡ None → (n : ℕ) → ¬ Among (counts k n) os
none_said os q t k h n e = let some = (t k n).1 e in none h some
  where
    none : value q k ≡ None → value q k ≡ Some n → ⊥
    none h e = cc

each_among : (P : Setting → Type 0) (os : List Setting) → ((s : Setting) → Among s os → P s) → Each P os
each_among P [] f = tt
each_among P (s ∷ os) f = (f s (inl refl), each_among P os (λ t m. f t (inr m)))

among_each : (P : Setting → Type 0) (os : List Setting) (s : Setting) → Each P os → Among s os → P s
among_each P [] s h e = absurd e
among_each P (t ∷ os) s h (inl e) = subst P e h.0
among_each P (t ∷ os) s h (inr e) = among_each P os s h.1 e

-- the least number of an option that reverts is that of the limits

taken : (os : List Setting) → Each IsWithin os → ((n : ℕ) → Among (counts Revert n) os → 2 ≤ n) → Each IsTaken os
taken os h revert = each_among IsTaken os (λ s m. one s m (among_each IsWithin os s h m))
  where
    one : (s : Setting) → Among s os → IsWithin s → IsTaken s
    one (counts Workers n) m h = h
    one (counts Steps n) m h = h
    one (counts Goals n) m h = h
    one (counts Revert n) m h = (revert n m, h.1)
    one (counts Functions n) m h = h
    one traces m h = tt

within : (os : List Setting) → Each IsTaken os → Each IsWithin os
within os h = each_among IsWithin os (λ s m. one s (among_each IsTaken os s h m))
  where
    one : (s : Setting) → IsTaken s → IsWithin s
    one (counts Workers n) h = h
    one (counts Steps n) h = h
    one (counts Goals n) h = h
    one (counts Revert n) h = (omega (arith, h.0), h.1)
    one (counts Functions n) h = h
    one traces h = tt

-- books

order_or : Order → Option Command → Order
order_or x None = x
order_or x (Some (of_books o)) = o
order_or x (Some (of_demo d)) = x

abbrev order_by : Options → List (List ℕ) → Limits → Order
order_by q bs l = record { books = bs; limits = l; workers = unwrap_or q.workers 1; trace = q.trace }

record Ordered (q : Options) (bs : List (List ℕ)) (o : Order) : Type 0 where
  no_demo : q.demo ≡ None
  limits : Limits
  limits_are : limits_in q ≡ Some limits
  order : order_by q bs limits ≡ o

ordered : (q : Options) (bs : List (List ℕ)) (o : Order) → books_command q bs ≡ Some (of_books o) → Ordered q bs o
unfolding order_or
ordered q bs o h = go q.demo (limits_in q) refl refl h
  where
    go : (d : Option ℕ) (l : Option Limits) → q.demo ≡ d → limits_in q ≡ l → cond (is_none d) (books_by q bs l) None ≡ Some (of_books o) → Ordered q bs o
    go (Some n) l i j h = cc
    go None None i j h = cc
    go None (Some l) i j h = record { no_demo = i; limits = l; limits_are = j; order = ap (order_or o) h }

no_order : (q : Options) (o : Order) → demo_command q ≡ Some (of_books o) → ⊥
no_order q o h = go (is_bare q) q.demo (limits_in q) h
  where
    go : (t : Bool) (d : Option ℕ) (l : Option Limits) → cond t (demo_by q d l) None ≡ Some (of_books o) → ⊥
    go false d l h = cc
    go true None l h = cc
    go true (Some n) None h = cc
    go true (Some n) (Some l) h = cc

order_is : (os : List Setting) (bs : List (List ℕ)) (q : Options) (o : Order) (ws : List (List ℕ)) → ws ≡ written os ++ bs → Reads no_options os q → Ordered q bs o → are_books o.books ≡ true
    → IsOrder ws o
order_is os bs q o ws is r h books = subst (IsOrder ws) h.order (record {
  settings = os;
  is = is;
  fine = record { taken = taken os r.within (λ n m. enough n ((t Revert n).1 m)); once = r.once };
  books = names_are bs (subst (λ x. are_books x.books ≡ true) (sym h.order) books);
  no_demo = none_said os q t Functions h.no_demo;
  workers = says os q t Workers 1;
  steps = subst (Says os Steps 100000) (sym l.steps_is) (says os q t Steps 100000);
  goals = subst (Says os Goals 10000) (sym l.goals_is) (says os q t Goals 10000);
  revert = subst (Says os Revert 2) (sym l.revert_is) (says os q t Revert 2);
  trace = tells_trace os q r;
})
  where
    t : Tells os q
    t = tells os q r

    l : Limited (unwrap_or q.steps 100000) (unwrap_or q.goals 10000) (unwrap_or q.revert 2) h.limits
    l = limited (unwrap_or q.steps 100000) (unwrap_or q.goals 10000) (unwrap_or q.revert 2) h.limits h.limits_are

    enough : (n : ℕ) → q.revert ≡ Some n → 2 ≤ n
    enough n e = subst (λ x. 2 ≤ unwrap_or x 2) e l.within.revert_some

order_line : (ws : List (List ℕ)) (o : Order) → command_from ws no_options ≡ Some (of_books o) → are_books o.books ≡ true → IsOrder ws o
order_line ws o h books = go (shape ws no_options (of_books o) h)
  where
    by : (s : Shape no_options ws (of_books o)) → Ends s.options s.behind (of_books o) → IsOrder ws o
    by s (inl e) = absurd (no_order s.options o e.1)
    by s (inr e) = order_is s.settings s.behind s.options o ws s.is s.reads (ordered s.options s.behind o e) books

    go : Shape no_options ws (of_books o) → IsOrder ws o
    go s = by s s.ends

-- words that name books are no options
name_is_none : (w : List ℕ) → is_book_name w ≡ true → flag_of w ≡ None
unfolding is_book_name
name_is_none [] h = absurd (true≢false (sym h))
name_is_none (b ∷ bs) h = no_flag b bs (go (nat_eq b 45) (both (begins_well (b ∷ bs)) _ (both (begins_well (b ∷ bs) && nat_le (length (b ∷ bs)) 64) _ h).0).0)
  where
    go : (t : Bool) → not t ≡ true → t ≡ false
    go true h = absurd (true≢false (sym h))
    go false h = refl

names_end : (bs : List (List ℕ)) (q : Options) → AreNames bs → command_from bs q ≡ books_command q bs
names_end [] q h = absurd (let l = h.some in omega (arith, l))
names_end (w ∷ []) q h = ap (λ o. last_word o q w) (name_is_none w h.names.0)
names_end (w ∷ v ∷ ws) q h = ap (λ o. first_word o q w v ws (command_from (v ∷ ws)) (command_from ws)) (name_is_none w h.names.0)

same_by : (a b : Bool) (X : Type 0) → ((a ≡ true) ↔ X) → ((b ≡ true) ↔ X) → a ≡ b
same_by true true X h k = refl
same_by false false X h k = refl
same_by true false X h k = sym (k.1 (h.0 refl))
same_by false true X h k = h.1 (k.0 refl)

order_ends : (ws : List (List ℕ)) (o : Order) (h : IsOrder ws o) (q : Options) → Reads no_options h.settings q → books_command q o.books ≡ Some (of_books o)
order_ends ws o h q r =
    let t = tells h.settings q r in
    let none : q.demo ≡ None = not_said h.settings q t Functions h.no_demo in
    let limits : limits_in q ≡ Some o.limits =
    limits_said o.limits (unwrap_or q.steps 100000) (unwrap_or q.goals 10000) (unwrap_or q.revert 2) (sym (said h.settings q t Steps 100000 o.limits.steps h.steps))
    (sym (said h.settings q t Goals 10000 o.limits.goals h.goals)) (sym (said h.settings q t Revert 2 o.limits.revert h.revert)) in
    let workers : unwrap_or q.workers 1 ≡ o.workers = said h.settings q t Workers 1 o.workers h.workers in
    let trace : q.trace ≡ o.trace = same_by q.trace o.trace (Among traces h.settings) (tells_trace h.settings q r) h.trace in
    ap (λ d. cond (is_none d) (books_by q o.books (limits_in q)) None) none
    ∙ ap (books_by q o.books) limits
    ∙ (λ i. Some (of_books (record { books = o.books; limits = o.limits; workers = workers i; trace = trace i })))

order_read : (ws : List (List ℕ)) (o : Order) → IsOrder ws o → command_of ws ≡ Some (of_books o)
order_read ws o h =
    let from : command_from (written h.settings ++ o.books) no_options ≡ Some (of_books o) =
    read_back h.settings o.books no_options (of_books o) (within h.settings h.fine.taken) h.fine.once (all_free h.settings)
    (λ q r. names_end o.books q h.books ∙ order_ends ws o h q r) in
    ap where_books (ap (λ us. command_from us no_options) h.is ∙ from) ∙ ap (λ t. cond t (Some (of_books o)) None) (are_named o.books h.books)

-- the demo

demo_or : Demo → Option Command → Demo
demo_or x None = x
demo_or x (Some (of_books o)) = x
demo_or x (Some (of_demo d)) = d

abbrev demo_as : Options → ℕ → Limits → Demo
demo_as q n l = record { number = n; limits = l; workers = unwrap_or q.workers 1 }

record Demos (q : Options) (d : Demo) : Type 0 where
  bare : is_bare q ≡ true
  number : ℕ
  given : q.demo ≡ Some number
  limits : Limits
  limits_are : limits_in q ≡ Some limits
  demo : demo_as q number limits ≡ d

demos : (q : Options) (d : Demo) → demo_command q ≡ Some (of_demo d) → Demos q d
unfolding demo_or
demos q d h = go (is_bare q) q.demo (limits_in q) refl refl refl h
  where
    go : (t : Bool) (m : Option ℕ) (l : Option Limits) → is_bare q ≡ t → q.demo ≡ m → limits_in q ≡ l → cond t (demo_by q m l) None ≡ Some (of_demo d) → Demos q d
    go false m l i j k h = cc
    go true None l i j k h = cc
    go true (Some n) None i j k h = cc
    go true (Some n) (Some l) i j k h = record { bare = i; number = n; given = j; limits = l; limits_are = k; demo = ap (demo_or d) h }

no_demo : (q : Options) (bs : List (List ℕ)) (d : Demo) → books_command q bs ≡ Some (of_demo d) → ⊥
no_demo q bs d h = go q.demo (limits_in q) h
  where
    go : (m : Option ℕ) (l : Option Limits) → cond (is_none m) (books_by q bs l) None ≡ Some (of_demo d) → ⊥
    go (Some n) l h = cc
    go None None h = cc
    go None (Some l) h = cc

record Bare (q : Options) : Type 0 where
  steps : q.steps ≡ None
  goals : q.goals ≡ None
  revert : q.revert ≡ None
  trace : q.trace ≡ false

bare : (q : Options) → is_bare q ≡ true → Bare q
bare q h = go q.steps q.goals q.revert q.trace refl refl refl refl h
  where
    go : (s g r : Option ℕ) (t : Bool) → q.steps ≡ s → q.goals ≡ g → q.revert ≡ r → q.trace ≡ t → (is_none s && is_none g && is_none r && not t) ≡ true → Bare q
    go None None None false i j k l h = record { steps = i; goals = j; revert = k; trace = l }
    go (Some n) g r t i j k l h = absurd (true≢false (sym h))
    go None (Some n) r t i j k l h = absurd (true≢false (sym h))
    go None None (Some n) t i j k l h = absurd (true≢false (sym h))
    go None None None true i j k l h = absurd (true≢false (sym h))

bare_is : (q : Options) → Bare q → is_bare q ≡ true
bare_is q h =
    ap (λ o. is_none o && is_none q.goals && is_none q.revert && not q.trace) h.steps ∙ ap (λ o. is_none o && is_none q.revert && not q.trace) h.goals
    ∙ ap (λ o. is_none o && not q.trace) h.revert ∙ ap not h.trace

limits_bare : (q : Options) → Bare q → limits_in q ≡ limits_of 100000 10000 2
limits_bare q h =
    ap (λ o. limits_of (unwrap_or o 100000) (unwrap_or q.goals 10000) (unwrap_or q.revert 2)) h.steps
    ∙ ap (λ o. limits_of 100000 (unwrap_or o 10000) (unwrap_or q.revert 2)) h.goals ∙ ap (λ o. limits_of 100000 10000 (unwrap_or o 2)) h.revert

demo_is : (os : List Setting) (q : Options) (d : Demo) (ws : List (List ℕ)) → ws ≡ written os → Reads no_options os q → Demos q d → IsDemo ws d
demo_is os q d ws is r h = subst (IsDemo ws) h.demo (record {
  settings = os;
  is = is;
  fine = record { taken = taken os r.within (λ n m. absurd (none_said os q t Revert b.revert n m)); once = r.once };
  alone = each_among IsOfDemo os alone;
  number = (t Functions h.number).0 h.given;
  workers = says os q t Workers 1;
  steps = l.steps_is;
  goals = l.goals_is;
  revert = l.revert_is;
})
  where
    t : Tells os q
    t = tells os q r

    b : Bare q
    b = bare q h.bare

    l : Limited 100000 10000 2 h.limits
    l = limited 100000 10000 2 h.limits (sym (limits_bare q b) ∙ h.limits_are)

    alone : (s : Setting) → Among s os → IsOfDemo s
    alone (counts Workers n) m = inr refl
    alone (counts Steps n) m = absurd (none_said os q t Steps b.steps n m)
    alone (counts Goals n) m = absurd (none_said os q t Goals b.goals n m)
    alone (counts Revert n) m = absurd (none_said os q t Revert b.revert n m)
    alone (counts Functions n) m = inl refl
    alone traces m = absurd (true≢false (sym ((tells_trace os q r).1 m) ∙ b.trace))

demo_line : (ws : List (List ℕ)) (d : Demo) → command_from ws no_options ≡ Some (of_demo d) → IsDemo ws d
demo_line ws d h = go (shape ws no_options (of_demo d) h)
  where
    by : (s : Shape no_options ws (of_demo d)) → Ends s.options s.behind (of_demo d) → IsDemo ws d
    by s (inl e) = demo_is s.settings s.options d ws (s.is ∙ ap (λ bs. written s.settings ++ bs) e.0 ∙ append-nil (written s.settings)) s.reads (demos s.options d e.1)
    by s (inr e) = absurd (no_demo s.options s.behind d e)

    go : Shape no_options ws (of_demo d) → IsDemo ws d
    go s = by s s.ends

demo_bare : (ws : List (List ℕ)) (d : Demo) (h : IsDemo ws d) (q : Options) → Reads no_options h.settings q → Bare q
demo_bare ws d h q r = record {
  steps = not_said h.settings q t Steps (λ n m. steps_not (among_each IsOfDemo h.settings (counts Steps n) h.alone m));
  goals = not_said h.settings q t Goals (λ n m. goals_not (among_each IsOfDemo h.settings (counts Goals n) h.alone m));
  revert = not_said h.settings q t Revert (λ n m. revert_not (among_each IsOfDemo h.settings (counts Revert n) h.alone m));
  trace = go q.trace refl;
}
  where
    t : Tells h.settings q
    t = tells h.settings q r

    steps_not : (Number Steps ≡ Number Functions) ⊎ (Number Steps ≡ Number Workers) → ⊥
    steps_not (inl e) = cc
    steps_not (inr e) = cc

    goals_not : (Number Goals ≡ Number Functions) ⊎ (Number Goals ≡ Number Workers) → ⊥
    goals_not (inl e) = cc
    goals_not (inr e) = cc

    revert_not : (Number Revert ≡ Number Functions) ⊎ (Number Revert ≡ Number Workers) → ⊥
    revert_not (inl e) = cc
    revert_not (inr e) = cc

    trace_not : (Trace ≡ Number Functions) ⊎ (Trace ≡ Number Workers) → ⊥
    trace_not (inl e) = cc
    trace_not (inr e) = cc

    go : (b : Bool) → q.trace ≡ b → b ≡ false
    go false e = refl
    go true e = absurd (trace_not (among_each IsOfDemo h.settings traces h.alone ((tells_trace h.settings q r).0 e)))

demo_ends : (ws : List (List ℕ)) (d : Demo) (h : IsDemo ws d) (q : Options) → Reads no_options h.settings q → demo_command q ≡ Some (of_demo d)
demo_ends ws d h q r =
    let t = tells h.settings q r in
    let b = demo_bare ws d h q r in
    let number : q.demo ≡ Some d.number = (t Functions d.number).1 h.number in
    let limits : limits_in q ≡ Some d.limits = limits_bare q b ∙ limits_said d.limits 100000 10000 2 h.steps h.goals h.revert in
    let workers : unwrap_or q.workers 1 ≡ d.workers = said h.settings q t Workers 1 d.workers h.workers in
    ap (λ x. cond x (demo_by q q.demo (limits_in q)) None) (bare_is q b)
    ∙ ap (λ x. demo_by q x (limits_in q)) number
    ∙ ap (demo_by q (Some d.number)) limits
    ∙ (λ i. Some (of_demo (record { number = d.number; limits = d.limits; workers = workers i })))

demo_read : (ws : List (List ℕ)) (d : Demo) → IsDemo ws d → command_of ws ≡ Some (of_demo d)
demo_read ws d h =
    let from : command_from (written h.settings ++ []) no_options ≡ Some (of_demo d) =
    read_back h.settings [] no_options (of_demo d) (within h.settings h.fine.taken) h.fine.once (all_free h.settings) (λ q r. demo_ends ws d h q r) in
    ap where_books (ap (λ us. command_from us no_options) (h.is ∙ sym (append-nil (written h.settings))) ∙ from)

pub lines_are_read : LinesAreRead
lines_are_read ws c = (to c, λ h. from (command_from ws no_options) refl h)
  where
    to : (c : Command) → IsLine ws c → command_of ws ≡ Some c
    to (of_books o) h = order_read ws o h
    to (of_demo d) h = demo_read ws d h

    from : (r : Option Command) → command_from ws no_options ≡ r → where_books r ≡ Some c → IsLine ws c
    from None e h = cc
    from (Some (of_books o)) e h = let k = cond_some (are_books o.books) (of_books o) c h in subst (IsLine ws) k.1 (order_line ws o e k.0)
    from (Some (of_demo d)) e h = subst (IsLine ws) (ap (λ r. unwrap_or r c) h) (demo_line ws d e)

pub lines_say_one_thing : LinesSayOneThing
lines_say_one_thing ws c d h k = let e = sym ((lines_are_read ws c).0 h) ∙ (lines_are_read ws d).0 k in ap (λ o. unwrap_or o c) e

pub others_are_none : OthersAreNone
others_are_none ws = (λ h. none h (command_of ws) refl, λ e c h. absurd (some c (command_of ws) e ((lines_are_read ws c).0 h)))
  where
    none : ((c : Command) → ¬ IsLine ws c) → (o : Option Command) → command_of ws ≡ o → o ≡ None
    none h None e = refl
    none h (Some c) e = absurd (h c ((lines_are_read ws c).1 e))

    some : (c : Command) (o : Option Command) → o ≡ None → o ≡ Some c → ⊥
    some c o e h = cc

-- a name is no option
named_first : (bs : List (List ℕ)) (f : Flag) (us : List (List ℕ)) → Each IsName bs → bs ≡ word_of f ∷ us → ⊥
named_first [] f us h e = cc
named_first (b ∷ bs) f us h e =
    let same : b ≡ word_of f = ap (λ l. get_or l 0 []) e in
    let none : ◌≡◌ {A = Option Flag} None (Some f) = sym (name_is_none b h.0) ∙ ap flag_of same ∙ flag_written f in
    cc

-- options of one name are one
flag_same : (f g : Flag) → word_of f ≡ word_of g → ◌≡◌ {A = Option Flag} (Some f) (Some g)
flag_same f g e = sym (flag_written f) ∙ ap flag_of e ∙ flag_written g

pub lines_are_written_one_way : LinesAreWrittenOneWay
lines_are_written_one_way [] [] bs cs h i j k e = (refl, e)
lines_are_written_one_way [] (counts a n ∷ ps) bs cs h i j k e = absurd (named_first bs (Number a) (decimal n ∷ (written ps ++ cs)) j e)
lines_are_written_one_way [] (traces ∷ ps) bs cs h i j k e = absurd (named_first bs Trace (written ps ++ cs) j e)
lines_are_written_one_way (counts a n ∷ os) [] bs cs h i j k e = absurd (named_first cs (Number a) (decimal n ∷ (written os ++ bs)) k (sym e))
lines_are_written_one_way (traces ∷ os) [] bs cs h i j k e = absurd (named_first cs Trace (written os ++ bs) k (sym e))
lines_are_written_one_way (counts a n ∷ os) (counts b m ∷ ps) bs cs h i j k e =
    let flags = flag_same (Number a) (Number b) (ap (λ l. get_or l 0 []) e) in
    let kinds : a ≡ b = cc in
    let numbers : n ≡ m = decimal_injective n m (omega (arith, h.0.1, most_small a)) (omega (arith, i.0.1, most_small b)) (ap (λ l. get_or l 1 []) e) in
    let more = lines_are_written_one_way os ps bs cs h.1 i.1 j k (ap (λ l. drop 2 l) e) in
    (λ x. counts (kinds x) (numbers x) ∷ more.0 x, more.1)
lines_are_written_one_way (counts a n ∷ os) (traces ∷ ps) bs cs h i j k e = let flags = flag_same (Number a) Trace (ap (λ l. get_or l 0 []) e) in absurd cc
lines_are_written_one_way (traces ∷ os) (counts b m ∷ ps) bs cs h i j k e = let flags = flag_same Trace (Number b) (ap (λ l. get_or l 0 []) e) in absurd cc
lines_are_written_one_way (traces ∷ os) (traces ∷ ps) bs cs h i j k e =
    let more = lines_are_written_one_way os ps bs cs h.1 i.1 j k (ap (λ l. drop 1 l) e) in
    (ap (λ l. traces ∷ l) more.0, more.1)
