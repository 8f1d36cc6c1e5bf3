-- Each world that a session passes through is sound, where each event keeps worlds so, first and again.
use Rattle.std.proofs.Common.{◌≡◌, ◌⊎◌, ℕ, Bool, true, false, cond, List, [], ◌∷◌, ◌++◌, Option, Some, None, Result, Ok, Err, refl, sym, subst, inl, inr}
use Rattle.ap_list.specs.Lists.{Each, AnyOf}
use Rattle.ap_world.specs.declared.entry.Entry.{Entry}
use Rattle.ap_world.specs.Alike.{Covers}
use Rattle.ap_world.specs.Ground.{ground}
use Rattle.ap_world.specs.Sound.{Sound, HasFunctions}
use Rattle.ap_world.specs.World.{Shown, function_of, are_distinct}
use Rattle.ap_world.proofs.Covering.{covers_self}
use Rattle.ap_ground.proofs.Begun.{ground_distinct}
use Rattle.ap_outside.specs.declared.library.BookRead.{BookRead}
use Rattle.ap_reader.specs.declared.form.Form.{Form}
use Rattle.ap_books.specs.Bodies.{Body, go_on, certified, worked, body_by, events_in}
use Rattle.ap_plain.specs.declared.limits.Limits.{Limits}
use Rattle.ap_plain.specs.Ends.{Told, worlds_in}
use Rattle.ap_plain.specs.Laws.{GoodWorld}
use Rattle.ap_plain.proofs.Telling.{worlds_after, of_told, each_after}
use Rattle.ap_events.specs.Again.{AgainIsCovered}
use Rattle.ap_events.specs.Backing.{Backed}
use Rattle.ap_events.specs.Books.{Earlier, worked as first_worked, worked_again}
use Rattle.ap_events.specs.Laws.{AreGood, WorkedKeepGood, AgainKeepsGood, WorkedGrows, WorkedTells}
use Rattle.ap_session.specs.declared.second.Second.{Second}
use Rattle.ap_session.specs.declared.second.Second.TheVariants.{SoFar, Failed}
use Rattle.ap_session.specs.Command.{Command, of_books, of_demo}
use Rattle.ap_session.specs.Demo.{demo_read}
use Rattle.ap_session.specs.Working.{Working, start, begin, second_by, second_after, after, admits, end_text, has_failed, end_told, ends, IfSoFar, Stands}
use Rattle.ap_session.specs.Session.{Session, begun, kept_by, kept_of, kept_more, then_book, books_of, session, demo_session, read_body}
use Rattle.ap_session.proofs.Passing.{next_backs, both_cover}
use Rattle.ap_session.proofs.Starting.{start_has}

abbrev AllGood : List Told → Type 0
AllGood told = Each GoodWorld (worlds_in told)

good_after : (xs ys : List Told) → AllGood xs → AllGood ys → AllGood (xs ++ ys)
good_after xs ys h k = subst (λ us. Each GoodWorld us) (sym (worlds_after xs ys)) (each_after GoodWorld (worlds_in xs) (worlds_in ys) h k)

-- what is worked in is good
record GoodWorking (s : Working) : Type 0 where
  world : GoodWorld s.world
  again : IfSoFar GoodWorld s.second
  covered : IfSoFar (λ v. Covers v.entries s.world.entries) s.second
  earlier : AreGood s.earlier

-- a body that tells good worlds alone
record GoodBody (b : Body Working Told) : Type 0 where
  told : AllGood b.log
  state : GoodWorking b.state

distinct_names : (bs : Earlier) → AreGood bs → Each (λ p. are_distinct p.1.entries ≡ true) bs
distinct_names [] hs = tt
distinct_names (b ∷ bs) hs = (hs.0.distinct, distinct_names bs hs.1)

good_stands : (s : Working) → GoodWorking s → Stands s
good_stands s good = record {
  functions = good.world.functions;
  again = go s.second good.again;
  covered = good.covered;
  distinct = distinct_names s.earlier good.earlier;
}
  where
    go : (p : Second) → IfSoFar GoodWorld p → IfSoFar (λ v. HasFunctions (function_of v.entries)) p
    go (SoFar v) h = h.functions
    go (Failed text) h = tt

begin_good : (limits : Limits) (earlier : Earlier) → GoodWorld start → AreGood earlier → GoodWorking (begin limits earlier)
begin_good limits earlier good goods = record { world = good; again = good; covered = covers_self start.entries; earlier = goods }

-- the world after, which is the one before or told
next_good : (w v : Shown) (told : List Told) → GoodWorld w → AllGood told → (w ≡ v) ⊎ AnyOf (λ u. u ≡ v) (worlds_in told) → GoodWorld v
next_good w v told good goods (inl p) = subst GoodWorld p good
next_good w v told good goods (inr t) = of_told GoodWorld (worlds_in told) v goods t

kept_good : (s : Working) → GoodWorking s → GoodWorld (kept_by s.second s.world)
kept_good s good = go s.second good.again
  where
    go : (p : Second) → IfSoFar GoodWorld p → GoodWorld (kept_by p s.world)
    go (SoFar v) h = h
    go (Failed text) h = good.world

module _ (kept : WorkedKeepGood) (redone : AgainKeepsGood) (grows : WorkedGrows) (tells : WorkedTells) (covers : AgainIsCovered) where
  again_good : (s : Working) (f : Form) → GoodWorking s → (p : Second) → IfSoFar GoodWorld p → IfSoFar (λ v. (U : List Entry) × Backed (worked_again s.earlier v f) v U) p → IfSoFar GoodWorld (second_after s.earlier f p)
  again_good s f good (Failed text) h b = tt
  again_good s f good (SoFar v) h b = go (worked_again s.earlier v f).next refl
    where
      go : (o : Option Shown) → (worked_again s.earlier v f).next ≡ o → IfSoFar GoodWorld (second_by (worked_again s.earlier v f).text o)
      go None e = tt
      go (Some u) e =
          next_good v u (worked_again s.earlier v f).told h (redone s.earlier good.earlier v f b.0 h b.1) ((tells s.limits s.earlier v f).1 u e)

  after_good : (s : Working) (f : Form) → GoodWorking s → (o : Option Shown) → (first_worked s.limits s.earlier s.world f).next ≡ o → GoodWorking (after s f o)
  after_good s f good None e = good
  after_good s f good (Some w) e =
      let next = next_good s.world w (first_worked s.limits s.earlier s.world f).told good.world (kept s.limits s.earlier good.earlier s.world f good.world) ((tells s.limits s.earlier s.world f).0 w e) in
      record {
        world = next;
        again = again_good s f good s.second good.again (next_backs grows covers s f w (good_stands s good) e next.sound);
        covered = both_cover grows covers s f w (good_stands s good) e;
        earlier = good.earlier;
      }

  ends_good : (s : Working) → GoodWorking s → GoodBody (worked admits ends [] s)
  ends_good s good = go s.second good.again
    where
      go : (p : Second) → IfSoFar GoodWorld p → GoodBody (go_on (end_text p) (end_told p) (has_failed p) s certified)
      go (SoFar v) h = record { told = (h, tt); state = good }
      go (Failed text) h = record { told = tt; state = good }

  worked_good : (fs : List Form) (s : Working) → GoodWorking s → GoodBody (worked admits ends fs s)
  worked_good [] s good = ends_good s good
  worked_good (f ∷ fs) s good =
      let next = after_good s f good (first_worked s.limits s.earlier s.world f).next refl in
      go (admits s f).refused next (worked_good fs (admits s f).next next)
    where
      here : AllGood (admits s f).log
      here = kept s.limits s.earlier good.earlier s.world f good.world

      go : (r : Bool) → GoodWorking (admits s f).next → GoodBody (worked admits ends fs (admits s f).next) → GoodBody (go_on (admits s f).text (admits s f).log r (admits s f).next (worked admits ends fs))
      go true next rest = record { told = here; state = next }
      go false next rest = record { told = good_after (admits s f).log (worked admits ends fs (admits s f).next).log here rest.told; state = rest.state }

  by_good : (events : Result (List Form) (List ℕ)) (s : Working) → GoodWorking s → GoodBody (body_by admits ends events s)
  by_good (Err text) s good = record { told = tt; state = good }
  by_good (Ok fs) s good = worked_good fs s good

  more_good : (earlier : Earlier) (name : List ℕ) (b : Body Working Told) → AreGood earlier → GoodBody b → AreGood (kept_more earlier name b)
  more_good earlier name b goods good = each_after (λ p. GoodWorld p.1) earlier (cond b.certified ((name, kept_of b) ∷ []) []) goods (go b.certified)
    where
      go : (c : Bool) → AreGood (cond c ((name, kept_of b) ∷ []) [])
      go true = (kept_good b.state good.state, tt)
      go false = tt

  books_good : (limits : Limits) (s : Session) (names : List (List ℕ)) (reads : List BookRead) → GoodWorld start → AllGood s.told → AreGood s.earlier → AllGood (books_of limits s names reads).told
  books_good limits s [] reads good all goods = all
  books_good limits s (name ∷ names) [] good all goods = all
  books_good limits s (name ∷ names) (read ∷ reads) good all goods =
      let body = by_good (events_in read) (begin limits s.earlier) (begin_good limits s.earlier good goods) in
      books_good limits (then_book limits s name read) names reads good
      (good_after s.told (read_body limits s.earlier read).log all body.told) (more_good s.earlier name (read_body limits s.earlier read) goods body)

start_good : Sound ground → GoodWorld start
unfolding start
start_good h = record { sound = h; distinct = ground_distinct; functions = start_has start refl }

sounds : (us : List Shown) → Each GoodWorld us → Each (λ w. Sound w.entries) us
sounds [] h = tt
sounds (u ∷ us) h = (h.0.sound, sounds us h.1)

-- of a session by its command
pub session_sound : WorkedKeepGood → AgainKeepsGood → WorkedGrows → WorkedTells → AgainIsCovered → Sound ground → (command : Option Command) (reads : List BookRead)
    → Each (λ w. Sound w.entries) (worlds_in (session command reads).told)
session_sound kept redone grows tells covers h None reads = tt
session_sound kept redone grows tells covers h (Some (of_books o)) reads =
    sounds (worlds_in (session (Some (of_books o)) reads).told) (books_good kept redone grows tells covers o.limits begun o.books reads (start_good h) tt tt)
session_sound kept redone grows tells covers h (Some (of_demo d)) reads =
    sounds (worlds_in (demo_session d).told) (by_good kept redone grows tells covers (events_in (demo_read d.number)) (begin d.limits []) (begin_good d.limits [] (start_good h) tt)).told
