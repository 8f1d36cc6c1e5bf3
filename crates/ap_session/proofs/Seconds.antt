-- The second pass of a certified book is its events done again.
use Rattle.std.proofs.Common.{◌≡◌, ◌∙◌, ℕ, Bool, true, false, List, [], ◌∷◌, Option, Some, None, Result, Ok, Err, refl, ap, sym, true≢false}
use Rattle.ap_world.specs.World.{Shown}
use Rattle.ap_reader.specs.declared.form.Form.{Form}
use Rattle.ap_books.specs.Bodies.{Body, go_on, certified, worked, body_by, events_in, forms_by}
use Rattle.ap_plain.specs.declared.limits.Limits.{Limits}
use Rattle.ap_plain.specs.Ends.{Told}
use Rattle.ap_events.specs.Books.{Earlier, worked as done_first, worked_again}
use Rattle.ap_events.specs.Nested.{then_by}
use Rattle.ap_session.specs.declared.second.Second.{Second}
use Rattle.ap_session.specs.declared.second.Second.TheVariants.{SoFar, Failed}
use Rattle.ap_session.specs.Working.{Working, start, begin, second_by, second_after, is_refused, after, admits, ends, end_text, end_told, has_failed}
use Rattle.ap_session.specs.Session.{kept_by, kept_of}
use Rattle.ap_session.specs.Laws.{done_again, KeepsDoneAgain}

-- an event by the world behind it, and what follows it
abbrev pub onward : Working → Form → List Form → Option Shown → Body Working Told
onward s f fs o = go_on (admits s f).text (admits s f).log (is_refused o) (after s f o) (worked admits ends fs)

-- a second pass that refused an event refuses the book
failed_stays : (fs : List Form) (s : Working) (text : List ℕ) → s.second ≡ Failed text → (worked admits ends fs s).certified ≡ true → ⊥
failed_stays [] s text e h =
    true≢false (sym h ∙ ap (λ r. (go_on (end_text s.second) (end_told s.second) r s certified).certified) (ap has_failed e))
failed_stays (f ∷ fs) s text e h =
    go (λ w k. failed_stays fs (after s f (Some w)) text (ap (second_after s.earlier f) e) k) (done_first s.limits s.earlier s.world f).next h
  where
    go : ((w : Shown) → (worked admits ends fs (after s f (Some w))).certified ≡ true → ⊥) → (o : Option Shown) → (onward s f fs o).certified ≡ true → ⊥
    go more None k = true≢false (sym k)
    go more (Some w) k = more w k

-- what follows an event that both passes admit
abbrev More : List Form → Working → Form → Type 0
More fs s f = (w u : Shown) → second_after s.earlier f s.second ≡ SoFar u → (worked admits ends fs (after s f (Some w))).certified ≡ true
    → (done_again s.earlier fs u).next ≡ Some (kept_of (worked admits ends fs (after s f (Some w))))

kept_again : (fs : List Form) (s : Working) (v : Shown) → s.second ≡ SoFar v → (worked admits ends fs s).certified ≡ true
    → (done_again s.earlier fs v).next ≡ Some (kept_of (worked admits ends fs s))
kept_again [] s v e h = go (has_failed s.second)
  where
    here : ◌≡◌ {A = Option Shown} (Some v) (Some (kept_by s.second s.world))
    here = ap (λ p. Some (kept_by p s.world)) (sym e)

    go : (r : Bool) → ◌≡◌ {A = Option Shown} (Some v) (Some (kept_of (go_on (end_text s.second) (end_told s.second) r s certified)))
    go true = here
    go false = here
kept_again (f ∷ fs) s v e h =
    go (λ w u is k. kept_again fs (after s f (Some w)) u is k) (done_first s.limits s.earlier s.world f).next h
  where
    text : List ℕ
    text = (worked_again s.earlier v f).text

    second : (o : Option Shown) → (worked_again s.earlier v f).next ≡ o → second_after s.earlier f s.second ≡ second_by text o
    second o is = ap (second_after s.earlier f) e ∙ ap (second_by text) is

    step : More fs s f → (w : Shown) → (worked admits ends fs (after s f (Some w))).certified ≡ true → (o : Option Shown) → (worked_again s.earlier v f).next ≡ o
        → (then_by (worked_again s.earlier v f) o (done_again s.earlier fs)).next ≡ Some (kept_of (worked admits ends fs (after s f (Some w))))
    step more w k None is = absurd (failed_stays fs (after s f (Some w)) text (second None is) k)
    step more w k (Some u) is = more w u (second (Some u) is) k

    go : More fs s f → (o : Option Shown) → (onward s f fs o).certified ≡ true → (done_again s.earlier (f ∷ fs) v).next ≡ Some (kept_of (onward s f fs o))
    go more None k = absurd (true≢false (sym k))
    go more (Some w) k = step more w k (worked_again s.earlier v f).next refl

pub keeps_done_again : KeepsDoneAgain
keeps_done_again limits earlier read h = go (events_in read) h
  where
    go : (events : Result (List Form) (List ℕ)) → (body_by admits ends events (begin limits earlier)).certified ≡ true
        → (done_again earlier (forms_by events) start).next ≡ Some (kept_of (body_by admits ends events (begin limits earlier)))
    go (Err text) k = absurd (true≢false (sym k))
    go (Ok fs) k = kept_again fs (begin limits earlier) start refl k
