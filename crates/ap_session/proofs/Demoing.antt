-- The demo's events, one after another, and its session.
use Rattle.std.proofs.Common.{◌≡◌, ◌∙◌, ◌⊎◌, ◌≤◌, ℕ, ◌+◌, Bool, true, false, cond, List, [], ◌∷◌, ◌++◌, Result, refl, ap, sym, subst, inl, inr, arith, zero-add}
use Rattle.ap_world.specs.World.{Shown}
use Rattle.ap_reader.specs.declared.form.Form.{Form}
use Rattle.ap_books.specs.Bodies.{Body, go_on, worked, body_by, body_of, events_in, forms_by}
use Rattle.ap_table.specs.declared.link.DropNote.{DropNote}
use Rattle.ap_plain.specs.declared.limits.Limits.{Limits}
use Rattle.ap_plain.specs.Ends.{Told, goals_in, walks_in}
use Rattle.ap_plain.specs.Drops.{DividedWalks}
use Rattle.ap_plain.proofs.Telling.{notes_none, goals_after}
use Rattle.ap_events.specs.Books.{Earlier}
use Rattle.ap_session.specs.declared.demo.Tally.{Tally}
use Rattle.ap_session.specs.Working.{Working, start, begin, admits, ends, has_failed}
use Rattle.ap_session.specs.Admitting.{AdmittingSeen, notes_in, left_in, IsTold, Led}
use Rattle.ap_session.specs.Command.{Demo}
use Rattle.ap_session.specs.Demo.{demo_read, admitted_of, counted, demo_line}
use Rattle.ap_session.specs.Session.{Session, PassedThrough, read_body, last_of, kept_by, demo_session}
use Rattle.ap_session.proofs.Leading.{by_kept, led_begun}

-- events of which these are left, in this state and with these counts
pub record Left (fs gs : List Form) (s u : Working) (t v : Tally) : Type 0 where
  pub certified : (worked admits ends fs s).certified ≡ (worked admits ends gs u).certified
  pub state : (worked admits ends fs s).state ≡ (worked admits ends gs u).state
  pub events : v.events + admitted_of gs u ≡ t.events + admitted_of fs s
  pub goals : v.goals + goals_in (worked admits ends gs u).log ≡ t.goals + goals_in (worked admits ends fs s).log

pub left_none : (fs : List Form) (s : Working) (t : Tally) → Left fs fs s s t t
left_none fs s t = record { certified = refl; state = refl; events = refl; goals = refl }

-- the first of the events that are left, and what follows it
abbrev onward : Bool → Working → Form → List Form → Body Working Told
onward r u f gs = go_on (admits u f).text (admits u f).log r (admits u f).next (worked admits ends gs)

-- one that is admitted
pub left_more : (fs gs : List Form) (f : Form) (s u n : Working) (t v w : Tally) → Left fs (f ∷ gs) s u t v
    → (admits u f).refused ≡ false → (admits u f).next ≡ n → w ≡ counted v (admits u f) → Left fs gs s n t w
left_more fs gs f s u n t v w h went next count =
    subst (λ m. Left fs gs s m t w) next (subst (λ (x : Tally). Left fs gs s (admits u f).next t x) (sym count) here)
  where
    log : List Told
    log = (admits u f).log

    rest : List Told
    rest = (worked admits ends gs (admits u f).next).log

    some : admitted_of (f ∷ gs) u ≡ admitted_of gs (admits u f).next + 1
    some = ap (λ b. cond b 0 (admitted_of gs (admits u f).next + 1)) went

    one : ◌≡◌ {A = ℕ} (cond (admits u f).refused 0 1) 1
    one = ap (λ b. cond b 0 1) went

    logs : goals_in (worked admits ends (f ∷ gs) u).log ≡ goals_in log + goals_in rest
    logs = ap (λ b. goals_in (onward b u f gs).log) went ∙ goals_after log rest

    here : Left fs gs s (admits u f).next t (counted v (admits u f))
    here = record {
      certified = h.certified ∙ ap (λ b. (onward b u f gs).certified) went;
      state = h.state ∙ ap (λ b. (onward b u f gs).state) went;
      events = let e = h.events in omega (arith, e, some, one);
      goals = let e = h.goals in omega (arith, e, logs);
    }

-- A certified book keeps a world that it tells.

pub certified_passed : (events : Result (List Form) (List ℕ)) (s t : Working) → (body_by admits ends events s).certified ≡ true → (body_by admits ends events s).state ≡ t → has_failed t.second ≡ false
certified_passed events s t good is = subst (λ (u : Working). has_failed u.second ≡ false) is (by_kept events s good).0

pub certified_told : (events : Result (List Form) (List ℕ)) (s t : Working) → (body_by admits ends events s).certified ≡ true → (body_by admits ends events s).state ≡ t
    → IsTold (body_by admits ends events s).log (kept_by t.second t.world)
certified_told events s t good is = subst (λ (u : Working). IsTold (body_by admits ends events s).log (kept_by u.second u.world)) is (by_kept events s good).1

-- The session, by what was worked from the start with these limits.

module _ (d : Demo) (a c : AdmittingSeen) (events : Result (List Form) (List ℕ)) (limits : a.working.limits ≡ d.limits) (unkept : a.working.earlier ≡ [])
    (begun : c ≡ record a { working = begin a.working.limits a.working.earlier; kept = false }) (read : events ≡ events_in (demo_read d.number)) where
  state : c.working ≡ begin d.limits []
  state = ap (λ (x : AdmittingSeen). x.working) begun ∙ ap (λ m. begin m a.working.earlier) limits ∙ ap (λ (es : Earlier). begin d.limits es) unkept

  body : body_by admits ends events c.working ≡ read_body d.limits [] (demo_read d.number)
  body = ap (λ es. body_by admits ends es c.working) read ∙ ap (λ u. body_of admits ends (demo_read d.number) u) state

  many : admitted_of (forms_by events) c.working ≡ admitted_of (forms_by (events_in (demo_read d.number))) (begin d.limits [])
  many = ap (λ es. admitted_of (forms_by es) c.working) read ∙ ap (λ u. admitted_of (forms_by (events_in (demo_read d.number))) u) state

  pub demo_certified : (good : Bool) → (body_by admits ends events c.working).certified ≡ good → (demo_session d).certified ≡ good
  demo_certified good is = sym (ap (λ (b : Body Working Told). b.certified) body) ∙ is

  pub demo_last : (w : Shown) → last_of (body_by admits ends events c.working) ≡ w → (demo_session d).last ≡ w
  demo_last w is = sym (ap last_of body) ∙ is

  -- the line of what was counted
  pub demo_is : (t : Tally) (text : List ℕ) (good : Bool) → t.events ≡ 0 + admitted_of (forms_by events) c.working → t.goals ≡ 0 + goals_in (body_by admits ends events c.working).log
      → (body_by admits ends events c.working).certified ≡ good → text ≡ demo_line d.number t.events t.goals good → text ≡ (demo_session d).text
  demo_is t text good e g b is =
      is ∙ ap (λ k. demo_line d.number k t.goals good) (e ∙ zero-add (admitted_of (forms_by events) c.working) ∙ many)
      ∙ ap (λ k. demo_line d.number (admitted_of (forms_by (events_in (demo_read d.number))) (begin d.limits [])) k good) (g ∙ zero-add (goals_in (body_by admits ends events c.working).log) ∙ ap (λ (x : Body Working Told). goals_in x.log) body)
      ∙ ap (λ k. demo_line d.number (admitted_of (forms_by (events_in (demo_read d.number))) (begin d.limits [])) (goals_in (read_body d.limits [] (demo_read d.number)).log) k) (sym b ∙ ap (λ (x : Body Working Told). x.certified) body)

  -- what its events leave
  pub demo_led : (b : AdmittingSeen) → Led c b (body_by admits ends events c.working).log → Led a b (demo_session d).told
  demo_led b led =
      subst (λ (m : Limits). Led a b (read_body m [] (demo_read d.number)).log) limits
      (subst (λ (es : Earlier). Led a b (read_body a.working.limits es (demo_read d.number)).log) unkept
      (led_begun a c b (demo_read d.number) begun (subst (λ (es : Result (List Form) (List ℕ)). Led c b (body_by admits ends es c.working).log) read led)))

-- Of a session that is led from the start.

pub led_passed : (s : Session) (a b : AdmittingSeen) → left_in a ≡ start → Led a b s.told → PassedThrough s (left_in b)
led_passed s a b begun led = to led.left
  where
    to : (left_in b ≡ left_in a) ⊎ ((left_in b ≡ start) ⊎ IsTold s.told (left_in b)) → PassedThrough s (left_in b)
    to (inl e) = inl (e ∙ begun)
    to (inr p) = p

led_notes : (s : Session) (a b : AdmittingSeen) → notes_in a ≡ [] → (led : Led a b s.told) → notes_in b ≡ led.notes.more
led_notes s a b none led = led.notes.behind ∙ ap (λ ns. ns ++ led.notes.more) none

-- what it tells of drops: all that was noted, or nothing
pub led_drops : (s : Session) (a b : AdmittingSeen) (drops : List DropNote) → notes_in a ≡ [] → Led a b s.told → (drops ≡ notes_in b) ⊎ (drops ≡ []) → DividedWalks drops (walks_in s.told)
led_drops s a b drops none led (inl e) =
    subst (λ ns. DividedWalks ns (walks_in s.told)) (sym (e ∙ led_notes s a b none led)) led.notes.divided
led_drops s a b drops none led (inr e) = subst (λ ns. DividedWalks ns (walks_in s.told)) (sym e) (notes_none s.told)

pub led_alone : (s : Session) (a b : AdmittingSeen) (drops : List DropNote) → notes_in a ≡ [] → Led a b s.told → (drops ≡ notes_in b) ⊎ (drops ≡ []) → a.workers ≤ 1 → drops ≡ []
led_alone s a b drops none led (inl e) one = e ∙ led_notes s a b none led ∙ led.notes.alone one
led_alone s a b drops none led (inr e) one = e
