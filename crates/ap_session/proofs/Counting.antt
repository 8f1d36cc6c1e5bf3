-- What a certificate and the demo count are the single events that were admitted.
use Rattle.std.proofs.Common.{◌≡◌, ◌∙◌, ℕ, ◌+◌, true, true≢false, cond, List, [], ◌∷◌, Option, Some, None, Result, Ok, Err, refl, ap, sym, arith}
use Rattle.ap_world.specs.World.{Shown}
use Rattle.ap_reader.specs.declared.form.Form.{Form}
use Rattle.ap_books.specs.Bodies.{worked, body_by, events_in, forms_by}
use Rattle.ap_events.specs.declared.held.Held.{Held}
use Rattle.ap_events.specs.Books.{worked as done_first}
use Rattle.ap_events.specs.Counting.{if_admitted, singles, SinglesAreHeld, PlainIsOne}
use Rattle.ap_events.specs.Held.{with_all, with_form, held_in}
use Rattle.ap_session.specs.Demo.{admitted_of}
use Rattle.ap_session.specs.Laws.{singles_of, CertificatesCount, DemosCount}
use Rattle.ap_session.specs.Working.{Working, start, begin, is_refused, after, admits, ends}
use Rattle.ap_session.proofs.Seconds.{onward}

module _ (held : SinglesAreHeld) where
  certified_counts : (fs : List Form) (s : Working) (h : Held) → (worked admits ends fs s).certified ≡ true
      → (with_all (with_form 400) fs h).events ≡ h.events + singles_of s.limits s.earlier fs s.world
  certified_counts [] s h is = omega arith
  certified_counts (f ∷ fs) s h is =
      go (λ w k. certified_counts fs (after s f (Some w)) (with_form 400 f h) k) (done_first s.limits s.earlier s.world f).next refl is
    where
      go : ((w : Shown) → (worked admits ends fs (after s f (Some w))).certified ≡ true
          → (with_all (with_form 400) fs (with_form 400 f h)).events ≡ (with_form 400 f h).events + singles_of s.limits s.earlier fs w)
          → (o : Option Shown) → (done_first s.limits s.earlier s.world f).next ≡ o → (onward s f fs o).certified ≡ true
          → (with_all (with_form 400) fs (with_form 400 f h)).events ≡ h.events + (singles s.limits s.earlier s.world f + if_admitted o (singles_of s.limits s.earlier fs))
      go more None e k = absurd (true≢false (sym k))
      go more (Some w) e k = let first = held s.limits s.earlier s.world w f h e in let rest = more w k in omega (arith, first, rest)

  pub certificates_count : CertificatesCount
  certificates_count limits earlier seen name read h = go (events_in read) h
    where
      go : (events : Result (List Form) (List ℕ)) → (body_by admits ends events (begin limits earlier)).certified ≡ true
          → (held_in (forms_by events)).events ≡ singles_of limits earlier (forms_by events) start
      go (Err text) k = absurd (true≢false (sym k))
      go (Ok fs) k = let counts = certified_counts fs (begin limits earlier) (record { events = 0; books = [] }) k in omega (arith, counts)

module _ (one : PlainIsOne) where
  pub demos_count : DemosCount
  demos_count [] s h = refl
  demos_count (f ∷ fs) s h = go (λ w. demos_count fs (after s f (Some w)) h.1) (done_first s.limits s.earlier s.world f).next refl
    where
      go : ((w : Shown) → admitted_of fs (after s f (Some w)) ≡ singles_of s.limits s.earlier fs w) → (o : Option Shown) → (done_first s.limits s.earlier s.world f).next ≡ o
          → cond (is_refused o) 0 (admitted_of fs (after s f o) + 1) ≡ singles s.limits s.earlier s.world f + if_admitted o (singles_of s.limits s.earlier fs)
      go more None e = let this = one s.limits s.earlier s.world f h.0 ∙ ap (λ o. if_admitted o (λ v. 1)) e in omega (arith, this)
      go more (Some w) e = let this = one s.limits s.earlier s.world f h.0 ∙ ap (λ o. if_admitted o (λ v. 1)) e in let rest = more w in omega (arith, this, rest)
