-- What events leave, one after another.
use Rattle.std.proofs.Common.{◌≡◌, ◌∙◌, ◌⊎◌, ◌≤◌, ℕ, Bool, true, false, List, [], ◌∷◌, ◌++◌, Result, Ok, Err, refl, ap, sym, subst, inl, inr, append_assoc, true≢false}
use Rattle.std.proofs.lemmas.List.{append-nil}
use Rattle.ap_world.specs.World.{Shown}
use Rattle.ap_outside.specs.declared.library.BookRead.{BookRead}
use Rattle.ap_reader.specs.declared.form.Form.{Form}
use Rattle.ap_books.specs.Bodies.{Body, go_on, certified, worked, body_by, body_of, events_in}
use Rattle.ap_plain.specs.Ends.{Told}
use Rattle.ap_plain.proofs.Telling.{notes_more, notes_none, told_left, told_right}
use Rattle.ap_events.specs.Books.{Earlier}
use Rattle.ap_session.specs.declared.second.Second.{Second}
use Rattle.ap_session.specs.declared.second.Second.TheVariants.{SoFar, Failed}
use Rattle.ap_session.specs.Working.{Working, start, begin, admits, ends, end_text, has_failed, end_told}
use Rattle.ap_session.specs.Admitting.{AdmittingSeen, notes_in, last_world, left_by, left_in, Notes, IsTold, Behind, Led}
use Rattle.ap_session.specs.Session.{read_body, kept_by, kept_of}

-- notes behind notes
pub notes_then : (a b c : AdmittingSeen) (xs ys : List Told) → Notes a b xs → Notes b c ys → Notes a c (xs ++ ys)
notes_then a b c xs ys h k = record {
  more = h.more ++ k.more;
  behind = k.behind ∙ ap (λ ns. ns ++ k.more) h.behind ∙ append_assoc (notes_in a) h.more k.more;
  divided = notes_more h.more k.more xs ys h.divided k.divided;
  alone = λ one. let m : h.more ≡ [] = h.alone one in let n : k.more ≡ [] = k.alone (subst (λ w. w ≤ 1) (sym h.workers) one) in rw (m, n) refl;
  workers = k.workers ∙ h.workers;
}

-- no note more
pub notes_same : (a b : AdmittingSeen) (xs : List Told) → notes_in b ≡ notes_in a → b.workers ≡ a.workers → Notes a b xs
notes_same a b xs e w = record {
  more = [];
  behind = e ∙ sym (append-nil (notes_in a));
  divided = notes_none xs;
  alone = λ one. refl;
  workers = w;
}

-- behind no event
pub behind_none : (a b : AdmittingSeen) (xs : List Told) → b.working ≡ a.working → b.kept ≡ a.kept → notes_in b ≡ notes_in a → b.workers ≡ a.workers → Behind a b xs
behind_none a b xs e k n w = record {
  limits = ap (λ (s : Working). s.limits) e;
  earlier = ap (λ (s : Working). s.earlier) e;
  kept = k;
  world = inl (ap (λ (s : Working). s.world) e);
  notes = notes_same a b xs n w;
}

pub behind_same : (a : AdmittingSeen) (xs : List Told) → Behind a a xs
behind_same a xs = behind_none a a xs refl refl refl refl

pub behind_then : (a b c : AdmittingSeen) (xs ys : List Told) → Behind a b xs → Behind b c ys → Behind a c (xs ++ ys)
behind_then a b c xs ys h k = record {
  limits = k.limits ∙ h.limits;
  earlier = k.earlier ∙ h.earlier;
  kept = k.kept ∙ h.kept;
  world = go h.world k.world;
  notes = notes_then a b c xs ys h.notes k.notes;
}
  where
    go : (b.working.world ≡ a.working.world) ⊎ IsTold xs b.working.world → (c.working.world ≡ b.working.world) ⊎ IsTold ys c.working.world
        → (c.working.world ≡ a.working.world) ⊎ IsTold (xs ++ ys) c.working.world
    go p (inr t) = inr (told_right xs ys c.working.world t)
    go (inl p) (inl q) = inl (q ∙ p)
    go (inr t) (inl q) = inr (told_left xs ys c.working.world (subst (λ w. IsTold xs w) (sym q) t))

-- behind the first of some events, which may be refused, or where a fault cut them off
pub behind_first : (f : Form) (fs : List Form) (a b : AdmittingSeen) → Behind a b (admits a.working f).log → Behind a b (worked admits ends (f ∷ fs) a.working).log
behind_first f fs a b h = go (admits a.working f).refused
  where
    more : List Told
    more = (worked admits ends fs (admits a.working f).next).log

    go : (r : Bool) → Behind a b (go_on (admits a.working f).text (admits a.working f).log r (admits a.working f).next (worked admits ends fs)).log
    go true = h
    go false = behind_then a b b (admits a.working f).log more h (behind_same b more)

-- behind the first, and behind those that follow it
pub behind_more : (f : Form) (fs : List Form) (a b c : AdmittingSeen) → Behind a b (admits a.working f).log → (admits a.working f).refused ≡ false → (admits a.working f).next ≡ b.working
    → Behind b c (worked admits ends fs b.working).log → Behind a c (worked admits ends (f ∷ fs) a.working).log
behind_more f fs a b c h went next more =
    subst (λ r. Behind a c (go_on (admits a.working f).text (admits a.working f).log r (admits a.working f).next (worked admits ends fs)).log) (sym went)
    (behind_then a b c (admits a.working f).log (worked admits ends fs (admits a.working f).next).log h
    (subst (λ s. Behind b c (worked admits ends fs s).log) (sym next) more))

-- A certified book tells the world that it keeps.

ends_told : (s : Working) → (worked admits ends [] s).certified ≡ true → (has_failed (worked admits ends [] s).state.second ≡ false) × IsTold (worked admits ends [] s).log (kept_of (worked admits ends [] s))
ends_told s h = go s.second refl h
  where
    go : (p : Second) → s.second ≡ p → (go_on (end_text p) (end_told p) (has_failed p) s certified).certified ≡ true
        → (has_failed (go_on (end_text p) (end_told p) (has_failed p) s certified).state.second ≡ false)
        × IsTold (go_on (end_text p) (end_told p) (has_failed p) s certified).log (kept_of (go_on (end_text p) (end_told p) (has_failed p) s certified))
    go (SoFar v) e k = (ap has_failed e, inl (sym (ap (λ p. kept_by p s.world) e)))
    go (Failed text) e k = absurd (true≢false (sym k))

-- one event, and what follows it
abbrev onward : Bool → Working → Form → List Form → Body Working Told
onward r s f fs = go_on (admits s f).text (admits s f).log r (admits s f).next (worked admits ends fs)

worked_kept : (fs : List Form) (s : Working) → (worked admits ends fs s).certified ≡ true
    → (has_failed (worked admits ends fs s).state.second ≡ false) × IsTold (worked admits ends fs s).log (kept_of (worked admits ends fs s))
worked_kept [] s h = ends_told s h
worked_kept (f ∷ fs) s h = go (admits s f).refused h (worked_kept fs (admits s f).next)
  where
    rest : Body Working Told
    rest = worked admits ends fs (admits s f).next

    go : (r : Bool) → (onward r s f fs).certified ≡ true → (rest.certified ≡ true → (has_failed rest.state.second ≡ false) × IsTold rest.log (kept_of rest))
        → (has_failed (onward r s f fs).state.second ≡ false) × IsTold (onward r s f fs).log (kept_of (onward r s f fs))
    go true k more = absurd (true≢false (sym k))
    go false k more = let p = more k in (p.0, told_right (admits s f).log rest.log (kept_of rest) p.1)

pub by_kept : (events : Result (List Form) (List ℕ)) (s : Working) → (body_by admits ends events s).certified ≡ true
    → (has_failed (body_by admits ends events s).state.second ≡ false) × IsTold (body_by admits ends events s).log (kept_of (body_by admits ends events s))
by_kept (Err text) s h = absurd (true≢false (sym h))
by_kept (Ok fs) s h = worked_kept fs s h

body_kept : (read : BookRead) (s : Working) → (body_of admits ends read s).certified ≡ true
    → (has_failed (body_of admits ends read s).state.second ≡ false) × IsTold (body_of admits ends read s).log (kept_of (body_of admits ends read s))
body_kept read s h = by_kept (events_in read) s h

pub kept_passed : (read : BookRead) (s t : Working) → (body_of admits ends read s).certified ≡ true → (body_of admits ends read s).state ≡ t → has_failed t.second ≡ false
kept_passed read s t good is = subst (λ (u : Working). has_failed u.second ≡ false) is (body_kept read s good).0

pub kept_told : (read : BookRead) (s t : Working) → (body_of admits ends read s).certified ≡ true → (body_of admits ends read s).state ≡ t → IsTold (body_of admits ends read s).log (kept_by t.second t.world)
kept_told read s t good is = subst (λ (u : Working). IsTold (body_of admits ends read s).log (kept_by u.second u.world)) is (body_kept read s good).1

-- The last of some books.

pub last_kept : (bs : Earlier) (b : List ℕ × Shown) (w : Shown) → last_world (bs ++ b ∷ []) w ≡ b.1
last_kept [] b w = refl
last_kept (c ∷ bs) b w = last_kept bs b c.1

-- Behind a book.

left_none : (a : AdmittingSeen) → a.kept ≡ false → left_in a ≡ a.working.world
left_none a e = ap (λ k. left_by k a.working.earlier a.working.world) e

-- one of which nothing is kept
pub led_none : (a b : AdmittingSeen) (told : List Told) → a.working.world ≡ start → a.kept ≡ false → Behind a b told → Led a b told
led_none a b told begun unkept h = record { limits = h.limits; left = go h.world; notes = h.notes }
  where
    left : left_in b ≡ b.working.world
    left = left_none b (h.kept ∙ unkept)

    go : (b.working.world ≡ a.working.world) ⊎ IsTold told b.working.world → (left_in b ≡ left_in a) ⊎ ((left_in b ≡ start) ⊎ IsTold told (left_in b))
    go (inl p) = inr (inl (left ∙ p ∙ begun))
    go (inr t) = inr (inr (subst (IsTold told) (sym left) t))

-- notes as they were before the book's world was kept
notes_on : (a b c : AdmittingSeen) (told : List Told) → Notes a b told → notes_in c ≡ notes_in b → c.workers ≡ b.workers → Notes a c told
notes_on a b c told h n w = record { more = h.more; behind = n ∙ h.behind; divided = h.divided; alone = h.alone; workers = w ∙ h.workers }

-- one whose world is kept
pub led_kept : (a b c : AdmittingSeen) (told : List Told) (v : Shown) → Behind a b told → left_in c ≡ v → IsTold told v → c.working.limits ≡ b.working.limits → notes_in c ≡ notes_in b → c.workers ≡ b.workers → Led a c told
led_kept a b c told v h left is limits notes workers = record {
  limits = limits ∙ h.limits;
  left = inr (inr (subst (IsTold told) (sym left) is));
  notes = notes_on a b c told h.notes notes workers;
}

-- one that was begun
led_from : (a b : AdmittingSeen) (told : List Told) → Led (record a { working = begin a.working.limits a.working.earlier; kept = false }) b told → Led a b told
led_from a b told l = record {
  limits = l.limits;
  left = go l.left;
  notes = record { more = l.notes.more; behind = l.notes.behind; divided = l.notes.divided; alone = l.notes.alone; workers = l.notes.workers };
}
  where
    go : (left_in b ≡ start) ⊎ ((left_in b ≡ start) ⊎ IsTold told (left_in b)) → (left_in b ≡ left_in a) ⊎ ((left_in b ≡ start) ⊎ IsTold told (left_in b))
    go (inl p) = inr (inl p)
    go (inr p) = inr p

pub led_begun : (a c b : AdmittingSeen) (read : BookRead) → c ≡ record a { working = begin a.working.limits a.working.earlier; kept = false }
    → Led c b (body_of admits ends read c.working).log → Led a b (read_body a.working.limits a.working.earlier read).log
led_begun a c b read e h =
    led_from a b (read_body a.working.limits a.working.earlier read).log
    (subst (λ (d : AdmittingSeen). Led d b (body_of admits ends read d.working).log) e h)

-- where no book was begun
pub led_same : (a b : AdmittingSeen) (told : List Told) → b ≡ a → Led a b told
led_same a b told e = record {
  limits = ap (λ (d : AdmittingSeen). d.working.limits) e;
  left = inl (ap left_in e);
  notes = notes_same a b told (ap notes_in e) (ap (λ (d : AdmittingSeen). d.workers) e);
}
