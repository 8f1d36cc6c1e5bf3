-- What a second pass makes is covered by what the first pass made, however events are nested.
use Rattle.std.proofs.Common.{◌≡◌, ℕ, zero, suc, List, [], ◌∷◌, ◌++◌, Option, Some, None, refl, ◌∙◌, sym, subst}
use Rattle.ap_list.specs.Lists.{Each}
use Rattle.ap_world.specs.World.{Shown}
use Rattle.ap_world.proofs.Knowing.{each_same}
use Rattle.ap_reader.specs.declared.form.Form.{Form}
use Rattle.ap_world.specs.Alike.{Covers}
use Rattle.ap_world.proofs.Covering.{covers_self, covers_through}
use Rattle.ap_plain.specs.Ends.{Told, passed, walked, Done, worlds_in}
use Rattle.ap_events.specs.Nested.{Nesting, plain, hidden, group, closed, nesting_of, nothing, joined, then_by, all, second_by, closing_by, Leaf, too_deep, again_in, agains, first_in, firsts}
use Rattle.ap_events.specs.Backing.{Fits}

-- a world grows by single events; and what is made again is covered by what was made first, or again, where what was
-- there is covered by what was there then
pub record LeavesCover (first again : Leaf) : Type 0 where
  pub first_grows : (f : Form) (u v : Shown) → (first f u).next ≡ Some v → Covers u.entries v.entries
  pub again_grows : (f : Form) (u v : Shown) → (again f u).next ≡ Some v → Covers u.entries v.entries
  pub first_covers : (f : Form) (u v w : Shown) → Covers v.entries u.entries → (first f u).next ≡ Some w → Fits (again f v) w.entries
  pub again_covers : (f : Form) (u v w : Shown) → Covers v.entries u.entries → (again f u).next ≡ Some w → Fits (again f v) w.entries

-- one world covers another
abbrev pub Under : Shown → Shown → Type 0
Under v u = Covers v.entries u.entries

self : (w : Shown) → Under w w
self w = covers_self w.entries

through : (u v w : Shown) → Under u v → Under v w → Under u w
through u v w = covers_through u.entries v.entries w.entries

pub worlds_joined : (P : Shown → Type 0) (ts us : List Told) → Each P (worlds_in ts) → Each P (worlds_in us) → Each P (worlds_in (ts ++ us))
worlds_joined P [] us ps qs = qs
worlds_joined P (passed w ∷ ts) us ps qs = (ps.0, worlds_joined P ts us ps.1 qs)
worlds_joined P (walked a ∷ ts) us ps qs = worlds_joined P ts us ps qs

-- what fits a world fits each one that covers it
fits_on : (d : Done) (u w : Shown) → Fits d u.entries → Under u w → Fits d w.entries
fits_on d u w fits more = record {
  on_the_way = each_same (worlds_in d.told) (λ v k. through v u w k more) fits.on_the_way;
  last = λ v k. through v u w (fits.last v k) more;
}

fits_joined : (d e : Done) (w : Shown) → Fits d w.entries → Fits e w.entries → Fits (joined d e) w.entries
fits_joined d e w x y = record {
  on_the_way = worlds_joined (λ v. Under v w) d.told e.told x.on_the_way y.on_the_way;
  last = y.last;
}

stays : (v w : Shown) → Under v w → Fits (nothing v) w.entries
stays v w c = record { on_the_way = tt; last = λ x q. let is : v ≡ x = cc in subst (λ y. Under y w) is c }

-- events one after another
abbrev pub Grows : (Form → Shown → Done) → Type 0
Grows g = (f : Form) (u v : Shown) → (g f u).next ≡ Some v → Under u v

abbrev pub Meets : (Form → Shown → Done) → (Form → Shown → Done) → Type 0
Meets g h = (f : Form) (u v w : Shown) → Under v u → (g f u).next ≡ Some w → Fits (h f v) w.entries

pub all_grows : (g : Form → Shown → Done) → Grows g → (fs : List Form) (u w : Shown) → (all g fs u).next ≡ Some w → Under u w
all_grows g grows [] u w h = let same : u ≡ w = cc in subst (Under u) same (self u)
all_grows g grows (f ∷ fs) u w h = go (g f u).next refl h (λ v k. all_grows g grows fs v w k)
  where
    go : (o : Option Shown) → (g f u).next ≡ o → (then_by (g f u) o (all g fs)).next ≡ Some w → ((v : Shown) → (all g fs v).next ≡ Some w → Under v w) → Under u w
    go None e k r = absurd (no (sym e ∙ k))
      where
        no : None ≡ Some w → ⊥
        no q = cc
    go (Some v) e k r = through u v w (grows f u v e) (r v k)

pub all_meet : (g h : Form → Shown → Done) → Grows g → Meets g h → (fs : List Form) (u v w : Shown) → Under v u → (all g fs u).next ≡ Some w → Fits (all h fs v) w.entries
all_meet g h grows meets [] u v w c k = let same : u ≡ w = cc in stays v w (subst (Under v) same c)
all_meet g h grows meets (f ∷ fs) u v w c k = go (g f u).next refl k (λ x y d q. all_meet g h grows meets fs x y w d q)
  where
    onward : (x : Shown) → (g f u).next ≡ Some x → Under x w → ((y : Shown) → Under y x → Fits (all h fs y) w.entries) → (o : Option Shown) → (h f v).next ≡ o
        → Fits (then_by (h f v) o (all h fs)) w.entries
    onward x e more r None q = fits_on (h f v) x w (meets f u v x c e) more
    onward x e more r (Some y) q =
        let here = meets f u v x c e in
        fits_joined (h f v) (all h fs y) w (fits_on (h f v) x w here more) (r y (here.last y q))

    go : (o : Option Shown) → (g f u).next ≡ o → (then_by (g f u) o (all g fs)).next ≡ Some w
        → ((x y : Shown) → Under y x → (all g fs x).next ≡ Some w → Fits (all h fs y) w.entries) → Fits (then_by (h f v) (h f v).next (all h fs)) w.entries
    go None e q r = absurd (no (sym e ∙ q))
      where
        no : None ≡ Some w → ⊥
        no p = cc
    go (Some x) e q r = onward x e (all_grows g grows fs x w q) (λ y d. r x y d q) (h f v).next refl

-- where a second pass gives a world it is that of its events
pub closed_next : (d : Done) (o : Option Shown) (e : Done) (w : Shown) → d.next ≡ o → (closing_by d o e).next ≡ Some w → e.next ≡ Some w
closed_next d None e w is h = absurd (no (sym is ∙ h))
  where
    no : None ≡ Some w → ⊥
    no q = cc
closed_next d (Some v) e w is h = go e.next refl h
  where
    go : (o : Option Shown) → e.next ≡ o → (second_by e o).next ≡ Some w → e.next ≡ Some w
    go None q k = absurd (no k)
      where
        no : None ≡ Some w → ⊥
        no r = cc
    go (Some x) q k = q ∙ k

module _ (first again : Leaf) (cover : LeavesCover first again) where
  abbrev redo : ℕ → Form → Shown → Done
  redo = agains again

  abbrev work : ℕ → Form → Shown → Done
  work = firsts first again

  never : {A : Type 0} (f : Form) (w : Shown) → (too_deep f).next ≡ Some w → A
  never f w h = absurd (no h)
    where
      no : None ≡ Some w → ⊥
      no q = cc

  pub redo_grows : (n : ℕ) → Grows (redo n)
  unfolding agains
  redo_grows zero f u w h = never f w h
  redo_grows (suc n) f u w h = by_nesting (nesting_of f) h (redo_grows n)
    where
      by_nesting : (k : Nesting) → (again_in again (redo n) f u k).next ≡ Some w → Grows (redo n) → Under u w
      by_nesting plain q r = cover.again_grows f u w q
      by_nesting (hidden g) q r = let same : u ≡ w = cc in subst (Under u) same (self u)
      by_nesting (group fs) q r = all_grows (redo n) r fs u w q
      by_nesting (closed fs) q r = all_grows (redo n) r fs u w q

  pub do_grows : (n : ℕ) → Grows (work n)
  unfolding firsts
  do_grows zero f u w h = never f w h
  do_grows (suc n) f u w h = by_nesting (nesting_of f) h (do_grows n)
    where
      by_nesting : (k : Nesting) → (first_in first (work n) (redo n) f u k).next ≡ Some w → Grows (work n) → Under u w
      by_nesting plain q r = cover.first_grows f u w q
      by_nesting (hidden g) q r = r g u w q
      by_nesting (group fs) q r = all_grows (work n) r fs u w q
      by_nesting (closed fs) q r = all_grows (redo n) (redo_grows n) fs u w (closed_next (all (work n) fs u) (all (work n) fs u).next (all (redo n) fs u) w refl q)

  pub redo_covers : (n : ℕ) → Meets (redo n) (redo n)
  unfolding agains
  redo_covers zero f u v w c h = never f w h
  redo_covers (suc n) f u v w c h = by_nesting (nesting_of f) h (redo_covers n)
    where
      by_nesting : (k : Nesting) → (again_in again (redo n) f u k).next ≡ Some w → Meets (redo n) (redo n) → Fits (again_in again (redo n) f v k) w.entries
      by_nesting plain q r = cover.again_covers f u v w c q
      by_nesting (hidden g) q r = let same : u ≡ w = cc in stays v w (subst (Under v) same c)
      by_nesting (group fs) q r = all_meet (redo n) (redo n) (redo_grows n) r fs u v w c q
      by_nesting (closed fs) q r = all_meet (redo n) (redo n) (redo_grows n) r fs u v w c q

  pub do_covers : (n : ℕ) → Meets (work n) (redo n)
  unfolding agains firsts
  do_covers zero f u v w c h = never f w h
  do_covers (suc n) f u v w c h = by_nesting (nesting_of f) h (do_covers n)
    where
      by_nesting : (k : Nesting) → (first_in first (work n) (redo n) f u k).next ≡ Some w → Meets (work n) (redo n) → Fits (again_in again (redo n) f v k) w.entries
      by_nesting plain q r = cover.first_covers f u v w c q
      by_nesting (hidden g) q r = stays v w (through v u w c (do_grows n g u w q))
      by_nesting (group fs) q r = all_meet (work n) (redo n) (do_grows n) r fs u v w c q
      by_nesting (closed fs) q r = all_meet (redo n) (redo n) (redo_grows n) (redo_covers n) fs u v w c
          (closed_next (all (work n) fs u) (all (work n) fs u).next (all (redo n) fs u) w refl q)
