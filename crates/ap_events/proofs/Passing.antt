-- What is admitted first, and refused when it is done again, misses a name that isn't there, however events are nested.
use Rattle.std.proofs.Common.{◌≡◌, ℕ, zero, suc, List, [], ◌∷◌, ◌++◌, Option, Some, None, refl, ap, ◌∙◌, sym, subst}
use Rattle.ap_world.specs.declared.entry.Entry.{Entry}
use Rattle.ap_world.specs.World.{Shown, entry_of}
use Rattle.ap_world.proofs.Covering.{covers_self, covers_free}
use Rattle.ap_world.proofs.Knowing.{each_same}
use Rattle.ap_reader.specs.declared.form.Form.{Form}
use Rattle.ap_plain.specs.Ends.{Done, worlds_in}
use Rattle.ap_events.specs.Backing.{Fits}
use Rattle.ap_events.specs.Missing.{MissesName}
use Rattle.ap_events.specs.Nested.{Nesting, plain, hidden, group, closed, nesting_of, joined, all, Leaf, again_in, agains, first_in, firsts}
use Rattle.ap_events.proofs.Lacking.{there_on}
use Rattle.ap_events.proofs.Nestings.{LeavesCover, Under, Grows, Meets, worlds_joined, all_grows, closed_next, redo_grows, redo_covers, do_grows, do_covers}
use Rattle.ap_events.proofs.Steps.{all_none, all_some, all_next, agains_by}

-- what is admitted first and refused again misses a name, and what is admitted prints nothing
abbrev pub Loses : Leaf → Leaf → Type 0
Loses g h = (f : Form) (u v w : Shown) → Under v u → (g f u).next ≡ Some w → (h f v).next ≡ None → MissesName (h f v) v w.entries

abbrev pub IsQuiet : Leaf → Type 0
IsQuiet h = (f : Form) (v w : Shown) → (h f v).next ≡ Some w → (h f v).text ≡ []

pub record LeavesMiss (first again : Leaf) : Type 0 where
  pub first_misses : Loses first again
  pub again_misses : Loses again again
  pub quiet : IsQuiet again

some_next : {A : Type 0} (w : Shown) → Some w ≡ None → A
some_next w h = absurd (cc h)

none_next : {A : Type 0} (w : Shown) → None ≡ Some w → A
none_next w h = absurd (cc h)

-- in a world that grew
misses_on : (d : Done) (v u w : Shown) → Under u w → MissesName d v u.entries → MissesName d v w.entries
misses_on d v u w grown m = record { title = m.title; text = m.text; name = m.name; there = there_on u.entries w.entries grown m.name m.there; gone = m.gone }

-- what fits the world that it leaves, and what is done from there
misses_joined : (d e : Done) (v y : Shown) (U : List Entry) → d.text ≡ [] → Under v y → Fits d y.entries → MissesName e y U → MissesName (joined d e) v U
misses_joined d e v y U quiet grown fits m = record {
  title = m.title;
  text = ap (λ t. t ++ e.text) quiet ∙ m.text;
  name = m.name;
  there = m.there;
  gone = (lacking v grown, worlds_joined Lacking d.told e.told (each_same (worlds_in d.told) lacking fits.on_the_way) m.gone.1);
}
  where
    Lacking : Shown → Type 0
    Lacking x = entry_of x.entries m.name ≡ None

    lacking : (x : Shown) → Under x y → entry_of x.entries m.name ≡ None
    lacking x c = covers_free x.entries y.entries c m.name m.gone.0

-- events one after another
all_quiet : (h : Leaf) → IsQuiet h → (fs : List Form) (v w : Shown) → (all h fs v).next ≡ Some w → (all h fs v).text ≡ []
all_quiet h quiet [] v w q = refl
all_quiet h quiet (f ∷ fs) v w q =
    let (x, e, r) = all_next h f fs v w q in
    ap (λ (d : Done). d.text) (all_some h f fs v x e) ∙ ap (λ t. t ++ (all h fs x).text) (quiet f v x e) ∙ all_quiet h quiet fs x w r

-- g does events first, and h again
module _ (g h : Leaf) (grows : Grows g) (more : Grows h) (meets : Meets g h) (self : Meets h h) (quiet : IsQuiet h) (loses : Loses g h) where
  all_lose : (fs : List Form) (u v w : Shown) → Under v u → (all g fs u).next ≡ Some w → (all h fs v).next ≡ None → MissesName (all h fs v) v w.entries
  all_lose [] u v w c k n = some_next v n
  all_lose (f ∷ fs) u v w c k n =
      let (x, e, r) = all_next g f fs u w k in
      go x e r (h f v).next refl (λ y d q. all_lose fs x y w d r q)
    where
      go : (x : Shown) → (g f u).next ≡ Some x → (all g fs x).next ≡ Some w → (o : Option Shown) → (h f v).next ≡ o
          → ((y : Shown) → Under y x → (all h fs y).next ≡ None → MissesName (all h fs y) y w.entries) → MissesName (all h (f ∷ fs) v) v w.entries
      go x e r None q rest = subst (λ d. MissesName d v w.entries) (sym (all_none h f fs v q)) (misses_on (h f v) v x w (all_grows g grows fs x w r) (loses f u v x c e q))
      go x e r (Some y) q rest =
          let is : all h (f ∷ fs) v ≡ joined (h f v) (all h fs y) = all_some h f fs v y q in
          subst (λ d. MissesName d v w.entries) (sym is)
          (misses_joined (h f v) (all h fs y) v y w.entries (quiet f v y q) (more f v y q) (self f v v y (covers_self v.entries) q)
          (rest y ((meets f u v x c e).last y q) (sym (ap (λ (d : Done). d.next) is) ∙ n)))

-- however they are nested
module _ (first again : Leaf) (cover : LeavesCover first again) (miss : LeavesMiss first again) where
  abbrev redo : ℕ → Leaf
  redo = agains again

  abbrev work : ℕ → Leaf
  work = firsts first again

  redo_quiet : (n : ℕ) → IsQuiet (redo n)
  redo_quiet n f w = agains_by again (λ d x. (v : Shown) → d.next ≡ Some v → d.text ≡ []) (λ f x v k. none_next v k) miss.quiet (λ x v k. refl) (λ h q. all_quiet h q) n f w

  all_again : (n : ℕ) → Loses (redo n) (redo n) → (fs : List Form) (u v w : Shown) → Under v u → (all (redo n) fs u).next ≡ Some w → (all (redo n) fs v).next ≡ None → MissesName (all (redo n) fs v) v w.entries
  all_again n loses = all_lose (redo n) (redo n) (redo_grows first again cover n) (redo_grows first again cover n) (redo_covers first again cover n) (redo_covers first again cover n) (redo_quiet n) loses

  redo_loses : (n : ℕ) → Loses (redo n) (redo n)
  unfolding agains
  redo_loses zero f u v w c k n = none_next w k
  redo_loses (suc m) f u v w c k n = by_nesting (nesting_of f) k n (redo_loses m)
    where
      by_nesting : (x : Nesting) → (again_in again (redo m) f u x).next ≡ Some w → (again_in again (redo m) f v x).next ≡ None → Loses (redo m) (redo m) → MissesName (again_in again (redo m) f v x) v w.entries
      by_nesting plain q r l = miss.again_misses f u v w c q r
      by_nesting (hidden g) q r l = some_next v r
      by_nesting (group fs) q r l = all_again m l fs u v w c q r
      by_nesting (closed fs) q r l = all_again m l fs u v w c q r

  pub do_loses : (n : ℕ) → Loses (work n) (redo n)
  unfolding agains firsts
  do_loses zero f u v w c k n = none_next w k
  do_loses (suc m) f u v w c k n = by_nesting (nesting_of f) k n (do_loses m)
    where
      by_nesting : (x : Nesting) → (first_in first (work m) (redo m) f u x).next ≡ Some w → (again_in again (redo m) f v x).next ≡ None → Loses (work m) (redo m) → MissesName (again_in again (redo m) f v x) v w.entries
      by_nesting plain q r l = miss.first_misses f u v w c q r
      by_nesting (hidden g) q r l = some_next v r
      by_nesting (group fs) q r l =
          all_lose (work m) (redo m) (do_grows first again cover m) (redo_grows first again cover m) (do_covers first again cover m) (redo_covers first again cover m) (redo_quiet m) l fs u v w c q r
      by_nesting (closed fs) q r l =
          all_again m (redo_loses m) fs u v w c (closed_next (all (work m) fs u) (all (work m) fs u).next (all (redo m) fs u) w refl q) r
