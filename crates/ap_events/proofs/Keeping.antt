-- Nested events keep worlds good, first and again.
use Rattle.std.proofs.Common.{◌≡◌, ℕ, List, [], ◌∷◌, ◌++◌, ◌⊎◌, inl, inr, Option, Some, None, refl, ap, ◌∙◌, sym, subst}
use Rattle.std.proofs.lemmas.Option.{none-some, same_Some}
use Rattle.ap_list.specs.Lists.{Each, AnyOf}
use Rattle.ap_value.specs.declared.symbol.Symbol.{Symbol}
use Rattle.ap_world.specs.declared.entry.Function.{Function}
use Rattle.ap_world.specs.declared.entry.Entry.{Entry}
use Rattle.ap_world.specs.declared.entry.Entry.TheVariants as entry
use Rattle.ap_world.specs.Alike.{SameButMask, DefinesAlike, Covers}
use Rattle.ap_world.specs.Sound.{Sound}
use Rattle.ap_world.specs.World.{Shown, entry_of, as_function, function_of}
use Rattle.ap_world.proofs.Covering.{covers_self, covers_grown, covers_free, covers_defines}
use Rattle.ap_world.proofs.Included.{entry_function}
use Rattle.ap_world.proofs.Knowing.{each_same}
use Rattle.ap_reader.specs.declared.form.Form.{Form}
use Rattle.ap_plain.specs.Ends.{Told, passed, walked, Done, worlds_in}
use Rattle.ap_plain.specs.Laws.{GoodWorld}
use Rattle.ap_plain.proofs.Telling.{of_told}
use Rattle.ap_events.specs.Backing.{Fits, CoversAdded, Backed}
use Rattle.ap_events.specs.Nested.{nothing, joined, all, second_by, closing_by, Leaf, too_deep, agains, firsts}
use Rattle.ap_events.proofs.Nestings.{LeavesCover, worlds_joined, all_grows, all_meet, do_grows, do_covers}
use Rattle.ap_events.proofs.Steps.{all_none, all_some, agains_by, firsts_by, Step, no_step, stay_step, all_step}

worlds_left : (P : Shown → Type 0) (ts us : List Told) → Each P (worlds_in (ts ++ us)) → Each P (worlds_in ts)
worlds_left P [] us ps = tt
worlds_left P (passed w ∷ ts) us ps = (ps.0, worlds_left P ts us ps.1)
worlds_left P (walked a ∷ ts) us ps = worlds_left P ts us ps

worlds_right : (P : Shown → Type 0) (ts us : List Told) → Each P (worlds_in (ts ++ us)) → Each P (worlds_in us)
worlds_right P [] us ps = ps
worlds_right P (passed w ∷ ts) us ps = worlds_right P ts us ps.1
worlds_right P (walked a ∷ ts) us ps = worlds_right P ts us ps

-- What backs a world and what is made from it backs the next one.

-- a step covers the world before it
pub step_covers : (d : Done) (w x : Shown) → Step d w → d.next ≡ Some x → Covers w.entries x.entries
step_covers d w x step is = let p = step.grows x is in subst (Covers w.entries) (sym p.1) (covers_grown w.entries p.0)

-- a function is defined alike
abbrev IsAlike : List Entry → Symbol → Function → Type 0
IsAlike U f g = (j : Function) × (function_of U f ≡ Some j) × (g.formals ≡ j.formals) × (g.body ≡ j.body)

alike_next : (W V U : List Entry) → Covers W V → DefinesAlike (function_of W) (function_of U) → CoversAdded W V U → DefinesAlike (function_of V) (function_of U)
alike_next W V U grown before made f g h = go (entry_of W f) refl
  where
    here : entry_of V f ≡ Some (entry.Function g)
    here = entry_function V f g h

    new : (z : Entry) → entry_of U f ≡ Some z → SameButMask (entry.Function g) z → IsAlike U f g
    new (entry.Function j) e s = (j, ap as_function e, s.formals, s.body)
    new (entry.Theorem u) e s = absurd (cc s)
    new (entry.Constant c v) e s = absurd (cc s)

    old : (y : Entry) → entry_of W f ≡ Some y → SameButMask y (entry.Function g) → IsAlike U f g
    old (entry.Function k) e s = let (j, i, a, b) = before f k (ap as_function e) in (j, i, sym s.formals ∙ a, sym s.body ∙ b)
    old (entry.Theorem u) e s = absurd (cc s)
    old (entry.Constant c v) e s = absurd (cc s)

    go : (o : Option Entry) → entry_of W f ≡ o → IsAlike U f g
    go None e = let (z, d, s) = made f (entry.Function g) e here in new z d s
    go (Some y) e =
        let (z, d, s) = grown f y e in
        old y e (subst (SameButMask y) (same_Some z (entry.Function g) (sym d ∙ here)) s)

added_next : (W V X U : List Entry) → Covers W V → CoversAdded W X U → CoversAdded V X U
added_next W V X U grown made n y free there = made n y (covers_free W V grown n free) there

pub backed_first : (d e : Done) (w : Shown) (U : List Entry) → Backed (joined d e) w U → Backed d w U
backed_first d e w U b = record { sound = b.sound; before = b.before; made = worlds_left (λ v. CoversAdded w.entries v.entries U) d.told e.told b.made }

pub backed_next : (d e : Done) (w x : Shown) (U : List Entry) → Backed (joined d e) w U → Step d w → d.next ≡ Some x → Backed e x U
backed_next d e w x U b step is = record {
  sound = b.sound;
  before = go (step.tells x is);
  made = each_same (worlds_in e.told) (λ v k. added_next w.entries x.entries v.entries U grown k) (worlds_right (λ v. CoversAdded w.entries v.entries U) d.told e.told b.made);
}
  where
    grown : Covers w.entries x.entries
    grown = step_covers d w x step is

    go : (w ≡ x) ⊎ AnyOf (λ u. u ≡ x) (worlds_in d.told) → DefinesAlike (function_of x.entries) (function_of U)
    go (inl same) = subst (λ (v : Shown). DefinesAlike (function_of v.entries) (function_of U)) same b.before
    go (inr t) =
        alike_next w.entries x.entries U grown b.before
        (of_told (λ v. CoversAdded w.entries v.entries U) (worlds_in d.told) x (worlds_left (λ v. CoversAdded w.entries v.entries U) d.told e.told b.made) t)

-- where what is made is covered by a sound world that covers the world before
pub backed_by : (d : Done) (w : Shown) (U : List Entry) → Sound U → Covers w.entries U → Fits d U → Backed d w U
backed_by d w U sound covered fits = record {
  sound = sound;
  before = covers_defines w.entries U covered;
  made = each_same (worlds_in d.told) (λ v k n y free there. k n y there) fits.on_the_way;
}

-- Events one after another.

pub all_backed_first : (g : Leaf) (f : Form) (fs : List Form) (w : Shown) (U : List Entry) → Backed (all g (f ∷ fs) w) w U → Backed (g f w) w U
all_backed_first g f fs w U b = go (g f w).next refl
  where
    go : (o : Option Shown) → (g f w).next ≡ o → Backed (g f w) w U
    go None e = subst (λ d. Backed d w U) (all_none g f fs w e) b
    go (Some x) e = backed_first (g f w) (all g fs x) w U (subst (λ d. Backed d w U) (all_some g f fs w x e) b)

pub all_backed_next : (g : Leaf) (f : Form) (fs : List Form) (w x : Shown) (U : List Entry) → Backed (all g (f ∷ fs) w) w U → Step (g f w) w → (g f w).next ≡ Some x → Backed (all g fs x) x U
all_backed_next g f fs w x U b step is = backed_next (g f w) (all g fs x) w x U (subst (λ d. Backed d w U) (all_some g f fs w x is) b) step is

-- The worlds of what is done are good.

pub record AllGood (d : Done) : Type 0 where
  pub on_the_way : Each GoodWorld (worlds_in d.told)
  pub last : (v : Shown) → d.next ≡ Some v → GoodWorld v

pub none_good : (d : Done) → d.next ≡ None → Each GoodWorld (worlds_in d.told) → AllGood d
none_good d e told = record { on_the_way = told; last = λ v h. absurd (none-some v (sym e ∙ h)) }

stay_good : (w : Shown) → GoodWorld w → AllGood (nothing w)
stay_good w good = record { on_the_way = tt; last = λ v h. subst GoodWorld (same_Some w v h) good }

joined_good : (d e : Done) → AllGood d → AllGood e → AllGood (joined d e)
joined_good d e first others = record { on_the_way = worlds_joined GoodWorld d.told e.told first.on_the_way others.on_the_way; last = others.last }

-- what is done first, and what is done again: a step, that keeps worlds good, where it is backed
pub record Worked (d : Done) (w : Shown) : Type 0 where
  pub step : Step d w
  pub good : GoodWorld w → AllGood d

pub record Redone (d : Done) (w : Shown) : Type 0 where
  pub step : Step d w
  pub good : (U : List Entry) → GoodWorld w → Backed d w U → AllGood d

pub no_work : (d : Done) (w : Shown) → d.next ≡ None → Each GoodWorld (worlds_in d.told) → Worked d w
no_work d w e told = record { step = no_step d w e; good = λ good. none_good d e told }

pub needs_none : (d : Done) (w : Shown) → Worked d w → Redone d w
needs_none d w work = record { step = work.step; good = λ U good b. work.good good }

pub all_goods : (g : Leaf) → ((f : Form) (w : Shown) → GoodWorld w → AllGood (g f w)) → (fs : List Form) (w : Shown) → GoodWorld w → AllGood (all g fs w)
all_goods g goods [] w good = stay_good w good
all_goods g goods (f ∷ fs) w good = go (g f w).next refl (all_goods g goods fs)
  where
    go : (o : Option Shown) → (g f w).next ≡ o → ((x : Shown) → GoodWorld x → AllGood (all g fs x)) → AllGood (all g (f ∷ fs) w)
    go None e h = subst AllGood (sym (all_none g f fs w e)) (goods f w good)
    go (Some x) e h =
        let here = goods f w good in
        subst AllGood (sym (all_some g f fs w x e)) (joined_good (g f w) (all g fs x) here (h x (here.last x e)))

stay_redone : (w : Shown) → Redone (nothing w) w
stay_redone w = record { step = stay_step w; good = λ U good b. stay_good w good }

pub all_redone : (g : Leaf) → ((f : Form) (w : Shown) → Redone (g f w) w) → (fs : List Form) (w : Shown) → Redone (all g fs w) w
all_redone g redo fs w = record { step = all_step g (λ f v. (redo f v).step) fs w; good = goods fs w }
  where
    goods : (fs : List Form) (w : Shown) (U : List Entry) → GoodWorld w → Backed (all g fs w) w U → AllGood (all g fs w)
    goods [] w U good b = stay_good w good
    goods (f ∷ fs) w U good b = go (g f w).next refl (λ x good c. goods fs x U good c)
      where
        here : AllGood (g f w)
        here = (redo f w).good U good (all_backed_first g f fs w U b)

        go : (o : Option Shown) → (g f w).next ≡ o → ((x : Shown) → GoodWorld x → Backed (all g fs x) x U → AllGood (all g fs x)) → AllGood (all g (f ∷ fs) w)
        go None e h = subst AllGood (sym (all_none g f fs w e)) here
        go (Some x) e h =
            subst AllGood (sym (all_some g f fs w x e))
            (joined_good (g f w) (all g fs x) here (h x (here.last x e) (all_backed_next g f fs w x U b (redo f w).step e)))

pub agains_redone : (again : Leaf) → ((f : Form) (w : Shown) → Redone (again f w) w) → (n : ℕ) (f : Form) (w : Shown) → Redone (agains again n f w) w
agains_redone again redo =
    agains_by again Redone (λ f w. needs_none (too_deep f) w (no_work (too_deep f) w refl tt)) redo stay_redone all_redone

-- A second pass: what it makes is backed by the world that the first one left.

second_good : (e : Done) → AllGood e → AllGood (second_by e e.next)
second_good e good = go e.next refl
  where
    go : (o : Option Shown) → e.next ≡ o → AllGood (second_by e o)
    go None is = none_good (second_by e None) refl tt
    go (Some v) is = record { on_the_way = (good.last v is, tt); last = λ x h. subst GoodWorld (same_Some v x h) (good.last v is) }

module _ (first again : Leaf) (cover : LeavesCover first again) where
  pub second_backed : (n : ℕ) (fs : List Form) (w v : Shown) → Sound v.entries → (all (firsts first again n) fs w).next ≡ Some v → Backed (all (agains again n) fs w) w v.entries
  second_backed n fs w v sound is =
      backed_by (all (agains again n) fs w) w v.entries sound (all_grows (firsts first again n) (do_grows first again cover n) fs w v is)
      (all_meet (firsts first again n) (agains again n) (do_grows first again cover n) (do_covers first again cover n) fs w w v (covers_self w.entries) is)

  module _ (work : (f : Form) (w : Shown) → GoodWorld w → AllGood (first f w)) (redo : (f : Form) (w : Shown) → Redone (again f w) w) where
    closing_good : (n : ℕ) (fs : List Form) (w : Shown) → AllGood (all (firsts first again n) fs w) → GoodWorld w
        → AllGood (closing_by (all (firsts first again n) fs w) (all (firsts first again n) fs w).next (all (agains again n) fs w))
    closing_good n fs w before good = go (all (firsts first again n) fs w).next refl
      where
        go : (o : Option Shown) → (all (firsts first again n) fs w).next ≡ o → AllGood (closing_by (all (firsts first again n) fs w) o (all (agains again n) fs w))
        go None is = before
        go (Some v) is =
            joined_good (all (firsts first again n) fs w) (second_by (all (agains again n) fs w) (all (agains again n) fs w).next) before
            (second_good (all (agains again n) fs w)
            ((all_redone (agains again n) (agains_redone again redo n) fs w).good v.entries good (second_backed n fs w v (before.last v is).sound is)))

    pub firsts_good : (n : ℕ) (f : Form) (w : Shown) → GoodWorld w → AllGood (firsts first again n f w)
    firsts_good =
        firsts_by first again (λ d w. GoodWorld w → AllGood d) (λ f w good. none_good (too_deep f) refl tt) work all_goods
        (λ n fs w h good. closing_good n fs w (h good) good)
