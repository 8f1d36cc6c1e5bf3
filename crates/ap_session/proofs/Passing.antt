-- The two passes of an event: the second one is backed by the first one's world.
use Rattle.std.proofs.Common.{◌≡◌, ◌∙◌, ◌⊎◌, ℕ, Bool, true, false, cond, not, List, Option, Some, None, refl, ap, sym, subst, inl, inr}
use Rattle.std.proofs.lemmas.Option.{none-some, same_Some}
use Rattle.ap_list.specs.Lists.{Each}
use Rattle.ap_world.specs.declared.entry.Entry.{Entry}
use Rattle.ap_world.specs.Alike.{Covers}
use Rattle.ap_world.specs.Sound.{Sound, HasFunctions}
use Rattle.ap_world.specs.World.{Shown, function_of, are_distinct}
use Rattle.ap_world.proofs.Covering.{covers_self, covers_through, covers_grown}
use Rattle.ap_reader.specs.declared.form.Form.{Form}
use Rattle.ap_plain.specs.declared.limits.Limits.{Limits}
use Rattle.ap_plain.specs.Ends.{Done}
use Rattle.ap_events.specs.Again.{AgainIsCovered}
use Rattle.ap_events.specs.Backing.{Fits, Backed}
use Rattle.ap_events.specs.Books.{Earlier, worked, worked_again}
use Rattle.ap_events.specs.Laws.{WorkedGrows, WorkedTells}
use Rattle.ap_events.proofs.Keeping.{backed_by}
use Rattle.ap_session.specs.declared.second.Second.{Second}
use Rattle.ap_session.specs.declared.second.Second.TheVariants.{SoFar, Failed}
use Rattle.ap_session.specs.Admitting.{IsTold}
use Rattle.ap_session.specs.Working.{Working, start, working_in, second_by, second_after, after, is_refused, admits, Leaves, world_of, has_failed, IfSoFar, Stands}
use Rattle.ap_session.proofs.Starting.{start_has}

-- of a second pass
pub so_far_same : (P : Shown → Type 0) (p : Second) (w : Shown) → world_of p ≡ Some w → IfSoFar P p → P w
so_far_same P (SoFar v) w e h = subst P (same_Some v w e) h
so_far_same P (Failed text) w e h = absurd (none-some w e)

pub failed_none : (p : Second) → has_failed p ≡ false → world_of p ≡ None → {A : Type 0} → A
failed_none (SoFar v) h e = absurd (none-some v (sym e))
failed_none (Failed text) h e = absurd (cc h)

-- an event that is done again, by what it left
pub second_left : (d : Done) (w : Shown) → d.next ≡ Some w → SoFar w ≡ second_by d.text d.next
second_left d w e = sym (ap (second_by d.text) e)

pub second_refused : (d : Done) (text : List ℕ) → d.next ≡ None → d.text ≡ text → Failed text ≡ second_by d.text d.next
second_refused d text e same = sym (ap (second_by d.text) e ∙ ap (λ t. Failed t) same)

pub leaves_by : (d : Done) (text : List ℕ) (admitted : Bool) (w : Shown) → text ≡ d.text → d.next ≡ cond admitted (Some w) None → Leaves d w (cond admitted None (Some text))
leaves_by d text true w same next = next
leaves_by d text false w same next = (next, sym same)

-- a book that begins
pub start_stands : (limits : Limits) (earlier : Earlier) (w v : Shown) → w ≡ start → v ≡ start → Each (λ p. are_distinct p.1.entries ≡ true) earlier → Stands (working_in limits earlier w (SoFar v))
start_stands limits earlier w v e d distinct = record {
  functions = start_has w e;
  again = start_has v d;
  covered = subst (λ (x : Shown). Covers v.entries x.entries) (d ∙ sym e) (covers_self v.entries);
  distinct = distinct;
}

module _ (grows : WorkedGrows) (covers : AgainIsCovered) (s : Working) (f : Form) (w : Shown) (stands : Stands s) (is : (worked s.limits s.earlier s.world f).next ≡ Some w) where
  grown : Covers s.world.entries w.entries
  grown =
      let p = (grows s.limits s.earlier s.world f).0 w is in
      subst (Covers s.world.entries) (sym p.1) (covers_grown s.world.entries p.0)

  fits : (v : Shown) → Covers v.entries s.world.entries → Fits (worked_again s.earlier v f) w.entries
  fits v c = covers s.limits s.earlier stands.distinct f s.world v w c is

  -- the world of the first pass backs the second one
  pub next_backs : Sound w.entries → IfSoFar (λ v. (U : List Entry) × Backed (worked_again s.earlier v f) v U) s.second
  next_backs sound = go s.second stands.covered
    where
      go : (p : Second) → IfSoFar (λ v. Covers v.entries s.world.entries) p → IfSoFar (λ v. (U : List Entry) × Backed (worked_again s.earlier v f) v U) p
      go (SoFar v) c = (w.entries, backed_by (worked_again s.earlier v f) v w.entries sound (covers_through v.entries s.world.entries w.entries c grown) (fits v c))
      go (Failed text) c = tt

  -- it covers the second one's before, and after
  pub next_covers : IfSoFar (λ v. Covers v.entries w.entries) s.second
  next_covers = go s.second stands.covered
    where
      go : (p : Second) → IfSoFar (λ v. Covers v.entries s.world.entries) p → IfSoFar (λ v. Covers v.entries w.entries) p
      go (SoFar v) c = covers_through v.entries s.world.entries w.entries c grown
      go (Failed text) c = tt

  pub both_cover : IfSoFar (λ v. Covers v.entries w.entries) (second_after s.earlier f s.second)
  both_cover = go s.second stands.covered
    where
      by_next : (v : Shown) → Fits (worked_again s.earlier v f) w.entries → (o : Option Shown) → (worked_again s.earlier v f).next ≡ o
          → IfSoFar (λ u. Covers u.entries w.entries) (second_by (worked_again s.earlier v f).text o)
      by_next v fit None e = tt
      by_next v fit (Some u) e = fit.last u e

      go : (p : Second) → IfSoFar (λ v. Covers v.entries s.world.entries) p → IfSoFar (λ v. Covers v.entries w.entries) (second_after s.earlier f p)
      go (SoFar v) c = by_next v (fits v c) (worked_again s.earlier v f).next refl
      go (Failed text) c = tt

-- An event, by what its call answered: whether it is admitted, and the world w that it left.

abbrev Left : Working → Form → Bool → Shown → Type 0
Left s f admitted w = ((worked s.limits s.earlier s.world f).next ≡ cond admitted (Some w) None) × (admitted ≡ false → w ≡ s.world)

pub passes_back : WorkedGrows → AgainIsCovered → (s : Working) (f : Form) (admitted : Bool) (w : Shown) → Stands s → (worked s.limits s.earlier s.world f).next ≡ cond admitted (Some w) None → Sound w.entries
    → admitted ≡ true → IfSoFar (λ v. (U : List Entry) × Backed (worked_again s.earlier v f) v U) s.second
passes_back grows covers s f admitted w stands next sound is =
    next_backs grows covers s f w stands (next ∙ ap (λ b. cond b (Some w) None) is) sound

-- where memory was wanting for the second pass
pub cut_stands : WorkedGrows → AgainIsCovered → (s : Working) (f : Form) (admitted : Bool) (w : Shown) (p : Second) → Stands s → Left s f admitted w → HasFunctions (function_of w.entries) → p ≡ s.second
    → Stands (working_in s.limits s.earlier w p)
cut_stands grows covers s f admitted w p stands left functions same = record {
  functions = functions;
  again = subst (IfSoFar (λ v. HasFunctions (function_of v.entries))) (sym same) stands.again;
  covered = subst (IfSoFar (λ v. Covers v.entries w.entries)) (sym same) (go admitted left);
  distinct = stands.distinct;
}
  where
    go : (b : Bool) → Left s f b w → IfSoFar (λ v. Covers v.entries w.entries) s.second
    go true l = next_covers grows covers s f w stands l.0
    go false l = subst (λ (x : Shown). IfSoFar (λ v. Covers v.entries x.entries) s.second) (sym (l.1 refl)) stands.covered

pub both_stand : WorkedGrows → AgainIsCovered → (s : Working) (f : Form) (admitted : Bool) (w : Shown) (p : Second) → Stands s → Left s f admitted w → HasFunctions (function_of w.entries)
    → p ≡ cond admitted (second_after s.earlier f s.second) s.second → IfSoFar (λ v. HasFunctions (function_of v.entries)) p → Stands (working_in s.limits s.earlier w p)
both_stand grows covers s f admitted w p stands left functions same again = record {
  functions = functions;
  again = again;
  covered = subst (IfSoFar (λ v. Covers v.entries w.entries)) (sym same) (go admitted left);
  distinct = stands.distinct;
}
  where
    go : (b : Bool) → Left s f b w → IfSoFar (λ v. Covers v.entries w.entries) (cond b (second_after s.earlier f s.second) s.second)
    go true l = both_cover grows covers s f w stands l.0
    go false l = subst (λ (x : Shown). IfSoFar (λ v. Covers v.entries x.entries) s.second) (sym (l.1 refl)) stands.covered

-- what it gives is what the event gives
pub both_refused : (s : Working) (f : Form) (admitted : Bool) (w : Shown) → (worked s.limits s.earlier s.world f).next ≡ cond admitted (Some w) None → (admits s f).refused ≡ not admitted
both_refused s f true w e = ap is_refused e
both_refused s f false w e = ap is_refused e

pub both_next : (s : Working) (f : Form) (admitted : Bool) (w : Shown) (p : Second) → Left s f admitted w → p ≡ cond admitted (second_after s.earlier f s.second) s.second
    → (admits s f).next ≡ working_in s.limits s.earlier w p
both_next s f true w p left same = ap (after s f) left.0 ∙ ap (working_in s.limits s.earlier w) (sym same)
both_next s f false w p left same =
    ap (after s f) left.0 ∙ ap (λ v. working_in s.limits s.earlier v s.second) (sym (left.1 refl)) ∙ ap (working_in s.limits s.earlier w) (sym same)

pub both_left : WorkedTells → (s : Working) (f : Form) (admitted : Bool) (w : Shown) → Left s f admitted w → (w ≡ s.world) ⊎ IsTold (admits s f).log w
both_left tells s f true w left = go ((tells s.limits s.earlier s.world f).0 w left.0)
  where
    go : (s.world ≡ w) ⊎ IsTold (admits s f).log w → (w ≡ s.world) ⊎ IsTold (admits s f).log w
    go (inl p) = inl (sym p)
    go (inr t) = inr t
both_left tells s f false w left = inl (left.1 refl)
