-- Nested events keep worlds good, and are steps: the laws.
use Rattle.std.proofs.Common.{◌≡◌, ℕ, List, ◌∷◌, Some}
use Rattle.ap_world.specs.declared.entry.Entry.{Entry}
use Rattle.ap_world.specs.Alike.{Covers}
use Rattle.ap_world.specs.Sound.{Sound}
use Rattle.ap_world.specs.World.{Shown}
use Rattle.ap_world.proofs.Covering.{covers_through}
use Rattle.ap_world.proofs.Knowing.{each_same}
use Rattle.ap_reader.specs.declared.form.Form.{Form}
use Rattle.ap_plain.specs.declared.limits.Limits.{Limits}
use Rattle.ap_plain.specs.Laws.{GoodWorld}
use Rattle.ap_events.specs.Again.{AgainIsCovered}
use Rattle.ap_events.specs.Backing.{Backed}
use Rattle.ap_events.specs.Books.{Earlier, first_event, again_event, worked, worked_again}
use Rattle.ap_events.specs.Laws.{AreGood, WorkedKeepGood, AgainKeepsGood, WorkedGrows, WorkedTells}
use Rattle.ap_events.specs.Missing.{AgainMissesName}
use Rattle.ap_events.specs.Nested.{all, agains, firsts}
use Rattle.ap_events.proofs.Covered.{AreDistinct, leaves_cover}
use Rattle.ap_events.proofs.Keeping.{step_covers, backed_by, all_backed_first, all_backed_next, agains_redone, firsts_good, second_backed}
use Rattle.ap_events.proofs.Leaves.{first_step, again_step, first_good, again_redone}
use Rattle.ap_events.proofs.Missing.{leaves_miss}
use Rattle.ap_events.proofs.Nestings.{do_covers}
use Rattle.ap_events.proofs.Passing.{do_loses}
use Rattle.ap_events.proofs.Steps.{Step, agains_step, firsts_step}

pub again_is_covered : AgainIsCovered
again_is_covered limits earlier distinct f u v w covered h =
    do_covers (first_event limits earlier) (again_event earlier) (leaves_cover limits earlier distinct) 400 f u v w covered h

pub again_misses_name : AgainMissesName
again_misses_name limits earlier distinct f u v w covered h none =
    do_loses (first_event limits earlier) (again_event earlier) (leaves_cover limits earlier distinct) (leaves_miss limits earlier distinct) 400 f u v w covered h none

are_distinct_too : (earlier : Earlier) → AreGood earlier → AreDistinct earlier
are_distinct_too earlier books = each_same earlier (λ p (good : GoodWorld p.1). good.distinct) books

pub worked_keep_good : WorkedKeepGood
worked_keep_good limits earlier books w f good =
    (firsts_good (first_event limits earlier) (again_event earlier) (leaves_cover limits earlier (are_distinct_too earlier books)) (first_good limits earlier books) (again_redone earlier books) 400 f w good).on_the_way

pub again_keeps_good : AgainKeepsGood
again_keeps_good earlier books w f U good backed = ((agains_redone (again_event earlier) (again_redone earlier books) 400 f w).good U good backed).on_the_way

-- at each depth
pub worked_step : (limits : Limits) (earlier : Earlier) (n : ℕ) (f : Form) (w : Shown) → Step (firsts (first_event limits earlier) (again_event earlier) n f w) w
worked_step limits earlier = firsts_step (first_event limits earlier) (again_event earlier) (first_step limits earlier) (again_step earlier)

pub redone_step : (earlier : Earlier) (n : ℕ) (f : Form) (w : Shown) → Step (agains (again_event earlier) n f w) w
redone_step earlier = agains_step (again_event earlier) (again_step earlier)

pub worked_grows : WorkedGrows
worked_grows limits earlier w f = ((worked_step limits earlier 400 f w).grows, (redone_step earlier 400 f w).grows)

pub worked_tells : WorkedTells
worked_tells limits earlier w f = ((worked_step limits earlier 400 f w).tells, (redone_step earlier 400 f w).tells)

-- what is done again where the world before is covered by the one in which it was done first: that one's next world backs it
pub again_backed : (limits : Limits) (earlier : Earlier) → AreDistinct earlier → (f : Form) (u v w : Shown) → Sound w.entries → Covers v.entries u.entries → (worked limits earlier u f).next ≡ Some w
    → Backed (worked_again earlier v f) v w.entries
again_backed limits earlier distinct f u v w sound covered is =
    backed_by (worked_again earlier v f) v w.entries sound
    (covers_through v.entries u.entries w.entries covered (step_covers (worked limits earlier u f) u w (worked_step limits earlier 400 f u) is))
    (again_is_covered limits earlier distinct f u v w covered is)

-- the second pass of an `encapsulate`, whose events gave a world first, is backed by that world
pub events_backed : (limits : Limits) (earlier : Earlier) → AreDistinct earlier → (n : ℕ) (fs : List Form) (w v : Shown) → Sound v.entries
    → (all (firsts (first_event limits earlier) (again_event earlier) n) fs w).next ≡ Some v → Backed (all (agains (again_event earlier) n) fs w) w v.entries
events_backed limits earlier distinct n fs w v sound is =
    second_backed (first_event limits earlier) (again_event earlier) (leaves_cover limits earlier distinct) n fs w v sound is

-- what is done again one after another: the first is backed, and so are the others, in the world after it
pub first_backed : (earlier : Earlier) (n : ℕ) (f : Form) (fs : List Form) (w : Shown) (U : List Entry) → Backed (all (agains (again_event earlier) n) (f ∷ fs) w) w U → Backed (agains (again_event earlier) n f w) w U
first_backed earlier n f fs w U backed = all_backed_first (agains (again_event earlier) n) f fs w U backed

pub others_backed : (earlier : Earlier) (n : ℕ) (f : Form) (fs : List Form) (w x : Shown) (U : List Entry) → Backed (all (agains (again_event earlier) n) (f ∷ fs) w) w U
    → (agains (again_event earlier) n f w).next ≡ Some x → Backed (all (agains (again_event earlier) n) fs x) x U
others_backed earlier n f fs w x U backed is = all_backed_next (agains (again_event earlier) n) f fs w x U backed (redone_step earlier n f w) is
