-- The parts of an end are those of the outcome.
use Rattle.std.proofs.Common.{◌≡◌, ℕ, Bool, true, false, cond, Option, Some, None, List, refl}
use Rattle.ap_world.specs.World.{Shown}
use Rattle.ap_table.specs.declared.link.DropNote.{DropNote}
use Rattle.ap_events.specs.Ends.{text_in, next_in, drops_in, world_in, Kept, end_of}

pub end_text : (b : Bool) (w : Shown) (text : List ℕ) (drops : List DropNote) → text_in (end_of b w text drops) ≡ text
end_text true w text drops = refl
end_text false w text drops = refl

pub end_next : (b : Bool) (w : Shown) (text : List ℕ) (drops : List DropNote) → next_in (end_of b w text drops) ≡ cond b (Some w) None
end_next true w text drops = refl
end_next false w text drops = refl

pub end_drops : (b : Bool) (w : Shown) (text : List ℕ) (drops : List DropNote) → drops_in (end_of b w text drops) ≡ drops
end_drops true w text drops = refl
end_drops false w text drops = refl

pub end_world : (b : Bool) (w : Shown) (text : List ℕ) (drops : List DropNote) → world_in (end_of b w text drops) ≡ w
end_world true w text drops = refl
end_world false w text drops = refl

pub end_kept : (b : Bool) (w v : Shown) (text : List ℕ) (drops : List DropNote) → (b ≡ false → v ≡ w) → Kept w (end_of b v text drops)
end_kept true w v text drops h = tt
end_kept false w v text drops h = h refl
