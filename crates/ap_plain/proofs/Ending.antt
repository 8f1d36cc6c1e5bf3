-- What is known of the world that an event leaves.
use Rattle.std.proofs.Common.{◌≡◌, ℕ, Bool, true, false, cond, Option, Some, None, Result, Ok, Err, IfOk, OnErr, List, [], ◌∷◌, ◌++◌, map, refl, ap, sym, ◌∙◌, subst}
use Rattle.ap_list.specs.Lists.{Each}
use Rattle.ap_world.specs.declared.entry.Entry.{Entry}
use Rattle.ap_world.specs.Sound.{HasFunctions}
use Rattle.ap_world.specs.World.{Shown, added, function_of}
use Rattle.ap_world.proofs.Adding.{has_functions-more}
use Rattle.ap_table.specs.declared.link.DropNote.{DropNote}
use Rattle.ap_attempt.specs.Attempts.{RootedWalk}
use Rattle.ap_strategy.specs.Goals.{Goal}
use Rattle.ap_plain.specs.declared.end.Outcome.{Outcome}
use Rattle.ap_plain.specs.Counts.{goals_of}
use Rattle.ap_plain.specs.Drops.{DividedWalks}
use Rattle.ap_plain.specs.Ends.{Told, passed, walked, walks_in, worlds_in, Done, refused, admitted, Did}

-- the walks that are told are those that were made
pub walks_told : (ws : List (RootedWalk Goal)) → walks_in (map walked ws) ≡ ws
walks_told [] = refl
walks_told (w ∷ ws) = ap (λ vs. w ∷ vs) (walks_told ws)

pub walks_told_first : (ws : List (RootedWalk Goal)) (v : Shown) → walks_in (map walked ws ++ passed v ∷ []) ≡ ws
walks_told_first [] v = refl
walks_told_first (w ∷ ws) v = ap (λ vs. w ∷ vs) (walks_told_first ws v)

-- an event that is done so
pub did_refused : (w : Shown) (text : List ℕ) (walks : List (RootedWalk Goal)) (goals : ℕ) (drops : List DropNote) → goals ≡ goals_of walks → DividedWalks drops walks
    → Did (refused text walks) w w (record { text = text; admitted = false; goals = goals; drops = drops })
did_refused w text walks goals drops counted divided = record {
  text = refl;
  next = refl;
  kept = λ _. refl;
  goals = counted ∙ ap goals_of (sym (walks_told walks));
  drops = subst (DividedWalks drops) (sym (walks_told walks)) divided;
}

pub did_admitted : (w v : Shown) (text : List ℕ) (walks : List (RootedWalk Goal)) (goals : ℕ) (drops : List DropNote) → goals ≡ goals_of walks → DividedWalks drops walks
    → Did (admitted v text walks) w v (record { text = text; admitted = true; goals = goals; drops = drops })
did_admitted w v text walks goals drops counted divided = record {
  text = refl;
  next = refl;
  kept = λ h. cc;
  goals = counted ∙ ap goals_of (sym (walks_told_first walks v));
  drops = subst (DividedWalks drops) (sym (walks_told_first walks v)) divided;
}

-- what holds in each world holds in one
pub at_world : {E : Type 0} (r : Result Outcome E) (d : Done) (w : Shown) → IfOk r (λ e. (v : Shown) → Did d v v e) → IfOk r (Did d w w)
at_world (Ok e) d w h = h w
at_world (Err e) d w h = tt

-- in a world that is as it was
pub did_as_was : {E : Type 0} (r : Result Outcome E) (d : Done) (w u v : Shown) → u ≡ w → IfOk r (Did d u v) → IfOk r (Did d w v)
did_as_was r d w u v same h = subst (λ x. IfOk r (Did d x v)) same h

pub error_as_was : {E : Type 0} (r : Result Outcome E) (w u v : Shown) → u ≡ w → OnErr r (v ≡ u) → OnErr r (v ≡ w)
error_as_was r w u v same h = subst (λ x. OnErr r (v ≡ x)) same h
