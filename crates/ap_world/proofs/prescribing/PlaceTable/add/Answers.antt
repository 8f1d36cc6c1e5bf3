use Rattle.std.proofs.Common.{◌≡◌, [], ◌∷◌, ◌++◌, Some, None, is_some, sym, ap, ◌∙◌, subst}
use Rattle.std.proofs.lemmas.Result.{on_ok_weaker, on_err_weaker}
use Rattle.ap_world.specs.Kept.{places_at}
use Rattle.ap_world.proofs.Placing.{Updated, added_last, left_as_were, had_places}
use Rattle.ap_world.proofs.prescribing.PlaceTable.add.Goals as goal

-- the places that a function had, and the table after its places are written
had : (c : goal.After-drop-function) → places_at c.args.self.now c.args.function ≡ c.in-Some.places.now
had c = had_places c.self.inside.places.entries c.args.self.now c.args.function (Some c.in-Some.places.now) c.self.view_is c.in-Some.ensures.value

changed : (c : goal.After-drop-function) → Updated c.args.self.now (c.get_mut.follows.lender c.push.new.self).entries c.args.function c.push.new.self
changed c = subst (λ t. Updated t (c.get_mut.follows.lender c.push.new.self).entries c.args.function c.push.new.self) c.self.view_is
    ((c.get_mut.follows.holds c.push.new.self).3 (ap is_some (sym c.in-Some.ensures.value))).0

pub returns-in-Some-clause-ok : goal.returns-in-Some-clause-ok
returns-in-Some-clause-ok c =
    on_ok_weaker c.push.result
    (added_last c.args.self.now (c.get_mut.follows.lender c.push.new.self).entries c.args.function c.push.new.self c.in-Some.places.now (changed c) (had c) c.args.place)
    c.push.ensures.ok

pub returns-in-Some-clause-err : goal.returns-in-Some-clause-err
returns-in-Some-clause-err c =
    on_err_weaker c.push.result
    (left_as_were c.args.self.now (c.get_mut.follows.lender c.push.new.self).entries c.args.function c.push.new.self c.in-Some.places.now (changed c) (had c))
    c.push.ensures.err

pub returns-in_ok-insert-in-None-clause-ok : goal.returns-in_ok-insert-in-None-clause-ok
returns-in_ok-insert-in-None-clause-ok c =
    let none : places_at c.args.self.now c.args.function ≡ [] = had_places c.self.inside.places.entries c.args.self.now c.args.function None c.self.view_is c.in-None.ensures.value in
    let written : Updated c.get_mut.follows.lender-at-none.entries c.insert.new.self.entries c.args.function c.push-in-None.new.self = c.in_ok-insert-in-None.ensures.updates.0 in
    let changed : Updated c.args.self.now c.insert.new.self.entries c.args.function c.push-in-None.new.self =
    subst (λ t. Updated t c.insert.new.self.entries c.args.function c.push-in-None.new.self) (ap (λ m. m.entries) c.get_mut.follows.holds-at-none ∙ c.self.view_is) written in
    added_last c.args.self.now c.insert.new.self.entries c.args.function c.push-in-None.new.self [] changed none c.args.place
    (c.in_ok-push-in-None.ensures.ok ∙ ap (λ xs. xs ++ c.args.place ∷ []) c.new-places.ensures)
