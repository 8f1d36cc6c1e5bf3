use Rattle.std.proofs.Common.{◌≡◌, [], ◌∷◌, ◌++◌, Some, None, is_some, refl, sym, ap, ◌∙◌, subst}
use Rattle.std.proofs.lemmas.Result.{on_err_weaker}
use Rattle.ap_rules.specs.Placed.{places_at}
use Rattle.ap_rules.proofs.Updates.{Updated, changed_by, left_as_were, had_group}
use Rattle.ap_rules.proofs.linears.add_place.Goals as goal

pub returns-in-Some-clause-err : goal.returns-in-Some-clause-err
returns-in-Some-clause-err c =
    let old = c.args.places.now.entries in
    let new = (c.get_mut.follows.lender c.push.new.self).entries in
    let had : places_at old c.args.head ≡ c.in-Some.group.now = had_group old old c.args.head (Some c.in-Some.group.now) refl c.in-Some.ensures.value in
    let changed : Updated old new c.args.head c.push.new.self = ((c.get_mut.follows.holds c.push.new.self).3 (ap is_some (sym c.in-Some.ensures.value))).0 in
    on_err_weaker c.push.result (left_as_were old new c.args.head c.push.new.self c.in-Some.group.now changed had) c.push.ensures.err

pub returns-in_ok-insert-in-None-clause-ok : goal.returns-in_ok-insert-in-None-clause-ok
returns-in_ok-insert-in-None-clause-ok c =
    let old = c.args.places.now.entries in
    let none : places_at old c.args.head ≡ [] = had_group old old c.args.head None refl c.in-None.ensures.value in
    let written : Updated c.get_mut.follows.lender-at-none.entries c.insert.new.self.entries c.args.head c.push-in-None.new.self = c.in_ok-insert-in-None.ensures.updates.0 in
    let changed : Updated old c.insert.new.self.entries c.args.head c.push-in-None.new.self =
    subst (λ t. Updated t c.insert.new.self.entries c.args.head c.push-in-None.new.self) (ap (λ m. m.entries) c.get_mut.follows.holds-at-none) written in
    changed_by old c.insert.new.self.entries c.args.head c.push-in-None.new.self [] changed none (λ is. is ++ c.args.place ∷ [])
    (c.in_ok-push-in-None.ensures.ok ∙ ap (λ is. is ++ c.args.place ∷ []) c.new-group.ensures)
