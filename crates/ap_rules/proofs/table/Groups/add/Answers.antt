use Rattle.std.proofs.Common.{◌≡◌, [], ◌∷◌, Some, None, is_some, sym, ap, ◌∙◌, subst}
use Rattle.std.proofs.lemmas.Result.{on_ok_weaker, on_err_weaker}
use Rattle.ap_rules.specs.Grouped.{group_at}
use Rattle.ap_rules.proofs.Updates.{Updated, changed_by, left_as_were, had_group}
use Rattle.ap_rules.proofs.table.Groups.add.Goals as goal

-- the rules that a head had, and the table after its rules are written
had : (c : goal.After-drop-head) → group_at c.args.self.now c.args.head ≡ c.in-Some.group.now
had c = had_group c.self.inside.groups.entries c.args.self.now c.args.head (Some c.in-Some.group.now) c.self.view_is c.in-Some.ensures.value

changed : (c : goal.After-drop-head) → Updated c.args.self.now (c.get_mut.follows.lender c.add.new.self).entries c.args.head c.add.new.self
changed c = subst (λ t. Updated t (c.get_mut.follows.lender c.add.new.self).entries c.args.head c.add.new.self) c.self.view_is
    ((c.get_mut.follows.holds c.add.new.self).3 (ap is_some (sym c.in-Some.ensures.value))).0

pub returns-in-Some-clause-ok : goal.returns-in-Some-clause-ok
returns-in-Some-clause-ok c =
    on_ok_weaker c.add.result
    (changed_by c.args.self.now (c.get_mut.follows.lender c.add.new.self).entries c.args.head c.add.new.self c.in-Some.group.now (changed c) (had c) (λ gs. c.args.rule ∷ gs))
    c.add.ensures.ok

pub returns-in-Some-clause-err : goal.returns-in-Some-clause-err
returns-in-Some-clause-err c =
    on_err_weaker c.add.result
    (left_as_were c.args.self.now (c.get_mut.follows.lender c.add.new.self).entries c.args.head c.add.new.self c.in-Some.group.now (changed c) (had c))
    c.add.ensures.err

pub returns-in_ok-insert-in-None-clause-ok : goal.returns-in_ok-insert-in-None-clause-ok
returns-in_ok-insert-in-None-clause-ok c =
    let none : group_at c.args.self.now c.args.head ≡ [] = had_group c.self.inside.groups.entries c.args.self.now c.args.head None c.self.view_is c.in-None.ensures.value in
    let written : Updated c.get_mut.follows.lender-at-none.entries c.insert.new.self.entries c.args.head c.add-in-None.new.self = c.in_ok-insert-in-None.ensures.updates.0 in
    let changed : Updated c.args.self.now c.insert.new.self.entries c.args.head c.add-in-None.new.self =
    subst (λ t. Updated t c.insert.new.self.entries c.args.head c.add-in-None.new.self) (ap (λ m. m.entries) c.get_mut.follows.holds-at-none ∙ c.self.view_is) written in
    changed_by c.args.self.now c.insert.new.self.entries c.args.head c.add-in-None.new.self [] changed none (λ gs. c.args.rule ∷ gs)
    (c.in_ok-add-in-None.ensures.ok ∙ ap (λ xs. c.args.rule ∷ xs) c.new-group.ensures)
