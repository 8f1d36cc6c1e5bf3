use Rattle.std.proofs.Common.{◌≡◌, drop, refl, Some, None, is_some, sym, ap, ◌∙◌, subst}
use Rattle.std.specs.Map.{lookup}
use Rattle.ap_rules.specs.Grouped.{Table, group_at, without_first}
use Rattle.ap_value.specs.declared.symbol.Symbol.{Symbol}
use Rattle.ap_value.specs.Values.{symbol_eq}
use Rattle.ap_rules.proofs.Updates.{Updated, changed_by, unchanged_by, had_group}
use Rattle.ap_rules.proofs.table.Groups.remove_first.Goals as goal
use Rattle.ap_rules.proofs.table.Groups.remove_first.Goals.{in-Some, in_default}

-- what the table ends as, however it was made
abbrev Removed : Table → Table → Symbol → Type 0
Removed old new x = (f : Symbol) → group_at new f ≡ without_first (symbol_eq x f) (group_at old f)

pub returns : goal.returns
returns c = elim c.match-get_mut.branch [
  | in-Some w ↦
      let had : group_at c.args.self.now c.args.head.now ≡ w.in-Some.group.now =
      had_group c.self.inside.groups.entries c.args.self.now c.args.head.now (Some w.in-Some.group.now) c.self.view_is w.in-Some.ensures.value in
      let changed : Updated c.args.self.now (c.get_mut.follows.lender w.remove_first.new.self).entries c.args.head.now w.remove_first.new.self =
      subst (λ t. Updated t (c.get_mut.follows.lender w.remove_first.new.self).entries c.args.head.now w.remove_first.new.self) c.self.view_is
      ((c.get_mut.follows.holds w.remove_first.new.self).3 (ap is_some (sym w.in-Some.ensures.value))).0 in
      subst (λ (t : Table). Removed c.args.self.now t c.args.head.now) (ap (λ i. i.groups.entries) (sym w.self-inside-is))
      (changed_by c.args.self.now (c.get_mut.follows.lender w.remove_first.new.self).entries c.args.head.now w.remove_first.new.self w.in-Some.group.now changed had (drop 1) w.remove_first.ensures)
  | in_default w ↦
      let none : lookup (symbol_eq c.args.head.now) c.args.self.now ≡ None =
      subst (λ (t : Table). lookup (symbol_eq c.args.head.now) t ≡ None) c.self.view_is (sym w.in_default.ensures.value) in
      subst (λ (t : Table). Removed c.args.self.now t c.args.head.now)
      (sym (ap (λ i. i.groups.entries) w.self-inside-is ∙ ap (λ m. m.entries) c.get_mut.follows.holds-at-none ∙ c.self.view_is))
      (unchanged_by c.args.self.now c.args.head.now (drop 1) refl none)
]
