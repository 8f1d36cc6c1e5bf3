use Rattle.std.proofs.Common.{◌≡◌, ◌-◌, length, take, ap, ◌∙◌, sym, subst}
use Rattle.ap_world.specs.Kept.{Tabled}
use Rattle.ap_world.proofs.Prescribed.{cut_last, cut_none}
use Rattle.ap_world.proofs.entries.Entries.remove_last.Goals as goal
use Rattle.ap_world.proofs.entries.Entries.remove_last.Goals.{in-Some, in_default}

pub invariant_of-self : goal.invariant_of-self
invariant_of-self c =
    let k = c.saturating_sub-kept.result in
    let at : k ≡ length c.self.inside.list - 1 = c.saturating_sub-kept.ensures ∙ ap (λ n. n - 1) c.len.ensures in
    elim c.match-get.branch [
      | in-Some w ↦
          subst (λ i. Tabled c.truncate.new.self i.tables.names i.tables.places) (sym w.self-inside-is)
          (cut_last c.self.inside.list c.truncate.new.self k c.self.inside.tables.names w.remove_last.new.self.names c.self.inside.tables.places w.remove_last.new.self.places
          w.in-Some.entry.now _ c.self.invariant at w.in-Some.ensures.value (c.truncate.ensures ∙ ap (λ i. take k i.list) w.self-inside-is)
          w.prescribed_in.ensures w.remove_last.ensures.names w.remove_last.ensures.places)
      | in_default w ↦
          subst (λ i. Tabled c.truncate.new.self i.tables.names i.tables.places) (sym w.self-inside-is)
          (cut_none c.self.inside.list c.truncate.new.self k c.self.inside.tables.names c.self.inside.tables.places
          c.self.invariant at w.in_default.ensures.value (c.truncate.ensures ∙ ap (λ i. take k i.list) w.self-inside-is))
    ]
