use Rattle.std.proofs.Common.{◌≡◌, ℕ, List, Some, None, is_some, sym, ap, ◌∙◌, subst}
use Rattle.std.specs.Map.{lookup}
use Rattle.ap_world.specs.Kept.{Places, places_at, with_place}
use Rattle.ap_value.specs.declared.symbol.Symbol.{Symbol}
use Rattle.ap_value.specs.Values.{symbol_eq}
use Rattle.ap_world.proofs.Placing.{Updated, removed_last, removed_none, had_places}
use Rattle.ap_world.proofs.prescribing.PlaceTable.remove_last.Goals as goal
use Rattle.ap_world.proofs.prescribing.PlaceTable.remove_last.Goals.{in-Some, in_default}

-- what the table ends as, however it was made
abbrev Removed : Places → Places → Symbol → Type 0
Removed old new x = (f : Symbol) (places : List ℕ) (place : ℕ) → places_at old f ≡ with_place (symbol_eq x f) place places → places_at new f ≡ places

pub returns : goal.returns
returns c = elim c.match-get_mut.branch [
  | in-Some w ↦
      let had : places_at c.args.self.now c.args.function.now ≡ w.in-Some.places.now =
      had_places c.self.inside.places.entries c.args.self.now c.args.function.now (Some w.in-Some.places.now) c.self.view_is w.in-Some.ensures.value in
      let changed : Updated c.args.self.now (c.get_mut.follows.lender w.pop.new.self).entries c.args.function.now w.pop.new.self =
      subst (λ t. Updated t (c.get_mut.follows.lender w.pop.new.self).entries c.args.function.now w.pop.new.self) c.self.view_is
      ((c.get_mut.follows.holds w.pop.new.self).3 (ap is_some (sym w.in-Some.ensures.value))).0 in
      subst (λ (t : Places). Removed c.args.self.now t c.args.function.now) (ap (λ i. i.places.entries) (sym w.self-inside-is))
      (removed_last c.args.self.now (c.get_mut.follows.lender w.pop.new.self).entries c.args.function.now w.pop.new.self w.in-Some.places.now changed had w.pop.result w.pop.ensures)
  | in_default w ↦
      let none : lookup (symbol_eq c.args.function.now) c.args.self.now ≡ None =
      subst (λ (t : Places). lookup (symbol_eq c.args.function.now) t ≡ None) c.self.view_is (sym w.in_default.ensures.value) in
      subst (λ (t : Places). Removed c.args.self.now t c.args.function.now)
      (sym (ap (λ i. i.places.entries) w.self-inside-is ∙ ap (λ m. m.entries) c.get_mut.follows.holds-at-none ∙ c.self.view_is))
      (removed_none c.args.self.now c.args.function.now none)
]
