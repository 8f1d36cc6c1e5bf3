use Rattle.std.proofs.Common.{◌≡◌, ℕ, List, map, Option, Some, None, sym, ap, ◌∙◌}
use Rattle.std.specs.List.{position}
use Rattle.ap_value.specs.declared.symbol.Symbol.{Symbol}
use Rattle.ap_value.specs.Values.{symbol_eq}
use Rattle.ap_world.specs.declared.entry.Entry.{Entry}
use Rattle.ap_world.specs.World.{entry_of, name_in}
use Rattle.ap_world.proofs.Places.{found_at, not_found}
use Rattle.ap_world.proofs.entries.Entries.find.Goals as goal

-- what the table answers is the place among the entries' names
place_is : (W : List Entry) (names : List Symbol) (x : Symbol) (o p : Option ℕ) → names ≡ map name_in W → o ≡ position (symbol_eq x) names → o ≡ p
    → position (symbol_eq x) (map name_in W) ≡ p
place_is W names x o p named place was = sym (ap (position (symbol_eq x)) named) ∙ sym place ∙ was

pub returns-in_err-place : goal.returns-in_err-place
returns-in_err-place c =
    let missing : entry_of c.self.inside.list c.args.name.now ≡ None =
    not_found c.self.inside.list c.args.name.now
    (place_is c.self.inside.list c.self.inside.tables.names c.args.name.now c.place_of.result None c.self.invariant.named c.place_of.ensures.place c.in_err-place.was) in
    let same : entry_of c.self.inside.list c.args.name.now ≡ entry_of c.args.self.now c.args.name.now =
    ap (λ W. entry_of W c.args.name.now) c.self.view_is in
    rw c.from_residual.ensures (sym missing ∙ same)

pub returns : goal.returns
returns c =
    c.get.ensures.value
    ∙ found_at c.self.inside.list c.args.name.now c.in_ok-place.place
    (place_is c.self.inside.list c.self.inside.tables.names c.args.name.now c.place_of.result (Some c.in_ok-place.place) c.self.invariant.named c.place_of.ensures.place c.in_ok-place.was)
    ∙ ap (λ W. entry_of W c.args.name.now) c.self.view_is
