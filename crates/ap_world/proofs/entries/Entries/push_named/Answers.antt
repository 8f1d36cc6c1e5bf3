use Rattle.std.proofs.Common.{◌≡◌, List, map, false, ap, ◌∙◌, sym, subst}
use Rattle.std.specs.List.{list_any}
use Rattle.ap_value.specs.declared.symbol.Symbol.{Symbol}
use Rattle.ap_value.specs.Values.{symbol_eq}
use Rattle.ap_world.specs.declared.entry.Entry.{Entry}
use Rattle.ap_world.specs.declared.entries.Names.{Names}
use Rattle.ap_world.specs.Kept.{Tabled}
use Rattle.ap_world.specs.World.{name_in, has_name}
use Rattle.ap_world.proofs.Places.{named_is, free_entry}
use Rattle.ap_world.proofs.Prescribed.{tabled_more}
use Rattle.ap_world.proofs.entries.Entries.push_named.Goals as goal

-- a free name isn't in the table
not_there : (W : List Entry) (names : List Symbol) (x y : Symbol) → names ≡ map name_in W → x ≡ y → has_name W y ≡ false
    → list_any (symbol_eq x) names ≡ false
not_there W names x y named same free = rw (named, same) (named_is W y ∙ free_entry W y free)

pub add-requires : goal.add-requires
add-requires c =
    not_there c.self.inside.list c.self.inside.tables.names c.args.names.name (name_in c.args.entry) c.self.invariant.named (ap (λ (n : Names). n.name) c.requires.named)
    (ap (λ W. has_name W (name_in c.args.entry)) c.self.view_is ∙ c.requires.free)

pub invariant_of-self-in_default : goal.invariant_of-self-in_default
invariant_of-self-in_default c =
    subst (λ W. Tabled W c.add.new.self.names c.add.new.self.places) (sym c.in_ok-push.ensures.ok)
    (tabled_more c.self.inside.list c.self.inside.tables.names c.add.new.self.names c.self.inside.tables.places c.add.new.self.places c.args.entry c.args.names.name c.args.names.about
    c.self.invariant (ap (λ W. has_name W (name_in c.args.entry)) c.self.view_is ∙ c.requires.free)
    (ap (λ (n : Names). n.name) c.requires.named) (ap (λ (n : Names). n.about) c.requires.named) c.in_default.ensures.ok c.in_default.ensures.ok_places)
