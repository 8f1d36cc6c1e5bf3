use Rattle.std.proofs.Common.{◌≡◌, cond, Some, ap, ◌∙◌, subst}
use Rattle.std.specs.Map.{lookup}
use Rattle.ap_value.specs.declared.symbol.Symbol.{Symbol}
use Rattle.ap_value.specs.Values.{symbol_eq}
use Rattle.ap_world.specs.RuneTables.{RuneTable, with_kind}
use Rattle.ap_world.proofs.Theories.{rune_added}
use Rattle.ap_world.proofs.runes.RuneTable.add.Goals as goal

pub returns : goal.returns
returns c =
    rune_added c.args.self.now c.insert.new.self.entries c.args.kind c.args.name c.kinds_of.result c.kinds_of.ensures
    (subst (λ (t : RuneTable). (q : Symbol) → lookup (symbol_eq q) c.insert.new.self.entries ≡ cond (symbol_eq c.args.name q) (Some (with_kind c.kinds_of.result c.args.kind)) (lookup (symbol_eq q) t))
    c.self.view_is (λ q. c.in_ok-insert.ensures.updates.0 q ∙ ap (λ ks. cond (symbol_eq c.args.name q) (Some ks) (lookup (symbol_eq q) c.self.inside.kinds.entries)) c.with-kinds.ensures))
