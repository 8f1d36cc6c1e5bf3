use Rattle.std.proofs.Common.{◌≡◌, List, [], ◌∷◌, ◌++◌, false, refl, ap, ◌∙◌}
use Rattle.std.specs.List.{list_any}
use Rattle.indexmap.specs.IndexSet.{insert_key}
use Rattle.ap_value.specs.declared.symbol.Symbol.{Symbol}
use Rattle.ap_value.specs.Values.{symbol_eq}
use Rattle.ap_world.proofs.names.NameTable.add.Goals as goal

-- a name that isn't among the keys comes at their end
at_end : (keys names : List Symbol) (x : Symbol) → keys ≡ names → list_any (symbol_eq x) names ≡ false
    → insert_key symbol_eq keys x ≡ names ++ x ∷ []
at_end keys names x e absent = ap (λ ks. insert_key symbol_eq ks x) e ∙ rw absent refl

pub returns-clause-ok : goal.returns-clause-ok
returns-clause-ok c = c.in_ok-insert.ensures.keys ∙ at_end c.self.inside.names.keys c.args.self.now c.args.name c.self.view_is c.requires
