-- The facts that are in force at a part of a term: those that the term is asked under, and behind them those of the
-- contexts that are entered on the way to the part, one after another.
use Rattle.std.specs.Prelude.{List, [], ◌∷◌, ◌++◌}
use Rattle.ap_kernel.specs.declared.objects.Ctx.{Ctx}
use Rattle.ap_world.specs.Facts.{Facts}

abbrev pub entered : List Ctx → Facts
entered [] = []
entered (c ∷ cs) = c.0 ++ entered cs

abbrev pub in_scope : Facts → List Ctx → Facts
in_scope fs cs = fs ++ entered cs
