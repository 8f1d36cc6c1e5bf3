-- What is recalled.
use Rattle.std.specs.Prelude.{◌≡◌, ℕ, Some, None}
use Rattle.ap_term.specs.declared.term.Term.{Term}
use Rattle.ap_kernel.specs.declared.objects.Mode.{Mode}
use Rattle.ap_rewrite.specs.declared.known.Recalled.{Recalled}
use Rattle.ap_rewrite.specs.declared.known.Recalled.TheVariants as recalled
use Rattle.ap_rewrite.specs.declared.rewriter.Place.{Place}
use Rattle.ap_rewrite.specs.Rewriting.{rewrite_to}
use Rattle.ap_rewrite.specs.InWorld.{world_setting}
use Rattle.ap_rewrite.specs.Answering.{From, seen_at}
use Rattle.ap_rewrite.specs.Shown.{MemoShown}

-- what is recalled is the definition's
abbrev pub RecalledIs : MemoShown → ℕ → Mode → Place → Term → ℕ → Recalled → Type 0
RecalledIs m d o p u n (recalled.Known q left) = (rewrite_to (world_setting m.world m.theory m.expand) d o (seen_at p) u n ≡ Some (q.says.rhs, left)) × From m.world o p.ctx.now u q
RecalledIs m d o p u n recalled.Out = rewrite_to (world_setting m.world m.theory m.expand) d o (seen_at p) u n ≡ None
RecalledIs m d o p u n recalled.Unknown = Unit {0}
