-- What each row's answer says, and what a row asks of what it is handed.
use Rattle.std.specs.Prelude.{◌≡◌, Bool, true, false}
use Rattle.ap_value.specs.declared.symbol.Symbol.{Symbol}
use Rattle.ap_value.specs.Values.{symbol_eq}
use Rattle.ap_world.specs.Names.{not_name}
use Rattle.ap_world.specs.Meaning.{Defs}
use Rattle.ap_world.specs.World.{Shown}
use Rattle.ap_kernel.specs.declared.objects.Ctx.{Ctx}
use Rattle.ap_kernel.specs.declared.objects.Mode.{Mode}
use Rattle.ap_kernel.specs.declared.objects.Mode.TheVariants.{Equal}
use Rattle.ap_kernel.specs.declared.objects.Sequent.{Sequent}
use Rattle.ap_kernel.specs.declared.objects.Equiv.{Equiv}
use Rattle.ap_kernel.specs.Standing.{Holds, Stands}
pub use Rattle.ap_kernel.specs.Saying.{if_of, refl_made, trans_made, weakened, branch_made, chosen_made, said, lefts, rights, is_unchanged, are_unchanged, cong_made, fact_made}

-- an argument of a call is replaced under equality, one of `not` under either mode
abbrev pub ModeFits : Bool → Mode → Type 0
ModeFits true m = Unit {0}
ModeFits false m = m ≡ Equal

-- what an argument of a call of f says: under the call's facts, and under a mode that fits
pub record FitsCall (c : Ctx) (f : Symbol) (s : Sequent) : Type 0 where
  pub facts : s.ctx ≡ c
  pub mode : ModeFits (symbol_eq f not_name) s.mode

-- what a call's argument is handed in as
pub record IsArgument (w : Shown) (c : Ctx) (f : Symbol) (q : Equiv) : Type 0 where
  pub stands : Stands w q
  pub fits : FitsCall c f q.says

-- what such an argument says holds
pub record ArgumentHolds (D : Defs) (c : Ctx) (f : Symbol) (s : Sequent) : Type 0 where
  pub holds : Holds D s
  pub fits : FitsCall c f s
