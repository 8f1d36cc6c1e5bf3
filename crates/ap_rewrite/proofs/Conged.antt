-- Calls of what arguments lead to.
use Rattle.std.proofs.Common.{◌≡◌, List, true, ap}
use Rattle.ap_list.specs.Lists.{Each}
use Rattle.ap_value.specs.declared.symbol.Symbol.{Symbol}
use Rattle.ap_value.specs.Values.{symbol_eq}
use Rattle.ap_term.specs.declared.term.Term.{Call}
use Rattle.ap_world.specs.World.{Shown}
use Rattle.ap_world.specs.Names.{not_name}
use Rattle.ap_world.proofs.Knowing.{each_same}
use Rattle.ap_kernel.specs.declared.objects.Ctx.{Ctx}
use Rattle.ap_kernel.specs.declared.objects.Mode.TheVariants.{Equal}
use Rattle.ap_kernel.specs.declared.objects.Equiv.{Equiv}
use Rattle.ap_kernel.specs.Answers.{IsArgument, said, lefts, rights, are_unchanged}
use Rattle.ap_kernel.proofs.CallsStand.{sides_same}
use Rattle.ap_rewrite.specs.Answering.{Leads}
use Rattle.ap_rewrite.proofs.Froms.{equal_fits}

-- what leads under equality is an argument of any call
pub arguments_fit : (w : Shown) (c : Ctx) (f : Symbol) (qs : List Equiv) → Each (Leads w Equal c) qs → Each (IsArgument w c f) qs
arguments_fit w c f qs h = each_same qs (λ q l. record { stands = l.stands; fits = record { facts = l.ctx; mode = equal_fits (symbol_eq f not_name) q.says.mode l.mode } }) h

-- where none of the arguments changed the call on what they lead to is the call
pub call_same : (w : Shown) (c : Ctx) (f : Symbol) (qs : List Equiv) → Each (Leads w Equal c) qs → are_unchanged qs ≡ true → Call f (lefts (said qs)) ≡ Call f (rights (said qs))
call_same w c f qs h k = ap (Call f) (sides_same qs (each_same qs (λ q l. l.stands.same) h) k)
