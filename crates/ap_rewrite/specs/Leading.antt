-- What the rewriter's parts answer: equivalences from a term, under facts and a mode, to what the definition gives.
use Rattle.std.specs.Prelude.{◌≡◌, ◌&&◌, cond, [], Option, None}
use Rattle.std.specs.Option.{option_map}
use Rattle.ap_value.specs.declared.symbol.Symbol.{Symbol}
use Rattle.ap_term.specs.declared.term.Term.{Term}
use Rattle.ap_world.specs.declared.theory.Rune.TheVariants as rune
use Rattle.ap_world.specs.declared.theory.Theory.{Theory}
use Rattle.ap_world.specs.Theories.{is_enabled}
use Rattle.ap_world.specs.World.{Shown}
use Rattle.ap_kernel.specs.declared.objects.Ctx.{Ctx}
use Rattle.ap_kernel.specs.declared.objects.Mode.{Mode}
use Rattle.ap_kernel.specs.declared.objects.Mode.TheVariants.{Equal, Iff}
use Rattle.ap_kernel.specs.declared.objects.Sequent.{Sequent}
use Rattle.ap_kernel.specs.declared.objects.Equiv.{Equiv}
use Rattle.ap_rewrite.specs.Arithmetic.{no_arithmetic}
use Rattle.ap_rewrite.specs.Settings.{Setting}
use Rattle.ap_kernel.specs.Opening.{is_constant_call}
use Rattle.ap_rewrite.specs.InWorld.{setting_in}
use Rattle.ap_rewrite.specs.Rewriting.{constant_in}

-- from a term to another, under these facts and this mode
abbrev pub leads_made : Ctx → Mode → Term → Term → Sequent
leads_made c o u v = record { ctx = c; mode = o; lhs = u; rhs = v }

-- what is said where there is an answer
abbrev pub said_of : Option Equiv → Option Sequent
said_of o = option_map (λ (q : Equiv). q.says) o

-- an equivalence under one mode serves under another: equality under both
abbrev pub Serves : Mode → Mode → Type 0
Serves Equal o = Unit {0}
Serves Iff o = o ≡ Iff

-- a world's masks and values, by a theory, without a call to expand and without arithmetic: what they settle, and what
-- running gives, is the same in every setting of the world and the theory
abbrev pub plain_in : Shown → Theory → Setting
plain_in w h = setting_in w h [] no_arithmetic

-- what running a call of this head gives: the words of `run`, of a call as a whole
abbrev pub run_by : Shown → Theory → Mode → Symbol → Term → Option Term
run_by w h o f u = cond (is_constant_call u && is_enabled h (rune.Executable f)) (option_map (constant_in o) ((plain_in w h).value u)) None
