-- What is known of an answer by what it says.
use Rattle.std.proofs.Common.{◌≡◌, IfSome, Option, None, Some, refl, ap}
use Rattle.std.specs.Option.{option_map}
use Rattle.ap_term.specs.declared.term.Term.{Term}
use Rattle.ap_kernel.specs.declared.objects.Ctx.{Ctx}
use Rattle.ap_kernel.specs.declared.objects.Mode.{Mode}
use Rattle.ap_kernel.specs.declared.objects.Sequent.{Sequent}
use Rattle.ap_kernel.specs.declared.objects.Equiv.{Equiv}
use Rattle.ap_rewrite.specs.Leading.{leads_made, said_of}

-- its right side, where it is there
pub right_said : (c : Ctx) (m : Mode) (u : Term) (o : Option Equiv) (x : Option Term) → said_of o ≡ option_map (leads_made c m u) x → option_map (λ (q : Equiv). q.says.rhs) o ≡ x
right_said c m u None None h = refl
right_said c m u None (Some v) h = cc
right_said c m u (Some q) None h = cc
right_said c m u (Some q) (Some v) h =
    let same : q.says ≡ leads_made c m u v = cc in
    ap (λ (s : Sequent). Some s.rhs) same

-- its facts, its mode and its left side
pub parts_said : (c : Ctx) (m : Mode) (u : Term) (o : Option Equiv) (x : Option Term) → said_of o ≡ option_map (leads_made c m u) x
    → IfSome o (λ (q : Equiv). (q.says.ctx ≡ c) × (q.says.mode ≡ m) × (q.says.lhs ≡ u))
parts_said c m u None x h = tt
parts_said c m u (Some q) None h = cc
parts_said c m u (Some q) (Some v) h =
    let same : q.says ≡ leads_made c m u v = cc in
    (ap (λ (s : Sequent). s.ctx) same, ap (λ (s : Sequent). s.mode) same, ap (λ (s : Sequent). s.lhs) same)
