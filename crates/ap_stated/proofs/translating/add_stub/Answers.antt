use Rattle.std.proofs.Common.{◌≡◌, true, false, Err, OnErr, sym, ap, subst, ◌∙◌}
use Rattle.ap_world.specs.declared.entry.Entry.TheVariants as entry
use Rattle.ap_world.specs.declared.entry.Function.{Function}
use Rattle.ap_world.specs.Sound.{Sound}
use Rattle.ap_world.specs.World.{added, has_name}
use Rattle.ap_admit.specs.Admission.{with_function}
use Rattle.ap_stated.proofs.Defining.{sound_stub}
use Rattle.ap_stated.proofs.translating.add_stub.Goals as goal

pub add_function-requires : goal.add_function-requires
add_function-requires c = record {
  sound = λ free.
      subst (λ (f : Function). Sound (with_function c.args.w.now.entries f)) (sym c.in_ok-stub.ensures)
      (sound_stub c.args.w.now.entries c.args.name.now c.args.formals.now c.requires.sound c.requires.functions c.requires.free c.requires.distinct);
}

pub unreachable-requires : goal.unreachable-requires
unreachable-requires c =
    let taken : has_name c.args.w.now.entries c.in_ok-stub.stub.name ≡ true = c.add_function.ensures.taken.0 (c.in-Err-NameTaken.is ∙ ap Err c.in-Err-NameTaken.field-0-is) in
    let free : has_name c.args.w.now.entries c.in_ok-stub.stub.name ≡ false = ap (λ (f : Function). has_name c.args.w.now.entries f.name) c.in_ok-stub.ensures ∙ c.requires.free in
    cc (free, taken)

pub returns-in-Ok-clause-ok : goal.returns-in-Ok-clause-ok
returns-in-Ok-clause-ok c = c.in-Ok.ensures.ok ∙ ap (λ (f : Function). added c.args.w.now (entry.Function f)) c.in_ok-stub.ensures

pub returns-in-Err-NoMemory-clause-err : goal.returns-in-Err-NoMemory-clause-err
returns-in-Err-NoMemory-clause-err c = subst (λ r. OnErr r (c.add_function.new.self ≡ c.args.w.now)) c.in-Err-NoMemory.is c.add_function.ensures.err
