use Rattle.std.proofs.Common.{◌≡◌, ◌⊎◌, ◌++◌, List, ap, refl, ◌∙◌, subst}
use Rattle.std.proofs.lemmas.List.{append-nil}
use Rattle.ap_table.specs.declared.link.DropNote.{DropNote}
use Rattle.ap_reader.specs.declared.form.Form.{Form}
use Rattle.ap_events.specs.Books.{Earlier, worked}
use Rattle.ap_session.specs.Admitting.{AdmittingSeen, notes_in, IsTold, Behind}
use Rattle.ap_session.proofs.Leading.{notes_same}
use Rattle.ap_session.proofs.admitting.Admitting.admit.Goals as goal

-- behind an event in which memory was wanting, of which nothing is noted
behind_event : {a s b : AdmittingSeen} (f : Form) → s ≡ a → b.working.limits ≡ s.working.limits → b.working.earlier ≡ s.working.earlier → b.kept ≡ s.kept → b.workers ≡ s.workers
    → notes_in b ≡ notes_in s → ((b.working.world ≡ s.working.world) ⊎ IsTold (worked s.working.limits s.working.earlier s.working.world f).told b.working.world)
    → Behind a b (worked a.working.limits a.working.earlier a.working.world f).told
behind_event {a} {s} {b} f same l e k w n left =
    subst (λ (x : AdmittingSeen). Behind x b (worked x.working.limits x.working.earlier x.working.world f).told) same (record {
      limits = l;
      earlier = e;
      kept = k;
      world = left;
      notes = notes_same s b (worked s.working.limits s.working.earlier s.working.world f).told n w;
    })

pub returns-in_err-done-clause-behind : goal.returns-in_err-done-clause-behind
returns-in_err-done-clause-behind g c =
    let noted : c.append.new.self.items ++ c.append.new.other.items ≡ c.self.inside.noted.items ++ c.self.inside.last.items =
    ap (λ (xs : List DropNote). c.append.new.self.items ++ xs) c.in_ok-append.ensures.other_items ∙ append-nil c.append.new.self.items ∙ c.in_ok-append.ensures.items in
    behind_event c.args.form.now c.self.view_is refl refl refl refl noted
    (subst (λ (es : Earlier). (c.work_both.new.world ≡ c.self.inside.world) ⊎ IsTold (worked c.self.inside.limits es c.self.inside.world c.args.form.now).told c.work_both.new.world)
    c.as_slice.ensures c.in_err-done.ensures.left)
