use Rattle.std.proofs.Common.{◌≡◌, ◌++◌, ◌∷◌, [], sym, ap, subst}
use Rattle.ap_world.specs.Sound.{Sound}
use Rattle.ap_world.specs.World.{Shown}
use Rattle.ap_events.specs.Backing.{CoversAdded}
use Rattle.ap_events.proofs.Books.{put_entries}
use Rattle.ap_events.proofs.Including.{made_did}
use Rattle.ap_events.proofs.Owing.{owed_again}
use Rattle.ap_plain.specs.Proposals.{entry_in, put}
use Rattle.ap_events.proofs.again.make_again.Goals as goal

-- what is stated owes nothing new
pub put-requires-clause-valid : goal.put-requires-clause-valid
put-requires-clause-valid c =
    let w = c.args.w.now in
    let p = c.args.proposal in
    let U = c.requires.backed.0 in
    let b = c.requires.backed.1 in
    owed_again w U (subst (λ (x : Shown). Sound x.entries) c.world.ensures c.recall_sound.ensures) c.requires.functions b.sound b.before p c.requires.stated
    (subst (λ X. CoversAdded w.entries X U) (put_entries c.args.enabled w p) b.made.0)

pub returns-clause-done : goal.returns-clause-done
returns-clause-done c = made_did c.args.w.now (put c.args.enabled c.args.w.now c.args.proposal) c.put.new.w c.nothing.result c.in_ok-put.ensures.ok c.nothing.ensures
