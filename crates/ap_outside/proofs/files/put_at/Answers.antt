use Rattle.std.proofs.Common.{◌≡◌, Some, None}
use Rattle.ap_outside.specs.Files.{place_of}
use Rattle.ap_outside.proofs.Places.{put_at_place, put_at_end}
use Rattle.ap_outside.proofs.files.put_at.Goals as goal

pub returns-in-Some-clause-stored : goal.returns-in-Some-clause-stored
returns-in-Some-clause-stored c =
    let at : place_of c.args.files.now.items c.args.name ≡ Some c.in-Some.place = cc c.in-Some.ensures.place in
    (put_at_place c.args.files.now.items c.args.name c.args.bytes _ at).0

pub returns-in-Some-clause-others : goal.returns-in-Some-clause-others
returns-in-Some-clause-others c =
    let at : place_of c.args.files.now.items c.args.name ≡ Some c.in-Some.place = cc c.in-Some.ensures.place in
    (put_at_place c.args.files.now.items c.args.name c.args.bytes _ at).1

pub returns-in_ok-push-in-None-clause-stored : goal.returns-in_ok-push-in-None-clause-stored
returns-in_ok-push-in-None-clause-stored c =
    let at : place_of c.args.files.now.items c.args.name ≡ None = cc c.in-None.ensures.place in
    rw c.in_ok-push-in-None.ensures.items (put_at_end c.args.files.now.items c.args.name c.args.bytes at).0

pub returns-in_ok-push-in-None-clause-others : goal.returns-in_ok-push-in-None-clause-others
returns-in_ok-push-in-None-clause-others c =
    let at : place_of c.args.files.now.items c.args.name ≡ None = cc c.in-None.ensures.place in
    rw c.in_ok-push-in-None.ensures.items (put_at_end c.args.files.now.items c.args.name c.args.bytes at).1
