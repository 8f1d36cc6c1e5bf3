use Rattle.std.proofs.Common.{◌≡◌, ◌<◌, ◌++◌, append-nil, sym, ap, subst, ◌∙◌, arith, ℕ}
use Rattle.std.specs.List.{slice_get}
use Rattle.ap_table.specs.Settled.{told_stop, mark_nodes, mark_list}
use Rattle.ap_table.proofs.Showing.{get_at}
use Rattle.ap_table.proofs.Marked.{get_there, skip_nodes, skip_history, does_nodes, does_history}
use Rattle.ap_table.proofs.marking.mark_one.Goals as goal

pub returns-in_default-clause-nodes : goal.returns-in_default-clause-nodes
returns-in_default-clause-nodes g c = λ x e. ap (mark_nodes c.args.nodes.now.items) (c.in_default.ensures x e)

pub returns-in_default-clause-history : goal.returns-in_default-clause-history
returns-in_default-clause-history g c = λ x e. sym (append-nil c.args.history.now.items) ∙ ap (λ o. c.args.history.now.items ++ mark_list c.args.nodes.now.items o) (c.in_default.ensures x e)

pub index-requires : goal.index-requires
index-requires g c =
    let n = get_there c.args.nodes.now.items c.args.i c.requires.there in
    let f = c.requires.family n.0 c.in-Some.link n.1 (sym (c.in-Some.ensures n.0 n.1)) in
    let l = c.args.nodes.now.ok.0 in
    omega arith

pub set_word-requires : goal.set_word-requires
set_word-requires g c =
    let n = get_there c.args.nodes.now.items c.args.i c.requires.there in
    c.requires.family n.0 c.in-Some.link n.1 (sym (c.in-Some.ensures n.0 n.1))

pub returns-then-stop-clause-nodes : goal.returns-then-stop-clause-nodes
returns-then-stop-clause-nodes g c = λ x e.
    let xs = c.args.nodes.now.items in
    let f = c.requires.family x c.in-Some.link e (sym (c.in-Some.ensures x e)) in
    let m = c.index.result.now in
    skip_nodes xs c.in-Some.link m x.path c.args.at (c.in-Some.ensures x e) (get_at xs c.in-Some.link.family m f c.index.ensures) c.if-stop.true

pub returns-then-stop-clause-history : goal.returns-then-stop-clause-history
returns-then-stop-clause-history g c = λ x e.
    let xs = c.args.nodes.now.items in
    let f = c.requires.family x c.in-Some.link e (sym (c.in-Some.ensures x e)) in
    let m = c.index.result.now in
    skip_history xs c.in-Some.link m x.path c.args.at c.args.history.now.items (c.in-Some.ensures x e) (get_at xs c.in-Some.link.family m f c.index.ensures) c.if-stop.true

pub overflow_cast-stop : goal.overflow_cast-stop
overflow_cast-stop g c =
    let xs = c.args.nodes.now.items in
    let n = get_there xs c.args.i c.requires.there in
    let f = c.requires.family n.0 c.in-Some.link n.1 (sym (c.in-Some.ensures n.0 n.1)) in
    let m = c.index.result.now in
    let is : told_stop (slice_get xs c.in-Some.link.family) ≡ m.told.stop = ap told_stop (get_at xs c.in-Some.link.family m f c.index.ensures) in
    let small : m.told.stop < 4294967296 = subst (λ (x : ℕ). x < 4294967296) is (c.requires.small n.0 c.in-Some.link n.1 (sym (c.in-Some.ensures n.0 n.1)) (λ z. c.if-stop.false (sym is ∙ z))) in
    omega arith

pub returns-clause-nodes : goal.returns-clause-nodes
returns-clause-nodes g c = λ x e.
    let xs = c.args.nodes.now.items in
    let f = c.requires.family x c.in-Some.link e (sym (c.in-Some.ensures x e)) in
    let m = c.index.result.now in
    c.set_word.ensures ∙ does_nodes xs c.in-Some.link m x.path c.args.at (c.in-Some.ensures x e) (get_at xs c.in-Some.link.family m f c.index.ensures) c.if-stop.false

pub returns-clause-history : goal.returns-clause-history
returns-clause-history g c = λ x e.
    let xs = c.args.nodes.now.items in
    let f = c.requires.family x c.in-Some.link e (sym (c.in-Some.ensures x e)) in
    let m = c.index.result.now in
    c.push_reserved.ensures.items ∙ does_history xs c.in-Some.link m x.path c.args.at c.args.history.now.items (c.in-Some.ensures x e) (get_at xs c.in-Some.link.family m f c.index.ensures) c.if-stop.false
