use Rattle.std.proofs.Common.{◌≡◌, [], ◌∷◌, ◌++◌, map, take, refl, sym, ap, ◌∙◌, rules}
use Rattle.std.specs.Vec.Iter.{into_iter_items}
use Rattle.std.proofs.lemmas.List.{append-nil, append_assoc, nil_from_length}
use Rattle.ap_world.specs.declared.entry.Entry.TheVariants as entry
use Rattle.ap_world.specs.World.{are_taken}
use Rattle.ap_world.proofs.Places.{first_taken, take_front, came}
use Rattle.ap_world.proofs.entries.Entries.push_functions.Goals as goal

pub loop-function-init : goal.loop-function-init
loop-function-init c =
    let all : into_iter_items c.into_iter-function-iterator.result ≡ c.args.list = search rules in
    record {
      can_next = tt;
      is_finite = tt;
      to_come = refl;
      free = ap (are_taken c.args.self.now) all ∙ c.requires;
      more = ([], sym (append-nil c.args.self.now));
    }

pub push-requires : goal.push-requires
push-requires c =
    (first_taken c.loop-function.self c.in-Some.function (into_iter_items c.next.new.self)
    (ap (are_taken c.loop-function.self) (sym c.in-Some.ensures.steps.0) ∙ c.loop-function.invariant.free)).0

pub returns-in-Err-clause-err : goal.returns-in-Err-clause-err
returns-in-Err-clause-err c =
    let (X, is) = c.loop-function.invariant.more in
    c.truncate.ensures ∙ ap (take c.len-count.result) (c.in-Err.ensures.err ∙ is) ∙ take_front c.args.self.now X c.len-count.result c.len-count.ensures

pub loop-function-preserved : goal.loop-function-preserved
loop-function-preserved c =
    let (X, is) = c.loop-function.invariant.more in
    let rest = into_iter_items c.next.new.self in
    let made = c.in_default.ensures.ok in
    record {
      can_next = tt;
      is_finite = tt;
      to_come = came c.loop-function.self c.push.new.self c.in-Some.function [] (into_iter_items c.loop-function.function-iterator) rest
          (c.args.self.now ++ map entry.Function (into_iter_items c.into_iter-function-iterator.result)) c.in-Some.ensures.steps.0 made c.loop-function.invariant.to_come;
      free = ap (λ W. are_taken W rest) made
          ∙ (first_taken c.loop-function.self c.in-Some.function rest (ap (are_taken c.loop-function.self) (sym c.in-Some.ensures.steps.0) ∙ c.loop-function.invariant.free)).1;
      more = (X ++ entry.Function c.in-Some.function ∷ [], made ∙ ap (λ W. W ++ entry.Function c.in-Some.function ∷ []) is ∙ append_assoc c.args.self.now X (entry.Function c.in-Some.function ∷ []));
    }

pub returns-clause-ok : goal.returns-clause-ok
returns-clause-ok c =
    let all : into_iter_items c.into_iter-function-iterator.result ≡ c.args.list = search rules in
    let none : into_iter_items c.loop-function.function-iterator ≡ [] =
    nil_from_length (into_iter_items c.loop-function.function-iterator) (sym c.loop-function.function-iterator.rest.ok.0 ∙ c.in-None.ensures.steps.0) in
    sym (append-nil c.loop-function.self) ∙ ap (λ fs. c.loop-function.self ++ map entry.Function fs) (sym none)
    ∙ c.loop-function.invariant.to_come ∙ ap (λ fs. c.args.self.now ++ map entry.Function fs) all
