use Rattle.std.proofs.Common.{◌≡◌, true, subst}
use Rattle.std.proofs.lemmas.Result.{IfOk-weaker}
use Rattle.std.specs.Prelude.{IsTrue, IfSome}
use Rattle.ap_world.specs.World.{function_of}
use Rattle.ap_world.specs.Primitives.{prim_of}
use Rattle.ap_world.specs.Sound.{is_head, known, speaks_of}
use Rattle.ap_translate.specs.Answers.{Gives}
use Rattle.ap_translate.specs.Table.{term_in, translated}
use Rattle.ap_translate.proofs.Laws.{in_holds, given_holds, given_small, known_keeps, speaking_keeps, SpeaksIn, bound_speaks}
use Rattle.ap_translate.proofs.translator.translate.Goals as goal

pub returns-clause-made : goal.returns-clause-made
returns-clause-made c = subst (λ d. Gives c.translate_in.result (translated c.args.w.now.entries d c.args.f.now)) c.in_ok-bound.ensures c.translate_in.ensures

pub returns-clause-known : goal.returns-clause-known
returns-clause-known c = λ has.
    let W = c.args.w.now.entries in
    let b = c.in_ok-bound.bound.names in
    given_holds (λ u. known (function_of W) u ≡ true) (term_in W 400 b c.args.f.now) c.args.f.now.place c.translate_in.result c.translate_in.ensures
    (in_holds W (λ f n. is_head (function_of W) f (prim_of f) n ≡ true) (λ d u. known (function_of W) u ≡ true) (known_keeps W has) 400 b c.args.f.now)

pub returns-clause-speaks : goal.returns-clause-speaks
returns-clause-speaks c =
    let W = c.args.w.now.entries in
    let b = c.in_ok-bound.bound.names in
    IfOk-weaker c.translate_in.result (SpeaksIn b) (λ u. IfSome c.args.bound (λ xs. IsTrue (speaks_of xs.now u)))
    (λ u k. bound_speaks (λ xs. xs.now) c.args.bound b u c.in_ok-bound.ensures k)
    (given_holds (SpeaksIn b) (term_in W 400 b c.args.f.now) c.args.f.now.place c.translate_in.result c.translate_in.ensures
    (in_holds W (λ f n. Unit {0}) SpeaksIn (speaking_keeps W) 400 b c.args.f.now))

pub returns-clause-small : goal.returns-clause-small
returns-clause-small c = given_small (term_in c.args.w.now.entries 400 c.in_ok-bound.bound.names c.args.f.now) c.args.f.now.place c.translate_in.result c.translate_in.ensures
