use Rattle.std.proofs.Common.{◌≡◌, ◌≤◌, ◌++◌, length, take, subst, sym, rules, ◌∙◌}
use Rattle.ap_linear.specs.Ranked.{without, with_positive}
use Rattle.ap_linear.proofs.Walks.{take-short, take-onto}
use Rattle.ap_linear.proofs.eliminating.eliminated.Goals as goal

pub add_with_positive-requires : goal.add_with_positive-requires
add_with_positive-requires c =
    let cut : c.truncate.new.self ≡ take 64 c.in_ok-out.out = search rules in
    subst (λ rs. length rs ≤ 64) (sym cut) (take-short 64 c.in_ok-out.out)

pub returns : goal.returns
returns c =
    let all : c.add_with_positive.new.out ≡ take 64 (take 64 (without c.args.rank c.args.rows.now) ++ with_positive c.args.atoms c.args.rank c.args.rows.now c.args.rows.now) = search rules in
    all ∙ take-onto 64 (without c.args.rank c.args.rows.now) (with_positive c.args.atoms c.args.rank c.args.rows.now c.args.rows.now)
