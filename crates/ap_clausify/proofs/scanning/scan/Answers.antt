use Rattle.std.proofs.Common.{◌≡◌, ◌<◌, ◌≤◌, true, false, true≢false, sym, get_or, length, take, ◌∙◌, rules}
use Rattle.ap_world.specs.Shapes.{shape_of}
use Rattle.ap_clausify.specs.Places.{first_place, found}
use Rattle.ap_clausify.specs.Scanning.{closed_by}
use Rattle.ap_clausify.proofs.Seen.{closed_vanishes, next_none, choice_found, none_found, none_chosen}
use Rattle.ap_clausify.proofs.Tidy.{next_tidy, all_tidy}
use Rattle.ap_clausify.proofs.scanning.scan.Goals as goal

pub returns-then-branch : goal.returns-then-branch
returns-then-branch c =
    let t = c.index-as_slice-literal.result in
    let k = c.loop-literal.literal in
    let below : k < length c.args.c.now.0 = search rules in
    let at : t ≡ get_or c.args.c.now.0 k t = search rules in
    let f : (c.in_ok-find.field-0, c.find.new.at) ≡ found c.loop-literal.at (first_place t) = search rules in (
      choice_found c.args.c.now k t c.in_ok-find.field-0 c.loop-literal.at c.find.new.at c.loop-literal.invariant.none below at c.loop-literal.invariant.at f c.if-branch.true,
      record { within = search rules; none = c.loop-literal.invariant.none; tidy = c.loop-literal.invariant.tidy },
    )

pub returns-then-is_closed_by : goal.returns-then-is_closed_by
returns-then-is_closed_by c =
    let t = c.index-as_slice-literal.result in
    let k = c.loop-literal.literal in
    let below : k < length c.args.c.now.0 = search rules in
    let at : t ≡ get_or c.args.c.now.0 k t = search rules in
    let f : (c.in_ok-find.field-0, c.find.new.at) ≡ found c.loop-literal.at (first_place t) = search rules in
    let none = none_found t c.in_ok-find.field-0 c.loop-literal.at c.find.new.at f c.if-branch.false in
    let closed : closed_by (take k c.args.c.now.0) t (shape_of t) ≡ true = search rules in (
      closed_vanishes c.args.c.now k t below at none.0 c.loop-literal.invariant.none closed,
      record { within = search rules; none = c.loop-literal.invariant.none; tidy = λ h. absurd (true≢false (sym h)) },
    )

pub loop-literal-preserved : goal.loop-literal-preserved
loop-literal-preserved c =
    let t = c.index-as_slice-literal.result in
    let k = c.loop-literal.literal in
    let below : k < length c.args.c.now.0 = search rules in
    let at : t ≡ get_or c.args.c.now.0 k t = search rules in
    let f : (c.in_ok-find.field-0, c.find.new.at) ≡ found c.loop-literal.at (first_place t) = search rules in
    let none = none_found t c.in_ok-find.field-0 c.loop-literal.at c.find.new.at f c.if-branch.false in
    let unclosed : closed_by (take k c.args.c.now.0) t (shape_of t) ≡ false = search rules in
    record {
      at = none.1 ∙ c.loop-literal.invariant.at;
      none = next_none c.args.c.now.0 k t below at none.0 c.loop-literal.invariant.none;
      tidy = next_tidy c.args.c.now.0 k t c.loop-literal.tidy _ below at c.loop-literal.invariant.tidy unclosed (search rules);
    }

pub returns : goal.returns
returns c =
    let past : length c.args.c.now.0 ≤ c.loop-literal.literal = search rules in (
      none_chosen c.args.c.now c.loop-literal.literal past c.loop-literal.invariant.none,
      all_tidy c.args.c.now.0 c.loop-literal.literal c.loop-literal.tidy past c.loop-literal.invariant.tidy,
    )
