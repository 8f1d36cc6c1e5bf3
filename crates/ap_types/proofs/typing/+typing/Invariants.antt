use Rattle.std.proofs.Common.{◌≡◌, ◌+◌, ◌*◌, take, map}
use Rattle.ap_list.specs.Lists.{sum_of}
use Rattle.ap_term.specs.Terms.{term_size}
use Rattle.ap_types.specs.Scopes.{in_scope}
use Rattle.ap_types.specs.Settings.{types_in}
use Rattle.ap_world.specs.Typing.{types_by}
use Rattle.ap_types.proofs.typing.+typing.Given as goal

-- a term's size falls; among the functions of one term the numbers behind it do
abbrev pub decreases-types_at : goal.decreases-types_at
decreases-types_at l = 8 * term_size l.t.now + 3

abbrev pub decreases-form_types : goal.decreases-form_types
decreases-form_types l = 8 * term_size l.t.now + 2

abbrev pub decreases-head_types : goal.decreases-head_types
decreases-head_types l = 8 * sum_of (map term_size l.ts.now) + 7

abbrev pub decreases-call_of_one : goal.decreases-call_of_one
decreases-call_of_one l = 8 * term_size l.a.now + 4

abbrev pub decreases-call_of_two : goal.decreases-call_of_two
decreases-call_of_two l = 8 * (term_size l.a.now + term_size l.b.now) + 4

abbrev pub decreases-other_call : goal.decreases-other_call
decreases-other_call l = 8 * sum_of (map term_size l.ts.now) + 6

abbrev pub decreases-if_types : goal.decreases-if_types
decreases-if_types l = 8 * (term_size l.a.now + (term_size l.b.now + (term_size l.c.now + 0))) + 5

abbrev pub decreases-types_under : goal.decreases-types_under
decreases-types_under l = 8 * term_size l.t.now + 4

abbrev pub decreases-masks_of : goal.decreases-masks_of
decreases-masks_of l = 8 * sum_of (map term_size l.ts.now) + 5

-- the masks of those so far, the contexts as they were
abbrev pub invariant-masks_of-loop-t : goal.invariant-masks_of-loop-t
invariant-masks_of-loop-t l = record {
  masks : l.masks ≡ map (λ u. types_by (types_in l.s.w.now l.s.own) u (in_scope l.s.base l.fn.scopes)) (take l.t-index l.ts);
  scopes : l.scopes ≡ l.fn.scopes;
}
