-- The literals of a clause, each rewritten while the others are assumed false.
use Rattle.std.specs.Prelude.{ℕ, true, cond, List, [], ◌∷◌, ◌++◌, Option, Some, None}
use Rattle.ap_term.specs.declared.term.Term.{Term}
use Rattle.ap_term.specs.declared.term.Clause.{Clause}
use Rattle.ap_world.specs.Shapes.{is_constant}
use Rattle.ap_kernel.specs.declared.objects.Mode.TheVariants.{Iff}
use Rattle.ap_kernel.specs.declared.reductions.Inference.{Inference}
use Rattle.ap_kernel.specs.Reductions.{all_false}
use Rattle.ap_clausify.specs.Splitting.{Left, split_of}
use Rattle.ap_term.specs.Metered.{By, known, after}
use Rattle.ap_rewrite.specs.Settings.{Setting, Place}
use Rattle.ap_rewrite.specs.Rewriting.{rewrite_of}

-- the place of a literal among others
abbrev pub beside : List Term → List Term → Place
beside done rest = record { facts = all_false (done ++ rest); closed = []; chain = 0 }

abbrev pub rewrite_literal : Setting → List Term → List Term → Term → By Term
rewrite_literal S done rest u = rewrite_of S Iff (beside done rest) u

-- from left to right, those before as rewritten; none where one becomes a constant other than nil, which proves the
-- clause
abbrev pub rewrite_literals : Setting → List Term → List Term → By (Option (List Term))
rewrite_literals S done [] n = Some (Some done, n)
rewrite_literals S done (u ∷ rest) n =
    after (rewrite_literal S done rest u n) (λ v n. cond (is_constant true v) (known None n) (rewrite_literals S (done ++ v ∷ []) rest n))

-- one clause is left, or none where a literal is proved
abbrev pub left_of : Option (List Term) → List Clause
left_of None = []
left_of (Some us) = record { 0 = us } ∷ []

abbrev pub rewritten_to : Clause → Option (List Term) → Inference
rewritten_to c o = record { from = c; to = left_of o }

-- what is left is then split, by the steps that are left
abbrev pub split_left : Option (List Term) → ℕ → Left
split_left None n = Some ([], n)
split_left (Some us) n = split_of n (record { 0 = us })

abbrev pub simplify_of : Setting → ℕ → Clause → Left
simplify_of S n c = after (rewrite_literals S [] c.0 n) split_left
