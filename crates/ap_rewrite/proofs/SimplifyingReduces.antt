-- A clause that is simplified is valid where all that is left of it are.
use Rattle.std.proofs.Common.{◌≡◌, ℕ, List, [], Option, Some, None, refl, ap, subst}
use Rattle.ap_term.specs.declared.term.Term.{Term}
use Rattle.ap_term.specs.declared.term.Clause.{Clause}
use Rattle.ap_kernel.specs.Reductions.{Follows}
use Rattle.ap_clausify.proofs.SplitStands.{split_reduces}
use Rattle.ap_term.specs.Metered.{Got, after}
use Rattle.ap_rewrite.specs.Literals.{rewrite_literals, split_left}
use Rattle.ap_rewrite.specs.SoundSettings.{defs_of}
use Rattle.ap_rewrite.specs.Laws.{SimplifyingReduces}
use Rattle.ap_rewrite.proofs.LiteralsReduce.{literals_reduce}

pub simplifying_reduces : SimplifyingReduces
simplifying_reduces S H c n cs m ck h = go (rewrite_literals S [] c.0 n) refl h
  where
    by : (o : Option (List Term)) (k : ℕ) → rewrite_literals S [] c.0 n ≡ Some (o, k) → split_left o k ≡ Some (cs, m) → Follows (defs_of S) (record { from = c; to = cs })
    by None k q h =
        let pair : ◌≡◌ {A = List Clause × ℕ} ([], k) (cs, m) = cc in
        subst (λ ds. Follows (defs_of S) (record { from = c; to = ds })) (ap (λ (x : List Clause × ℕ). x.0) pair) (literals_reduce S H c n None k ck q)
    by (Some us) k q h =
        let first = literals_reduce S H c n (Some us) k ck q in
        let then = split_reduces (defs_of S) H.sound.total H.ground k (record { 0 = us }) cs m first.goals.0 h in
        record { start = ck; goals = then.goals; valid = λ valid. first.valid (then.valid valid, tt) }

    go : (x : Got (Option (List Term))) → rewrite_literals S [] c.0 n ≡ x → after x split_left ≡ Some (cs, m) → Follows (defs_of S) (record { from = c; to = cs })
    go None q h = cc
    go (Some x) q h = by x.0 x.1 q h
