-- A clause whose literals are rewritten, each while the others are assumed false, is valid where what is left is.
use Rattle.std.proofs.Common.{◌≡◌, ◌≢◌, true, List, [], ◌∷◌, ◌++◌, Option, None, Some, ◌⊎◌, inl, inr}
use Rattle.ap_list.specs.Lists.{Each}
use Rattle.ap_term.specs.declared.term.Term.{Term}
use Rattle.ap_world.specs.Primitives.{nil}
use Rattle.ap_world.specs.Meaning.{Env}
use Rattle.ap_world.specs.Sound.{known}
use Rattle.ap_world.proofs.Knowing.{true_each}
use Rattle.ap_world.proofs.TotalMeaning.{Apply, Models, models, val, AnyTrue, valid_is, valid_of}
use Rattle.ap_kernel.specs.declared.objects.Mode.TheVariants.{Iff}
use Rattle.ap_world.specs.Shapes.{is_constant}
use Rattle.ap_kernel.specs.Reductions.{Follows, all_false}
use Rattle.ap_kernel.proofs.Reduced.{any_left, any_right, any_either, any_or, each_append, all_false_hold, all_false_known}
use Rattle.ap_rewrite.specs.Settings.{Setting}
use Rattle.ap_rewrite.specs.Literals.{beside, rewrite_literal, rewrite_literals, rewritten_to}
use Rattle.ap_rewrite.specs.SoundSettings.{defs_of, SoundSetting}
use Rattle.ap_rewrite.specs.Laws.{LiteralsReduce}
use Rattle.ap_rewrite.proofs.Yields.{Yields, yields_known, yields_after, yields_cond, yields_same}
use Rattle.ap_rewrite.proofs.Truths.{truth_says, constant_truth}
use Rattle.ap_rewrite.proofs.Leads.{Leads}
use Rattle.ap_rewrite.proofs.RewritingStands.{levels_stand}

module _ (S : Setting) (H : SoundSetting S) (A : Apply) (ms : Models (defs_of S) A) where
  abbrev Known : List Term → Type 0
  Known us = Each (λ u. known (defs_of S) u ≡ true) us

  -- what is left is known, and where one of its literals is other than nil, one of these is
  abbrev Leaves : List Term → Option (List Term) → Type 0
  Leaves us None = (e : Env) → AnyTrue A e us
  Leaves us (Some vs) = Known vs × ((e : Env) → AnyTrue A e vs → AnyTrue A e us)

  -- a literal among others is other than nil where the one to which it leads is
  module _ (done rest : List Term) (u v : Term) (ks : Known (done ++ rest)) (l : Leads S H A ms Iff (all_false (done ++ rest)) u v) (e : Env) where
    abbrev Whole : Type 0
    Whole = AnyTrue A e (done ++ u ∷ rest)

    others : AnyTrue A e (done ++ rest) → Whole
    others h = go (any_either (λ w. val A w e ≢ nil) done rest h)
      where
        go : AnyTrue A e done ⊎ AnyTrue A e rest → Whole
        go (inl k) = any_left (λ w. val A w e ≢ nil) done (u ∷ rest) k
        go (inr k) = any_right (λ w. val A w e ≢ nil) done (u ∷ rest) (inr k)

    literal : val A v e ≢ nil → Whole
    literal shown = go (any_or A e (done ++ rest))
      where
        go : AnyTrue A e (done ++ rest) ⊎ Each (λ w. val A w e ≡ nil) (done ++ rest) → Whole
        go (inl h) = others h
        go (inr nils) = any_right (λ w. val A w e ≢ nil) done (u ∷ rest)
            (inl (λ isnil. shown ((l.1 e (all_false_hold (defs_of S) A ms H.ground e (done ++ rest) ks nils)).0 isnil)))

    back : AnyTrue A e ((done ++ v ∷ []) ++ rest) → Whole
    back h = go (any_either (λ w. val A w e ≢ nil) (done ++ v ∷ []) rest h)
      where
        first : AnyTrue A e done ⊎ AnyTrue A e (v ∷ []) → Whole
        first (inl k) = any_left (λ w. val A w e ≢ nil) done (u ∷ rest) k
        first (inr (inl k)) = literal k
        first (inr (inr k)) = absurd k

        go : AnyTrue A e (done ++ v ∷ []) ⊎ AnyTrue A e rest → Whole
        go (inl k) = first (any_either (λ w. val A w e ≢ nil) done (v ∷ []) k)
        go (inr k) = any_right (λ w. val A w e ≢ nil) done (u ∷ rest) (inr k)

  literals : (us done : List Term) → Known done → Known us → Yields (Leaves (done ++ us)) (rewrite_literals S done us)
  literals [] done dk uk = yields_known (Leaves (done ++ [])) (Some done) (dk, λ e h. any_left (λ w. val A w e ≢ nil) done [] h)
  literals (u ∷ rest) done dk uk =
      let ks : Known (done ++ rest) = each_append (λ w. known (defs_of S) w ≡ true) done rest dk uk.1 in
      yields_after (Leads S H A ms Iff (all_false (done ++ rest)) u) (Leaves (done ++ u ∷ rest)) (rewrite_literal S done rest u) _
      (levels_stand S H A ms 200 Iff (beside done rest) u (all_false_known (defs_of S) (done ++ rest) ks) uk.0)
      (λ v l. yields_cond (Leaves (done ++ u ∷ rest)) (is_constant true v) _ _
      (λ q. yields_known (Leaves (done ++ u ∷ rest)) None (λ e. literal done rest u v ks l e (truth_says A e v true (constant_truth v q))))
      (λ q. yields_same (Leaves ((done ++ v ∷ []) ++ rest)) (Leaves (done ++ u ∷ rest)) (rewrite_literals S (done ++ v ∷ []) rest) (go ks v l)
      (literals rest (done ++ v ∷ []) (each_append (λ w. known (defs_of S) w ≡ true) done (v ∷ []) dk (l.0, tt)) uk.1)))
    where
      go : Known (done ++ rest) → (v : Term) → Leads S H A ms Iff (all_false (done ++ rest)) u v → (o : Option (List Term)) → Leaves ((done ++ v ∷ []) ++ rest) o → Leaves (done ++ u ∷ rest) o
      go ks v l None h = λ e. back done rest u v ks l e (h e)
      go ks v l (Some vs) h = (h.0, λ e k. back done rest u v ks l e (h.1 e k))

pub literals_reduce : LiteralsReduce
literals_reduce S H c n o m ck h =
    let (A, ms) = models (defs_of S) H.sound.total in
    go A ms o (literals S H A ms c.0 [] tt ck n o m h)
  where
    go : (A : Apply) (ms : Models (defs_of S) A) (o : Option (List Term)) → Leaves S H A ms c.0 o → Follows (defs_of S) (rewritten_to c o)
    go A ms None l = record { start = ck; goals = tt; valid = λ valid. valid_of (defs_of S) A ms c.0 (true_each (known (defs_of S)) c.0 ck) l }
    go A ms (Some us) l = record {
      start = ck;
      goals = (l.0, tt);
      valid = λ valid. valid_of (defs_of S) A ms c.0 (true_each (known (defs_of S)) c.0 ck) (λ e. l.1 e (valid_is (defs_of S) A ms us valid.0 e));
    }
