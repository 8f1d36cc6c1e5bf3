-- What keys say one after another, and the hint that they give.
use Rattle.std.proofs.Common.{◌≡◌, ◌-◌, ◌≤◌, Bool, List, [], ◌∷◌, length, take, drop, get_or, Ok, sym, ap, ◌∙◌, subst, arith}
use Rattle.std.proofs.Math.Seq.{take-length}
use Rattle.ap_reader.specs.declared.form.Form.{Form}
use Rattle.ap_names.specs.Names.{Name, name_eq, root}
use Rattle.ap_world.specs.World.{Shown}
use Rattle.ap_hints.specs.declared.fault.HintError.{HintError}
use Rattle.ap_hints.specs.declared.hint.Hints.{Hints}
use Rattle.ap_hints.specs.declared.said.Said.{Said}
use Rattle.ap_hints.specs.Answers.{Answer, ◌>>=◌, Fails}
use Rattle.ap_hints.specs.Hinted.{nothing, said_of, all_said, with_hint, hint_said}
use Rattle.ap_hints.proofs.Refusals.{then_fails}

pub first_and_rest : {A : Type 0} (xs : List A) (x : A) → 1 ≤ length xs → x ≡ get_or xs 0 x → xs ≡ x ∷ take (length xs - 1) (drop 1 xs)
first_and_rest [] x h is = absurd (omega arith)
first_and_rest (y ∷ ys) x h is =
    let same : x ≡ y = is in
    let less : length (y ∷ ys) - 1 ≡ length ys = omega arith in
    ap (λ z. z ∷ ys) (sym same) ∙ ap (λ zs. x ∷ zs) (sym (ap (λ n. take n ys) less ∙ take-length ys))

pub said_next : (w : Shown) (at_goal : Bool) (s z : Said) (all : Answer Said) (left more : List Form) (k f : Form)
    → left ≡ k ∷ more → 1 ≤ length more → f ≡ get_or more 0 f → said_of w at_goal s k f ≡ Ok z → all_said w at_goal s left ≡ all
    → all_said w at_goal z (take (length more - 1) (drop 1 more)) ≡ all
said_next w at_goal s z all left more k f is h first made told =
    ap (λ r. r >>= λ y. all_said w at_goal y (take (length more - 1) (drop 1 more))) (sym made)
    ∙ ap (λ fs. all_said w at_goal s (k ∷ fs)) (sym (first_and_rest more f h first))
    ∙ ap (all_said w at_goal s) (sym is) ∙ told

pub hint_fails : (w : Shown) (hs : Hints) (fs : List Form) (goal : Name) (b : Bool) (e : HintError)
    → b ≡ name_eq goal root → Fails e (all_said w b nothing fs) → Fails e (hint_said w hs fs goal)
hint_fails w hs fs goal b e q h =
    then_fails e (all_said w (name_eq goal root) nothing fs) (λ s. Ok (with_hint hs goal s)) (subst (λ x. Fails e (all_said w x nothing fs)) q h)

pub hint_made : (w : Shown) (hs : Hints) (fs : List Form) (goal : Name) (b : Bool) (s : Said) (z : Hints)
    → b ≡ name_eq goal root → all_said w b nothing fs ≡ Ok s → z ≡ with_hint hs goal s → hint_said w hs fs goal ≡ Ok z
hint_made w hs fs goal b s z q h k =
    ap (λ x. all_said w x nothing fs >>= λ y. Ok (with_hint hs goal y)) (sym q)
    ∙ ap (λ r. r >>= λ y. Ok (with_hint hs goal y)) h ∙ ap Ok (sym k)
