-- How an event with a name ends.
use Rattle.std.proofs.Common.{◌≡◌, ℕ, Bool, true, false, Option, Result, Ok, Err, IfOk, OnOk, List, [], ◌∷◌, ◌++◌, refl, ap, sym, ◌∙◌, subst}
use Rattle.ap_list.specs.Lists.{Each}
use Rattle.ap_world.specs.Sound.{HasFunctions, Sound}
use Rattle.ap_world.specs.World.{Shown, function_of}
use Rattle.ap_attempt.specs.declared.verdict.Verdict.{Verdict}
use Rattle.ap_kernel.specs.Reductions.{KnownClause}
use Rattle.ap_walk.specs.declared.act.Reason.{Reason}
use Rattle.ap_plain.specs.declared.attempting.Trial.{Trial}
use Rattle.ap_plain.specs.declared.end.Outcome.{Outcome}
use Rattle.ap_stated.specs.declared.owed.Owed.{Owed}
use Rattle.ap_plain.specs.declared.proposing.Proposal.{Proposal}
use Rattle.ap_plain.specs.declared.proposing.Proposal.TheVariants as proposal
use Rattle.ap_stated.specs.declared.refusing.Refusal.{Refusal}
use Rattle.ap_plain.specs.Attempts.{Tried, before, Tries}
use Rattle.ap_plain.specs.Ends.{Did}
use Rattle.ap_plain.specs.Proposals.{said_of, owed_of, put, IsStated, proved_event}
use Rattle.ap_stated.specs.Texts.{said_line, refused_line, event_text}
use Rattle.ap_stated.proofs.Defining.{owed_known}
use Rattle.ap_plain.proofs.Ending.{did_refused, did_admitted}
use Rattle.ap_stated.proofs.Standing.{theorem_known}

-- what is owed speaks of the world
pub all_known : (w : Shown) (p : Proposal) → Sound w.entries → HasFunctions (function_of w.entries) → IsStated w p → Each (λ (o : Owed). KnownClause (function_of w.entries) o.clause) (owed_of p)
all_known w (proposal.Theorem t) sound functions stated = (theorem_known w t sound functions stated, tt)
all_known w (proposal.Function t) sound functions stated = owed_known w t.definition t.measure functions stated.free stated.prepared stated.ends

-- attempts with lines before theirs
pub opened : (t : Tried) (r : Trial) (lines : List ℕ) → Tries t r → Tries (before lines [] t) (record { lines = lines ++ r.lines; verdict = r.verdict; goals = r.goals; drops = r.drops })
opened t r lines h = record { lines = ap (λ ls. lines ++ ls) h.lines; verdict = h.verdict; goals = h.goals; drops = h.drops }

did_proved : (w : Shown) (title : List ℕ) (enabled : Bool) (p : Proposal) (r : Trial) (t : Tried) → Tries t r → r.verdict ≡ Verdict.Qed
    → Did (proved_event w title enabled p t.lines t.walks t.verdict) w (put enabled w p) (record { text = event_text title r.lines (said_line title (said_of p)); admitted = true; goals = r.goals; drops = r.drops })
unfolding proved_event
did_proved w title enabled p r t h qed =
    subst (λ v. Did (proved_event w title enabled p t.lines t.walks v) w (put enabled w p) (record { text = event_text title r.lines (said_line title (said_of p)); admitted = true; goals = r.goals; drops = r.drops })) (sym qed ∙ h.verdict)
    (subst (λ ls. Did (proved_event w title enabled p ls t.walks Verdict.Qed) w (put enabled w p) (record { text = event_text title r.lines (said_line title (said_of p)); admitted = true; goals = r.goals; drops = r.drops })) h.lines
    (did_admitted w (put enabled w p) (event_text title r.lines (said_line title (said_of p))) t.walks r.goals r.drops h.goals h.drops))

did_failed : (w : Shown) (title : List ℕ) (enabled : Bool) (p : Proposal) (r : Trial) (t : Tried) (f : Reason) → Tries t r → r.verdict ≡ Verdict.Failed f
    → Did (proved_event w title enabled p t.lines t.walks t.verdict) w w (record { text = event_text title r.lines (refused_line title (Refusal.Attempt f)); admitted = false; goals = r.goals; drops = r.drops })
unfolding proved_event
did_failed w title enabled p r t f h failed =
    subst (λ v. Did (proved_event w title enabled p t.lines t.walks v) w w (record { text = event_text title r.lines (refused_line title (Refusal.Attempt f)); admitted = false; goals = r.goals; drops = r.drops })) (sym failed ∙ h.verdict)
    (subst (λ ls. Did (proved_event w title enabled p ls t.walks (Verdict.Failed f)) w w (record { text = event_text title r.lines (refused_line title (Refusal.Attempt f)); admitted = false; goals = r.goals; drops = r.drops })) h.lines
    (did_refused w (event_text title r.lines (refused_line title (Refusal.Attempt f))) t.walks r.goals r.drops h.goals h.drops))

-- an event that ends by its attempts
pub proved_end : {E : Type 0} (x : Result Outcome E) (w v : Shown) (title : List ℕ) (enabled : Bool) (p : Proposal) (r : Trial) → r.verdict ≡ Verdict.Qed → OnOk x (v ≡ put enabled w p)
    → IfOk x (λ e. e ≡ record { text = event_text title r.lines (said_line title (said_of p)); admitted = true; goals = r.goals; drops = r.drops })
    → IfOk x (λ e. (t : Tried) → Tries t r → Did (proved_event w title enabled p t.lines t.walks t.verdict) w v e)
proved_end (Err e) w v title enabled p r qed is made = tt
proved_end (Ok e) w v title enabled p r qed is made = λ t h.
    subst (λ x. Did (proved_event w title enabled p t.lines t.walks t.verdict) w v x) (sym made)
    (subst (λ u. Did (proved_event w title enabled p t.lines t.walks t.verdict) w u (record { text = event_text title r.lines (said_line title (said_of p)); admitted = true; goals = r.goals; drops = r.drops })) (sym is)
    (did_proved w title enabled p r t h qed))

pub failed_end : {E : Type 0} (x : Result Outcome E) (w : Shown) (title : List ℕ) (enabled : Bool) (p : Proposal) (r : Trial) (f : Reason) → r.verdict ≡ Verdict.Failed f
    → IfOk x (λ e. e ≡ record { text = event_text title r.lines (refused_line title (Refusal.Attempt f)); admitted = false; goals = r.goals; drops = r.drops })
    → IfOk x (λ e. (t : Tried) → Tries t r → Did (proved_event w title enabled p t.lines t.walks t.verdict) w w e)
failed_end (Err e) w title enabled p r f failed made = tt
failed_end (Ok e) w title enabled p r f failed made = λ t h.
    subst (λ x. Did (proved_event w title enabled p t.lines t.walks t.verdict) w w x) (sym made) (did_failed w title enabled p r t f h failed)

-- at the attempts that were made
pub at_tried : {E : Type 0} (x : Result Outcome E) (w v u : Shown) (title : List ℕ) (enabled : Bool) (p : Proposal) (r : Trial) (t : Tried) → u ≡ w → Tries t r
    → IfOk x (λ e. (t : Tried) → Tries t r → Did (proved_event u title enabled p t.lines t.walks t.verdict) u v e)
    → IfOk x (Did (proved_event w title enabled p t.lines t.walks t.verdict) w v)
at_tried (Err e) w v u title enabled p r t same tries h = tt
at_tried (Ok e) w v u title enabled p r t same tries h = subst (λ x. Did (proved_event x title enabled p t.lines t.walks t.verdict) x v e) same (h t tries)

-- what attempts show where they are all `Qed`, with lines before theirs
pub opened_valid : {E : Type 0} (x : Result Trial E) (lines : List ℕ) (r : Trial) (V : Type 0) → IfOk x (λ t. t ≡ record { lines = lines; verdict = r.verdict; goals = r.goals; drops = r.drops }) → (r.verdict ≡ Verdict.Qed → V)
    → IfOk x (λ t. t.verdict ≡ Verdict.Qed → V)
opened_valid (Ok t) lines r V made shown = λ qed. shown (sym (ap (λ (t : Trial). t.verdict) made) ∙ qed)
opened_valid (Err e) lines r V made shown = tt
