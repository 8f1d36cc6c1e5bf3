-- How the event that includes a book ends.
use Rattle.std.proofs.Common.{◌≡◌, ◌↔◌, ℕ, Bool, true, false, cond, List, [], Option, Some, Result, Ok, Err, IfOk, IsTrue, refl, ap, sym, ◌∙◌, subst}
use Rattle.std.proofs.lemmas.Option.{none-some, same_Some}
use Rattle.std.specs.Prelude.{IsErrOf, codes}
use Rattle.ap_world.specs.declared.world.AddError.{AddError}
use Rattle.ap_world.specs.Including.{missing, has_clash, included}
use Rattle.ap_world.specs.World.{Shown}
use Rattle.ap_plain.specs.declared.end.Outcome.{Outcome}
use Rattle.ap_stated.specs.declared.refusing.Refusal.{Refusal}
use Rattle.ap_plain.specs.Ends.{Done, admitted, refused_alone, Did}
use Rattle.ap_stated.specs.Texts.{said_line}
use Rattle.ap_plain.proofs.Telling.{notes_none}
use Rattle.ap_events.specs.Books.{include_title, include_by, include_of}
use Rattle.ap_events.specs.Joining.{no_outcome, Begins}

pub include_refused : (w k : Shown) (n : List ℕ) → has_clash w.entries k.entries ≡ true → include_of w n k ≡ refused_alone (include_title n) Refusal.NameTaken
unfolding include_of
include_refused w k n is = ap (λ b. include_by b w n k) is

pub include_admitted : (w k : Shown) (n : List ℕ) → has_clash w.entries k.entries ≡ false → include_of w n k ≡ admitted (included w k) (said_line (include_title n) (codes " admitted")) []
unfolding include_of
include_admitted w k n is = ap (λ b. include_by b w n k) is

-- an event without attempts that is admitted
pub admitted_did : (w v : Shown) (text : List ℕ) → Did (admitted v text []) w v (record { text = text; admitted = true; goals = 0; drops = [] })
admitted_did w v text = record { text = refl; next = refl; kept = λ stopped. absurd (cc stopped); goals = refl; drops = notes_none [] }

pub included_did : (w k v : Shown) (n title text : List ℕ) (o : Outcome) → has_clash w.entries k.entries ≡ false → title ≡ include_title n → text ≡ said_line title (codes " admitted") → v ≡ included w k
    → o ≡ record { text = text; admitted = true; goals = 0; drops = [] } → Did (include_of w n k) w v o
included_did w k v n title text o free titled said is made =
    subst (λ d. Did d w v o) (sym (include_admitted w k n free))
    (subst (λ (x : Outcome). Did (admitted (included w k) (said_line (include_title n) (codes " admitted")) []) w v x) (sym made)
    (subst (λ t. Did (admitted (included w k) (said_line (include_title n) (codes " admitted")) []) w v (record { text = t; admitted = true; goals = 0; drops = [] })) (sym (said ∙ ap (λ t. said_line t (codes " admitted")) titled))
    (subst (λ (x : Shown). Did (admitted (included w k) (said_line (include_title n) (codes " admitted")) []) w x (record { text = said_line (include_title n) (codes " admitted"); admitted = true; goals = 0; drops = [] })) (sym is)
    (admitted_did w (included w k) (said_line (include_title n) (codes " admitted"))))))

pub refused_did : {E : Type 0} (r : Result Outcome E) (w k : Shown) (n title : List ℕ) → has_clash w.entries k.entries ≡ true → title ≡ include_title n
    → IfOk r (λ e. (w : Shown) → Did (refused_alone title Refusal.NameTaken) w w e) → IfOk r (Did (include_of w n k) w w)
refused_did (Err e) w k n title is titled h = tt
refused_did (Ok o) w k n title is titled h =
    subst (λ d. Did d w w o) (sym (include_refused w k n is)) (subst (λ t. Did (refused_alone t Refusal.NameTaken) w w o) titled (h w))

-- a book that was included has no clash
pub not_clash : {A : Type 0} (r : Result A AddError) (b : Bool) → (x : A) → r ≡ Ok x → (IsErrOf r AddError.NameTaken ↔ IsTrue b) → b ≡ false
not_clash r true x is taken = absurd (cc (is, taken.1 refl))
not_clash r false x is taken = refl

-- what is made again tells itself
pub made_did : (w v x : Shown) (o : Outcome) → x ≡ v → o ≡ no_outcome → Did (admitted v [] []) w x o
made_did w v x o is made =
    subst (λ (y : Outcome). Did (admitted v [] []) w x y) (sym made)
    (subst (λ (y : Shown). Did (admitted v [] []) w y no_outcome) (sym is) (admitted_did w v []))

-- a world that included a book has the entries that it had first
pub include_begins : (w k : Shown) (n : List ℕ) (v : Shown) → (include_of w n k).next ≡ Some v → Begins w v
unfolding include_of
include_begins w k n v = go (has_clash w.entries k.entries)
  where
    go : (b : Bool) → (include_by b w n k).next ≡ Some v → Begins w v
    go true h = absurd (none-some v h)
    go false h = (missing w.entries k.entries, ap (λ (x : Shown). x.entries) (sym (same_Some (included w k) v h)))
