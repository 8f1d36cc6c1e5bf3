-- What is known of a job that was worked at a table which workers share.
use Rattle.std.proofs.Common.{◌≡◌, ℕ, refl, subst, inl, inr}
use Rattle.ap_walk.specs.declared.act.Stepped.{Stepped}
use Rattle.ap_table.specs.declared.stored.Claim.{Claim}
use Rattle.ap_table.specs.declared.stored.Claim.TheVariants as claim
use Rattle.ap_table.specs.declared.stored.Job.{Job}
use Rattle.ap_table.specs.Locked.{OneStep}
use Rattle.ap_table.specs.Worded.{FoundWas}
use Rattle.ap_table.specs.Shown.{Run}
use Rattle.ap_table.specs.Steps.{Claims, ClaimsAt}
use Rattle.ap_speculate.specs.Boards.{IsPut, IsPutDrop, IsGrown, IsRefused, IsEnded, IsWalked, IsHandedBack}
use Rattle.ap_speculate.specs.Turns.{DidShared, WasClaimed}

module _ {T B : Type 0} (step : T → Stepped T) (depth : T → ℕ) where
  -- at whatever a worker has of the table
  abbrev DidSome : B → (Run T → Run T → Type 0) → B → Type 0
  DidSome old does new = OneStep step depth does

  put_shared : (old new : B) (job : Job T) → IsPut step depth DidSome old new job → IsPut step depth (DidShared step depth) tt tt job
  put_shared old new job p = record { back = p.back; stays = p.stays; taken = p.taken; done = p.done }

  drop_shared : (old new : B) (job : Job T) → IsPutDrop step depth DidSome old new job → IsPutDrop step depth (DidShared step depth) tt tt job
  drop_shared old new job d = record { back = d.back; stays = d.stays; license = d.license; read = d.read; taken = d.taken; done = d.done }

  grown_shared : (old new : B) (job : Job T) → IsGrown step depth DidSome old new job → IsGrown step depth (DidShared step depth) tt tt job
  grown_shared old new job w = record { due = w.due; back = w.back; stays = w.stays; family = w.family; first = w.first; count = w.count; done = w.done }

  refused_shared : (old new : B) (job : Job T) → IsRefused step depth DidSome old new job → IsRefused step depth (DidShared step depth) tt tt job
  refused_shared old new job r = record { due = r.due; back = r.back; stays = r.stays; again = r.again; done = r.done }

  ended_shared : (old new : B) (job : Job T) → IsEnded step depth DidSome old new job → IsEnded step depth (DidShared step depth) tt tt job
  ended_shared old new job (inl p) = inl (put_shared old new job p)
  ended_shared old new job (inr d) = inr (drop_shared old new job d)

  walked_shared : (old new : B) (job : Job T) → IsWalked step depth DidSome old new job → IsWalked step depth (DidShared step depth) tt tt job
  walked_shared old new job w = record { from = tt; begun = elim w.begun [ inl n ↦ inl (refl, n.1) | inr r ↦ inr (refused_shared old w.from job r) ]; back = w.back; stays = w.stays; ended = ended_shared w.from new w.back w.ended }

  pub back_shared : (old new : B) (job : Job T) → IsHandedBack step depth DidSome old new job → IsHandedBack step depth (DidShared step depth) tt tt job
  back_shared old new job (inl d) = inl (drop_shared old new job d)
  back_shared old new job (inr (inl w)) = inr (inl (grown_shared old new job w))
  back_shared old new job (inr (inr w)) = inr (inr (walked_shared old new job w))

module _ {T : Type 0} (step : T → Stepped T) (depth : T → ℕ) where
  -- the job that a claim found
  pub found_one : (r : Claim T) (job : Job T) → r ≡ claim.Found job → OneStep step depth (λ old new. Claims step depth old new r) → FoundWas step depth r → WasClaimed step depth job
  found_one r job is h was = (inl (subst (λ r. OneStep step depth (λ old new. Claims step depth old new r)) is h), subst (FoundWas step depth) is was)

  -- and one by a node's number
  pub found_at : (r : Claim T) (job : Job T) (k : ℕ) → r ≡ claim.Found job → OneStep step depth (λ old new. ClaimsAt step depth old new k r) → FoundWas step depth r → WasClaimed step depth job
  found_at r job k is h was = (inr (k, subst (λ r. OneStep step depth (λ old new. ClaimsAt step depth old new k r)) is h), subst (FoundWas step depth) is was)

  -- a claim that found no job
  pub none_free : (r : Claim T) → r ≡ claim.Nothing → OneStep step depth (λ old new. Claims step depth old new r) → OneStep step depth (λ old new. Claims step depth old new claim.Nothing)
  none_free r is h = subst (λ r. OneStep step depth (λ old new. Claims step depth old new r)) is h
