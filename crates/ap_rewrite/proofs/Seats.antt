-- The memo's place: where a term is rewritten, while another place is entered, and after it is left.
use Rattle.std.proofs.Common.{◌≡◌, ℕ, List, ◌∷◌, Option, Some, None, refl, sym, ap, ◌∙◌, subst}
use Rattle.ap_term.specs.declared.term.Term.{Term}
use Rattle.ap_term.specs.Metered.{Got}
use Rattle.ap_value.specs.declared.symbol.Symbol.{Symbol}
use Rattle.ap_world.specs.declared.theory.Theory.{Theory}
use Rattle.ap_world.specs.Facts.{Facts}
use Rattle.ap_world.specs.World.{Shown}
use Rattle.ap_kernel.specs.declared.objects.Mode.{Mode}
use Rattle.ap_kernel.specs.declared.objects.Equiv.{Equiv}
use Rattle.ap_rewrite.specs.declared.known.Recalled.TheVariants as recalled
use Rattle.ap_rewrite.specs.declared.rewriter.Rewriter.{Rewriter}
use Rattle.ap_rewrite.specs.declared.rewriter.Place.{Place}
use Rattle.ap_rewrite.specs.Settings.{Setting}
use Rattle.ap_rewrite.specs.InWorld.{world_setting}
use Rattle.ap_rewrite.specs.Rewriting.{rewrite_to}
use Rattle.ap_rewrite.specs.Keys.{place_term}
use Rattle.ap_rewrite.specs.Shown.{MemoShown}
use Rattle.ap_rewrite.specs.Remembering.{RecalledIs}
use Rattle.ap_rewrite.specs.Answering.{Seat, seat_of, seat_at, Here, IsFor, setting_of, inner_of, seen_at, From}

-- a memo that stands within a place which it has entered
abbrev pub entered : MemoShown → Facts → List Symbol → MemoShown
entered m fs cl = record m { place = Some (place_term fs cl); around = m.place ∷ m.around }

seat_parts : (w v : Shown) (h k : Theory) (us ts : List Term) (o : Option Term) → w ≡ v → h ≡ k → us ≡ ts
    → ◌≡◌ {A = Seat} (record { world = w; theory = h; expand = us; place = o }) (record { world = v; theory = k; expand = ts; place = o })
seat_parts w v h k us ts o e f g = rw (e, f, g) refl

module _ {O : Type 0} (r : Rewriter O) where
  pub setting_is : (p : Place) (m : MemoShown) → Here r p m → world_setting m.world m.theory m.expand ≡ setting_of r
  unfolding seat_of
  setting_is p m h = ap (λ (s : Seat). world_setting s.world s.theory s.expand) h

  pub world_is : (p : Place) (m : MemoShown) → Here r p m → m.world ≡ r.w.now
  unfolding seat_of
  world_is p m h = ap (λ (s : Seat). s.world) h

  pub place_is : (p : Place) (m : MemoShown) → Here r p m → m.place ≡ Some (place_term p.ctx.now.0 p.closed.now)
  unfolding seat_of
  place_is p m h = ap (λ (s : Seat). s.place) h

  -- once a place is entered
  pub entered_here : (p : Place) (fs : Facts) (cl : List Symbol) (m n : MemoShown) → Here r p m → n ≡ entered m fs cl
      → seat_of n ≡ record { world = r.w.now; theory = r.theory.now; expand = r.expand.now; place = Some (place_term fs cl) }
  unfolding seat_of
  entered_here p fs cl m n h e = ap seat_of e ∙ ap (λ (s : Seat). record s { place = Some (place_term fs cl) }) h

  pub entered_for : (fs : Facts) (cl : List Symbol) (m n : MemoShown) → IsFor r m → n ≡ entered m fs cl
      → seat_of n ≡ record { world = r.w.now; theory = r.theory.now; expand = r.expand.now; place = Some (place_term fs cl) }
  unfolding seat_of
  entered_for fs cl m n h e = ap seat_of e ∙ seat_parts m.world r.w.now m.theory r.theory.now m.expand r.expand.now (Some (place_term fs cl)) h.0 h.1 h.2

  -- what is known is what the definition gives
  pub known_is : (p : Place) (m : MemoShown) (d : ℕ) (o : Mode) (u : Term) (n : ℕ) (q : Equiv) (left : ℕ) → Here r p m
      → RecalledIs m d o p u n (recalled.Known q left) → ◌≡◌ {A = Got Term} (Some (q.says.rhs, left)) (inner_of r d o (seen_at p) u n)
  known_is p m d o u n q left h k = sym k.0 ∙ ap (λ (S : Setting). rewrite_to S d o (seen_at p) u n) (setting_is p m h)

  pub known_from : (p : Place) (m : MemoShown) (d : ℕ) (o : Mode) (u : Term) (n : ℕ) (q : Equiv) (left : ℕ) → Here r p m
      → RecalledIs m d o p u n (recalled.Known q left) → From r.w.now o p.ctx.now u q
  known_from p m d o u n q left h k = subst (λ (w : Shown). From w o p.ctx.now u q) (world_is p m h) k.1

  pub out_is : (p : Place) (m : MemoShown) (d : ℕ) (o : Mode) (u : Term) (n : ℕ) → Here r p m
      → RecalledIs m d o p u n recalled.Out → None ≡ inner_of r d o (seen_at p) u n
  out_is p m d o u n h k = sym k ∙ ap (λ (S : Setting). rewrite_to S d o (seen_at p) u n) (setting_is p m h)

  -- what is kept is what the definition gives
  pub kept_is : (p : Place) (m : MemoShown) (d : ℕ) (o : Mode) (u : Term) (n : ℕ) (v : Term) (left : ℕ) → Here r p m
      → ◌≡◌ {A = Got Term} (Some (v, left)) (inner_of r d o (seen_at p) u n) → rewrite_to (world_setting m.world m.theory m.expand) d o (seen_at p) u n ≡ Some (v, left)
  kept_is p m d o u n v left h k = ap (λ (S : Setting). rewrite_to S d o (seen_at p) u n) (setting_is p m h) ∙ sym k

  pub kept_from : (p : Place) (m : MemoShown) (o : Mode) (u : Term) (q : Equiv) → Here r p m → From r.w.now o p.ctx.now u q → From m.world o p.ctx.now u q
  kept_from p m o u q h k = subst (λ (w : Shown). From w o p.ctx.now u q) (sym (world_is p m h)) k

-- a place that was entered can be left, and then the memo stands where it stood
module _ (m n k : MemoShown) (fs : Facts) (cl : List Symbol) (e : n ≡ entered m fs cl) (f : k ≡ n) where
  pub may_leave : (p : Option Term) × (rest : List (Option Term)) × (k.around ≡ p ∷ rest)
  may_leave = (m.place, m.around, ap (λ (x : MemoShown). x.around) (f ∙ e))

  pub has_left : (l : MemoShown) → ((p : Option Term) (rest : List (Option Term)) → k.around ≡ p ∷ rest → l ≡ record k { place = p; around = rest }) → l ≡ m
  has_left l h = h m.place m.around (ap (λ (x : MemoShown). x.around) (f ∙ e)) ∙ ap (λ (x : MemoShown). record x { place = m.place; around = m.around }) (f ∙ e)
