-- What the type of a memo keeps.
use Rattle.std.specs.Prelude.{◌≡◌, ℕ, ◌≤◌, nat_eq, List, [], ◌∷◌, ◌++◌, map, reverse, Option, Some, None, ◌⊎◌}
use Rattle.indexmap.specs.IndexMap.{insert_entry}
use Rattle.ap_list.specs.Lists.{Each}
use Rattle.ap_value.specs.declared.symbol.Symbol.{Symbol}
use Rattle.ap_term.specs.declared.term.Term.{Term}
use Rattle.ap_world.specs.declared.theory.Theory.{Theory}
use Rattle.ap_world.specs.World.{Shown}
use Rattle.ap_world.specs.Facts.{Facts}
use Rattle.ap_kernel.specs.declared.objects.Ctx.{Ctx}
use Rattle.ap_kernel.specs.Standing.{Stands}
use Rattle.ap_rewrite.specs.declared.known.Known.{Known}
use Rattle.ap_rewrite.specs.declared.table.Table.{Table}
use Rattle.ap_rewrite.specs.ByCost.{Fits, charged}
use Rattle.ap_rewrite.specs.Rewriting.{rewrite_to}
use Rattle.ap_rewrite.specs.InWorld.{world_setting}
use Rattle.ap_rewrite.specs.Keys.{place_term}
use Rattle.ap_rewrite.specs.Shown.{MemoShown}

-- the place of a table, as a term, where there is one
abbrev pub place_in : Option Table → Option Term
place_in None = None
place_in (Some t) = Some (place_term t.ctx.0 t.closed)

-- what contracts see of a memo with these tables; the place that was entered last is the first of those around
abbrev pub shown : Shown → Theory → List Term → Option Table → List (Option Table) → MemoShown
shown w h us here outer = record { world = w; theory = h; expand = us; place = place_in here; around = reverse (map place_in outer) }

module _ (w : Shown) (h : Theory) (us : List Term) where
  -- what is kept of a term is the definition's, for that world, theory and list: the equivalence stands, and wherever
  -- its cost can't tell the levels and the hypotheses around it apart it is charged exactly
  pub record IsKnown (fs : Facts) (cl : List Symbol) (k : Known) : Type 0 where
    pub ctx : k.answer.says.ctx.0 ≡ fs
    pub stands : Stands w k.answer
    pub exact : (d c : ℕ) → k.cost ≤ d → Fits k.cost k.chain c → (j : ℕ)
        → rewrite_to (world_setting w h us) d k.answer.says.mode (record { facts = fs; closed = cl; chain = c }) k.answer.says.lhs j ≡ charged k.answer.says.rhs k.cost j

  -- and so is all that a table keeps
  abbrev pub IsTable : Option Table → Type 0
  IsTable None = Unit {0}
  IsTable (Some t) = Each (λ e. IsKnown t.ctx.0 t.closed e.1) t.entries.entries

  -- the table of the place at which rewriting stands, those of the places around it, and the one that was left last
  pub record Remembers (here : Option Table) (outer : List (Option Table)) (past : Option Table) : Type 0 where
    pub now : IsTable here
    pub around : Each IsTable outer
    pub last : IsTable past

-- a table of the same place has what there was, or an entry more
abbrev pub Puts : Option Table → Option Table → ℕ → Known → Type 0
Puts None u n k = u ≡ None
Puts (Some t) None n k = ⊥
Puts (Some t) (Some u) n k =
    (u.ctx ≡ t.ctx) × (u.closed ≡ t.closed) × ((u.entries.entries ≡ insert_entry nat_eq t.entries.entries n k) ⊎ (u.entries.entries ≡ t.entries.entries))

-- a table of these facts and functions is empty, or the one that was left last
pub record IsFor (c : Ctx) (cl : List Symbol) (past : Option Table) (t : Table) : Type 0 where
  pub ctx : t.ctx ≡ c
  pub closed : t.closed ≡ cl
  pub entries : (t.entries.entries ≡ []) ⊎ (past ≡ Some t)

-- the place that was entered last is left
pub record Leaves (here here' : Option Table) (outer outer' : List (Option Table)) (past past' : Option Table) : Type 0 where
  pub outer_is : outer ≡ outer' ++ here' ∷ []
  pub last : (past' ≡ here) ⊎ (past' ≡ past)
