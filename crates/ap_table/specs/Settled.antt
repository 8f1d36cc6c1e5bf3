-- What settling a finished node does to the kept nodes.
use Rattle.std.specs.Prelude.{◌≡◌, ℕ, ◌+◌, ◌≤◌, nat_eq, cond, List, [], ◌∷◌, length, Option, Some, None}
use Rattle.std.specs.List.{slice_get}
use Rattle.ap_walk.specs.declared.act.Stepped.{Stepped}
use Rattle.ap_walk.specs.declared.act.Process.{Process}
use Rattle.ap_walk.specs.declared.rule.Rule.{Rule}
use Rattle.ap_walk.specs.declared.rule.Tally.{Tally}
use Rattle.ap_table.specs.declared.link.Link.{Link}
use Rattle.ap_word.specs.Stops.{NONE}
use Rattle.ap_table.specs.declared.stored.Entry.{Entry}
use Rattle.ap_table.specs.declared.stored.Entry.TheVariants as entry
use Rattle.ap_table.specs.declared.stored.Stored.{Stored}
use Rattle.ap_table.specs.Core.{Node, parent_of, close_up}
use Rattle.ap_table.specs.Sound.{SoundBut}
use Rattle.ap_table.specs.Shown.{alter, AllShow, NoMore, rooms}
use Rattle.ap_table.specs.Sums.{sum_at, InGoals, Kids, Within, WordsBut}

-- the children that a first mark tells
abbrev pub split_count : Process → ℕ → ℕ
split_count Process.Push n = 0
split_count Process.Stop n = 0
split_count _ n = n

abbrev pub entry_by : ℕ → ℕ → List Entry
entry_by f stop = cond (nat_eq stop NONE) [] (entry.Marked f stop ∷ [])

module _ {T : Type 0} where
  -- what is kept as a family's stop
  abbrev pub told_stop : Option (Stored T) → ℕ
  told_stop None = NONE
  told_stop (Some c) = c.told.stop

  abbrev pub mark_by : List (Stored T) → ℕ → ℕ → List (Stored T)
  mark_by nodes f stop = cond (nat_eq stop NONE) nodes (alter nodes f (λ c. record c { word = stop }))

  -- the word of the family of a link becomes its stop, where it has one
  abbrev pub mark_nodes : List (Stored T) → Option Link → List (Stored T)
  mark_nodes nodes None = nodes
  mark_nodes nodes (Some l) = mark_by nodes l.family (told_stop (slice_get nodes l.family))

  -- and the entry for that
  abbrev pub mark_list : List (Stored T) → Option Link → List Entry
  mark_list nodes None = []
  mark_list nodes (Some l) = entry_by l.family (told_stop (slice_get nodes l.family))

module _ {T : Type 0} (step : T → Stepped T) (depth : T → ℕ) (rule : Rule) where
  -- node i is finished, and its family hasn't heard of it
  pub record Ready (ns : List (Node T)) (nodes : List (Stored T)) (i : ℕ) (s : Option Tally) : Type 0 where
    pub shows : AllShow step nodes ns
    pub sound : SoundBut step depth rule (parent_of (slice_get ns i)) ns
    pub kids : Kids rule (Some i) nodes
    pub in_goals : (k : ℕ) → InGoals (sum_at None nodes k)
    pub sum : sum_at None nodes i ≡ Some s
    pub few : length nodes ≤ 1000000

  -- all families have heard, and these nodes are shown
  pub record Settled (path : List Link) (old new : List (Stored T)) (ms : List (Node T)) : Type 0 where
    pub shows : AllShow step new ms
    pub kids : Kids rule None new
    pub words : WordsBut path new
    pub long : length new ≡ length old
    pub puts : NoMore step old → NoMore step new
    pub room : rooms new ≡ rooms old

  -- the node above was closed, so that it is finished and its own family is to hear of it
  pub record Next (ns : List (Node T)) (f : ℕ) (path : List Link) (old new : List (Stored T)) (i p : ℕ) (s : Option Tally) : Type 0 where
    pub nodes : List (Node T)
    pub fuel : ℕ
    pub ready : Ready nodes new p s
    pub enough : p ≤ fuel
    pub same : close_up step depth rule f ns (parent_of (slice_get ns i)) ≡ close_up step depth rule fuel nodes (parent_of (slice_get nodes p))
    pub words : WordsBut path new
    pub long : length new ≡ length old
    pub puts : NoMore step old → NoMore step new
    pub room : rooms new ≡ rooms old
    pub kept : Stored T
    pub at : slice_get new p ≡ Some kept
    pub within : Within kept.path path
    pub shorter : (c : Stored T) → slice_get old i ≡ Some c → length kept.path + 1 ≡ length c.path

  -- what telling the nearest family comes to: all have heard, or a node was closed
  abbrev pub HearsOne : List (Node T) → ℕ → List Link → List (Stored T) → List (Stored T) → ℕ → Option (ℕ × Option Tally) → Type 0
  HearsOne ns f path old new i None = Settled path old new (close_up step depth rule f ns (parent_of (slice_get ns i)))
  HearsOne ns f path old new i (Some r) = Next ns f path old new i r.0 r.1

  -- for each core that is shown
  abbrev pub SettlesOne : List (Stored T) → List (Stored T) → ℕ → Option Tally → Option (ℕ × Option Tally) → Type 0
  SettlesOne old new i s r = (ns : List (Node T)) (f : ℕ) (path : List Link) → Ready ns old i s → i ≤ f → WordsBut path old → ((c : Stored T) → slice_get old i ≡ Some c → Within c.path path) → HearsOne ns f path old new i r

  abbrev pub Settles : List (Stored T) → List (Stored T) → ℕ → Option Tally → Type 0
  Settles old new i s = (ns : List (Node T)) (f : ℕ) (path : List Link) → Ready ns old i s → i ≤ f → WordsBut path old → ((c : Stored T) → slice_get old i ≡ Some c → Within c.path path)
      → Settled path old new (close_up step depth rule f ns (parent_of (slice_get ns i)))
