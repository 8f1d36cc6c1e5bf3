-- What the hints of an event say, as a user reads them: which goals they are for, and what stands under each key.
use Rattle.std.specs.Prelude.{◌≡◌, IsTrue, ℕ, Bool, false, cond, ◌||◌, List, [], ◌∷◌, map, Option, Some, None, is_some, Ok, codes}
use Rattle.ap_list.specs.Lists.{is_distinct}
use Rattle.ap_reader.specs.declared.form.Form.{Form}
use Rattle.ap_reader.specs.Tops.{layer_of, string_at, items_in, is_keyword}
use Rattle.ap_names.specs.Names.{Name, name_eq}
use Rattle.ap_world.specs.World.{Shown}
use Rattle.ap_hints.specs.declared.hint.Hint.{Hint}
use Rattle.ap_hints.specs.declared.hint.Hints.{Hints}
use Rattle.ap_hints.specs.Answers.{Answer, ◌>>=◌}
use Rattle.ap_hints.specs.Hinted.{read_as, goal_of, theory_in, uses_in, cases_in, calls_in, processes_in, scheme_in, hints_in}

-- the goal that an entry ("NAME" :key value ..) is for: what the string at its front names
abbrev pub named_first : Option (List Form) → Option Name
named_first (Some (n ∷ fs)) = read_as (string_at (layer_of n))
named_first o = None

abbrev pub goal_named : Form → Option Name
goal_named f = named_first (items_in f)

-- its keys and their values, one after another
abbrev pub behind_first : Option (List Form) → List Form
behind_first (Some (n ∷ fs)) = fs
behind_first o = []

abbrev pub keys_in : Form → List Form
keys_in f = behind_first (items_in f)

-- the value of a key, wherever it stands among them
abbrev pub value_of : List ℕ → List Form → Option Form
value_of key (k ∷ f ∷ fs) = cond (is_keyword key k) (Some f) (value_of key fs)
value_of key fs = None

abbrev pub under : List ℕ → Form → Option Form
under key f = value_of key (keys_in f)

-- what the value is read as, where the key stands
abbrev pub read_by : {A : Type 0} → (Form → Answer A) → Option Form → Answer (Option A)
read_by g None = Ok None
read_by g (Some f) = g f >>= λ a. Ok (Some a)

abbrev pub listed_by : {A : Type 0} → (Form → Answer (List A)) → Option Form → Answer (List A)
listed_by g None = Ok []
listed_by g (Some f) = g f

-- an entry's hint is of the goal that it names, and each part of it is what stands under that part's key alone,
-- whatever else is said and in which order
pub record IsHintOf (w : Shown) (f : Form) (h : Hint) : Type 0 where
  pub goal : goal_named f ≡ Some h.goal
  pub theory : read_by (theory_in w) (under (codes "IN-THEORY") f) ≡ Ok h.theory
  pub uses : listed_by (uses_in w.entries) (under (codes "USE") f) ≡ Ok h.uses
  pub cases : listed_by (cases_in w.entries) (under (codes "CASES") f) ≡ Ok h.cases
  pub expand : listed_by (calls_in w.entries) (under (codes "EXPAND") f) ≡ Ok h.expand
  pub skip : listed_by processes_in (under (codes "DO-NOT") f) ≡ Ok h.skip
  pub scheme : read_by (scheme_in w.entries) (under (codes "INDUCT") f) ≡ Ok h.scheme

-- some entry forbids induction
abbrev pub forbid : List Form → Bool
forbid [] = false
forbid (f ∷ fs) = is_some (under (codes "DO-NOT-INDUCT") f) || forbid fs

-- each of the first list with its own of the second, and none is left over
abbrev pub EachWith : {A B : Type 0} → (A → B → Type 0) → List A → List B → Type 0
EachWith P [] [] = Unit {0}
EachWith P (x ∷ xs) (y ∷ ys) = P x y × EachWith P xs ys
EachWith P xs ys = ⊥

-- a form is a list of entries; each is one hint, in the order in which they stand; and no goal has two
pub record IsEachEntrysHint (w : Shown) (f : Form) (hs : Hints) : Type 0 where
  pub entries : List Form
  pub stand : items_in f ≡ Some entries
  pub each : EachWith (IsHintOf w) entries hs.list
  pub once : IsTrue (is_distinct name_eq (map goal_of hs.list))
  pub forbids : forbid entries ≡ hs.do_not_induct

-- of hints that are read
abbrev pub EachEntryIsOneHint : Type 0
EachEntryIsOneHint = (w : Shown) (f : Form) (hs : Hints) → hints_in w f ≡ Ok hs → IsEachEntrysHint w f hs
