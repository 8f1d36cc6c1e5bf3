-- The grammar of command lines: how a command is written. A line has options in any order, each at most once, and behind
-- them the names of books; or the demo, and how many goals are worked at a time where that is given.
use Rattle.std.specs.Prelude.{◌≡◌, ◌≤◌, ◌↔◌, ◌⊎◌, ℕ, true, List, [], ◌∷◌, ◌++◌, map, length, Some, None, IsTrue, codes, decimal}
use Rattle.ap_list.specs.Lists.{Each, AnyOf, joined}
use Rattle.ap_cert.specs.Cert.{is_book_name}
use Rattle.ap_session.specs.declared.command.Counted.{Counted}
use Rattle.ap_session.specs.declared.command.Counted.TheVariants.{Workers, Steps, Goals, Revert, Functions}
use Rattle.ap_session.specs.declared.command.Flag.{Flag}
use Rattle.ap_session.specs.declared.command.Flag.TheVariants.{Number, Trace}
use Rattle.ap_session.specs.Command.{Order, Demo, Command, of_books, of_demo, command_of}

-- an option as it stands on a line: one that counts, with its number, or the one that has none
pub data Setting : Type 0 where
  counts : Counted → ℕ → Setting
  traces : Setting

abbrev pub option_of : Setting → Flag
option_of (counts k n) = Number k
option_of traces = Trace

-- what an option is called
abbrev pub word_of : Flag → List ℕ
word_of (Number Workers) = codes "--workers"
word_of (Number Steps) = codes "--steps"
word_of (Number Goals) = codes "--goals"
word_of (Number Revert) = codes "--revert"
word_of (Number Functions) = codes "--demo"
word_of Trace = codes "--trace"

-- the words that an option is written as: behind its name stands its number in decimal digits, without a sign or a leading zero
abbrev pub setting_words : Setting → List (List ℕ)
setting_words (counts k n) = word_of (Number k) ∷ decimal n ∷ []
setting_words traces = word_of Trace ∷ []

abbrev pub written : List Setting → List (List ℕ)
written os = joined (map setting_words os)

-- the least and the greatest number that an option takes
abbrev pub least : Counted → ℕ
least Revert = 2
least k = 1

abbrev pub most : Counted → ℕ
most Workers = 64
most Steps = 1000000
most Goals = 100000
most Revert = 100
most Functions = 1000

abbrev pub IsTaken : Setting → Type 0
IsTaken (counts k n) = (least k ≤ n) × (n ≤ most k)
IsTaken traces = Unit {0}

-- no two of a list have one key
abbrev pub Apart : {A B : Type 0} → (A → B) → List A → Type 0
Apart key [] = Unit {0}
Apart key (x ∷ xs) = Each (λ y. ¬ (key y ≡ key x)) xs × Apart key xs

-- options that a line may have: each with a number that it takes, and at most once
pub record AreSettings (os : List Setting) : Type 0 where
  pub taken : Each IsTaken os
  pub once : Apart option_of os

-- the option stands among them
abbrev pub Among : Setting → List Setting → Type 0
Among s os = AnyOf (λ t. t ≡ s) os

-- n is what an option says, or the usual number where it isn't given
abbrev pub Says : List Setting → Counted → ℕ → ℕ → Type 0
Says os k usual n = Among (counts k n) os ⊎ (((m : ℕ) → ¬ Among (counts k m) os) × (n ≡ usual))

abbrev pub IsName : List ℕ → Type 0
IsName w = IsTrue (is_book_name w)

-- the names of books: 1 to 64, each once
pub record AreNames (ws : List (List ℕ)) : Type 0 where
  pub names : Each IsName ws
  pub once : Apart (λ (w : List ℕ). w) ws
  pub some : 1 ≤ length ws
  pub few : length ws ≤ 64

-- a line that names books
pub record IsOrder (ws : List (List ℕ)) (o : Order) : Type 0 where
  pub settings : List Setting
  pub is : ws ≡ written settings ++ o.books
  pub fine : AreSettings settings
  pub books : AreNames o.books
  pub no_demo : (n : ℕ) → ¬ Among (counts Functions n) settings
  pub workers : Says settings Workers 1 o.workers
  pub steps : Says settings Steps 100000 o.limits.steps
  pub goals : Says settings Goals 10000 o.limits.goals
  pub revert : Says settings Revert 2 o.limits.revert
  pub trace : (o.trace ≡ true) ↔ Among traces settings

-- what may stand beside the demo, and itself
abbrev pub IsOfDemo : Setting → Type 0
IsOfDemo s = (option_of s ≡ Number Functions) ⊎ (option_of s ≡ Number Workers)

-- a line that asks for the demo
pub record IsDemo (ws : List (List ℕ)) (d : Demo) : Type 0 where
  pub settings : List Setting
  pub is : ws ≡ written settings
  pub fine : AreSettings settings
  pub alone : Each IsOfDemo settings
  pub number : Among (counts Functions d.number) settings
  pub workers : Says settings Workers 1 d.workers
  pub steps : d.limits.steps ≡ 100000
  pub goals : d.limits.goals ≡ 10000
  pub revert : d.limits.revert ≡ 2

-- the words are a line that commands this
abbrev pub IsLine : List (List ℕ) → Command → Type 0
IsLine ws (of_books o) = IsOrder ws o
IsLine ws (of_demo d) = IsDemo ws d

-- a line is read as what it commands, and nothing else is
abbrev pub LinesAreRead : Type 0
LinesAreRead = (ws : List (List ℕ)) (c : Command) → IsLine ws c ↔ (command_of ws ≡ Some c)

-- words that are no line are no command
abbrev pub OthersAreNone : Type 0
OthersAreNone = (ws : List (List ℕ)) → ((c : Command) → ¬ IsLine ws c) ↔ (command_of ws ≡ None)

-- a line commands one thing
abbrev pub LinesSayOneThing : Type 0
LinesSayOneThing = (ws : List (List ℕ)) (c d : Command) → IsLine ws c → IsLine ws d → c ≡ d

-- and it is written in one way: no other options and names are the same words
abbrev pub LinesAreWrittenOneWay : Type 0
LinesAreWrittenOneWay = (os ps : List Setting) (bs cs : List (List ℕ)) → Each IsTaken os → Each IsTaken ps → Each IsName bs → Each IsName cs
    → written os ++ bs ≡ written ps ++ cs → (os ≡ ps) × (bs ≡ cs)
