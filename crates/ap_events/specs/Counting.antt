-- How many single events are admitted where a form is done first: those that stand before the first that is refused.
use Rattle.std.specs.Prelude.{◌≡◌, ℕ, zero, suc, ◌+◌, List, [], ◌∷◌, Option, Some, None}
use Rattle.ap_reader.specs.declared.form.Form.{Form}
use Rattle.ap_world.specs.World.{Shown}
use Rattle.ap_plain.specs.declared.limits.Limits.{Limits}
use Rattle.ap_events.specs.declared.held.Held.{Held}
use Rattle.ap_events.specs.Books.{Earlier, first_event, again_event, worked}
use Rattle.ap_events.specs.Held.{with_form}
use Rattle.ap_events.specs.Nested.{Leaf, Nesting, plain, hidden, group, closed, nesting_of, firsts}

-- what is counted behind an event, if it is admitted
abbrev pub if_admitted : Option Shown → (Shown → ℕ) → ℕ
if_admitted None count = 0
if_admitted (Some v) count = count v

abbrev pub count_all : Leaf → (Form → Shown → ℕ) → List Form → Shown → ℕ
count_all run count [] w = 0
count_all run count (f ∷ fs) w = count f w + if_admitted (run f w).next (count_all run count fs)

abbrev pub count_in : Leaf → Leaf → (Form → Shown → ℕ) → Form → Shown → Nesting → ℕ
count_in first inner count f w plain = if_admitted (first f w).next (λ v. 1)
count_in first inner count f w (hidden g) = count g w
count_in first inner count f w (group fs) = count_all inner count fs w
count_in first inner count f w (closed fs) = count_all inner count fs w

-- in a form in which at most n events hold each other
unfoldable pub counts : Leaf → Leaf → ℕ → Form → Shown → ℕ
counts first again zero f w = 0
counts first again (suc n) f w = count_in first (firsts first again n) (counts first again n) f w (nesting_of f)

abbrev pub singles : Limits → Earlier → Shown → Form → ℕ
singles limits earlier w f = counts (first_event limits earlier) (again_event earlier) 400 f w

-- where the form is admitted these are all single events that it holds
abbrev pub SinglesAreHeld : Type 0
SinglesAreHeld = (limits : Limits) (earlier : Earlier) (w v : Shown) (f : Form) (h : Held) → (worked limits earlier w f).next ≡ Some v
    → (with_form 400 f h).events ≡ h.events + singles limits earlier w f

-- an event that holds no others is one, where it is admitted
abbrev pub PlainIsOne : Type 0
PlainIsOne = (limits : Limits) (earlier : Earlier) (w : Shown) (f : Form) → nesting_of f ≡ plain → singles limits earlier w f ≡ if_admitted (worked limits earlier w f).next (λ v. 1)
