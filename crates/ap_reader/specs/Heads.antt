-- What a token is to a form and to a list.
use Rattle.std.specs.Prelude.{ℕ, Bool, true, false, List, ◌++◌, Option, Some, None, Result, Ok, Err}
use Rattle.ap_tokens.specs.declared.token.Kind.{Kind}
use Rattle.ap_tokens.specs.declared.token.Kind.TheVariants as kinds
use Rattle.ap_tokens.specs.declared.token.TokenFault.{TokenFault}
use Rattle.ap_tokens.specs.Gaps.{At}
use Rattle.ap_tokens.specs.Tokens.{Seen}
use Rattle.ap_reader.specs.declared.fault.ReadKind.TheVariants as faults
use Rattle.ap_reader.specs.declared.form.Form.{Form}
use Rattle.ap_reader.specs.declared.form.Body.{Body}
use Rattle.ap_reader.specs.declared.form.Body.TheVariants as body
use Rattle.ap_reader.specs.declared.leaf.Leaf.TheVariants as leaves
use Rattle.ap_reader.specs.declared.reading.Mark.{Mark}
use Rattle.ap_reader.specs.declared.reading.Mark.TheVariants as marks
use Rattle.ap_reader.specs.declared.reading.Head.{Head}
use Rattle.ap_reader.specs.declared.reading.Head.TheVariants as heads
use Rattle.ap_reader.specs.declared.reading.Item.{Item}
use Rattle.ap_reader.specs.declared.reading.Item.TheVariants as items
use Rattle.ap_reader.specs.Faults.{ReadFault, fault, broken}

-- what a token begins
abbrev pub head_of : Kind → Head
head_of kinds.LeftParen = heads.Open
head_of kinds.RightParen = heads.Close
head_of kinds.Quote = heads.Under marks.Quote
head_of kinds.Backquote = heads.Under marks.Backquote
head_of kinds.Comma = heads.Under marks.Comma
head_of kinds.CommaAt = heads.Under marks.CommaAt
head_of kinds.Text = heads.Leaf leaves.Text
head_of kinds.Character = heads.Leaf leaves.Character
head_of kinds.Based = heads.Leaf leaves.Based
head_of kinds.Atom = heads.Leaf leaves.Atom
head_of kinds.Dot = heads.Dot

-- what it is to a list; `some`: a form stands before it there
abbrev pub item_of : Bool → Head → Item
item_of some heads.Close = items.Close
item_of true heads.Dot = items.Dot
item_of false heads.Dot = items.Form
item_of some heads.Open = items.Form
item_of some (heads.Under m) = items.Form
item_of some (heads.Leaf l) = items.Form

-- it ends a list
abbrev pub is_close : Head → Bool
is_close heads.Close = true
is_close heads.Dot = false
is_close heads.Open = false
is_close (heads.Under m) = false
is_close (heads.Leaf l) = false

-- a form at a place
abbrev pub made : ℕ → Body → Form
made p b = record { place = p; body = b }

-- a form after a mark
abbrev pub under : Mark → Form → Body
under marks.Quote f = body.Quoted f
under marks.Backquote f = body.Quasi f
under marks.Comma f = body.Comma f
under marks.CommaAt f = body.CommaAt f

-- the next token where one must come, in what began at p
abbrev pub token_in : ℕ → Result (Option (Seen × At)) TokenFault → Result (Seen × At) ReadFault
token_in p (Err f) = Err (fault f.place (broken f.kind))
token_in p (Ok None) = Err (fault p faults.OpenList)
token_in p (Ok (Some x)) = Ok x

-- what stands in a list: forms, and perhaps a dot and a last one
pub data Parts : Type 0 where
  flat : List Form → Parts
  dotted : List Form → Form → Parts

-- the form that they make
abbrev pub listed : Parts → Body
listed (flat fs) = body.List fs
listed (dotted fs f) = body.Dotted fs f

-- with more forms in front
abbrev pub after_forms : List Form → Parts → Parts
after_forms gs (flat fs) = flat (gs ++ fs)
after_forms gs (dotted fs f) = dotted (gs ++ fs) f
