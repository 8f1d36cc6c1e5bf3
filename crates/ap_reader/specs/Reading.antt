-- Reading as a function on texts. It stands between the grammar and the code: it is the grammar's one answer.
use Rattle.std.specs.Prelude.{ℕ, Bool, true, false, List, [], ◌∷◌, ◌++◌, length, Option, Some, None, Result, Ok, Err, zero, suc}
use Rattle.ap_tokens.specs.declared.token.TokenFault.{TokenFault}
use Rattle.ap_tokens.specs.Gaps.{At}
use Rattle.ap_tokens.specs.Tokens.{Seen, seen, next_of}
use Rattle.ap_tokens.specs.declared.token.Token.{Token}
use Rattle.ap_reader.specs.declared.fault.ReadKind.TheVariants as faults
use Rattle.ap_reader.specs.declared.form.Form.{Form}
use Rattle.ap_reader.specs.declared.form.Body.{Body}
use Rattle.ap_reader.specs.declared.reading.Mark.{Mark}
use Rattle.ap_reader.specs.declared.reading.Head.{Head}
use Rattle.ap_reader.specs.declared.reading.Head.TheVariants as heads
use Rattle.ap_reader.specs.declared.reading.Item.{Item}
use Rattle.ap_reader.specs.declared.reading.Item.TheVariants as items
use Rattle.ap_reader.specs.Faults.{ReadFault, fault, broken, at_place}
use Rattle.ap_reader.specs.Leaves.{leaf_of}
use Rattle.ap_reader.specs.Heads.{head_of, item_of, is_close, made, under, token_in, Parts, flat, dotted, listed, after_forms}

infixl 10 ◌>>=◌
-- one after another, up to the first fault
abbrev pub ◌>>=◌ : {A B : Type 0} → Result A ReadFault → (A → Result B ReadFault) → Result B ReadFault
(Ok x) >>= f = f x
(Err e) >>= f = Err e

-- what a token and the text after it are: a form and the text after it, or the first fault
abbrev pub Reader : Type 0
Reader = Seen → At → Result (Form × At) ReadFault

-- by what a token is to a list
abbrev pub at_item : {A : Type 0} → Item → A → A → A → A
at_item items.Close a b c = a
at_item items.Dot a b c = b
at_item items.Form a b c = c

-- after the last form of a dotted list, whether the list is closed
abbrev pub closing_by : ℕ → Bool → At → Result At ReadFault
closing_by dot true a = Ok a
closing_by dot false a = Err (fault dot faults.BadDot)

-- the token after a list's last form
abbrev pub closing_of : ℕ → ℕ → At → Result At ReadFault
closing_of p dot a = token_in p (next_of a) >>= λ t. closing_by dot (is_close (head_of t.0.kind)) t.1

-- the last form of a list that began at p, after its dot
unfoldable pub tail_by : Reader → ℕ → ℕ → At → Result (Form × At) ReadFault
tail_by r p dot a =
    token_in p (next_of a) >>= λ t.
    at_item (item_of true (head_of t.0.kind)) (Err (fault dot faults.BadDot)) (Err (fault dot faults.BadDot)) (r t.0 t.1 >>= λ x.
    closing_of p dot x.1 >>= λ b. Ok (x.0, b))

-- with more forms in front
abbrev pub with_forms : List Form → Result (Parts × At) ReadFault → Result (Parts × At) ReadFault
with_forms fs (Ok x) = Ok (after_forms fs x.0, x.1)
with_forms fs (Err e) = Err e

-- the end of a list from its dot on
abbrev pub with_tail : Result (Form × At) ReadFault → Result (Parts × At) ReadFault
with_tail (Ok x) = Ok (dotted [] x.0, x.1)
with_tail (Err e) = Err e

-- The rest of a list that began at p; `some`: a form stands before. There are no more forms than bytes, which bounds the recursion.
unfoldable pub items_by : Reader → Bool → ℕ → ℕ → At → Result (Parts × At) ReadFault
items_by r some zero p a = Err (fault p faults.OpenList)
items_by r some (suc most) p a =
    token_in p (next_of a) >>= λ t.
    at_item (item_of some (head_of t.0.kind)) (Ok (flat [], t.1)) (with_tail (tail_by r p t.0.start t.1)) (r t.0 t.1 >>= λ x. with_forms (x.0 ∷ []) (items_by r true most p x.1))

-- the list that the parts make
abbrev pub lists : Result (Parts × At) ReadFault → Result (Body × At) ReadFault
lists (Ok x) = Ok (listed x.0, x.1)
lists (Err e) = Err e

-- a mark at p and the form after it, whose parts r reads; None: no more may be nested
abbrev pub marked_by : Option Reader → Mark → ℕ → At → Result (Body × At) ReadFault
marked_by None m p a = Err (fault p faults.TooDeep)
marked_by (Some r) m p a = token_in p (next_of a) >>= λ t. r t.0 t.1 >>= λ x. Ok (under m x.0, x.1)

-- a list that begins at p
abbrev pub list_by : Option Reader → ℕ → At → Result (Body × At) ReadFault
list_by None p a = Err (fault p faults.TooDeep)
list_by (Some r) p a = lists (items_by r false (suc (length a.rest)) p a)

-- the form at this place
abbrev pub placed : ℕ → Result (Body × At) ReadFault → Result (Form × At) ReadFault
placed p (Ok x) = Ok (made p x.0, x.1)
placed p (Err e) = Err e

-- what a token and the text after it are, by what the token begins
abbrev pub body_by : Head → Option Reader → Seen → At → Result (Body × At) ReadFault
body_by (heads.Leaf l) r s a = at_place s.start (leaf_of l s.text) >>= λ v. Ok (v, a)
body_by (heads.Under m) r s a = marked_by r m s.start a
body_by heads.Open r s a = list_by r s.start a
body_by heads.Close r s a = Err (fault s.start faults.StrayClose)
body_by heads.Dot r s a = Err (fault s.start faults.BadDot)

-- the reader of parts, where so many more may be nested
unfoldable pub reader_of : ℕ → Option Reader
reader_of zero = None
reader_of (suc n) = Some (λ s a. placed s.start (body_by (head_of s.kind) (reader_of n) s a))

-- a token and what follows it, in which n more may be nested
abbrev pub form_of : ℕ → Reader
form_of n s a = placed s.start (body_by (head_of s.kind) (reader_of n) s a)

-- the last form of a list, in which n more may be nested
abbrev pub tail_of : ℕ → ℕ → ℕ → At → Result (Form × At) ReadFault
tail_of n = tail_by (form_of n)

-- the rest of a list, in whose forms n more may be nested
abbrev pub items_of : ℕ → Bool → ℕ → At → Result (Parts × At) ReadFault
items_of n some p a = items_by (form_of n) some (suc (length a.rest)) p a

-- the next token, or none at the end
abbrev pub token_at : Result (Option (Seen × At)) TokenFault → Result (Option (Seen × At)) ReadFault
token_at (Err f) = Err (fault f.place (broken f.kind))
token_at (Ok o) = Ok o

-- a token, if one came, with the text after it
abbrev pub after_token : Option Token → At → Option (Seen × At)
after_token None a = None
after_token (Some t) a = Some (seen t, a)

-- with more forms in front
abbrev pub with_front : List Form → Result (List Form) ReadFault → Result (List Form) ReadFault
with_front fs (Ok gs) = Ok (fs ++ gs)
with_front fs (Err e) = Err e

-- at the end of the text, or at a token
abbrev pub at_end : {A : Type 0} → Option (Seen × At) → A → (Seen → At → A) → A
at_end None a f = a
at_end (Some x) a f = f x.0 x.1

-- the forms from a on, of which there are no more than bytes
unfoldable pub forms_by : ℕ → At → Result (List Form) ReadFault
forms_by zero a = Ok []
forms_by (suc most) a = token_at (next_of a) >>= λ o. at_end o (Ok []) (λ s b. form_of 400 s b >>= λ x. with_front (x.0 ∷ []) (forms_by most x.1))

-- the forms from a on
abbrev pub forms_from : At → Result (List Form) ReadFault
forms_from a = forms_by (suc (length a.rest)) a
