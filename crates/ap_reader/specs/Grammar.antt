-- The grammar of forms, by the ways in which a text may go on from a token. Each relation says what is spelled, and where it ends.
use Rattle.std.specs.Prelude.{◌≡◌, ℕ, Bool, true, false, List, [], ◌∷◌, Ok, suc}
use Rattle.ap_tokens.specs.Gaps.{At}
use Rattle.ap_tokens.specs.Tokens.{Seen}
use Rattle.ap_tokens.specs.Grammar.{Between}
use Rattle.ap_tokens.specs.Laws.{Found}
use Rattle.ap_reader.specs.declared.form.Form.{Form}
use Rattle.ap_reader.specs.declared.form.Body.{Body}
use Rattle.ap_reader.specs.declared.leaf.Leaf.{Leaf}
use Rattle.ap_reader.specs.declared.reading.Mark.{Mark}
use Rattle.ap_reader.specs.declared.reading.Head.TheVariants as heads
use Rattle.ap_reader.specs.declared.reading.Item.TheVariants as items
use Rattle.ap_reader.specs.Leaves.{leaf_of}
use Rattle.ap_reader.specs.Heads.{head_of, item_of, made, under, Parts, flat, dotted, listed, after_forms}

-- from a on, blanks and whole comments lead to the token s, which is spelled as its kind is, and b comes after it
abbrev pub Comes : At → Seen → At → Type 0
Comes a s b = Found a s b

mutual
  -- `Spells n s a f b`: the token s and what follows from a up to b are the form f, in which n more may be nested
  pub data Spells : ℕ → Seen → At → Form → At → Type 0 where
    leaf : (n : ℕ) (s : Seen) (a : At) (l : Leaf) (v : Body) → head_of s.kind ≡ heads.Leaf l → leaf_of l s.text ≡ Ok v → Spells n s a (made s.start v) a
    marked : (n : ℕ) (s t : Seen) (a b c : At) (m : Mark) (f : Form) → head_of s.kind ≡ heads.Under m → Comes a t b → Spells n t b f c
        → Spells (suc n) s a (made s.start (under m f)) c
    list : (n : ℕ) (s : Seen) (a b : At) (x : Parts) → head_of s.kind ≡ heads.Open → SpellsAll n false a x b → Spells (suc n) s a (made s.start (listed x)) b

  -- `SpellsAll n some a x b`: from a up to b the rest of a list, and its end; `some`: a form stands before
  pub data SpellsAll : ℕ → Bool → At → Parts → At → Type 0 where
    close : (n : ℕ) (some : Bool) (s : Seen) (a b : At) → Comes a s b → item_of some (head_of s.kind) ≡ items.Close → SpellsAll n some a (flat []) b
    dot : (n : ℕ) (some : Bool) (s : Seen) (a b c : At) (f : Form) → Comes a s b → item_of some (head_of s.kind) ≡ items.Dot → SpellsLast n b f c
        → SpellsAll n some a (dotted [] f) c
    more : (n : ℕ) (some : Bool) (s : Seen) (a b c d : At) (f : Form) (x : Parts) → Comes a s b → item_of some (head_of s.kind) ≡ items.Form → Spells n s b f c
        → SpellsAll n true c x d → SpellsAll n some a (after_forms (f ∷ []) x) d

  -- from a up to b the form after a list's dot, and the list's end
  pub data SpellsLast : ℕ → At → Form → At → Type 0 where
    last : (n : ℕ) (s t : Seen) (a b c d : At) (f : Form) → Comes a s b → item_of true (head_of s.kind) ≡ items.Form → Spells n s b f c → Comes c t d
        → head_of t.kind ≡ heads.Close → SpellsLast n a f d

-- from a on stand these forms, and nothing else
pub data Reads : At → List Form → Type 0 where
  end : (a : At) → Between a.rest [] → Reads a []
  form : (s : Seen) (a b c : At) (f : Form) (fs : List Form) → Comes a s b → Spells 400 s b f c → Reads c fs → Reads a (f ∷ fs)
