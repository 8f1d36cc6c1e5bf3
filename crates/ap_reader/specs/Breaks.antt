-- The first fault of a text, by the ways in which it may go on from a token up to there.
use Rattle.std.specs.Prelude.{◌≡◌, ℕ, Bool, true, false, [], Err, zero, suc}
use Rattle.ap_tokens.specs.declared.token.TokenFault.{TokenFault}
use Rattle.ap_tokens.specs.Gaps.{At}
use Rattle.ap_tokens.specs.Tokens.{Seen, next_of}
use Rattle.ap_tokens.specs.Grammar.{Between}
use Rattle.ap_reader.specs.declared.fault.ReadKind.{ReadKind}
use Rattle.ap_reader.specs.declared.fault.ReadKind.TheVariants as faults
use Rattle.ap_reader.specs.declared.form.Form.{Form}
use Rattle.ap_reader.specs.declared.leaf.Leaf.{Leaf}
use Rattle.ap_reader.specs.declared.reading.Mark.{Mark}
use Rattle.ap_reader.specs.declared.reading.Head.TheVariants as heads
use Rattle.ap_reader.specs.declared.reading.Item.TheVariants as items
use Rattle.ap_reader.specs.Faults.{ReadFault, fault, broken}
use Rattle.ap_reader.specs.Leaves.{leaf_of}
use Rattle.ap_reader.specs.Heads.{head_of, item_of, is_close}
use Rattle.ap_reader.specs.Grammar.{Comes, Spells}

-- from a on, where a token must come in what began at p, the text ends or its token is broken
pub data Missing : ℕ → At → ReadFault → Type 0 where
  ended : (p : ℕ) (a : At) → Between a.rest [] → Missing p a (fault p faults.OpenList)
  broken_token : (p : ℕ) (a : At) (f : TokenFault) → next_of a ≡ Err f → Missing p a (fault f.place (broken f.kind))

mutual
  -- `Breaks n s a e`: the token s and what follows from a on begin a form, in which n more may be nested, and have the fault e
  pub data Breaks : ℕ → Seen → At → ReadFault → Type 0 where
    bad_leaf : (n : ℕ) (s : Seen) (a : At) (l : Leaf) (k : ReadKind) → head_of s.kind ≡ heads.Leaf l → leaf_of l s.text ≡ Err k → Breaks n s a (fault s.start k)
    stray : (n : ℕ) (s : Seen) (a : At) → head_of s.kind ≡ heads.Close → Breaks n s a (fault s.start faults.StrayClose)
    lone_dot : (n : ℕ) (s : Seen) (a : At) → head_of s.kind ≡ heads.Dot → Breaks n s a (fault s.start faults.BadDot)
    deep_mark : (s : Seen) (a : At) (m : Mark) → head_of s.kind ≡ heads.Under m → Breaks zero s a (fault s.start faults.TooDeep)
    deep_list : (s : Seen) (a : At) → head_of s.kind ≡ heads.Open → Breaks zero s a (fault s.start faults.TooDeep)
    after_mark : (n : ℕ) (s : Seen) (a : At) (m : Mark) (e : ReadFault) → head_of s.kind ≡ heads.Under m → Missing s.start a e → Breaks (suc n) s a e
    marked : (n : ℕ) (s t : Seen) (a b : At) (m : Mark) (e : ReadFault) → head_of s.kind ≡ heads.Under m → Comes a t b → Breaks n t b e → Breaks (suc n) s a e
    list : (n : ℕ) (s : Seen) (a : At) (e : ReadFault) → head_of s.kind ≡ heads.Open → BreaksAll n false s.start a e → Breaks (suc n) s a e

  -- `BreaksAll n some p a e`: from a on, in a list that began at p, some forms are spelled, and then the fault e comes
  pub data BreaksAll : ℕ → Bool → ℕ → At → ReadFault → Type 0 where
    in_list : (n : ℕ) (some : Bool) (p : ℕ) (a : At) (e : ReadFault) → Missing p a e → BreaksAll n some p a e
    dot : (n : ℕ) (some : Bool) (p : ℕ) (s : Seen) (a b : At) (e : ReadFault) → Comes a s b → item_of some (head_of s.kind) ≡ items.Dot
        → BreaksLast n p s.start b e → BreaksAll n some p a e
    here : (n : ℕ) (some : Bool) (p : ℕ) (s : Seen) (a b : At) (e : ReadFault) → Comes a s b → item_of some (head_of s.kind) ≡ items.Form → Breaks n s b e
        → BreaksAll n some p a e
    later : (n : ℕ) (some : Bool) (p : ℕ) (s : Seen) (a b c : At) (f : Form) (e : ReadFault) → Comes a s b → item_of some (head_of s.kind) ≡ items.Form
        → Spells n s b f c → BreaksAll n true p c e → BreaksAll n some p a e

  -- `BreaksLast n p d a e`: from a on, after the dot at d in a list that began at p, the fault e comes first
  pub data BreaksLast : ℕ → ℕ → ℕ → At → ReadFault → Type 0 where
    after_dot : (n p d : ℕ) (a : At) (e : ReadFault) → Missing p a e → BreaksLast n p d a e
    no_form : (n p d : ℕ) (s : Seen) (a b : At) → Comes a s b → item_of true (head_of s.kind) ≡ items.Close → BreaksLast n p d a (fault d faults.BadDot)
    two_dots : (n p d : ℕ) (s : Seen) (a b : At) → Comes a s b → item_of true (head_of s.kind) ≡ items.Dot → BreaksLast n p d a (fault d faults.BadDot)
    in_last : (n p d : ℕ) (s : Seen) (a b : At) (e : ReadFault) → Comes a s b → item_of true (head_of s.kind) ≡ items.Form → Breaks n s b e → BreaksLast n p d a e
    after_last : (n p d : ℕ) (s : Seen) (a b c : At) (f : Form) (e : ReadFault) → Comes a s b → item_of true (head_of s.kind) ≡ items.Form → Spells n s b f c
        → Missing p c e → BreaksLast n p d a e
    two_forms : (n p d : ℕ) (s t : Seen) (a b c u : At) (f : Form) → Comes a s b → item_of true (head_of s.kind) ≡ items.Form → Spells n s b f c → Comes c t u
        → is_close (head_of t.kind) ≡ false → BreaksLast n p d a (fault d faults.BadDot)

-- from a on some forms stand, and then the fault e comes
pub data Faults : At → ReadFault → Type 0 where
  token : (a : At) (f : TokenFault) → next_of a ≡ Err f → Faults a (fault f.place (broken f.kind))
  here : (s : Seen) (a b : At) (e : ReadFault) → Comes a s b → Breaks 400 s b e → Faults a e
  later : (s : Seen) (a b c : At) (f : Form) (e : ReadFault) → Comes a s b → Spells 400 s b f c → Faults c e → Faults a e
