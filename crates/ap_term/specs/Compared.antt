-- How printed bytes compare without being written: a part against a part, each with the byte after it.
use Rattle.std.specs.Prelude.{ℕ, ◌≡◌, Bool, true, false, ◌==◌, ◌&&◌, ◌||◌, not, List, [], ◌∷◌, ◌++◌, Option, Some, None, ◌⊎◌, if◌then◌else◌}
use Rattle.std.specs.Ordering.{ordering_then, nat_cmp}
use Rattle.std.specs.declared.cmp.Ordering.{Ordering}
use Rattle.std.specs.declared.cmp.Ordering.TheVariants.{Less, Equal, Greater}
use Rattle.ap_term.specs.Printed.{escaped}
use Rattle.ap_term.specs.Atoms.{is_empty}

-- bytes as in a dictionary
abbrev pub bytes_order : List ℕ → List ℕ → Ordering
bytes_order [] [] = Equal
bytes_order [] (y ∷ ys) = Less
bytes_order (x ∷ xs) [] = Greater
bytes_order (x ∷ xs) (y ∷ ys) = ordering_then (nat_cmp x y) (bytes_order xs ys)

-- what stands after a part: nothing at the end of the text, or a byte and more
abbrev pub follow : Option ℕ → List ℕ → List ℕ
follow None more = []
follow (Some c) more = c ∷ more

-- what is left of it after its first byte
abbrev pub beyond : Option ℕ → List ℕ → List ℕ
beyond None more = []
beyond (Some c) more = more

-- the order of two parts, and of what stands after them where they and their next bytes are the same
abbrev pub Compares : Ordering → List ℕ → Option ℕ → List ℕ → Option ℕ → Type 0
Compares r p x q y =
    (s t : List ℕ) → bytes_order (p ++ follow x s) (q ++ follow y t) ≡ ordering_then r (bytes_order (beyond x s) (beyond y t))

-- the bytes of a text that is closed, and of which the next byte may stand after its backslash already
abbrev pub closing : Option ℕ → Bool → List ℕ → List ℕ
closing None pending body = body
closing (Some close) pending [] = close ∷ []
closing (Some close) true (c ∷ cs) = c ∷ (escaped close cs ++ close ∷ [])
closing (Some close) false (c ∷ cs) = escaped close (c ∷ cs) ++ close ∷ []

-- a space or a closing parenthesis ends a part of a list
abbrev pub IsEnd : ℕ → Type 0
IsEnd c = (c ≡ 32) ⊎ (c ≡ 41)

-- what may stand after a part: nothing, or what ends it
abbrev pub EndsPart : Option ℕ → Type 0
EndsPart None = Unit {0}
EndsPart (Some c) = IsEnd c

-- the order of two parts and their next bytes is that of the texts that go on so
abbrev pub Decided : Ordering → List ℕ → Option ℕ → List ℕ → Option ℕ → Type 0
Decided r p x q y = Compares r p x q y × (r ≡ Equal → x ≡ y)

-- where a text ends that is an atom: at a space or a closing parenthesis, or after what closes it
abbrev pub is_end : ℕ → Bool
is_end c = c == 32 || c == 41

abbrev pub run : List ℕ → List ℕ
run [] = []
run (c ∷ cs) = if is_end c then c ∷ cs else run cs

abbrev pub skip : ℕ → Bool → List ℕ → List ℕ
skip close taken [] = []
skip close true (c ∷ cs) = skip close false cs
skip close false (c ∷ cs) = if c == 92 then skip close true cs else (if c == close then cs else skip close false cs)

abbrev pub scan_name : List ℕ → List ℕ
scan_name [] = []
scan_name (c ∷ cs) = if c == 124 then skip 124 false cs else run (c ∷ cs)

abbrev pub scan_character : List ℕ → List ℕ
scan_character [] = []
scan_character (b ∷ []) = []
scan_character (b ∷ c ∷ cs) = run cs

abbrev pub scan : List ℕ → List ℕ
scan [] = []
scan (c ∷ cs) =
    if c == 34 then skip 34 false cs
    else (if c == 35 then scan_character cs
    else (if c == 58 then scan_name cs
    else scan_name (c ∷ cs)))

abbrev pub Ends : List ℕ → Type 0
Ends [] = Unit {0}
Ends (c ∷ cs) = IsEnd c

-- the end of an atom is found, whatever stands after it
abbrev pub IsAtom : List ℕ → Type 0
IsAtom p = (s : List ℕ) → Ends s → scan (p ++ s) ≡ s

-- a text that begins neither with a quote mark nor with an opening parenthesis, and is not a dot alone
abbrev pub stands_alone : List ℕ → Bool
stands_alone [] = false
stands_alone (c ∷ cs) = not (c == 39 || c == 40 || (c == 46 && is_empty cs))

-- the text of a symbol or of a value that is no cons
pub record IsWhole (p : List ℕ) : Type 0 where
  pub atom : IsAtom p
  pub alone : stands_alone p ≡ true

-- the text begins with this byte
abbrev pub FirstIs : ℕ → List ℕ → Type 0
FirstIs c [] = ⊥
FirstIs c (d ∷ ds) = d ≡ c

-- a text by its opening byte, if it has one: a quote mark or an opening parenthesis
abbrev pub IsStart : Option ℕ → List ℕ → Type 0
IsStart None p = IsWhole p
IsStart (Some c) p = ((c ≡ 39) ⊎ (c ≡ 40)) × FirstIs c p

-- the opening byte of a text, or else the text
abbrev pub start_of : Option ℕ → List ℕ → List ℕ
start_of None p = p
start_of (Some c) p = c ∷ []

-- the two texts don't open with the same byte
abbrev pub OpensApart : Option ℕ → Option ℕ → Type 0
OpensApart None d = Unit {0}
OpensApart (Some c) None = Unit {0}
OpensApart (Some c) (Some d) = c ≡ d → ⊥
