-- A symbol that is printed between bars isn't read back without them.
use Rattle.std.proofs.Common.{◌≡◌, ◌≢◌, ℕ, ℤ, ◌+◌, ◌<◌, ◌≤◌, ◌==◌, ◌||◌, ◌&&◌, Bool, true, false, not, List, [], ◌∷◌, ◌++◌, length, drop, map, Ok, Err, Result, Option, Some, None, codes, suc, refl, sym, ap, subst, ◌∙◌, arith, length-append}
use Rattle.std.specs.Prelude.{if◌then◌else◌}
use Rattle.std.specs.Char.{is_ascii_lowercase, to_ascii_uppercase}
use Rattle.std.proofs.lemmas.Bool.{ne_eqb}
use Rattle.std.proofs.lemmas.Bool.Decides.{nat_tests}
use Rattle.std.proofs.lemmas.List.{append-nil, length-drop}
use Rattle.ap_list.specs.Lists.{Each}
use Rattle.ap_value.specs.declared.symbol.Symbol.{Symbol}
use Rattle.ap_tokens.specs.declared.token.Kind.{Kind}
use Rattle.ap_tokens.specs.declared.token.Kind.TheVariants as kinds
use Rattle.ap_tokens.specs.declared.gap.Start.TheVariants as start
use Rattle.ap_tokens.specs.declared.tokens.Lead.TheVariants as lead
use Rattle.ap_tokens.specs.Bytes.{is_blank, ends_atom}
use Rattle.ap_tokens.specs.Gaps.{At, at, begins, start_by, start_of}
use Rattle.ap_tokens.specs.Tokens.{Seen, lead_of}
use Rattle.ap_tokens.specs.Grammar.{Named, name_end, name_stop, name_taken, name_bar, name_byte}
use Rattle.ap_tokens.specs.Grammar as tokens
use Rattle.ap_tokens.specs.Laws.{Found}
use Rattle.ap_tokens.proofs.Sound.{differ}
use Rattle.ap_reader.specs.declared.form.Form.{Form}
use Rattle.ap_reader.specs.declared.form.Body.TheVariants as body
use Rattle.ap_reader.specs.declared.fault.ReadKind.{ReadKind}
use Rattle.ap_reader.specs.declared.leaf.Leaf.{Leaf}
use Rattle.ap_reader.specs.declared.leaf.Leaf.TheVariants as leaves
use Rattle.ap_reader.specs.declared.name.Letter.{Letter}
use Rattle.ap_reader.specs.declared.number.Shape.{Shape}
use Rattle.ap_reader.specs.declared.number.Shape.TheVariants as shapes
use Rattle.ap_reader.specs.declared.reading.Mark.{Mark}
use Rattle.ap_reader.specs.declared.reading.Mark.TheVariants as marks
use Rattle.ap_reader.specs.declared.reading.Head.TheVariants as heads
use Rattle.ap_reader.specs.Heads.{head_of, made, under, Parts, flat, dotted, listed}
use Rattle.ap_reader.specs.Leaves.{fitted, chr_of, sym_of, atom_of, leaf_of}
use Rattle.ap_reader.specs.Names.{raised, plain, letters_of, is_plain, is_keyword, has_package, has_colon, package_by, named, symbol_by, symbol_of}
use Rattle.ap_reader.specs.Numbers.{is_digits, is_number, past_sign, is_dots, shape_by, shape_of}
use Rattle.ap_reader.specs.Grammar.{Reads}
use Rattle.ap_reader.specs.Grammar as forms
use Rattle.ap_term.specs.Atoms as printed
use Rattle.ap_term.specs.Atoms.{all_plain, all_dots, begins_with, is_unsigned, is_symbol_text, reads_back}
use Rattle.ap_term.specs.Printed.{colon_text}
use Rattle.ap_value.proofs.Equals.{and_true}
use Rattle.ap_round_trip.proofs.Numbers.{numeric}
use Rattle.ap_round_trip.proofs.Shapes.{sign_past, dots_alike}
use Rattle.ap_round_trip.proofs.Strings.{or_false}

-- an atom has no more letters than bytes
fewer : (bar escape : Bool) (t : List ℕ) → length (letters_of bar escape t) ≤ length t
fewer bar escape [] = omega arith
fewer bar true (c ∷ t) = omega (arith, fewer bar false t)
fewer bar false (c ∷ t) = by (c == 92) (c == 124) (fewer bar true t) (fewer (not bar) false t) (fewer bar false t)
  where
    by : (a b : Bool) → length (letters_of bar true t) ≤ length t → length (letters_of (not bar) false t) ≤ length t → length (letters_of bar false t) ≤ length t
        → length (if a then letters_of bar true t else (if b then letters_of (not bar) false t else plain bar c ∷ letters_of bar false t)) ≤ suc (length t)
    by true b x y z = omega (arith, x)
    by false true x y z = omega (arith, y)
    by false false x y z = omega (arith, z)

record Bare (c : ℕ) : Type 0 where
  taken : c ≢ 92
  bar : c ≢ 124

-- where it has as many, none of them is a bar or a backslash
bare : (t : List ℕ) → length (letters_of false false t) ≡ length t → Each Bare t × (letters_of false false t ≡ map raised t)
bare [] e = (tt, refl)
bare (c ∷ t) e = by (bare t) (c == 92) (c == 124) refl refl e
  where
    by : (length (letters_of false false t) ≡ length t → Each Bare t × (letters_of false false t ≡ map raised t)) → (a b : Bool) → (c == 92) ≡ a → (c == 124) ≡ b
        → length (if a then letters_of false true t else (if b then letters_of true false t else raised c ∷ letters_of false false t)) ≡ suc (length t)
        → Each Bare (c ∷ t) × ((if a then letters_of false true t else (if b then letters_of true false t else raised c ∷ letters_of false false t)) ≡ raised c ∷ map raised t)
    by next true b p q k = absurd (omega (arith, k, fewer false true t))
    by next false true p q k = absurd (omega (arith, k, fewer true false t))
    by next false false p q k =
        let r = next (omega (arith, k)) in
        ((record { taken = differ c 92 p; bar = differ c 124 q }, r.0), ap (λ x. raised c ∷ x) r.1)

-- no byte of such an atom ends one
named_whole : {b : Bool} {t u : List ℕ} → Named b t u → b ≡ false → u ≡ [] → Each Bare t → Each (λ c. ends_atom c ≡ false) t
named_whole name_end f e h = tt
named_whole (name_stop c t p q r) f e h = absurd cc
named_whole (name_taken bar c t u n) f e h = absurd (h.0.taken refl)
named_whole (name_bar bar t u n) f e h = absurd (h.0.bar refl)
named_whole (name_byte bar c t u p q r n) f e h = (sym (ap (λ x. not x && ends_atom c) f) ∙ r, named_whole n f e h.1)

record Lead (c : ℕ) : Type 0 where
  left : (c == 40) ≡ false
  right : (c == 41) ≡ false
  quote : (c == 39) ≡ false
  back : (c == 96) ≡ false
  comma : (c == 44) ≡ false
  text : (c == 34) ≡ false
  sharp : (c == 35) ≡ false

leads : (c : ℕ) → lead_of c ≡ lead.Atom → Lead c
unfolding lead_of
leads c h = by (c == 40) (c == 41) (c == 39) (c == 96) (c == 44) (c == 34) (c == 35) refl refl refl refl refl refl refl h
  where
    by : (l r q b k t s : Bool) → (c == 40) ≡ l → (c == 41) ≡ r → (c == 39) ≡ q → (c == 96) ≡ b → (c == 44) ≡ k → (c == 34) ≡ t → (c == 35) ≡ s
        → (if l then lead.LeftParen else (if r then lead.RightParen else (if q then lead.Quote else (if b then lead.Backquote else (if k then lead.Comma else (if t then lead.Text else (if s then lead.Hash else lead.Atom))))))) ≡ lead.Atom
        → Lead c
    by false false false false false false false l r q b k t s h = record { left = l; right = r; quote = q; back = b; comma = k; text = t; sharp = s }
    by false false false false false false true l r q b k t s h = cc
    by false false false false false true s' l r q b k t s h = cc
    by false false false false true t' s' l r q b k t s h = cc
    by false false false true k' t' s' l r q b k t s h = cc
    by false false true b' k' t' s' l r q b k t s h = cc
    by false true q' b' k' t' s' l r q b k t s h = cc
    by true r' q' b' k' t' s' l r q b k t s h = cc

begun : (a b c : Bool) → start_by a b c ≡ start.Other → (b ≡ false) × (c ≡ false)
begun false false false h = (refl, refl)
begun false false true h = cc
begun false true c h = cc
begun true b c h = cc

no_end : (c : ℕ) (t : List ℕ) → lead_of c ≡ lead.Atom → start_of (c ∷ t) ≡ start.Other → ends_atom c ≡ false
unfolding ends_atom
no_end c t h k =
    let l = leads c h in
    let s = begun (c == 35 && begins 124 t) (c == 59) (is_blank c) k in
    rw (s.1, l.left, l.right, l.quote, l.text, s.0, l.back, l.comma) refl

-- an atom that goes to the end of the text
whole : {k : Kind} {t u : List ℕ} → tokens.Spells k t u → k ≡ kinds.Atom → u ≡ [] → Each Bare t → start_of t ≡ start.Other
    → Each (λ c. ends_atom c ≡ false) t × (begins_with 35 t ≡ false)
whole (tokens.left_paren u) k e h s = absurd cc
whole (tokens.right_paren u) k e h s = absurd cc
whole (tokens.quote_mark u) k e h s = absurd cc
whole (tokens.backquote u) k e h s = absurd cc
whole (tokens.comma_at u) k e h s = absurd cc
whole (tokens.comma u b) k e h s = absurd cc
whole (tokens.text t u q) k e h s = absurd cc
whole (tokens.character c name u r n) k e h s = absurd cc
whole (tokens.based b c digits u f r n) k e h s = absurd cc
whole (tokens.dot u n) k e h s = absurd cc
whole (tokens.taken_atom c t u n) k e h s = absurd (h.0.taken refl)
whole (tokens.barred_atom t u n) k e h s = absurd (h.0.bar refl)
whole (tokens.atom c t u l p q d n) k e h s = ((no_end c t l s, named_whole n refl e h.1), (leads c l).sharp)

-- an atom that is read as a symbol
record Atom (t : List ℕ) (s : Symbol) : Type 0 where
  shape : shape_of t ≡ shapes.Name
  symbol : symbol_of t ≡ Ok s

leaf_symbol : (l : Leaf) (t : List ℕ) (s : Symbol) → leaf_of l t ≡ Ok (body.Sym s) → (l ≡ leaves.Atom) × Atom t s
unfolding leaf_of
leaf_symbol leaves.Text t s h = cc
leaf_symbol leaves.Character t s h = absurd (no_character (Rattle.ap_reader.specs.Strings.code_of (drop 2 t)) h)
  where
    no_character : (r : Result ℕ ReadKind) → chr_of r ≡ Ok (body.Sym s) → ⊥
    no_character (Err e) h = cc
    no_character (Ok c) h = cc
leaf_symbol leaves.Based t s h = absurd (no_integer (Rattle.ap_reader.specs.Numbers.integer_of (Rattle.ap_reader.specs.Leaves.base_of (drop 1 t)) (drop 2 t)) h)
  where
    no_integer : (o : Option ℤ) → fitted o ≡ Ok (body.Sym s) → ⊥
    no_integer None h = cc
    no_integer (Some n) h = cc
leaf_symbol leaves.Atom t s h = (refl, by (shape_of t) refl h)
  where
    no_integer : (o : Option ℤ) → fitted o ≡ Ok (body.Sym s) → ⊥
    no_integer None h = cc
    no_integer (Some n) h = cc

    symbol : (r : Result Symbol ReadKind) → sym_of r ≡ Ok (body.Sym s) → r ≡ Ok s
    symbol (Err e) h = cc
    symbol (Ok x) h = cc

    by : (x : Shape) → shape_of t ≡ x → atom_of x t ≡ Ok (body.Sym s) → Atom t s
    by shapes.Integer e h = absurd (no_integer (Rattle.ap_reader.specs.Numbers.integer_of 10 t) h)
    by shapes.Fraction e h = cc
    by shapes.Dots e h = cc
    by shapes.Name e h = record { shape = e; symbol = symbol (symbol_of t) h }

atom_kind : (k : Kind) → head_of k ≡ heads.Leaf leaves.Atom → k ≡ kinds.Atom
atom_kind kinds.Atom h = refl
atom_kind kinds.LeftParen h = cc
atom_kind kinds.RightParen h = cc
atom_kind kinds.Quote h = cc
atom_kind kinds.Backquote h = cc
atom_kind kinds.Comma h = cc
atom_kind kinds.CommaAt h = cc
atom_kind kinds.Text h = cc
atom_kind kinds.Character h = cc
atom_kind kinds.Based h = cc
atom_kind kinds.Dot h = cc

record Token (k : Seen) (s : Symbol) : Type 0 where
  start : k.start ≡ 0
  kind : k.kind ≡ kinds.Atom
  atom : Atom k.text s

token : {n : ℕ} {k : Seen} {a b : At} {f : Form} → forms.Spells n k a f b → (s : Symbol) → f ≡ made 0 (body.Sym s) → Token k s
token (forms.leaf n k a l v h e) s q =
    let same : v ≡ body.Sym s = ap (λ (f : Form). f.body) q in
    let p = leaf_symbol l k.text s (e ∙ ap Ok same) in
    record { start = ap (λ (f : Form). f.place) q; kind = atom_kind k.kind (h ∙ ap heads.Leaf p.0); atom = p.1 }
token (forms.marked n k t a b c m f h w x) s q = absurd (no_mark m (ap (λ (f : Form). f.body) q))
  where
    no_mark : (m : Mark) → under m f ≡ body.Sym s → ⊥
    no_mark marks.Quote h = cc
    no_mark marks.Backquote h = cc
    no_mark marks.Comma h = cc
    no_mark marks.CommaAt h = cc
token (forms.list n k a b x h w) s q = absurd (no_list x (ap (λ (f : Form). f.body) q))
  where
    no_list : (x : Parts) → listed x ≡ body.Sym s → ⊥
    no_list (flat fs) h = cc
    no_list (dotted fs f) h = cc

-- the one token of a text that is read as a symbol, from its first byte on
record Only (t : List ℕ) (s : Symbol) : Type 0 where
  text : List ℕ
  rest : List ℕ
  slice : t ≡ text ++ rest
  some : 0 < length text
  here : start_of t ≡ start.Other
  spelled : tokens.Spells kinds.Atom t rest
  atom : Atom text s

none_gone : (gone rest t : List ℕ) → t ≡ gone ++ rest → 0 + length gone ≡ 0 → rest ≡ t
none_gone [] rest t e h = sym e
none_gone (c ∷ gone) rest t e h = absurd (omega (arith, h))

only_of : (t : List ℕ) (k : Seen) (b : At) (s : Symbol) → Found (at 0 t) k b → Token k s → Only t s
only_of t k b s f w =
    let start : 0 + length f.passes.gone ≡ 0 = sym f.passes.place ∙ sym f.start ∙ w.start in
    let same : f.before.rest ≡ t = none_gone f.passes.gone f.before.rest t f.passes.slice start in
    record {
      text = k.text;
      rest = b.rest;
      slice = sym same ∙ f.slice;
      some = f.some;
      here = ap start_of (sym same) ∙ f.passes.here;
      spelled = subst (λ x. tokens.Spells kinds.Atom x b.rest) same (subst (λ x. tokens.Spells x f.before.rest b.rest) w.kind f.spelled);
      atom = w.atom;
    }

only : {a : At} {fs : List Form} → Reads a fs → (t : List ℕ) (s : Symbol) → a ≡ at 0 t → fs ≡ made 0 (body.Sym s) ∷ [] → Only t s
only (forms.end a n) t s p q = absurd cc
only (forms.form k a b c f fs w x more) t s p q =
    let first : f ≡ made 0 (body.Sym s) = cc in
    only_of t k b s (subst (λ z. Found z k b) p w) (token x s first)

named_is : (keyword : Bool) (ls : List Letter) (s : Symbol) → named keyword ls ≡ Ok s → (s.keyword ≡ keyword) × ((has_colon ls ≡ false) × (s.name ≡ map (λ l. l.byte) ls))
named_is keyword ls s h = by (has_colon ls) refl h
  where
    by : (b : Bool) → has_colon ls ≡ b → (if b then Err Rattle.ap_reader.specs.declared.fault.ReadKind.TheVariants.BadPackage else Ok (record { keyword = keyword; name = map (λ l. l.byte) ls })) ≡ Ok s
        → (s.keyword ≡ keyword) × ((b ≡ false) × (s.name ≡ map (λ l. l.byte) ls))
    by true e h = cc
    by false e h =
        let same : record { keyword = keyword; name = map (λ (l : Letter). l.byte) ls } ≡ s = cc in
        (ap (λ (x : Symbol). x.keyword) (sym same), (refl, ap (λ (x : Symbol). x.name) (sym same)))

-- no letter of an atom without bars and backslashes is a colon, or in lower case
stands : (cs : List ℕ) → Each Bare cs → Each (λ c. ends_atom c ≡ false) cs → has_colon (map raised cs) ≡ false → cs ≡ map (λ (l : Letter). l.byte) (map raised cs) → all_plain cs ≡ true
unfolding printed.is_plain printed.ends_atom ends_atom is_blank
stands [] b e h k = refl
stands (c ∷ cs) b e h k =
    let p = or_false (is_plain 58 (raised c)) (has_colon (map raised cs)) h in
    let up : c ≡ to_ascii_uppercase c = cc in
    let rest : cs ≡ map (λ (l : Letter). l.byte) (map raised cs) = cc in
    let colon : (c == 58 && true) ≡ false = ap (λ n. n == 58 && true) up ∙ p.0 in
    and_true (printed.is_plain c) (all_plain cs)
    (rw (e.0, ne_eqb c 124 b.0.bar, ne_eqb c 92 b.0.taken, and_false (c == 58) colon, no_lower c up) refl)
    (stands cs b.1 e.1 p.1 rest)
  where
    and_false : (a : Bool) → (a && true) ≡ false → a ≡ false
    and_false true h = h
    and_false false h = refl

    no_lower : (c : ℕ) → c ≡ to_ascii_uppercase c → is_ascii_lowercase c ≡ false
    no_lower c h = grind (arith, nat_tests)

shape_name : (a b c : Bool) → shape_by a b c ≡ shapes.Name → (a ≡ false) × ((b ≡ false) × (c ≡ false))
shape_name false false false h = (refl, (refl, refl))
shape_name false false true h = cc
shape_name false true c h = cc
shape_name true b c h = cc

symbolic : (t : List ℕ) → shape_of t ≡ shapes.Name → begins_with 35 t ≡ false → is_symbol_text t ≡ true
symbolic t h sharp =
    let p = shape_name (is_digits (past_sign t)) (is_number (past_sign t)) (is_dots t) h in
    rw (sym (dots_alike t) ∙ p.1.1, sharp, number (printed.is_number t) refl p.0 p.1.0) refl
  where
    number : (b : Bool) → printed.is_number t ≡ b → is_digits (past_sign t) ≡ false → is_number (past_sign t) ≡ false → b ≡ false
    number false e h k = refl
    number true e h k =
        let n : (is_digits (past_sign t) || is_number (past_sign t)) ≡ true = numeric (past_sign t) (ap is_unsigned (sym (sign_past t)) ∙ e) in
        let m : false ≡ true = sym (ap (λ b. b || is_number (past_sign t)) h ∙ k) ∙ n in absurd cc

no_rest : (text rest : List ℕ) (n : ℕ) → length (text ++ rest) ≡ n → n ≤ length text → rest ≡ []
no_rest text [] n e h = refl
no_rest text (c ∷ rest) n e h = absurd (omega (arith, e, h, length-append text (c ∷ rest)))

bytes_length : (ls : List Letter) → length (map (λ (l : Letter). l.byte) ls) ≡ length ls
bytes_length [] = refl
bytes_length (l ∷ ls) = ap suc (bytes_length ls)

-- the whole text is one atom without bars and backslashes
record Plainly (t : List ℕ) : Type 0 where
  bytes : Each Bare t
  letters : letters_of false false t ≡ map raised t
  ends : Each (λ c. ends_atom c ≡ false) t
  sharp : begins_with 35 t ≡ false
  shape : shape_of t ≡ shapes.Name

plainly : (t : List ℕ) (s : Symbol) (o : Only t s) → length (letters_of false false o.text) ≡ length t → Plainly t
plainly t s o e =
    let empty : o.rest ≡ [] = no_rest o.text o.rest (length t) (ap length (sym o.slice)) (omega (arith, e, fewer false false o.text)) in
    let same : t ≡ o.text = o.slice ∙ ap (λ r. o.text ++ r) empty ∙ append-nil o.text in
    let b = bare t (ap (λ x. length (letters_of false false x)) same ∙ e) in
    let w = whole o.spelled refl empty b.0 o.here in
    record { bytes = b.0; letters = b.1; ends = w.0; sharp = w.1; shape = ap shape_of same ∙ o.atom.shape }

-- what the letters of an atom say of the symbol
module _ (text : List ℕ) (s : Symbol) where
  abbrev letters : List Letter
  letters = letters_of false false text

  abbrev Home : Type 0
  Home = (has_colon letters ≡ false) × (s.name ≡ map (λ (l : Letter). l.byte) letters)

  home : s.keyword ≡ false → 0 < length text → length text ≤ length s.name → symbol_of text ≡ Ok s → Home
  unfolding symbol_of
  home h some long e = by (is_keyword letters) (has_package letters) e
    where
      by : (k p : Bool) → symbol_by (package_by k p) letters ≡ Ok s → Home
      by true p q = let n = named_is true (drop 1 letters) s q in let c : true ≡ false = sym n.0 ∙ h in absurd cc
      by false true q =
          let n = named_is false (drop 6 letters) s q in
          absurd (omega (arith, some, long, ap length n.1.1, bytes_length (drop 6 letters), length-drop 6 letters, fewer false false text))
      by false false q = (named_is false letters s q).1

  key : s.keyword ≡ true → symbol_of text ≡ Ok s → (is_keyword letters ≡ true) × ((has_colon (drop 1 letters) ≡ false) × (s.name ≡ map (λ (l : Letter). l.byte) (drop 1 letters)))
  unfolding symbol_of
  key h e = by (is_keyword letters) (has_package letters) refl e
    where
      by : (k p : Bool) → is_keyword letters ≡ k → symbol_by (package_by k p) letters ≡ Ok s
          → (k ≡ true) × ((has_colon (drop 1 letters) ≡ false) × (s.name ≡ map (λ (l : Letter). l.byte) (drop 1 letters)))
      by true p f q = (refl, (named_is true (drop 1 letters) s q).1)
      by false true f q = let n = named_is false (drop 6 letters) s q in let c : true ≡ false = sym h ∙ n.0 in absurd cc
      by false false f q = let n = named_is false letters s q in let c : true ≡ false = sym h ∙ n.0 in absurd cc

home_back : (s : Symbol) → s.keyword ≡ false → Only s.name s → reads_back s ≡ true
unfolding reads_back
home_back s h o =
    let long : length o.text ≤ length s.name = omega (arith, ap length o.slice, length-append o.text o.rest) in
    let m = home o.text s h o.some long o.atom.symbol in
    let size : length (letters_of false false o.text) ≡ length s.name = sym (ap length m.1 ∙ bytes_length (letters_of false false o.text)) in
    let p = plainly s.name s o size in
    let empty : o.rest ≡ [] = no_rest o.text o.rest (length s.name) (ap length (sym o.slice)) (omega (arith, size, fewer false false o.text)) in
    let same : s.name ≡ o.text = o.slice ∙ ap (λ r. o.text ++ r) empty ∙ append-nil o.text in
    let raisen : letters_of false false o.text ≡ map raised s.name = ap (letters_of false false) (sym same) ∙ p.letters in
    let plain = stands s.name p.bytes p.ends (ap has_colon (sym raisen) ∙ m.0) (m.1 ∙ ap (map (λ (l : Letter). l.byte)) raisen) in
    rw (plain, h, symbolic s.name p.shape p.sharp) refl

key_back : (s : Symbol) → s.keyword ≡ true → Only (58 ∷ s.name) s → reads_back s ≡ true
unfolding reads_back
key_back s h o =
    let m = key o.text s h o.atom.symbol in
    let size : length (letters_of false false o.text) ≡ length (58 ∷ s.name) = first_dropped (letters_of false false o.text) m.0 (ap length m.1.1 ∙ bytes_length (drop 1 (letters_of false false o.text))) in
    let p = plainly (58 ∷ s.name) s o size in
    let empty : o.rest ≡ [] = no_rest o.text o.rest (length (58 ∷ s.name)) (ap length (sym o.slice)) (omega (arith, size, fewer false false o.text)) in
    let same : 58 ∷ s.name ≡ o.text = o.slice ∙ ap (λ r. o.text ++ r) empty ∙ append-nil o.text in
    let raisen : drop 1 (letters_of false false o.text) ≡ map raised s.name = ap (λ x. drop 1 (letters_of false false x)) (sym same) ∙ ap (drop 1) p.letters in
    let plain = stands s.name p.bytes.1 p.ends.1 (ap has_colon (sym raisen) ∙ m.1.0) (m.1.1 ∙ ap (map (λ (l : Letter). l.byte)) raisen) in
    rw (plain, h) refl
  where
    first_dropped : (ls : List Letter) → is_keyword ls ≡ true → length s.name ≡ length (drop 1 ls) → length ls ≡ suc (length s.name)
    first_dropped [] k e = cc
    first_dropped (l ∷ ls) k e = ap suc (sym e)

-- a symbol whose name is read as the symbol without bars is printed so
pub bars_needed : (s : Symbol) → reads_back s ≡ false → Reads (at 0 (colon_text s.keyword ++ s.name)) (made 0 (body.Sym s) ∷ []) → ⊥
unfolding colon_text
bars_needed s h r = by s.keyword refl (only r (colon_text s.keyword ++ s.name) s refl refl)
  where
    by : (k : Bool) → s.keyword ≡ k → Only ((if k then codes ":" else []) ++ s.name) s → ⊥
    by true e o = let c : false ≡ true = sym h ∙ key_back s e o in cc
    by false e o = let c : false ≡ true = sym h ∙ home_back s e o in cc
