-- A constant as it is written is a term of that value.
use Rattle.std.proofs.Common.{◌≡◌, ℕ, Bool, true, false, cond, nat_le, List, [], ◌∷◌, Option, Some, None, IfSome, IfOk, Result, Ok, Err, refl, ap, ◌∙◌, codes}
use Rattle.ap_value.specs.declared.value.Value.{Value}
use Rattle.ap_value.specs.declared.value.Value.TheVariants.{Int, Chr, Str, Sym}
use Rattle.ap_value.specs.Values.{acl2}
use Rattle.ap_value.specs.Counts.{node_count}
use Rattle.ap_value.proofs.Equals.{symbol_eq-true}
use Rattle.ap_reader.specs.declared.form.Form.{Form}
use Rattle.ap_reader.specs.declared.form.Body.TheOpen.{Body-F}
use Rattle.ap_term.specs.declared.term.Term.{Term, Quote}
use Rattle.ap_world.specs.declared.entry.Entry.{Entry}
use Rattle.ap_world.specs.World.{constant_of}
use Rattle.ap_translate.specs.declared.fault.TransKind.TheVariants as kinds
use Rattle.ap_translate.specs.declared.macros.Macro.TheVariants as m
use Rattle.ap_translate.specs.declared.fault.TransError.{TransError}
use Rattle.ap_translate.specs.Answers.{Answer, refused, ◌>>=◌, shaped, Gives}
use Rattle.ap_translate.specs.Names.{is_constant, is_starred}
use Rattle.ap_reader.specs.Tops.{Layer, layer_of, symbol_by, is_symbol, quoted_at}
use Rattle.ap_translate.specs.Parts.{symbol_at}
use Rattle.ap_translate.specs.Macros.{macros, macro_of, path_of}
use Rattle.ap_translate.specs.Quoted.{nil_value, constant_in}
use Rattle.ap_translate.specs.Shapes.{lambda_in}
use Rattle.ap_translate.specs.Plans.{quotation, named_by, headed_plan, plan_in}
use Rattle.ap_translate.specs.Table.{Bound, Readers, constant_term, variable_term, quoted_term, plan_term, term_layer, readers, level, within}
use Rattle.ap_translate.specs.Written.{literal_at, value_within, written_by, written}
use Rattle.ap_translate.specs.Laws.{IsConstant}
use Rattle.ap_translate.proofs.Nestings.{readers_some}
use Rattle.ap_translate.proofs.Smalls.{size_quote}

-- a value that is kept is kept as a term
value_term : (p : ℕ) (r : Answer Value) (v : Value) → (r >>= value_within p) ≡ Ok (Some v) → (quoted_term r >>= within p) ≡ Ok (Quote v)
value_term p (Err e) v h = absurd (no h)
  where
    no : Err e ≡ Ok (Some v) → ⊥
    no q = cc
value_term p (Ok w) v h = ap (λ n. cond (nat_le n 4096) (Ok (Quote w)) (refused p kinds.TermTooLarge)) (size_quote w) ∙ by_size (nat_le (node_count w) 4096) h
  where
    by_size : (b : Bool) → cond b (Ok (Some w)) (refused p kinds.TermTooLarge) ≡ Ok (Some v) → cond b (Ok (Quote w)) (refused p kinds.TermTooLarge) ≡ Ok (Quote v)
    by_size true q = let same : w ≡ v = cc in ap (λ x. Ok (Quote x)) same
    by_size false q = absurd (no q)
      where
        no : refused p kinds.TermTooLarge ≡ Ok (Some v) → ⊥
        no j = cc

quote_macro : macro_of (acl2 (codes "QUOTE")) ≡ Some m.Quote
unfolding macro_of macros
quote_macro = refl

quote_asks : (W : List Entry) (p : ℕ) (h f : Form) → is_symbol (codes "QUOTE") h ≡ true → plan_in W p (h ∷ f ∷ []) ≡ Ok (quotation f)
quote_asks W p h f q = by_layer (layer_of h) refl q
  where
    by_layer : (y : Layer) → layer_of h ≡ y → symbol_by (codes "QUOTE") y ≡ true → plan_in W p (h ∷ f ∷ []) ≡ Ok (quotation f)
    by_layer (Body-F.Sym s) e k =
        ap (λ y. headed_plan W p (symbol_at y) (lambda_in h) (f ∷ [])) e
        ∙ ap (λ o. named_by W p s o (path_of s) (f ∷ [])) (ap macro_of (symbol_eq-true s (acl2 (codes "QUOTE")) k) ∙ quote_macro)
    by_layer y e k = absurd (no k)
      where
        no : false ≡ true → ⊥
        no j = cc

module _ (W : List Entry) (b : Bound) (p : ℕ) (v : Value) where
  room : (g : Readers → Answer Term) → shaped p (readers W 400) g ≡ g (level W 399)
  room g = ap (λ o. shaped p o g) (readers_some W 400 399 refl)

  abbrev Agrees : Layer → Type 0
  Agrees y = written_by p (quoted_at y) (literal_at y) ≡ Ok (Some v) → (term_layer W (readers W 400) b p y >>= within p) ≡ Ok (Quote v)

  -- no constant has no value
  absent : {A : Type 0} → written_by p None None ≡ Ok (Some v) → A
  absent h = absurd (no h)
    where
      no : written_by p None None ≡ Ok (Some v) → ⊥
      no q = cc

  agree : (y : Layer) → Agrees y
  agree (Body-F.Int n) h = value_term p (Ok (Int n)) v h
  agree (Body-F.Chr c) h = value_term p (Ok (Chr c)) v h
  agree (Body-F.Str s) h = value_term p (Ok (Str s)) v h
  agree (Body-F.Sym s) h = by_kind (is_constant s) h
    where
      by_kind : (c : Bool) → written_by p None (cond c (Some (Sym s)) None) ≡ Ok (Some v)
          → (cond c (Ok (Quote (Sym s))) (cond (is_starred s.name) (constant_term p (constant_of W s)) (variable_term p b s)) >>= within p) ≡ Ok (Quote v)
      by_kind true k = value_term p (Ok (Sym s)) v k
      by_kind false k = absent k
  agree (Body-F.List []) h = ap (λ r. r >>= within p) (room (λ r. plan_in W p [] >>= plan_term r b p)) ∙ value_term p (Ok nil_value) v h
  agree (Body-F.List (f ∷ [])) h = absent h
  agree (Body-F.List (f ∷ g ∷ [])) h = by_head (is_symbol (codes "QUOTE") f) refl h
    where
      by_head : (c : Bool) → is_symbol (codes "QUOTE") f ≡ c → written_by p (cond c (Some g) None) None ≡ Ok (Some v)
          → (shaped p (readers W 400) (λ r. plan_in W p (f ∷ g ∷ []) >>= plan_term r b p) >>= within p) ≡ Ok (Quote v)
      by_head true q k =
          ap (λ r. r >>= within p) (room (λ r. plan_in W p (f ∷ g ∷ []) >>= plan_term r b p) ∙ ap (λ a. a >>= plan_term (level W 399) b p) (quote_asks W p f g q))
          ∙ value_term p (constant_in 399 g) v k
      by_head false q k = absent k
  agree (Body-F.List (f ∷ g ∷ h ∷ fs)) k = absent k
  agree (Body-F.Dotted fs f) h = absent h
  agree (Body-F.Quoted f) h = ap (λ r. r >>= within p) (room (λ r. quoted_term (r.constant f))) ∙ value_term p (constant_in 399 f) v h
  agree (Body-F.Quasi f) h = absent h
  agree (Body-F.Comma f) h = absent h
  agree (Body-F.CommaAt f) h = absent h

pub written_term : (f : Form) (r : Result (Option Value) TransError) → Gives r (written f) → IfOk r (λ o. IfSome o (IsConstant f))
written_term f (Err e) h = tt
written_term f (Ok None) h = tt
written_term f (Ok (Some v)) h = λ W b. agree W b f.place v (layer_of f) h
