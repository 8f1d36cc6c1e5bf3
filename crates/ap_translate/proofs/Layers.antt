-- One level of a form, by what its parts are.
use Rattle.std.proofs.Common.{◌≡◌, ℕ, ◌+◌, true, List, Ok, sym, ap, ◌∙◌}
use Rattle.ap_reader.specs.declared.form.Form.{Form}
use Rattle.ap_reader.specs.declared.form.Body.TheOpen.{Body-F}
use Rattle.ap_reader.specs.declared.tops.FormRef.{FormRef}
use Rattle.ap_reader.specs.Tops.{as_layer}
use Rattle.ap_world.specs.declared.entry.Entry.{Entry}
use Rattle.ap_translate.specs.declared.fault.TransKind.TheVariants as kinds
use Rattle.ap_translate.specs.Answers.{Answer, refused, ◌>>=◌, shaped, each}
use Rattle.ap_translate.specs.Parts.{Layer, layer_of}
use Rattle.ap_translate.specs.Quoted.{constant_in}
use Rattle.ap_translate.specs.Rows.{pieced}
use Rattle.ap_translate.specs.Kept.{quote_pieced}
use Rattle.ap_translate.specs.Plans.{plan_in}
use Rattle.ap_translate.specs.Table.{Bound, Readers, quoted_term, plan_term, term_layer, part_layer, piece_layer, readers, term_in, part_in, piece_in, level}
use Rattle.ap_translate.proofs.Nestings.{readers_none, readers_some}

-- the level that is lent, by its kind
pub lent_is : {r s : FormRef} {l : Layer} → as_layer r ≡ l → r ≡ s → l ≡ as_layer s
lent_is lent is = sym lent ∙ ap as_layer is

module _ (W : List Entry) (n : ℕ) (b : Bound) (f : Form) where
  -- where m more may be nested within it
  module _ (m : ℕ) (left : n ≡ m + 1) where
    room : {A : Type 0} (p : ℕ) (g : Readers → Answer A) → shaped p (readers W n) g ≡ g (level W m)
    room p g = ap (λ o. shaped p o g) (readers_some W n m left)

    pub term_list : (fs : List Form) → layer_of f ≡ Body-F.List fs → term_in W n b f ≡ (plan_in W f.place fs >>= plan_term (level W m) b f.place)
    term_list fs e = ap (term_layer W (readers W n) b f.place) e ∙ room f.place (λ r. plan_in W f.place fs >>= plan_term r b f.place)

    pub term_quoted : (g : Form) → layer_of f ≡ Body-F.Quoted g → term_in W n b f ≡ quoted_term (constant_in m g)
    term_quoted g e = ap (term_layer W (readers W n) b f.place) e ∙ room f.place (λ r. quoted_term (r.constant g))

    pub term_quasi : (g : Form) → layer_of f ≡ Body-F.Quasi g → term_in W n b f ≡ part_in W m b g
    term_quasi g e = ap (term_layer W (readers W n) b f.place) e ∙ room f.place (λ r. r.part b g)

    pub part_list : (fs : List Form) → layer_of f ≡ Body-F.List fs → part_in W n b f ≡ (each (piece_in W m b) fs >>= λ xs. Ok (pieced xs))
    part_list fs e = ap (part_layer (readers W n) b f.place) e ∙ room f.place (λ r. each (r.piece b) fs >>= λ xs. Ok (pieced xs))

    pub part_quoted : (g : Form) → layer_of f ≡ Body-F.Quoted g → part_in W n b f ≡ (piece_in W m b g >>= λ x. Ok (quote_pieced x))
    part_quoted g e = ap (part_layer (readers W n) b f.place) e ∙ room f.place (λ r. r.piece b g >>= λ x. Ok (quote_pieced x))

    pub part_comma : (g : Form) → layer_of f ≡ Body-F.Comma g → part_in W n b f ≡ term_in W m b g
    part_comma g e = ap (part_layer (readers W n) b f.place) e ∙ room f.place (λ r. r.term b g)

    pub piece_splice : (g : Form) → layer_of f ≡ Body-F.CommaAt g → piece_in W n b f ≡ (term_in W m b g >>= λ u. Ok (record { spliced = true; term = u }))
    piece_splice g e = ap (piece_layer (readers W n) b f.place) e ∙ room f.place (λ r. r.term b g >>= λ u. Ok (record { spliced = true; term = u }))

  -- where no more may
  module _ (left : n ≡ 0) where
    no_room : {A : Type 0} (p : ℕ) (g : Readers → Answer A) → shaped p (readers W n) g ≡ refused p kinds.BadForm
    no_room p g = ap (λ o. shaped p o g) (readers_none W n left)

    pub term_list_none : (fs : List Form) → layer_of f ≡ Body-F.List fs → term_in W n b f ≡ refused f.place kinds.BadForm
    term_list_none fs e = ap (term_layer W (readers W n) b f.place) e ∙ no_room f.place (λ r. plan_in W f.place fs >>= plan_term r b f.place)

    pub term_quoted_none : (g : Form) → layer_of f ≡ Body-F.Quoted g → term_in W n b f ≡ refused f.place kinds.BadForm
    term_quoted_none g e = ap (term_layer W (readers W n) b f.place) e ∙ no_room f.place (λ r. quoted_term (r.constant g))

    pub term_quasi_none : (g : Form) → layer_of f ≡ Body-F.Quasi g → term_in W n b f ≡ refused f.place kinds.BadForm
    term_quasi_none g e = ap (term_layer W (readers W n) b f.place) e ∙ no_room f.place (λ r. r.part b g)

    pub part_list_none : (fs : List Form) → layer_of f ≡ Body-F.List fs → part_in W n b f ≡ refused f.place kinds.BadForm
    part_list_none fs e = ap (part_layer (readers W n) b f.place) e ∙ no_room f.place (λ r. each (r.piece b) fs >>= λ xs. Ok (pieced xs))

    pub part_quoted_none : (g : Form) → layer_of f ≡ Body-F.Quoted g → part_in W n b f ≡ refused f.place kinds.BadForm
    part_quoted_none g e = ap (part_layer (readers W n) b f.place) e ∙ no_room f.place (λ r. r.piece b g >>= λ x. Ok (quote_pieced x))

    pub part_comma_none : (g : Form) → layer_of f ≡ Body-F.Comma g → part_in W n b f ≡ refused f.place kinds.BadForm
    part_comma_none g e = ap (part_layer (readers W n) b f.place) e ∙ no_room f.place (λ r. r.term b g)

    pub piece_splice_none : (g : Form) → layer_of f ≡ Body-F.CommaAt g → piece_in W n b f ≡ refused f.place kinds.BadForm
    piece_splice_none g e = ap (piece_layer (readers W n) b f.place) e ∙ no_room f.place (λ r. r.term b g >>= λ u. Ok (record { spliced = true; term = u }))
