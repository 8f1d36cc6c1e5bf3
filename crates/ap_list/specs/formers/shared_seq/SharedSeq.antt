-- How a `SharedSeq` stores its elements, by which a type may hold itself through one.
use mathlib.Core.Path.{◌≡◌, refl, sym}
use mathlib.Core.List.{List, []}
use mathlib.Core.Former.{Former, this, list, via, children}
use base.Stored.{code_map}
use denote.RattleType.{RattleType}
use denote.HoleLaws.{Alike}
use denote.HolePlaces.{Recodes, struct_places, laid}
use denote.Hole.Carrier.{listed, list-listed}
use denote.Hole.Fix.{over}
use denote.Param.Weighed.{Weighed, w_list}
use denote.Model.Placed.{view_places}
use Rattle.ap_list.specs.formers.seq.Seq as seq
use Rattle.ap_list.specs.formers.shared.Shared as shared
use Rattle.ap_list.specs.contracts.seq.Seq as seq_rows
use Rattle.ap_list.specs.declared.shared_seq.SharedSeq.TheInside.{Inside}
use Rattle.ap_list.specs.declared.shared_seq.SharedSeq.TheView.{view, invariant}
use Rattle.ap_list.specs.contracts.shared_seq.SharedSeq as rows
use Rattle.ap_list.specs.contracts.shared_seq.SharedSeq.TheInside as inside

-- the value is a list, and its elements are the places
abbrev pub the_former : Former {0} → Former {0}
the_former g = list g

abbrev pub the_weighed : {g : Former {0}} → Weighed g → Weighed (the_former g)
the_weighed w = w_list w

pub the_empty : List ⊥
the_empty = []

abbrev pub the_items : (X : Type 0) → List X → List X
the_items X xs = xs

pub the_items_listed : (X : Type 0) (xs : List X) → listed _ (children (the_former this) X xs) ≡ the_items X xs
the_items_listed X xs = list-listed X xs

-- the fields are one shared list
abbrev fields : Former {0}
fields = via (shared.the_former (seq.the_former this)) Inside (λ X s. s.inner) (λ X v. record { inner = v }) (λ X s. refl) (λ X v. refl)

module _ (R S : RattleType) (h : R.Denot → S.Denot) where
  pub the_places : Alike R S h → Alike (rows.the_row R) (rows.the_row S) ((the_former this).map R.Denot S.Denot h)
  the_places alike = view_places fields (list this) view (λ X Y k u. refl) (λ X u. refl) R.Denot S.Denot h
      (rows.the_row R).coded (rows.the_row S).coded
      (invariant R.Denot) (invariant S.Denot) (λ u p q. refl) (λ u p q. refl) (λ u e. tt) (λ u e. tt)
      (over (inside.the_row R)) (over (inside.the_row S))
      (struct_places (inside.the_type R) (inside.the_type S) ((seq.the_former this).map R.Denot S.Denot h, tt) _ (λ d. refl) refl
      (laid _ _ _ (shared.the_places (seq_rows.the_row R) (seq_rows.the_row S) ((seq.the_former this).map R.Denot S.Denot h) (seq.the_places R S h alike)), tt))

  pub the_codes_placed : Recodes R S h → Recodes (rows.the_row R) (rows.the_row S) ((the_former this).map R.Denot S.Denot h)
  the_codes_placed recodes xs = sym (code_map R.coded.code S.coded.code h (λ x. sym (recodes x)) xs)
