-- Forms that stand in a text, alone and as the rest of a list, and what they mean.
use Rattle.std.proofs.Common.{◌≡◌, ℕ, ◌+◌, Bool, true, false, List, [], ◌∷◌, ◌++◌, length, Some, suc, refl, sym, ap, subst, ◌∙◌, arith}
use Rattle.ap_value.specs.declared.value.Value.{Value, Cons}
use Rattle.ap_tokens.specs.declared.token.Kind.{Kind}
use Rattle.ap_tokens.specs.declared.token.Kind.TheVariants as kinds
use Rattle.ap_tokens.specs.Bytes.{is_blank}
use Rattle.ap_tokens.specs.Gaps.{At, at}
use Rattle.ap_tokens.specs.Tokens.{Seen}
use Rattle.ap_tokens.specs.Grammar as tokens
use Rattle.ap_reader.specs.declared.form.Form.{Form}
use Rattle.ap_reader.specs.declared.form.Body.{Body}
use Rattle.ap_reader.specs.declared.leaf.Leaf.{Leaf}
use Rattle.ap_reader.specs.declared.reading.Head.TheVariants as heads
use Rattle.ap_reader.specs.declared.reading.Item.TheVariants as items
use Rattle.ap_reader.specs.Heads.{head_of, item_of, made, Parts, flat, dotted, listed, after_forms}
use Rattle.ap_reader.specs.Grammar.{Comes, Spells, SpellsAll}
use Rattle.ap_reader.specs.Grammar as spells
use Rattle.ap_round_trip.specs.ReadBack.{quoted_value, cons_of, nil}
use Rattle.ap_round_trip.proofs.Meant.{value_of, list_value, dotted_value, made_value}
use Rattle.ap_round_trip.proofs.Tokens.{Ends, space, name_ends, IsLeaf, token_here, after_space}

-- from a on stands a form, in which n more may be nested, that means v, and u is left
pub record Stands (n : ℕ) (a : At) (v : Value) (u : List ℕ) : Type 0 where
  pub token : Seen
  pub after : At
  pub form : Form
  pub end : At
  pub comes : Comes a token after
  pub opens : (some : Bool) → item_of some (head_of token.kind) ≡ items.Form
  pub spelled : Spells n token after form end
  pub rest : end.rest ≡ u
  pub means : quoted_value form ≡ Some v

-- from a on stands the rest of a list that means v, and u is left
pub record StandsRest (n : ℕ) (a : At) (v : Value) (u : List ℕ) : Type 0 where
  pub parts : Parts
  pub end : At
  pub spelled : SpellsAll n true a parts end
  pub rest : end.rest ≡ u
  pub means : value_of (listed parts) ≡ Some v

leaf_opens : (k : Kind) (l : Leaf) → head_of k ≡ heads.Leaf l → (some : Bool) → item_of some (head_of k) ≡ items.Form
leaf_opens k l e true = ap (item_of true) e
leaf_opens k l e false = ap (item_of false) e

pub leaf_stands : (n p : ℕ) (w u : List ℕ) (b : Body) (v : Value) → IsLeaf w b → value_of b ≡ Some v → Ends u → Stands n (at p (w ++ u)) v u
leaf_stands n p w u b v h is ends = record {
  token = record { start = p; text = w; kind = h.kind };
  after = at (p + length w) u;
  form = made p b;
  end = at (p + length w) u;
  comes = token_here h.kind p w u (h.here u) (h.spelled u ends) h.some;
  opens = leaf_opens h.kind h.leaf h.head;
  spelled = spells.leaf n (record { start = p; text = w; kind = h.kind }) (at (p + length w) u) h.leaf b h.head h.body;
  rest = refl;
  means = made_value p b ∙ is;
}

pub space_stands : (n p : ℕ) (t : List ℕ) (v : Value) (u : List ℕ) → Stands n (at (p + 1) t) v u → Stands n (at p (32 ∷ t)) v u
space_stands n p t v u h = record {
  token = h.token;
  after = h.after;
  form = h.form;
  end = h.end;
  comes = after_space p t h.token h.after h.comes;
  opens = h.opens;
  spelled = h.spelled;
  rest = h.rest;
  means = h.means;
}

-- the closing parenthesis
abbrev closing : ℕ → Seen
closing p = record { start = p; text = 41 ∷ []; kind = kinds.RightParen }

closes : (p : ℕ) (u : List ℕ) → Comes (at p (41 ∷ u)) (closing p) (at (p + 1) u)
unfolding is_blank
closes p u = token_here kinds.RightParen p (41 ∷ []) u refl (tokens.right_paren u) (omega arith)

pub close_rest : (n p : ℕ) (u : List ℕ) → StandsRest n (at p (41 ∷ u)) nil u
close_rest n p u = record {
  parts = flat [];
  end = at (p + 1) u;
  spelled = spells.close n true (closing p) (at p (41 ∷ u)) (at (p + 1) u) (closes p u) refl;
  rest = refl;
  means = list_value [];
}

-- a dot, a form and the closing parenthesis
dots : (p : ℕ) (t : List ℕ) → Comes (at p (32 ∷ 46 ∷ 32 ∷ t)) (record { start = p + 1; text = 46 ∷ []; kind = kinds.Dot }) (at (p + 1 + 1) (32 ∷ t))
unfolding is_blank
dots p t = after_space p (46 ∷ 32 ∷ t) (record { start = p + 1; text = 46 ∷ []; kind = kinds.Dot }) (at (p + 1 + 1) (32 ∷ t))
    (token_here kinds.Dot (p + 1) (46 ∷ []) (32 ∷ t) refl (tokens.dot (32 ∷ t) (name_ends (space t))) (omega arith))

pub dot_rest : (n p : ℕ) (t : List ℕ) (v : Value) (u : List ℕ) → Stands n (at (p + 1 + 1 + 1) t) v (41 ∷ u) → StandsRest n (at p (32 ∷ 46 ∷ 32 ∷ t)) v u
dot_rest n p t v u g =
    let h = space_stands n (p + 1 + 1) t v (41 ∷ u) g in
    let c : Comes h.end (closing h.end.place) (at (h.end.place + 1) u) = subst (λ r. Comes (at h.end.place r) (closing h.end.place) (at (h.end.place + 1) u)) (sym h.rest) (closes h.end.place u) in
    record {
      parts = dotted [] h.form;
      end = at (h.end.place + 1) u;
      spelled = spells.dot n true (record { start = p + 1; text = 46 ∷ []; kind = kinds.Dot }) (at p (32 ∷ 46 ∷ 32 ∷ t)) (at (p + 1 + 1) (32 ∷ t)) (at (h.end.place + 1) u) h.form (dots p t) refl
          (spells.last n h.token (closing h.end.place) (at (p + 1 + 1) (32 ∷ t)) h.after h.end (at (h.end.place + 1) u) h.form h.comes (h.opens true) h.spelled c refl);
      rest = refl;
      means = dotted_value [] h.form ∙ h.means;
    }

-- one more form in front of a list's parts
front_value : (f : Form) (x : Parts) → value_of (listed (after_forms (f ∷ []) x)) ≡ cons_of (quoted_value f) (value_of (listed x))
front_value f (flat fs) = list_value (f ∷ fs) ∙ ap (cons_of (quoted_value f)) (sym (list_value fs))
front_value f (dotted fs g) = dotted_value (f ∷ fs) g ∙ ap (cons_of (quoted_value f)) (sym (dotted_value fs g))

both_mean : (f : Form) (x : Parts) (v w : Value) → quoted_value f ≡ Some v → value_of (listed x) ≡ Some w → value_of (listed (after_forms (f ∷ []) x)) ≡ Some (Cons v w)
both_mean f x v w h k = front_value f x ∙ ap (λ o. cons_of o (value_of (listed x))) h ∙ ap (cons_of (Some v)) k

-- the first form of the rest of a list, after which r comes
pub more_rest : (n : ℕ) (a : At) (v w : Value) (r u : List ℕ) → Stands n a v r → ((p : ℕ) → StandsRest n (at p r) w u) → StandsRest n a (Cons v w) u
more_rest n a v w r u h k =
    let g : StandsRest n h.end w u = subst (λ t. StandsRest n (at h.end.place t) w u) (sym h.rest) (k h.end.place) in
    record {
      parts = after_forms (h.form ∷ []) g.parts;
      end = g.end;
      spelled = spells.more n true h.token a h.after h.end g.end h.form g.parts h.comes (h.opens true) h.spelled g.spelled;
      rest = g.rest;
      means = both_mean h.form g.parts v w h.means g.means;
    }

-- a list, whose first form stands behind its opening parenthesis
opens : (p : ℕ) (t : List ℕ) → Comes (at p (40 ∷ t)) (record { start = p; text = 40 ∷ []; kind = kinds.LeftParen }) (at (p + 1) t)
unfolding is_blank
opens p t = token_here kinds.LeftParen p (40 ∷ []) t refl (tokens.left_paren t) (omega arith)

list_opens : (some : Bool) → item_of some heads.Open ≡ items.Form
list_opens true = refl
list_opens false = refl

pub list_stands : (n p : ℕ) (t : List ℕ) (v w : Value) (r u : List ℕ) → Stands n (at (p + 1) t) v r → ((q : ℕ) → StandsRest n (at q r) w u) → Stands (suc n) (at p (40 ∷ t)) (Cons v w) u
list_stands n p t v w r u h k =
    let g : StandsRest n h.end w u = subst (λ t. StandsRest n (at h.end.place t) w u) (sym h.rest) (k h.end.place) in
    let x = after_forms (h.form ∷ []) g.parts in
    let s : Seen = record { start = p; text = 40 ∷ []; kind = kinds.LeftParen } in
    record {
      token = s;
      after = at (p + 1) t;
      form = made p (listed x);
      end = g.end;
      comes = opens p t;
      opens = list_opens;
      spelled = spells.list n s (at (p + 1) t) g.end x refl (spells.more n false h.token (at (p + 1) t) h.after h.end g.end h.form g.parts h.comes (h.opens false) h.spelled g.spelled);
      rest = g.rest;
      means = made_value p (listed x) ∙ both_mean h.form g.parts v w h.means g.means;
    }
