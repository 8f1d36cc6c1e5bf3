-- A call of a defined function, and when it is opened.
use Rattle.std.proofs.Common.{◌≡◌, ℕ, Bool, true, false, not, ◌&&◌, cond, List, ◌∷◌, Option, Some, None, IsTrue, is_some, nat_le, refl, sym, ap, ◌∙◌, subst}
use Rattle.std.specs.Option.{option_map}
use Rattle.ap_value.specs.declared.symbol.Symbol.{Symbol}
use Rattle.ap_term.specs.declared.term.Term.{Term, Call}
use Rattle.ap_term.specs.declared.term.Term.TheVariants.{outs-Call}
use Rattle.ap_term.specs.Metered.{Got}
use Rattle.ap_world.specs.declared.entry.Function.{Function}
use Rattle.ap_world.specs.Meaning.{Defs}
use Rattle.ap_kernel.specs.Opening.{opened, opened_layer, body_at}
use Rattle.ap_kernel.specs.declared.objects.Mode.{Mode}
use Rattle.ap_list.specs.Lists.{is_among}
use Rattle.ap_value.specs.Values.{symbol_eq}
use Rattle.ap_term.specs.Terms.{term_size}
use Rattle.ap_world.specs.declared.theory.Rune.TheVariants as rune
use Rattle.ap_world.specs.Theories.{is_enabled}
use Rattle.ap_term.specs.Equal.{term_eq}
use Rattle.ap_rewrite.specs.Settings.{Setting, Place, Inner}
use Rattle.ap_rewrite.specs.Rewriting.{most_nodes, none, answered, walk, open_instance, opened as opening, by_definition}
use Rattle.ap_rewrite.specs.Answering.{open_within, open_closed}

pub opened_at : (D : Defs) (t : Term) (f : Symbol) (us : List Term) (g : Function) → t ≡ Call f us → D f ≡ Some g → opened D t ≡ Some (body_at g us)
opened_at D t f us g e h = ap (opened D) e ∙ ap (opened_layer D) (outs-Call f us) ∙ ap (option_map (λ (k : Function). body_at k us)) h

pub is_defined : (D : Defs) (t : Term) (f : Symbol) (us : List Term) (g : Function) → t ≡ Call f us → D f ≡ Some g → IsTrue (is_some (opened D t))
is_defined D t f us g e h = subst (λ (o : Option Term). is_some o ≡ true) (sym (opened_at D t f us g e h)) refl

pub instance_is : (D : Defs) (t v : Term) (f : Symbol) (us : List Term) (g : Function) → t ≡ Call f us → D f ≡ Some g → Some v ≡ opened D t → v ≡ body_at g us
instance_is D t v f us g e h k = let x : ◌≡◌ {A = Option Term} (Some v) (Some (body_at g us)) = k ∙ opened_at D t f us g e h in cc

-- it isn't opened where the theory disables its definition, or it is closed, or its instance is too large
pub not_enabled : (a b c : Bool) (x y : Got (Option Term)) → a ≡ false → y ≡ cond (a && (not b && c)) x y
not_enabled true b c x y e = cc
not_enabled false b c x y e = refl

pub is_closed : (a b c : Bool) (x y : Got (Option Term)) → b ≡ true → y ≡ cond (a && (not b && c)) x y
is_closed true true c x y e = refl
is_closed false true c x y e = refl
is_closed a false c x y e = cc

pub too_large : (a b c : Bool) (x y : Got (Option Term)) → c ≡ false → y ≡ cond (a && (not b && c)) x y
too_large true true false x y e = refl
too_large true false false x y e = refl
too_large false b false x y e = refl
too_large a b true x y e = cc

pub is_opened : (a b c : Bool) (x y : Got (Option Term)) → a ≡ true → b ≡ false → c ≡ true → x ≡ cond (a && (not b && c)) x y
is_opened true false true x y e f h = refl
is_opened false b c x y e f h = cc
is_opened true true c x y e f h = cc
is_opened true false false x y e f h = cc

-- the instance of the body of a function that recurs: it is rewritten where the call is to be opened, else walked down
module _ (S : Setting) (r : Inner) (o : Mode) (p q : Place) (u v : Term) (n : ℕ) where
  abbrev by_list : Bool → Got (Option Term)
  by_list b = cond b (answered (r o q v n)) (walk S r o p q v false n)

  pub opened_whole : is_among term_eq u S.expand ≡ true → answered (r o q v n) ≡ open_within S r o p q u v n
  opened_whole e = ap by_list (sym e)

  pub walked_down : is_among term_eq u S.expand ≡ false → walk S r o p q v false n ≡ open_within S r o p q u v n
  walked_down e = ap by_list (sym e)

-- the instance of a body, by whether the function recurs
module _ (S : Setting) (r : Inner) (o : Mode) (p : Place) (f : Symbol) (u v : Term) (n : ℕ) where
  pub closed_within : (fs : List Symbol) → fs ≡ f ∷ p.closed → open_within S r o p (record { facts = p.facts; closed = fs; chain = p.chain }) u v n ≡ open_closed S r o p f u v n
  closed_within fs is = ap (λ gs. open_within S r o p (record { facts = p.facts; closed = gs; chain = p.chain }) u v n) is

  abbrev by_measure : Bool → Got (Option Term)
  by_measure b = cond (not b) (answered (r o p v n)) (open_closed S r o p f u v n)

  pub recurring : (g : Function) → is_some g.measure ≡ true → open_closed S r o p f u v n ≡ open_instance S r o p u f g v n
  recurring g e = ap by_measure (sym e)

  pub plain : (g : Function) → is_some g.measure ≡ false → answered (r o p v n) ≡ open_instance S r o p u f g v n
  plain g e = ap by_measure (sym e)

-- a call of a defined function: its definition is disabled or it is closed, its instance is too large, or it is opened
module _ (S : Setting) (r : Inner) (o : Mode) (p : Place) (t : Term) (f : Symbol) (us : List Term) (g : Function) (n : ℕ) where
  pub disabled : is_enabled S.theory (rune.Definition f) ≡ false → none n ≡ opening S r o p t f us (Some g) n
  disabled e = not_enabled (is_enabled S.theory (rune.Definition f)) (is_among symbol_eq f p.closed) (nat_le (term_size (body_at g us)) most_nodes) (open_instance S r o p t f g (body_at g us) n) (none n) e

  pub among : is_among symbol_eq f p.closed ≡ true → none n ≡ opening S r o p t f us (Some g) n
  among e = is_closed (is_enabled S.theory (rune.Definition f)) (is_among symbol_eq f p.closed) (nat_le (term_size (body_at g us)) most_nodes) (open_instance S r o p t f g (body_at g us) n) (none n) e

  pub too_grown : (v : Term) → v ≡ body_at g us → nat_le (term_size v) most_nodes ≡ false → none n ≡ opening S r o p t f us (Some g) n
  too_grown v e h =
      too_large (is_enabled S.theory (rune.Definition f)) (is_among symbol_eq f p.closed) (nat_le (term_size (body_at g us)) most_nodes) (open_instance S r o p t f g (body_at g us) n) (none n)
      (ap (λ (x : Term). nat_le (term_size x) most_nodes) (sym e) ∙ h)

  pub let_in : (u v : Term) → is_enabled S.theory (rune.Definition f) ≡ true → is_among symbol_eq f p.closed ≡ false → v ≡ body_at g us → nat_le (term_size v) most_nodes ≡ true → u ≡ t
      → open_instance S r o p u f g v n ≡ opening S r o p t f us (Some g) n
  let_in u v e h is small same =
      ap (λ (x : Term). open_instance S r o p x f g v n) same
      ∙ ap (λ (x : Term). open_instance S r o p t f g x n) is
      ∙ is_opened (is_enabled S.theory (rune.Definition f)) (is_among symbol_eq f p.closed) (nat_le (term_size (body_at g us)) most_nodes) (open_instance S r o p t f g (body_at g us) n) (none n)
      e h (ap (λ (x : Term). nat_le (term_size x) most_nodes) (sym is) ∙ small)

-- a function that isn't defined, and one that is
pub undefined : (S : Setting) (r : Inner) (o : Mode) (p : Place) (f : Symbol) (us : List Term) (n : ℕ) → None ≡ S.functions f → none n ≡ by_definition S r o p f us n
undefined S r o p f us n e = ap (λ (x : Option Function). opening S r o p (Call f us) f us x n) e

pub defined : (S : Setting) (r : Inner) (o : Mode) (p : Place) (f : Symbol) (us : List Term) (n : ℕ) (g : Function) (t : Term) → t ≡ Call f us → Some g ≡ S.functions f
    → opening S r o p t f us (Some g) n ≡ by_definition S r o p f us n
defined S r o p f us n g t call e = ap (λ (u : Term). opening S r o p u f us (Some g) n) call ∙ ap (λ (x : Option Function). opening S r o p (Call f us) f us x n) e
