-- What a world has that has the functions of the ground world, of those that recursion speaks of.
use Rattle.std.proofs.Common.{◌≡◌, Bool, true, false, cond, IfSome, List, [], ◌∷◌, Option, Some, None, refl, sym, ap, ◌∙◌}
use Rattle.ap_list.specs.Lists.{Each}
use Rattle.ap_value.specs.declared.symbol.Symbol.{Symbol}
use Rattle.ap_value.specs.Values.{symbol_eq}
use Rattle.ap_value.proofs.Equals.{symbol_eq-true}
use Rattle.ap_term.specs.declared.term.Term.{Term}
use Rattle.ap_world.specs.declared.entry.Function.{Function}
use Rattle.ap_world.specs.Names.{not_name, natp_name, acl2_count_name}
use Rattle.ap_world.specs.Clauses.{not_of}
use Rattle.ap_world.specs.Meaning.{Defs}
use Rattle.ap_world.specs.Ground.{not_function, natp_function, acl2_count_function, ground_functions, named_in}
use Rattle.ap_world.specs.Sound.{known, given_function, HasFunctions, DefinedAlike}
use Rattle.ap_world.proofs.Equations.{knowing, prim_of_not}

-- the functions of the ground world that recursion speaks of
pub has_not : (D : Defs) → HasFunctions D → D not_name ≡ Some not_function
unfolding ground_functions not_function
has_not D h = h.0

pub has_natp : (D : Defs) → HasFunctions D → D natp_name ≡ Some natp_function
unfolding ground_functions natp_function
has_natp D h = h.1.1.1.1.1.1.1.1.1.1.1.1.1.1.0

pub has_count : (D : Defs) → HasFunctions D → D acl2_count_name ≡ Some acl2_count_function
unfolding ground_functions acl2_count_function
has_count D h = h.1.1.1.1.1.1.1.1.1.1.1.1.1.1.1.1.1.1.1.1.1.1.1.1.1.1.1.1.1.0

pub nots : (D : Defs) → HasFunctions D → (u : Term) → known D u ≡ true → known D (not_of u) ≡ true
unfolding not_function
nots D h u k = simp (k, has_not D h, prim_of_not, knowing)

-- a new name is none of theirs
named_there : (D : Defs) (fs : List Function) → Each (λ f. D f.name ≡ Some f) fs → (x : Symbol) (g : Function) → named_in fs x ≡ Some g → D x ≡ Some g
named_there D [] hs x g h = cc
named_there D (f ∷ fs) hs x g h = go (symbol_eq x f.name) refl (named_there D fs hs.1 x g) h
  where
    go : (b : Bool) → symbol_eq x f.name ≡ b → (named_in fs x ≡ Some g → D x ≡ Some g) → cond b (Some f) (named_in fs x) ≡ Some g → D x ≡ Some g
    go true q below k = ap D (symbol_eq-true x f.name q) ∙ hs.0 ∙ k
    go false q below k = below k

pub given_free : (D : Defs) → HasFunctions D → (f : Function) → D f.name ≡ None → IfSome (given_function f.name) (DefinedAlike f)
given_free D h f undefined = go (given_function f.name) refl
  where
    go : (o : Option Function) → given_function f.name ≡ o → IfSome o (DefinedAlike f)
    go None e = tt
    go (Some g) e = absurd (no (sym undefined ∙ named_there D ground_functions h f.name g e))
      where
        no : None ≡ Some g → ⊥
        no k = cc
