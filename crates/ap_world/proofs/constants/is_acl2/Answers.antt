use Rattle.std.proofs.Common.{ap, sym, ◌∙◌, subst}
use Rattle.ap_value.specs.Values.{acl2, val_of, value_eq}
use Rattle.ap_value.proofs.Bytes.{AreSmall}
use Rattle.ap_world.specs.Primitives.{symbol_value}
use Rattle.ap_world.proofs.Symbols.{symbol_is, int_isnt, chr_isnt, str_isnt, cons_isnt}
use Rattle.ap_world.proofs.constants.is_acl2.Goals as goal

pub returns-in-Int : goal.returns-in-Int
returns-in-Int c = sym (ap (λ v. value_eq (val_of v) (symbol_value (acl2 c.args.name.now))) c.in-Int.is ∙ int_isnt _ (acl2 c.args.name.now))

pub returns-in-Chr : goal.returns-in-Chr
returns-in-Chr c = sym (ap (λ v. value_eq (val_of v) (symbol_value (acl2 c.args.name.now))) c.in-Chr.is ∙ chr_isnt _ (acl2 c.args.name.now))

pub returns-in-Str : goal.returns-in-Str
returns-in-Str c = sym (ap (λ v. value_eq (val_of v) (symbol_value (acl2 c.args.name.now))) c.in-Str.is ∙ str_isnt _ (acl2 c.args.name.now))

pub returns-in-Cons : goal.returns-in-Cons
returns-in-Cons c = sym (ap (λ v. value_eq (val_of v) (symbol_value (acl2 c.args.name.now))) c.in-Cons.is ∙ cons_isnt _ _ (acl2 c.args.name.now))

pub returns-in-Sym : goal.returns-in-Sym
returns-in-Sym c =
    let small : AreSmall c.in-Sym.s.name = subst AreSmall c.as_slice.ensures c.are_bytes.ensures in
    c.is_named.ensures ∙ sym (ap (λ v. value_eq (val_of v) (symbol_value (acl2 c.args.name.now))) c.in-Sym.is
    ∙ symbol_is c.in-Sym.s c.args.name.now small c.are_bytes-in-Sym.ensures)
