use Rattle.ap_term.specs.Printed.{symbol_text, character_text, quoted, value_text}
use Rattle.ap_term.specs.Starts.{value_opens}
use Rattle.ap_term.proofs.Folds.{chr_opens, chr_text, str_opens, str_text, sym_opens, sym_text}
use Rattle.ap_term.proofs.Parts.{whole_start}
use Rattle.ap_term.proofs.Wholes.{symbol_whole, character_whole, string_whole}
use Rattle.ap_term.proofs.starts.value_start.Goals as goal

pub returns-in-Chr-clause-start : goal.returns-in-Chr-clause-start
returns-in-Chr-clause-start c =
    let v = c.args.v.now in
    let code = c.in-Chr.code in
    whole_start (value_opens v) (value_text v) (character_text code) (chr_opens v code c.in-Chr.is) (chr_text v code c.in-Chr.is) (character_whole code)

pub returns-in-Str-clause-start : goal.returns-in-Str-clause-start
returns-in-Str-clause-start c =
    let v = c.args.v.now in
    let codes = c.in-Str.codes in
    whole_start (value_opens v) (value_text v) (quoted 34 codes) (str_opens v codes c.in-Str.is) (str_text v codes c.in-Str.is) (string_whole codes)

pub returns-in-Sym-clause-start : goal.returns-in-Sym-clause-start
returns-in-Sym-clause-start c =
    let v = c.args.v.now in
    let s = c.in-Sym.symbol in
    whole_start (value_opens v) (value_text v) (symbol_text s) (sym_opens v s c.in-Sym.is) (sym_text v s c.in-Sym.is) (symbol_whole s)
