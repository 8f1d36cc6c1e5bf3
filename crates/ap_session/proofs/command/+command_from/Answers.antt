use Rattle.std.proofs.Common.{◌≡◌, ◌∙◌, Some, sym, option_map, string_bytes}
use Rattle.ap_session.specs.declared.command.Flag.TheVariants.{Number, Trace}
use Rattle.ap_session.specs.Command.{flag_of, shown_command}
use Rattle.ap_session.proofs.Commanding.{traced_of, numbered_of}
use Rattle.ap_session.proofs.command.+command_from.Goals as goal

pub returns-in_ok-with_trace-in-Some-Trace : goal.returns-in_ok-with_trace-in-Some-Trace
returns-in_ok-with_trace-in-Some-Trace d c =
    let flag : flag_of (string_bytes c.word-item-2.result) ≡ Some Trace = cc (c.flag_in-in-len2-up.ensures, c.in-Some-Trace.is, c.in-Some-Trace.field-0-is) in
    traced_of string_bytes c.args.words.now c.word-item-2.result c.args.options c.in_ok-with_trace-in-Some-Trace.field-0 (option_map shown_command c.command_from.result)
    c.in-len2-up.len_at_least c.word-item-2.is flag (sym c.with_trace.ensures ∙ c.in_ok-with_trace-in-Some-Trace.was) c.command_from.ensures

pub returns-in_ok-with_number-in-Some-Number : goal.returns-in_ok-with_number-in-Some-Number
returns-in_ok-with_number-in-Some-Number d c =
    let flag : flag_of (string_bytes c.word-item-2.result) ≡ Some (Number c.in-Some-Number.counted) = cc (c.flag_in-in-len2-up.ensures, c.in-Some-Number.is, c.in-Some-Number.field-0-is) in
    numbered_of string_bytes c.args.words.now c.word-item-2.result c.next-item.result c.in-Some-Number.counted c.args.options c.in_ok-with_number-in-Some-Number.field-0 (option_map shown_command c.command_from-in-Some-Number.result)
    c.in-len2-up.len_at_least c.word-item-2.is c.next-item.is flag (sym c.with_number.ensures ∙ c.in_ok-with_number-in-Some-Number.was)
    c.command_from-in-Some-Number.ensures
