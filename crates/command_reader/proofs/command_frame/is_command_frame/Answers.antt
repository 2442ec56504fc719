-- `command_reader::is_command_frame` meets its contract: the envelope is opened, then each test is a condition of a
-- command frame. Assumes nothing.
use mathlib.Core.Path.{sym, ◌∙◌}
use Rattle.std.proofs.Common.{rules, arith}
use Rattle.command_reader.proofs.CommandFrames.{failed_envelope, short_data, report_family, command_family}
use Rattle.command_reader.proofs.command_frame.is_command_frame.Goals as goal

pub returns-in_default : goal.returns-in_default
returns-in_default c = record { tested = failed_envelope _ _ (sym c.open.ensures.opened ∙ c.in_default.is) }

pub returns-then-ne : goal.returns-then-ne
returns-then-ne c =
    let opened = sym c.open.ensures.opened ∙ c.in-Ok.is in
    record { tested = report_family _ _ opened (search rules) }

pub returns-then-envelope : goal.returns-then-envelope
returns-then-envelope c =
    let opened = sym c.open.ensures.opened ∙ c.in-Ok.is in
    record { tested = short_data _ _ opened (omega arith) }

pub returns : goal.returns
returns c =
    let opened = sym c.open.ensures.opened ∙ c.in-Ok.is in
    let worded = command_family _ _ opened (search rules) (omega arith) in
    record { tested = rw c.number_in.ensures.read worded }
