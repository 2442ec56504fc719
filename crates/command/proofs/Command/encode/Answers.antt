-- `command::Command::encode` meets its contract: the values are tested, then the frame is made of the word and the
-- value. Assumes nothing.
use mathlib.Core.Path.{sym, ◌∙◌}
use Rattle.command.proofs.Encoding.{encode_refused, encode_made}
use Rattle.command.proofs.Command.encode.Goals as goal

pub returns-then-not-encodable : goal.returns-then-not-encodable
returns-then-not-encodable c =
    encode_refused c.args.self c.args.out.now (sym c.encodable.ensures.tested ∙ c.if-not-encodable.true)

pub returns : goal.returns
returns c =
    let good = sym c.encodable.ensures.tested ∙ c.if-not-encodable.false in
    encode_made c.args.self c.args.out.now _ _ _ _ good c.word.ensures.worded c.value.ensures.carried
    c.put_value.ensures
