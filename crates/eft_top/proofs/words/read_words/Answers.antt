-- Why `read_words` keeps its clause.
use Rattle.std.proofs.Common.{rules, ◌≡◌}
use Rattle.std.specs.Option.{option_map}
use Rattle.eft_top.specs.Words.{texts}
use Rattle.eft_top.specs.Reading.{asked_command, command_of}
use Rattle.eft_top.proofs.ReadWords.{is_asked}
use Rattle.eft_top.proofs.words.read_words.Goals as goal

pub returns : goal.returns
returns c =
    let read : option_map asked_command c.read_command.result ≡ command_of (texts c.args.words.now.items) = search rules in
    is_asked (texts c.args.words.now.items) (option_map asked_command c.read_command.result) read
