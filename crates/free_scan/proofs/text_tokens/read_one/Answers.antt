-- The line's tokens are all that was added, since there were none before.
use Rattle.std.proofs.Common.{◌≡◌, ◌++◌, List, sym, ap, ◌∙◌, Some}
use Rattle.ground.specs.declared.token.Token.{Token}
use Rattle.free_scan.specs.Left.{lines_left}
use Rattle.free_scan.specs.Lexemes.{with_tokens}
use Rattle.free_scan.specs.Tokens.{line_reading, tokens_in}
use Rattle.free_scan.proofs.LeftLemmas.{behind_line}
use Rattle.free_scan.proofs.text_tokens.read_one.Goals as goal

pub returns-then-start-text-clause-read : goal.returns-then-start-text-clause-read
returns-then-start-text-clause-read c =
    let d = c.args.dialect in
    let text = c.args.text.now in
    let r = line_reading d text c.args.file c.args.start in
    let added : c.scan_line.new.tokens.items ≡ tokens_in r = c.in_ok-outcome.ensures.tokens ∙ ap (λ (ts : List Token). ts ++ tokens_in r) c.requires.none in
    behind_line d text c.args.file c.args.start c.in_ok-outcome.outcome c.if-start-text.true c.in_ok-outcome.ensures.outcome c.in_ok-outcome.ensures.place
    ∙ ap (λ ts. with_tokens ts (lines_left d text c.args.file (Some c.in_ok-outcome.outcome))) (sym added)
