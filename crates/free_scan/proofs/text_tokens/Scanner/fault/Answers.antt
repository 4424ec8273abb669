-- Where no token is left there is none at hand, and then no line.
use Rattle.std.proofs.Common.{◌≡◌, ◌++◌, List, [], ap, ◌∙◌}
use Rattle.ground.specs.declared.token.Token.{Token}
use Rattle.free_scan.specs.Left.{lines_left}
use Rattle.free_scan.specs.Lexemes.{Reading, with_tokens}
use Rattle.free_scan.proofs.LeftLemmas.{none_at_hand}
use Rattle.free_scan.proofs.text_tokens.Scanner.fault.Goals as goal

pub returns : goal.returns
returns c = λ none.
    let s = c.self.inside in
    let line : List Token = c.fetch.new.line.items in
    let left = lines_left s.dialect s.text.now s.file c.fetch.new.next in
    let whole : with_tokens line left ≡ c.args.self.now = c.in_ok-fetch.ensures.same ∙ c.self.view_is in
    let empty : line ++ left.tokens ≡ [] = ap (λ (r : Reading). r.tokens) whole ∙ none in
    c.fault_behind.ensures s.dialect s.text.now s.file (c.in_ok-fetch.ensures.ended (none_at_hand line left.tokens empty))
    ∙ ap (λ (r : Reading). r.fault) whole
