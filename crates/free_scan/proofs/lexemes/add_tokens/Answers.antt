-- The tokens of the line are those so far, and those of the characters that are left.
use Rattle.std.proofs.Common.{◌≡◌, ◌+◌, ◌≤◌, [], ◌∷◌, ◌++◌, ap, sym, ◌∙◌, arith, length, drop, get_or, append_assoc}
use Rattle.std.proofs.lemmas.Grind.{common_steps}
use Rattle.ground.specs.declared.token.Token.{Token}
use Rattle.free_scan.specs.declared.lexemes.Lexeme.TheVariants.{Found}
use Rattle.free_scan.specs.declared.lines.Character.{Character}
use Rattle.free_scan.specs.Lexemes.{Reading, lexeme, more_of, tokens_of}
use Rattle.free_scan.proofs.TokenLemmas.{tokens_of-found}
use Rattle.free_scan.proofs.lexemes.add_tokens.Goals as goal

pub loop-at-preserved : goal.loop-at-preserved
loop-at-preserved c =
    let cs = c.args.characters.now in
    let at = c.loop-at.at in
    let other : Character = record { byte = 0; line = 0; next = 0 } in
    let more = c.in-Found.more in
    let is : lexeme c.args.dialect c.args.text.now (get_or cs at other) (drop at cs) ≡ Found c.in-Found.kind more = grind (arith, common_steps, c.in_ok-lexeme_at.ensures.lexeme, c.in-Found.is) in
    let short : more_of c.in_ok-lexeme_at.field-0 ≡ more = ap more_of c.in-Found.is in
    let fits : more + (at + 1) ≤ length cs = grind (arith, common_steps, c.in_ok-lexeme_at.ensures.within) in
    let found = tokens_of-found c.args.dialect c.args.text.now c.args.file cs at other c.in-Found.kind more c.loop-at-test.true is fits in
    let token : Token = record { kind = c.in-Found.kind; place = record { file = c.args.file; line = (get_or cs at other).line } } in
    let left : Reading = tokens_of c.args.dialect c.args.text.now c.args.file 0 (drop (at + (1 + more)) cs) in (
      c.loop-at.invariant.0 ∙ ap (λ (r : Reading). c.loop-at.tokens.items ++ r.tokens) found ∙ sym (append_assoc c.loop-at.tokens.items (token ∷ []) left.tokens) ∙ ap (λ ts. ts ++ left.tokens) (sym c.in_ok-push-in-Found.ensures.items),
      c.loop-at.invariant.1 ∙ ap (λ (r : Reading). r.fault) found,
      omega arith,
    )
