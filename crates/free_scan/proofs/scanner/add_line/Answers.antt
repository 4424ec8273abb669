-- A line with an include word: its tokens, its outcome, and where the next line begins.
use Rattle.std.proofs.Common.{◌≡◌, ◌+◌, ◌++◌, ap, subst, ◌∙◌, arith, length, cond, Some, None}
use Rattle.std.specs.Prelude.{OnOk, IfOk, Result, Ok, Err}
use Rattle.std.specs.declared.alloc.AllocError.{AllocError}
use Rattle.std.specs.List.{prefix_len}
use Rattle.std.proofs.lemmas.List.Elements.{All-drop}
use Rattle.free_scan.specs.declared.scanner.LineStart.{LineStart}
use Rattle.free_scan.specs.declared.scanner.Outcome.{Outcome}
use Rattle.free_scan.specs.declared.scanner.Outcome.TheVariants.{Goes as GoesOn, Stops as StopsThere}
use Rattle.free_scan.specs.IncludeNames.{begun, include_word}
use Rattle.free_scan.specs.Lexemes.{bytes_of, is_gap}
use Rattle.free_scan.specs.Lines.{IsPlace, IsWithin, Line}
use Rattle.free_scan.specs.Tokens.{IfGoes, LineReading, include_line, line_of, line_by_word, tokens_in, outcome}
use Rattle.free_scan.proofs.WordLemmas.{include_word-within}
use Rattle.free_scan.proofs.scanner.add_line.Goals as goal
use Rattle.free_scan.proofs.scanner.add_line.Goals.{In_ok-word-in-Some}

-- the word was found among the line's characters
found : (c : In_ok-word-in-Some) → Some (c.in-Some.first, c.in-Some.last) ≡ cond c.args.start.continues None (include_word (begun c.args.characters.now))
found c = c.in-Some.ensures ∙ ap (λ cs. cond c.args.start.continues None (include_word cs)) c.begun-line.ensures

within : (c : In_ok-word-in-Some) → IsWithin c.args.start.next (length c.args.text.now) c.in-Some.last
within c =
    let P = IsWithin c.args.start.next (length c.args.text.now) in
    let cs = c.args.characters.now in
    (include_word-within P (begun cs) c.args.start.continues c.in-Some.first c.in-Some.last (All-drop P (prefix_len (λ x. is_gap x.byte) cs) cs c.requires.within) (found c)).1

pub include_line-requires : goal.include_line-requires
include_line-requires c =
    let w = within (goal.at.include_line-requires c).In_ok-word-in-Some in
    record { short = c.requires.short; in_text = w.in_text; counted = w.counted; numbered = w.numbered }

-- the include line is the definition's
same_line : (c : In_ok-word-in-Some) → include_line c.args.text.now c.args.file c.in_ok-word-in-Some.word c.in-Some.first c.in-Some.last
    ≡ line_of c.args.dialect c.args.text.now c.args.file c.args.start (record { characters = c.args.characters.now; ending = c.args.ending })
same_line c =
    let l : Line = record { characters = c.args.characters.now; ending = c.args.ending } in
    let word = c.in_ok-word-in-Some.ensures ∙ c.in_ok-bytes-in-Some.ensures ∙ ap (λ cs. bytes_of cs 7) c.begun-line.ensures in
    ap (λ w. include_line c.args.text.now c.args.file w c.in-Some.first c.in-Some.last) word
    ∙ ap (line_by_word c.args.dialect c.args.text.now c.args.file c.args.start l) (found c)

-- what the next line's start is known to be
raised : (r : Result Outcome AllocError) (P Q : LineStart → Type 0) → ((s : LineStart) → P s → Q s) → IfOk r (λ o. IfGoes o P) → IfOk r (λ o. IfGoes o Q)
raised (Ok (GoesOn s)) P Q h p = h s p
raised (Ok (StopsThere f)) P Q h p = tt
raised (Err e) P Q h p = tt

pub returns-in_ok-word-in-Some-clause-tokens : goal.returns-in_ok-word-in-Some-clause-tokens
returns-in_ok-word-in-Some-clause-tokens c =
    let same = same_line (goal.at.returns-in_ok-word-in-Some-clause-tokens c).In_ok-word-in-Some in
    subst (λ (r : LineReading). OnOk c.include_line.result (c.include_line.new.tokens.items ≡ c.args.tokens.now.items ++ tokens_in r)) same c.include_line.ensures.tokens

pub returns-in_ok-word-in-Some-clause-outcome : goal.returns-in_ok-word-in-Some-clause-outcome
returns-in_ok-word-in-Some-clause-outcome c =
    let same = same_line (goal.at.returns-in_ok-word-in-Some-clause-outcome c).In_ok-word-in-Some in
    subst (λ (r : LineReading). IfOk c.include_line.result (λ o. o ≡ outcome r)) same c.include_line.ensures.outcome

pub returns-in_ok-word-in-Some-clause-place : goal.returns-in_ok-word-in-Some-clause-place
returns-in_ok-word-in-Some-clause-place c =
    let w = within (goal.at.returns-in_ok-word-in-Some-clause-place c).In_ok-word-in-Some in
    let size = length c.args.text.now in
    raised c.include_line.result (λ after. IsPlace c.in-Some.last.next size after.next after.number) (λ after. IsPlace (c.args.start.next + 1) size after.next after.number)
    (λ s p. record { after_low = omega (arith, p.after_low, w.after_start); in_text = p.in_text; counted = p.counted; numbered = p.numbered })
    c.include_line.ensures.place
