-- The tokens of the whole text, or its first fault.
use Rattle.std.proofs.Common.{◌≡◌, refl, Ok, Err, []}
use Rattle.macro_define.specs.declared.whole_text.Gathered.{Gathered}
use Rattle.macro_define.specs.Answers.{knows}
use Rattle.macro_define.specs.Expansion.{gathered, text_made}
use Rattle.macro_define.specs.Gathered.{Gathers, world}
use Rattle.macro_define.proofs.EndLemmas.{answer-ends}
use Rattle.macro_define.proofs.WholeLemmas.{answers-failed, answers-memory, answers-whole, gathered-start, through-gathered}
use Rattle.macro_define.proofs.whole_text.gather.Goals as goal

pub returns-in_err-add_text-clause-text : goal.returns-in_err-add_text-clause-text
returns-in_err-add_text-clause-text g c =
    let d = c.args.dialect in
    let name = c.args.name.now in
    let bytes = c.as_bytes-name.result.now in
    let old = c.new-gathering.result in
    let new = c.add_text.new.gathering in
    let is = c.new-gathering.ensures in
    let e = c.in_err-add_text.field-0.0 in
    let r = c.from_residual.result in
    through-gathered (g.L.Library.files c.args.library.now) (λ names. g.L.Library.fetches c.args.library.now names c.add_text.new.library) d name r
    (λ before after. Gathers {B = Unit {0}} (text_made d 10 bytes (world old before)) (Err e) (Ok (world new after)) after)
    c.in_err-add_text.ensures.made
    (λ a b h. answers-failed (text_made d 10 bytes (world old (knows a []))) (gathered d name a) (Ok (world new b)) b e r
    (gathered-start d name bytes old a c.as_bytes-name.ensures.value is.tokens is.left is.macros is.files is.room) h c.from_residual.ensures)

pub returns-in_err-files-clause-text : goal.returns-in_err-files-clause-text
returns-in_err-files-clause-text g c =
    let d = c.args.dialect in
    let name = c.args.name.now in
    let bytes = c.as_bytes-name.result.now in
    let old = c.new-gathering.result in
    let new = c.add_text.new.gathering in
    let r = c.from_residual-in_err-files.result in
    through-gathered (g.L.Library.files c.args.library.now) (λ names. g.L.Library.fetches c.args.library.now names c.add_text.new.library) d name r
    (λ before after. text_made d 10 bytes (world old before) ≡ Ok (world new after))
    c.in_ok-add_text.ensures.made
    (λ a b h. answers-memory (gathered d name a) b.fetched r c.from_residual-in_err-files.ensures)

pub returns-clause-text : goal.returns-clause-text
returns-clause-text g c =
    let d = c.args.dialect in
    let name = c.args.name.now in
    let bytes = c.as_bytes-name.result.now in
    let old = c.new-gathering.result in
    let new = c.add_text.new.gathering in
    let is = c.new-gathering.ensures in
    let all : Gathered = record { tokens = new.output.tokens; files = c.in_ok-files.files } in
    through-gathered (g.L.Library.files c.args.library.now) (λ names. g.L.Library.fetches c.args.library.now names c.add_text.new.library) d name (Ok all)
    (λ before after. text_made d 10 bytes (world old before) ≡ Ok (world new after))
    c.in_ok-add_text.ensures.made
    (λ a b h. answers-whole (text_made d 10 bytes (world old (knows a []))) (gathered d name a) new b all
    (gathered-start d name bytes old a c.as_bytes-name.ensures.value is.tokens is.left is.macros is.files is.room) h refl c.in_ok-files.ensures)

pub returns-clause-ended : goal.returns-clause-ended
returns-clause-ended g c =
    let all : Gathered = record { tokens = c.add_text.new.gathering.output.tokens; files = c.in_ok-files.files } in
    let is = returns-clause-text g c in
    answer-ends c.args.dialect c.args.name.now is.known is.names all is.by
