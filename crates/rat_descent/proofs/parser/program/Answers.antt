-- Why a text that is read to its end is a program within its limits.
use Rattle.std.proofs.Common.{refl, ◌∙◌, ap, subst}
use Rattle.grammar.specs.declared.language.Event.TheVariants.{Open}
use Rattle.grammar.specs.Limits.{IsAccepted}
use Rattle.rat_parse_table.specs.declared.table.Terminal.TheVariants as terminals
use Rattle.rat_parse_table.specs.declared.table.Nonterminal.TheVariants as nonterminals
use Rattle.rat_parse_table.specs.declared.table.Production.TheVariants as productions
use Rattle.rat_parse_table.specs.Limits.{meter}
use Rattle.rat_parse_table.specs.Ratfor.{certificate}
use Rattle.rat_parse_table.specs.RatforSound.{sound}
use Rattle.rat_parse_values.specs.Values.{tok, program}
use Rattle.rat_parse.specs.Build.{build}
use Rattle.rat_parse.specs.Ratfor.{grammar}
use Rattle.descent.specs.Reading.{Begun}
use Rattle.descent.proofs.WholeLemmas.{descended}
use Rattle.rat_descent.proofs.parser.program.Goals as goal

pub returns : goal.returns
returns c =
    let ts = c.args.tokens.now in
    let reader = c.in_ok-reader.reader in
    let token = c.in_ok-token.token.now in
    let units = c.in_ok-units.ensures in
    let counts = c.next_counts-counts.ensures ∙ ap (meter.next (Open productions.Whole)) c.first_counts.ensures in
    let begun : Begun grammar ts (meter.next (Open productions.Whole) meter.first) reader = subst (λ m. Begun grammar ts m reader) counts c.in_ok-reader.ensures in
    subst (λ rs. IsAccepted grammar meter ts (program (record { routines = rs; finish = token.place }))) units.is
    (descended grammar certificate meter (sound (λ t. tok t) build) nonterminals.Units terminals.TextEnd ts reader c.units.new.reader units.value token refl begun units.reads c.in_ok-token.ensures)
