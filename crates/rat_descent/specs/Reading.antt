-- What the functions of the descent read of a text of Ratfor.
use Rattle.std.specs.Prelude.{◌≡◌, ◌++◌, List}
use Rattle.grammar.specs.declared.language.Symbol.{Symbol}
use Rattle.grammar.specs.declared.language.Symbol.TheVariants.{Nonterminal as nonterminal_symbol}
use Rattle.grammar.specs.declared.language.Event.TheVariants.{Open, Close}
use Rattle.descent.specs.declared.reader.Reader as descent_reader
use Rattle.descent.specs.Reading.{with_meters}
use Rattle.descent.specs.Reading as descent
use Rattle.f66_tree.specs.Syntax.{Formula}
use Rattle.rat_parse_table.specs.declared.counts.Counts.{Counts}
use Rattle.rat_parse_table.specs.declared.table.Terminal.{Terminal}
use Rattle.rat_parse_table.specs.declared.table.Nonterminal.{Nonterminal}
use Rattle.rat_parse_table.specs.declared.table.Production.{Production}
use Rattle.rat_parse_table.specs.Limits.{meter}
use Rattle.rat_parse_table.specs.Ratfor.{certificate}
use Rattle.rat_parse_values.specs.Values.{Val}
use Rattle.rat_parse_values.specs.Parts.{as_formula, as_joins}
use Rattle.rat_parse_values.specs.Phrases.{joined}
use Rattle.rat_parse.specs.Ratfor.{grammar}

abbrev pub Reader : Type 0
Reader = descent_reader.Reader Terminal Counts

abbrev pub Reads : Symbol Terminal Nonterminal → Reader → Val → Reader → Type 0
Reads = descent.Reads grammar certificate meter

abbrev pub Parts : List (Symbol Terminal Nonterminal) → Reader → List Val → List Val → Reader → Type 0
Parts = descent.Parts grammar certificate meter

-- a production counts where it opens, and where it closes
abbrev pub opened : Production → Reader → Reader
opened p r = with_meters r (meter.next (Open p) r.meters)

abbrev pub closed : Production → Reader → Reader
closed p r = with_meters r (meter.next (Close p) r.meters)

-- A nonterminal is read, and gives this.
pub record Gives {A : Type 0} (i : Nonterminal) (part : Val → A) (r : Reader) (a : A) (s : Reader) : Type 0 where
  pub value : Val
  pub reads : Reads (nonterminal_symbol i) r value s
  pub is : part value ≡ a

abbrev pub Formed : Nonterminal → Reader → Formula → Reader → Type 0
Formed i = Gives i as_formula

-- A nonterminal is read whose value nothing asks for.
pub record Passes (i : Nonterminal) (r s : Reader) : Type 0 where
  pub value : Val
  pub reads : Reads (nonterminal_symbol i) r value s

-- Operators with their operands are read, and join an expression to this one.
abbrev pub Joins : Nonterminal → Reader → Formula → Formula → Reader → Type 0
Joins i r f h s = Gives i (λ v. joined f (as_joins v)) r h s

-- The rest of a list is read, behind the items before it.
abbrev pub Lengthens : {A : Type 0} → Nonterminal → (Val → List A) → Reader → List A → List A → Reader → Type 0
Lengthens i items r before all s = Gives i (λ v. before ++ items v) r all s
