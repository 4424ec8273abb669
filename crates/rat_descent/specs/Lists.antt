-- Lists that are read as a first item and the others behind it.
use Rattle.std.specs.Prelude.{ℕ, ◌≡◌, List, ◌∷◌}
use Rattle.grammar.specs.declared.language.Symbol.TheVariants.{Nonterminal as nonterminal_symbol}
use Rattle.f66_tree.specs.Syntax.{Formula, Area, PresetPart}
use Rattle.rat_parse_table.specs.declared.table.Nonterminal.{Nonterminal}
use Rattle.rat_parse_table.specs.declared.table.Nonterminal.TheVariants as nonterminals
use Rattle.rat_parse_values.specs.Values.{Val}
use Rattle.rat_parse_values.specs.Parts.{as_formula, as_exprs, as_areas, as_groups, as_data, as_presets, with_area, with_datum, with_preset}
use Rattle.rat_descent.specs.Reading.{Reader, Reads}

pub record Headed {A : Type 0} (i j : Nonterminal) (before : Val → List A → List A) (items : Val → List A) (r : Reader) (list : List A) (s : Reader) : Type 0 where
  pub first : Val
  pub others : Val
  pub middle : Reader
  pub reads_first : Reads (nonterminal_symbol i) r first middle
  pub reads_others : Reads (nonterminal_symbol j) middle others s
  pub is : before first (items others) ≡ list

-- the areas of a COMMON
abbrev pub Areas : Reader → List Area → Reader → Type 0
Areas = Headed nonterminals.FirstArea nonterminals.AreaMore with_area as_areas

-- the groups of an EQUIVALENCE
abbrev pub Groups : Reader → List (List Formula) → Reader → Type 0
Groups = Headed nonterminals.Alias nonterminals.AliasMore (λ v all. as_exprs v ∷ all) as_groups

-- the places of a part of a DATA
abbrev pub Places : Reader → List Formula → Reader → Type 0
Places = Headed nonterminals.Ref nonterminals.RefMore (λ v all. as_formula v ∷ all) as_exprs

-- the values of a part of a DATA, with their counts
abbrev pub Initials : Reader → List (ℕ × Formula) → Reader → Type 0
Initials = Headed nonterminals.Datum nonterminals.DatumMore with_datum as_data

-- the parts of a DATA
abbrev pub Presets : Reader → List PresetPart → Reader → Type 0
Presets = Headed nonterminals.Preset nonterminals.PresetMore with_preset as_presets
