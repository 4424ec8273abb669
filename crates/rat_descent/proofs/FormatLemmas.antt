-- What the fields of a format read, from each position in a list of them.
use Rattle.std.proofs.Common.{◌≡◌, List, [], ◌∷◌, ◌++◌, refl, ap, subst, ◌∙◌}
use Rattle.grammar.specs.declared.language.Symbol.TheVariants.{Terminal as terminal_symbol, Nonterminal as nonterminal_symbol}
use Rattle.ground.specs.declared.token.Token.{Token}
use Rattle.f66_tree.specs.Fields.{Fields, NoField, Single, Slash}
use Rattle.f66_tree.specs.Views.{field_then, fields_of}
use Rattle.f66_tree.specs.declared.format.Field.{Field}
use Rattle.rat_parse_table.specs.declared.table.Terminal.TheVariants as terminals
use Rattle.rat_parse_table.specs.declared.table.Nonterminal.{Nonterminal}
use Rattle.rat_parse_table.specs.declared.table.Nonterminal.TheVariants as nonterminals
use Rattle.rat_parse_table.specs.declared.table.Production.TheVariants as productions
use Rattle.rat_parse_table.specs.ParseTable.{predict_at}
use Rattle.rat_parse_values.specs.Values.{tok, field, fields}
use Rattle.descent.specs.Reading.{done, next}
use Rattle.rat_descent.specs.Reading.{Reader, Reads}
use Rattle.rat_descent.specs.declared.formats.Position.{Position}
use Rattle.rat_descent.specs.declared.formats.Position.TheVariants as positions
use Rattle.rat_descent.proofs.Productions.{production, nothing}

-- what reads the rest of a list
abbrev pub rest_at : Position → Nonterminal
rest_at positions.Start = nonterminals.Fields
rest_at positions.Edit = nonterminals.AfterEdit
rest_at positions.Comma = nonterminals.NextField
rest_at positions.Slash = nonterminals.AfterSlash

-- fields, and what follows them
abbrev pub followed : List Field → Fields → Fields
followed [] rest = rest
followed (a ∷ all) rest = field_then a (followed all rest)

followed_by : (xs : List Field) (a : Field) (rest : Fields) → followed (xs ++ a ∷ []) rest ≡ followed xs (field_then a rest)
followed_by [] a rest = refl
followed_by (x ∷ xs) a rest = ap (field_then x) (followed_by xs a rest)

-- one more field behind
pub followed_more : (xs : List Field) (a : Field) (rest : Fields) {ys : List Field} → ys ≡ xs ++ a ∷ [] → followed ys rest ≡ followed xs (field_then a rest)
followed_more xs a rest e = ap (λ zs. followed zs rest) e ∙ followed_by xs a rest

pub followed_all : (xs : List Field) → followed xs NoField ≡ fields_of xs
followed_all [] = refl
followed_all (x ∷ xs) = ap (field_then x) (followed_all xs)

pub carried : {p q : Position} {r u s : Reader} {g : Fields} → p ≡ q → r ≡ u → Reads (nonterminal_symbol (rest_at p)) r (fields g) s
    → Reads (nonterminal_symbol (rest_at q)) u (fields g) s
carried {q = q} {r = r} {u = u} {s = s} {g = g} same here more =
    subst (λ v. Reads (nonterminal_symbol (rest_at q)) v (fields g) s) here (subst (λ i. Reads (nonterminal_symbol (rest_at i)) r (fields g) s) same more)

pub slash_at : (p : Position) {r s u : Reader} {t : Token} {g : Fields} → Reads (terminal_symbol terminals.Slash) r (tok t) s
    → Reads (nonterminal_symbol nonterminals.AfterSlash) s (fields g) u → Reads (nonterminal_symbol (rest_at p)) r (fields (Single 1 Slash g)) u
slash_at positions.Start slash more = production productions.SlashFirst refl refl refl refl (next slash (next more done))
slash_at positions.Edit slash more = production productions.EditSlash refl refl refl refl (next slash (next more done))
slash_at positions.Comma slash more = production productions.NextSlash refl refl refl refl (next slash (next more done))
slash_at positions.Slash slash more = production productions.SlashSlash refl refl refl refl (next slash (next more done))

pub comma_at : (p : Position) {r s u : Reader} {t : Token} {g : Fields} → (p ≡ positions.Start → ⊥) → (p ≡ positions.Comma → ⊥)
    → Reads (terminal_symbol terminals.Comma) r (tok t) s → Reads (nonterminal_symbol nonterminals.NextField) s (fields g) u
    → Reads (nonterminal_symbol (rest_at p)) r (fields g) u
comma_at positions.Start not_start not_comma comma more = absurd (not_start refl)
comma_at positions.Edit not_start not_comma comma more = production productions.EditComma refl refl refl refl (next comma (next more done))
comma_at positions.Comma not_start not_comma comma more = absurd (not_comma refl)
comma_at positions.Slash not_start not_comma comma more = production productions.SlashComma refl refl refl refl (next comma (next more done))

pub edit_at : (p : Position) {r s u : Reader} {f : Fields → Fields} {g : Fields} → (p ≡ positions.Edit → ⊥)
    → Reads (nonterminal_symbol nonterminals.Edit) r (field f) s → Reads (nonterminal_symbol nonterminals.AfterEdit) s (fields g) u
    → Reads (nonterminal_symbol (rest_at p)) r (fields (f g)) u
edit_at positions.Start not_edit edit more = production productions.EditFirst refl refl refl refl (next edit (next more done))
edit_at positions.Edit not_edit edit more = absurd (not_edit refl)
edit_at positions.Comma not_edit edit more = production productions.NextEdit refl refl refl refl (next edit (next more done))
edit_at positions.Slash not_edit edit more = production productions.SlashEdit refl refl refl refl (next edit (next more done))

pub ends_at : (p : Position) {r : Reader} → (p ≡ positions.Comma → ⊥) → r.seen ≡ terminals.Close → Reads (nonterminal_symbol (rest_at p)) r (fields NoField) r
ends_at positions.Start not_comma close = nothing productions.NoFields refl refl (ap (predict_at nonterminals.Fields) close)
ends_at positions.Edit not_comma close = nothing productions.EditDone refl refl (ap (predict_at nonterminals.AfterEdit) close)
ends_at positions.Comma not_comma close = absurd (not_comma refl)
ends_at positions.Slash not_comma close = nothing productions.SlashDone refl refl (ap (predict_at nonterminals.AfterSlash) close)
