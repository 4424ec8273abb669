-- A COMMON, an EQUIVALENCE and a DATA with their texts, and that these are read back.
use Rattle.std.proofs.Common.{◌≡◌, pos, [], ◌∷◌, Some, None, refl, arith, codes}
use Rattle.std.specs.Fmt.{digits}
use Rattle.f66_tree.specs.Syntax.{Formula, Int, Letter, Ref, Item, Minus, NoFormula, AndFormula, Constant, Declared, Act, Common, Equivalence, Preset}
use Rattle.stmt_text.specs.Texts.{statement_text}
use Rattle.deck.specs.ReadableStatements.{IsReadablePlace, IsReadableDeclared, IsReadableAct, common, equivalence, preset}

abbrev table : Declared
table = record { name = codes "A"; sizes = Constant (pos 2) ∷ [] }

abbrev variable : Declared
variable = record { name = codes "B"; sizes = [] }

-- the first element of the table
abbrev element : Formula
element = Item (codes "A") (AndFormula (Int (pos 1)) NoFormula)

table_reads : IsReadableDeclared table
table_reads = record { is_declared = refl; readable = refl }

variable_reads : IsReadableDeclared variable
variable_reads = record { is_declared = refl; readable = refl }

element_reads : IsReadablePlace element
element_reads = (refl, record { stands = refl; readable = refl })

place_reads : IsReadablePlace (Ref (codes "B"))
place_reads = (refl, record { stands = refl; readable = refl })

abbrev blocks : Act
blocks = Common (record { name = Some (codes "X"); list = table ∷ [] } ∷ record { name = None; list = variable ∷ [] } ∷ [])

blocks_text : statement_text blocks ≡ codes "COMMON /X/A(2)//B"
unfolding digits
blocks_text = refl

blocks_read : IsReadableAct blocks
blocks_read = common _ ((refl, (table_reads, tt)), ((tt, (variable_reads, tt)), tt))

abbrev shared : Act
shared = Equivalence ((element ∷ Ref (codes "B") ∷ []) ∷ [])

shared_text : statement_text shared ≡ codes "EQUIVALENCE (A(1),B)"
unfolding digits
shared_text = refl

shared_read : IsReadableAct shared
shared_read = equivalence _ ((element_reads, (place_reads, tt)), tt)

abbrev given : Act
given = Preset (record { places = element ∷ Ref (codes "B") ∷ []; values = (2, Minus (Int (pos 1))) ∷ [] } ∷ record { places = Ref (codes "B") ∷ []; values = (1, Letter 47) ∷ [] } ∷ [])

given_text : statement_text given ≡ codes "DATA A(1),B/2*-1/,B/1H//"
unfolding digits
given_text = refl

given_read : IsReadableAct given
given_read = preset _ (((element_reads, (place_reads, tt)), ((omega arith, refl), tt)), (((place_reads, tt), ((omega arith, refl), tt)), tt))
