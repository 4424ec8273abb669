-- What a card says by its columns (X3.9-1966, sections 3.1 to 3.4).
use Rattle.std.specs.Prelude.{ℕ, zero, suc, ◌+◌, ◌-◌, ◌*◌, Bool, false, not, ◌==◌, ◌&&◌, ◌||◌, List, [], ◌∷◌, length, take, drop, Option, Some, None, unwrap_or, codes, nat_eq, nat_le, slice_index, if◌then◌else◌}
use Rattle.std.specs.List.{list_all}
use Rattle.card_reader.specs.declared.cards.CardKind.{CardKind}
use Rattle.card_reader.specs.declared.cards.CardKind.TheVariants.{Wrong, Comment, Continuation, Ending, Initial}

-- so many columns of a line, which is extended by blanks
unfoldable pub columns : ℕ → List ℕ → List ℕ
columns zero line = []
columns (suc n) [] = 32 ∷ columns n []
columns (suc n) (c ∷ line) = c ∷ columns n line

-- the columns that count
abbrev pub card : List ℕ → List ℕ
card line = columns 72 line

abbrev pub is_blank : ℕ → Bool
is_blank c = c == 32

abbrev pub is_printable : ℕ → Bool
is_printable c = nat_le 32 c && nat_le c 126

abbrev pub is_label_column : ℕ → Bool
is_label_column c = c == 32 || nat_le 48 c && nat_le c 57

-- the number that these columns complete; blanks are ignored
abbrev pub label_after : Option ℕ → List ℕ → Option ℕ
label_after label [] = label
label_after label (c ∷ cs) = label_after (if c == 32 then label else Some (10 * unwrap_or label 0 + (c - 48))) cs

-- whether these characters, and no others but blanks, stand here in order
abbrev pub is_spread : List ℕ → List ℕ → Bool
is_spread wanted [] = nat_eq (length wanted) 0
is_spread wanted (c ∷ cs) = if c == 32 then is_spread wanted cs else elim wanted [ [] ↦ false | w ∷ others ↦ c == w && is_spread others cs ]

abbrev pub begins_with : ℕ → List ℕ → Bool
begins_with b [] = false
begins_with b (c ∷ cs) = c == b

-- a comment has C in column 1, or is all blank
abbrev pub is_comment : List ℕ → Bool
is_comment columns = begins_with 67 columns || list_all is_blank columns

-- column 6 is neither blank nor 0
abbrev pub is_continuation : List ℕ → Bool
is_continuation columns = not (slice_index columns 5 == 32 || slice_index columns 5 == 48)

-- columns 1 to 6 are blank, and what stands behind them is END
abbrev pub is_end_line : List ℕ → Bool
is_end_line columns = list_all is_blank (take 6 columns) && is_spread (codes "END") (drop 6 columns)

-- the number in columns 1 to 5, or none where they are blank
abbrev pub label_of : List ℕ → Option ℕ
label_of columns = label_after None (take 5 columns)

abbrev pub kind_of : List ℕ → CardKind
kind_of columns =
    if not (list_all is_printable columns) then Wrong
    else (if is_comment columns then Comment
    else (if is_continuation columns then Continuation
    else (if is_end_line columns then Ending
    else (if list_all is_label_column (take 5 columns) then Initial (label_of columns)
    else Wrong))))

-- columns 7 to 72
abbrev pub piece_of : List ℕ → List ℕ
piece_of columns = drop 6 columns
