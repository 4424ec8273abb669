-- The words `define` and `include` at the beginning of a line, and the macro that a define makes.
use Rattle.std.specs.Prelude.{ℕ, ◌==◌, ◌&&◌, ◌||◌, Bool, true, false, not, List, [], ◌∷◌, ◌++◌, length, Option, Some, None, Result, Ok, Err, codes, is_some, nat_le, if◌then◌else◌}
use Rattle.std.specs.Str.{bytes_eq, str_eq_ignore_ascii_case}
use Rattle.indexmap.specs.IndexMap.{insert_entry}
use Rattle.ground.specs.declared.fault.Fault.{Fault}
use Rattle.ground.specs.Faults.{fault_at, limit_at}
use Rattle.ground.specs.declared.fault.FaultKind.TheVariants.{BadDefine}
use Rattle.ground.specs.declared.place.Place.{Place}
use Rattle.ground.specs.declared.token.Dialect.{Dialect}
use Rattle.ground.specs.declared.token.Token.{Token}
use Rattle.ground.specs.declared.token.TokenKind.{TokenKind}
use Rattle.ground.specs.declared.token.TokenKind.TheVariants.{Word, Sign as SignToken, LineEnd, TextEnd}
use Rattle.ground.specs.declared.token.Sign.TheVariants.{Open, Close, Comma}
use Rattle.macro_define.specs.declared.defines.FirstWord.{FirstWord}
use Rattle.macro_define.specs.declared.defines.FirstWord.TheVariants.{Define, Include, Other}
use Rattle.free_scan.specs.Tokens.{open_after}
use Rattle.macro_define.specs.Macros.{Macros, key, number_of}

-- the words that no macro is named as, in whatever case
abbrev pub is_reserved : List ℕ → Bool
is_reserved name = str_eq_ignore_ascii_case (codes "define") name || str_eq_ignore_ascii_case (codes "include") name

-- what a word at the beginning of a line begins
abbrev pub word_begins : List ℕ → FirstWord
word_begins name =
    if str_eq_ignore_ascii_case (codes "define") name then Define
    else (if str_eq_ignore_ascii_case (codes "include") name then Include
    else Other)

-- only the first word of a line that continues no other begins a define or an include
abbrev pub first_word : Bool → TokenKind → FirstWord
first_word true (Word name) = word_begins name
first_word begins kind = Other

abbrev pub ends_line : TokenKind → Bool
ends_line LineEnd = true
ends_line kind = false

-- the end of a line, or of the text in it
abbrev pub ends_text : TokenKind → Bool
ends_text LineEnd = true
ends_text TextEnd = true
ends_text kind = false

abbrev pub is_open : TokenKind → Bool
is_open (SignToken Open) = true
is_open kind = false

abbrev pub is_comma : TokenKind → Bool
is_comma (SignToken Comma) = true
is_comma kind = false

abbrev pub name_in : TokenKind → Option (List ℕ)
name_in (Word name) = Some name
name_in kind = None

abbrev pub is_close : TokenKind → Bool
is_close (SignToken Close) = true
is_close kind = false

-- the text of a define in parentheses and the tokens after it, or how it lacks its end
pub data Enclosed : Type 0 where
  Closed : List TokenKind → List Token → Enclosed
  Broken : Enclosed
  CutOff : Enclosed

-- The text up to the parenthesis that closes the define, behind this much of it, inside which so many more are open.
-- The parenthesis stands before the next LineEnd; the tokens may stop before, at a fault.
abbrev pub enclosed_text : ℕ → List TokenKind → List Token → Enclosed
enclosed_text opened text [] = CutOff
enclosed_text opened text (t ∷ ts) =
    if ends_text (t.kind) then Broken
    else (if is_close (t.kind) && opened == 0 then Closed text ts
    else enclosed_text (open_after opened (t.kind)) (text ++ t.kind ∷ []) ts)

-- the text up to the end of the line, behind this much of it, and the tokens from there on
abbrev pub line_text : List TokenKind → List Token → List TokenKind × List Token
line_text text [] = (text, [])
line_text text (t ∷ ts) = if ends_text (t.kind) then (text, t ∷ ts) else line_text (text ++ t.kind ∷ []) ts

-- the macros after a define of a name with this text; a later define of a name takes the place of the earlier
abbrev pub with_macro : Macros → List ℕ → List TokenKind → Macros
with_macro macros name text = insert_entry bytes_eq macros name text

-- whether a define of this name would pass the limit of 4,096 macros
abbrev pub is_full : Macros → List ℕ → Bool
is_full macros name = nat_le 4096 (length macros) && not (is_some (number_of macros name))

-- the tokens after a define, and the macros; or its fault
abbrev pub Defined : Type 0
Defined = Result (List Token × Macros) Fault

-- `define name text`: the text goes to the end of the line
abbrev pub line_define : Macros → List ℕ → List Token → Defined
line_define macros name ts = let p = line_text [] ts in Ok (p.1, with_macro macros name p.0)

abbrev pub with_enclosed : Place → Macros → List ℕ → Enclosed → Defined
with_enclosed place macros name (Closed text rest) = Ok (rest, with_macro macros name text)
with_enclosed place macros name Broken = Err (fault_at place BadDefine)
with_enclosed place macros name CutOff = Ok ([], macros)

-- `define(name, text)`: the text goes to the matching parenthesis
abbrev pub enclosed_define : Place → Macros → List ℕ → List Token → Defined
enclosed_define place macros name [] = Ok ([], macros)
enclosed_define place macros name (t ∷ ts) =
    if is_comma (t.kind) then with_enclosed place macros name (enclosed_text 0 [] ts) else Err (fault_at place BadDefine)

abbrev pub define_of_name : Place → Bool → Macros → List ℕ → List Token → Defined
define_of_name place true macros name ts = enclosed_define place macros name ts
define_of_name place false macros name ts = line_define macros name ts

-- a define whose name stands at a place
abbrev pub named_define : Dialect → Place → Bool → Macros → Place → Option (List ℕ) → List Token → Defined
named_define d place enclosed macros at None ts = Err (fault_at place BadDefine)
named_define d place enclosed macros at (Some name) ts =
    if is_reserved name then Err (fault_at place BadDefine)
    else (if is_full macros (key d name) then Err (limit_at at 4)
    else define_of_name place enclosed macros (key d name) ts)

abbrev pub define_from : Dialect → Place → Bool → Macros → List Token → Defined
define_from d place enclosed macros [] = Ok ([], macros)
define_from d place enclosed macros (t ∷ ts) = named_define d place enclosed macros (t.place) (name_in (t.kind)) ts

-- What stands behind the word `define` at a place. A define has its fault at the token at which it fails its form, with
-- the place of the word. Where the tokens stop at a fault before that, all of them belong to it.
abbrev pub define_of : Dialect → Place → Macros → List Token → Defined
define_of d place macros [] = Ok ([], macros)
define_of d place macros (t ∷ ts) =
    if is_open (t.kind) then define_from d place true macros ts else define_from d place false macros (t ∷ ts)
