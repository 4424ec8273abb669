-- Formats from tokens (X3.9-1966, section 7.2.3). What a text spells is taken first as it is written, with its commas and its
-- counts; then it is asked whether commas stand where they may, and what it means.
use Rattle.std.specs.Prelude.{ℕ, ◌+◌, ◌-◌, ◌*◌, Bool, true, false, ◌==◌, ◌&&◌, List, [], ◌∷◌, ◌++◌, Option, Some, None, min, if◌then◌else◌}
use Rattle.std.specs.List.{list_all}
use Rattle.f66_tree.specs.declared.editing.EditKind.{EditKind}
use Rattle.f66_tree.specs.declared.editing.EditKind.TheVariants as edits
use Rattle.f66_tree.specs.declared.expression.Operator.TheVariants.{Div}
use Rattle.f66_tree.specs.Fields.{Fields, NoField, Single, Group, Takes, Blanks, Chars, Slash}
use Rattle.f66_tree.specs.Syntax.{Text, Act, Format}
use Rattle.stmt_reader.specs.declared.token.Token.{Token}
use Rattle.stmt_reader.specs.declared.token.Token.TheVariants as t
use Rattle.stmt_reader.specs.Levels.{is_digit}
use Rattle.stmt_reader.specs.Taking.{then_if}

-- ---- as it is written ----

mutual
  pub data Item : Type 0 where
    -- a word, with the number before it
    Edit : Option ℕ → Text → Item
    Words : Text → Item
    Stroke : Item
    Point : Item
    Nest : Option ℕ → Items → Item

  pub data Items : Type 0 where
    Ends : Items
    Then : Item → Items → Items

abbrev pub count_tokens : Option ℕ → List Token → List Token
count_tokens None k = k
count_tokens (Some n) k = t.Number n ∷ k

abbrev mutual
  pub spell_item : Item → List Token → List Token
  spell_item (Edit n w) k = count_tokens n (t.Word w ∷ k)
  spell_item (Words text) k = t.Chars text ∷ k
  spell_item Stroke k = t.Joint Div ∷ k
  spell_item Point k = t.Comma ∷ k
  spell_item (Nest n inside) k = count_tokens n (t.Open ∷ spell_items inside (t.Close ∷ k))

  pub spell_items : Items → List Token → List Token
  spell_items Ends k = k
  spell_items (Then i is) k = spell_item i (spell_items is k)

-- ---- taken token by token ----

-- a group around what is read: its count, and what stands before it
pub record Around : Type 0 where
  pub count : Option ℕ
  pub before : List Item

pub data Place : Type 0 where
  At : List Around → List Item → Option ℕ → Place
  Lost : Place

abbrev pub items : List Item → Items
items [] = Ends
items (i ∷ is) = Then i (items is)

abbrev pub close : List Around → List Item → Place
close [] before = Lost
close (a ∷ around) before = At around (a.before ++ Nest a.count (items before) ∷ []) None

abbrev pub add : List Around → List Item → Option ℕ → Item → Place
add around before None i = At around (before ++ i ∷ []) None
add around before (Some n) i = Lost

abbrev pub take : Place → Token → Place
take (At around before None) (t.Number n) = At around before (Some n)
take (At around before (Some m)) (t.Number n) = Lost
take (At around before n) (t.Word w) = At around (before ++ Edit n w ∷ []) None
take (At around before n) (t.Chars text) = add around before n (Words text)
take (At around before n) (t.Joint Div) = add around before n Stroke
take (At around before n) t.Comma = add around before n Point
take (At around before n) t.Open = At (record { count = n; before = before } ∷ around) [] None
take (At around before None) t.Close = close around before
take (At around before (Some m)) t.Close = Lost
take (At around before n) _ = Lost
take Lost token = Lost

abbrev pub take_all : Place → List Token → Place
take_all p [] = p
take_all p (token ∷ tokens) = take_all (take p token) tokens

abbrev pub all_taken : Place → Option Items
all_taken (At [] before None) = Some (items before)
all_taken _ = None

abbrev pub items_of : List Token → Option Items
items_of tokens = all_taken (take_all (At [] [] None) tokens)

-- ---- where commas stand ----

-- what stands before: nothing, a comma, a slash, or another field
pub data Before : Type 0 where
  Nothing : Before
  Comma : Before
  Stroke' : Before
  Field : Before

abbrev pub may_begin : Before → Bool
may_begin Field = false
may_begin _ = true

abbrev pub may_point : Before → Bool
may_point Field = true
may_point Stroke' = true
may_point _ = false

abbrev pub may_end : Before → Bool
may_end Comma = false
may_end _ = true

-- a comma between two fields, which may be missing beside a slash
abbrev pub is_separated : Before → Items → Bool
is_separated b Ends = may_end b
is_separated b (Then Point is) = may_point b && is_separated Comma is
is_separated b (Then Stroke is) = is_separated Stroke' is
is_separated b (Then (Nest n inside) is) = may_begin b && (is_separated Nothing inside && is_separated Field is)
is_separated b (Then (Edit n w) is) = may_begin b && is_separated Field is
is_separated b (Then (Words text) is) = may_begin b && is_separated Field is

-- ---- what it means ----

-- a count or width above 65535 stands as 65535
abbrev pub small : ℕ → ℕ
small n = min n 65535

abbrev pub count_of : Option ℕ → ℕ
count_of None = 1
count_of (Some n) = small n

abbrev pub value_after : ℕ → Text → ℕ
value_after n [] = n
value_after n (c ∷ cs) = value_after (n * 10 + (c - 48)) cs

-- the width of an edit: a digit or more
abbrev pub width_of : Text → Option ℕ
width_of [] = None
width_of (c ∷ cs) = if list_all is_digit (c ∷ cs) then Some (small (value_after 0 (c ∷ cs))) else None

abbrev pub sized : Option ℕ → EditKind → Option ℕ → Option (Fields → Fields)
sized n kind None = None
sized n kind (Some w) = Some (Single (count_of n) (Takes kind w))

-- Iw, Lw, A1 and X
abbrev pub edit_of : Option ℕ → Text → Option (Fields → Fields)
edit_of n [] = None
edit_of n (c ∷ cs) =
    if c == 73 then sized n edits.Whole (width_of cs)
    else (if c == 76 then sized n edits.Truth (width_of cs)
    else (if c == 65 then elim cs [ [] ↦ None | d ∷ ds ↦ elim ds [ [] ↦ (if d == 49 then Some (Single (count_of n) (Takes edits.Letter 1)) else None) | _ ↦ None ] ]
    else (if c == 88 then elim cs [ [] ↦ Some (Single 1 (Blanks (count_of n))) | _ ↦ None ]
    else None)))

abbrev pub with_field : Option (Fields → Fields) → Option Fields → Option Fields
with_field (Some f) (Some rest) = Some (f rest)
with_field _ _ = None

abbrev pub grouped : Option ℕ → Option Fields → Option (Fields → Fields)
grouped n None = None
grouped n (Some inside) = Some (Group (count_of n) inside)

abbrev mutual
  pub field_of : Item → Option (Fields → Fields)
  field_of (Edit n w) = edit_of n w
  field_of (Words text) = Some (Single 1 (Chars text))
  field_of Stroke = Some (Single 1 Slash)
  field_of Point = Some (λ rest. rest)
  field_of (Nest n inside) = grouped n (fields_of inside)

  pub fields_of : Items → Option Fields
  fields_of Ends = Some NoField
  fields_of (Then i is) = with_field (field_of i) (fields_of is)

-- the fields of a format that is one pair of parentheses
abbrev pub inside_of : Items → Option Items
inside_of (Then (Nest None inside) Ends) = Some inside
inside_of _ = None

abbrev pub format_of : List Token → Option Act
format_of tokens = then_if (items_of tokens) (λ all. then_if (inside_of all) (λ inside. if is_separated Nothing inside then then_if (fields_of inside) (λ fs. Some (Format fs)) else None))
