-- A text with its defines and includes becomes one token list, up to the first fault in reading order.
--
-- An include stands for the tokens of its file. The recursion goes down the number of files that may still be nested,
-- and within a file down its tokens. What is known of the library is taken as it is asked: nothing is fetched past the
-- first fault, and each file each time that it is included.
use Rattle.std.specs.Prelude.{ℕ, zero, suc, ◌-◌, ◌==◌, ◌&&◌, Bool, true, false, not, List, [], ◌∷◌, length, min, position, Option, Some, None, Result, Ok, Err, nat_lt, if◌then◌else◌}
use Rattle.std.specs.Option.{option_map_or}
use Rattle.std.specs.Str.{bytes_eq, is_utf8}
use Rattle.indexmap.specs.IndexSet.{insert_key}
use Rattle.ground.specs.declared.fault.Fault.{Fault}
use Rattle.ground.specs.Faults.{fault_at, limit_at}
use Rattle.ground.specs.declared.fault.FaultKind.TheVariants.{IncludeMissing, IncludeDepth}
use Rattle.ground.specs.declared.place.Place.{Place}
use Rattle.ground.specs.declared.token.Dialect.{Dialect}
use Rattle.ground.specs.declared.token.Token.{Token}
use Rattle.ground.specs.declared.token.TokenKind.{TokenKind}
use Rattle.ground.specs.declared.token.TokenKind.TheVariants.{Quoted, TextEnd}
use Rattle.free_scan.specs.Tokens.{scanned}
use Rattle.macro_define.specs.declared.defines.FirstWord.{FirstWord}
use Rattle.macro_define.specs.declared.defines.FirstWord.TheVariants.{Define, Include, Other}
use Rattle.macro_define.specs.Answers.{Answers, Known, after_fetch, answer, knows}
use Rattle.macro_define.specs.Defines.{define_of, ends_line, first_word}
use Rattle.macro_define.specs.Made.{Made, and_then}
use Rattle.macro_define.specs.Macros.{Macros, token_made}

-- What goes from one token to the next: the tokens made, the macros so far, the different names of files in the order
-- of their first use, how many more bytes may come, and what is known of the library, with
-- the names that were fetched.
pub record GatherState : Type 0 where
  pub made : Made
  pub macros : Macros
  pub files : List (List ℕ)
  pub room : ℕ
  pub answers : Answers

-- a fault, the name of the file of its place, and the names that were fetched up to it
pub record Stop : Type 0 where
  pub fault : Fault
  pub file : List ℕ
  pub fetched : List (List ℕ)

abbrev pub stop_in : List ℕ → Answers → Fault → Stop
stop_in name answers fault = record { fault = fault; file = name; fetched = answers.fetched }

abbrev pub in_file : {A : Type 0} → List ℕ → Answers → Result A Fault → Result A Stop
in_file name answers (Ok a) = Ok a
in_file name answers (Err fault) = Err (stop_in name answers fault)

-- The n-th different name has the number n-1; from the 65,536th on all have 65535.
abbrev pub file_number : List (List ℕ) → List ℕ → ℕ
file_number files name = option_map_or (λ n. min n 65535) (position (bytes_eq name) files) 65535

-- A library holds texts under names that are not empty. (Each name that can be fetched is UTF-8.)
abbrev pub can_hold : List ℕ → Bool
can_hold name = is_utf8 name && not (length name == 0)

abbrev pub held_under : List ℕ → Answers → Option (List ℕ)
held_under name answers = if can_hold name then answer answers.known name else None

-- a file of this name is wanted, which is fetched where a library can hold it
abbrev pub wanting : List ℕ → Answers → Answers
wanting name answers = if can_hold name then after_fetch name answers else answers

abbrev pub with_text : Place → Bool → Bool → List ℕ → GatherState → Option (List ℕ) → Result (List ℕ × GatherState) Fault
with_text place too_deep too_long name w None = Err (fault_at place IncludeMissing)
with_text place too_deep too_long name w (Some text) =
    if too_deep then Err (fault_at place IncludeDepth)
    else (if nat_lt (w.room) (length text) then Err (limit_at place 1)
    else (if too_long then Err (limit_at place 11)
    else Ok (text, record w { files = insert_key bytes_eq w.files name; room = w.room - length text })))

-- the text of the file of this name, for an include at a place or for the whole text at line 0
abbrev pub fetched_file : Place → Bool → Bool → List ℕ → List ℕ → GatherState → Result (List ℕ × GatherState) Stop
fetched_file place too_deep too_long includer name w =
    let after = wanting name w.answers in
    in_file includer after (with_text place too_deep too_long name (record w { answers = after }) (held_under name w.answers))

abbrev pub is_text_end : TokenKind → Bool
is_text_end TextEnd = true
is_text_end kind = false

abbrev pub with_made : GatherState → Result Made Fault → Result GatherState Fault
with_made w (Ok m) = Ok (record w { made = m })
with_made w (Err fault) = Err fault

-- the tokens that are left, and what goes on to them
abbrev pub Left : Type 0
Left = List Token × GatherState

-- a token that begins no define and no include; the TextEnd of an included file goes away
abbrev pub plain_token : Dialect → Bool → List ℕ → Token → GatherState → Result GatherState Stop
plain_token d outermost name t w = if not outermost && is_text_end (t.kind) then Ok w else in_file name w.answers (with_made w (token_made d w.macros t w.made))

-- a define whose word stands at a place
abbrev pub define_token : Dialect → List ℕ → Place → List Token → GatherState → Result Left Stop
define_token d name place ts w = and_then (in_file name w.answers (define_of d place w.macros ts)) (λ p. Ok (p.0, record w { macros = p.1 }))

abbrev pub quoted_at : Place → TokenKind → Option (Place × List ℕ)
quoted_at place (Quoted name) = Some (place, name)
quoted_at place kind = None

-- the name of an include: the scan gives it as a quoted text behind the word, unless it stops there
abbrev pub quoted_next : List Token → Option (Place × List ℕ)
quoted_next [] = None
quoted_next (t ∷ ts) = quoted_at (t.place) (t.kind)

-- the tokens behind the name
abbrev pub is_quoted : TokenKind → Bool
is_quoted (Quoted name) = true
is_quoted kind = false

abbrev pub behind_name : List Token → List Token
behind_name [] = []
behind_name (t ∷ ts) = if is_quoted (t.kind) then ts else t ∷ ts

-- the end of a file's tokens, or the fault at which the scan stopped
abbrev pub end_of : List ℕ → Option Fault → GatherState → Result GatherState Stop
end_of name (Some fault) w = Err (stop_in name w.answers fault)
end_of name None w = Ok w

-- `include` says what the file of a name makes, which is wanted at a place.
module _ (include : Place → List ℕ → GatherState → Result GatherState Stop) where
  -- an include of a file: the LineEnd of its line stays
  abbrev pub include_token : Option (Place × List ℕ) → List Token → GatherState → Result Left Stop
  include_token (Some (place, file)) ts w = and_then (include place file w) (λ v. Ok (ts, v))
  include_token None ts w = Ok (ts, w)

  module _ (d : Dialect) (outermost : Bool) (name : List ℕ) where
    -- a token and those behind it that belong to it
    abbrev pub part : FirstWord → Token → List Token → GatherState → Result Left Stop
    part Define t ts w = define_token d name (t.place) ts w
    part Include t ts w = include_token (quoted_next ts) (behind_name ts) w
    part Other t ts w = and_then (plain_token d outermost name t w) (λ v. Ok (ts, v))

    -- the tokens of a file from here on, of which there are at most n, and then their end
    abbrev pub from_tokens : ℕ → Bool → List Token → Option Fault → GatherState → Result GatherState Stop
    from_tokens zero begins ts fault w = end_of name fault w
    from_tokens (suc n) begins [] fault w = end_of name fault w
    from_tokens (suc n) begins (t ∷ ts) fault w = and_then (part (first_word begins (t.kind)) t ts w) (λ p. from_tokens n (ends_line (t.kind)) (p.0) fault (p.1))

-- a file's text
abbrev pub file_made : Dialect → (Place → List ℕ → GatherState → Result GatherState Stop) → Bool → List ℕ → List ℕ → GatherState → Result GatherState Stop
file_made d include outermost name text w =
    let r = scanned d text (file_number w.files name) in
    from_tokens include d outermost name (length r.tokens) true r.tokens r.fault w

-- the file of an include in a file, where so many more may be nested
abbrev pub include_made : Dialect → ℕ → List ℕ → Place → List ℕ → GatherState → Result GatherState Stop
include_made d zero includer place name w =
    and_then (fetched_file place true (nat_lt 255 (length name)) includer name w) (λ p. Ok (p.1))
include_made d (suc depth) includer place name w =
    and_then (fetched_file place false (nat_lt 255 (length name)) includer name w) (λ p. file_made d (include_made d depth name) false name (p.0) (p.1))

-- the whole text under a name, where so many files may be nested
abbrev pub text_made : Dialect → ℕ → List ℕ → GatherState → Result GatherState Stop
text_made d depth name w =
    and_then (fetched_file (record { file = 0; line = 0 }) false false name name w)
    (λ p. file_made d (include_made d depth name) true name (p.0) (p.1))

abbrev pub first_gathering : Known → GatherState
first_gathering known = record { made = record { tokens = []; left = 200000 }; macros = []; files = []; room = 4194304; answers = knows known [] }

-- The tokens of the text under this name, with its macros and includes, and the names of its files; or the first fault.
-- Either tells the names that were fetched.
abbrev pub gathered : Dialect → List ℕ → Known → Result GatherState Stop
gathered d name known = text_made d 10 name (first_gathering known)
