-- What one token may be, and lists of parts. In all relations of the grammar the tokens of a part are those of the first list that stand
-- before the second.
use Rattle.std.specs.Prelude.{◌≡◌, ℤ, None, List, [], ◌∷◌, map, Option, Some}
use Rattle.std.specs.Char.{to_ascii_uppercase}
use Rattle.ground.specs.declared.place.Place.{Place}
use Rattle.ground.specs.declared.token.Token.{Token}
use Rattle.ground.specs.declared.token.TokenKind.{TokenKind}
use Rattle.ground.specs.declared.token.TokenKind.TheVariants as kinds
use Rattle.ground.specs.declared.token.Sign.{Sign as ASign}
use Rattle.ground.specs.declared.token.Sign.TheVariants as signs
use Rattle.f66_tree.specs.Syntax.{Text}
use Rattle.rat_parse_table.specs.Words.{reserved, terminal_in}

abbrev pub Tokens : Type 0
Tokens = List Token

abbrev pub token : TokenKind → Place → Token
token k p = record { kind = k; place = p }

-- one token of this kind, at whatever place
pub data One (kind : TokenKind) : Tokens → Tokens → Type 0 where
  one : {p : Place} {ts : Tokens} → One kind (token kind p ∷ ts) ts

abbrev pub LineEnd : Tokens → Tokens → Type 0
LineEnd = One kinds.LineEnd

abbrev pub Semicolon : Tokens → Tokens → Type 0
Semicolon = One kinds.Semicolon

abbrev pub TextEnd : Tokens → Tokens → Type 0
TextEnd = One kinds.TextEnd

abbrev pub Sign : ASign → Tokens → Tokens → Type 0
Sign s = One (kinds.Sign s)

-- one of these signs, with what stands beside it here
pub data OneOf {A : Type 0} : List (ASign × A) → Tokens → Tokens → A → Type 0 where
  here : {s : ASign} {x : A} {choices : List (ASign × A)} {a b : Tokens} → Sign s a b → OneOf ((s, x) ∷ choices) a b x
  there : {y : ASign × A} {x : A} {choices : List (ASign × A)} {a b : Tokens} → OneOf choices a b x → OneOf (y ∷ choices) a b x

abbrev pub Number : Tokens → Tokens → ℤ → Type 0
Number a b z = One (kinds.Number z) a b

abbrev pub Quoted : Tokens → Tokens → Text → Type 0
Quoted a b w = One (kinds.Quoted w) a b

abbrev pub capitals : Text → Text
capitals w = map to_ascii_uppercase w

-- a word, in whatever case
pub data Word (x : Text) : Tokens → Tokens → Type 0 where
  word : {w : Text} {p : Place} {ts : Tokens} → capitals w ≡ x → Word x (token (kinds.Word w) p ∷ ts) ts

-- a word that is not reserved; names are in capitals
pub data Name : Tokens → Tokens → Text → Type 0 where
  name : {w : Text} {p : Place} {ts : Tokens} → terminal_in reserved w ≡ None → Name (token (kinds.Word w) p ∷ ts) ts (capitals w)

abbrev pub nowhere : Place
nowhere = record { file = 0; line = 0 }

-- the place of the first token
abbrev pub place_at : Tokens → Place
place_at [] = nowhere
place_at (t ∷ ts) = t.place

-- item { "," item }
pub data Listed {A : Type 0} (Item : Tokens → Tokens → A → Type 0) : Tokens → Tokens → List A → Type 0 where
  last : {a b : Tokens} {x : A} → Item a b x → Listed Item a b (x ∷ [])
  comma : {a b c d : Tokens} {x : A} {xs : List A} → Item a b x → Sign signs.Comma b c → Listed Item c d xs → Listed Item a d (x ∷ xs)

-- [ item ]
pub data Perhaps {A : Type 0} (Item : Tokens → Tokens → A → Type 0) : Tokens → Tokens → Option A → Type 0 where
  none : {a : Tokens} → Perhaps Item a a None
  some : {a b : Tokens} {x : A} → Item a b x → Perhaps Item a b (Some x)

-- { item }
pub data Several {A : Type 0} (Item : Tokens → Tokens → A → Type 0) : Tokens → Tokens → List A → Type 0 where
  none : {a : Tokens} → Several Item a a []
  more : {a b c : Tokens} {x : A} {xs : List A} → Item a b x → Several Item b c xs → Several Item a c (x ∷ xs)

-- lines = { LineEnd }
pub data Lines : Tokens → Tokens → Type 0 where
  none : {a : Tokens} → Lines a a
  line : {a b c : Tokens} → LineEnd a b → Lines b c → Lines a c

-- stop = LineEnd | ";" | nothing, where "}" or TextEnd follows
pub data Stop : Tokens → Tokens → Type 0 where
  line : {a b : Tokens} → LineEnd a b → Stop a b
  semicolon : {a b : Tokens} → Semicolon a b → Stop a b
  brace : {a b : Tokens} → Sign signs.CloseBrace a b → Stop a a
  end : {a b : Tokens} → TextEnd a b → Stop a a
