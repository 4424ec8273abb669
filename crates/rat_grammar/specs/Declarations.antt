-- Specifications, DATA, and the lists of READ and WRITE.
use Rattle.std.specs.Prelude.{ℕ, ℤ, pos, codes, true, false, None, Some, List, [], ◌∷◌}
use Rattle.ground.specs.declared.token.Sign.TheVariants as signs
use Rattle.f66_tree.specs.declared.declaration.TypeWord.{TypeWord}
use Rattle.f66_tree.specs.declared.declaration.TypeWord.TheVariants as types
use Rattle.f66_tree.specs.Syntax.{Text, Formula, Int, Truth, Letter, Plus, Minus, Par, Constant, Named, Entries, NoEntry, AndEntry, One, Many}
use Rattle.f66_tree.specs.Syntax as f66
use Rattle.rat_parse_values.specs.Parts.{capped}
use Rattle.rat_grammar.specs.Tokens.{Tokens, Sign, Word, Name, Number, Quoted, Listed, Several}
use Rattle.rat_grammar.specs.Expressions.{Ref}

-- type = "integer" | "logical" | "real" | "double" "precision" | "complex"
pub data TypeName : Tokens → Tokens → TypeWord → Type 0 where
  integer : {a b : Tokens} → Word (codes "INTEGER") a b → TypeName a b types.Integer
  logical : {a b : Tokens} → Word (codes "LOGICAL") a b → TypeName a b types.Logical
  real : {a b : Tokens} → Word (codes "REAL") a b → TypeName a b types.Other
  double : {a b c : Tokens} → Word (codes "DOUBLE") a b → Word (codes "PRECISION") b c → TypeName a c types.Other
  complex : {a b : Tokens} → Word (codes "COMPLEX") a b → TypeName a b types.Other

-- par = Number | name
pub data Parameter : Tokens → Tokens → Par → Type 0 where
  number : {a b : Tokens} {z : ℤ} → Number a b z → Parameter a b (Constant z)
  name : {a b : Tokens} {x : Text} → Name a b x → Parameter a b (Named x)

-- par "," par [ "," par ], where a missing step is 1
pub data Range : Tokens → Tokens → Par → Par → Par → Type 0 where
  short : {a b c d : Tokens} {u v : Par} → Parameter a b u → Sign signs.Comma b c → Parameter c d v → Range a d u v (Constant (pos 1))
  whole : {a b c d e g : Tokens} {u v w : Par} → Parameter a b u → Sign signs.Comma b c → Parameter c d v → Sign signs.Comma d e → Parameter e g w → Range a g u v w

-- declared = name [ "(" par { "," par } ")" ]
pub data Declared : Tokens → Tokens → f66.Declared → Type 0 where
  name : {a b : Tokens} {x : Text} → Name a b x → Declared a b (record { name = x; sizes = [] })
  sized : {a b c d e : Tokens} {x : Text} {us : List Par} → Name a b x → Sign signs.Open b c → Listed Parameter c d us → Sign signs.Close d e →
      Declared a e (record { name = x; sizes = us })

-- "/" [ name ] "/" declared { "," declared }
pub data Area : Tokens → Tokens → f66.Area → Type 0 where
  named : {a b c d e : Tokens} {x : Text} {ds : List f66.Declared} → Sign signs.Slash a b → Name b c x → Sign signs.Slash c d → Listed Declared d e ds →
      Area a e (record { name = Some x; list = ds })
  blank : {a b c d : Tokens} {ds : List f66.Declared} → Sign signs.Slash a b → Sign signs.Slash b c → Listed Declared c d ds →
      Area a d (record { name = None; list = ds })

-- what stands behind COMMON: [ area ] declared { "," declared } { area declared { "," declared } }
pub data Areas : Tokens → Tokens → List f66.Area → Type 0 where
  blank : {a b c : Tokens} {ds : List f66.Declared} {xs : List f66.Area} → Listed Declared a b ds → Several Area b c xs →
      Areas a c (record { name = None; list = ds } ∷ xs)
  areas : {a b c : Tokens} {x : f66.Area} {xs : List f66.Area} → Area a b x → Several Area b c xs → Areas a c (x ∷ xs)

-- alias = "(" ref "," ref { "," ref } ")"
pub data Alias : Tokens → Tokens → List Formula → Type 0 where
  alias : {a b c d e g : Tokens} {f : Formula} {fs : List Formula} → Sign signs.Open a b → Ref b c f → Sign signs.Comma c d → Listed Ref d e fs → Sign signs.Close e g →
      Alias a g (f ∷ fs)

-- a quoted text of one character
pub data OneLetter : Tokens → Tokens → Formula → Type 0 where
  letter : {a b : Tokens} {c : ℕ} → Quoted a b (c ∷ []) → OneLetter a b (Letter c)

-- constant = [ "+" | "-" ] Number | truth | letter
pub data Value : Tokens → Tokens → Formula → Type 0 where
  number : {a b : Tokens} {z : ℤ} → Number a b z → Value a b (Int z)
  plus : {a b c : Tokens} {z : ℤ} → Sign signs.Plus a b → Number b c z → Value a c (Plus (Int z))
  minus : {a b c : Tokens} {z : ℤ} → Sign signs.Minus a b → Number b c z → Value a c (Minus (Int z))
  truth : {a b : Tokens} → Sign signs.True a b → Value a b (Truth true)
  falsehood : {a b : Tokens} → Sign signs.False a b → Value a b (Truth false)
  letter : {a b : Tokens} {f : Formula} → OneLetter a b f → Value a b f

-- labels, counts of DATA and numbers of `break` are kept up to 4294967295
pub data Natural : Tokens → Tokens → ℕ → Type 0 where
  natural : {a b : Tokens} {z : ℤ} → Number a b z → Natural a b (capped 4294967295 z)

-- datum = [ Number "*" ] constant
pub data Datum : Tokens → Tokens → ℕ × Formula → Type 0 where
  once : {a b : Tokens} {f : Formula} → Value a b f → Datum a b (1, f)
  repeated : {a b c d : Tokens} {n : ℕ} {f : Formula} → Natural a b n → Sign signs.Star b c → Value c d f → Datum a d (n, f)

-- preset = ref { "," ref } "/" datum { "," datum } "/"
pub data Preset : Tokens → Tokens → f66.PresetPart → Type 0 where
  preset : {a b c d e : Tokens} {fs : List Formula} {ds : List (ℕ × Formula)} → Listed Ref a b fs → Sign signs.Slash b c → Listed Datum c d ds → Sign signs.Slash d e →
      Preset a e (record { places = fs; values = ds })

mutual
  -- entry = ref | "(" entry { "," entry } "," name "=" par "," par [ "," par ] ")"
  pub data Entry : Tokens → Tokens → f66.Entry → Type 0 where
    item : {a b : Tokens} {f : Formula} → Ref a b f → Entry a b (One f)
    loop : {a b c d e g h i : Tokens} {es : Entries} {x : Text} {u v w : Par} → Sign signs.Open a b → SomeEntries b c es → Sign signs.Comma c d →
        Name d e x → Sign signs.Assign e g → Range g h u v w → Sign signs.Close h i → Entry a i (Many es x u v w)

  -- entry { "," entry }
  pub data SomeEntries : Tokens → Tokens → Entries → Type 0 where
    last : {a b : Tokens} {e : f66.Entry} → Entry a b e → SomeEntries a b (AndEntry e NoEntry)
    comma : {a b c d : Tokens} {e : f66.Entry} {es : Entries} → Entry a b e → Sign signs.Comma b c → SomeEntries c d es → SomeEntries a d (AndEntry e es)

-- [ entry { "," entry } ]
pub data AnyEntries : Tokens → Tokens → Entries → Type 0 where
  none : {a : Tokens} → AnyEntries a a NoEntry
  some : {a b : Tokens} {es : Entries} → SomeEntries a b es → AnyEntries a b es
