-- Statements of FORTRAN that a Ratfor text has.
use Rattle.std.specs.Prelude.{◌≡◌, ℕ, ℤ, codes, true, None, Some, List}
use Rattle.ground.specs.declared.token.Sign.TheVariants as signs
use Rattle.f66_tree.specs.declared.declaration.TypeWord.{TypeWord}
use Rattle.f66_tree.specs.Fields as fields
use Rattle.f66_tree.specs.Syntax.{Text, Formula, NoFormula, Par, Entries, Act, Assign, Goto, Computed, Invoke, Continue, Stop, Read, Write, Format, Typed, Dimension, Common, Equivalence, Preset}
use Rattle.f66_tree.specs.Syntax as f66
use Rattle.f66_tree.specs.Views.{chained}
use Rattle.rat_parse_table.specs.Words.{is_octal}
use Rattle.rat_parse_values.specs.Parts.{capped, octal_value}
use Rattle.rat_grammar.specs.Tokens.{Tokens, Sign, Word, Name, Number, Listed}
use Rattle.rat_grammar.specs.Expressions.{Expr, Ref}
use Rattle.rat_grammar.specs.Formats.{Fields}
use Rattle.rat_grammar.specs.Declarations.{TypeName, Parameter, Declared, Areas, Alias, OneLetter, Natural, Preset as APreset, AnyEntries}

-- actual = expr | letter
pub data Actual : Tokens → Tokens → Formula → Type 0 where
  expr : {a b : Tokens} {f : Formula} → Expr a b f → Actual a b f
  letter : {a b : Tokens} {f : Formula} → OneLetter a b f → Actual a b f

-- simple = ref "=" expr | "call" name [ "(" actual { "," actual } ")" ]
pub data Simple : Tokens → Tokens → Act → Type 0 where
  assignment : {a b c d : Tokens} {f g : Formula} → Ref a b f → Sign signs.Assign b c → Expr c d g → Simple a d (Assign f g)
  call : {a b c : Tokens} {x : Text} → Word (codes "CALL") a b → Name b c x → Simple a c (Invoke x NoFormula)
  call_with : {a b c d e g : Tokens} {x : Text} {fs : List Formula} → Word (codes "CALL") a b → Name b c x → Sign signs.Open c d → Listed Actual d e fs →
      Sign signs.Close e g → Simple a g (Invoke x (chained fs))

-- "goto" | "go" "to"
pub data GoTo : Tokens → Tokens → Type 0 where
  one_word : {a b : Tokens} → Word (codes "GOTO") a b → GoTo a b
  two_words : {a b c : Tokens} → Word (codes "GO") a b → Word (codes "TO") b c → GoTo a c

-- one to five octal digits
pub data Octal : Tokens → Tokens → ℕ → Type 0 where
  octal : {a b : Tokens} {z : ℤ} → Number a b z → is_octal z ≡ true → Octal a b (octal_value (capped 77777 z))

pub data Plain : Tokens → Tokens → Act → Type 0 where
  simple : {a b : Tokens} {s : Act} → Simple a b s → Plain a b s
  goto : {a b c : Tokens} {n : ℕ} → GoTo a b → Natural b c n → Plain a c (Goto n)
  computed : {a b c d e g h : Tokens} {ns : List ℕ} {x : Text} → GoTo a b → Sign signs.Open b c → Listed Natural c d ns → Sign signs.Close d e → Sign signs.Comma e g →
      Name g h x → Plain a h (Computed ns x)
  continue : {a b : Tokens} → Word (codes "CONTINUE") a b → Plain a b Continue
  stop : {a b : Tokens} → Word (codes "STOP") a b → Plain a b (Stop None)
  stop_with : {a b c : Tokens} {n : ℕ} → Word (codes "STOP") a b → Octal b c n → Plain a c (Stop (Some n))
  read : {a b c d e g h i : Tokens} {u : Par} {n : ℕ} {es : Entries} → Word (codes "READ") a b → Sign signs.Open b c → Parameter c d u → Sign signs.Comma d e →
      Natural e g n → Sign signs.Close g h → AnyEntries h i es → Plain a i (Read u n es)
  write : {a b c d e g h i : Tokens} {u : Par} {n : ℕ} {es : Entries} → Word (codes "WRITE") a b → Sign signs.Open b c → Parameter c d u → Sign signs.Comma d e →
      Natural e g n → Sign signs.Close g h → AnyEntries h i es → Plain a i (Write u n es)
  format : {a b c d e : Tokens} {fs : fields.Fields} → Word (codes "FORMAT") a b → Sign signs.Open b c → Fields c d fs → Sign signs.Close d e → Plain a e (Format fs)
  typed : {a b c : Tokens} {w : TypeWord} {ds : List f66.Declared} → TypeName a b w → Listed Declared b c ds → Plain a c (Typed w ds)
  dimension : {a b c : Tokens} {ds : List f66.Declared} → Word (codes "DIMENSION") a b → Listed Declared b c ds → Plain a c (Dimension ds)
  common : {a b c : Tokens} {xs : List f66.Area} → Word (codes "COMMON") a b → Areas b c xs → Plain a c (Common xs)
  equivalence : {a b c : Tokens} {gs : List (List Formula)} → Word (codes "EQUIVALENCE") a b → Listed Alias b c gs → Plain a c (Equivalence gs)
  data_ : {a b c : Tokens} {ps : List f66.PresetPart} → Word (codes "DATA") a b → Listed APreset b c ps → Plain a c (Preset ps)
