-- The names that expressions and statements use: here each of them is one of which something holds, which may differ by how
-- the name is used.
use Rattle.std.specs.Prelude.{List, [], ◌∷◌, ⊤}
use Rattle.f66_tree.specs.Syntax.{Text, Formula, Int, Truth, Letter, Ref, Item, Group, Plus, Minus, Not, Pair, Formulas, NoFormula, AndFormula, Par, Constant, Named, Entry, One, Many, Entries, NoEntry, AndEntry, Act, Assign, Computed, Sign, When, Loop, Invoke, Read, Write, Line}

-- what holds of a name that stands alone, of one with a list of subscripts or arguments, and of one that a CALL names
pub record Using : Type 1 where
  pub alone : Text → Type 0
  pub listed : Text → Type 0
  pub called : Text → Type 0

abbrev pub however : (Text → Type 0) → Using
however K = record { alone = K; listed = K; called = K }

abbrev mutual
  pub NamesBy : Using → Formula → Type 0
  NamesBy U (Int z) = ⊤
  NamesBy U (Truth b) = ⊤
  NamesBy U (Letter c) = ⊤
  NamesBy U (Ref x) = U.alone x
  NamesBy U (Item x es) = U.listed x × NamesOfAllBy U es
  NamesBy U (Group a) = NamesBy U a
  NamesBy U (Plus a) = NamesBy U a
  NamesBy U (Minus a) = NamesBy U a
  NamesBy U (Not a) = NamesBy U a
  NamesBy U (Pair op a b) = NamesBy U a × NamesBy U b

  pub NamesOfAllBy : Using → Formulas → Type 0
  NamesOfAllBy U NoFormula = ⊤
  NamesOfAllBy U (AndFormula e es) = NamesBy U e × NamesOfAllBy U es

abbrev pub NameOfPar : (Text → Type 0) → Par → Type 0
NameOfPar K (Constant z) = ⊤
NameOfPar K (Named x) = K x

abbrev pub NamesOfPars : (Text → Type 0) → List Par → Type 0
NamesOfPars K [] = ⊤
NamesOfPars K (n ∷ ns) = NameOfPar K n × NamesOfPars K ns

abbrev mutual
  pub NamesOfEntryBy : Using → Entry → Type 0
  NamesOfEntryBy U (One e) = NamesBy U e
  NamesOfEntryBy U (Many es x a b c) = NamesOfEntriesBy U es × U.alone x × NameOfPar U.alone a × NameOfPar U.alone b × NameOfPar U.alone c

  pub NamesOfEntriesBy : Using → Entries → Type 0
  NamesOfEntriesBy U NoEntry = ⊤
  NamesOfEntriesBy U (AndEntry e es) = NamesOfEntryBy U e × NamesOfEntriesBy U es

-- what is declared isn't used
abbrev pub NamesOfActBy : Using → Act → Type 0
NamesOfActBy U (Assign x e) = NamesBy U x × NamesBy U e
NamesOfActBy U (Computed ls x) = U.alone x
NamesOfActBy U (Sign e n m k) = NamesBy U e
NamesOfActBy U (When e a) = NamesBy U e × NamesOfActBy U a
NamesOfActBy U (Loop l x a b c) = U.alone x × NameOfPar U.alone a × NameOfPar U.alone b × NameOfPar U.alone c
NamesOfActBy U (Invoke x es) = U.called x × NamesOfAllBy U es
NamesOfActBy U (Read u l es) = NameOfPar U.alone u × NamesOfEntriesBy U es
NamesOfActBy U (Write u l es) = NameOfPar U.alone u × NamesOfEntriesBy U es
NamesOfActBy U _ = ⊤

abbrev pub NamesOfLinesBy : Using → List Line → Type 0
NamesOfLinesBy U [] = ⊤
NamesOfLinesBy U (s ∷ ss) = NamesOfActBy U s.act × NamesOfLinesBy U ss

-- the same of each name, however it is used
abbrev pub Names : (Text → Type 0) → Formula → Type 0
Names K e = NamesBy (however K) e

abbrev pub NamesOfAll : (Text → Type 0) → Formulas → Type 0
NamesOfAll K es = NamesOfAllBy (however K) es

abbrev pub NamesOfEntry : (Text → Type 0) → Entry → Type 0
NamesOfEntry K e = NamesOfEntryBy (however K) e

abbrev pub NamesOfEntries : (Text → Type 0) → Entries → Type 0
NamesOfEntries K es = NamesOfEntriesBy (however K) es

abbrev pub NamesOfAct : (Text → Type 0) → Act → Type 0
NamesOfAct K a = NamesOfActBy (however K) a

abbrev pub NamesOfLines : (Text → Type 0) → List Line → Type 0
NamesOfLines K ss = NamesOfLinesBy (however K) ss
