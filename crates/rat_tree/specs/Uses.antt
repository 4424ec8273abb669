-- The names that commands use: here each of them is one of which something holds, which may differ by how the name is used.
use Rattle.std.specs.Prelude.{Option, Some, None, ⊤}
use Rattle.f66_tree.specs.Syntax.{Text, Formula, Act}
use Rattle.f66_tree.specs.Uses.{Using, however, NamesBy, NamesOfAllBy, NameOfPar, NamesOfActBy}
use Rattle.rat_tree.specs.Syntax.{Command, Empty, Block, If, IfElse, While, For, Repeat, RepeatUntil, Do, Switch, Break, Next, Return, Plain, Labelled, Commands, NoCommand, AndCommand, Clauses, NoClause, AndClause}

abbrev pub NamesIfAnyBy : Using → Option Formula → Type 0
NamesIfAnyBy U None = ⊤
NamesIfAnyBy U (Some e) = NamesBy U e

abbrev pub ActIfAnyBy : Using → Option Act → Type 0
ActIfAnyBy U None = ⊤
ActIfAnyBy U (Some a) = NamesOfActBy U a

abbrev mutual
  pub NamesOfCommandBy : Using → Command → Type 0
  NamesOfCommandBy U (Block p ss) = NamesOfCommandsBy U ss
  NamesOfCommandBy U (If p e c) = NamesBy U e × NamesOfCommandBy U c
  NamesOfCommandBy U (IfElse p e c d) = NamesBy U e × NamesOfCommandBy U c × NamesOfCommandBy U d
  NamesOfCommandBy U (While p e c) = NamesBy U e × NamesOfCommandBy U c
  NamesOfCommandBy U (For p first e step c) = ActIfAnyBy U first × NamesIfAnyBy U e × ActIfAnyBy U step × NamesOfCommandBy U c
  NamesOfCommandBy U (Repeat p c) = NamesOfCommandBy U c
  NamesOfCommandBy U (RepeatUntil p c e q) = NamesOfCommandBy U c × NamesBy U e
  NamesOfCommandBy U (Do p x a z d c) = U.alone x × NameOfPar U.alone a × NameOfPar U.alone z × NameOfPar U.alone d × NamesOfCommandBy U c
  NamesOfCommandBy U (Switch p e cs) = NamesBy U e × NamesOfClausesBy U cs
  NamesOfCommandBy U (Return p e) = NamesIfAnyBy U e
  NamesOfCommandBy U (Plain o p a) = NamesOfActBy U a
  NamesOfCommandBy U (Labelled m p c) = NamesOfCommandBy U c
  NamesOfCommandBy U (Empty p) = ⊤
  NamesOfCommandBy U (Break p n) = ⊤
  NamesOfCommandBy U (Next p n) = ⊤

  pub NamesOfCommandsBy : Using → Commands → Type 0
  NamesOfCommandsBy U NoCommand = ⊤
  NamesOfCommandsBy U (AndCommand c ss) = NamesOfCommandBy U c × NamesOfCommandsBy U ss

  pub NamesOfClausesBy : Using → Clauses → Type 0
  NamesOfClausesBy U NoClause = ⊤
  NamesOfClausesBy U (AndClause es fallback ss p cs) = NamesOfAllBy U es × NamesOfCommandsBy U ss × NamesOfClausesBy U cs

-- the same of each name, however it is used
abbrev pub NamesIfAny : (Text → Type 0) → Option Formula → Type 0
NamesIfAny K o = NamesIfAnyBy (however K) o

abbrev pub ActIfAny : (Text → Type 0) → Option Act → Type 0
ActIfAny K o = ActIfAnyBy (however K) o

abbrev pub NamesOfCommand : (Text → Type 0) → Command → Type 0
NamesOfCommand K c = NamesOfCommandBy (however K) c

abbrev pub NamesOfCommands : (Text → Type 0) → Commands → Type 0
NamesOfCommands K ss = NamesOfCommandsBy (however K) ss

abbrev pub NamesOfClauses : (Text → Type 0) → Clauses → Type 0
NamesOfClauses K cs = NamesOfClausesBy (however K) cs
