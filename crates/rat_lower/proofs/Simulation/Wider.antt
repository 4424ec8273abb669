-- Names of which two things hold, where both imply a third.
use Rattle.std.proofs.Common.{List, [], ◌∷◌, Option, Some, None}
use Rattle.f66_tree.specs.Syntax.{Text, Formula, Int, Truth, Letter, Ref, Item, Group, Plus, Minus, Not, Pair, Formulas, NoFormula, AndFormula, Par, Constant, Named, Entry, One, Many, Entries, NoEntry, AndEntry, Act, Assign, Goto, Computed, Sign, When, Loop, Invoke, Continue, Stop, Return, Read, Write, Format, Typed, Dimension, Common, Equivalence, Preset, Line}
use Rattle.f66_tree.specs.Uses.{Using, NamesBy, NamesOfAllBy, NameOfPar, NamesOfEntryBy, NamesOfEntriesBy, NamesOfActBy, NamesOfLinesBy}
use Rattle.rat_tree.specs.Syntax.{Command, Empty, Block, If, IfElse, While, For, Repeat, RepeatUntil, Do, Switch, Break, Next, Plain, Labelled, Commands, NoCommand, AndCommand, Clauses, NoClause, AndClause}
use Rattle.rat_tree.specs.Uses.{NamesIfAnyBy, ActIfAnyBy, NamesOfCommandBy, NamesOfCommandsBy, NamesOfClausesBy}
use Rattle.rat_tree.specs.Syntax as ratfor_tree

module _ (T U V : Using) (alone : (x : Text) → T.alone x → U.alone x → V.alone x) (listed : (x : Text) → T.listed x → U.listed x → V.listed x) (called : (x : Text) → T.called x → U.called x → V.called x) where
  mutual
    names_too : (e : Formula) → NamesBy T e → NamesBy U e → NamesBy V e
    names_too (Int z) h k = tt
    names_too (Truth b) h k = tt
    names_too (Letter c) h k = tt
    names_too (Ref x) h k = alone x h k
    names_too (Item x es) h k = (listed x h.0 k.0, all_too es h.1 k.1)
    names_too (Group a) h k = names_too a h k
    names_too (Plus a) h k = names_too a h k
    names_too (Minus a) h k = names_too a h k
    names_too (Not a) h k = names_too a h k
    names_too (Pair op a b) h k = (names_too a h.0 k.0, names_too b h.1 k.1)

    all_too : (es : Formulas) → NamesOfAllBy T es → NamesOfAllBy U es → NamesOfAllBy V es
    all_too NoFormula h k = tt
    all_too (AndFormula e es) h k = (names_too e h.0 k.0, all_too es h.1 k.1)

  par_too : (n : Par) → NameOfPar T.alone n → NameOfPar U.alone n → NameOfPar V.alone n
  par_too (Constant z) h k = tt
  par_too (Named x) h k = alone x h k

  mutual
    entry_too : (e : Entry) → NamesOfEntryBy T e → NamesOfEntryBy U e → NamesOfEntryBy V e
    entry_too (One e) h k = names_too e h k
    entry_too (Many es x a b c) h k = (entries_too es h.0 k.0, alone x h.1 k.1, par_too a h.2 k.2, par_too b h.3 k.3, par_too c h.4 k.4)

    entries_too : (es : Entries) → NamesOfEntriesBy T es → NamesOfEntriesBy U es → NamesOfEntriesBy V es
    entries_too NoEntry h k = tt
    entries_too (AndEntry e es) h k = (entry_too e h.0 k.0, entries_too es h.1 k.1)

  act_too : (a : Act) → NamesOfActBy T a → NamesOfActBy U a → NamesOfActBy V a
  act_too (Assign x e) h k = (names_too x h.0 k.0, names_too e h.1 k.1)
  act_too (Goto m) h k = tt
  act_too (Computed ls x) h k = alone x h k
  act_too (Sign e n m i) h k = names_too e h k
  act_too (When e a) h k = (names_too e h.0 k.0, act_too a h.1 k.1)
  act_too (Loop m x a b c) h k = (alone x h.0 k.0, par_too a h.1 k.1, par_too b h.2 k.2, par_too c h.3 k.3)
  act_too (Invoke x es) h k = (called x h.0 k.0, all_too es h.1 k.1)
  act_too Continue h k = tt
  act_too (Stop n) h k = tt
  act_too Return h k = tt
  act_too (Read u m es) h k = (par_too u h.0 k.0, entries_too es h.1 k.1)
  act_too (Write u m es) h k = (par_too u h.0 k.0, entries_too es h.1 k.1)
  act_too (Format fs) h k = tt
  act_too (Typed t ds) h k = tt
  act_too (Dimension ds) h k = tt
  act_too (Common areas) h k = tt
  act_too (Equivalence es) h k = tt
  act_too (Preset ps) h k = tt

  pub lines_too : (ss : List Line) → NamesOfLinesBy T ss → NamesOfLinesBy U ss → NamesOfLinesBy V ss
  lines_too [] h k = tt
  lines_too (s ∷ ss) h k = (act_too s.act h.0 k.0, lines_too ss h.1 k.1)

  names_if_any_too : (o : Option Formula) → NamesIfAnyBy T o → NamesIfAnyBy U o → NamesIfAnyBy V o
  names_if_any_too None h k = tt
  names_if_any_too (Some e) h k = names_too e h k

  act_if_any_too : (o : Option Act) → ActIfAnyBy T o → ActIfAnyBy U o → ActIfAnyBy V o
  act_if_any_too None h k = tt
  act_if_any_too (Some a) h k = act_too a h k

  mutual
    command_too : (c : Command) → NamesOfCommandBy T c → NamesOfCommandBy U c → NamesOfCommandBy V c
    command_too (Empty p) h k = tt
    command_too (Block p ss) h k = commands_too ss h k
    command_too (If p e c) h k = (names_too e h.0 k.0, command_too c h.1 k.1)
    command_too (IfElse p e c d) h k = (names_too e h.0 k.0, command_too c h.1 k.1, command_too d h.2 k.2)
    command_too (While p e c) h k = (names_too e h.0 k.0, command_too c h.1 k.1)
    command_too (For p first e step c) h k = (act_if_any_too first h.0 k.0, names_if_any_too e h.1 k.1, act_if_any_too step h.2 k.2, command_too c h.3 k.3)
    command_too (Repeat p c) h k = command_too c h k
    command_too (RepeatUntil p c e q) h k = (command_too c h.0 k.0, names_too e h.1 k.1)
    command_too (Do p x a z s c) h k = (alone x h.0 k.0, par_too a h.1 k.1, par_too z h.2 k.2, par_too s h.3 k.3, command_too c h.4 k.4)
    command_too (Switch p e cs) h k = (names_too e h.0 k.0, clauses_too cs h.1 k.1)
    command_too (Break p n) h k = tt
    command_too (Next p n) h k = tt
    command_too (ratfor_tree.Return p e) h k = names_if_any_too e h k
    command_too (Plain o p a) h k = act_too a h k
    command_too (Labelled m p c) h k = command_too c h k

    pub commands_too : (ss : Commands) → NamesOfCommandsBy T ss → NamesOfCommandsBy U ss → NamesOfCommandsBy V ss
    commands_too NoCommand h k = tt
    commands_too (AndCommand c ss) h k = (command_too c h.0 k.0, commands_too ss h.1 k.1)

    clauses_too : (cs : Clauses) → NamesOfClausesBy T cs → NamesOfClausesBy U cs → NamesOfClausesBy V cs
    clauses_too NoClause h k = tt
    clauses_too (AndClause es fallback ss p cs) h k = (all_too es h.0 k.0, commands_too ss h.1 k.1, clauses_too cs h.2 k.2)
