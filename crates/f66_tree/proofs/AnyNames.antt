-- Where a relation does not rest on what names are used: every name may be, and every spot may come of it.
use Rattle.std.proofs.Common.{List, [], ◌∷◌}
use Rattle.std.specs.Prelude.{⊤}
use Rattle.f66_tree.specs.Syntax.{Text, Formula, Int, Truth, Letter, Ref, Item, Group, Plus, Minus, Not, Pair, Formulas, NoFormula, AndFormula, Par, Constant, Named, Entry, One, Many, Entries, NoEntry, AndEntry, Act, Assign, Goto, Computed, Sign, When, Loop, Invoke, Continue, Stop, Return, Read, Write, Format, Typed, Dimension, Common, Equivalence, Preset, Line}
use Rattle.f66_tree.specs.Units.{sizes_of, Spot, Linkage}
use Rattle.f66_tree.specs.Uses.{Names, NamesOfAll, NameOfPar, NamesOfPars, NamesOfEntry, NamesOfEntries, NamesOfAct, NamesOfLines}
use Rattle.f66_tree.proofs.Posts.{AllFair, IsScope}

abbrev pub Any : Text → Type 0
Any x = ⊤

abbrev pub AnySpot : Spot → Type 0
AnySpot p = ⊤

mutual
  pub any_names : (e : Formula) → Names Any e
  any_names (Int z) = tt
  any_names (Truth b) = tt
  any_names (Letter c) = tt
  any_names (Ref x) = tt
  any_names (Item x es) = (tt, any_all es)
  any_names (Group a) = any_names a
  any_names (Plus a) = any_names a
  any_names (Minus a) = any_names a
  any_names (Not a) = any_names a
  any_names (Pair op a b) = (any_names a, any_names b)

  pub any_all : (es : Formulas) → NamesOfAll Any es
  any_all NoFormula = tt
  any_all (AndFormula e es) = (any_names e, any_all es)

pub any_par : (n : Par) → NameOfPar Any n
any_par (Constant z) = tt
any_par (Named x) = tt

pub any_pars : (ns : List Par) → NamesOfPars Any ns
any_pars [] = tt
any_pars (n ∷ ns) = (any_par n, any_pars ns)

mutual
  pub any_entry : (e : Entry) → NamesOfEntry Any e
  any_entry (One e) = any_names e
  any_entry (Many es x a b c) = (any_entries es, tt, any_par a, any_par b, any_par c)

  pub any_entries : (es : Entries) → NamesOfEntries Any es
  any_entries NoEntry = tt
  any_entries (AndEntry e es) = (any_entry e, any_entries es)

pub any_act : (a : Act) → NamesOfAct Any a
any_act (Assign x e) = (any_names x, any_names e)
any_act (Goto m) = tt
any_act (Computed ls x) = tt
any_act (Sign e n m k) = any_names e
any_act (When e a) = (any_names e, any_act a)
any_act (Loop m x a b c) = (tt, any_par a, any_par b, any_par c)
any_act (Invoke x es) = (tt, any_all es)
any_act Continue = tt
any_act (Stop n) = tt
any_act Return = tt
any_act (Read u m es) = (any_par u, any_entries es)
any_act (Write u m es) = (any_par u, any_entries es)
any_act (Format fs) = tt
any_act (Typed t ds) = tt
any_act (Dimension ds) = tt
any_act (Common areas) = tt
any_act (Equivalence es) = tt
any_act (Preset ps) = tt

pub any_lines : (ss : List Line) → NamesOfLines Any ss
any_lines [] = tt
any_lines (s ∷ ss) = (any_act s.act, any_lines ss)

pub any_fair : (ps : List Spot) → AllFair AnySpot ps
any_fair [] = tt
any_fair (p ∷ ps) = (tt, any_fair ps)

pub any_scope : (l : Linkage) → IsScope (λ u. Any) AnySpot l
any_scope l = record {
  own = λ u x used. tt;
  further = λ u x o n fair. tt;
  lent = λ c. tt;
  callee = λ u x v used e. tt;
  dimensions = λ u x used. any_pars (sizes_of x (l.context u).notes);
}
