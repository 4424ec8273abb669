-- What is checked of a unit before it becomes one of FORTRAN.
use Rattle.std.specs.Prelude.{◌≡◌, ◌≢◌, ℕ, suc, ◌+◌, ◌≤◌, ◌<◌, Bool, true, false, nat_eq, ◌||◌, List, [], ◌∷◌, Option, Some, None, ⊤}
use Rattle.f66_tree.specs.Syntax.{Text, Header, Declared, Area, Act, Goto, Computed, Sign, When, Loop, Typed, Dimension, Common}
use Rattle.f66_tree.specs.Units.{dummies_of, name_of, position, Note}
use Rattle.f66_tree.specs.Uses.{NamesOfPars}
use Rattle.f66_tree.specs.Execution.{has_label}
use Rattle.rat_tree.specs.Syntax.{Command, Empty, Block, If, IfElse, While, For, Repeat, RepeatUntil, Do, Switch, Break, Next, Return, Plain, Labelled, Commands, NoCommand, AndCommand, Clauses, NoClause, AndClause}
use Rattle.rat_tree.specs.Meaning.{stands}
use Rattle.rat_tree.specs.Uses.{NamesOfCommands}
use Rattle.rat_lower.specs.Code.{have_switch}
use Rattle.rat_lower.specs.Notes.{notes_of_unit}

-- ---- the form of statements ----

-- a plain statement: neither a logical IF nor a DO
abbrev pub IsPlain : Act → Type 0
IsPlain (When e a) = ⊥
IsPlain (Loop l x a b c) = ⊥
IsPlain _ = ⊤

abbrev pub IsPlainIfAny : Option Act → Type 0
IsPlainIfAny None = ⊤
IsPlainIfAny (Some a) = IsPlain a

abbrev mutual
  pub IsBuilt : Command → Type 0
  IsBuilt (Empty p) = ⊤
  IsBuilt (Block p ss) = AreBuilt ss
  IsBuilt (If p e s) = IsBuilt s
  IsBuilt (IfElse p e s t) = IsBuilt s × IsBuilt t
  IsBuilt (While p e s) = IsBuilt s
  IsBuilt (For p first e step s) = IsPlainIfAny first × IsPlainIfAny step × IsBuilt s
  IsBuilt (Repeat p s) = IsBuilt s
  IsBuilt (RepeatUntil p s e q) = IsBuilt s
  IsBuilt (Do p x a b c s) = IsBuilt s
  IsBuilt (Switch p e cs) = ClausesBuilt cs
  IsBuilt (Break p n) = ⊤
  IsBuilt (Next p n) = ⊤
  IsBuilt (Return p e) = ⊤
  IsBuilt (Plain l p a) = IsPlain a
  IsBuilt (Labelled l p s) = IsBuilt s

  pub AreBuilt : Commands → Type 0
  AreBuilt NoCommand = ⊤
  AreBuilt (AndCommand s ss) = IsBuilt s × AreBuilt ss

  pub ClausesBuilt : Clauses → Type 0
  ClausesBuilt NoClause = ⊤
  ClausesBuilt (AndClause es fallback ss p cs) = AreBuilt ss × ClausesBuilt cs

-- ---- loops are left from within ----

-- where d loops stand around, break and next count at least one and at most d
abbrev mutual
  pub Fits : ℕ → Command → Type 0
  Fits d (Empty p) = ⊤
  Fits d (Block p ss) = AllFit d ss
  Fits d (If p e s) = Fits d s
  Fits d (IfElse p e s t) = Fits d s × Fits d t
  Fits d (While p e s) = Fits (suc d) s
  Fits d (For p first e step s) = Fits (suc d) s
  Fits d (Repeat p s) = Fits (suc d) s
  Fits d (RepeatUntil p s e q) = Fits (suc d) s
  Fits d (Do p x a b c s) = Fits (suc d) s
  Fits d (Switch p e cs) = ClausesFit d cs
  Fits d (Break p n) = (1 ≤ n) × (n ≤ d)
  Fits d (Next p n) = (1 ≤ n) × (n ≤ d)
  Fits d (Return p e) = ⊤
  Fits d (Plain l p a) = ⊤
  Fits d (Labelled l p s) = Fits d s

  pub AllFit : ℕ → Commands → Type 0
  AllFit d NoCommand = ⊤
  AllFit d (AndCommand s ss) = Fits d s × AllFit d ss

  pub ClausesFit : ℕ → Clauses → Type 0
  ClausesFit d NoClause = ⊤
  ClausesFit d (AndClause es fallback ss p cs) = AllFit d ss × ClausesFit d cs

-- ---- jumps ----

-- whether a label stands directly in one of these lists
abbrev pub stands_in : ℕ → List Commands → Bool
stands_in l [] = false
stands_in l (ss ∷ lists) = stands l ss || stands_in l lists

abbrev pub AllStandIn : List ℕ → List Commands → Type 0
AllStandIn [] lists = ⊤
AllStandIn (l ∷ ls) lists = (stands_in l lists ≡ true) × AllStandIn ls lists

-- the labels to which a plain statement may go stand directly in these lists
abbrev pub ActLands : List Commands → Act → Type 0
ActLands around (Goto l) = stands_in l around ≡ true
ActLands around (Computed ls x) = AllStandIn ls around
ActLands around (Sign e n m k) = (stands_in n around ≡ true) × (stands_in m around ≡ true) × (stands_in k around ≡ true)
ActLands around _ = ⊤

abbrev pub ActLandsIfAny : List Commands → Option Act → Type 0
ActLandsIfAny around None = ⊤
ActLandsIfAny around (Some a) = ActLands around a

-- each label to which a statement goes stands directly in a list around it
abbrev mutual
  pub Lands : List Commands → Command → Type 0
  Lands around (Empty p) = ⊤
  Lands around (Block p ss) = AllLand (ss ∷ around) ss
  Lands around (If p e s) = Lands around s
  Lands around (IfElse p e s t) = Lands around s × Lands around t
  Lands around (While p e s) = Lands around s
  Lands around (For p first e step s) = ActLandsIfAny around first × ActLandsIfAny around step × Lands around s
  Lands around (Repeat p s) = Lands around s
  Lands around (RepeatUntil p s e q) = Lands around s
  Lands around (Do p x a b c s) = Lands around s
  Lands around (Switch p e cs) = ClausesLand around cs
  Lands around (Break p n) = ⊤
  Lands around (Next p n) = ⊤
  Lands around (Return p e) = ⊤
  Lands around (Plain l p a) = ActLands around a
  Lands around (Labelled l p s) = Lands around s

  pub AllLand : List Commands → Commands → Type 0
  AllLand around NoCommand = ⊤
  AllLand around (AndCommand s ss) = Lands around s × AllLand around ss

  pub ClausesLand : List Commands → Clauses → Type 0
  ClausesLand around NoClause = ⊤
  ClausesLand around (AndClause es fallback ss p cs) = AllLand (ss ∷ around) ss × ClausesLand around cs

-- ---- labels ----

abbrev pub bit : Bool → ℕ
bit true = 1
bit false = 0

-- how many statements have a label in the source
abbrev mutual
  pub given : ℕ → Command → ℕ
  given l (Empty p) = 0
  given l (Block p ss) = all_given l ss
  given l (If p e s) = given l s
  given l (IfElse p e s t) = given l s + given l t
  given l (While p e s) = given l s
  given l (For p first e step s) = given l s
  given l (Repeat p s) = given l s
  given l (RepeatUntil p s e q) = given l s
  given l (Do p x a b c s) = given l s
  given l (Switch p e cs) = clause_given l cs
  given l (Break p k) = 0
  given l (Next p k) = 0
  given l (Return p e) = 0
  given l (Plain m p a) = bit (has_label l m)
  given l (Labelled m p s) = bit (nat_eq m l) + given l s

  pub all_given : ℕ → Commands → ℕ
  all_given l NoCommand = 0
  all_given l (AndCommand s ss) = given l s + all_given l ss

  pub clause_given : ℕ → Clauses → ℕ
  clause_given l NoClause = 0
  clause_given l (AndClause es fallback ss p cs) = all_given l ss + clause_given l cs

-- ---- names ----

-- the names in the dimensions that declarations give
abbrev pub NamesOfSizes : (Text → Type 0) → List Declared → Type 0
NamesOfSizes K [] = ⊤
NamesOfSizes K (d ∷ ds) = NamesOfPars K d.sizes × NamesOfSizes K ds

abbrev pub NamesOfAreas : (Text → Type 0) → List Area → Type 0
NamesOfAreas K [] = ⊤
NamesOfAreas K (a ∷ areas) = NamesOfSizes K a.list × NamesOfAreas K areas

abbrev pub NamesOfNote : (Text → Type 0) → Act → Type 0
NamesOfNote K (Typed t ds) = NamesOfSizes K ds
NamesOfNote K (Dimension ds) = NamesOfSizes K ds
NamesOfNote K (Common areas) = NamesOfAreas K areas
NamesOfNote K _ = ⊤

abbrev pub NamesOfNotes : (Text → Type 0) → List Note → Type 0
NamesOfNotes K [] = ⊤
NamesOfNotes K (s ∷ notes) = NamesOfNote K s.act × NamesOfNotes K notes

-- a name that neither the header of a unit nor its statements nor its dimensions use
pub record Lacks (spare : Text) (header : Header) (ss : Commands) : Type 0 where
  pub own : name_of header ≢ spare
  pub dummies : position spare (dummies_of header) ≡ None
  pub statements : NamesOfCommands (λ x. x ≢ spare) ss
  pub dimensions : NamesOfNotes (λ x. x ≢ spare) (notes_of_unit ss)

-- ---- all ----

-- what is asked of a unit, of the labels that are made for it, and of its spare name
pub record IsChecked (made : ℕ → ℕ) (spare : Text) (header : Header) (ss : Commands) : Type 0 where
  pub built : AreBuilt ss
  pub fits : AllFit 0 ss
  pub lands : AllLand (ss ∷ []) ss
  pub once : (l : ℕ) → all_given l ss ≤ 1
  pub rises : (i j : ℕ) → i < j → made i < made j
  pub unused : (i : ℕ) → all_given (made i) ss ≡ 0
  pub spared : have_switch ss ≡ true → Lacks spare header ss
