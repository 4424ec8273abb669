-- The parts of a Ratfor unit in reading order, each with what is asked of the statements around it. The words of a
-- control statement with what stands in its parentheses are one part; the condition of `until` and each clause of a switch
-- are parts of their own, at their own places (Kernighan, Ratfor: A Preprocessor for a Rational Fortran, 1975).
use Rattle.std.specs.Prelude.{ℕ, suc, nat_eq, nat_le, Bool, true, false, ◌&&◌, ◌||◌, List, [], ◌∷◌, ◌++◌, Option, Some, None, if◌then◌else◌}
use Rattle.std.specs.List.{list_all}
use Rattle.ground.specs.declared.place.Place.{Place}
use Rattle.f66_tree.specs.Syntax.{Text, Formula, Formulas, Par, Act, Goto, Computed}
use Rattle.f66_tree.specs.Units.{is_note}
use Rattle.rat_tree.specs.Syntax.{Command, Empty, Block, If, IfElse, While, For, Repeat, RepeatUntil, Do, Switch, Break, Next, Return, Plain, Labelled, Commands, NoCommand, AndCommand, Clauses, NoClause, AndClause}

-- what a part says
pub data Form : Type 0 where
  -- a sign alone: an empty statement, a brace
  Bare : Form
  -- the word `repeat`
  RepeatHead : Form
  Statement : Act → Form
  Condition : Formula → Form
  -- the value of a switch; the case expressions of a clause, and whether it is a second default
  Selector : Formula → Form
  CaseList : Formulas → Bool → Form
  -- the three parts of a `for`; the variable and the parameters of a `do`
  ForHead : Option Act → Option Formula → Option Act → Form
  DoHead : Text → Par → Par → Par → Form
  -- `break` and `next`, by how many loops
  LoopExit : ℕ → Form
  -- `return`, and the value that it returns
  ReturnHead : Option Formula → Form

-- a set of labels
abbrev pub Labels : Type 0
Labels = ℕ → Bool

abbrev pub no_label : Labels
no_label m = false

abbrev pub with_label : Option ℕ → Labels → Labels
with_label None ls m = ls m
with_label (Some l) ls m = nat_eq m l || ls m

-- `break` and `next` name a loop, where k loops are around them
abbrev pub finds_loop : ℕ → Form → Bool
finds_loop k (LoopExit n) = nat_le 1 n && nat_le n k
finds_loop k _ = true

-- the labels that a jump names are in reach
abbrev pub reaches : Labels → Form → Bool
reaches r (Statement (Goto l)) = r l
reaches r (Statement (Computed ls x)) = list_all r ls
reaches r _ = true

-- a part: its label, its place, what it says, whether it finds the loop that it names around it, and whether the labels
-- that it jumps to are in reach there
pub record Part : Type 0 where
  pub label : Option ℕ
  pub place : Place
  pub form : Form
  pub inside : Bool
  pub reached : Bool

-- a part with k loops around it, where the labels r stand directly in the lists around it
abbrev pub part : ℕ → Labels → Option ℕ → Place → Form → Part
part k r l p form = record { label = l; place = p; form = form; inside = finds_loop k form; reached = reaches r form }

-- the label of a statement that a jump may go to: a statement that isn't executed is no target
abbrev pub target_of : Command → Option ℕ
target_of (Plain l p a) = if is_note a then None else l
target_of (Labelled l p c) = Some l
target_of _ = None

-- the labels that stand directly in a list, and those around it
abbrev pub with_labels : Commands → Labels → Labels
with_labels NoCommand r = r
with_labels (AndCommand c ss) r = with_labels ss (with_label (target_of c) r)

-- a statement behind two labels has both: the first is a part by itself
abbrev pub with_mark : ℕ → Labels → Option ℕ → Place → List Part → List Part
with_mark k r None p vs = vs
with_mark k r (Some l) p vs = part k r (Some l) p Bare ∷ vs

abbrev mutual
  pub parts_of : ℕ → Labels → Option ℕ → Command → List Part
  parts_of k r l (Empty p) = part k r l p Bare ∷ []
  parts_of k r l (Block p ss) = part k r l p Bare ∷ parts_in k (with_labels ss r) ss
  parts_of k r l (If p e c) = part k r l p (Condition e) ∷ parts_of k r None c
  parts_of k r l (IfElse p e c d) = part k r l p (Condition e) ∷ (parts_of k r None c ++ parts_of k r None d)
  parts_of k r l (While p e c) = part k r l p (Condition e) ∷ parts_of (suc k) r None c
  parts_of k r l (For p a e b c) = part k r l p (ForHead a e b) ∷ parts_of (suc k) r None c
  parts_of k r l (Repeat p c) = part k r l p RepeatHead ∷ parts_of (suc k) r None c
  parts_of k r l (RepeatUntil p c e q) = part k r l p RepeatHead ∷ (parts_of (suc k) r None c ++ part k r None q (Condition e) ∷ [])
  parts_of k r l (Do p x a b d c) = part k r l p (DoHead x a b d) ∷ parts_of (suc k) r None c
  parts_of k r l (Switch p e cs) = part k r l p (Selector e) ∷ clause_parts k r false cs
  parts_of k r l (Break p n) = part k r l p (LoopExit n) ∷ []
  parts_of k r l (Next p n) = part k r l p (LoopExit n) ∷ []
  parts_of k r l (Return p e) = part k r l p (ReturnHead e) ∷ []
  parts_of k r l (Plain m p a) = with_mark k r l p (part k r m p (Statement a) ∷ [])
  parts_of k r l (Labelled m p c) = with_mark k r l p (parts_of k r (Some m) c)

  pub parts_in : ℕ → Labels → Commands → List Part
  parts_in k r NoCommand = []
  parts_in k r (AndCommand c ss) = parts_of k r None c ++ parts_in k r ss

  -- the clauses of a switch, and whether a default stands before them
  pub clause_parts : ℕ → Labels → Bool → Clauses → List Part
  clause_parts k r seen NoClause = []
  clause_parts k r seen (AndClause es fallback ss p cs) =
      part k r None p (CaseList es (seen && fallback)) ∷ (parts_in k (with_labels ss r) ss ++ clause_parts k r (seen || fallback) cs)

-- the parts of a unit's body
abbrev pub unit_parts : Commands → List Part
unit_parts ss = parts_in 0 (with_labels ss no_label) ss
