-- The statements of a unit of Ratfor that are not executed.
use Rattle.std.specs.Prelude.{ℕ, if◌then◌else◌, List, [], ◌∷◌, Option, Some, None}
use Rattle.f66_tree.specs.Syntax.{Act}
use Rattle.f66_tree.specs.Units.{is_note, Note}
use Rattle.rat_tree.specs.Syntax.{Command, Empty, Block, If, IfElse, While, For, Repeat, RepeatUntil, Do, Switch, Break, Next, Return, Plain, Labelled, Commands, NoCommand, AndCommand, Clauses, NoClause, AndClause}

-- a statement, if it is one that is not executed
abbrev pub note_then : Option ℕ → Act → List Note → List Note
note_then l a rest = if is_note a then (record { label = l; act = a } ∷ rest) else rest

abbrev pub note_if_any : Option Act → List Note → List Note
note_if_any None rest = rest
note_if_any (Some a) rest = note_then None a rest

-- the statements that are not executed, in their order, before others
abbrev mutual
  pub notes_in : Command → List Note → List Note
  notes_in (Empty p) rest = rest
  notes_in (Block p ss) rest = all_notes ss rest
  notes_in (If p e s) rest = notes_in s rest
  notes_in (IfElse p e s t) rest = notes_in s (notes_in t rest)
  notes_in (While p e s) rest = notes_in s rest
  notes_in (For p first e step s) rest = note_if_any first (notes_in s (note_if_any step rest))
  notes_in (Repeat p s) rest = notes_in s rest
  notes_in (RepeatUntil p s e q) rest = notes_in s rest
  notes_in (Do p x a b c s) rest = notes_in s rest
  notes_in (Switch p e cs) rest = clause_notes cs rest
  notes_in (Break p k) rest = rest
  notes_in (Next p k) rest = rest
  notes_in (Return p e) rest = rest
  notes_in (Plain l p a) rest = note_then l a rest
  notes_in (Labelled l p s) rest = notes_in s rest

  pub all_notes : Commands → List Note → List Note
  all_notes NoCommand rest = rest
  all_notes (AndCommand s ss) rest = notes_in s (all_notes ss rest)

  pub clause_notes : Clauses → List Note → List Note
  clause_notes NoClause rest = rest
  clause_notes (AndClause es fallback ss p cs) rest = all_notes ss (clause_notes cs rest)

abbrev pub notes_of_unit : Commands → List Note
notes_of_unit ss = all_notes ss []
