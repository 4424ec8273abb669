-- How large a command is, for the ends of recursions.
use Rattle.std.proofs.Common.{◌≡◌, ℕ, ◌+◌, Option, Some, None, refl}
use Rattle.ground.specs.declared.place.Place.{Place}
use Rattle.rat_tree.specs.Syntax.{Command, Empty, Block, If, IfElse, While, For, Repeat, RepeatUntil, Do, Switch, Break, Next, Return, Plain, Labelled, Commands, NoCommand, AndCommand, Clauses, NoClause, AndClause}
use Rattle.rat_tree.specs.Views.{labelled}

abbrev mutual
  pub size_of : Command → ℕ
  size_of (Empty p) = 1
  size_of (Block p ss) = size_of_all ss + 1
  size_of (If p e s) = size_of s + 1
  size_of (IfElse p e s t) = size_of s + size_of t + 1
  size_of (While p e s) = size_of s + 1
  size_of (For p first e step s) = size_of s + 1
  size_of (Repeat p s) = size_of s + 1
  size_of (RepeatUntil p s e q) = size_of s + 1
  size_of (Do p x a b c s) = size_of s + 1
  size_of (Switch p e cs) = size_of_clauses cs + 2
  size_of (Break p n) = 1
  size_of (Next p n) = 1
  size_of (Return p e) = 1
  size_of (Plain l p a) = 1
  size_of (Labelled l p s) = size_of s

  pub size_of_all : Commands → ℕ
  size_of_all NoCommand = 0
  size_of_all (AndCommand s ss) = size_of s + size_of_all ss

  pub size_of_clauses : Clauses → ℕ
  size_of_clauses NoClause = 0
  size_of_clauses (AndClause es fallback ss p cs) = size_of_all ss + size_of_clauses cs + 1

pub labelled_size : (l : Option ℕ) (p : Place) (s : Command) → size_of (labelled l p s) ≡ size_of s
labelled_size None p s = refl
labelled_size (Some l) p s = refl
