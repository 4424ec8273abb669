-- Programs with their places changed.
use Rattle.std.specs.Prelude.{map}
use Rattle.ground.specs.declared.place.Place.{Place}
use Rattle.f66_tree.specs.Syntax.{Line}
use Rattle.rat_tree.specs.Syntax.{Command, Empty, Block, If, IfElse, While, For, Repeat, RepeatUntil, Do, Switch, Break, Next, Return, Plain, Labelled, Commands, NoCommand, AndCommand, Clauses, NoClause, AndClause}
use Rattle.rat_tree.specs.Meaning.{Body, Ours, Theirs}

abbrev mutual
  pub placed : (Place → Place) → Command → Command
  placed g (Empty p) = Empty (g p)
  placed g (Block p ss) = Block (g p) (all_placed g ss)
  placed g (If p e c) = If (g p) e (placed g c)
  placed g (IfElse p e c d) = IfElse (g p) e (placed g c) (placed g d)
  placed g (While p e c) = While (g p) e (placed g c)
  placed g (For p first e step c) = For (g p) first e step (placed g c)
  placed g (Repeat p c) = Repeat (g p) (placed g c)
  placed g (RepeatUntil p c e q) = RepeatUntil (g p) (placed g c) e (g q)
  placed g (Do p x a z d c) = Do (g p) x a z d (placed g c)
  placed g (Switch p e cs) = Switch (g p) e (clauses_placed g cs)
  placed g (Break p n) = Break (g p) n
  placed g (Next p n) = Next (g p) n
  placed g (Return p e) = Return (g p) e
  placed g (Plain o p a) = Plain o (g p) a
  placed g (Labelled m p c) = Labelled m (g p) (placed g c)

  pub all_placed : (Place → Place) → Commands → Commands
  all_placed g NoCommand = NoCommand
  all_placed g (AndCommand c ss) = AndCommand (placed g c) (all_placed g ss)

  pub clauses_placed : (Place → Place) → Clauses → Clauses
  clauses_placed g NoClause = NoClause
  clauses_placed g (AndClause es fallback ss p cs) = AndClause es fallback (all_placed g ss) (g p) (clauses_placed g cs)

abbrev pub line_placed : (Place → Place) → Line → Line
line_placed g s = record { label = s.label; place = g s.place; act = s.act }

abbrev pub body_placed : (Place → Place) → Body → Body
body_placed g (Ours ss) = Ours (all_placed g ss)
body_placed g (Theirs code) = Theirs (map (line_placed g) code)
