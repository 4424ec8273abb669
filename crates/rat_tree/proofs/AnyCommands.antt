-- Where a relation does not rest on what names commands use, and where places stay as they are.
use Rattle.std.proofs.Common.{◌≡◌, Option, Some, None, refl, ap, ◌∙◌}
use Rattle.f66_tree.specs.Syntax.{Formula, Act}
use Rattle.f66_tree.proofs.AnyNames.{Any, any_names, any_all, any_par, any_act}
use Rattle.rat_tree.specs.Syntax.{Command, Empty, Block, If, IfElse, While, For, Repeat, RepeatUntil, Do, Switch, Break, Next, Return, Plain, Labelled, Commands, NoCommand, AndCommand, Clauses, NoClause, AndClause}
use Rattle.rat_tree.specs.Places.{placed, all_placed, clauses_placed}
use Rattle.rat_tree.specs.Uses.{NamesIfAny, ActIfAny, NamesOfCommand, NamesOfCommands, NamesOfClauses}

names_if_any : (a : Option Formula) → NamesIfAny Any a
names_if_any None = tt
names_if_any (Some a) = any_names a

act_if_any : (a : Option Act) → ActIfAny Any a
act_if_any None = tt
act_if_any (Some a) = any_act a

mutual
  pub any_command : (c : Command) → NamesOfCommand Any c
  any_command (Empty p) = tt
  any_command (Block p ss) = any_commands ss
  any_command (If p a c) = (any_names a, any_command c)
  any_command (IfElse p a c d) = (any_names a, any_command c, any_command d)
  any_command (While p a c) = (any_names a, any_command c)
  any_command (For p first a step c) = (act_if_any first, names_if_any a, act_if_any step, any_command c)
  any_command (Repeat p c) = any_command c
  any_command (RepeatUntil p c a q) = (any_command c, any_names a)
  any_command (Do p x a z s c) = (tt, any_par a, any_par z, any_par s, any_command c)
  any_command (Switch p a cs) = (any_names a, any_clauses cs)
  any_command (Break p n) = tt
  any_command (Next p n) = tt
  any_command (Return p a) = names_if_any a
  any_command (Plain o p a) = any_act a
  any_command (Labelled m p c) = any_command c

  pub any_commands : (ss : Commands) → NamesOfCommands Any ss
  any_commands NoCommand = tt
  any_commands (AndCommand c ss) = (any_command c, any_commands ss)

  any_clauses : (cs : Clauses) → NamesOfClauses Any cs
  any_clauses NoClause = tt
  any_clauses (AndClause es fallback ss p cs) = (any_all es, any_commands ss, any_clauses cs)

mutual
  placed_same : (c : Command) → placed (λ p. p) c ≡ c
  placed_same (Empty p) = refl
  placed_same (Block p ss) = ap (λ v. Block p v) (all_placed_same ss)
  placed_same (If p a c) = ap (λ v. If p a v) (placed_same c)
  placed_same (IfElse p a c d) = ap (λ v. IfElse p a v (placed (λ q. q) d)) (placed_same c) ∙ ap (λ v. IfElse p a c v) (placed_same d)
  placed_same (While p a c) = ap (λ v. While p a v) (placed_same c)
  placed_same (For p first a step c) = ap (λ v. For p first a step v) (placed_same c)
  placed_same (Repeat p c) = ap (λ v. Repeat p v) (placed_same c)
  placed_same (RepeatUntil p c a q) = ap (λ v. RepeatUntil p v a q) (placed_same c)
  placed_same (Do p x a z s c) = ap (λ v. Do p x a z s v) (placed_same c)
  placed_same (Switch p a cs) = ap (λ v. Switch p a v) (clauses_placed_same cs)
  placed_same (Break p n) = refl
  placed_same (Next p n) = refl
  placed_same (Return p a) = refl
  placed_same (Plain o p a) = refl
  placed_same (Labelled m p c) = ap (λ v. Labelled m p v) (placed_same c)

  pub all_placed_same : (ss : Commands) → all_placed (λ p. p) ss ≡ ss
  all_placed_same NoCommand = refl
  all_placed_same (AndCommand c ss) = ap (λ v. AndCommand v (all_placed (λ q. q) ss)) (placed_same c) ∙ ap (λ v. AndCommand c v) (all_placed_same ss)

  clauses_placed_same : (cs : Clauses) → clauses_placed (λ p. p) cs ≡ cs
  clauses_placed_same NoClause = refl
  clauses_placed_same (AndClause es fallback ss p cs) =
      ap (λ v. AndClause es fallback v p (clauses_placed (λ q. q) cs)) (all_placed_same ss) ∙ ap (λ v. AndClause es fallback ss p v) (clauses_placed_same cs)
