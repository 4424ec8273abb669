-- Every statement follows: the routes do what it does.
use Rattle.std.proofs.Common.{◌≡◌, arith, None, Some}
use Rattle.std.specs.Prelude.{nat_eq, ℕ}
use Rattle.std.specs.Str.{bytes_eq}
use Rattle.ground.specs.declared.place.Place.{Place}
use Rattle.f66_tree.specs.Syntax.{Text}
use Rattle.f66_tree.specs.World.{counted}
use Rattle.efl_program.specs.Typed.{Stmt, Empty, Block, Act, If, IfElse, While, For, Repeat, RepeatUntil, Do, Switch, Break, Next, Return, Goto, Write, Read, Labelled, Stmts, NoStmt, AndStmt, Clauses, NoClause, AndClause}
use Rattle.efl_routes.proofs.Near.{Sides, near_less, near_counted}
use Rattle.efl_routes.proofs.Procedures.{Agreed}
use Rattle.efl_routes.proofs.Lists as lists
use Rattle.efl_routes.proofs.Lists.{none_follow, more_follow, from_none, from_more, list_follows}
use Rattle.efl_routes.proofs.Statements.{empty_follows, acts_follow, when_follows, either_follows, whilst_follows, repeats_follow, until_follows, through_follows, leaves_follow, turns_follow, goes_follow, marked_follows}
use Rattle.efl_routes.proofs.Returns.{Returning, returns_follow, gives_follow}
use Rattle.efl_routes.proofs.Writing.{writes_follow}
use Rattle.efl_routes.proofs.Reading.{reads_follow}
use Rattle.efl_routes.proofs.Counting.{counts_follow}
use Rattle.efl_routes.proofs.Cases.{BodiesFollow, switch_follows}

module _ (g : Sides) (c : Agreed g) (label : Text → ℕ) (own : Text) (gives : Type 0) (same_label : (m l : Text) → nat_eq (label m) (label l) ≡ bytes_eq m l) (h : Returning g own gives) where
  abbrev Follows : Stmt → Type 0
  Follows s = lists.Follows g c label own gives same_label s

  together_follows : (p : Place) (ss : Stmts) → lists.AllFollow g c label own gives same_label ss → lists.FromFollow g c label own gives same_label ss → Follows (Block p ss)
  together_follows p ss all from rs n ok z st w w1 near same = list_follows g c label own gives same_label ss all from rs n ok z st (counted w) w1 (near_less g (omega arith) (near_counted g near)) same

  mutual
    pub statement_follows : (s : Stmt) → Follows s
    statement_follows (Empty p) = empty_follows g c label own gives same_label p
    statement_follows (Block p ss) = together_follows p ss (all_follow ss) (from_follow ss)
    statement_follows (Act p a) = acts_follow g c label own gives same_label p a
    statement_follows (If p e s) = when_follows g c label own gives same_label p e s (statement_follows s)
    statement_follows (IfElse p e s t) = either_follows g c label own gives same_label p e s t (statement_follows s) (statement_follows t)
    statement_follows (While p e s) = whilst_follows g c label own gives same_label p e s (statement_follows s)
    statement_follows (For p a e b s) = through_follows g c label own gives same_label p a e b s (statement_follows s)
    statement_follows (Repeat p s) = repeats_follow g c label own gives same_label p s (statement_follows s)
    statement_follows (RepeatUntil p s e q) = until_follows g c label own gives same_label p s e q (statement_follows s)
    statement_follows (Do p v a z d s) = counts_follow g c label own gives same_label p v a z d s (statement_follows s)
    statement_follows (Switch p e cs) = switch_follows g c label own gives same_label p e cs (bodies_follow cs)
    statement_follows (Break p i o) = leaves_follow g c label own gives same_label p i o
    statement_follows (Next p i o) = turns_follow g c label own gives same_label p i o
    statement_follows (Return p None) = returns_follow g c label own gives same_label h p
    statement_follows (Return p (Some e)) = gives_follow g c label own gives same_label h p e
    statement_follows (Goto p l) = goes_follow g c label own gives same_label p l
    statement_follows (Write p u items) = writes_follow g c label own gives same_label p u items
    statement_follows (Read p u items) = reads_follow g c label own gives same_label p u items
    statement_follows (Labelled l p s) = marked_follows g c label own gives same_label l p s (statement_follows s)

    pub all_follow : (ss : Stmts) → lists.AllFollow g c label own gives same_label ss
    all_follow NoStmt = none_follow g c label own gives same_label
    all_follow (AndStmt s ss) = more_follow g c label own gives same_label s ss (statement_follows s) (all_follow ss)

    pub from_follow : (ss : Stmts) → lists.FromFollow g c label own gives same_label ss
    from_follow NoStmt = from_none g c label own gives same_label
    from_follow (AndStmt s ss) = from_more g c label own gives same_label s ss (statement_follows s) (all_follow ss) (from_follow ss)

    pub bodies_follow : (cs : Clauses) → BodiesFollow g c label own gives same_label cs
    bodies_follow NoClause = tt
    bodies_follow (AndClause es fallback ss p cs) = (all_follow ss, from_follow ss, bodies_follow cs)
