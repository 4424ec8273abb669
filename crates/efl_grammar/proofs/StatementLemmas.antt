-- What a statement of the published grammar begins with.
use Rattle.std.proofs.Common.{List, refl}
use Rattle.efl_tree.specs.Syntax.{Text, EflExpr, EflPlace, EflKind, EflStmts}
use Rattle.rat_grammar.specs.Tokens.{Tokens, one}
use Rattle.rat_grammar.proofs.LineLemmas.{Begins, begins_at, word_begins, Goes}
use Rattle.rat_grammar.proofs.StatementLemmas.{go_to_begins}
use Rattle.efl_grammar.specs.Tokens.{Name, name}
use Rattle.efl_grammar.specs.Expressions as e
use Rattle.efl_grammar.specs.Statements as s

name_begins : {a b : Tokens} {x : Text} → Name a b x → Begins a
name_begins (name h) = begins_at _ _ refl

place_begins : {a b : Tokens} {u : EflPlace} → e.Place a b u → Begins a
place_begins (e.path x es ss) = name_begins x

step_begins : {a b : Tokens} {f : EflExpr} → e.Step a b f → Begins a
step_begins (e.up one q) = begins_at _ _ refl
step_begins (e.down one q) = begins_at _ _ refl

act_begins : {a b : Tokens} {f : EflExpr} → e.Act a b f → Begins a
act_begins (e.stored q o c) = place_begins q
act_begins (e.stepped q) = step_begins q
act_begins (e.called x o c) = name_begins x
act_begins (e.called_with x es) = name_begins x

body_begins : {a b : Tokens} {k : EflKind} → s.Body a b k → Begins a
body_begins (s.empty one) = begins_at _ _ refl
body_begins (s.block one ds ss l c) = begins_at _ _ refl
body_begins (s.act q st) = act_begins q
body_begins (s.if_ w f q n) = word_begins w
body_begins (s.if_else w f q l v r) = word_begins w
body_begins (s.while w f q) = word_begins w
body_begins (s.for w o x c f d y z q) = word_begins w
body_begins (s.repeat w q n) = word_begins w
body_begins (s.repeat_until w q l v f st) = word_begins w
body_begins (s.do_ w x c f o u by q) = word_begins w
body_begins (s.switch w f l o cs m c) = word_begins w
body_begins (s.break_ w n st) = word_begins w
body_begins (s.next w n st) = word_begins w
body_begins (s.return_ w f st) = word_begins w
body_begins (s.goto g x st) = go_to_begins g
body_begins (s.write w o f xs c st) = word_begins w
body_begins (s.read w o f xs c st) = word_begins w

pub labelled_begins : {a b c : Tokens} {xs : List Text} {k : EflKind} → s.Labels a b xs → s.Body b c k → Begins a
labelled_begins s.Labels.none q = body_begins q
labelled_begins (s.label x c xs) q = name_begins x

pub statements_go : {a b : Tokens} {xs : EflStmts} → s.Statements a b xs → Goes b → Goes a
statements_go s.no_statement g = g
statements_go (s.listed l xs q ss) g = record { next = _; lines = l; begins = labelled_begins xs q }
