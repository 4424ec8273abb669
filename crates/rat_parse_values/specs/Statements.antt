-- What statements and units give.
use Rattle.std.specs.Prelude.{ℕ, None, Some, codes, if◌then◌else◌}
use Rattle.ground.specs.declared.place.Place.{Place}
use Rattle.f66_tree.specs.declared.declaration.TypeWord.{TypeWord}
use Rattle.f66_tree.specs.Syntax.{Formula, Header, MainUnit, FuncUnit, Typed}
use Rattle.rat_tree.specs.Syntax.{Command, If, IfElse, Repeat, RepeatUntil, Break, Next, Plain, Labelled, Commands, AndCommand, RatRoutine}
use Rattle.rat_parse_values.specs.Values.{Val, command, at}
use Rattle.rat_parse_values.specs.Values as val
use Rattle.rat_parse_values.specs.Kinds as part
use Rattle.rat_parse_values.specs.Parts.{place_in, is_word, type_word, as_declareds}

-- statements
abbrev pub conditional : Place → Formula → Command → Val → Command
conditional p f c (val.statement (part.command q d)) = IfElse p f c d
conditional p f c _ = If p f c

abbrev pub repetition : Place → Command → Val → Command
repetition p c (val.expression (part.located q f)) = RepeatUntil p c f q
repetition p c _ = Repeat p c

-- a statement has one label at most
abbrev pub with_own_label : ℕ → Place → Command → Command
with_own_label n p (Plain None q a) = Plain (Some n) q a
with_own_label n p (Plain (Some m) q a) = Plain (Some m) q a
with_own_label n p (Labelled m q c) = Labelled m q c
with_own_label n p c = Labelled n p c

abbrev pub labelled_value : ℕ → Val → Val
labelled_value n (val.statement (part.command p c)) = command p (with_own_label n p c)
labelled_value n v = v

abbrev pub left : Val → Place → ℕ → Command
left v p n = if is_word (codes "NEXT") v then Next p n else Break p n

abbrev pub declares_at : Place → TypeWord → Val → Command
declares_at p t v = Plain None p (Typed t (as_declareds v))

abbrev pub declares : Val → Val → Command
declares w v = declares_at (place_in w) (type_word w) v

abbrev pub typed : TypeWord → Header → Header
typed t (FuncUnit o x xs) = FuncUnit (Some t) x xs
typed t h = h

-- a unit that begins with a type: a function, or a main
abbrev pub typed_from : Place → TypeWord → Val → Commands → RatRoutine
typed_from q t (val.unit (part.heading p h)) body = record { header = typed t h; body = body; place = q }
typed_from q t v body = record { header = MainUnit; body = AndCommand (declares_at q t v) body; place = q }

abbrev pub typed_unit : Val → Val → Commands → RatRoutine
typed_unit w v body = typed_from (place_in w) (type_word w) v body

abbrev pub main : Place → Commands → RatRoutine
main p body = record { header = MainUnit; body = body; place = p }

abbrev pub placed : Place → (Place → Command) → Val
placed p c = command p (c p)
