-- Small texts and their trees.
use Rattle.std.proofs.Common.{List, ◌≡◌, ◌∙◌, ◌⊎◌, inl, inr, Bool, true, false, refl, sym, subst, ap}
use Rattle.std.specs.Prelude.{ℕ, pos, [], ◌∷◌, Some, None, codes}
use Rattle.ground.specs.declared.token.TokenKind.{TokenKind}
use Rattle.ground.specs.declared.token.TokenKind.TheVariants as kinds
use Rattle.ground.specs.declared.token.Sign.{Sign as ASign}
use Rattle.ground.specs.declared.token.Sign.TheVariants as signs
use Rattle.f66_tree.specs.declared.expression.Operator.{Operator}
use Rattle.f66_tree.specs.declared.expression.Operator.TheVariants as operators
use Rattle.f66_tree.specs.declared.declaration.TypeWord.TheVariants as types
use Rattle.f66_tree.specs.declared.editing.EditKind.TheVariants as edits
use Rattle.f66_tree.specs.Fields as fields
use Rattle.f66_tree.specs.Syntax as f66
use Rattle.f66_tree.specs.Syntax.{Text, Formula, Int, Pair, Minus, Assign, Constant, NoFormula, AndFormula}
use Rattle.rat_tree.specs.Syntax as tree
use Rattle.rat_tree.specs.Syntax.{Command, NoCommand, AndCommand}
use Rattle.rat_grammar.specs.Tokens.{Perhaps, Tokens, One, one, word, name, Lines, Stop, Several, Listed, here as first, there as later}
use Rattle.rat_grammar.specs.Expressions as e
use Rattle.rat_grammar.specs.Formats as f
use Rattle.rat_grammar.specs.Declarations as d
use Rattle.rat_grammar.specs.Plain as pl
use Rattle.rat_grammar.specs.Statements as s
use Rattle.rat_grammar.specs.Programs as u
use Rattle.rat_grammar.proofs.Published.{programs}
use Rattle.rat_grammar.proofs.ReservedWords.{untrue}
use Rattle.rat_grammar.proofs.ExampleTokens.{here, at, w, sign, number, line, if_a, a_is, no_word}
use Rattle.rat_grammar.proofs.LineLemmas.{no_line_at, follows_no, kind_at}

-- ---- expressions ----

abbrev a : Formula
a = f66.Ref (codes "A")

factor_of : {x y : Tokens} {g : Formula} → e.Ref x y g → e.Factor x y g
factor_of r = e.prime (e.ref r)

sum_of : {x y : Tokens} {g : Formula} → e.Factor x y g → e.Sum x y g
sum_of q = e.term (e.factor q)

expr_of : {x y : Tokens} {g : Formula} → e.Sum x y g → e.Expr x y g
expr_of q = e.conj (e.neg (e.rel (e.sum q)))

-- -a + 2 * a: the sign is that of the first term
signs_and_levels : e.Expr (sign 1 signs.Minus ∷ w 1 (codes "a") ∷ sign 1 signs.Plus ∷ number 1 2 ∷ sign 1 signs.Star ∷ w 1 (codes "a") ∷ []) []
    (Pair operators.Add (Minus a) (Pair operators.Mul (Int (pos 2)) a))
signs_and_levels =
    expr_of (e.added (e.minus one (e.factor (factor_of (e.name (name refl))))) one
    (e.times (e.factor (e.prime (e.number one))) one (factor_of (e.name (name refl)))))

-- a - a - a groups to the left
to_the_left : e.Expr (w 1 (codes "a") ∷ sign 1 signs.Minus ∷ w 1 (codes "a") ∷ sign 1 signs.Minus ∷ w 1 (codes "A") ∷ []) []
    (Pair operators.Sub (Pair operators.Sub a a) a)
to_the_left = expr_of (e.subtracted (e.subtracted (sum_of (factor_of (e.name (name refl)))) one (e.factor (factor_of (e.name (name refl))))) one (e.factor (factor_of (e.name (name refl)))))

-- k(a, 1) ** 2 is one power; what a second `**` would stand before is left
powers : e.Factor (w 1 (codes "k") ∷ sign 1 signs.Open ∷ w 1 (codes "a") ∷ sign 1 signs.Comma ∷ number 1 1 ∷ sign 1 signs.Close ∷ sign 1 signs.Power ∷ number 1 2 ∷ sign 1 signs.Power ∷ number 1 3 ∷ [])
    (sign 1 signs.Power ∷ number 1 3 ∷ [])
    (Pair operators.Power (f66.Item (codes "K") (AndFormula a (AndFormula (Int (pos 1)) NoFormula))) (Int (pos 2)))
powers =
    e.power (e.ref (e.applied (name refl) one (e.comma (expr_of (sum_of (factor_of (e.name (name refl))))) one (e.last (expr_of (sum_of (e.prime (e.number one)))))) one)) one
    (e.number one)

-- ---- statements ----

-- a = number, with the stop behind it
abbrev sets : ℕ → ℕ → Command
sets n k = tree.Plain None (here n) (Assign a (Int (pos k)))

assigned : {n k : ℕ} {ts : Tokens} {x : Tokens} → Stop ts x → s.Body (w n (codes "a") ∷ sign n signs.Assign ∷ number n k ∷ ts) x (sets n k)
assigned st = s.plain (pl.simple (pl.assignment (e.name (name refl)) one (expr_of (sum_of (e.prime (e.number one)))))) st

condition : {n : ℕ} {ts : Tokens} → e.Condition (sign n signs.Open ∷ w n (codes "a") ∷ sign n signs.Close ∷ ts) ts a
condition = e.condition one (expr_of (sum_of (factor_of (e.name (name refl))))) one

-- An else belongs to the nearest if, over the ends of lines:
--   if (a)
--   if (a) a = 1
--   else a = 2
--   end
abbrev dangling : Tokens
dangling = if_a 1 (line 1 ∷ if_a 2 (a_is 2 1 (line 2 ∷ w 3 (codes "else") ∷ a_is 3 2 (line 3 ∷ w 4 (codes "END") ∷ line 4 ∷ at 5 kinds.TextEnd ∷ []))))

abbrev dangling_tree : tree.RatProgram
dangling_tree = record {
  routines = record { header = f66.MainUnit; body = AndCommand (tree.If (here 1) a (tree.IfElse (here 2) a (sets 2 1) (sets 3 2))) NoCommand; place = here 1 } ∷ [];
  finish = here 5;
}

nearest : u.Program dangling dangling_tree
nearest = u.program (Several.more (u.main Lines.none (no_line_at _ _ refl)
    (s.Statements.more (s.bare Lines.none (s.if_ (word refl) condition
    (s.bare (Lines.line one Lines.none) (s.if_else (word refl) condition (s.bare Lines.none (assigned (Stop.line one))) Lines.none (word refl) (s.bare Lines.none (assigned (Stop.line one)))))
    (follows_no _ Lines.none (no_line_at _ _ refl) (λ c q. no_word refl q))))
    s.Statements.none)
    Lines.none (word refl) (Stop.line one)) Several.none) Lines.none one

-- with the else at the first if it is no tree of this text
abbrev outer_tree : tree.RatProgram
outer_tree = record {
  routines = record { header = f66.MainUnit; body = AndCommand (tree.IfElse (here 1) a (tree.If (here 2) a (sets 2 1)) (sets 3 2)) NoCommand; place = here 1 } ∷ [];
  finish = here 5;
}

abbrev has_no_else : Command → Bool
has_no_else (tree.If p g c) = true
has_no_else _ = false

abbrev first_has_no_else : tree.Commands → Bool
first_has_no_else NoCommand = false
first_has_no_else (AndCommand c cs) = has_no_else c

abbrev main_has_no_else : List tree.RatRoutine → Bool
main_has_no_else [] = false
main_has_no_else (x ∷ xs) = first_has_no_else x.body

not_outer : u.Program dangling outer_tree → ⊥
not_outer q = untrue (ap (λ r. main_has_no_else r.routines) (programs.one dangling outer_tree dangling_tree q nearest))

-- An if with braces, and its else:  if (a) { a = 1 } else { }
braced : s.Body (if_a 1 (sign 1 signs.OpenBrace ∷ a_is 1 1 (sign 1 signs.CloseBrace ∷ w 1 (codes "else") ∷ sign 1 signs.OpenBrace ∷ sign 1 signs.CloseBrace ∷ []))) []
    (tree.IfElse (here 1) a (tree.Block (here 1) (AndCommand (sets 1 1) NoCommand)) (tree.Block (here 1) NoCommand))
braced = s.if_else (word refl) condition
    (s.bare Lines.none (s.block one (s.Statements.more (s.bare Lines.none (assigned (Stop.brace one))) s.Statements.none) Lines.none one)) Lines.none (word refl)
    (s.bare Lines.none (s.block one s.Statements.none Lines.none one))

-- repeat a = 1; and an until on the next line, whose place is kept
until : s.Body (w 1 (codes "repeat") ∷ a_is 1 1 (line 1 ∷ line 2 ∷ w 3 (codes "Until") ∷ sign 3 signs.Open ∷ w 3 (codes "a") ∷ sign 3 signs.Close ∷ line 3 ∷ [])) []
    (tree.RepeatUntil (here 1) (sets 1 1) a (here 3))
until = s.repeat_until (word refl) (s.bare Lines.none (assigned (Stop.line one))) (Lines.line one Lines.none) (word refl) condition (Stop.line one)

-- repeat with no until: what follows is another statement
turns : s.Body (w 1 (codes "repeat") ∷ a_is 1 1 (line 1 ∷ line 2 ∷ a_is 3 2 [])) (line 2 ∷ a_is 3 2 []) (tree.Repeat (here 1) (sets 1 1))
turns = s.repeat (word refl) (s.bare Lines.none (assigned (Stop.line one)))
    (follows_no _ (Lines.line one Lines.none) (no_line_at _ _ refl) (λ c q. no_word refl q))

-- for (;;) 10 next 2
bare_for : s.Body (w 1 (codes "for") ∷ sign 1 signs.Open ∷ at 1 kinds.Semicolon ∷ at 1 kinds.Semicolon ∷ sign 1 signs.Close ∷ number 2 10 ∷ w 2 (codes "next") ∷ number 2 2 ∷ line 2 ∷ []) []
    (tree.For (here 1) None None None (tree.Labelled 10 (here 2) (tree.Next (here 2) 2)))
bare_for = s.for (word refl) one Perhaps.none one Perhaps.none one Perhaps.none one
    (s.marked Lines.none (d.natural one) (s.next (word refl) (s.Times.number (d.natural one)) (Stop.line one)))

-- for (a = 1; a; call a) break
whole_for : s.Body (w 1 (codes "for") ∷ sign 1 signs.Open ∷ a_is 1 1 (at 1 kinds.Semicolon ∷ w 1 (codes "a") ∷ at 1 kinds.Semicolon ∷ w 1 (codes "call") ∷ w 1 (codes "a") ∷ sign 1 signs.Close ∷ w 1 (codes "break") ∷ line 1 ∷ [])) []
    (tree.For (here 1) (Some (Assign a (Int (pos 1)))) (Some a) (Some (f66.Invoke (codes "A") NoFormula)) (tree.Break (here 1) 1))
whole_for = s.for (word refl) one (Perhaps.some (pl.assignment (e.name (name refl)) one (expr_of (sum_of (e.prime (e.number one)))))) one
    (Perhaps.some (expr_of (sum_of (factor_of (e.name (name refl)))))) one (Perhaps.some (pl.call (word refl) (name refl))) one
    (s.bare Lines.none (s.break_ (word refl) s.Times.once (Stop.line one)))

-- do a = 1, a return (a)
counted : s.Body (w 1 (codes "do") ∷ w 1 (codes "a") ∷ sign 1 signs.Assign ∷ number 1 1 ∷ sign 1 signs.Comma ∷ w 1 (codes "a") ∷ w 1 (codes "return") ∷ sign 1 signs.Open ∷ w 1 (codes "a") ∷ sign 1 signs.Close ∷ at 1 kinds.Semicolon ∷ []) []
    (tree.Do (here 1) (codes "A") (Constant (pos 1)) (f66.Named (codes "A")) (Constant (pos 1)) (tree.Return (here 1) (Some a)))
counted = s.do_ (word refl) (name refl) one (d.short (d.number one) one (d.name (name refl))) (s.bare Lines.none (s.return_ (word refl) (Perhaps.some condition) (Stop.semicolon one)))

-- switch (a) { case 1, 2: a = 1; default: }
chosen : s.Body (w 1 (codes "switch") ∷ sign 1 signs.Open ∷ w 1 (codes "a") ∷ sign 1 signs.Close ∷ sign 1 signs.OpenBrace ∷ line 1 ∷ w 2 (codes "case") ∷ number 2 1 ∷ sign 2 signs.Comma ∷ number 2 2 ∷ sign 2 signs.Colon
    ∷ a_is 2 1 (line 2 ∷ w 3 (codes "default") ∷ sign 3 signs.Colon ∷ line 3 ∷ sign 4 signs.CloseBrace ∷ [])) []
    (tree.Switch (here 1) a (tree.AndClause (AndFormula (Int (pos 1)) (AndFormula (Int (pos 2)) NoFormula)) false (AndCommand (sets 2 1) NoCommand) (here 2)
    (tree.AndClause NoFormula true NoCommand (here 3) tree.NoClause)))
chosen = s.switch (word refl) condition Lines.none one
    (s.case (Lines.line one Lines.none) (word refl) (e.comma (expr_of (sum_of (e.prime (e.number one)))) one (e.last (expr_of (sum_of (e.prime (e.number one)))))) one
    (s.Statements.more (s.bare Lines.none (assigned (Stop.line one))) s.Statements.none)
    (s.default Lines.none (word refl) one s.Statements.none s.no_clause))
    (Lines.line one Lines.none) one

-- format(2i5 / 'ab', 3(x)): the comma beside the slash is missing
fields_of : f.Fields (number 1 2 ∷ w 1 (codes "i5") ∷ sign 1 signs.Slash ∷ at 1 (kinds.Quoted (codes "ab")) ∷ sign 1 signs.Comma ∷ number 1 3 ∷ sign 1 signs.Open ∷ w 1 (codes "x") ∷ sign 1 signs.Close ∷ sign 1 signs.Close ∷ [])
    (sign 1 signs.Close ∷ [])
    (fields.Single 2 (fields.Takes edits.Whole 5) (fields.Single 1 fields.Slash (fields.Single 1 (fields.Chars (codes "ab")) (fields.Group 3 (fields.Single 1 (fields.Blanks 1) fields.NoField) fields.NoField))))
fields_of = f.some (f.before_slash (f.counted_word (f.count one) (f.FieldWord.word refl refl)) one
    (f.behind_slash one (f.comma (f.text one) one (f.last (f.counted_group (f.count one) one (f.some (f.last (f.Field.word (f.FieldWord.word refl refl)))) one)))))

-- ---- FORTRAN ----

-- write(6, 10) a, (a, k(a), k = 1, 3)
written : pl.Plain
    (w 1 (codes "write") ∷ sign 1 signs.Open ∷ number 1 6 ∷ sign 1 signs.Comma ∷ number 1 10 ∷ sign 1 signs.Close ∷ w 1 (codes "a") ∷ sign 1 signs.Comma ∷ sign 1 signs.Open ∷ w 1 (codes "a")
    ∷ sign 1 signs.Comma ∷ w 1 (codes "k") ∷ sign 1 signs.Open ∷ w 1 (codes "a") ∷ sign 1 signs.Close ∷ sign 1 signs.Comma ∷ w 1 (codes "k") ∷ sign 1 signs.Assign ∷ number 1 1 ∷ sign 1 signs.Comma
    ∷ number 1 3 ∷ sign 1 signs.Close ∷ []) []
    (f66.Write (Constant (pos 6)) 10 (f66.AndEntry (f66.One a) (f66.AndEntry
    (f66.Many (f66.AndEntry (f66.One a) (f66.AndEntry (f66.One (f66.Item (codes "K") (AndFormula a NoFormula))) f66.NoEntry)) (codes "K") (Constant (pos 1)) (Constant (pos 3)) (Constant (pos 1)))
    f66.NoEntry)))
written = pl.write (word refl) one (d.number one) one (d.natural one) one (d.some (d.comma (d.item (e.name (name refl))) one (d.last
    (d.loop one (d.comma (d.item (e.name (name refl))) one (d.last (d.item (e.applied (name refl) one (e.last (expr_of (sum_of (factor_of (e.name (name refl)))))) one)))) one (name refl) one
    (d.short (d.number one) one (d.number one)) one))))

-- data a, k / 2 * -1, .true. /
preset : pl.Plain
    (w 1 (codes "data") ∷ w 1 (codes "a") ∷ sign 1 signs.Comma ∷ w 1 (codes "k") ∷ sign 1 signs.Slash ∷ number 1 2 ∷ sign 1 signs.Star ∷ sign 1 signs.Minus ∷ number 1 1 ∷ sign 1 signs.Comma ∷ sign 1 signs.True
    ∷ sign 1 signs.Slash ∷ []) []
    (f66.Preset (record { places = a ∷ f66.Ref (codes "K") ∷ []; values = (2, Minus (Int (pos 1))) ∷ (1, f66.Truth true) ∷ [] } ∷ []))
preset = pl.data_ (word refl) (Listed.last (d.preset (Listed.comma (e.name (name refl)) one (Listed.last (e.name (name refl)))) one
    (Listed.comma (d.repeated (d.natural one) one (d.minus one one)) one (Listed.last (d.once (d.truth one)))) one))

-- A function with its type, whose `end` stands before the end of the text:
--   integer function k(a)
--   real b(3)
--
--   end
abbrev function_text : Tokens
function_text =
    w 1 (codes "integer") ∷ w 1 (codes "function") ∷ w 1 (codes "k") ∷ sign 1 signs.Open ∷ w 1 (codes "a") ∷ sign 1 signs.Close ∷ line 1 ∷ w 2 (codes "real") ∷ w 2 (codes "b") ∷ sign 2 signs.Open ∷ number 2 3
    ∷ sign 2 signs.Close ∷ line 2 ∷ line 3 ∷ w 4 (codes "end") ∷ at 5 kinds.TextEnd ∷ []

function : u.Program function_text (record {
  routines = record {
    header = f66.FuncUnit (Some types.Integer) (codes "K") (codes "A" ∷ []);
    body = AndCommand (tree.Plain None (here 2) (f66.Typed types.Other (record { name = codes "B"; sizes = Constant (pos 3) ∷ [] } ∷ []))) NoCommand;
    place = here 1;
  } ∷ [];
  finish = here 5;
})
function = u.program (Several.more (u.headed Lines.none
    (u.function (Perhaps.some (d.integer (word refl))) (word refl) (name refl) (u.formals one (Listed.last (name refl)) one)) (Stop.line one)
    (s.Statements.more (s.bare Lines.none (s.plain (pl.typed (d.real (word refl)) (Listed.last (d.sized (name refl) one (Listed.last (d.number one)) one))) (Stop.line one))) s.Statements.none)
    (Lines.line one Lines.none) (word refl) (Stop.end one)) Several.none) Lines.none one

-- ---- what is no expression ----

-- a sign between two operands, but for `**`
abbrev joins : TokenKind → Bool
joins (kinds.Sign signs.Plus) = true
joins (kinds.Sign signs.Minus) = true
joins (kinds.Sign signs.Star) = true
joins (kinds.Sign signs.Slash) = true
joins (kinds.Sign signs.And) = true
joins (kinds.Sign signs.Or) = true
joins _ = false

abbrev NoJoint : Tokens → Type 0
NoJoint [] = Unit {0}
NoJoint (y ∷ ts) = joins y.kind ≡ false

no_joint : (x : ASign) {m k : Tokens} → One (kinds.Sign x) m k → joins (kinds.Sign x) ≡ true → NoJoint m → ⊥
no_joint x one h g = untrue (sym g ∙ h)

-- Where each factor ends before no such sign, and the text begins with no sign, a sum is one factor.
module _ (x : Tokens) (ends : (m : Tokens) (g : Formula) → e.Factor x m g → NoJoint m) (no_sign : (m : Tokens) (y : ASign) → One (kinds.Sign y) x m → ⊥) where
  only_factor : {m : Tokens} {g : Formula} → e.Term x m g → e.Factor x m g
  only_factor (e.factor q) = q
  only_factor (e.times q j r) = absurd (no_joint signs.Star j refl (ends _ _ (only_factor q)))
  only_factor (e.over q j r) = absurd (no_joint signs.Slash j refl (ends _ _ (only_factor q)))

  only_term : {m : Tokens} {g : Formula} → e.Sum x m g → e.Factor x m g
  only_term (e.term q) = only_factor q
  only_term (e.plus j q) = absurd (no_sign _ signs.Plus j)
  only_term (e.minus j q) = absurd (no_sign _ signs.Minus j)
  only_term (e.added q j r) = absurd (no_joint signs.Plus j refl (ends _ _ (only_term q)))
  only_term (e.subtracted q j r) = absurd (no_joint signs.Minus j refl (ends _ _ (only_term q)))

-- Where each relation ends before no such sign, an expression is one relation.
module _ (x : Tokens) (End : Tokens → Type 0) (ends : (m : Tokens) (g : Formula) → e.Rel x m g → End m) (joint : (m : Tokens) → End m → NoJoint m)
    (no_sign : (m : Tokens) (y : ASign) → One (kinds.Sign y) x m → ⊥) where
  neg_end : {m : Tokens} {g : Formula} → e.Neg x m g → End m
  neg_end (e.rel q) = ends _ _ q
  neg_end (e.not j q) = absurd (no_sign _ signs.Not j)

  conj_end : {m : Tokens} {g : Formula} → e.Conj x m g → End m
  conj_end (e.neg q) = neg_end q
  conj_end (e.and q j r) = absurd (no_joint signs.And j refl (joint _ (conj_end q)))

  expr_end : {m : Tokens} {g : Formula} → e.Expr x m g → End m
  expr_end (e.conj q) = conj_end q
  expr_end (e.or q j r) = absurd (no_joint signs.Or j refl (joint _ (expr_end q)))

abbrev opens : ASign → Bool
opens signs.Open = true
opens _ = false

abbrev opens_kind : TokenKind → Bool
opens_kind (kinds.Sign x) = opens x
opens_kind _ = false

-- a name before a sign that opens nothing is a prime, and nothing more is
prime_end : {x : ASign} {ts m : Tokens} {g : Formula} → opens x ≡ false → e.Prime (w 1 (codes "a") ∷ sign 1 x ∷ ts) m g → m ≡ sign 1 x ∷ ts
prime_end h (e.number j) = elim j [ ]
prime_end h (e.truth j) = elim j [ ]
prime_end h (e.falsehood j) = elim j [ ]
prime_end h (e.ref (e.name (name k))) = refl
prime_end h (e.ref (e.applied (name k) j fs c)) = absurd (untrue (sym h ∙ ap opens_kind (kind_at j)))
prime_end h (e.group j q c) = elim j [ ]

abbrev a_before : ASign → Tokens → Tokens
a_before x ts = w 1 (codes "a") ∷ sign 1 x ∷ ts

word_is_no_sign : {ts : Tokens} (m : Tokens) (y : ASign) → One (kinds.Sign y) (w 1 (codes "a") ∷ ts) m → ⊥
word_is_no_sign m y j = elim j [ ]

abbrev stop : Tokens
stop = at 1 kinds.Semicolon ∷ []

abbrev is_semicolon : TokenKind → Bool
is_semicolon kinds.Semicolon = true
is_semicolon _ = false

abbrev at_stop : Tokens → Bool
at_stop [] = false
at_stop (y ∷ ts) = is_semicolon y.kind

not_power : {ts c : Tokens} {o : Operator} → e.Relation (sign 1 signs.Power ∷ ts) c o → ⊥
not_power (first j) = elim j [ ]
not_power (later (first j)) = elim j [ ]
not_power (later (later (first j))) = elim j [ ]
not_power (later (later (later (first j)))) = elim j [ ]
not_power (later (later (later (later (first j))))) = elim j [ ]
not_power (later (later (later (later (later (first j)))))) = elim j [ ]
not_power (later (later (later (later (later (later h)))))) = elim h [ ]

-- ---- a ** a ** a is no expression ----

abbrev power_end : Tokens
power_end = sign 1 signs.Power ∷ w 1 (codes "a") ∷ stop

abbrev powers_text : Tokens
powers_text = a_before signs.Power (a_before signs.Power (w 1 (codes "a") ∷ stop))

-- before the first `**`, or before the second
abbrev PowerEnd : Tokens → Type 0
PowerEnd m = (m ≡ sign 1 signs.Power ∷ a_before signs.Power (w 1 (codes "a") ∷ stop)) ⊎ (m ≡ power_end)

second_power : {c m : Tokens} {g : Formula} → One (kinds.Sign signs.Power) (sign 1 signs.Power ∷ a_before signs.Power (w 1 (codes "a") ∷ stop)) c → e.Prime c m g → m ≡ power_end
second_power one q = prime_end refl q

power_factor : (m : Tokens) (g : Formula) → e.Factor powers_text m g → PowerEnd m
power_factor m g (e.prime q) = inl (prime_end refl q)
power_factor m g (e.power {c = c} q j r) = inr (second_power (subst (λ k. One (kinds.Sign signs.Power) k c) (prime_end refl q) j) r)

power_joint : (m : Tokens) → PowerEnd m → NoJoint m
power_joint m (inl h) = subst NoJoint (sym h) refl
power_joint m (inr h) = subst NoJoint (sym h) refl

power_sum : {m : Tokens} {g : Formula} → e.Sum powers_text m g → PowerEnd m
power_sum q = power_factor _ _ (only_term powers_text (λ m g k. power_joint m (power_factor m g k)) word_is_no_sign q)

no_relation : {m c : Tokens} {o : Operator} → PowerEnd m → e.Relation m c o → ⊥
no_relation {c = c} {o = o} (inl h) r = not_power (subst (λ k. e.Relation k c o) h r)
no_relation {c = c} {o = o} (inr h) r = not_power (subst (λ k. e.Relation k c o) h r)

power_relation : (m : Tokens) (g : Formula) → e.Rel powers_text m g → PowerEnd m
power_relation m g (e.sum q) = power_sum q
power_relation m g (e.compared q o r) = absurd (no_relation (power_sum q) o)

no_stop : PowerEnd stop → ⊥
no_stop (inl h) = untrue (sym (ap at_stop h))
no_stop (inr h) = untrue (sym (ap at_stop h))

not_two_powers : (g : Formula) → e.Expr powers_text stop g → ⊥
not_two_powers g q = no_stop (expr_end powers_text PowerEnd power_relation power_joint word_is_no_sign q)

-- ---- a < a < a is no expression ----

abbrev less_end : Tokens
less_end = sign 1 signs.Lt ∷ w 1 (codes "a") ∷ stop

abbrev less_text : Tokens
less_text = a_before signs.Lt (a_before signs.Lt (w 1 (codes "a") ∷ stop))

abbrev LessEnd : Tokens → Type 0
LessEnd m = (m ≡ sign 1 signs.Lt ∷ a_before signs.Lt (w 1 (codes "a") ∷ stop)) ⊎ (m ≡ less_end)

less_factor : {ts : Tokens} (m : Tokens) (g : Formula) → e.Factor (a_before signs.Lt ts) m g → m ≡ sign 1 signs.Lt ∷ ts
less_factor m g (e.prime q) = prime_end refl q
less_factor m g (e.power {c = c} q j r) = absurd (no_power (subst (λ k. One (kinds.Sign signs.Power) k c) (prime_end refl q) j))
  where
    no_power : {ts c : Tokens} → One (kinds.Sign signs.Power) (sign 1 signs.Lt ∷ ts) c → ⊥
    no_power j = elim j [ ]

less_sum : {ts m : Tokens} {g : Formula} → e.Sum (a_before signs.Lt ts) m g → m ≡ sign 1 signs.Lt ∷ ts
less_sum {ts} q = less_factor _ _ (only_term (a_before signs.Lt ts) (λ m g k. subst NoJoint (sym (less_factor m g k)) refl) word_is_no_sign q)

second_less : {c m : Tokens} {o : Operator} {g : Formula} → e.Relation (sign 1 signs.Lt ∷ a_before signs.Lt (w 1 (codes "a") ∷ stop)) c o → e.Sum c m g → m ≡ less_end
second_less (first one) q = less_sum q
second_less (later (first j)) q = elim j [ ]
second_less (later (later (first j))) q = elim j [ ]
second_less (later (later (later (first j)))) q = elim j [ ]
second_less (later (later (later (later (first j))))) q = elim j [ ]
second_less (later (later (later (later (later (first j)))))) q = elim j [ ]
second_less (later (later (later (later (later (later h)))))) q = elim h [ ]

less_relation : (m : Tokens) (g : Formula) → e.Rel less_text m g → LessEnd m
less_relation m g (e.sum q) = inl (less_sum q)
less_relation m g (e.compared {c = c} {o = x} q o r) = inr (second_less (subst (λ k. e.Relation k c x) (less_sum q) o) r)

less_joint : (m : Tokens) → LessEnd m → NoJoint m
less_joint m (inl h) = subst NoJoint (sym h) refl
less_joint m (inr h) = subst NoJoint (sym h) refl

less_no_stop : LessEnd stop → ⊥
less_no_stop (inl h) = untrue (sym (ap at_stop h))
less_no_stop (inr h) = untrue (sym (ap at_stop h))

not_two_relations : (g : Formula) → e.Expr less_text stop g → ⊥
not_two_relations g q = less_no_stop (expr_end less_text LessEnd less_relation less_joint word_is_no_sign q)
