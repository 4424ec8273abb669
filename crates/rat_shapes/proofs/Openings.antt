-- What the meter counts as open where a part of a text begins: no less than at the beginning of what it is a part of, with the
-- parentheses that were opened before it there and are not closed.
--
-- Each production but those of the rest of an implied DO closes what it opens. The meter never counts more than 100 where a token
-- is taken, and so its count there is not cut off at the greatest number of a machine.
use Rattle.std.proofs.Common.{◌≡◌, ◌≤◌, ℕ, ◌+◌, arith, Bool, true, false, List, [], ◌∷◌, Option, Some, None, refl, sym, ◌∙◌, subst}
use Rattle.std.proofs.lemmas.Bool.Decides.{nat_tests}
use Rattle.std.specs.Prelude.{◌*◌, ◌&&◌, nat_lt, nat_eq, if◌then◌else◌}
use Rattle.ground.specs.declared.token.Token.{Token}
use Rattle.grammar.specs.declared.language.Symbol.{Symbol}
use Rattle.grammar.specs.declared.language.Symbol.TheVariants.{Terminal, Nonterminal}
use Rattle.grammar.specs.declared.language.Event.TheVariants.{Open, Take, Close}
use Rattle.grammar.specs.Grammar.{Tree, Trees, leaf, node, none, some, Derives, DerivesAll}
use Rattle.grammar.specs.Limits.{history, history_all, reading, first_passing, more}
use Rattle.rat_parse_table.specs.declared.counts.Counts.{Counts}
use Rattle.rat_parse_table.specs.declared.table.Terminal.{Terminal as ATerminal}
use Rattle.rat_parse_table.specs.declared.table.Terminal.TheVariants as terminals
use Rattle.rat_parse_table.specs.declared.table.Nonterminal.{Nonterminal as ANonterminal}
use Rattle.rat_parse_table.specs.declared.table.Nonterminal.TheVariants as nonterminals
use Rattle.rat_parse_table.specs.declared.table.Production.{Production}
use Rattle.rat_parse_table.specs.declared.table.Production.TheVariants as productions
use Rattle.rat_parse_table.specs.Table.{symbols, nonterminal_of}
use Rattle.rat_parse_table.specs.Limits.{opened, closed, begun, nesting_with, passed, meter}
use Rattle.rat_parse.specs.Ratfor.{grammar}
use Rattle.rat_room.proofs.TreeWeights.{offered_by}
use Rattle.rat_room.proofs.MeteredUnits.{none_passed_at, all_quiet_before}
use Rattle.rat_room.proofs.UnitTexts.{Past}

-- ---- what is open ----

abbrev pub open_after : Past → ℕ
open_after past = (reading meter past).nesting

-- no limit is passed
abbrev pub IsQuiet : Past → Type 0
IsQuiet past = first_passing meter past ≡ None

-- what a symbol opens, and what it closes that stood open before it
abbrev pub opens : Symbol ATerminal ANonterminal → ℕ
opens (Terminal terminals.Open) = 1
opens _ = 0

abbrev pub closes : Symbol ATerminal ANonterminal → ℕ
closes (Terminal terminals.Close) = 1
closes (Nonterminal nonterminals.LoopRest) = 1
closes (Nonterminal nonterminals.NameRest) = 1
closes _ = 0

abbrev pub all_open : List (Symbol ATerminal ANonterminal) → ℕ
all_open [] = 0
all_open (x ∷ xs) = opens x + all_open xs

abbrev pub all_close : List (Symbol ATerminal ANonterminal) → ℕ
all_close [] = 0
all_close (x ∷ xs) = closes x + all_close xs

-- blocks, control statements and unary operators
abbrev pub deepens : Production → ℕ
deepens productions.Braces = 1
deepens productions.IfStatement = 1
deepens productions.WhileStatement = 1
deepens productions.ForStatement = 1
deepens productions.RepeatStatement = 1
deepens productions.DoStatement = 1
deepens productions.SwitchStatement = 1
deepens productions.Negated = 1
deepens productions.SignedTerm = 1
deepens _ = 0

-- each production closes what it opens
balanced : (p : Production) → all_close (symbols p) ≤ all_open (symbols p) + closes (Nonterminal (nonterminal_of p))
balanced productions.Whole = omega arith
balanced _ = omega arith

-- ---- a token ----

first_false : (a : Bool) (other : Option ℕ) → (if a then Some 3 else other) ≡ None → a ≡ false
first_false true other h = cc
first_false false other h = refl

low : (m : Counts) → passed m ≡ None → m.nesting ≤ 100
low m h = at_most (nat_lt 100 m.nesting) refl (first_false (nat_lt 100 m.nesting) (if nat_lt 500 m.units then Some 5 else (if m.within && nat_lt 20000 m.tokens then Some 6 else (if nat_lt 1000 m.nodes then Some 10 else None))) h)
  where
    at_most : (b : Bool) → nat_lt 100 m.nesting ≡ b → b ≡ false → m.nesting ≤ 100
    at_most true e f = absurd (let g : true ≡ false = f in cc)
    at_most false e f = grind (arith, nat_tests)

pub token_low : (t : ATerminal) (past : Past) → IsQuiet (Take t ∷ past) → nesting_with t (open_after past) ≤ 100
token_low t past quiet = low (reading meter (Take t ∷ past)) (none_passed_at meter t past quiet)

token_kept : (t : ATerminal) (n : ℕ) → nesting_with t n ≤ 100 → n + opens (Terminal t) ≤ nesting_with t n + closes (Terminal t)
token_kept terminals.Open n h = omega (arith, h)
token_kept terminals.Close n h = omega arith
token_kept _ n h = omega arith

-- ---- a production ----

begun_nesting : (b : Bool) (m one other : Counts) → one.nesting ≡ m.nesting → other.nesting ≡ m.nesting → (if b then one else other).nesting ≡ m.nesting
begun_nesting true m one other h g = h
begun_nesting false m one other h g = g

expression_nesting : (n : ℕ) (m : Counts) → (begun n m).nesting ≡ m.nesting
expression_nesting n m = begun_nesting (nat_eq m.expressions 0) m (record m { expressions = more m.expressions; nodes = n }) (record m { expressions = more m.expressions }) refl refl

opened_nesting : (p : Production) (m : Counts) → deepens p * (opened p m).nesting ≤ 100 → m.nesting + deepens p ≤ (opened p m).nesting
opened_nesting productions.Expr m h = omega (arith, expression_nesting 0 m)
opened_nesting productions.Ref m h = omega (arith, expression_nesting 0 m)
opened_nesting productions.Element m h = omega (arith, expression_nesting 1 m)
opened_nesting _ m h = omega (arith, h)

closed_nesting : (p : Production) (m : Counts) → m.nesting ≤ (closed p m).nesting + deepens p
closed_nesting productions.OneUnit m = omega arith
closed_nesting _ m = omega arith

tail_of : {X : Type 0} (x y : X) (xs ys : List X) → x ∷ xs ≡ y ∷ ys → xs ≡ ys
tail_of x y xs ys e = cc

head_of : {X : Type 0} (x y : X) (xs ys : List X) → x ∷ xs ≡ y ∷ ys → x ≡ y
head_of x y xs ys e = cc

abbrev symbol_of : ATerminal → Symbol ATerminal ANonterminal
symbol_of t = Terminal t

terminal_of : (t u : ATerminal) → symbol_of t ≡ symbol_of u → t ≡ u
terminal_of t u e = cc

-- the first token of symbols that begin with a terminal
first_low : (cs : Trees Token Production) (t : ATerminal) (xs : List (Symbol ATerminal ANonterminal)) (ts rest : List Token) (past : Past) → DerivesAll grammar cs (Terminal t ∷ xs) ts rest → IsQuiet (history_all grammar cs past) → nesting_with t (open_after past) ≤ 100
first_low none t xs ts rest past h quiet = absurd (let e : Terminal t ∷ xs ≡ [] = h.0 in cc)
first_low (some (leaf u) cs) t xs ts rest past h quiet =
    subst (λ k. nesting_with k (open_after past) ≤ 100) (sym (terminal_of t (grammar.terminal_of u) (head_of (Terminal t) h.0 xs h.1 h.3 ∙ h.4.0)))
    (token_low (grammar.terminal_of u) past (all_quiet_before grammar meter cs (Take (grammar.terminal_of u) ∷ past) quiet))
first_low (some (node p ds) cs) t xs ts rest past h quiet = absurd (let e : Terminal t ≡ Nonterminal h.4.0 = head_of (Terminal t) h.0 xs h.1 h.3 ∙ h.4.1 in cc)

starts_low : (p : Production) (cs : Trees Token Production) (ts rest : List Token) (past : Past) → DerivesAll grammar cs (symbols p) ts rest → IsQuiet (history_all grammar cs past) → deepens p * open_after past ≤ 100
starts_low productions.Braces cs ts rest past h quiet = omega (arith, first_low cs terminals.OpenBrace _ ts rest past h quiet)
starts_low productions.IfStatement cs ts rest past h quiet = omega (arith, first_low cs terminals.If _ ts rest past h quiet)
starts_low productions.WhileStatement cs ts rest past h quiet = omega (arith, first_low cs terminals.While _ ts rest past h quiet)
starts_low productions.ForStatement cs ts rest past h quiet = omega (arith, first_low cs terminals.For _ ts rest past h quiet)
starts_low productions.RepeatStatement cs ts rest past h quiet = omega (arith, first_low cs terminals.Repeat _ ts rest past h quiet)
starts_low productions.DoStatement cs ts rest past h quiet = omega (arith, first_low cs terminals.Do _ ts rest past h quiet)
starts_low productions.SwitchStatement cs ts rest past h quiet = omega (arith, first_low cs terminals.Switch _ ts rest past h quiet)
starts_low productions.Negated cs ts rest past h quiet = omega (arith, first_low cs terminals.Not _ ts rest past h quiet)
starts_low productions.SignedTerm cs ts rest past h quiet = omega (arith, first_low cs terminals.Adding _ ts rest past h quiet)
starts_low _ cs ts rest past h quiet = omega arith

-- where a production opens, no less is open than before it
pub inside_kept : (p : Production) (cs : Trees Token Production) (ts rest : List Token) (past : Past) → DerivesAll grammar cs (symbols p) ts rest → IsQuiet (history_all grammar cs (Open p ∷ past)) → open_after past + deepens p ≤ open_after (Open p ∷ past)
inside_kept p cs ts rest past h quiet = opened_nesting p (reading meter past) (starts_low p cs ts rest (Open p ∷ past) h quiet)

-- ---- trees ----

mutual
  pub tree_kept : (c : Tree Token Production) (x : Symbol ATerminal ANonterminal) (ts rest : List Token) (past : Past) → Derives grammar c x ts rest → IsQuiet (history grammar c past) →
      open_after past + opens x ≤ open_after (history grammar c past) + closes x
  tree_kept (leaf t) x ts rest past h quiet =
      let k : ATerminal = grammar.terminal_of t in
      subst (λ y. open_after past + opens y ≤ nesting_with k (open_after past) + closes y) (sym h.0) (token_kept k (open_after past) (token_low k past quiet))
  tree_kept (node p cs) x ts rest past h quiet =
      let end : Past = history_all grammar cs (Open p ∷ past) in
      subst (λ y. open_after past + opens y ≤ open_after (Close p ∷ end) + closes y) (sym h.1)
      (subst (λ n. open_after past + 0 ≤ open_after (Close p ∷ end) + closes (Nonterminal n)) (offered_by grammar h.0 p ts h.2)
      (omega (arith, inside_kept p cs ts rest past h.3 quiet, trees_kept cs (symbols p) ts rest (Open p ∷ past) h.3 quiet, balanced p, closed_nesting p (reading meter end))))

  trees_kept : (cs : Trees Token Production) (xs : List (Symbol ATerminal ANonterminal)) (ts rest : List Token) (past : Past) → DerivesAll grammar cs xs ts rest → IsQuiet (history_all grammar cs past) →
      open_after past + all_open xs ≤ open_after (history_all grammar cs past) + all_close xs
  trees_kept none xs ts rest past h quiet = subst (λ ys. open_after past + all_open ys ≤ open_after past + all_close ys) (sym h.0) (omega arith)
  trees_kept (some c cs) xs ts rest past h quiet =
      let middle : Past = history grammar c past in
      subst (λ ys. open_after past + all_open ys ≤ open_after (history_all grammar cs middle) + all_close ys) (sym h.3)
      (omega (arith, tree_kept c h.0 ts h.2 past h.4 (all_quiet_before grammar meter cs middle quiet), trees_kept cs h.1 h.2 rest middle h.5 quiet))
