-- The meter of Ratfor counts units and their tokens, so a unit of a text that passes no limit has at most 20,000 tokens.
use Rattle.std.proofs.Common.{◌≡◌, ◌≤◌, ℕ, Bool, true, false, List, ◌∷◌, Some, None, refl}
use Rattle.std.specs.Prelude.{◌&&◌, ◌||◌, nat_lt, nat_eq, if◌then◌else◌}
use Rattle.ground.specs.declared.token.Token.{Token}
use Rattle.grammar.specs.declared.language.Event.{Event}
use Rattle.grammar.specs.declared.language.Event.TheVariants.{Open, Take, Close}
use Rattle.grammar.specs.Grammar.{Trees, DerivesAll}
use Rattle.grammar.specs.Limits.{history_all, first_passing, more}
use Rattle.grammar.specs.Lookahead.{implies}
use Rattle.rat_parse_table.specs.declared.counts.Counts.{Counts}
use Rattle.rat_parse_table.specs.declared.table.Terminal.{Terminal as ATerminal}
use Rattle.rat_parse_table.specs.declared.table.Nonterminal.{Nonterminal as ANonterminal}
use Rattle.rat_parse_table.specs.declared.table.Nonterminal.TheVariants as nonterminals
use Rattle.rat_parse_table.specs.declared.table.Production.{Production}
use Rattle.rat_parse_table.specs.declared.table.Production.TheVariants as productions
use Rattle.rat_parse_table.specs.Table.{symbols, nonterminal_of}
use Rattle.rat_parse_table.specs.Limits.{begun, next, passed, meter}
use Rattle.rat_parse.specs.Ratfor.{grammar}
use Rattle.rat_room.proofs.TreeWeights.{tokens_all}
use Rattle.rat_room.proofs.MeteredUnits.{Metered, after, IsWithin, within_limits, all_inside, CountsUnits, few_tokens}

abbrev pub is_unit : Production → Bool
is_unit productions.OneUnit = true
is_unit _ = false

-- what stands inside a unit
abbrev inner : ANonterminal → Bool
inner nonterminals.Program = false
inner nonterminals.Units = false
inner nonterminals.Unit = false
inner _ = true

outside : (p : Production) → is_unit p && inner (nonterminal_of p) ≡ false
outside productions.Whole = refl
outside _ = refl

inside : (p : Production) → implies (is_unit p || inner (nonterminal_of p)) (all_inside inner (symbols p)) ≡ true
inside productions.Whole = refl
inside _ = refl

abbrev view : Counts → Metered
view m = record { units = m.units; within = m.within; tokens = m.tokens }

limits : (m : Counts) → passed m ≡ None → IsWithin (view m)
limits m h = within_limits (nat_lt 100 m.nesting) (view m) (if nat_lt 1000 m.nodes then Some 10 else None) h

-- an expression that begins counts no unit
begun_same : (n : ℕ) (m : Counts) → view (begun n m) ≡ view m
begun_same n m = by (nat_eq m.expressions 0)
  where
    by : (b : Bool) → view (if b then (record m { expressions = more m.expressions; nodes = n }) else (record m { expressions = more m.expressions })) ≡ view m
    by true = refl
    by false = refl

next_same : (e : Event ATerminal Production) (m : Counts) → view (next e m) ≡ after is_unit e (view m)
next_same (Open productions.Expr) m = begun_same 0 m
next_same (Open productions.Ref) m = begun_same 0 m
next_same (Open productions.Element) m = begun_same 1 m
next_same (Open _) m = refl
next_same (Take t) m = refl
next_same (Close productions.OneUnit) m = refl
next_same (Close _) m = refl

pub counts_units : CountsUnits grammar meter is_unit
counts_units = record { view = view; next = next_same; limits = limits; inner = inner; outside = outside; inside = inside }

-- what a unit opens and takes
pub unit_few : (cs : Trees Token Production) (ts rest : List Token) (past : List (Event ATerminal Production)) → DerivesAll grammar cs (symbols productions.OneUnit) ts rest →
    first_passing meter (history_all grammar cs (Open productions.OneUnit ∷ past)) ≡ None → tokens_all cs ≤ 20000
unit_few cs ts rest past h quiet = few_tokens counts_units productions.OneUnit refl cs ts rest past h quiet
