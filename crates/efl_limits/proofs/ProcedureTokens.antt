-- The meter of EFL counts procedures and their tokens, so a procedure of a text that passes no limit has at most 20,000 tokens.
use Rattle.std.proofs.Common.{◌≡◌, ◌≤◌, Bool, true, false, List, ◌∷◌, Some, None, refl}
use Rattle.std.specs.Prelude.{◌&&◌, ◌||◌, nat_lt, if◌then◌else◌}
use Rattle.ground.specs.declared.token.Token.{Token}
use Rattle.grammar.specs.declared.language.Event.{Event}
use Rattle.grammar.specs.declared.language.Event.TheVariants.{Open, Take, Close}
use Rattle.grammar.specs.Grammar.{Trees, DerivesAll}
use Rattle.grammar.specs.Limits.{history_all, first_passing}
use Rattle.grammar.specs.Lookahead.{implies}
use Rattle.efl_parse_table.specs.declared.counts.Counts.{Counts}
use Rattle.efl_parse_table.specs.declared.table.Terminal.{Terminal as ATerminal}
use Rattle.efl_parse_table.specs.declared.table.Nonterminal.{Nonterminal as ANonterminal}
use Rattle.efl_parse_table.specs.declared.table.Nonterminal.TheVariants as nonterminals
use Rattle.efl_parse_table.specs.declared.table.Production.{Production}
use Rattle.efl_parse_table.specs.declared.table.Production.TheVariants as productions
use Rattle.efl_parse_table.specs.Table.{symbols, nonterminal_of}
use Rattle.efl_parse_table.specs.Limits.{next, passed, meter}
use Rattle.efl_parse.specs.Efl.{grammar}
use Rattle.rat_room.proofs.TreeWeights.{tokens_all}
use Rattle.rat_room.proofs.MeteredUnits.{Metered, after, IsWithin, within_limits, all_inside, CountsUnits, few_tokens}

abbrev pub is_procedure : Production → Bool
is_procedure productions.OneProcedure = true
is_procedure _ = false

-- what stands inside a procedure
abbrev inner : ANonterminal → Bool
inner nonterminals.Program = false
inner nonterminals.Procedures = false
inner nonterminals.ProcedureText = false
inner _ = true

outside : (p : Production) → is_procedure p && inner (nonterminal_of p) ≡ false
outside productions.Whole = refl
outside _ = refl

inside : (p : Production) → implies (is_procedure p || inner (nonterminal_of p)) (all_inside inner (symbols p)) ≡ true
inside productions.Whole = refl
inside _ = refl

abbrev view : Counts → Metered
view m = record { units = m.procedures; within = m.within; tokens = m.tokens }

limits : (m : Counts) → passed m ≡ None → IsWithin (view m)
limits m h = within_limits (nat_lt 100 m.nesting) (view m) (if nat_lt 1000 m.nodes then Some 10 else None) h

next_same : (e : Event ATerminal Production) (m : Counts) → view (next e m) ≡ after is_procedure e (view m)
next_same (Open productions.OneProcedure) m = refl
next_same (Open _) m = refl
next_same (Take t) m = refl
next_same (Close productions.OneProcedure) m = refl
next_same (Close _) m = refl

pub counts_units : CountsUnits grammar meter is_procedure
counts_units = record { view = view; next = next_same; limits = limits; inner = inner; outside = outside; inside = inside }

-- what a procedure opens and takes
pub procedure_few : (cs : Trees Token Production) (ts rest : List Token) (past : List (Event ATerminal Production)) → DerivesAll grammar cs (symbols productions.OneProcedure) ts rest →
    first_passing meter (history_all grammar cs (Open productions.OneProcedure ∷ past)) ≡ None → tokens_all cs ≤ 20000
procedure_few cs ts rest past h quiet = few_tokens counts_units productions.OneProcedure refl cs ts rest past h quiet
