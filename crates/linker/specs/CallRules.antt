-- The rules on calls, as tests of each call.
use Rattle.std.specs.Prelude.{ℕ, Bool, true, false, List, Option, None, Some, option_and_then}
use Rattle.std.specs.List.{slice_get}
use Rattle.rule_table.specs.Words.{is_some_and}
use Rattle.f66_tree.specs.Syntax.{Routine}
use Rattle.f66_program.specs.Mentions.{context_of}
use Rattle.f66_program.specs.Calls.{clashes, miscounts, unit_named}
use Rattle.linker.specs.declared.rule.CallRule.{CallRule}
use Rattle.linker.specs.declared.rule.CallRule.TheVariants.{Missing, Counted}
use Rattle.linker.specs.Sites.{Site}

abbrev pub is_nothing : Option ℕ → Bool
is_nothing None = true
is_nothing (Some u) = false

-- no unit has the name
abbrev pub is_missing : List Routine → Site → Bool
is_missing rs s = is_nothing (unit_named s.call.name rs)

-- the unit has another number of dummies
abbrev pub is_miscounted : List Routine → Site → Bool
is_miscounted rs s = is_some_and (λ v. is_some_and (miscounts s.call) (slice_get rs v)) (unit_named s.call.name rs)

-- the unit that a call leads to
abbrev pub led_to : List Routine → Site → Option Routine
led_to rs s = option_and_then (slice_get rs) (unit_named s.call.name rs)

-- the call does not agree with that unit
abbrev pub is_clashing : List Routine → Site → Bool
is_clashing rs s = is_some_and (λ r. is_some_and (clashes (context_of r) s.call) (led_to rs s)) (slice_get rs s.unit)

abbrev pub is_broken : CallRule → List Routine → Site → Bool
is_broken Missing rs s = is_missing rs s
is_broken Counted rs s = is_miscounted rs s
