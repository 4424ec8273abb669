-- A clause before others, and a field before others, is no deeper than each of them.
use Rattle.std.proofs.Common.{◌≤◌, ℕ, arith, List}
use Rattle.std.specs.Prelude.{max}
use Rattle.f66_tree.specs.Fields.{Fields, NoField}
use Rattle.rat_tree.specs.Syntax.{Clauses, NoClause}
use Rattle.rat_parse_table.specs.declared.table.Production.{Production}
use Rattle.rat_parse_values.specs.Kinds as part
use Rattle.rat_parse_values.specs.Values.{Val, at}
use Rattle.rat_parse_values.specs.Values as val
use Rattle.rat_parse_values.specs.Parts.{with_field, with_clause}
use Rattle.rat_parse.specs.Build.{build}
use Rattle.rat_room.proofs.TreeWeights.{Each}
use Rattle.rat_room.proofs.NineParts.{part_at}
use Rattle.rat_room.proofs.BeforeOthers.{HoldsBefore, keeps_each}
use Rattle.deck_laws.specs.Nesting.{fields_nesting}
use Rattle.rat_shapes.proofs.Depths.{depth_among, depth}

-- each clause and each field with others is no deeper than it is alone, or they are
abbrev ClauseSplits : (Clauses → Clauses) → Type 0
ClauseSplits d = (all : Clauses) → depth_among (d all) ≤ max (depth_among (d NoClause)) (depth_among all)

abbrev FieldSplits : (Fields → Fields) → Type 0
FieldSplits d = (all : Fields) → fields_nesting (d all) ≤ max (fields_nesting (d NoField)) (fields_nesting all)

abbrev pub IsSplit : Val → Type 0
IsSplit v = HoldsBefore ClauseSplits FieldSplits v

pub with_clause_deep : (v : Val) (cs : Clauses) → IsSplit v → depth_among (with_clause v cs) ≤ max (depth v) (depth_among cs)
with_clause_deep (val.statement (part.clause d)) cs split = split cs
with_clause_deep _ cs split = omega arith

pub with_field_deep : (v : Val) (fs : Fields) → IsSplit v → fields_nesting (with_field v fs) ≤ max (depth v) (fields_nesting fs)
with_field_deep (val.transfer (part.field d)) fs split = split fs
with_field_deep _ fs split = omega arith

pub split_at : (n : ℕ) (vs : List Val) → Each IsSplit vs → IsSplit (at n vs)
split_at n vs e = part_at IsSplit tt n vs e

pub keeps : (p : Production) (vs : List Val) → Each IsSplit vs → IsSplit (build p vs)
keeps = keeps_each ClauseSplits FieldSplits (λ es fallback ss p all. omega arith) (λ n s all. omega arith) (λ n fs all. omega arith)
