-- The code of linked units runs as they do.
use Rattle.std.proofs.Common.{List, map, sym, subst}
use Rattle.std.specs.Prelude.{All}
use Rattle.f66_tree.specs.declared.unit.Unit.{Unit as AUnit}
use Rattle.f66_tree.specs.Views.{routine_of}
use Rattle.f66_check.specs.Answers.{IsSoundUnit}
use Rattle.f66_program.specs.Linking.{IsWhole}
use Rattle.linker.specs.Rules.{program_of}
use Rattle.whole_program.specs.Linked.{IsLinked}
use Rattle.code_layout.specs.Compiled.{IsSoundProgram}
use Rattle.machine.specs.Runs.{Codes}
use Rattle.machine.proofs.UnitRuns.{codes_units, if_ok}
use Rattle.machine.proofs.code.code_of.Goals as goal

pub compile-requires : goal.compile-requires
compile-requires c =
    let l = c.in_ok-linked.linked in
    let units = sym c.in_ok-linked.ensures.units in
    record {
      finish = c.args.finish;
      whole = subst (λ (us : List AUnit). IsWhole (program_of us c.args.finish)) units c.requires.whole;
      linked = subst (λ (us : List AUnit). IsLinked (map routine_of us) l) units c.in_ok-linked.ensures.linked;
      sound = subst (λ (us : List AUnit). All IsSoundUnit (map routine_of us)) units c.requires.sound;
    }

pub returns : goal.returns
returns c =
    let l = c.in_ok-linked.linked in
    let units = sym c.in_ok-linked.ensures.units in
    let program : IsSoundProgram l = record {
      finish = c.args.finish;
      whole = subst (λ (us : List AUnit). IsWhole (program_of us c.args.finish)) units c.requires.whole;
      linked = subst (λ (us : List AUnit). IsLinked (map routine_of us) l) units c.in_ok-linked.ensures.linked;
      sound = subst (λ (us : List AUnit). All IsSoundUnit (map routine_of us)) units c.requires.sound;
    } in
    if_ok (λ code compiled.
    subst (λ (us : List AUnit). Codes (program_of us c.args.finish) code) c.in_ok-linked.ensures.units
    (codes_units c.code_behaves.ensures c.ranked_is_program.ensures c.linked_never_wrong.ensures c.runs_once.ensures c.linked_is_linkage.ensures l program code compiled))
    c.compile.result
    c.compile.ensures
