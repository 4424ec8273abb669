-- The edges are those of the calls, and the first one on a cycle is that of the first call on one.
use Rattle.std.specs.Prelude.{vec_len}
use Rattle.std.proofs.Common.{rules, ◌≡◌, ◌<◌, ◌∙◌, length, map, sym, ap, subst}
use Rattle.std.proofs.lemmas.List.{length-map}
use Rattle.call_cycles.specs.Cycles as cycles
use Rattle.efl_tree.specs.Views.{procedure_of, program_of}
use Rattle.efl_types.specs.Whole.{IsRecursion}
use Rattle.efl_whole.specs.Calls.{no_calls, procedures_calls}
use Rattle.efl_whole.specs.CallViews.{calls_of, numbers_of}
use Rattle.efl_whole.proofs.WholeLemmas.{edges_in, as_many, first_recursion, no_recursion}
use Rattle.efl_whole.proofs.checking.recursion.Goals as goal

pub first_on_cycle-requires : goal.first_on_cycle-requires
first_on_cycle-requires c =
    let p = program_of c.args.program.now in
    let numbers = numbers_of c.args.numbers.now in
    let known = c.in_ok-calls.ensures ∙ ap (λ us. procedures_calls numbers 0 (map procedure_of us) no_calls) c.deref.ensures.value in
    let within = edges_in p numbers c.requires (calls_of c.in_ok-calls.calls) known in
    let whole : vec_len c.args.program.now.procedures ≡ length c.args.program.now.procedures.items = search rules in
    let many : c.len.result ≡ length p.procedures = c.len.ensures ∙ whole ∙ sym (length-map c.args.program.now.procedures.items procedure_of) in
    subst (cycles.AreWithin c.len.result) (sym c.deref-2.ensures.value) (subst (λ n. cycles.AreWithin n c.in_ok-calls.calls.edges.items) (sym many) within)

pub returns-in-None : goal.returns-in-None
returns-in-None c =
    let p = program_of c.args.program.now in
    let numbers = numbers_of c.args.numbers.now in
    let known = c.in_ok-calls.ensures ∙ ap (λ us. procedures_calls numbers 0 (map procedure_of us) no_calls) c.deref.ensures.value in
    let h : cycles.HasNoCycle c.deref-2.result.now = rw c.in-None.is at c.in_ok-first_on_cycle.ensures in
    no_recursion p numbers c.requires (calls_of c.in_ok-calls.calls) known (subst cycles.HasNoCycle c.deref-2.ensures.value h)

pub index-requires : goal.index-requires
index-requires c =
    let p = program_of c.args.program.now in
    let numbers = numbers_of c.args.numbers.now in
    let n = c.in-Some.number in
    let known = c.in_ok-calls.ensures ∙ ap (λ us. procedures_calls numbers 0 (map procedure_of us) no_calls) c.deref.ensures.value in
    let h : cycles.IsFirstOnCycle c.deref-2.result.now n = rw c.in-Some.is at c.in_ok-first_on_cycle.ensures in
    let first = subst (λ es. cycles.IsFirstOnCycle es n) c.deref-2.ensures.value h in
    let inside = subst (λ m. n < m) (sym (as_many p numbers c.requires (calls_of c.in_ok-calls.calls) known)) first.inside in
    let whole : vec_len c.in_ok-calls.calls.places ≡ length c.in_ok-calls.calls.places.items = search rules in
    subst (λ m. n < m) (sym whole) inside

pub returns : goal.returns
returns c =
    let p = program_of c.args.program.now in
    let numbers = numbers_of c.args.numbers.now in
    let n = c.in-Some.number in
    let known = c.in_ok-calls.ensures ∙ ap (λ us. procedures_calls numbers 0 (map procedure_of us) no_calls) c.deref.ensures.value in
    let h : cycles.IsFirstOnCycle c.deref-2.result.now n = rw c.in-Some.is at c.in_ok-first_on_cycle.ensures in
    let first = subst (λ es. cycles.IsFirstOnCycle es n) c.deref-2.ensures.value h in
    subst (IsRecursion p) (sym c.new.ensures) (first_recursion p numbers c.requires (calls_of c.in_ok-calls.calls) known n c.index.result.now c.index.result.now first c.index.ensures)
