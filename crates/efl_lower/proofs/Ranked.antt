-- The procedures of a program of EFL that the checks accept have ranks that fall along its calls.
use Rattle.std.proofs.Common.{◌≡◌, ◌<◌, ℕ, List, length, None, sym, ap, subst}
use Rattle.std.specs.Prelude.{is_none, unwrap_or}
use Rattle.std.proofs.lemmas.Option.{slice_get_within}
use Rattle.call_cycles.specs.Cycles.{HasNoCycle}
use Rattle.plain_units.proofs.Places.{first_at, first_some}
use Rattle.efl_tree.specs.Syntax.{EflProgram}
use Rattle.efl_scope.specs.FirstFault.{first_fault}
use Rattle.efl_types.specs.Whole.{edges_of, TellsWhole}
use Rattle.efl_typed.specs.Linking.{linkage_of}
use Rattle.efl_typed.specs.Laws.{IsAccepted}
use Rattle.efl_whole.proofs.PartCalls.{edges_within}
use Rattle.efl_plain.proofs.Linked.{counts_told, main_there}
use Rattle.efl_lower.proofs.Ranks.{ranks, ranks_fall, ranks_low}

main_below : (p : EflProgram) → TellsWhole p None → (linkage_of p).main < length p.procedures
main_below p whole =
    let m = main_there p whole in
    let f = first_some (λ u. is_none u.name) p.procedures m.0 m.1 m.2 m.3 in
    let a = first_at (λ u. is_none u.name) p.procedures f.0 f.1 in
    subst (λ i. i < length p.procedures) (sym (ap (λ o. unwrap_or o 0) f.1)) (slice_get_within p.procedures f.0 a.0 a.1)

module _ (p : EflProgram) (scopes : first_fault p ≡ None) (whole : TellsWhole p None) where
  abbrev many : ℕ
  many = length p.procedures

  no_cycle : HasNoCycle (edges_of p)
  no_cycle = (counts_told p whole).1

  pub ranked : (ranks : List ℕ) × IsAccepted p ranks
  ranked = (
    ranks (edges_of p) many (edges_within p) no_cycle,
    record {
      scopes = scopes;
      falls = ranks_fall (edges_of p) many (edges_within p) no_cycle;
      low = ranks_low (edges_of p) many (edges_within p) no_cycle (linkage_of p).main (main_below p whole);
    },
  )
