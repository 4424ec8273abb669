-- All records of what was got, once the last was asked for.
use Rattle.std.proofs.Common.{◌≡◌, ℕ, Bool, true, false, List, [], ◌++◌, sym, ap, ◌∙◌, subst, refl}
use Rattle.std.proofs.lemmas.List.{append-nil}
use Rattle.ports.specs.Records.{got_records, input_records}
use Rattle.f66_tree.specs.World.{Record}
use Rattle.record_intake.specs.Intakes.{Content, MayCome, IsCut}
use Rattle.record_flow.specs.Flows.{MayFollow, Takes}

may_end : (ended : Bool) → MayCome ended false []
may_end true = (refl, refl)
may_end false = tt

-- the records that are left of what is at hand may follow
pub rest_follows : (c : Content) → MayFollow c (input_records c.hand)
rest_follows c = record { failed = false; later = []; may = may_end c.ended; is = ap input_records (sym (append-nil c.hand)) }

module _ (first last : Content) (got : List ℕ) (taken : List Record) (empty : first.hand ≡ []) (t : Takes first last got taken) where
  all_of : (failed : Bool) → MayCome last.ended failed [] → got_records failed got ≡ taken ++ got_records failed last.hand
  all_of failed may =
      ap (got_records failed) (sym (append-nil got) ∙ ap (λ (l : List ℕ). (l ++ got) ++ []) (sym empty))
      ∙ t.records failed [] may
      ∙ ap (λ (l : List ℕ). taken ++ got_records failed l) (append-nil last.hand)

  -- all records, whatever comes later, are those that were taken and those left
  pub all_later : (failed : Bool) (later : List ℕ) → MayCome last.ended failed later → got_records failed (got ++ later) ≡ taken ++ got_records failed (last.hand ++ later)
  all_later failed later may = ap (λ (l : List ℕ). got_records failed ((l ++ got) ++ later)) (sym empty) ∙ t.records failed later may

  -- the records of all bytes are those that were taken and those at hand
  pub all_records : input_records got ≡ taken ++ input_records last.hand
  all_records = all_of false (may_end last.ended)

  -- or only those that were taken, where a read failed
  pub all_cut : IsCut last → got_records true got ≡ taken
  all_cut cut = all_of true (subst (λ b. MayCome b true []) (sym cut.going) tt) ∙ ap (λ (l : List Record). taken ++ l) cut.none ∙ append-nil taken
