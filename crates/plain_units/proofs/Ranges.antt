-- Where no statement is a DO, no range has a place: none overlaps another one, none is entered, and each DO that there is has an end.
use Rattle.std.proofs.Common.{◌≡◌, ℕ, false, true≢false, List, Option, Some, None, refl, ap, ◌∙◌, arith, ◌&&◌}
use Rattle.std.specs.Prelude.{nat_lt, nat_le, not}
use Rattle.std.specs.List.{slice_get}
use Rattle.std.proofs.lemmas.Bool.{or_from}
use Rattle.std.proofs.lemmas.Bool.Decides.{nat_tests}
use Rattle.rule_table.specs.Words.{is_some_and}
use Rattle.f66_tree.specs.Syntax.{Act, Loop, Line}
use Rattle.f66_flow.specs.Acts.{branches}
use Rattle.f66_flow.specs.Ranges.{label_place, range_end, range_ends, end_at, holds}
use Rattle.f66_flow.specs.FlowRules.{has_no_end, ends_wrong, enters_at, enters, nests_wrong}
use Rattle.f66_flow.proofs.NestLemmas.{none_below}
use Rattle.f66_flow.proofs.EarlierLemmas.{end_of}
use Rattle.plain_units.proofs.Forms.{is_loop}
use Rattle.plain_units.proofs.Named.{none_of}

ends_zero : (lines : List Line) (a : Act) → is_loop a ≡ false → range_end lines a ≡ 0
ends_zero lines (Loop l x a b c) is = absurd (true≢false is)
ends_zero lines _ is = refl

ends_well : (lines : List Line) (i : ℕ) (a : Act) → is_loop a ≡ false → ends_wrong lines i a ≡ false
ends_well lines i (Loop l x a b c) is = absurd (true≢false is)
ends_well lines i _ is = refl

pub has_an_end : (lines : List Line) (a : Act) → is_loop a ≡ false → has_no_end lines a ≡ false
has_an_end lines (Loop l x a b c) is = absurd (true≢false is)
has_an_end lines _ is = refl

module _ (lines : List Line) (none : (i : ℕ) (s : Line) → slice_get lines i ≡ Some s → is_loop s.act ≡ false) where
  end_zero : (d : ℕ) → end_at (range_ends lines) d ≡ 0
  end_zero d = go (slice_get lines d) refl
    where
      go : (o : Option Line) → slice_get lines d ≡ o → end_at (range_ends lines) d ≡ 0
      go None e = end_of lines d None e
      go (Some s) e = end_of lines d (Some s) e ∙ ends_zero lines s.act (none d s e)

  holds_none : (d p : ℕ) → holds (range_ends lines) d p ≡ false
  holds_none d p =
      let no : (nat_lt d p && nat_le p 0) ≡ false = grind (arith, nat_tests) in
      ap (λ n. nat_lt d p && nat_le p n) (end_zero d) ∙ no

  pub nests_well : (i : ℕ) (a : Act) → is_loop a ≡ false → nests_wrong lines i a ≡ false
  nests_well i a is =
      or_from _ _ (ends_well lines i a is)
      (or_from _ _
      (none_below i (λ d. holds (range_ends lines) d i && nat_lt (end_at (range_ends lines) d) (range_end lines a)) (λ d lt. ap (λ b. b && nat_lt (end_at (range_ends lines) d) (range_end lines a)) (holds_none d i)))
      (none_of (enters lines i) (branches a) (λ l h. outside (label_place lines l))))
    where
      outside : (o : Option ℕ) → is_some_and (enters_at lines i) o ≡ false
      outside None = refl
      outside (Some t) = none_below t (λ d. holds (range_ends lines) d t && not (holds (range_ends lines) d i)) (λ d lt. ap (λ b. b && not (holds (range_ends lines) d i)) (holds_none d t))
