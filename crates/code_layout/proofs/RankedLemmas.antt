-- The layout of a linked program by ranks that fall along each call is as the law of its code asks.
use Rattle.std.proofs.Common.{◌≡◌, ◌<◌, ℕ, zero, suc, inl, inr, Bool, true, false, true≢false, List, [], ◌∷◌, Option, Some, None, length, refl, sym, ap, subst, ◌∙◌, arith}
use Rattle.std.specs.Prelude.{if◌then◌else◌}
use Rattle.std.specs.List.{All, list_any, slice_get}
use Rattle.std.specs.Str.{bytes_eq}
use Rattle.std.proofs.lemmas.Bool.{or_parts}
use Rattle.std.proofs.lemmas.List.Elements.{All-contains}
use Rattle.std.proofs.lemmas.Slice.Eq.{bytes_eq-Decides}
use Rattle.rule_table.specs.Words.{repeats}
use Rattle.ground.specs.declared.place.Place.{Place}
use Rattle.f66_tree.specs.Syntax.{Text, Line, Routine, Header, MainUnit, SubUnit, FuncUnit, DataUnit}
use Rattle.f66_tree.specs.Units.{is_main, notes_of, format_of, dummies_of, position, one_on}
use Rattle.f66_soundness.specs.SoundUnits.{finds_format}
use Rattle.f66_soundness.proofs.KindLemmas.{no_some, some_same}
use Rattle.unit_rules.specs.Heads.{header_names}
use Rattle.f66_check.specs.Answers.{IsSoundUnit}
use Rattle.f66_program.specs.Calls.{is_called, one_further, unit_named, Leads}
use Rattle.f66_program.specs.Linking.{IsWhole}
use Rattle.linked_soundness.proofs.FormatLemmas.{formats_there}
use Rattle.linked_soundness.proofs.RuleLemmas.{sound_fit}
use Rattle.linker.specs.CallViews.{units_in}
use Rattle.linker.proofs.PartLemmas.{contains_got, got_inside, same_unit}
use Rattle.renumbering.proofs.SoundLemmas.{sound_placed}
use Rattle.whole_program.specs.declared.linked.Linked.{Linked}
use Rattle.whole_program.specs.Linked.{IsLinked}
use Rattle.whole_program.specs.Linkage.{context_or, linkage_of}
use Rattle.whole_program.proofs.LinkageLemmas.{linkage}
use Rattle.code_gen.specs.Layout.{Layout}
use Rattle.code_gen.specs.Coded.{IsOwn}
use Rattle.code_gen.specs.Behaves.{HavePlans, IsAmong}
use Rattle.code_gen.specs.LayingOut.{layout}
use Rattle.code_gen.specs.Linked.{IsRanked}
use Rattle.code_emit.specs.Plans.{all_formats, plan_at}
use Rattle.code_emit.proofs.ProgramLemmas.{all_have_plans}
use Rattle.code_layout.specs.Order.{others_of}
use Rattle.code_layout.specs.Tabled.{lines_or, lines_in, order_in}
use Rattle.code_layout.specs.Ranked.{bound_of, initial_of}
use Rattle.code_layout.proofs.OrderLemmas.{distinct, within, among, ordered}
use Rattle.code_layout.proofs.LaidLemmas.{laid}
use Rattle.code_layout.proofs.InitialLemmas.{initial, below}

unit_here : (rs : List Routine) (u : ℕ) → u < length rs → (r : Routine) × (slice_get rs u ≡ Some r)
unit_here [] u lt = absurd (omega (arith, lt))
unit_here (r ∷ rs) zero lt = (r, refl)
unit_here (r ∷ rs) (suc u) lt = unit_here rs u (omega (arith, lt))

-- the unit of a name is there, and is called so
abbrev pub IsNamed : Text → List Routine → ℕ → Type 0
IsNamed q rs v = (r : Routine) × (slice_get rs v ≡ Some r) × (is_called q r.header ≡ true)

pub named_unit : (q : Text) (rs : List Routine) (v : ℕ) → unit_named q rs ≡ Some v → IsNamed q rs v
named_unit q [] v e = no_some _ e
named_unit q (r ∷ rs) v e = by_name (is_called q r.header) refl (unit_named q rs) (named_unit q rs) e
  where
    by_name : (b : Bool) → is_called q r.header ≡ b → (o : Option ℕ) → ((w : ℕ) → o ≡ Some w → IsNamed q rs w) → (if b then Some zero else one_further o) ≡ Some v → IsNamed q (r ∷ rs) v
    by_name true called o there is = subst (IsNamed q (r ∷ rs)) (some_same is) (r, refl, called)
    by_name false called None there is = no_some _ is
    by_name false called (Some w) there is = subst (IsNamed q (r ∷ rs)) (some_same is) (there w refl)

no_main : (q : Text) (h : Header) → is_called q h ≡ true → is_main h ≡ false
no_main q MainUnit e = absurd (true≢false (sym e))
no_main q (SubUnit x ds) e = refl
no_main q (FuncUnit t x ds) e = refl
no_main q DataUnit e = refl

-- what is not in a list has no place there
no_place : (x : Text) (ds : List Text) → list_any (bytes_eq x) ds ≡ false → position x ds ≡ None
no_place x [] e = refl
no_place x (y ∷ ds) e =
    let p = or_parts (bytes_eq x y) _ e in
    ap (λ b. if b then Some zero else one_on (position x ds)) p.0 ∙ ap one_on (no_place x ds p.1)

own_listed : (x y : Text) (ds : List Text) → bytes_eq x y ≡ true → repeats (y ∷ ds) ≡ false → position x ds ≡ None
own_listed x y ds e h = no_place x ds (subst (λ q. list_any (bytes_eq q) ds ≡ false) (sym ((bytes_eq-Decides x y).0 e)) (or_parts (list_any (bytes_eq y) ds) _ h).0)

own_name : (x : Text) (h : Header) → is_called x h ≡ true → repeats (header_names h) ≡ false → position x (dummies_of h) ≡ None
own_name x MainUnit e d = refl
own_name x (SubUnit y ds) e d = own_listed x y ds e d
own_name x (FuncUnit t y ds) e d = own_listed x y ds e d
own_name x DataUnit e d = refl

module _ (l : Linked) (finish : Place) (whole : IsWhole (record { units = units_in l.calls; finish = finish })) (t : IsLinked (units_in l.calls) l) (all_sound : All IsSoundUnit (units_in l.calls)) where
  abbrev rs : List Routine
  rs = units_in l.calls

  abbrev others : List ℕ
  others = others_of l.main (length rs)

  sound : (u : ℕ) (r : Routine) → slice_get rs u ≡ Some r → IsSoundUnit r
  sound u r here = All-contains IsSoundUnit rs r all_sound (contains_got rs u r here)

  formats : (u : ℕ) (r : Routine) (i : ℕ) (s : Line) → slice_get rs u ≡ Some r → slice_get r.lines i ≡ Some s → finds_format (notes_of r.lines) s.act ≡ true
  formats u r i s here is = formats_there r.lines s.act ((sound_fit r (sound u r here)).rules i s is).formats

  there : (u : ℕ) → IsAmong u (l.main ∷ others) → (r : Routine) × (slice_get rs u ≡ Some r)
  there u (inl e) = (t.main.0, ap (slice_get rs) e ∙ t.main.1)
  there u (inr m) = unit_here rs u (let w = (within l.main 0 (length rs) u m).1 in omega (arith, w))

  called : (x : Text) (v : ℕ) → unit_named x rs ≡ Some v → IsAmong v others
  called x v e =
      let n = named_unit x rs v e in
      let inside = got_inside rs v n.0 n.1 in
      among l.main 0 (length rs) v (omega arith) (omega (arith, inside)) (λ same.
      let is : n.0 ≡ t.main.0 = same_unit (slice_get rs v) n.1 (ap (slice_get rs) same ∙ t.main.1) in
      true≢false (sym t.main.2 ∙ ap (λ r. is_main r.header) (sym is) ∙ no_main x n.0.header n.2))

  results : (x : Text) (v : ℕ) → unit_named x rs ≡ Some v → IsOwn (linkage_of l) v x
  results x v e =
      let n = named_unit x rs v e in
      ap (λ o. position x (dummies_of (context_or o).header)) n.1 ∙ own_name x n.0.header n.2 (sound_placed n.0 (sound v n.0 n.1)).header

  module _ (rank : ℕ → ℕ) where
    abbrev y : Layout
    y = layout (linkage_of l) (lines_in l) (plan_at (lines_in l) (order_in l)) (initial_of l) (bound_of l) rank (order_in l)

    same_notes : (o : Option Routine) → (context_or o).notes ≡ notes_of (lines_or o)
    same_notes None = refl
    same_notes (Some r) = refl

    planned_by : (u : ℕ) → IsAmong u (order_in l) → HavePlans y u (all_formats (lines_in l) (order_in l))
    planned_by u m = all_have_plans y (order_in l) u (distinct l.main (length rs)) m (same_notes (slice_get rs u)) (λ k. refl)

    planned : (u : ℕ) → HavePlans y u (all_formats (lines_in l) (order_in l))
    planned u = by_unit (slice_get rs u) refl
      where
        by_unit : (o : Option Routine) → slice_get rs u ≡ o → HavePlans y u (all_formats (lines_in l) (order_in l))
        by_unit None e = record { by = λ k f is. no_some _ (ap (λ o. format_of k (context_or o).notes) (sym e) ∙ is) }
        by_unit (Some r) e = planned_by u (ordered l.main (length rs) u (got_inside rs u r e))

  pub ranked : (rank : ℕ → ℕ) → ((u v : ℕ) → Leads rs u v → rank v < rank u) → IsRanked rs (linkage_of l) (lines_in l) (plan_at (lines_in l) (order_in l)) (initial_of l) (bound_of l) rank others (all_formats (lines_in l) (order_in l))
  ranked rank falls = record {
    linked = linkage l finish whole t;
    codes = λ u r here. ap lines_or here;
    sound = sound;
    formats = formats;
    there = there;
    distinct = distinct l.main (length rs);
    called = called;
    results = results;
    ranks = falls;
    laid = λ u m. (let r = there u m in laid l t u r.0 r.1 (sound u r.0 r.1));
    planned = planned rank;
    below = below l finish whole t;
    initial = initial l finish whole t;
  }
