-- The formats of statements and of units, put one behind the other.
use Rattle.std.proofs.Common.{◌≡◌, ◌++◌, ℕ, ◌+◌, ◌<◌, ◌≤◌, List, [], ◌∷◌, length, map, All, refl, ap, sym, subst, ◌∙◌, append_assoc, drop, get_or}
use Rattle.std.proofs.lemmas.List.{append-nil, drop_all}
use Rattle.std.proofs.lemmas.List.Elements.{All-nil, All-cons, All-head, All-tail}
use Rattle.f66_tree.specs.declared.statement.Stmt.{Stmt}
use Rattle.f66_tree.specs.Fields.{Fields}
use Rattle.f66_tree.specs.Syntax.{Act, Format}
use Rattle.f66_tree.specs.Views.{act_of, lines_of}
use Rattle.format_io.specs.Places.{depth}
use Rattle.code_gen.specs.Layout.{Layout}
use Rattle.code_emit.specs.Plans.{all_formats, format_then, formats_in}
use Rattle.code_emit.specs.Units.{unit_formats}
use Rattle.code_emit.proofs.ListLemmas.{drop_at}

abbrev pub AreShallow : List Fields → Type 0
AreShallow fs = All (λ f. depth f ≤ 2) fs

split : (a : Act) (rest : List Fields) → format_then a rest ≡ format_then a [] ++ rest
split (Format fs) rest = refl
split _ rest = refl

first_shallow : (a : Act) (rest : List Fields) → AreShallow (format_then a rest) → AreShallow (format_then a [])
first_shallow (Format fs) rest all = All-cons (λ f. depth f ≤ 2) fs [] (All-head (λ f. depth f ≤ 2) fs rest all) (All-nil (λ f. depth f ≤ 2))
first_shallow _ rest all = All-nil (λ f. depth f ≤ 2)

rest_shallow : (a : Act) (rest : List Fields) → AreShallow (format_then a rest) → AreShallow rest
rest_shallow (Format fs) rest all = All-tail (λ f. depth f ≤ 2) fs rest all
rest_shallow _ rest all = all

-- one statement more
module _ (all : List Stmt) (i : ℕ) (s : Stmt) (within : i < length all) (here : s ≡ get_or all i s) where
  abbrev rest : List Fields
  rest = formats_in (lines_of (drop (i + 1) all))

  from_here : formats_in (lines_of (drop i all)) ≡ format_then (act_of s.kind) rest
  from_here = ap (λ ss. formats_in (lines_of ss)) (drop_at all i s within here)

  pub statement_shallow : AreShallow (formats_in (lines_of (drop i all))) → AreShallow (format_then (act_of s.kind) [])
  statement_shallow shallow = first_shallow (act_of s.kind) rest (subst AreShallow from_here shallow)

  pub statements_shallow : AreShallow (formats_in (lines_of (drop i all))) → AreShallow rest
  statements_shallow shallow = rest_shallow (act_of s.kind) rest (subst AreShallow from_here shallow)

  pub formats_next : (old new whole : List Fields) → new ≡ old ++ format_then (act_of s.kind) [] → old ++ formats_in (lines_of (drop i all)) ≡ whole → new ++ rest ≡ whole
  formats_next old new whole put before =
      ap (λ z. z ++ rest) put ∙ append_assoc old (format_then (act_of s.kind) []) rest ∙ ap (λ z. old ++ z) (sym (split (act_of s.kind) rest)) ∙ ap (λ z. old ++ z) (sym from_here) ∙ before

pub formats_end : (all : List Stmt) (i : ℕ) (old whole : List Fields) → length all ≤ i → old ++ formats_in (lines_of (drop i all)) ≡ whole → old ≡ whole
formats_end all i old whole past before = sym (append-nil old) ∙ ap (λ ss. old ++ formats_in (lines_of ss)) (sym (drop_all i all past)) ∙ before

-- one unit more
module _ {A : Type 0} (layout : A → Layout) (number : A → ℕ) where
  abbrev pub UnitShallow : A → Type 0
  UnitShallow v = AreShallow (formats_in ((layout v).lines (number v)))

  module _ (all : List A) (i : ℕ) (v : A) (within : i < length all) (here : v ≡ get_or all i v) where
    pub unit_shallow : All UnitShallow (drop i all) → AreShallow (formats_in ((layout v).lines (number v)))
    unit_shallow shallow = All-head UnitShallow v (drop (i + 1) all) (subst (All UnitShallow) (drop_at all i v within here) shallow)

    pub units_shallow : All UnitShallow (drop i all) → All UnitShallow (drop (i + 1) all)
    units_shallow shallow = All-tail UnitShallow v (drop (i + 1) all) (subst (All UnitShallow) (drop_at all i v within here) shallow)

    pub unit_next : (old new whole : List Fields) → new ≡ old ++ formats_in ((layout v).lines (number v)) → old ++ unit_formats layout number (drop i all) ≡ whole → new ++ unit_formats layout number (drop (i + 1) all) ≡ whole
    unit_next old new whole put before =
        ap (λ z. z ++ unit_formats layout number (drop (i + 1) all)) put
        ∙ append_assoc old (formats_in ((layout v).lines (number v))) (unit_formats layout number (drop (i + 1) all))
        ∙ ap (λ vs. old ++ unit_formats layout number vs) (sym (drop_at all i v within here))
        ∙ before

  pub units_end : (all : List A) (i : ℕ) (old whole : List Fields) → length all ≤ i → old ++ unit_formats layout number (drop i all) ≡ whole → old ≡ whole
  units_end all i old whole past before = sym (append-nil old) ∙ ap (λ vs. old ++ unit_formats layout number vs) (sym (drop_all i all past)) ∙ before

  pub formats_in_one : (y : Layout) (vs : List A) → All (λ v. layout v ≡ y) vs → unit_formats layout number vs ≡ all_formats y.lines (map number vs)
  formats_in_one y [] same = refl
  formats_in_one y (v ∷ vs) same =
      ap (λ z. formats_in (z.lines (number v)) ++ unit_formats layout number vs) (All-head (λ w. layout w ≡ y) v vs same)
      ∙ ap (λ fs. formats_in (y.lines (number v)) ++ fs) (formats_in_one y vs (All-tail (λ w. layout w ≡ y) v vs same))
