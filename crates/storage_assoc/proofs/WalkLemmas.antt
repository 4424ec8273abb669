-- One statement more.
use Rattle.std.proofs.Common.{◌≡◌, ◌<◌, ◌≤◌, ℕ, suc, List, [], ◌∷◌, ◌++◌, length, map, take, drop, slice_index, Option, sym, ◌∙◌, ap, refl, arith, append_assoc, inl, inr, length-append}
use Rattle.std.proofs.lemmas.Grind.{common_steps}
use Rattle.std.proofs.lemmas.Bool.{cases_lt}
use Rattle.std.proofs.lemmas.List.{append-nil, map-append, get_or_append_left, get_or_push, take-append-le, length_push}
use Rattle.std.proofs.lemmas.List.Elements.{All-nil, All-cons, All-append, All-contains, All-weaker, Contains-push, Contains-append_left, All-contains_itself}
use Rattle.std.specs.List.{All, Contains}
use Rattle.std.proofs.Math.Seq.{take-length}
use Rattle.f66_tree.specs.Syntax.{Text, Par, Area, Formula, Common, Equivalence, Line}
use Rattle.f66_tree.specs.Units.{Context}
use Rattle.f66_program.specs.Association.{Row, Filled, not_filled, act_ties, act_filled, line_ties}
use Rattle.offset_classes.specs.declared.link.Link.{Link}
use Rattle.storage_assoc.specs.Indexing.{link_by}
use Rattle.storage_assoc.specs.Lists.{AreasLinked}
use Rattle.storage_assoc.specs.Groups.{GroupsLinked}
use Rattle.storage_assoc.specs.Walks.{IsActTabled, ActLinked, lines_filled, LinesLinked}

pub line_ties-push : (u : ℕ) (c : Context) (f : Filled) (lines : List Line) (s : Line) → line_ties u c f (lines ++ s ∷ []) ≡ line_ties u c f lines ++ act_ties u c (lines_filled c f lines) s.act
line_ties-push u c f [] s = append-nil (act_ties u c f s.act)
line_ties-push u c f (t ∷ lines) s =
    ap (λ ts. act_ties u c f t.act ++ ts) (line_ties-push u c (act_filled c f t.act) lines s) ∙ sym (append_assoc (act_ties u c f t.act) _ _)

pub lines_filled-push : (c : Context) (f : Filled) (lines : List Line) (s : Line) → lines_filled c f (lines ++ s ∷ []) ≡ act_filled c (lines_filled c f lines) s.act
lines_filled-push c f [] s = refl
lines_filled-push c f (t ∷ lines) s = lines_filled-push c (act_filled c f t.act) lines s

module _ (find blocks : Text → Option ℕ) (dims : Text → Option (List Par)) (sizes : List ℕ) where
  pub commons_act : (areas : List Area) (fills fills' : List ℕ) (old new : List Link) → AreasLinked find blocks sizes areas fills fills' old new →
      ActLinked find blocks dims sizes (Common areas) fills fills' old new
  commons_act areas fills fills' old new h u c rows index f tabled filled = h u c rows index f tabled filled

  pub groups_act : (groups : List (List Formula)) (fills : List ℕ) (old new : List Link) → GroupsLinked find dims groups old new →
      ActLinked find blocks dims sizes (Equivalence groups) fills fills old new
  groups_act groups fills old new h u c rows index f tabled filled = (h u c index tabled, filled)

  pub no_lines : (fills : List ℕ) → ((i : ℕ) → slice_index fills i ≡ 0) → LinesLinked find blocks dims sizes [] fills [] []
  no_lines fills zeros u c rows index all = record {
    links_are = refl;
    up_to = λ i i_in. absurd (omega (arith, i_in));
    filled = λ q q_listed. zeros (index (Row.Block q));
    many = refl;
    within = All-nil _;
    rising = λ i j le j_in. absurd (omega (arith, j_in));
  }

  pub lines_more : (lines : List Line) (s : Line) (fills fills' : List ℕ) (now new : List Link) (counts : List ℕ) → LinesLinked find blocks dims sizes lines fills now counts →
      ActLinked find blocks dims sizes s.act fills fills' now new → LinesLinked find blocks dims sizes (lines ++ s ∷ []) fills' new (counts ++ length new ∷ [])
  lines_more lines s fills fills' now new counts h a u c rows index all =
      let P : Line → Type 0 = λ s. IsActTabled u c rows index find blocks dims sizes s.act in
      let before : All P lines = All-weaker (Contains lines) P (λ x w. All-contains P (lines ++ s ∷ []) x all (Contains-append_left lines (s ∷ []) x w)) lines (All-contains_itself lines) in
      let here = All-contains P (lines ++ s ∷ []) s all (Contains-push lines s) in
      let w = h u c rows index before in
      let k = a u c rows index (lines_filled c not_filled lines) here w.filled in
      let more = map (link_by index) (act_ties u c (lines_filled c not_filled lines) s.act) in
      let grown : length now ≤ length new = (let l = length-append now more in rw k.0 (omega (arith, l))) in
      let whole : new ≡ map (link_by index) (line_ties u c not_filled (lines ++ s ∷ [])) =
      k.0 ∙ ap (λ ls. ls ++ more) w.links_are ∙ sym (ap (map (link_by index)) (line_ties-push u c not_filled lines s) ∙ map-append (link_by index) (line_ties u c not_filled lines) _) in
      let long = length_push lines s in
      let long' = length_push counts (length new) in
      let m = w.many in
      let kept : (i : ℕ) → i < length counts → slice_index (counts ++ length new ∷ []) i ≡ slice_index counts i = λ i l. get_or_append_left counts (length new ∷ []) 0 i l in
      let last : (i : ℕ) → length counts ≡ i → slice_index (counts ++ length new ∷ []) i ≡ length new = λ i e. get_or_push counts (length new) 0 i e in
      let inside : (i : ℕ) → i < length counts → slice_index counts i ≤ length now = λ i l. w.within i 0 l in
      record {
        links_are = whole;
        up_to = λ i i_in. elim (cases_lt i (length counts)) [
          | inl l ↦
              let l' : i < length lines = rw m at l in
              rw (kept i l, take-append-le (suc i) lines (s ∷ []) l') (rw k.0 (take-append-le (slice_index counts i) now more (inside i l) ∙ w.up_to i l'))
          | inr l ↦
              let e : length counts ≡ i = omega (arith, i_in, l, long, m) in
              let e' : suc i ≡ length (lines ++ s ∷ []) = omega (arith, e, long, m) in
              let full : take (suc i) (lines ++ s ∷ []) ≡ lines ++ s ∷ [] = ap (λ n. take n (lines ++ s ∷ [])) e' ∙ take-length (lines ++ s ∷ []) in
              rw (last i e, full) (take-length new ∙ whole)
        ];
        filled = rw (lines_filled-push c not_filled lines s) k.1;
        many = (let t : length (counts ++ length new ∷ []) ≡ length (lines ++ s ∷ []) = omega (arith, long, long', m) in t);
        within = All-append (λ n. n ≤ length new) counts (length new ∷ []) (All-weaker (λ n. n ≤ length now) (λ n. n ≤ length new) (λ n m. omega (arith, m, grown)) counts w.within) (All-cons (λ n. n ≤ length new) (length new) [] (omega arith) (All-nil _));
        rising = λ i j le j_in. elim (cases_lt j (length counts)) [
          | inl l ↦ rw (kept i (omega (arith, l, le)), kept j l) (w.rising i j le l)
          | inr l ↦ elim (cases_lt i (length counts)) [
            | inl k ↦ (let b = inside i k in rw (kept i k, last j (omega (arith, l, j_in, long'))) (omega (arith, b, grown)))
            | inr k ↦ rw (last i (omega (arith, k, le, j_in, long')), last j (omega (arith, l, j_in, long'))) (omega arith)
          ]
        ];
      }

pub whole_written : {X : Type 0} (xs ys : List X) (n : ℕ) → n ≡ length ys → length xs ≡ n → take n (xs ++ drop (length xs) ys) ≡ xs
whole_written xs ys n e f = grind (arith, common_steps)
