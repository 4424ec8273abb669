-- What is so of units is so of those that say the same in brief, and what links in brief links.
use Rattle.std.proofs.Common.{◌≡◌, ◌≤◌, ◌+◌, inl, inr, ℕ, Bool, true, false, true≢false, List, [], ◌∷◌, ◌++◌, length, map, take, get_or, None, Some, refl, sym, ap, ◌∙◌, subst, arith}
use Rattle.std.specs.Prelude.{◌<◌, ◌^◌, if◌then◌else◌}
use Rattle.std.specs.List.{All, AllByRecursion}
use Rattle.std.proofs.lemmas.List.{map-append}
use Rattle.std.proofs.lemmas.List.Elements.{All-nil, All-cons, All-head, All-tail, All-map, All-from_recursion, recursion_from_All}
use Rattle.f66_tree.specs.declared.unit.Unit.{Unit as AUnit}
use Rattle.f66_tree.specs.Syntax.{Text, Formula, Ref, Item, Act, Common, Equivalence, Line, Routine}
use Rattle.f66_tree.specs.Units.{Note, is_note, notes_of}
use Rattle.f66_tree.specs.Views.{routine_of}
use Rattle.f66_program.specs.Mentions.{context_of, has_places}
use Rattle.f66_program.specs.Association.{AreBad, IsBadUnit, HasUnits, size_in}
use Rattle.f66_program.specs.Linking.{IsWhole}
use Rattle.storage_assoc.specs.Naming.{IsMemberReady, IsActReady, IsReady}
use Rattle.spared_units.specs.Spared.{Spared, Twins, ones, others}
use Rattle.spared_units.proofs.Units.{same_ties}
use Rattle.spared_units.proofs.Places.{places_too, places_back, same_size}
use Rattle.spared_units.proofs.TwinUnits.{twins_link}
use Rattle.rat_tree.specs.declared.program.RatUnit.{RatUnit}
use Rattle.rat_tree.specs.Syntax.{RatRoutine, RatProgram}
use Rattle.rat_tree.specs.Views.{rat_routine_of}
use Rattle.rat_said.specs.Said.{said_routine}
use Rattle.rat_link.specs.Briefs.{AreBriefs}
use Rattle.rat_link.specs.Linking.{AreClean, IsAccepted, most_of_text}
use Rattle.rat_link.proofs.CheckLemmas.{said_more, unmapped}
use Rattle.rat_link.proofs.ReadyLemmas.{said_is_ready}

-- ---- declarations ----

module _ (P : Act → Type 0) where
  -- what holds of all statements holds of the declarations
  to_notes : (lines : List Line) → AllByRecursion (λ s. P s.act) lines → AllByRecursion (λ n. P n.act) (notes_of lines)
  to_notes [] h = tt
  to_notes (s ∷ lines) h = by_answer (record { label = s.label; act = s.act }) (is_note s.act) h.0 (notes_of lines) (to_notes lines h.1)
    where
      by_answer : (n : Note) (v : Bool) → P n.act → (notes : List Note) → AllByRecursion (λ n. P n.act) notes → AllByRecursion (λ n. P n.act) (if v then (n ∷ notes) else notes)
      by_answer n true first notes rest = (first, rest)
      by_answer n false first notes rest = rest

  -- and what holds of those, and of all that is executed, holds of all
  of_notes : ((a : Act) → is_note a ≡ false → P a) → (lines : List Line) → AllByRecursion (λ n. P n.act) (notes_of lines) → AllByRecursion (λ s. P s.act) lines
  of_notes f [] h = tt
  of_notes f (s ∷ lines) h = by_answer (record { label = s.label; act = s.act }) (is_note s.act) refl (notes_of lines) h (of_notes f lines)
    where
      by_answer : (n : Note) (v : Bool) → is_note n.act ≡ v → (notes : List Note) → AllByRecursion (λ n. P n.act) (if v then (n ∷ notes) else notes) →
          (AllByRecursion (λ n. P n.act) notes → AllByRecursion (λ s. P s.act) lines) → P n.act × AllByRecursion (λ s. P s.act) lines
      by_answer n true e notes k behind = (k.0, behind k.1)
      by_answer n false e notes k behind = (f n.act e, behind k)

not_tied : (r : Routine) (a : Act) → is_note a ≡ false → IsActReady r a
not_tied r (Common areas) e = absurd (true≢false e)
not_tied r (Equivalence groups) e = absurd (true≢false e)
not_tied r _ e = tt

-- ---- one unit ----

module _ (s b : Routine) (same : Spared None s b) where
  -- the association of the one is bad where that of the other is
  pub brief_well : ¬ IsBadUnit s → ¬ IsBadUnit b
  brief_well good bad = good (subst AreBad (same_ties None s b same 0) bad)

  pub said_well : ¬ IsBadUnit b → ¬ IsBadUnit s
  said_well good bad = good (subst AreBad (sym (same_ties None s b same 0)) bad)

  member : (e : Formula) → IsMemberReady s e → IsMemberReady b e
  member (Ref x) h = places_too None s b same x h
  member (Item x es) h = places_too None s b same x h
  member _ h = tt

  act : (a : Act) → IsActReady s a → IsActReady b a
  act (Common areas) h = λ i d lt j x k. places_too None s b same _ (h i d lt j x k)
  act (Equivalence groups) h = λ i d lt j x k. member _ (h i d lt j x k)
  act _ h = tt

  tied : All (λ l. IsActReady s l.act) s.lines → All (λ l. IsActReady b l.act) b.lines
  tied h =
      let there : All (λ l. IsActReady b l.act) s.lines = λ i l lt. act (get_or s.lines i l).act (h i l lt) in
      let notes = to_notes (IsActReady b) s.lines (recursion_from_All (λ l. IsActReady b l.act) s.lines there) in
      All-from_recursion (λ l. IsActReady b l.act) b.lines (of_notes (IsActReady b) (not_tied b) b.lines (subst (AllByRecursion (λ n. IsActReady b n.act)) (sym same.notes) notes))

  small : ((x : Text) → has_places s x ≡ true → size_in (context_of s) x < 2 ^ 16) → (x : Text) → has_places b x ≡ true → size_in (context_of b) x < 2 ^ 16
  small h x e = elim (places_back None s b same x e) [
    | inl k ↦ absurd (let none : None ≡ Some x = k in cc)
    | inr k ↦ subst (λ n. n < 2 ^ 16) (sym (same_size None s b same x)) (h x k)
  ]

  pub brief_ready : IsReady s → IsReady b
  brief_ready r = record { tied = tied r.tied; small = small r.small }

-- ---- units ----

pub no_briefs : AreBriefs [] []
no_briefs = ([], refl, refl)

pub brief_more : (said briefs : List Routine) (s b : Routine) → Spared None s b → AreBriefs said briefs → AreBriefs (said ++ s ∷ []) (briefs ++ b ∷ [])
brief_more said briefs s b same are =
    let t : Twins = record { one = s; other = b; same = same } in (
      are.0 ++ t ∷ [],
      map-append (λ u. u.one) are.0 (t ∷ []) ∙ ap (λ rs. rs ++ s ∷ []) are.1,
      map-append (λ u. u.other) are.0 (t ∷ []) ∙ ap (λ rs. rs ++ b ∷ []) are.2,
    )

pub one_brief : (briefs : List AUnit) (one : AUnit) (units : List RatUnit) (i : ℕ) (u : RatUnit) → i < length units → u ≡ get_or units i u → AreBriefs (map said_routine (map rat_routine_of (take i units))) (map routine_of briefs) →
    Spared None (said_routine (rat_routine_of u)) (routine_of one) → AreBriefs (map said_routine (map rat_routine_of (take (i + 1) units))) (map routine_of (briefs ++ one ∷ []))
one_brief briefs one units i u lt is are same =
    subst (AreBriefs (map said_routine (map rat_routine_of (take (i + 1) units)))) (sym (map-append routine_of briefs (one ∷ [])))
    (subst (λ rs. AreBriefs rs (map routine_of briefs ++ routine_of one ∷ [])) (sym (said_more units i u lt is)) (brief_more _ _ (said_routine (rat_routine_of u)) (routine_of one) same are))

module _ (P : Routine → Type 0) (f : (s b : Routine) → Spared None s b → P s → P b) where
  each_other : (ts : List Twins) → All P (ones ts) → All P (others ts)
  each_other [] h = All-nil P
  each_other (t ∷ ts) h = All-cons P t.other (others ts) (f t.one t.other t.same (All-head P t.one (ones ts) h)) (each_other ts (All-tail P t.one (ones ts) h))

  -- what is so of each unit without a fault is so of what it says in brief
  each_brief : (us : List RatRoutine) (briefs : List AUnit) → AreBriefs (map said_routine us) (map routine_of briefs) → All (λ u. P (said_routine u)) us → All (λ b. P (routine_of b)) briefs
  each_brief us briefs are h = unmapped P routine_of briefs (subst (All P) are.2 (each_other are.0 (subst (All P) (sym are.1) (All-map P said_routine us h))))

module _ (us : List RatRoutine) (briefs : List AUnit) (are : AreBriefs (map said_routine us) (map routine_of briefs)) (clean : AreClean us) where
  pub ready_briefs : All (λ b. IsReady (routine_of b)) briefs
  ready_briefs = each_brief IsReady brief_ready us briefs are (λ i u lt. said_is_ready (get_or us i u) (clean i u lt).rules)

  pub well_briefs : All (λ b. ¬ IsBadUnit (routine_of b)) briefs
  well_briefs = each_brief (λ r. ¬ IsBadUnit r) brief_well us briefs are (λ i u lt. (clean i u lt).well)

-- ---- a program ----

pub briefly_accepted : (p : RatProgram) (briefs : List Routine) (total : ℕ) → AreBriefs (map said_routine p.routines) briefs → AreClean p.routines →
    HasUnits briefs total → total ≤ most_of_text → IsWhole (record { units = briefs; finish = p.finish }) → IsAccepted p
briefly_accepted p briefs total are clean has few whole =
    let ts = are.0 in
    let well : All (λ r. ¬ IsBadUnit r) (ones ts) = subst (All (λ r. ¬ IsBadUnit r)) (sym are.1) (All-map (λ r. ¬ IsBadUnit r) said_routine p.routines (λ i u lt. (clean i u lt).well)) in
    let good : All (λ t. ¬ IsBadUnit t.one) ts = unmapped (λ r. ¬ IsBadUnit r) (λ t. t.one) ts well in
    let linked = twins_link ts p.finish total good (subst (λ rs. HasUnits rs total) (sym are.2) has) (omega (arith, few)) (subst (λ rs. IsWhole (record { units = rs; finish = p.finish })) (sym are.2) whole) in
    record {
      units = clean;
      linked = record {
        few = (total, subst (λ rs. HasUnits rs total) are.1 linked.0, few);
        whole = subst (λ rs. IsWhole (record { units = rs; finish = p.finish })) are.1 linked.1;
      };
    }
