-- The unit that a unit becomes breaks no rule on order, labels and DO ranges.
use Rattle.std.proofs.Common.{◌≡◌, ℕ, zero, suc, ◌+◌, ◌≤◌, ◌<◌, Bool, true, false, true≢false, List, [], ◌∷◌, Option, refl, sym, ap, ◌∙◌, subst, arith}
use Rattle.std.specs.Prelude.{is_some}
use Rattle.std.specs.List.{list_all}
use Rattle.ground.specs.declared.place.Place.{Place}
use Rattle.f66_tree.specs.Fields.{Fields}
use Rattle.f66_tree.specs.Syntax.{Header, Text, Act, Line}
use Rattle.f66_tree.specs.Units.{is_main, name_of, Note, notes_of, format_of}
use Rattle.f66_flow.specs.Acts.{formats_named}
use Rattle.rat_tree.specs.Syntax.{Commands}
use Rattle.rat_lower.specs.Code.{have_switch, all_labels, all_code, ends_itself, end_unless, declared_if, unit_code}
use Rattle.rat_lower.specs.Notes.{notes_of_unit}
use Rattle.rat_lower.specs.Checked.{all_given, IsChecked}
use Rattle.rat_lower.proofs.Simulation.Counts.{occurs, occurs-all, ends, ends-all, all_heads, all_dos}
use Rattle.rat_lower.proofs.Simulation.Labels.{AreUnique, Within, within_self, within_cons}
use Rattle.rat_lower.proofs.Simulation.Distinct.{distinct, count-all, span, Made, span_made}
use Rattle.rat_lower.proofs.Simulation.Notes.{notes_ended}
use Rattle.rat_lower.proofs.Soundness.Targets.{AllLead, ListsLead, lists_more, lead_all}
use Rattle.rat_lower.proofs.Soundness.Kept.{AllSay, AllSayGood, good_unit}
use Rattle.rat_lower.proofs.Soundness.FormatsNamed.{IsFormatted, formatted_keeps, formatted_values, formats_named_right}
use Rattle.rat_lower.proofs.Soundness.Early.{Early, not_late}
use Rattle.rat_lower.proofs.Soundness.FlowRules.{IsPlaced, Orderly, KeepsFlow, flow_kept}

-- ---- formats ----

say_more : (Good Better : Act → Type 0) (code : List Line) → ((a : Act) → Better a → Good a) → AllSay Better code → AllSay Good code
say_more Good Better [] f h = tt
say_more Good Better (s ∷ rest) f h = (f s.act h.0, say_more Good Better rest f h.1)

-- formats are the same where each label has the same one
formatted_alike : (notes others : List Note) → ((l : ℕ) → format_of l others ≡ format_of l notes) → (a : Act) → IsFormatted notes a → IsFormatted others a
formatted_alike notes others same a h = ap (λ (f : ℕ → Option Fields). list_all (λ l. is_some (f l)) (formats_named a)) (λ i l. same l i) ∙ h

-- the declaration of the spare name gives none
declared_formats : (l : ℕ) (b : Bool) (p : Place) (spare : Text) (code : List Line) → format_of l (notes_of (declared_if b p spare code)) ≡ format_of l (notes_of code)
declared_formats l true p spare code = refl
declared_formats l false p spare code = refl

-- ---- the unit ----

module _ (h : Header) (made : ℕ → ℕ) (spare : Text) (first last : Place) (ss : Commands) (checked : IsChecked made spare h ss) (given_ranged : (l : ℕ) → 1 ≤ all_given l ss → (1 ≤ l) × (l ≤ 99999)) (made_ranged : (i : ℕ) → i < all_labels ss → (1 ≤ made i) × (made i ≤ 99999))
    (early1 : (v : Bool) → Early false (all_code made spare (name_of h) ss 0 [] (end_unless (is_main h) v last))) (formatted : AllSayGood (IsFormatted (notes_of_unit ss)) (name_of h) ss) (placed : AllSay (IsPlaced h) (unit_code made spare h first last ss))
    (finished : ends_itself h (unit_code made spare h first last ss) ≡ true) where
  abbrev own : Text
  own = name_of h

  abbrev added : Bool
  added = ends_itself h (all_code made spare own ss 0 [] [])

  abbrev stop : List Line
  stop = end_unless (is_main h) added last

  abbrev code1 : List Line
  code1 = all_code made spare own ss 0 [] stop

  abbrev code : List Line
  code = unit_code made spare h first last ss

  -- the label of a DO's last statement
  abbrev IsEnd : ℕ → Type 0
  IsEnd q = all_heads made q ss 0 ≡ 0

  once : (l : ℕ) → all_heads made l ss 0 + all_dos made l ss 0 ≤ 1
  once l = distinct made checked.rises ss checked.unused checked.once l

  no_stop : (m v : Bool) (l : ℕ) → (occurs l (end_unless m v last) ≡ 0) × (ends l (end_unless m v last) ≡ 0)
  no_stop true true l = (refl, refl)
  no_stop true false l = (refl, refl)
  no_stop false true l = (refl, refl)
  no_stop false false l = (refl, refl)

  -- the declaration has no label and is no DO
  undeclared : (v : Bool) (l : ℕ) → (occurs l (declared_if v first spare code1) ≡ occurs l code1) × (ends l (declared_if v first spare code1) ≡ ends l code1)
  undeclared true l = (omega arith, omega arith)
  undeclared false l = (refl, refl)

  all_occur : (l : ℕ) → occurs l code ≡ all_heads made l ss 0 + all_dos made l ss 0
  all_occur l = omega (arith, (undeclared (have_switch ss) l).0, occurs-all made spare own l ss 0 [] stop checked.built, (no_stop (is_main h) added l).0)

  all_end : (l : ℕ) → ends l code ≡ all_dos made l ss 0
  all_end l = omega (arith, (undeclared (have_switch ss) l).1, ends-all made spare own l ss 0 [] stop checked.built, (no_stop (is_main h) added l).1)

  unique : AreUnique code
  unique l = omega (arith, all_occur l, once l)

  is_end : (q : ℕ) → 1 ≤ ends q code → IsEnd q
  is_end q h = omega (arith, all_end q, once q, h)

  within : (v : Bool) → Within code1 (declared_if v first spare code1)
  within true = within_cons _ (within_self code1)
  within false = within_self code1

  lists : ListsLead code unique IsEnd (ss ∷ []) stop
  lists = lists_more code unique IsEnd made spare own ss 0 [] stop [] checked.built (λ q h. h) (within (have_switch ss)) (λ m e. absurd (true≢false (sym e)))

  stop_leads : (m v : Bool) → AllLead code unique IsEnd (end_unless m v last)
  stop_leads true true = tt
  stop_leads true false = (record { targets = tt; ending = tt }, tt)
  stop_leads false true = tt
  stop_leads false false = (record { targets = tt; ending = tt }, tt)

  code1_leads : AllLead code unique IsEnd code1
  code1_leads = lead_all code unique IsEnd made spare own ss 0 0 [] (ss ∷ []) stop checked.built checked.fits checked.lands (λ q h. h) (λ k lt. absurd (omega (arith, lt))) lists (within (have_switch ss)) (stop_leads (is_main h) added)

  code_leads : AllLead code unique IsEnd code
  code_leads = by (have_switch ss)
    where
      by : (v : Bool) → AllLead code unique IsEnd (declared_if v first spare code1)
      by true = (record { targets = tt; ending = tt }, code1_leads)
      by false = code1_leads

  label_range : (l : ℕ) → 1 ≤ occurs l code → (1 ≤ l) × (l ≤ 99999)
  label_range l h = by (span made l 0 (all_labels ss)) refl
    where
      total : occurs l code ≡ all_given l ss + span made l 0 (all_labels ss)
      total = all_occur l ∙ count-all made l ss 0

      by : (n : ℕ) → span made l 0 (all_labels ss) ≡ n → (1 ≤ l) × (l ≤ 99999)
      by zero e = given_ranged l (omega (arith, total, e, h))
      by (suc n) e =
          let m : Made made l 0 (all_labels ss) = span_made made l 0 (all_labels ss) (omega (arith, e)) in
          subst (λ k. (1 ≤ k) × (k ≤ 99999)) m.is (made_ranged m.index (omega (arith, m.below)))

  same_formats : (l : ℕ) → format_of l (notes_of code) ≡ format_of l (notes_of_unit ss)
  same_formats l = declared_formats l (have_switch ss) first spare code1 ∙ ap (format_of l) (notes_ended made spare own ss (is_main h) added last)

  code1_formatted : AllSay (IsFormatted (notes_of_unit ss)) code1
  code1_formatted = good_unit (IsFormatted (notes_of_unit ss)) made spare own (formatted_keeps (notes_of_unit ss)) ss (is_main h) added last (λ e. refl) (λ e. formatted_values (notes_of_unit ss) spare) formatted

  code_formatted : AllSay (IsFormatted (notes_of code)) code
  code_formatted = say_more (IsFormatted (notes_of code)) (IsFormatted (notes_of_unit ss)) code (formatted_alike (notes_of_unit ss) (notes_of code) same_formats) (by (have_switch ss))
    where
      by : (v : Bool) → AllSay (IsFormatted (notes_of_unit ss)) (declared_if v first spare code1)
      by true = (refl, code1_formatted)
      by false = code1_formatted

  code_early : Early false code
  code_early = by (have_switch ss)
    where
      by : (v : Bool) → Early false (declared_if v first spare code1)
      by true = (refl, early1 added)
      by false = early1 added

  orderly : Orderly h code
  orderly = record {
    once = λ l. omega (arith, all_end l, once l);
    ranged = label_range;
    early = not_late code code_early;
    formats = formats_named_right code unique code code_formatted;
    placed = placed;
    last = finished;
  }

  pub unit_flow : KeepsFlow h code
  unit_flow = flow_kept code unique IsEnd is_end h orderly code_leads
