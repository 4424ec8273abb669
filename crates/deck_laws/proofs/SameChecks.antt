-- The checks of a unit ask for no places: a unit whose statements stand elsewhere breaks the same rules.
use Rattle.std.proofs.Common.{◌≡◌, ℕ, zero, suc, ◌+◌, Bool, true, false, cond, List, [], ◌∷◌, map, Option, Some, None, refl, sym, ap, ◌∙◌}
use Rattle.std.specs.Prelude.{nat_lt, not, ◌==◌, ◌&&◌, ◌||◌, is_none}
use Rattle.std.specs.List.{list_any, find, slice_get, AllByRecursion}
use Rattle.std.specs.Option.{option_map, option_or}
use Rattle.rule_table.specs.declared.rule.Rule.{Rule}
use Rattle.rule_table.specs.declared.rule.Rule.TheVariants.{Syntax, BadLabel, DoNesting}
use Rattle.rule_table.specs.Words.{first_place, last_place, is_some_and, is_below, is_number}
use Rattle.f66_tree.specs.Syntax.{Header, Act, Loop, Line, Routine}
use Rattle.f66_tree.specs.Execution.{has_label}
use Rattle.f66_tree.specs.Units.{Context}
use Rattle.f66_names.specs.Declaring.{context_by}
use Rattle.f66_flow.specs.Acts.{is_executable, is_specification, is_data, is_format, is_misplaced, needs_executable, is_transfer, ends_no_range, branches, formats_named}
use Rattle.f66_flow.specs.FlowRules.{is_late, lacks_transfer, has_bad_label, leads_nowhere, names_no_format, leads_wrong, has_no_end, ends_wrong, overlaps, enters_at, enters, nests_wrong, is_whole, has_wrong_label, breaks_flow, header_breaks_flow}
use Rattle.f66_flow.specs.Ranges.{label_place, named, place_or_zero, range_end, range_ends, end_at, holds, some_below}
use Rattle.f66_flow.specs.declared.scope.Scope.{Scope}
use Rattle.f66_flow.specs.declared.scope.Scope.TheVariants.{Whole}
use Rattle.f66_soundness.specs.SoundUnits.{acts_in_unit}
use Rattle.unit_rules.specs.Heads.{breaks_header}
use Rattle.unit_rules.specs.UnitRules.{breaks_rule}
use Rattle.f66_check.specs.Answers.{IsFaultless, IsSoundUnit}
use Rattle.f66_check.specs.UnitChecks.{breaks_statement, breaks_piece, breaks_unit}
use Rattle.card_reader.specs.Reading.{at}
use Rattle.deck_laws.specs.Places.{card_behind, lines_at, end_behind, lines_begin, units_at}

-- a statement at no card
abbrev moved : Line → Line
moved line = record { label = line.label; place = at 0; act = line.act }

-- ---- lists of statements ----

first_same : (p : Line → Bool) → ((s : Line) → p (moved s) ≡ p s) → (lines : List Line) → first_place p (map moved lines) ≡ first_place p lines
first_same p same [] = refl
first_same p same (s ∷ lines) =
    ap (λ (b : Bool). cond b (Some 0) (option_map (λ n. n + 1) (first_place p (map moved lines)))) (same s) ∙ ap (λ (o : Option ℕ). cond (p s) (Some 0) (option_map (λ n. n + 1) o)) (first_same p same lines)

last_same : (p : Line → Bool) → ((s : Line) → p (moved s) ≡ p s) → (lines : List Line) → last_place p (map moved lines) ≡ last_place p lines
last_same p same [] = refl
last_same p same (s ∷ lines) =
    ap (λ (b : Bool). option_or (option_map (λ n. n + 1) (last_place p (map moved lines))) (cond b (Some 0) None)) (same s) ∙ ap (λ (o : Option ℕ). option_or (option_map (λ n. n + 1) o) (cond (p s) (Some 0) None)) (last_same p same lines)

found_same : (p q : Line → Bool) → ((s : Line) → p (moved s) ≡ p s) → ((s : Line) → q (moved s) ≡ q s) → (lines : List Line) → is_some_and q (find p (map moved lines)) ≡ is_some_and q (find p lines)
found_same p q one two [] = refl
found_same p q one two (s ∷ lines) = ap (λ (b : Bool). is_some_and q (cond b (Some (moved s)) (find p (map moved lines)))) (one s) ∙ by (found_same p q one two lines) (p s)
  where
    by : is_some_and q (find p (map moved lines)) ≡ is_some_and q (find p lines) → (b : Bool) → is_some_and q (cond b (Some (moved s)) (find p (map moved lines))) ≡ is_some_and q (cond b (Some s) (find p lines))
    by rest true = two s
    by rest false = rest

got_same : (p q : Line → Bool) → ((s : Line) → p (moved s) ≡ q s) → (lines : List Line) (i : ℕ) → is_some_and p (slice_get (map moved lines) i) ≡ is_some_and q (slice_get lines i)
got_same p q same [] i = refl
got_same p q same (s ∷ lines) zero = same s
got_same p q same (s ∷ lines) (suc i) = got_same p q same lines i

map_same : (f g : Line → ℕ) → ((s : Line) → f (moved s) ≡ g s) → (lines : List Line) → map f (map moved lines) ≡ map g lines
map_same f g same [] = refl
map_same f g same (s ∷ lines) = ap (λ (n : ℕ). n ∷ map f (map moved lines)) (same s) ∙ ap (λ (ns : List ℕ). g s ∷ ns) (map_same f g same lines)

acts_same : (lines : List Line) → acts_in_unit (map moved lines) ≡ acts_in_unit lines
acts_same [] = refl
acts_same (s ∷ lines) = ap (λ (acts : List Act). s.act ∷ acts) (acts_same lines)

any_same : (f g : ℕ → Bool) → ((n : ℕ) → f n ≡ g n) → (ns : List ℕ) → list_any f ns ≡ list_any g ns
any_same f g same [] = refl
any_same f g same (n ∷ ns) = ap (λ (b : Bool). b || list_any f ns) (same n) ∙ ap (λ (b : Bool). g n || b) (any_same f g same ns)

both_same : (a b c d : Bool) → a ≡ c → b ≡ d → (a || b) ≡ (c || d)
both_same a b c d one two = ap (λ (x : Bool). x || b) one ∙ ap (λ (x : Bool). c || x) two

-- ---- labels ----

label_same : (lines : List Line) (l : ℕ) → label_place (map moved lines) l ≡ label_place lines l
label_same lines l = first_same (λ s. has_label l s.label) (λ s. refl) lines

named_same : (q : Line → Bool) → ((s : Line) → q (moved s) ≡ q s) → (lines : List Line) (l : ℕ) → is_some_and q (named (map moved lines) l) ≡ is_some_and q (named lines l)
named_same q same lines l = found_same (λ s. has_label l s.label) q (λ s. refl) same lines

bad_label_same : (lines : List Line) (i : ℕ) (s : Line) → has_bad_label (map moved lines) i (moved s) ≡ has_bad_label lines i s
bad_label_same lines i s = by s.label
  where
    by : (o : Option ℕ) → is_some_and (λ l. l == 0 || (nat_lt 99999 l || is_below i (label_place (map moved lines) l))) o ≡ is_some_and (λ l. l == 0 || (nat_lt 99999 l || is_below i (label_place lines l))) o
    by None = refl
    by (Some l) = ap (λ (o : Option ℕ). l == 0 || (nat_lt 99999 l || is_below i o)) (label_same lines l)

nowhere_same : (lines : List Line) (l : ℕ) → leads_nowhere (map moved lines) l ≡ leads_nowhere lines l
nowhere_same lines l = ap not (named_same (λ s. is_executable s.act) (λ s. refl) lines l)

no_format_same : (lines : List Line) (l : ℕ) → names_no_format (map moved lines) l ≡ names_no_format lines l
no_format_same lines l = ap not (named_same (λ s. is_format s.act) (λ s. refl) lines l)

wrong_same : (lines : List Line) (a : Act) → leads_wrong (map moved lines) a ≡ leads_wrong lines a
wrong_same lines a =
    both_same (list_any (leads_nowhere (map moved lines)) (branches a)) (list_any (names_no_format (map moved lines)) (formats_named a)) (list_any (leads_nowhere lines) (branches a)) (list_any (names_no_format lines) (formats_named a))
    (any_same (leads_nowhere (map moved lines)) (leads_nowhere lines) (nowhere_same lines) (branches a))
    (any_same (names_no_format (map moved lines)) (names_no_format lines) (no_format_same lines) (formats_named a))

no_end_same : (lines : List Line) (a : Act) → has_no_end (map moved lines) a ≡ has_no_end lines a
no_end_same lines (Loop l x a b c) = nowhere_same lines l
no_end_same lines _ = refl

-- ---- DO ranges ----

range_same : (lines : List Line) (a : Act) → range_end (map moved lines) a ≡ range_end lines a
range_same lines (Loop l x a b c) = ap place_or_zero (label_same lines l)
range_same lines _ = refl

ends_same : (lines : List Line) → range_ends (map moved lines) ≡ range_ends lines
ends_same lines = map_same (λ s. range_end (map moved lines) s.act) (λ s. range_end lines s.act) (λ s. range_same lines s.act) lines

ends_wrong_same : (lines : List Line) (i : ℕ) (a : Act) → ends_wrong (map moved lines) i a ≡ ends_wrong lines i a
ends_wrong_same lines i (Loop l x a b c) =
    ap (λ (o : Option ℕ). not (is_some_and (λ t. nat_lt i t) o) || is_some_and (λ t. ends_no_range t.act) (named (map moved lines) l)) (label_same lines l)
    ∙ ap (λ (v : Bool). not (is_some_and (λ t. nat_lt i t) (label_place lines l)) || v) (named_same (λ t. ends_no_range t.act) (λ t. refl) lines l)
ends_wrong_same lines i _ = refl

overlaps_same : (lines : List Line) (i : ℕ) (a : Act) → overlaps (map moved lines) i a ≡ overlaps lines i a
overlaps_same lines i a =
    ap (λ (ends : List ℕ). some_below i (λ d. holds ends d i && nat_lt (end_at ends d) (range_end (map moved lines) a))) (ends_same lines)
    ∙ ap (λ (n : ℕ). some_below i (λ d. holds (range_ends lines) d i && nat_lt (end_at (range_ends lines) d) n)) (range_same lines a)

enters_same : (lines : List Line) (i l : ℕ) → enters (map moved lines) i l ≡ enters lines i l
enters_same lines i l = ap (λ (o : Option ℕ). is_some_and (enters_at (map moved lines) i) o) (label_same lines l) ∙ by (label_place lines l)
  where
    by : (o : Option ℕ) → is_some_and (enters_at (map moved lines) i) o ≡ is_some_and (enters_at lines i) o
    by None = refl
    by (Some t) = ap (λ (ends : List ℕ). some_below t (λ d. holds ends d t && not (holds ends d i))) (ends_same lines)

nests_same : (lines : List Line) (i : ℕ) (a : Act) → nests_wrong (map moved lines) i a ≡ nests_wrong lines i a
nests_same lines i a =
    both_same (ends_wrong (map moved lines) i a) (overlaps (map moved lines) i a || list_any (enters (map moved lines) i) (branches a)) (ends_wrong lines i a) (overlaps lines i a || list_any (enters lines i) (branches a))
    (ends_wrong_same lines i a)
    (both_same (overlaps (map moved lines) i a) (list_any (enters (map moved lines) i) (branches a)) (overlaps lines i a) (list_any (enters lines i) (branches a))
    (overlaps_same lines i a) (any_same (enters (map moved lines) i) (enters lines i) (enters_same lines i) (branches a)))

-- ---- rules ----

late_same : (lines : List Line) (i : ℕ) (a : Act) → is_late (map moved lines) i a ≡ is_late lines i a
late_same lines i a =
    ap (λ (o : Option ℕ). is_specification a && (is_below i o || is_below i (first_place (λ s. is_data s.act) (map moved lines)))) (first_same (λ s. is_executable s.act) (λ s. refl) lines)
    ∙ ap (λ (o : Option ℕ). is_specification a && (is_below i (first_place (λ s. is_executable s.act) lines) || is_below i o)) (first_same (λ s. is_data s.act) (λ s. refl) lines)

lacks_same : (lines : List Line) (i : ℕ) (a : Act) → lacks_transfer (map moved lines) i a ≡ lacks_transfer lines i a
lacks_same lines i a = ap (λ (o : Option ℕ). is_number i o && not (is_transfer a)) (last_same (λ s. is_executable s.act) (λ s. refl) lines)

wrong_label_same : (w : Scope) (lines : List Line) (i : ℕ) (s : Line) → has_wrong_label w (map moved lines) i (moved s) ≡ has_wrong_label w lines i s
wrong_label_same w lines i s =
    both_same (has_bad_label (map moved lines) i (moved s)) (leads_wrong (map moved lines) s.act || (is_whole w && has_no_end (map moved lines) s.act)) (has_bad_label lines i s) (leads_wrong lines s.act || (is_whole w && has_no_end lines s.act))
    (bad_label_same lines i s)
    (both_same (leads_wrong (map moved lines) s.act) (is_whole w && has_no_end (map moved lines) s.act) (leads_wrong lines s.act) (is_whole w && has_no_end lines s.act) (wrong_same lines s.act) (ap (λ (b : Bool). is_whole w && b) (no_end_same lines s.act)))

flow_same : (w : Scope) (h : Header) (lines : List Line) (i : ℕ) (s : Line) (k : Rule) → breaks_flow w h (map moved lines) i (moved s) k ≡ breaks_flow w h lines i s k
flow_same w h lines i s Syntax =
    ap (λ (b : Bool). is_misplaced h s.act || b)
    (both_same (is_late (map moved lines) i s.act) (is_whole w && lacks_transfer (map moved lines) i s.act) (is_late lines i s.act) (is_whole w && lacks_transfer lines i s.act) (late_same lines i s.act) (ap (λ (b : Bool). is_whole w && b) (lacks_same lines i s.act)))
flow_same w h lines i s BadLabel = wrong_label_same w lines i s
flow_same w h lines i s DoNesting = ap (λ (b : Bool). is_whole w && b) (nests_same lines i s.act)
flow_same w h lines i s _ = refl

header_flow_same : (w : Scope) (h : Header) (lines : List Line) (k : Rule) → header_breaks_flow w h (map moved lines) k ≡ header_breaks_flow w h lines k
header_flow_same w h lines Syntax = ap (λ (o : Option ℕ). needs_executable h && (is_whole w && is_none o)) (first_same (λ s. is_executable s.act) (λ s. refl) lines)
header_flow_same w h lines _ = refl

piece_same : (w : Scope) (c : Context) (acts : List Act) (lines : List Line) (n : ℕ) (k : Rule) → breaks_piece w c acts (map moved lines) n k ≡ breaks_piece w c acts lines n k
piece_same w c acts lines zero k = ap (λ (b : Bool). b || breaks_header c k) (header_flow_same w c.header lines k)
piece_same w c acts lines (suc i) k =
    got_same (λ s. breaks_statement w c acts (map moved lines) i s k) (λ s. breaks_statement w c acts lines i s k) (λ s. ap (λ (b : Bool). b || breaks_rule c acts i s.act k) (flow_same w c.header lines i s k)) lines i

-- a unit with these statements
abbrev unit_with : Routine → List Line → ℕ → Routine
unit_with u lines n = record { header = u.header; lines = lines; place = at n }

breaks_same : (w : Scope) (u : Routine) (lines : List Line) (m n : ℕ) (k : Rule) → breaks_unit w (unit_with u (map moved lines) m) n k ≡ breaks_unit w (unit_with u lines m) n k
breaks_same w u lines m n k =
    ap (λ (acts : List Act). breaks_piece w (context_by u.header acts) acts (map moved lines) n k) (acts_same lines) ∙ piece_same w (context_by u.header (acts_in_unit lines)) (acts_in_unit lines) lines n k

-- ---- soundness ----

all_moved : (lines : List Line) (n : ℕ) → map moved (lines_at n lines) ≡ map moved lines
all_moved [] n = refl
all_moved (line ∷ lines) n = ap (λ (rest : List Line). moved line ∷ rest) (all_moved lines (card_behind n line))

-- other lines that are the same but for places
abbrev AreSame : List Line → List Line → Type 0
AreSame lines others = map moved lines ≡ map moved others

sound_by : (u : Routine) (lines others : List Line) (n : ℕ) → AreSame others lines → IsFaultless Whole (unit_with u lines n) → IsFaultless Whole (unit_with u others n)
sound_by u lines others n same is = record {
  clean = λ i k. sym (breaks_same Whole u others n i k) ∙ ap (λ (ls : List Line). breaks_unit Whole (unit_with u ls n) i k) same ∙ breaks_same Whole u lines n i k ∙ is.clean i k;
}

-- a unit's place is not asked for either
anywhere : (u : Routine) (n : ℕ) → IsSoundUnit u → IsFaultless Whole (unit_with u u.lines n)
anywhere u n is = record { clean = is.clean }

pub sound_again : (units : List Routine) (n : ℕ) → AllByRecursion IsSoundUnit units → AllByRecursion IsSoundUnit (units_at n units)
sound_again [] n all = tt
sound_again (unit ∷ units) n all =
    (sound_by unit unit.lines (lines_at (lines_begin n unit.header) unit.lines) n (all_moved unit.lines (lines_begin n unit.header)) (anywhere unit n all.0), sound_again units (end_behind (lines_begin n unit.header) unit.lines + 1) all.1)
