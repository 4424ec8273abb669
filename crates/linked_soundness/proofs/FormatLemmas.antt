-- Where a label names a FORMAT, as the rules of labels ask of a READ or WRITE, a run finds that FORMAT.
use Rattle.std.proofs.Common.{◌≡◌, ℕ, Bool, true, false, true≢false, cond, Option, Some, None, List, [], ◌∷◌, refl, sym, subst}
use Rattle.std.specs.Prelude.{is_some, not, if◌then◌else◌}
use Rattle.std.specs.List.{list_any}
use Rattle.std.proofs.lemmas.Bool.{or_parts}
use Rattle.rule_table.specs.Words.{is_some_and}
use Rattle.f66_tree.specs.Syntax.{Act, When, Read, Write, Format, Line}
use Rattle.f66_tree.specs.Units.{Note, is_note, notes_of, format_of}
use Rattle.f66_tree.specs.Execution.{has_label}
use Rattle.f66_tree.proofs.Tries.{if_both}
use Rattle.f66_flow.specs.Acts.{is_format, formats_named}
use Rattle.f66_flow.specs.Ranges.{named}
use Rattle.f66_flow.specs.FlowRules.{names_no_format}
use Rattle.f66_soundness.specs.SoundUnits.{finds_format}

-- the first statement with the label, where it stands in front and is a FORMAT, or stands behind
front_format : (l : ℕ) (label : Option ℕ) (a : Act) (notes : List Note) → has_label l label ≡ true → not (is_format a) ≡ false →
    is_some (format_of l (if is_note a then (record { label = label; act = a } ∷ notes) else notes)) ≡ true
front_format l None a notes e h = absurd (true≢false (sym e))
front_format l (Some m) (Format f) notes e h = subst (λ b. is_some (if b then Some f else format_of l notes) ≡ true) (sym e) refl
front_format l (Some m) _ notes e h = absurd (true≢false h)

later_format : (l : ℕ) (label : Option ℕ) (a : Act) (notes : List Note) → has_label l label ≡ false → is_some (format_of l notes) ≡ true →
    is_some (format_of l (if is_note a then (record { label = label; act = a } ∷ notes) else notes)) ≡ true
later_format l None a notes e h = if_both (λ ns. is_some (format_of l ns) ≡ true) (is_note a) (record { label = None; act = a } ∷ notes) notes h h
later_format l (Some m) (Format f) notes e h = subst (λ b. is_some (if b then Some f else format_of l notes) ≡ true) (sym e) h
later_format l (Some m) _ notes e h = h

format_there : (l : ℕ) (lines : List Line) → names_no_format lines l ≡ false → is_some (format_of l (notes_of lines)) ≡ true
format_there l [] h = absurd (true≢false h)
format_there l (s ∷ rest) h = by_label (has_label l s.label) refl (format_there l rest) h
  where
    by_label : (b : Bool) → has_label l s.label ≡ b → (names_no_format rest l ≡ false → is_some (format_of l (notes_of rest)) ≡ true) → not (is_some_and (λ t. is_format t.act) (cond b (Some s) (named rest l))) ≡ false →
        is_some (format_of l (if is_note s.act then (record { label = s.label; act = s.act } ∷ notes_of rest) else notes_of rest)) ≡ true
    by_label true e later k = front_format l s.label s.act (notes_of rest) e k
    by_label false e later k = later_format l s.label s.act (notes_of rest) e (later k)

pub formats_there : (lines : List Line) (a : Act) → list_any (names_no_format lines) (formats_named a) ≡ false → finds_format (notes_of lines) a ≡ true
formats_there lines (Read u l es) h = format_there l lines (or_parts (names_no_format lines l) _ h).0
formats_there lines (Write u l es) h = format_there l lines (or_parts (names_no_format lines l) _ h).0
formats_there lines (When e a) h = formats_there lines a h
formats_there lines _ h = refl
