-- The number of a label's format leads to the format, in the plans of all units.
use Rattle.std.proofs.Common.{◌≡◌, cond, ℕ, zero, suc, ◌+◌, Bool, true, false, nat_eq, List, [], ◌∷◌, ◌++◌, length, Option, Some, None, slice_get, unwrap_or, refl, ap, sym, ◌∙◌, arith}
use Rattle.f66_tree.specs.Fields.{Fields}
use Rattle.f66_tree.specs.Syntax.{Act, Format, Line}
use Rattle.f66_tree.specs.Units.{Note, notes_of, format_by, format_of, is_note}
use Rattle.code_gen.specs.Layout.{Layout}
use Rattle.code_gen.specs.Behaves.{HavePlans}
use Rattle.code_emit.specs.Plans.{find_plan, format_count, format_then, formats_in, plan_by, plan_in}

-- a label's format has a number, and is the format there
abbrev IsFound : Option ℕ → ℕ → List Fields → Fields → Type 0
IsFound o n fs f = (k : ℕ) × ((o ≡ Some (n + k)) × (slice_get fs k ≡ Some f))

module _ (l n : ℕ) (rest : List Line) (f : Fields) where
  here_or_later : (b : Bool) (fs : Fields) → cond b (Some fs) (format_of l (notes_of rest)) ≡ Some f → (format_of l (notes_of rest) ≡ Some f → IsFound (find_plan l (n + 1) rest) (n + 1) (formats_in rest) f) →
      IsFound (cond b (Some n) (find_plan l (n + 1) rest)) n (fs ∷ formats_in rest) f
  here_or_later true fs is more = (let none : n ≡ n + 0 = omega arith in (0, (ap Some none, is)))
  here_or_later false fs is more =
      let found = more is in
      let next : (n + 1) + found.0 ≡ n + suc found.0 = omega arith in
      (suc found.0, (found.1.0 ∙ ap Some next, found.1.1))

  later : (fs : Fields) → IsFound (find_plan l (n + 1) rest) (n + 1) (formats_in rest) f → IsFound (find_plan l (n + 1) rest) n (fs ∷ formats_in rest) f
  later fs found =
      let next : (n + 1) + found.0 ≡ n + suc found.0 = omega arith in
      (suc found.0, (found.1.0 ∙ ap Some next, found.1.1))

  passed : IsFound (find_plan l (n + 0) rest) (n + 0) (formats_in rest) f → IsFound (find_plan l (n + 0) rest) n (formats_in rest) f
  passed found =
      let next : (n + 0) + found.0 ≡ n + found.0 = omega arith in
      (found.0, (found.1.0 ∙ ap Some next, found.1.1))

  found_by : (o : Option ℕ) (a : Act) → format_by l o a (format_of l (notes_of rest)) ≡ Some f →
      (format_of l (notes_of rest) ≡ Some f → IsFound (find_plan l (n + format_count a) rest) (n + format_count a) (formats_in rest) f) → IsFound (plan_by l o a n (find_plan l (n + format_count a) rest)) n (format_then a (formats_in rest)) f
  found_by (Some m) (Format fs) is more = here_or_later (nat_eq m l) fs is more
  found_by None (Format fs) is more = later fs (more is)
  found_by (Some m) _ is more = passed (more is)
  found_by None _ is more = passed (more is)

module _ (l : ℕ) (o : Option ℕ) (a : Act) (notes : List Note) where
  abbrev note : Note
  note = record { label = o; act = a }

  noted_or_not : (b : Bool) → format_by l o a (format_of l notes) ≡ format_of l notes → format_of l (cond b (note ∷ notes) notes) ≡ format_by l o a (format_of l notes)
  noted_or_not true none = refl
  noted_or_not false none = sym none

noted : (l : ℕ) (o : Option ℕ) (a : Act) (notes : List Note) → format_of l (cond (is_note a) ((let it : Note = record { label = o; act = a } in it) ∷ notes) notes) ≡ format_by l o a (format_of l notes)
noted l o (Format fs) notes = refl
noted l (Some m) a notes = noted_or_not l (Some m) a notes (is_note a) refl
noted l None a notes = noted_or_not l None a notes (is_note a) refl

found : (l n : ℕ) (lines : List Line) (f : Fields) → format_of l (notes_of lines) ≡ Some f → IsFound (find_plan l n lines) n (formats_in lines) f
found l n [] f is = (cc)
found l n (s ∷ rest) f is = found_by l n rest f s.label s.act (sym (noted l s.label s.act (notes_of rest)) ∙ is) (found l (n + format_count s.act) rest f)

-- among the formats of all units
front : (fs after : List Fields) (k : ℕ) (f : Fields) → slice_get fs k ≡ Some f → slice_get (fs ++ after) k ≡ Some f
front [] after k f is = (cc)
front (g ∷ fs) after zero f is = is
front (g ∷ fs) after (suc k) f is = front fs after k f is

among : (before fs after : List Fields) (k : ℕ) (f : Fields) → slice_get fs k ≡ Some f → slice_get (before ++ (fs ++ after)) (length before + k) ≡ Some f
among [] fs after k f is = (let none : 0 + k ≡ k = omega arith in ap (slice_get (fs ++ after)) none ∙ front fs after k f is)
among (g ∷ before) fs after k f is =
    let next : length (g ∷ before) + k ≡ suc (length before + k) = omega arith in
    ap (slice_get (g ∷ (before ++ (fs ++ after)))) next ∙ among before fs after k f is

pub plan_found : (l : ℕ) (before after : List Fields) (lines : List Line) (f : Fields) → format_of l (notes_of lines) ≡ Some f → slice_get (before ++ (formats_in lines ++ after)) (plan_in (length before) lines l) ≡ Some f
plan_found l before after lines f is =
    let k = found l (length before) lines f is in
    ap (λ o. slice_get (before ++ (formats_in lines ++ after)) (unwrap_or o 0)) k.1.0 ∙ among before (formats_in lines) after k.0 f k.1.1

-- a unit whose formats stand behind those of other units
pub have_plans : (y : Layout) (u : ℕ) (before after : List Fields) → (y.linked.context u).notes ≡ notes_of (y.lines u) → ((l : ℕ) → y.plan u l ≡ plan_in (length before) (y.lines u) l) → HavePlans y u (before ++ (formats_in (y.lines u) ++ after))
have_plans y u before after notes plans = record {
  by = λ l f is. ap (slice_get (before ++ (formats_in (y.lines u) ++ after))) (plans l) ∙ plan_found l before after (y.lines u) f (ap (format_of l) (sym notes) ∙ is);
}
