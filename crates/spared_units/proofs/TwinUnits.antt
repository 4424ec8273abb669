-- A program of units that say what others say has their storage units, and links where they do.
use Rattle.std.proofs.Common.{◌≡◌, inl, inr, ℕ, pos, ◌-ℤ◌, List, [], ◌∷◌, map, Option, None, refl, sym, ap, ◌∙◌, subst}
use Rattle.std.specs.Prelude.{◌↔◌}
use Rattle.std.specs.List.{All, Contains}
use Rattle.std.proofs.lemmas.List.Elements.{All-map}
use Rattle.ground.specs.declared.fault.FaultKind.{FaultKind}
use Rattle.f66_tree.specs.Syntax.{Text, Routine}
use Rattle.f66_program.specs.Mentions.{Mention, context_of}
use Rattle.f66_program.specs.Association.{Own, Tie, IsSame, ties_of, IsReal, IsNumbering, HasUnits, IsBadUnit}
use Rattle.f66_program.specs.Linking.{Part, Breaks, IsWhole}
use Rattle.program_storage.proofs.LimitLemmas.{all_small}
use Rattle.spared_units.specs.Spared.{mentions_of_lines, Spared, Pair, said_units, made_units, Twins, ones, others}
use Rattle.spared_units.specs.Laws.{TwinsLink}
use Rattle.spared_units.proofs.Places.{real_too}
use Rattle.spared_units.proofs.Programs.{tied}
use Rattle.spared_units.proofs.Rules.{broken}

-- ---- each says what the other says ----

same_context : (t : Twins) → context_of t.other ≡ context_of t.one
same_context t = ap (λ h. record { header = h; notes = (context_of t.other).notes }) t.same.header ∙ ap (λ ns. record { header = t.one.header; notes = ns }) t.same.notes

pub turned : (t : Twins) → Spared None t.other t.one
turned t = record { header = sym t.same.header; notes = sym t.same.notes; heard = λ m i. inr (heard m i); told = told; lacks = tt }
  where
    -- a mention in the one context is one in the other
    there : (r : Routine) (m : Mention) → Contains (mentions_of_lines (context_of t.one) r.lines) m → Contains (mentions_of_lines (context_of t.other) r.lines) m
    there r m i = subst (λ c. Contains (mentions_of_lines c r.lines) m) (sym (same_context t)) i

    back_again : (r : Routine) (m : Mention) → Contains (mentions_of_lines (context_of t.other) r.lines) m → Contains (mentions_of_lines (context_of t.one) r.lines) m
    back_again r m i = subst (λ c. Contains (mentions_of_lines c r.lines) m) (same_context t) i

    heard : (m : Mention) → Contains (mentions_of_lines (context_of t.one) t.one.lines) m → Contains (mentions_of_lines (context_of t.one) t.other.lines) m
    heard m i = back_again t.other m (t.same.told m (there t.one m i))

    told : (m : Mention) → Contains (mentions_of_lines (context_of t.one) t.other.lines) m → Contains (mentions_of_lines (context_of t.one) t.one.lines) m
    told m i = elim (t.same.heard m (there t.other m i)) [ inl e ↦ absurd e | inr j ↦ back_again t.one m j ]

-- ---- as pairs without a spare variable, both ways ----

abbrev forth : Twins → Pair
forth t = record { spare = None; said = t.one; made = t.other; spared = t.same }

abbrev back : Twins → Pair
back t = record { spare = None; said = t.other; made = t.one; spared = turned t }

ones_said : (ts : List Twins) → said_units (map forth ts) ≡ ones ts
ones_said [] = refl
ones_said (t ∷ ts) = ap (λ rs. t.one ∷ rs) (ones_said ts)

others_made : (ts : List Twins) → made_units (map forth ts) ≡ others ts
others_made [] = refl
others_made (t ∷ ts) = ap (λ rs. t.other ∷ rs) (others_made ts)

others_said : (ts : List Twins) → said_units (map back ts) ≡ others ts
others_said [] = refl
others_said (t ∷ ts) = ap (λ rs. t.other ∷ rs) (others_said ts)

ones_made : (ts : List Twins) → made_units (map back ts) ≡ ones ts
ones_made [] = refl
ones_made (t ∷ ts) = ap (λ rs. t.one ∷ rs) (ones_made ts)

-- ---- programs ----

module _ (ts : List Twins) where
  to_other : (u : ℕ) (x : Text) (o : ℕ) → IsReal (ones ts) u x o → IsReal (others ts) u x o
  to_other u x o r = subst (λ rs. IsReal rs u x o) (others_made ts) (real_too (map forth ts) u x o (subst (λ rs. IsReal rs u x o) (sym (ones_said ts)) r))

  to_one : (u : ℕ) (x : Text) (o : ℕ) → IsReal (others ts) u x o → IsReal (ones ts) u x o
  to_one u x o r = subst (λ rs. IsReal rs u x o) (ones_made ts) (real_too (map back ts) u x o (subst (λ rs. IsReal rs u x o) (sym (others_said ts)) r))

  same_ties : ties_of (others ts) ≡ ties_of (ones ts)
  same_ties = ap ties_of (sym (others_made ts)) ∙ tied (map forth ts) ∙ ap ties_of (ones_said ts)

  numbering : (number : ℕ → Text → ℕ → Option ℕ) (total : ℕ) → IsNumbering (others ts) number total → IsNumbering (ones ts) number total
  numbering number total v = record {
    real = λ u x o n is. to_one u x o (v.real u x o n is);
    below = λ u x o r. v.below u x o (to_other u x o r);
    onto = v.onto;
    same = λ u x o w y p r q.
        subst (λ (ties : List Tie). (number u x o ≡ number w y p) ↔ IsSame ties (Own u x) (Own w y) (pos p -ℤ pos o)) same_ties (v.same u x o w y p (to_other u x o r) (to_other w y p q));
  }

pub twins_link : TwinsLink
twins_link ts finish total good has few whole = (units, record { clean = clean })
  where
    units : HasUnits (ones ts) total
    units = (has.0, numbering ts has.0 total has.1)

    well : All (λ r. ¬ IsBadUnit r) (ones ts)
    well = All-map (λ r. ¬ IsBadUnit r) (λ t. t.one) ts good

    whole_said : IsWhole (record { units = said_units (map back ts); finish = finish })
    whole_said = subst (λ rs. IsWhole (record { units = rs; finish = finish })) (sym (others_said ts)) whole

    clean : (k : FaultKind) (q : Part) → ¬ Breaks k (record { units = ones ts; finish = finish }) q
    clean k q h = elim (broken (map back ts) finish k q (subst (λ rs. Breaks k (record { units = rs; finish = finish }) q) (sym (ones_made ts)) h)) [
      | inl b ↦ whole_said.clean k b.0 b.1
      | inr e ↦ all_small (record { units = ones ts; finish = finish }) well total units few q (subst (λ j. Breaks j (record { units = ones ts; finish = finish }) q) e h)
    ]
