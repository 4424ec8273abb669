-- A unit and one that says the same but for a spare variable: dimensions, ties and presets are the same, and mentions, declarations and
-- names of blocks but for the spare name.
use Rattle.std.proofs.Common.{◌≡◌, ◌⊎◌, inl, inr, ℕ, Bool, true, false, true≢false, List, [], ◌∷◌, map, Option, None, Some, refl, sym, ap, ◌∙◌, subst}
use Rattle.std.specs.Prelude.{◌||◌, if◌then◌else◌}
use Rattle.std.specs.List.{list_any}
use Rattle.std.specs.Str.{bytes_eq}
use Rattle.f66_tree.specs.Syntax.{Text, Act, Typed, Dimension, Common, Line, Routine}
use Rattle.f66_tree.specs.Units.{Note, Context, is_note, notes_of, sizes_of}
use Rattle.f66_program.specs.Mentions.{Mention, context_of, mentions_in, mentioned, declares}
use Rattle.f66_program.specs.Association.{Filled, not_filled, act_filled, unit_ties}
use Rattle.f66_program.specs.Initial.{line_presets}
use Rattle.f66_program.specs.Linking.{names_block, unit_names_block}
use Rattle.spared_units.specs.Spared.{with_spare, mentions_of_lines, is_spare, Spared}
use Rattle.spared_units.proofs.Among.{Among, among, contained, of_some, in_all, passing, passes}
use Rattle.spared_units.proofs.SameSizes.{each_same, halves, act_mentioned, act_tied, act_ended, act_preset}
use Rattle.spared_units.proofs.Notes.{note_ties, lines_tied, unparted, note_presets, lines_preset}

-- ---- what a spare declaration leaves as it is ----

plain_sizes : (o : Option Text) (x : Text) (notes : List Note) → sizes_of x (with_spare o notes) ≡ sizes_of x notes
plain_sizes None x notes = refl
plain_sizes (Some y) x notes = by_name (bytes_eq x y)
  where
    by_name : (v : Bool) → (if v then sizes_of x notes else sizes_of x notes) ≡ sizes_of x notes
    by_name true = refl
    by_name false = refl

plain_ties : (o : Option Text) (u : ℕ) (c : Context) (f : Filled) (notes : List Note) → note_ties u c f (with_spare o notes) ≡ note_ties u c f notes
plain_ties None u c f notes = refl
plain_ties (Some y) u c f notes = refl

plain_presets : (o : Option Text) (u : ℕ) (c : Context) (notes : List Note) → note_presets u c (with_spare o notes) ≡ note_presets u c notes
plain_presets None u c notes = refl
plain_presets (Some y) u c notes = refl

-- ---- tests of declarations ----

-- what no statement that is executed passes is asked of the others alone
module _ (test : Act → Bool) (only : (a : Act) → is_note a ≡ false → test a ≡ false) where
  note_tested : (l : Option ℕ) (a : Act) (notes : List Note) (v : Bool) → is_note a ≡ v → (test a || list_any (λ n. test n.act) notes) ≡ list_any (λ n. test n.act) (if v then (record { label = l; act = a } ∷ notes) else notes)
  note_tested l a notes true e = refl
  note_tested l a notes false e = ap (λ b. b || list_any (λ n. test n.act) notes) (only a e)

  pub noted : (lines : List Line) → list_any (λ s. test s.act) lines ≡ list_any (λ n. test n.act) (notes_of lines)
  noted [] = refl
  noted (s ∷ lines) = ap (λ b. test s.act || b) (noted lines) ∙ note_tested s.label s.act (notes_of lines) (is_note s.act) refl

pub declares_noted : (q : Text) (a : Act) → is_note a ≡ false → declares q a ≡ false
declares_noted q (Typed t ds) e = absurd (true≢false e)
declares_noted q (Dimension ds) e = absurd (true≢false e)
declares_noted q _ e = refl

block_noted : (b : Option Text) (a : Act) → is_note a ≡ false → names_block b a ≡ false
block_noted b (Common areas) e = absurd (true≢false e)
block_noted b _ e = refl

-- ---- mentions ----

pub mentioned_some : (test : Mention → Bool) (c : Context) (lines : List Line) → mentioned test c lines ≡ true → (m : Mention) × Among (mentions_of_lines c lines) m × (test m ≡ true)
mentioned_some test c lines e =
    let s = passing (λ s. list_any test (mentions_in c s.act)) lines e in
    let m = passing test (mentions_in c s.0.act) s.2 in
    (m.0, in_all (λ s. mentions_in c s.act) lines s.0 m.0 s.1 m.1, m.2)

pub some_mentioned : (test : Mention → Bool) (c : Context) (lines : List Line) (m : Mention) → Among (mentions_of_lines c lines) m → test m ≡ true → mentioned test c lines ≡ true
some_mentioned test c lines m h e =
    let k = of_some (λ s. mentions_in c s.act) lines m h in
    passes (λ s. list_any test (mentions_in c s.act)) lines k.0 k.1 (passes test (mentions_in c k.0.act) m k.2 e)

-- ---- both units ----

module _ (spare : Option Text) (s r : Routine) (h : Spared spare s r) where
  pub same_sizes : (x : Text) → sizes_of x (context_of r).notes ≡ sizes_of x (context_of s).notes
  same_sizes x = ap (sizes_of x) h.notes ∙ plain_sizes spare x (notes_of s.lines)

  notes_tied : (u : ℕ) (f : Filled) (notes : List Note) → note_ties u (context_of r) f notes ≡ note_ties u (context_of s) f notes
  notes_tied u f [] = refl
  notes_tied u f (n ∷ notes) =
      halves _ _ _ _ (act_tied (context_of r) (context_of s) same_sizes u f n.act)
      (ap (λ g. note_ties u (context_of r) g notes) (act_ended (context_of r) (context_of s) same_sizes f n.act) ∙ notes_tied u (act_filled (context_of s) f n.act) notes)

  pub same_ties : (u : ℕ) → unit_ties u r ≡ unit_ties u s
  same_ties u =
      lines_tied u (context_of r) not_filled r.lines ∙ ap (note_ties u (context_of r) not_filled) h.notes ∙ plain_ties spare u (context_of r) not_filled (notes_of s.lines)
      ∙ notes_tied u not_filled (notes_of s.lines) ∙ sym (lines_tied u (context_of s) not_filled s.lines)

  pub same_presets : (u : ℕ) → map unparted (line_presets u 0 (context_of r) r.lines) ≡ map unparted (line_presets u 0 (context_of s) s.lines)
  same_presets u =
      lines_preset u 0 (context_of r) r.lines ∙ ap (note_presets u (context_of r)) h.notes ∙ plain_presets spare u (context_of r) (notes_of s.lines)
      ∙ each_same _ _ (λ n. act_preset (context_of r) (context_of s) same_sizes u 0 n.act) (notes_of s.lines) ∙ sym (lines_preset u 0 (context_of s) s.lines)

  pub same_mentions : (lines : List Line) → mentions_of_lines (context_of r) lines ≡ mentions_of_lines (context_of s) lines
  same_mentions lines = each_same _ _ (λ t. act_mentioned (context_of r) (context_of s) same_sizes t.act) lines

  pub heard : (m : Mention) → Among (mentions_of_lines (context_of r) r.lines) m → is_spare spare m ⊎ Among (mentions_of_lines (context_of s) s.lines) m
  heard m k = elim (h.heard m (contained (mentions_of_lines (context_of r) r.lines) m k)) [
    | inl e ↦ inl e
    | inr c ↦ inr (subst (λ ms. Among ms m) (same_mentions s.lines) (among (mentions_of_lines (context_of r) s.lines) m c))
  ]

  pub told : (m : Mention) → Among (mentions_of_lines (context_of s) s.lines) m → Among (mentions_of_lines (context_of r) r.lines) m
  told m k =
      among (mentions_of_lines (context_of r) r.lines) m
      (h.told m (contained (mentions_of_lines (context_of r) s.lines) m (subst (λ ms. Among ms m) (sym (same_mentions s.lines)) k)))

  -- a block is named in both
  pub same_blocks : (b : Option Text) → unit_names_block b r ≡ unit_names_block b s
  same_blocks b =
      noted (names_block b) (block_noted b) r.lines ∙ ap (list_any (λ n. names_block b n.act)) h.notes ∙ by_spare spare ∙ sym (noted (names_block b) (block_noted b) s.lines)
    where
      by_spare : (o : Option Text) → list_any (λ n. names_block b n.act) (with_spare o (notes_of s.lines)) ≡ list_any (λ n. names_block b n.act) (notes_of s.lines)
      by_spare None = refl
      by_spare (Some y) = refl

  -- a declaration of s is one of r
  pub declared_too : (q : Text) → list_any (λ t. declares q t.act) s.lines ≡ true → list_any (λ t. declares q t.act) r.lines ≡ true
  declared_too q e =
      noted (declares q) (declares_noted q) r.lines ∙ ap (list_any (λ n. declares q n.act)) h.notes ∙ by_spare spare (sym (noted (declares q) (declares_noted q) s.lines) ∙ e)
    where
      by_name : (v w : Bool) → w ≡ true → (v || w) ≡ true
      by_name true w e = refl
      by_name false w e = e

      by_spare : (o : Option Text) → list_any (λ n. declares q n.act) (notes_of s.lines) ≡ true → list_any (λ n. declares q n.act) (with_spare o (notes_of s.lines)) ≡ true
      by_spare None k = k
      by_spare (Some y) k = by_name (bytes_eq q y || false) _ k
