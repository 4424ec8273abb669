-- What a unit of Ratfor became says what it says, but for a spare variable.
use Rattle.std.proofs.Common.{◌≡◌, ◌⊎◌, inl, inr, Bool, true, false, List, [], ◌∷◌, Option, Some, None, refl, sym, ap, ◌∙◌, subst, append-nil}
use Rattle.std.specs.List.{AllByRecursion, Contains}
use Rattle.ground.specs.declared.place.Place.{Place}
use Rattle.f66_tree.specs.Syntax.{Text, Header, Line, Routine}
use Rattle.f66_tree.specs.Units.{Context, is_main, name_of, notes_of}
use Rattle.f66_program.specs.Mentions.{Mention, AVariable, context_of, mentions_in}
use Rattle.rat_tree.specs.Syntax.{RatRoutine}
use Rattle.rat_check.specs.Parts.{no_label, Part, with_labels, unit_parts}
use Rattle.rat_lower.specs.Code.{have_switch, all_code, ends_itself, end_unless, declared_if}
use Rattle.rat_lower.proofs.Simulation.Notes.{notes_ended}
use Rattle.rat_said.specs.Said.{said_lines, said_routine}
use Rattle.spared_units.specs.Spared.{with_spare, mentions_of_lines, is_spare, LacksIfAny, Spared, Pair}
use Rattle.spared_units.proofs.Among.{Among, among, contained, of_some, in_all}
use Rattle.rat_linked.specs.Made.{IsProper, IsMadeOf}
use Rattle.rat_linked.proofs.Parts.{every, one_of, in_lines, of_lines}
use Rattle.rat_linked.proofs.Forth.{Says, Lines, all_forth, end_forth}
use Rattle.rat_linked.proofs.Back.{Told, all_back}
use Rattle.rat_linked.proofs.Notes.{all_noted}

-- the spare name of a unit, which has one where a switch stands in it
abbrev pub spare_if : Bool → Text → Option Text
spare_if true y = Some y
spare_if false y = None

module _ (u : RatRoutine) (r : Routine) (m : IsMadeOf u r) where
  abbrev h : Header
  h = u.header

  abbrev vs : List Part
  vs = unit_parts u.body

  abbrev spare : Option Text
  spare = spare_if (have_switch u.body) m.spare

  -- the statements behind the declaration of the spare name
  abbrev last : List Line
  last = end_unless (is_main h) (ends_itself h (all_code m.made m.spare (name_of h) u.body 0 [] [])) m.finish

  abbrev code : List Line
  code = all_code m.made m.spare (name_of h) u.body 0 [] last

  -- ---- declarations ----

  declared : (v : Bool) (p : Place) (lines : List Line) → notes_of (declared_if v p m.spare lines) ≡ with_spare (spare_if v m.spare) (notes_of lines)
  declared true p lines = refl
  declared false p lines = refl

  notes : notes_of r.lines ≡ with_spare spare (notes_of (said_lines h vs))
  notes =
      ap notes_of m.code.is ∙ declared (have_switch u.body) u.place code
      ∙ ap (with_spare spare)
      (notes_ended m.made m.spare (name_of h) u.body (is_main h) (ends_itself h (all_code m.made m.spare (name_of h) u.body 0 [] [])) m.finish
      ∙ all_noted h u.body 0 (with_labels u.body no_label) m.proper [] ∙ append-nil (notes_of (said_lines h vs)))

  -- ---- mentions ----

  module _ (c : Context) where
    -- what the declaration mentions is nothing
    mentions_declared : (v : Bool) (p : Place) (lines : List Line) → mentions_of_lines c (declared_if v p m.spare lines) ≡ mentions_of_lines c lines
    mentions_declared true p lines = refl
    mentions_declared false p lines = refl

    mentions : mentions_of_lines c r.lines ≡ mentions_of_lines c code
    mentions = ap (mentions_of_lines c) m.code.is ∙ mentions_declared (have_switch u.body) u.place code

    abbrev Heard : Mention → Type 0
    Heard k = is_spare spare k ⊎ Among (mentions_of_lines c (said_lines h vs)) k

    spare_heard : (v : Bool) → v ≡ true → is_spare (spare_if v m.spare) (AVariable m.spare)
    spare_heard true e = refl
    spare_heard false e = absurd (cc)

    proper_says : (ws : List Part) → AllByRecursion (IsProper h) ws → ((v : Part) → Among ws v → Among vs v) → AllByRecursion (Says h c Heard) ws
    proper_says [] w f = tt
    proper_says (v ∷ ws) w f = ((every (λ a. (k : Mention) → Among (mentions_in c a) k → Heard k) _ (λ a i k j. inr (in_lines h c vs v a k (f v (inl refl)) i j)), w.0), proper_says ws w.1 (λ x i. f x (inr i)))

    all_heard : Lines h c Heard code
    all_heard =
        all_forth h c Heard m.made m.spare u.body 0 (with_labels u.body no_label) 0 [] last (λ e. inl (spare_heard (have_switch u.body) e)) (proper_says vs m.proper (λ v i. i))
        (end_forth h c Heard m.made m.spare (is_main h) (ends_itself h (all_code m.made m.spare (name_of h) u.body 0 [] [])) m.finish)

    heard : (k : Mention) → Contains (mentions_of_lines c r.lines) k → is_spare spare k ⊎ Contains (mentions_of_lines c (said_lines h vs)) k
    heard k i =
        let s = of_some (λ t. mentions_in c t.act) code k (subst (λ ms. Among ms k) mentions (among (mentions_of_lines c r.lines) k i)) in
        elim (one_of (λ t. (n : Mention) → Among (mentions_in c t.act) n → Heard n) code s.0 all_heard s.1 k s.2) [
          | inl e ↦ inl e
          | inr j ↦ inr (contained (mentions_of_lines c (said_lines h vs)) k j)
        ]

    abbrev InCode : Mention → Type 0
    InCode k = Among (mentions_of_lines c code) k

    all_told : AllByRecursion (Told h c InCode m.made m.spare) vs
    all_told =
        (all_back h c InCode m.made m.spare u.body 0 (with_labels u.body no_label) 0 [] last m.proper
        (every (λ t. (n : Mention) → Among (mentions_in c t.act) n → InCode n) code (λ t i n j. in_all (λ t. mentions_in c t.act) code t n i j))).0

    told : (k : Mention) → Contains (mentions_of_lines c (said_lines h vs)) k → Contains (mentions_of_lines c r.lines) k
    told k i =
        let s = of_lines h c vs k (among (mentions_of_lines c (said_lines h vs)) k i) in
        let t = one_of (Told h c InCode m.made m.spare) vs s.0 all_told s.1 in
        contained (mentions_of_lines c r.lines) k (subst (λ ms. Among ms k) (sym mentions) (one_of (λ a. (n : Mention) → Among (mentions_in c a) n → InCode n) _ s.2.0 t s.2.1 k s.2.2))

  -- ---- all ----

  lacks : (v : Bool) → have_switch u.body ≡ v → LacksIfAny (said_routine u) (spare_if v m.spare)
  lacks true e = m.lacks e
  lacks false e = tt

  pub spared : Spared spare (said_routine u) r
  spared = record { header = m.header; notes = notes; heard = heard (context_of r); told = told (context_of r); lacks = lacks (have_switch u.body) refl }

  abbrev pub pair : Pair
  pair = record { spare = spare; said = said_routine u; made = r; spared = spared }
