-- A linkage of the units that a program became is one of what the program's units say, but for what names mean in each.
use Rattle.std.proofs.Common.{◌≡◌, inl, inr, ℕ, zero, suc, pos, ◌-ℤ◌, true, List, [], ◌∷◌, map, Some, refl, sym, ap, ◌∙◌, subst, append-nil}
use Rattle.std.specs.Prelude.{◌↔◌}
use Rattle.std.specs.List.{AllZip, slice_get}
use Rattle.std.proofs.lemmas.List.{length-map}
use Rattle.f66_tree.specs.Syntax.{Text, Routine}
use Rattle.f66_tree.specs.Units.{Context, is_main, notes_of, Linkage}
use Rattle.f66_program.specs.Mentions.{context_of}
use Rattle.f66_program.specs.Association.{Own, IsSame, ties_of, IsReal}
use Rattle.f66_program.specs.Initial.{presets_of, IsInitial}
use Rattle.f66_program.specs.Linking.{IsLinkage}
use Rattle.rat_tree.specs.Syntax.{RatRoutine}
use Rattle.rat_check.specs.Parts.{no_label, with_labels}
use Rattle.rat_lower.specs.Notes.{notes_of_unit}
use Rattle.rat_lower.specs.Linkages.{source_context, source_of}
use Rattle.rat_said.specs.Said.{said_routine}
use Rattle.spared_units.specs.Spared.{Pair, said_units, made_units}
use Rattle.spared_units.proofs.Among.{Among, among, contained, some_of}
use Rattle.spared_units.proofs.Notes.{unparted}
use Rattle.spared_units.proofs.Places.{said_at, pair_made, real_too}
use Rattle.spared_units.proofs.Programs.{named_same, tied, presets}
use Rattle.rat_linked.specs.Made.{IsMadeOf}
use Rattle.rat_linked.specs.Meaning.{bodies_of, SourceLinks}
use Rattle.rat_linked.proofs.Notes.{all_noted}
use Rattle.rat_linked.proofs.Programs.{paired}

-- ---- what the units of pairs rest on ----

-- the same place of two lists that are the same seen by f
module _ {X Y : Type 0} (f : X → Y) (x : X) where
  seen : (zs : List X) → Among zs x → Among (map f zs) (f x)
  seen [] k = absurd k
  seen (z ∷ zs) (inl k) = inl (ap f k)
  seen (z ∷ zs) (inr k) = inr (seen zs k)

  found : (zs : List X) → Among (map f zs) (f x) → (y : X) × Among zs y × (f y ≡ f x)
  found [] k = absurd k
  found (z ∷ zs) (inl k) = (z, inl refl, k)
  found (z ∷ zs) (inr k) = (let r = found zs k in (r.0, inr r.1, r.2))

  same_place : (xs ys : List X) → map f xs ≡ map f ys → Among xs x → (y : X) × Among ys y × (f y ≡ f x)
  same_place xs ys e h = found ys (subst (λ zs. Among zs (f x)) e (seen xs h))

module _ (ps : List Pair) (l : Linkage) (is : IsLinkage (made_units ps) l) where
  main_there : (s : Routine) × (slice_get (said_units ps) l.main ≡ Some s) × (is_main s.header ≡ true)
  main_there =
      let p = pair_made ps l.main is.main.0 is.main.1 in
      (p.0.said, said_at ps l.main p.0 p.1, subst (λ h. is_main h ≡ true) (ap (λ r. r.header) (sym p.2) ∙ p.0.spared.header) is.main.2)

  numbers_there : (u : ℕ) (x : Text) (o v : ℕ) (y : Text) (q : ℕ) → IsReal (said_units ps) u x o → IsReal (said_units ps) v y q →
      (l.number u x o ≡ l.number v y q) ↔ IsSame (ties_of (said_units ps)) (Own u x) (Own v y) (pos q -ℤ pos o)
  numbers_there u x o v y q r r' =
      let k = is.numbers u x o v y q (real_too ps u x o r) (real_too ps v y q r') in
      (λ e. subst (λ ts. IsSame ts (Own u x) (Own v y) (pos q -ℤ pos o)) (tied ps) (k.0 e), λ s. k.1 (subst (λ ts. IsSame ts (Own u x) (Own v y) (pos q -ℤ pos o)) (sym (tied ps)) s))

  initial_there : IsInitial (said_units ps) l.number l.first
  initial_there = record {
    filled = λ q c.
        let k = same_place unparted q (presets_of (said_units ps)) (presets_of (made_units ps)) (sym (presets ps)) (among (presets_of (said_units ps)) q c) in
        ap l.first (ap (λ z. l.number z.unit z.name z.at) (sym k.2)) ∙ is.initial.filled k.0 (contained (presets_of (made_units ps)) k.0 k.1) ∙ ap (λ z. z.value) k.2;
    empty = λ n none. is.initial.empty n (λ q c e.
        let k = same_place unparted q (presets_of (made_units ps)) (presets_of (said_units ps)) (presets ps) (among (presets_of (made_units ps)) q c) in
        none k.0 (contained (presets_of (said_units ps)) k.0 k.1) (ap (λ z. l.number z.unit z.name z.at) k.2 ∙ e));
  }

  -- but for what names mean, whatever else it says of that
  pub pairs_linked : (m : Linkage) → ((u : ℕ) (s : Routine) → slice_get (said_units ps) u ≡ Some s → m.context u ≡ context_of s) → m.find ≡ l.find → m.main ≡ l.main → m.deep ≡ l.deep → m.number ≡ l.number → m.first ≡ l.first → IsLinkage (said_units ps) m
  pairs_linked m contexts find main deep number first = record {
    contexts = contexts;
    finds = λ x. ap (λ f. f x) find ∙ is.finds x ∙ named_same x ps;
    main = subst (λ k. (s : Routine) × (slice_get (said_units ps) k ≡ Some s) × (is_main s.header ≡ true)) (sym main) main_there;
    deep = deep ∙ is.deep ∙ length-map ps (λ p. p.made) ∙ sym (length-map ps (λ p. p.said));
    numbers = λ u x o v y q r r'. subst (λ f. (f u x o ≡ f v y q) ↔ IsSame (ties_of (said_units ps)) (Own u x) (Own v y) (pos q -ℤ pos o)) (sym number) (numbers_there u x o v y q r r');
    initial = subst (λ f. IsInitial (said_units ps) f m.first) (sym number) (subst (λ f. IsInitial (said_units ps) l.number f) (sym first) initial_there);
  }

-- ---- what names mean in the source ----

source_means : (u : RatRoutine) (r : Routine) (m : IsMadeOf u r) → record { header = r.header; notes = notes_of_unit u.body } ≡ context_of (said_routine u)
source_means u r m =
    ap (λ h. record { header = h; notes = notes_of_unit u.body }) m.header
    ∙ ap (λ ns. record { header = u.header; notes = ns }) (all_noted u.header u.body 0 (with_labels u.body no_label) m.proper [] ∙ append-nil (notes_of (said_routine u).lines))

context_there : (us : List RatRoutine) (rs : List Routine) → AllZip IsMadeOf us rs → (c : Context) (i : ℕ) (s : Routine) → ((r : Routine) → slice_get rs i ≡ Some r → c ≡ context_of r) →
    slice_get (map said_routine us) i ≡ Some s → source_context c (bodies_of us i) ≡ context_of s
context_there [] rs h c i s g e = absurd (cc)
context_there (u ∷ us) [] h c i s g e = absurd h
context_there (u ∷ us) (r ∷ rs) h c zero s g e =
    ap (λ d. record { header = d.header; notes = notes_of_unit u.body }) (g r refl) ∙ source_means u r h.0 ∙ ap context_of (some_of (said_routine u) s e)
context_there (u ∷ us) (r ∷ rs) h c (suc i) s g e = context_there us rs h.1 c i s g e

pub source_links : SourceLinks
source_links us rs l h is =
    let k = paired us rs h in
    subst (λ ss. IsLinkage ss (source_of l (bodies_of us))) k.said
    (pairs_linked k.pairs l (subst (λ qs. IsLinkage qs l) (sym k.made) is) (source_of l (bodies_of us))
    (λ u s here. context_there us rs h (l.context u) u s (λ r there. is.contexts u r there) (subst (λ ss. slice_get ss u ≡ Some s) k.said here)) refl refl refl refl refl)
