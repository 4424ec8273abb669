-- What the tests of calls say.
use Rattle.std.proofs.Common.{◌≡◌, ◌∙◌, ◌∷◌, [], ℕ, zero, suc, Bool, true, List, map, Option, None, Some, option_map, option_copied, refl, ap}
use denote.Bor.{Bor}
use Rattle.std.specs.List.{slice_get}
use Rattle.rule_table.specs.Words.{is_some_and}
use Rattle.f66_tree.specs.Syntax.{Routine}
use Rattle.f66_program.specs.Calls.{miscounts, unit_named}
use Rattle.f66_program.specs.Linking.{Program, LeadsTo}
use Rattle.linker.specs.CallRules.{is_missing, is_miscounted, is_nothing}
use Rattle.linker.specs.Sites.{Site}

pub got_seen : {X Y : Type 0} (f : X → Y) (xs : List X) (i : ℕ) (o : Option X) → slice_get xs i ≡ o → slice_get (map f xs) i ≡ option_map f o
got_seen f [] i o e = ap (option_map f) e
got_seen f (x ∷ xs) zero o e = ap (option_map f) e
got_seen f (x ∷ xs) (suc i) o e = got_seen f xs i o e

-- a lent element, seen by f
pub seen_copied : {X Y : Type 0} (f : X → Y) (o : Option (Bor X)) → option_map (λ x. f x.now) o ≡ option_map f (option_copied o)
seen_copied f None = refl
seen_copied f (Some x) = refl

pub mapped_some : {X Y : Type 0} (f : X → Y) (o : Option X) (y : Y) → option_map f o ≡ Some y → (x : X) × (o ≡ Some x) × (f x ≡ y)
mapped_some f None y e = absurd (cc)
mapped_some f (Some x) y e = (x, refl, (let g : Some (f x) ≡ Some y = e in cc))

pub mapped_none : {X Y : Type 0} (f : X → Y) (o : Option X) → option_map f o ≡ None → o ≡ None
mapped_none f None e = refl
mapped_none f (Some x) e = absurd (cc)

pub miscounted_at : (rs : List Routine) (s : Site) (v : ℕ) (o : Option Routine) → unit_named s.call.name rs ≡ Some v → slice_get rs v ≡ o → is_miscounted rs s ≡ is_some_and (miscounts s.call) o
miscounted_at rs s v o named here = ap (is_some_and (λ v. is_some_and (miscounts s.call) (slice_get rs v))) named ∙ ap (is_some_and (miscounts s.call)) here

nothing_is : (o : Option ℕ) → is_nothing o ≡ true → o ≡ None
nothing_is None e = refl
nothing_is (Some v) e = absurd (cc)

pub missing_sound : (rs : List Routine) (s : Site) → is_missing rs s ≡ true → unit_named s.call.name rs ≡ None
missing_sound rs s e = nothing_is (unit_named s.call.name rs) e

pub missing_whole : (rs : List Routine) (s : Site) → unit_named s.call.name rs ≡ None → is_missing rs s ≡ true
missing_whole rs s e = ap is_nothing e

pub some_passes : {X : Type 0} (test : X → Bool) (o : Option X) → is_some_and test o ≡ true → (x : X) × (o ≡ Some x) × (test x ≡ true)
some_passes test None e = absurd (cc)
some_passes test (Some x) e = (x, refl, e)

pub miscounted_sound : (p : Program) (s : Site) → is_miscounted p.units s ≡ true → LeadsTo p s.call (λ v r. miscounts s.call r ≡ true)
miscounted_sound p s e =
    let v = some_passes (λ v. is_some_and (miscounts s.call) (slice_get p.units v)) (unit_named s.call.name p.units) e in
    let r = some_passes (miscounts s.call) (slice_get p.units v.0) v.2 in
    record { number = v.0; unit = r.0; to = v.1; here = r.1; holds = r.2 }

pub miscounted_whole : (p : Program) (s : Site) → LeadsTo p s.call (λ v r. miscounts s.call r ≡ true) → is_miscounted p.units s ≡ true
miscounted_whole p s l = miscounted_at p.units s l.number (Some l.unit) l.to l.here ∙ l.holds
