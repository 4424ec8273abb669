-- What the lines of a unit say: a fact of what its routes say, of types of names and of what ends a unit holds of each line, and no line
-- names a common block.
use Rattle.std.proofs.Common.{◌≡◌, ◌≤◌, ℕ, zero, suc, Bool, true, false, List, [], ◌∷◌, ◌++◌, map, take, drop, length, Option, None, refl, arith}
use Rattle.std.specs.Prelude.{is_none}
use Rattle.std.specs.List.{All}
use Rattle.std.proofs.lemmas.List.Elements.{All-nil, All-cons, All-append}
use Rattle.std.proofs.lemmas.List.{length-take}
use Rattle.ground.specs.declared.place.Place.{Place}
use Rattle.ground.specs.declared.value.Kind.TheVariants.{Integer, Logical}
use Rattle.f66_tree.specs.declared.declaration.TypeWord.{TypeWord}
use Rattle.f66_tree.specs.declared.editing.Way.TheVariants.{Reading, Writing}
use Rattle.f66_tree.specs.Syntax.{Text, Act, Assign, Goto, Computed, Sign, When, Loop, Invoke, Continue, Stop, Return, Read, Write, Format, Typed, Dimension, Common, Equivalence, Preset, Line}
use Rattle.f66_program.specs.Linking.{names_block}
use Rattle.efl_tree.specs.Syntax.{EflProcedure, EflProgram}
use Rattle.routes.specs.Routes.{Route, Plain, BreakIf, Break, Ring, Cycle, Block, InTurn, Labelled, Transfer, Routes, NoRoute, AndRoute}
use Rattle.routes.specs.Code.{all_code}
use Rattle.routes.specs.Units.{ending}
use Rattle.routes.specs.Placed.{IsPlain}
use Rattle.routes.specs.Numbered.{OnlyPlain, AllPlain}
use Rattle.routed_units.specs.Routed.{RouteActs, AllActs}
use Rattle.routed_units.proofs.Acts.{all_acts}
use Rattle.efl_lowered.specs.Naming.{Naming}
use Rattle.efl_lowered.specs.Lowering.{on_a_card, declared_scalar, typed_lines, typed_names, typed_of, word_of, routes_of, lines_of}

module _ (P : Act → Type 0) where
  abbrev pub Say : List Line → Type 0
  Say lines = All (λ s. P s.act) lines

  -- of at most eight names
  module _ (typed : (t : TypeWord) (xs : List Text) → length xs ≤ 8 → P (Typed t (map declared_scalar xs))) where
    types_say : (place : Place) (t : TypeWord) (most : ℕ) (xs : List Text) → Say (typed_lines most place t xs)
    types_say place t zero xs = All-nil (λ s. P s.act)
    types_say place t (suc most) [] = All-nil (λ s. P s.act)
    types_say place t (suc most) (x ∷ xs) = All-cons (λ s. P s.act) _ (typed_lines most place t (drop on_a_card (x ∷ xs))) (typed t (take on_a_card (x ∷ xs)) (let m = length-take 8 (x ∷ xs) in omega (m, arith))) (types_say place t most (drop on_a_card (x ∷ xs)))

    pub lines_say : (goes : (l : ℕ) → P (Goto l)) → P Continue → P (Stop None) → P Return → (p : EflProgram) (names : Naming) (n : ℕ) (u : EflProcedure) → AllActs P (routes_of names p n) → Say (lines_of names p n u)
    lines_say goes goes_on stops returns p names n u ok =
        All-append (λ s. P s.act) (typed_of names p n Integer u.place ++ typed_of names p n Logical u.place) (all_code (names.made n) (routes_of names p n) 0 [] (ending (is_none u.name) u.finish))
        (All-append (λ s. P s.act) (typed_of names p n Integer u.place) (typed_of names p n Logical u.place)
        (types_say u.place (word_of Integer) (length (typed_names names p n Integer)) (typed_names names p n Integer))
        (types_say u.place (word_of Logical) (length (typed_names names p n Logical)) (typed_names names p n Logical)))
        (all_acts (names.made n) P goes goes_on (routes_of names p n) 0 [] (ending (is_none u.name) u.finish) ok (by_main (is_none u.name)))
      where
        by_main : (b : Bool) → Say (ending b u.finish)
        by_main true = All-cons (λ s. P s.act) _ [] stops (All-nil (λ s. P s.act))
        by_main false = All-cons (λ s. P s.act) _ [] returns (All-nil (λ s. P s.act))

-- ---- common blocks ----

abbrev pub NamesNone : Act → Type 0
NamesNone a = (b : Option Text) → names_block b a ≡ false

plain_names : (a : Act) → IsPlain a → NamesNone a
plain_names (Assign y e) is b = refl
plain_names (Goto m) is b = refl
plain_names (Computed ms y) is b = refl
plain_names (Sign e l m k) is b = refl
plain_names (Invoke y es) is b = refl
plain_names Continue is b = refl
plain_names (Stop n) is b = refl
plain_names Return is b = refl
plain_names (When e a) is b = refl
plain_names (Loop m y l d k) is b = refl
plain_names (Read n m es) is b = refl
plain_names (Write n m es) is b = refl
plain_names (Format fs) is b = refl
plain_names (Typed t es) is b = refl
plain_names (Dimension es) is b = refl
plain_names (Common es) is b = absurd is
plain_names (Equivalence es) is b = refl
plain_names (Preset es) is b = refl

mutual
  route_names : (r : Route) → OnlyPlain r → RouteActs NamesNone r
  route_names (Plain p a) h = plain_names a h
  route_names (BreakIf p e k) h = λ l b. refl
  route_names (Break p k) h = tt
  route_names (Ring p rs) h = routes_name rs h
  route_names (Cycle p top rest) h = (routes_name top h.0, routes_name rest h.1)
  route_names (Block rs) h = routes_name rs h
  route_names (InTurn rs) h = routes_name rs h
  route_names (Labelled m p r) h = route_names r h
  route_names (Transfer p Reading u fs es) h = (λ l b. refl, λ b. refl)
  route_names (Transfer p Writing u fs es) h = (λ l b. refl, λ b. refl)

  routes_name : (rs : Routes) → AllPlain rs → AllActs NamesNone rs
  routes_name NoRoute h = tt
  routes_name (AndRoute r rs) h = (route_names r h.0, routes_name rs h.1)

pub no_blocks : (p : EflProgram) (names : Naming) (n : ℕ) (u : EflProcedure) → AllPlain (routes_of names p n) → Say NamesNone (lines_of names p n u)
no_blocks p names n u plain = lines_say NamesNone (λ t xs le b. refl) (λ l b. refl) (λ b. refl) (λ b. refl) (λ b. refl) p names n u (routes_name (routes_of names p n) plain)
