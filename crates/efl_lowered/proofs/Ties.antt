-- The lines of routes associate no places and fill none, and their formats say nothing of names.
use Rattle.std.proofs.Common.{◌≡◌, ℕ, suc, ◌+◌, List, [], ◌∷◌, ◌++◌, refl, ap, ◌∙◌}
use Rattle.f66_tree.specs.declared.declaration.TypeWord.{TypeWord}
use Rattle.f66_tree.specs.declared.editing.Way.TheVariants.{Reading, Writing}
use Rattle.f66_tree.specs.Syntax.{Text, Act, Assign, Goto, Computed, Sign, When, Loop, Invoke, Continue, Stop, Return, Read, Write, Format, Typed, Dimension, Common, Equivalence, Preset, Line}
use Rattle.f66_tree.specs.Units.{Context, Note, sizes_of, type_in}
use Rattle.f66_program.specs.Association.{Filled, act_ties, act_filled, line_ties}
use Rattle.f66_program.specs.Initial.{act_presets, line_presets}
use Rattle.routes.specs.Routes.{Route, Plain, BreakIf, Break, Ring, Cycle, Block, InTurn, Labelled, Transfer, Routes, NoRoute, AndRoute}
use Rattle.routes.specs.Code.{Behind, jump, here, labels, all_labels, code_of, all_code}
use Rattle.routes.specs.Placed.{IsPlain}
use Rattle.routes.specs.Numbered.{OnlyPlain, AllPlain}
use Rattle.routes.specs.PlacedUnit.{formats, all_formats}

-- a plain act neither associates nor fills
plain_act : (u i : ℕ) (c : Context) (f : Filled) (a : Act) → IsPlain a → (act_ties u c f a ≡ []) × (act_filled c f a ≡ f) × (act_presets u i c a ≡ [])
plain_act u i c f (Assign y e) is = (refl, refl, refl)
plain_act u i c f (Goto m) is = (refl, refl, refl)
plain_act u i c f (Computed ms y) is = (refl, refl, refl)
plain_act u i c f (Sign e i1 i2 i3) is = (refl, refl, refl)
plain_act u i c f (Invoke y es) is = (refl, refl, refl)
plain_act u i c f Continue is = (refl, refl, refl)
plain_act u i c f (Stop n) is = (refl, refl, refl)
plain_act u i c f Return is = (refl, refl, refl)
plain_act u i c f (When e a) is = absurd is
plain_act u i c f (Loop m y i1 i2 i3) is = absurd is
plain_act u i c f (Read n m es) is = absurd is
plain_act u i c f (Write n m es) is = absurd is
plain_act u i c f (Format fs) is = absurd is
plain_act u i c f (Typed t es) is = absurd is
plain_act u i c f (Dimension es) is = absurd is
plain_act u i c f (Common es) is = absurd is
plain_act u i c f (Equivalence es) is = absurd is
plain_act u i c f (Preset es) is = absurd is

module _ (made : ℕ → ℕ) (u : ℕ) (c : Context) where
  -- no ties
  mutual
    ties_route : (f : Filled) (r : Route) (n : ℕ) (ls : Behind) (next : List Line) → OnlyPlain r → line_ties u c f (code_of made r n ls next) ≡ line_ties u c f next
    ties_route f (Plain p a) n ls next is =
        let h = plain_act u 0 c f a is in
        ap (λ ts. ts ++ line_ties u c (act_filled c f a) next) h.0 ∙ ap (λ g. line_ties u c g next) h.1
    ties_route f (BreakIf p e k) n ls next is = refl
    ties_route f (Break p k) n ls next is = refl
    ties_route f (Ring p rs) n ls next is = ties_all f rs (n + 1) (made n ∷ ls) (here (made n) p ∷ next) is
    ties_route f (Cycle p top rest) n ls next is =
        let out = jump p (made n) ∷ here (made (n + 1)) p ∷ next in
        ties_all f top (n + 2) (made (n + 1) ∷ ls) (all_code made rest (n + 2 + all_labels top) (made (n + 1) ∷ ls) out) is.0 ∙ ties_all f rest (n + 2 + all_labels top) (made (n + 1) ∷ ls) out is.1
    ties_route f (Block rs) n ls next is = ties_all f rs n ls next is
    ties_route f (InTurn rs) n ls next is = ties_all f rs n ls next is
    ties_route f (Labelled m p r) n ls next is = ties_route f r n ls next is
    ties_route f (Transfer p Reading v fs es) n ls next is = refl
    ties_route f (Transfer p Writing v fs es) n ls next is = refl

    pub ties_all : (f : Filled) (rs : Routes) (n : ℕ) (ls : Behind) (next : List Line) → AllPlain rs → line_ties u c f (all_code made rs n ls next) ≡ line_ties u c f next
    ties_all f NoRoute n ls next is = refl
    ties_all f (AndRoute r rs) n ls next is = ties_route f r n ls (all_code made rs (n + labels r) ls next) is.0 ∙ ties_all f rs (n + labels r) ls next is.1

  -- lines that fill nothing, wherever they stand
  abbrev pub FillNone : List Line → Type 0
  FillNone lines = (i : ℕ) → line_presets u i c lines ≡ []

  mutual
    fills_route : (r : Route) (n : ℕ) (ls : Behind) (next : List Line) → OnlyPlain r → FillNone next → FillNone (code_of made r n ls next)
    fills_route (Plain p a) n ls next is h i = ap (λ ps. ps ++ line_presets u (suc i) c next) (plain_act u i c (λ q. 0) a is).2 ∙ h (suc i)
    fills_route (BreakIf p e k) n ls next is h i = h (suc i)
    fills_route (Break p k) n ls next is h i = h (suc i)
    fills_route (Ring p rs) n ls next is h i = fills_all rs (n + 1) (made n ∷ ls) (here (made n) p ∷ next) is (λ j. h (suc j)) i
    fills_route (Cycle p top rest) n ls next is h i =
        let out = jump p (made n) ∷ here (made (n + 1)) p ∷ next in
        fills_all top (n + 2) (made (n + 1) ∷ ls) (all_code made rest (n + 2 + all_labels top) (made (n + 1) ∷ ls) out) is.0 (fills_all rest (n + 2 + all_labels top) (made (n + 1) ∷ ls) out is.1 (λ j. h (suc (suc j)))) (suc i)
    fills_route (Block rs) n ls next is h i = fills_all rs n ls next is h i
    fills_route (InTurn rs) n ls next is h i = fills_all rs n ls next is h i
    fills_route (Labelled m p r) n ls next is h i = fills_route r n ls next is h (suc i)
    fills_route (Transfer p Reading v fs es) n ls next is h i = h (suc (suc i))
    fills_route (Transfer p Writing v fs es) n ls next is h i = h (suc (suc i))

    pub fills_all : (rs : Routes) (n : ℕ) (ls : Behind) (next : List Line) → AllPlain rs → FillNone next → FillNone (all_code made rs n ls next)
    fills_all NoRoute n ls next is h i = h i
    fills_all (AndRoute r rs) n ls next is h i = fills_route r n ls (all_code made rs (n + labels r) ls next) is.0 (fills_all rs (n + labels r) ls next is.1 h) i

module _ (made : ℕ → ℕ) (q : Text) where
  mutual
    formats_type : (r : Route) (n : ℕ) (others : List Note) (t : TypeWord) → type_in q (formats made r n others) t ≡ type_in q others t
    formats_type (Plain p a) n others t = refl
    formats_type (BreakIf p e k) n others t = refl
    formats_type (Break p k) n others t = refl
    formats_type (Ring p rs) n others t = all_formats_type rs (n + 1) others t
    formats_type (Cycle p top rest) n others t = all_formats_type top (n + 2) (all_formats made rest (n + 2 + all_labels top) others) t ∙ all_formats_type rest (n + 2 + all_labels top) others t
    formats_type (Block rs) n others t = all_formats_type rs n others t
    formats_type (InTurn rs) n others t = all_formats_type rs n others t
    formats_type (Labelled m p r) n others t = formats_type r n others t
    formats_type (Transfer p way u fs es) n others t = refl

    pub all_formats_type : (rs : Routes) (n : ℕ) (others : List Note) (t : TypeWord) → type_in q (all_formats made rs n others) t ≡ type_in q others t
    all_formats_type NoRoute n others t = refl
    all_formats_type (AndRoute r rs) n others t = formats_type r n (all_formats made rs (n + labels r) others) t ∙ all_formats_type rs (n + labels r) others t

  mutual
    formats_sizes : (r : Route) (n : ℕ) (others : List Note) → sizes_of q (formats made r n others) ≡ sizes_of q others
    formats_sizes (Plain p a) n others = refl
    formats_sizes (BreakIf p e k) n others = refl
    formats_sizes (Break p k) n others = refl
    formats_sizes (Ring p rs) n others = all_formats_sizes rs (n + 1) others
    formats_sizes (Cycle p top rest) n others = all_formats_sizes top (n + 2) (all_formats made rest (n + 2 + all_labels top) others) ∙ all_formats_sizes rest (n + 2 + all_labels top) others
    formats_sizes (Block rs) n others = all_formats_sizes rs n others
    formats_sizes (InTurn rs) n others = all_formats_sizes rs n others
    formats_sizes (Labelled m p r) n others = formats_sizes r n others
    formats_sizes (Transfer p way u fs es) n others = refl

    pub all_formats_sizes : (rs : Routes) (n : ℕ) (others : List Note) → sizes_of q (all_formats made rs n others) ≡ sizes_of q others
    all_formats_sizes NoRoute n others = refl
    all_formats_sizes (AndRoute r rs) n others = formats_sizes r n (all_formats made rs (n + labels r) others) ∙ all_formats_sizes rs (n + labels r) others
