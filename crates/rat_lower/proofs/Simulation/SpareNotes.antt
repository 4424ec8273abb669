-- The names in the dimensions that a unit's statements give, and the declaration of a spare name.
use Rattle.std.proofs.Common.{Bool, true, false, List, [], ◌∷◌, None}
use Rattle.std.specs.Prelude.{if◌then◌else◌}
use Rattle.std.specs.Str.{bytes_eq}
use Rattle.f66_tree.specs.declared.declaration.TypeWord.TheVariants.{Integer}
use Rattle.f66_tree.specs.Syntax.{Text, Par, Declared, Area, Act, Assign, Goto, Computed, Sign, When, Loop, Invoke, Continue, Stop, Return, Read, Write, Format, Typed, Dimension, Common, Equivalence, Preset}
use Rattle.f66_tree.specs.Units.{Note, if_any, sizes_in, sizes_in_areas, sizes_by, sizes_of}
use Rattle.f66_tree.specs.Uses.{NamesOfPars}
use Rattle.rat_lower.specs.Checked.{NamesOfSizes, NamesOfAreas, NamesOfNote, NamesOfNotes}

module _ (K : Text → Type 0) where
  in_sizes : (x : Text) (ds : List Declared) (others : List Par) → NamesOfSizes K ds → NamesOfPars K others → NamesOfPars K (sizes_in x ds others)
  in_sizes x [] others h k = k
  in_sizes x (d ∷ ds) others h k = by_name (bytes_eq x d.name) d.sizes h.0 (in_sizes x ds others h.1 k)
    where
      by_name : (v : Bool) (ns : List Par) → NamesOfPars K ns → NamesOfPars K (sizes_in x ds others) → NamesOfPars K (if v then if_any ns (sizes_in x ds others) else sizes_in x ds others)
      by_name true [] j later = later
      by_name true (n ∷ ns) j later = j
      by_name false ns j later = later

  in_areas : (x : Text) (areas : List Area) (others : List Par) → NamesOfAreas K areas → NamesOfPars K others → NamesOfPars K (sizes_in_areas x areas others)
  in_areas x [] others h k = k
  in_areas x (a ∷ areas) others h k = in_sizes x a.list (sizes_in_areas x areas others) h.0 (in_areas x areas others h.1 k)

  in_note : (x : Text) (a : Act) (others : List Par) → NamesOfNote K a → NamesOfPars K others → NamesOfPars K (sizes_by x a others)
  in_note x (Typed t ds) others h k = in_sizes x ds others h k
  in_note x (Dimension ds) others h k = in_sizes x ds others h k
  in_note x (Common areas) others h k = in_areas x areas others h k
  in_note x (Assign y e) others h k = k
  in_note x (Goto m) others h k = k
  in_note x (Computed ls y) others h k = k
  in_note x (Sign e i1 i2 i3) others h k = k
  in_note x (When e a) others h k = k
  in_note x (Loop m y i1 i2 i3) others h k = k
  in_note x (Invoke y es) others h k = k
  in_note x Continue others h k = k
  in_note x (Stop n) others h k = k
  in_note x Return others h k = k
  in_note x (Read u m es) others h k = k
  in_note x (Write u m es) others h k = k
  in_note x (Format fs) others h k = k
  in_note x (Equivalence es) others h k = k
  in_note x (Preset ps) others h k = k

  pub in_notes : (x : Text) (notes : List Note) → NamesOfNotes K notes → NamesOfPars K (sizes_of x notes)
  in_notes x [] h = tt
  in_notes x (s ∷ notes) h = in_note x s.act (sizes_of x notes) h.0 (in_notes x notes h.1)

-- INTEGER spare
abbrev pub spare_note : Text → Note
spare_note spare = record { label = None; act = Typed Integer (record { name = spare; sizes = [] } ∷ []) }
