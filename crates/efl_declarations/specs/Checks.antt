-- What reading declarations tells of the parts that they are, whatever was read before.
use Rattle.std.specs.Prelude.{◌≡◌, List, [], ◌∷◌, ◌++◌}
use Rattle.ground.specs.declared.place.Place.{Place}
use Rattle.efl_tree.specs.Syntax.{Text, EflPreset, EflDeclKind, Initial, EflDecl, EflProcedure}
use Rattle.efl_scope.specs.Scopes.{behind_declaration, behind_all}
use Rattle.efl_scope.specs.Scopes as scopes
use Rattle.efl_scope.specs.Parts.{Declares, Around, Part, part, groups_by, declarations_in}
use Rattle.efl_expressions.specs.declared.names.Block.{Block}
use Rattle.efl_expressions.specs.declared.names.Blocks.{Blocks}
use Rattle.efl_storage.specs.declared.firsts.Firsts.{Firsts}
use Rattle.efl_storage.specs.declared.storage.Storage.{Storage}
use Rattle.efl_storage.specs.Firsts.{AreFirsts}
use Rattle.efl_storage.specs.Counted.{Counted}
use Rattle.efl_blocks.specs.declared.types.Types.{Types}
use Rattle.efl_blocks.specs.declared.homes.Homes.{Homes}
use Rattle.efl_blocks.specs.Within.{Later, Within}
use Rattle.efl_blocks.specs.HomeViews.{position_of, AreHomes, IsHome}
use Rattle.efl_reading.specs.declared.sites.Site.{Site}
use Rattle.efl_reading.specs.declared.progress.Progress.{Progress}
use Rattle.efl_reading.specs.declared.walk.Walk.{Walk}
use Rattle.efl_reading.specs.Reading.{IsProcedure, Behind}
use Rattle.efl_reading.specs.Walked.{Read}

-- what is known beyond the block of a part, and in that block
pub record IsInner (y : Types) (us : List EflProcedure) (u : EflProcedure) (a : Around) (b : scopes.Block) (bs : scopes.Blocks) (s : Site) (known : Block) : Type 0 where
  pub procedure : IsProcedure y us u s.procedure.now
  pub unit : a.unit ≡ s.procedure.now.unit
  pub position : a.position ≡ position_of s.position.now
  pub formals : a.formals ≡ s.formals.now
  pub blocks : a.blocks ≡ b ∷ bs
  pub within : Within y (b ∷ bs) known s.blocks.now
  pub own : IsHome u b a.position
  pub homes : AreHomes u bs s.homes.now

-- a site with these blocks around it
pub record IsAmong (s : Site) (bs : Blocks) (hs : Homes) (inner : Site) : Type 0 where
  pub procedure : inner.procedure.now ≡ s.procedure.now
  pub position : inner.position.now ≡ s.position.now
  pub formals : inner.formals.now ≡ s.formals.now
  pub blocks : inner.blocks.now ≡ bs
  pub homes : inner.homes.now ≡ hs

-- ---- a declaration ----

-- it is counted, among all blocks
abbrev pub CountsInside : Block → Site → Firsts → EflDeclKind → Storage → Storage → Type 0
CountsInside known s firsts k old new = (y : Types) (us : List EflProcedure) (u : EflProcedure) (a : Around) (b : scopes.Block) (bs : scopes.Blocks) (before : List Text) (p : Place) (vs : List Part) →
    IsInner y us u a b bs s known → AreFirsts us firsts → Counted us vs old → Counted us (vs ++ part a p (Declares before k) ∷ []) new

-- initial values are read, among all blocks
abbrev pub NotesInside : Types → Block → Site → Place → List EflPreset → Progress → Progress → Type 0
NotesInside y known s p ps old new = (us : List EflProcedure) (u : EflProcedure) (a : Around) (b : scopes.Block) (bs : scopes.Blocks) (before : List Text) (vs : List Part) →
    IsInner y us u a b bs s known → Behind us vs old → Behind us (vs ++ part a p (Declares before (Initial ps)) ∷ []) new

-- the faults of it and of its groups
pub record TellsDeclaration (y : Types) (known : Block) (s : Site) (old : Progress) (d : EflDecl) (z : Types) (after : Block) (new : Progress) : Type 0 where
  pub later : Later y z
  pub knows : (bs : scopes.Blocks) → Within y bs known s.blocks.now → Within z (behind_declaration bs d.kind) after s.blocks.now
  pub tells : (us : List EflProcedure) (u : EflProcedure) (a : Around) (b : scopes.Block) (bs : scopes.Blocks) (before : List Text) (vs : List Part) → IsInner y us u a b bs s known →
      Behind us vs old → Behind us (vs ++ part a d.place (Declares before d.kind) ∷ groups_by a before d.kind) new

-- both: it is read, with its groups
pub record ChecksDeclaration (y : Types) (known : Block) (s : Site) (old : Walk) (d : EflDecl) (z : Types) (after : Block) (new : Walk) : Type 0 where
  pub later : Later y z
  pub knows : (bs : scopes.Blocks) → Within y bs known s.blocks.now → Within z (behind_declaration bs d.kind) after s.blocks.now
  pub reads : (us : List EflProcedure) (u : EflProcedure) (a : Around) (b : scopes.Block) (bs : scopes.Blocks) (before : List Text) (vs : List Part) → IsInner y us u a b bs s known →
      Read us vs old → Read us (vs ++ part a d.place (Declares before d.kind) ∷ groups_by a before d.kind) new

-- ---- the declarations of a block ----

pub record ChecksDeclarations (y : Types) (known : Block) (s : Site) (old : Walk) (ds : List EflDecl) (z : Types) (after : Block) (new : Walk) : Type 0 where
  pub later : Later y z
  pub knows : (bs : scopes.Blocks) → Within y bs known s.blocks.now → Within z (behind_all bs ds) after s.blocks.now
  pub reads : (us : List EflProcedure) (u : EflProcedure) (a : Around) (b : scopes.Block) (bs : scopes.Blocks) (before : List Text) (vs : List Part) → IsInner y us u a b bs s known →
      Read us vs old → Read us (vs ++ declarations_in a before ds) new
