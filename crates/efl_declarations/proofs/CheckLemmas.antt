-- The parts of declarations, declaration by declaration.
use Rattle.std.proofs.Common.{◌≡◌, Vec, Global, List, [], ◌∷◌, ◌++◌, Option, Some, refl, sym, ap, subst, ◌∙◌, append_assoc}
use Rattle.std.specs.List.{slice_get}
use Rattle.std.specs.Option.{option_or}
use Rattle.std.proofs.lemmas.List.{append-nil}
use Rattle.ground.specs.declared.fault.Fault.{Fault}
use Rattle.ground.specs.declared.place.Place.{Place}
use Rattle.efl_tree.specs.declared.declaration.EflPreset as presets
use Rattle.efl_tree.specs.declared.declaration.EflDeclKind as decl_kinds
use Rattle.efl_tree.specs.declared.declaration.EflDeclKind.TheVariants as memory
use Rattle.efl_tree.specs.Views.{decl_kind_of}
use Rattle.efl_tree.specs.Syntax.{Text, EflPreset, EflDeclKind, Implicit, Initial, Variables, Area, Structure, EflDecl, EflProcedure}
use Rattle.efl_scope.specs.Scopes.{meaning, behind_declaration, behind_all}
use Rattle.efl_scope.specs.Scopes as scopes
use Rattle.efl_scope.specs.Parts.{Declares, Around, Part, part, among, names_by, groups_by, declarations_in}
use Rattle.efl_types.specs.TypeRules.{presets_of}
use Rattle.efl_scoped.specs.Seen.{table_of}
use Rattle.efl_expressions.specs.declared.names.Block.{Block}
use Rattle.efl_expressions.specs.declared.names.Blocks.{Blocks}
use Rattle.efl_storage.specs.declared.firsts.Firsts.{Firsts}
use Rattle.efl_storage.specs.declared.storage.Storage.{Storage}
use Rattle.efl_storage.specs.Firsts.{AreFirsts}
use Rattle.efl_storage.specs.Counted.{Counted}
use Rattle.efl_expressions.specs.NameViews.{entry_in, meaning_in, IsMeaningIfAny}
use Rattle.efl_blocks.specs.declared.types.Types.{Types}
use Rattle.efl_blocks.specs.declared.homes.Homes.{Homes}
use Rattle.efl_blocks.specs.Within.{Later, Within}
use Rattle.efl_blocks.specs.HomeViews.{position_of, home_in, home_if, AreHomes, HomesWithin}
use Rattle.efl_blocks.proofs.LaterLemmas.{later_same, later_on}
use Rattle.efl_blocks.proofs.WithinLemmas.{within_known}
use Rattle.efl_blocks.proofs.HomeLemmas.{homes_within, declaration_homes}
use Rattle.efl_reading.specs.declared.sites.Site.{Site}
use Rattle.efl_reading.specs.declared.progress.Progress.{Progress}
use Rattle.efl_reading.specs.declared.walk.Walk.{Walk}
use Rattle.efl_reading.specs.Reading.{IsProcedure, IsSite, Behind, NotesPresets}
use Rattle.efl_reading.specs.Alone.{first_alone, GiveNone}
use Rattle.efl_reading.specs.Counting.{CountsDeclaration}
use Rattle.efl_reading.specs.Walked.{Read}
use Rattle.efl_reading.proofs.SiteLemmas.{procedure_later}
use Rattle.efl_reading.proofs.CountingLemmas.{none_counted}
use Rattle.efl_declarations.specs.GroupFaults.{declaration_fault}
use Rattle.efl_declarations.specs.Sees.{SeesDeclaration}
use Rattle.efl_declarations.specs.Checks.{IsInner, IsAmong, CountsInside, NotesInside, TellsDeclaration, ChecksDeclaration, ChecksDeclarations}
use Rattle.efl_declarations.proofs.PartLemmas.{by_gives_none, by_meets_none, declaration_first}

-- ---- a declaration ----

-- what is known behind a declaration, whatever its innermost block is there
pub record InnerBehind (y : Types) (us : List EflProcedure) (u : EflProcedure) (a : Around) (s : Site) (known : Block) : Type 0 where
  pub block : scopes.Block
  pub beyond : scopes.Blocks
  pub inner : IsInner y us u a block beyond s known

inner_behind : (y z : Types) (us : List EflProcedure) (u : EflProcedure) (a : Around) (b : scopes.Block) (bs : scopes.Blocks) (s : Site) (known after : Block) (k : EflDeclKind) →
    IsInner y us u a b bs s known → Later y z → Within z (behind_declaration (b ∷ bs) k) after s.blocks.now → InnerBehind z us u (among (behind_declaration a.blocks k) a) s after
inner_behind y z us u a b bs s known after k is later within =
    each (behind_declaration (b ∷ bs) k) (ap (λ cs. behind_declaration cs k) is.blocks) within (declaration_homes u a.position s.homes.now (b ∷ bs) k (is.own, is.homes))
  where
    each : (cs : scopes.Blocks) → behind_declaration a.blocks k ≡ cs → Within z cs after s.blocks.now → HomesWithin u cs a.position s.homes.now →
        InnerBehind z us u (among (behind_declaration a.blocks k) a) s after
    each [] same known_there homes = absurd homes
    each (c ∷ cs) same known_there homes = record {
      block = c;
      beyond = cs;
      inner = record {
        procedure = procedure_later y z us u s.procedure.now later is.procedure;
        unit = is.unit;
        position = is.position;
        formals = is.formals;
        blocks = same;
        within = known_there;
        own = homes.0;
        homes = homes.1;
      };
    }

found_in : (y : Types) (us : List EflProcedure) (u : EflProcedure) (a : Around) (b : scopes.Block) (bs : scopes.Blocks) (s : Site) (known : Block) → IsInner y us u a b bs s known →
    slice_get us a.unit ≡ Some u
found_in y us u a b bs s known is = ap (slice_get us) is.unit ∙ is.procedure.found

pub other_presets : (k : decl_kinds.EflDeclKind) → ((ps : Vec presets.EflPreset Global) → k ≡ memory.Initial ps → ⊥) → presets_of (Declares [] (decl_kind_of k)) ≡ []
other_presets (memory.Initial ps) none = absurd (none ps refl)
other_presets (memory.Implicit rs t) none = refl
other_presets (memory.Variables q t vs) none = refl
other_presets (memory.Area q gs) none = refl
other_presets (memory.Structure x gs) none = refl

-- one that gives no values
pub declaration_told : (y z : Types) (known after : Block) (s : Site) (old new : Progress) (p : Place) (k : EflDeclKind) (f : Option Fault) → presets_of (Declares [] k) ≡ [] →
    SeesDeclaration y known s.blocks.now p s.formals.now k z after f →
    ((us : List EflProcedure) (vs ws : List Part) → Behind us vs old → GiveNone ws → f ≡ first_alone us ws → Behind us (vs ++ ws) new) →
    TellsDeclaration y known s old (record { kind = k; place = p }) z after new
declaration_told y z known after s old new p k f none seen noted = record { later = seen.later; knows = seen.knows; tells = tells }
  where
    tells : (us : List EflProcedure) (u : EflProcedure) (a : Around) (b : scopes.Block) (bs : scopes.Blocks) (before : List Text) (vs : List Part) → IsInner y us u a b bs s known →
        Behind us vs old → Behind us (vs ++ part a p (Declares before k) ∷ groups_by a before k) new
    tells us u a b bs before vs is behind =
        noted us vs (part a p (Declares before k) ∷ groups_by a before k) behind (quiet k none, by_gives_none a before k)
        (seen.tells (b ∷ bs) is.within ∙ ap (λ xs. declaration_fault p xs (b ∷ bs) k) (sym is.formals) ∙ ap (λ cs. declaration_fault p a.formals cs k) (sym is.blocks)
        ∙ sym (declaration_first us u a p before k (found_in y us u a b bs s known is) (quiet k none)))
      where
        quiet : (l : EflDeclKind) → presets_of (Declares [] l) ≡ [] → presets_of (Declares before l) ≡ []
        quiet (Implicit rs t) e = refl
        quiet (Initial ps) e = e
        quiet (Variables q t vs') e = refl
        quiet (Area q gs) e = refl
        quiet (Structure x gs) e = refl

-- ---- among all blocks ----

-- a site inside the block, made of that beyond it
pub record Enters (s : Site) (known : Block) (inner : Site) : Type 0 where
  pub procedure : inner.procedure.now ≡ s.procedure.now
  pub position : inner.position.now ≡ s.position.now
  pub formals : inner.formals.now ≡ s.formals.now
  pub means : (x : Text) → meaning_in inner.blocks.now x ≡ option_or (entry_in known x) (meaning_in s.blocks.now x)
  pub stand : (x : Text) → home_in inner.homes.now x ≡ home_if (position_of s.position.now) (entry_in known x) (home_in s.homes.now x)

pub entered : (s inner : Site) (known : Block) (blocks : Blocks) (homes : Homes) → IsAmong s blocks homes inner → ((x : Text) → meaning_in blocks x ≡ option_or (entry_in known x) (meaning_in s.blocks.now x)) →
    ((x : Text) → home_in homes x ≡ home_if (position_of s.position.now) (entry_in known x) (home_in s.homes.now x)) → Enters s known inner
entered s inner known blocks homes is means stand = record {
  procedure = is.procedure;
  position = is.position;
  formals = is.formals;
  means = λ x. ap (λ bs. meaning_in bs x) is.blocks ∙ means x;
  stand = λ x. ap (λ hs. home_in hs x) is.homes ∙ stand x;
}

site_inside : (y : Types) (us : List EflProcedure) (u : EflProcedure) (a : Around) (b : scopes.Block) (bs : scopes.Blocks) (s inner : Site) (known : Block) → Enters s known inner →
    IsInner y us u a b bs s known → IsSite y us u a inner
site_inside y us u a b bs s inner known enters is = record {
  procedure = subst (IsProcedure y us u) (sym enters.procedure) is.procedure;
  unit = is.unit ∙ ap (λ p. p.unit) (sym enters.procedure);
  position = is.position ∙ ap position_of (sym enters.position);
  formals = is.formals ∙ sym enters.formals;
  blocks = λ x.
      subst (λ o. IsMeaningIfAny (table_of y.numbers) y.structures.list.items (meaning a.blocks x) o) (sym (enters.means x))
      (subst (λ cs. IsMeaningIfAny (table_of y.numbers) y.structures.list.items (meaning cs x) (option_or (entry_in known x) (meaning_in s.blocks.now x))) (sym is.blocks)
      (within_known y (b ∷ bs) known s.blocks.now is.within x));
  homes = subst (λ cs. AreHomes u cs inner.homes.now) (sym is.blocks)
      (homes_within y u b bs known s.blocks.now s.homes.now inner.homes.now a.position is.within is.own is.homes
      (λ x. enters.stand x ∙ ap (λ h. home_if h (entry_in known x) (home_in s.homes.now x)) (sym is.position)));
}

pub inside_noted : (y : Types) (known : Block) (s inner : Site) (p : Place) (ps : List EflPreset) (old new : Progress) → Enters s known inner → NotesPresets y inner p ps old new →
    NotesInside y known s p ps old new
inside_noted y known s inner p ps old new enters noted us u a b bs before vs is behind = noted us u a before vs (site_inside y us u a b bs s inner known enters is) behind

pub inside_counted : (known : Block) (s inner : Site) (firsts : Firsts) (k : EflDeclKind) (old new : Storage) → Enters s known inner → ((y : Types) → CountsDeclaration y inner firsts k old new) →
    CountsInside known s firsts k old new
inside_counted known s inner firsts k old new enters counts y us u a b bs before p vs is are counted =
    counts y us u a before p vs (site_inside y us u a b bs s inner known enters is) are counted

pub presets_told : (y : Types) (known : Block) (s : Site) (old new : Progress) (p : Place) (ps : List EflPreset) → NotesInside y known s p ps old new →
    TellsDeclaration y known s old (record { kind = Initial ps; place = p }) y known new
presets_told y known s old new p ps noted = record { later = later_same y; knows = λ bs is. is; tells = noted }

-- counted and told
pub declaration_checked : (y z : Types) (known after : Block) (s : Site) (old new : Walk) (d : EflDecl) → CountsInside known s old.firsts d.kind old.storage new.storage → new.firsts ≡ old.firsts →
    TellsDeclaration y known s old.progress d z after new.progress → ChecksDeclaration y known s old d z after new
declaration_checked y z known after s old new d counts same told = record {
  later = told.later;
  knows = told.knows;
  reads = λ us u a b bs before vs is read.
      let v = part a d.place (Declares before d.kind) in
      let groups = groups_by a before d.kind in
      record {
        tells = told.tells us u a b bs before vs is read.tells;
        counts = subst (λ ws. Counted us ws new.storage) (append_assoc vs (v ∷ []) groups)
            (none_counted us (vs ++ v ∷ []) groups new.storage (by_meets_none a before d.kind) (counts y us u a b bs before d.place vs is read.firsts read.counts));
        firsts = subst (AreFirsts us) (sym same) read.firsts;
      };
}

-- ---- all declarations ----

-- the parts of those before are read
pub record DeclarationsAt (us : List EflProcedure) (u : EflProcedure) (z : Types) (now : Block) (s : Site) (w : Walk) (rest : List EflDecl) (all : List Part) : Type 0 where
  pub around : Around
  pub block : scopes.Block
  pub beyond : scopes.Blocks
  pub names : List Text
  pub read : List Part
  pub inner : IsInner z us u around block beyond s now
  pub reads : Read us read w
  pub whole : read ++ declarations_in around names rest ≡ all

pub record DeclarationsLeft (y : Types) (known : Block) (s : Site) (old : Walk) (ds : List EflDecl) (z : Types) (now : Block) (w : Walk) (rest : List EflDecl) : Type 0 where
  pub later : Later y z
  pub knows : (bs : scopes.Blocks) → Within y bs known s.blocks.now → (cs : scopes.Blocks) × Within z cs now s.blocks.now × (behind_all bs ds ≡ behind_all cs rest)
  pub left : (us : List EflProcedure) (u : EflProcedure) (a : Around) (b : scopes.Block) (bs : scopes.Blocks) (before : List Text) (vs : List Part) → IsInner y us u a b bs s known → Read us vs old →
      DeclarationsAt us u z now s w rest (vs ++ declarations_in a before ds)

pub declarations_begun : (y : Types) (known : Block) (s : Site) (old : Walk) (ds : List EflDecl) → DeclarationsLeft y known s old ds y known old ds
declarations_begun y known s old ds = record {
  later = later_same y;
  knows = λ bs is. (bs, is, refl);
  left = λ us u a b bs before vs is read. record { around = a; block = b; beyond = bs; names = before; read = vs; inner = is; reads = read; whole = refl };
}

pub declaration_passed : (y z w : Types) (known now after : Block) (s : Site) (old between new : Walk) (ds : List EflDecl) (d : EflDecl) (rest : List EflDecl) →
    DeclarationsLeft y known s old ds z now between (d ∷ rest) → ChecksDeclaration z now s between d w after new → DeclarationsLeft y known s old ds w after new rest
declaration_passed y z w known now after s old between new ds d rest passed checked = record {
  later = later_on y z w passed.later checked.later;
  knows = λ bs is. let at = passed.knows bs is in (behind_declaration at.0 d.kind, checked.knows at.0 at.1, at.2);
  left = λ us u a b bs before vs is read.
      let at = passed.left us u a b bs before vs is read in
      let next = inner_behind z w us u at.around at.block at.beyond s now after d.kind at.inner checked.later (checked.knows (at.block ∷ at.beyond) at.inner.within) in
      record {
        around = among (behind_declaration at.around.blocks d.kind) at.around;
        block = next.block;
        beyond = next.beyond;
        names = at.names ++ names_by d.kind;
        read = at.read ++ part at.around d.place (Declares at.names d.kind) ∷ groups_by at.around at.names d.kind;
        inner = next.inner;
        reads = checked.reads us u at.around at.block at.beyond at.names at.read at.inner at.reads;
        whole = append_assoc at.read (part at.around d.place (Declares at.names d.kind) ∷ groups_by at.around at.names d.kind)
            (declarations_in (among (behind_declaration at.around.blocks d.kind) at.around) (at.names ++ names_by d.kind) rest) ∙ at.whole;
      };
}

pub declarations_ended : (y z : Types) (known now : Block) (s : Site) (old new : Walk) (ds : List EflDecl) → DeclarationsLeft y known s old ds z now new [] → ChecksDeclarations y known s old ds z now new
declarations_ended y z known now s old new ds all = record {
  later = all.later;
  knows = λ bs is. let at = all.knows bs is in subst (λ cs. Within z cs now s.blocks.now) (sym at.2) at.1;
  reads = λ us u a b bs before vs is read.
      let at = all.left us u a b bs before vs is read in subst (λ ws. Read us ws new) (sym (append-nil at.read) ∙ at.whole) at.reads;
}
