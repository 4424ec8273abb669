-- Blocks, with their declarations and statements.
use Rattle.std.proofs.Common.{◌≡◌, ℕ, List, [], ◌∷◌, ◌++◌, refl, sym, ap, subst, ◌∙◌, append_assoc}
use Rattle.std.specs.Option.{option_or}
use Rattle.efl_tree.specs.Syntax.{Text, EflDecl, EflStmts, EflProcedure, Block as ABlock}
use Rattle.efl_scope.specs.Scopes.{meaning, entering, behind_all}
use Rattle.efl_scope.specs.Scopes as scopes
use Rattle.efl_scope.specs.Parts.{Around, Part, in_list, opening, opened, declarations_in, parts_within, parts_in}
use Rattle.efl_expressions.specs.declared.names.Block.{Block}
use Rattle.efl_expressions.specs.declared.names.Blocks.{Blocks}
use Rattle.efl_expressions.specs.NameViews.{entry_in, meaning_in, IsMeaningIfAny, Know}
use Rattle.efl_scoped.specs.Seen.{table_of}
use Rattle.efl_blocks.specs.declared.homes.Homes.{Homes}
use Rattle.efl_blocks.proofs.WithinLemmas.{within_known}
use Rattle.efl_blocks.proofs.HomeLemmas.{homes_within, all_homes, entering_homes}
use Rattle.efl_blocks.specs.declared.types.Types.{Types}
use Rattle.efl_blocks.specs.Within.{Within}
use Rattle.efl_blocks.specs.HomeViews.{position_of, home_in, home_if, AreHomes, IsHome, HomesWithin}
use Rattle.efl_blocks.specs.DeclaredViews.{Opens}
use Rattle.efl_blocks.proofs.LaterLemmas.{later_on}
use Rattle.efl_reading.specs.declared.sites.Site.{Site}
use Rattle.efl_reading.specs.declared.walk.Walk.{Walk}
use Rattle.efl_reading.specs.Reading.{IsProcedure, IsSite}
use Rattle.efl_reading.specs.Walked.{Read}
use Rattle.efl_declarations.specs.Checks.{IsInner, ChecksDeclarations}
use Rattle.efl_checks.specs.Walks.{KindFits, AllFit, IsListed, IsMade, Reads, ReadsInside}
use Rattle.efl_reading.proofs.SiteLemmas.{procedure_later, site_later}

-- the statements, among the block and those around it
pub inside_read : (y z : Types) (s t : Site) (known : Block) (blocks : Blocks) (homes : Homes) (p q : Walk) (ss : EflStmts) → IsMade s.procedure.now s.position.now s.formals.now blocks homes t →
    ((x : Text) → meaning_in blocks x ≡ option_or (entry_in known x) (meaning_in s.blocks.now x)) →
    ((x : Text) → home_in homes x ≡ home_if (position_of s.position.now) (entry_in known x) (home_in s.homes.now x)) →
    Reads y t p (AllFit ss) (λ a. parts_in 0 a ss) z q → ReadsInside y known s p ss z q
inside_read y z s t known blocks homes p q ss made means stand reads = record {
  later = reads.later;
  adds = λ fit us u a b bs vs is read.
      let known_all : Know (table_of y.numbers) y.structures.list.items (b ∷ bs) blocks =
      λ x. subst (IsMeaningIfAny (table_of y.numbers) y.structures.list.items (meaning (b ∷ bs) x)) (sym (means x)) (within_known y (b ∷ bs) known s.blocks.now is.within x) in
      let own : IsHome u b (position_of s.position.now) = subst (IsHome u b) is.position is.own in
      let stand_all : AreHomes u (b ∷ bs) homes = homes_within y u b bs known s.blocks.now s.homes.now homes (position_of s.position.now) is.within own is.homes stand in
      let site : IsSite y us u a t = record {
        procedure = subst (IsProcedure y us u) (sym made.procedure) is.procedure;
        unit = is.unit ∙ sym (ap (λ o. o.unit) made.procedure);
        position = is.position ∙ sym (ap position_of made.position);
        formals = is.formals ∙ sym made.formals;
        blocks = subst (λ cs. Know (table_of y.numbers) y.structures.list.items cs t.blocks.now) (sym is.blocks) (subst (Know (table_of y.numbers) y.structures.list.items (b ∷ bs)) (sym made.blocks) known_all);
        homes = subst (λ cs. AreHomes u cs t.homes.now) (sym is.blocks) (subst (AreHomes u (b ∷ bs)) (sym made.homes) stand_all);
      } in
      reads.adds fit us u a vs site read;
}

-- blocks, with the innermost apart
innermost : (y : Types) (u : EflProcedure) (cs : scopes.Blocks) (known : Block) (beyond : Blocks) (homes : Homes) (h : List ℕ) → Within y cs known beyond → HomesWithin u cs h homes →
    (b : scopes.Block) × (bs : scopes.Blocks) × (cs ≡ b ∷ bs) × Within y (b ∷ bs) known beyond × HomesWithin u (b ∷ bs) h homes
innermost y u [] known beyond homes h is own = absurd is
innermost y u (b ∷ bs) known beyond homes h is own = (b, bs, refl, is, own)

-- the declarations of a block, and then its statements
pub declared_read : (y z w : Types) (us : List EflProcedure) (u : EflProcedure) (a c : Around) (s t : Site) (first known : Block) (p q r : Walk) (ds : List EflDecl) (ss : EflStmts) (vs : List Part)
    (before : List Text) → Within y a.blocks first t.blocks.now → HomesWithin u a.blocks a.position t.homes.now → IsProcedure y us u t.procedure.now → a.unit ≡ t.procedure.now.unit →
    a.position ≡ position_of t.position.now → a.formals ≡ t.formals.now → s.procedure.now ≡ t.procedure.now → s.blocks.now ≡ t.blocks.now → s.homes.now ≡ t.homes.now →
    c.unit ≡ s.procedure.now.unit → c.position ≡ position_of s.position.now → c.formals ≡ s.formals.now → c.position ≡ a.position → c.blocks ≡ behind_all a.blocks ds →
    ChecksDeclarations y first t p ds z known q → ReadsInside z known s q ss w r → AllFit ss → Read us vs p → Read us (vs ++ (declarations_in a before ds ++ parts_in 0 c ss)) r
declared_read y z w us u a c s t first known p q r ds ss vs before within own procedure unit position formals same_procedure same_blocks same_homes unit_after position_after formals_after stays opened checks
    reads fit read =
    let one = innermost y u a.blocks first t.blocks.now t.homes.now a.position within own in
    let inner : IsInner y us u a one.0 one.1 t first = record {
      procedure = procedure;
      unit = unit;
      position = position;
      formals = formals;
      blocks = one.2;
      within = one.3;
      own = one.4.0;
      homes = one.4.1;
    } in
    let declared = checks.reads us u a one.0 one.1 before vs inner read in
    let two = innermost z u (behind_all a.blocks ds) known t.blocks.now t.homes.now a.position (checks.knows a.blocks within) (all_homes u a.position t.homes.now a.blocks ds own) in
    let after : IsInner z us u c two.0 two.1 s known = record {
      procedure = procedure_later y z us u s.procedure.now checks.later (subst (IsProcedure y us u) (sym same_procedure) procedure);
      unit = unit_after;
      position = position_after;
      formals = formals_after;
      blocks = opened ∙ two.2;
      within = subst (Within z (two.0 ∷ two.1) known) (sym same_blocks) two.3;
      own = subst (IsHome u two.0) (sym stays) two.4.0;
      homes = subst (AreHomes u two.1) (sym same_homes) two.4.1;
    } in
    subst (λ ws. Read us ws r) (append_assoc vs (declarations_in a before ds) (parts_in 0 c ss)) (reads.adds fit us u c two.0 two.1 (vs ++ declarations_in a before ds) after declared)

pub block_read : (y z w v : Types) (s t : Site) (first known : Block) (p q r : Walk) (ds : List EflDecl) (ss : EflStmts) → IsMade s.procedure.now s.position.now [] s.blocks.now s.homes.now t →
    Opens y s.blocks.now ds z first → ChecksDeclarations z first t p ds w known q → ReadsInside w known s q ss v r →
    Reads y s p (KindFits (ABlock ds ss) × IsListed s.position.now) (λ a. parts_within a (ABlock ds ss)) v r
block_read y z w v s t first known p q r ds ss made opens checks reads = record {
  later = later_on y w v (later_on y z w opens.later checks.later) reads.later;
  adds = λ fit us u a vs is read.
      let here = site_later y z us u a s opens.later is in
      let at : a.position ≡ fit.1.0 ∷ fit.1.1 = is.position ∙ fit.1.2 in
      let own : HomesWithin u (entering a.position ds a.blocks) a.position s.homes.now =
      subst (λ h. HomesWithin u (entering h ds a.blocks) h s.homes.now) (sym at) (entering_homes u fit.1.0 fit.1.1 ds a.blocks s.homes.now (fit.0.0 fit.1.0 fit.1.1) is.homes) in
      declared_read z w v us u (opening ds a) (in_list ss (opened ds a)) s t first known p q r ds ss vs []
      (subst (Within z (entering a.position ds a.blocks) first) (sym made.blocks) (opens.opens a.position a.blocks is.blocks))
      (subst (HomesWithin u (entering a.position ds a.blocks) a.position) (sym made.homes) own)
      (subst (IsProcedure z us u) (sym made.procedure) here.procedure) (is.unit ∙ sym (ap (λ o. o.unit) made.procedure)) (is.position ∙ sym (ap position_of made.position)) (sym made.formals)
      (sym made.procedure) (sym made.blocks) (sym made.homes) is.unit is.position is.formals refl refl checks reads fit.0.1 read;
}
