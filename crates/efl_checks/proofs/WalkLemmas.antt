-- What a walk over parts keeps, and how it goes on.
use Rattle.std.proofs.Common.{◌≡◌, ℕ, ℤ, ◌+◌, ◌<◌, Bool, false, ◌||◌, List, [], ◌∷◌, ◌++◌, Option, Some, None, Box, Vec, Global, ◌⊎◌, inl, inr, length, drop, get_or, refl, sym, ap, subst, ◌∙◌, append_assoc}
use Rattle.std.specs.List.{slice_get}
use Rattle.std.specs.Option.{option_map, unwrap_or}
use Rattle.std.proofs.lemmas.List.{append-nil}
use Rattle.ground.specs.declared.place.Place.{Place}
use Rattle.efl_tree.specs.declared.expression.EflExpr as exprs
use Rattle.efl_tree.specs.declared.expression.EflExpr.{EflExpr}
use Rattle.efl_tree.specs.declared.statement.EflCase as cases
use Rattle.efl_tree.specs.declared.statement.EflStmt as stmts
use Rattle.efl_tree.specs.declared.statement.EflKind as kinds_in
use Rattle.efl_tree.specs.declared.statement.EflKind.TheVariants as kinds
use Rattle.efl_tree.specs.declared.statement.WriteItem.{WriteItem}
use Rattle.efl_tree.specs.declared.statement.ReadItem.{ReadItem}
use Rattle.efl_tree.specs.declared.statement.LoopKind.{LoopKind}
use Rattle.efl_tree.specs.declared.statement.LoopKind.TheVariants as loops
use Rattle.efl_tree.specs.Syntax.{Text, EflKind, EflStmts, AndStmt, EflCases, NoCase, AndCase, EflStmt, EflProcedure}
use Rattle.efl_tree.specs.Views.{stmt_of, kind_of, repeated, stmts_of, case_then, cases_of}
use Rattle.efl_tree.proofs.Rows.{clause_is}
use Rattle.efl_scope.proofs.TreeLemmas.{drop_next}
use Rattle.efl_scope.specs.Parts.{Form, Chooses, Around, Part, part, into, in_list, in_loop, parts_of, parts_within, parts_in, clauses_in}
use Rattle.efl_types.specs.declared.rule.TypeRule.{TypeRule}
use Rattle.efl_types.specs.TypeRules.{faults_by, part_faults, presets_of}
use Rattle.efl_types.specs.Statements.{clause_faults}
use Rattle.efl_expressions.specs.FirstRule.{first_rule}
use Rattle.efl_scoped.specs.Seen.{table_of}
use Rattle.efl_expressions.specs.NameViews.{Know}
use Rattle.efl_storage.specs.declared.storage.Storage.{Storage}
use Rattle.efl_storage.specs.Firsts.{AreFirsts}
use Rattle.efl_blocks.specs.declared.types.Types.{Types}
use Rattle.efl_blocks.specs.declared.homes.Position.{Position}
use Rattle.efl_blocks.specs.Within.{Later}
use Rattle.efl_blocks.specs.HomeViews.{position_of, AreHomes}
use Rattle.efl_blocks.proofs.LaterLemmas.{later_same, later_on}
use Rattle.efl_reading.specs.declared.sites.Site.{Site}
use Rattle.efl_reading.specs.declared.progress.Progress.{Progress}
use Rattle.efl_reading.specs.declared.walk.Walk.{Walk}
use Rattle.efl_statements.specs.declared.clauses.Chosen.{Chosen}
use Rattle.efl_statements.specs.Clauses.{AreChosen}
use Rattle.efl_reading.specs.Reading.{IsProcedure, IsSite, Behind}
use Rattle.efl_reading.specs.Counting.{CountsAt}
use Rattle.efl_reading.specs.Walked.{Read}
use Rattle.efl_reading.proofs.SiteLemmas.{site_later}
use Rattle.efl_reading.proofs.CountingLemmas.{none_counted}
use Rattle.efl_checks.specs.Walks.{IsFit, KindFits, AllFit, CasesFit, OtherFits, IsListed, names_around, IsMade, Adds, Reads, first_parts, other_parts, until_parts}

-- ---- one part ----

pub faults_there : (us : List EflProcedure) (u : EflProcedure) (a : Around) (p : Place) (form : Form) → slice_get us a.unit ≡ Some u → part_faults us (part a p form) ≡ faults_by u (names_around us u a) a form
faults_there us u a p form found = ap (λ o. unwrap_or (option_map (λ w. faults_by w (names_around us w a) a form) o) []) found

-- what a part breaks by itself, by the procedure that it stands in
pub rule_there : {R : Type 0} (f : List TypeRule → R) (us : List EflProcedure) (u : EflProcedure) (a : Around) (p : Place) (form : Form) (rule : R) → slice_get us a.unit ≡ Some u →
    rule ≡ f (faults_by u (names_around us u a) a form) → rule ≡ f (part_faults us (part a p form))
rule_there f us u a p form rule found is = is ∙ sym (ap f (faults_there us u a p form found))

pub found_there : (y : Types) (us : List EflProcedure) (u : EflProcedure) (a : Around) (s : Site) → IsSite y us u a s → slice_get us a.unit ≡ Some u
found_there y us u a s is = ap (slice_get us) is.unit ∙ is.procedure.found

-- ---- one behind the other ----

pub reads_one : (y : Types) (s : Site) (p q : Walk) (Fit : Type 0) (parts : Around → List Part) → Adds y s p parts q → Reads y s p Fit parts y q
reads_one y s p q Fit parts adds = record { later = later_same y; adds = λ fit. adds }

pub reads_none : (y : Types) (s : Site) (p : Walk) (Fit : Type 0) → Reads y s p Fit (λ a. []) y p
reads_none y s p Fit = record { later = later_same y; adds = λ fit us u a vs is read. subst (λ ws. Read us ws p) (sym (append-nil vs)) read }

pub reads_on : (y z w : Types) (s : Site) (p q r : Walk) (Fit : Type 0) (one two : Around → List Part) → Reads y s p Fit one z q → Reads z s q Fit two w r →
    Reads y s p Fit (λ a. one a ++ two a) w r
reads_on y z w s p q r Fit one two first second = record {
  later = later_on y z w first.later second.later;
  adds = λ fit us u a vs is read.
      subst (λ ws. Read us ws r) (append_assoc vs (one a) (two a))
      (second.adds fit us u a (vs ++ one a) (site_later y z us u a s first.later is) (first.adds fit us u a vs is read));
}

pub reads_same : (y z : Types) (s : Site) (p q : Walk) (Fit : Type 0) (one two : Around → List Part) → ((a : Around) → one a ≡ two a) → Reads y s p Fit one z q → Reads y s p Fit two z q
reads_same y z s p q Fit one two same reads = record {
  later = reads.later;
  adds = λ fit us u a vs is read. subst (λ ws. Read us (vs ++ ws) q) (same a) (reads.adds fit us u a vs is read);
}

pub reads_fit : (y z : Types) (s : Site) (p q : Walk) (Fit More : Type 0) (parts : Around → List Part) → (More → Fit) → Reads y s p Fit parts z q → Reads y s p More parts z q
reads_fit y z s p q Fit More parts fits reads = record { later = reads.later; adds = λ more. reads.adds (fits more) }

-- at another site
reads_moved : (y z : Types) (s t : Site) (p q : Walk) (Fit : Type 0) (f : Around → Around) (parts : Around → List Part) →
    ((us : List EflProcedure) (u : EflProcedure) (a : Around) → IsSite y us u a s → IsSite y us u (f a) t) → Reads y t p Fit parts z q → Reads y s p Fit (λ a. parts (f a)) z q
reads_moved y z s t p q Fit f parts there reads = record {
  later = reads.later;
  adds = λ fit us u a vs is read. reads.adds fit us u (f a) vs (there us u a is) read;
}

-- in a list
pub into_read : (y z : Types) (s t : Site) (p q : Walk) (Fit : Type 0) (n : ℕ) (place : Position) (parts : Around → List Part) →
    IsMade s.procedure.now place s.formals.now s.blocks.now s.homes.now t → position_of place ≡ n ∷ position_of s.position.now → Reads y t p Fit parts z q → Reads y s p Fit (λ a. parts (into n a)) z q
into_read y z s t p q Fit n place parts made e reads = reads_moved y z s t p q Fit (into n) parts there reads
  where
    there : (us : List EflProcedure) (u : EflProcedure) (a : Around) → IsSite y us u a s → IsSite y us u (into n a) t
    there us u a is = record {
      procedure = subst (IsProcedure y us u) (sym made.procedure) is.procedure;
      unit = is.unit ∙ sym (ap (λ o. o.unit) made.procedure);
      position = ap (λ h. n ∷ h) is.position ∙ sym e ∙ sym (ap position_of made.position);
      formals = is.formals ∙ sym made.formals;
      blocks = subst (Know (table_of y.numbers) y.structures.list.items a.blocks) (sym made.blocks) is.blocks;
      homes = subst (AreHomes u a.blocks) (sym made.homes) is.homes;
    }

-- a statement of a list stands there
pub at_read : (y z : Types) (s t : Site) (p q : Walk) (Fit : Type 0) (n : ℕ) (place : Position) (parts : Around → List Part) →
    IsMade s.procedure.now place s.formals.now s.blocks.now s.homes.now t → position_of place ≡ n ∷ position_of s.position.now →
    Reads y t p (Fit × IsListed t.position.now) parts z q → Reads y s p Fit (λ a. parts (into n a)) z q
at_read y z s t p q Fit n place parts made e reads =
    into_read y z s t p q Fit n place parts made e
    (reads_fit y z t p q (Fit × IsListed t.position.now) Fit parts (λ fit. (fit, (n, position_of s.position.now, ap position_of made.position ∙ e))) reads)

-- ---- what is left ----

-- of these parts the rest is left, whatever stands before
pub record PartsLeft (y : Types) (s : Site) (p : Walk) (Fit : Type 0) (parts : Around → List Part) (z : Types) (q : Walk) (Rest : Type 0) (rest : Around → List Part) : Type 0 where
  pub later : Later y z
  pub fit : Fit → Rest
  pub left : Fit → (us : List EflProcedure) (u : EflProcedure) (a : Around) (vs : List Part) → IsSite y us u a s → Read us vs p →
      (ws : List Part) × Read us ws q × (ws ++ rest a ≡ vs ++ parts a)

pub parts_begun : (y : Types) (s : Site) (p : Walk) (Fit : Type 0) (parts : Around → List Part) → PartsLeft y s p Fit parts y p Fit parts
parts_begun y s p Fit parts = record { later = later_same y; fit = λ fit. fit; left = λ fit us u a vs is read. (vs, read, refl) }

pub parts_passed : (y z w : Types) (s : Site) (p q r : Walk) (Fit One Rest : Type 0) (parts one rest : Around → List Part) → PartsLeft y s p Fit parts z q (One × Rest) (λ a. one a ++ rest a) →
    Reads z s q One one w r → PartsLeft y s p Fit parts w r Rest rest
parts_passed y z w s p q r Fit One Rest parts one rest before reads = record {
  later = later_on y z w before.later reads.later;
  fit = λ fit. (before.fit fit).1;
  left = λ fit us u a vs is read.
      let at = before.left fit us u a vs is read in
      (at.0 ++ one a, reads.adds (before.fit fit).0 us u a at.0 (site_later y z us u a s before.later is) at.1, append_assoc at.0 (one a) (rest a) ∙ at.2);
}

pub parts_ended : (y z : Types) (s : Site) (p q : Walk) (Fit Rest : Type 0) (parts : Around → List Part) → PartsLeft y s p Fit parts z q Rest (λ a. []) → Reads y s p Fit parts z q
parts_ended y z s p q Fit Rest parts all = record {
  later = all.later;
  adds = λ fit us u a vs is read. let at = all.left fit us u a vs is read in subst (λ ws. Read us ws q) (sym (append-nil at.0) ∙ at.2) at.1;
}

-- ---- statements ----

abbrev NotesPart : Place → Option TypeRule → Progress → Progress → Type 0
NotesPart place rule q m = (us : List EflProcedure) (vs : List Part) (v : Part) → Behind us vs q → v.place ≡ place → presets_of v.form ≡ [] → rule ≡ first_rule (part_faults us v) → Behind us (vs ++ v ∷ []) m

-- noted and counted
pub part_read : (y : Types) (s : Site) (q m : Walk) (place : Place) (rule : Option TypeRule) (form : Form) → NotesPart place rule q.progress m.progress → presets_of form ≡ [] →
    ((us : List EflProcedure) (u : EflProcedure) (a : Around) → IsSite y us u a s → rule ≡ first_rule (faults_by u (names_around us u a) a form)) → CountsAt y s form q.storage m.storage →
    m.firsts ≡ q.firsts → Adds y s q (λ a. part a place form ∷ []) m
part_read y s q m place rule form notes none ruled counts same us u a vs is read = record {
  tells = notes us vs (part a place form) read.tells refl none (rule_there first_rule us u a place form rule (found_there y us u a s is) (ruled us u a is));
  counts = counts us u a place vs is read.counts;
  firsts = subst (AreFirsts us) (sym same) read.firsts;
}

-- a clause meets no variable
clause_counted : (y : Types) (s : Site) (zs before : List ℤ) (fallback seen : Bool) (storage : Storage) → CountsAt y s (Chooses zs fallback before seen) storage storage
clause_counted y s zs before fallback seen storage us u a p vs is counted = none_counted us vs (part a p (Chooses zs fallback before seen) ∷ []) storage (refl, refl, tt) counted

listing : (ss : EflStmts) (y : Types) (us : List EflProcedure) (u : EflProcedure) (a : Around) (s : Site) → IsSite y us u a s → IsSite y us u (in_list ss a) s
listing ss y us u a s is = record { procedure = is.procedure; unit = is.unit; position = is.position; formals = is.formals; blocks = is.blocks; homes = is.homes }

-- a list, whose labels no type asks about
pub list_read : (y z : Types) (s : Site) (p q : Walk) (Fit : Type 0) (ss : EflStmts) → Reads y s p Fit (λ a. parts_in 0 a ss) z q → Reads y s p Fit (λ a. parts_in 0 (in_list ss a) ss) z q
list_read y z s p q Fit ss reads = reads_moved y z s s p q Fit (in_list ss) (λ a. parts_in 0 a ss) (λ us u a is. listing ss y us u a s is) reads

looping : (k : LoopKind) (y : Types) (us : List EflProcedure) (u : EflProcedure) (a : Around) (s : Site) → IsSite y us u a s → IsSite y us u (in_loop k a) s
looping k y us u a s is = record { procedure = is.procedure; unit = is.unit; position = is.position; formals = is.formals; blocks = is.blocks; homes = is.homes }

-- what stands in a loop or a switch
pub loop_read : (k : LoopKind) (y z : Types) (s : Site) (p q : Walk) (Fit : Type 0) (parts : Around → List Part) → Reads y s p Fit parts z q → Reads y s p Fit (λ a. parts (in_loop k a)) z q
loop_read k y z s p q Fit parts reads = reads_moved y z s s p q Fit (in_loop k) parts (λ us u a is. looping k y us u a s is) reads

abbrev pub ReadsKind : Types → Site → Walk → EflKind → Types → Walk → Type 0
ReadsKind y s p k z q = Reads y s p (KindFits k × IsListed s.position.now) (λ a. parts_within a k) z q

pub until_read : (y z : Types) (s : Site) (p q r : Walk) (x : EflStmt) (o : Option (EflExpr × Place)) → Reads y s p (IsFit x × IsListed s.position.now) (λ a. parts_of a x) z q →
    Adds z s q (until_parts o) r → ReadsKind y s p (repeated x o) z r
until_read y z s p q r x None reads adds =
    let Fit = IsFit x × IsListed s.position.now in
    let one = λ (a : Around). parts_of (in_loop loops.Repeat a) x in
    reads_same y z s p r Fit (λ a. one a ++ []) one (λ a. append-nil (one a))
    (reads_on y z z s p q r Fit one (λ a. []) (loop_read loops.Repeat y z s p q Fit (λ a. parts_of a x) reads) (reads_one z s q r Fit (λ a. []) adds))
until_read y z s p q r x (Some u) reads adds =
    let Fit = IsFit x × IsListed s.position.now in
    reads_on y z z s p q r Fit (λ a. parts_of (in_loop loops.Repeat a) x) (until_parts (Some u)) (loop_read loops.Repeat y z s p q Fit (λ a. parts_of a x) reads)
    (reads_one z s q r Fit (until_parts (Some u)) adds)

-- both statements of an `if`
pub branches_read : (y z w : Types) (s : Site) (p q r : Walk) (e : exprs.EflExpr) (b : Box stmts.EflStmt Global) (o : Option (Box stmts.EflStmt Global)) →
    Reads y s p (IsFit (stmt_of b.value) × IsListed s.position.now) (first_parts (stmt_of b.value) o) z q → Reads z s q (OtherFits o) (other_parts o) w r → ReadsKind y s p (kind_of (kinds.If e b o)) w r
branches_read y z w s p q r e b None first second =
    let Fit = IsFit (stmt_of b.value) × IsListed s.position.now in
    let one = λ (a : Around). parts_of a (stmt_of b.value) in
    reads_same y w s p r Fit (λ a. one a ++ []) one (λ a. append-nil (one a)) (reads_on y z w s p q r Fit one (λ a. []) first (reads_fit z w s q r (Unit {0}) Fit (λ a. []) (λ fit. tt) second))
branches_read y z w s p q r e b (Some t) first second =
    let x = stmt_of b.value in
    let v = stmt_of t.value in
    let Fit = (IsFit x × IsFit v) × IsListed s.position.now in
    reads_on y z w s p q r Fit (λ a. parts_of (into 0 a) x) (λ a. parts_of (into 1 a) v)
    (reads_fit y z s p q (IsFit x × IsListed s.position.now) Fit (λ a. parts_of (into 0 a) x) (λ fit. (fit.0.0, fit.1)) first)
    (reads_fit z w s q r (IsFit v) Fit (λ a. parts_of (into 1 a) v) (λ fit. fit.0.1) second)

-- statements that hold no others
abbrev pub IsPlain : kinds_in.EflKind → Type 0
IsPlain a =
    (a ≡ kinds.Empty) ⊎ (((e : EflExpr) × (a ≡ kinds.Act e)) ⊎ (((m : ℕ) × (o : Option LoopKind) × (a ≡ kinds.Break m o)) ⊎ (((m : ℕ) × (o : Option LoopKind) × (a ≡ kinds.Next m o))
    ⊎ (((o : Option EflExpr) × (a ≡ kinds.Return o)) ⊎ (((x : Text) × (a ≡ kinds.Goto x)) ⊎ (((o : Option EflExpr) × (all : Vec WriteItem Global) × (a ≡ kinds.Write o all))
    ⊎ ((o : Option EflExpr) × (all : Vec ReadItem Global) × (a ≡ kinds.Read o all))))))))

pub plain_read : (y : Types) (s : Site) (p : Walk) (a : kinds_in.EflKind) → IsPlain a → ReadsKind y s p (kind_of a) y p
plain_read y s p a is = each a is
  where
    none : (k : kinds_in.EflKind) → a ≡ k → ReadsKind y s p (kind_of k) y p → ReadsKind y s p (kind_of a) y p
    none k e reads = subst (λ b. ReadsKind y s p (kind_of b) y p) (sym e) reads

    each : (b : kinds_in.EflKind) → IsPlain a → ReadsKind y s p (kind_of a) y p
    each b (inl e) = none kinds.Empty e (reads_none y s p (Unit {0} × IsListed s.position.now))
    each b (inr (inl (x, e))) = none (kinds.Act x) e (reads_none y s p (Unit {0} × IsListed s.position.now))
    each b (inr (inr (inl (m, o, e)))) = none (kinds.Break m o) e (reads_none y s p (Unit {0} × IsListed s.position.now))
    each b (inr (inr (inr (inl (m, o, e))))) = none (kinds.Next m o) e (reads_none y s p (Unit {0} × IsListed s.position.now))
    each b (inr (inr (inr (inr (inl (o, e)))))) = none (kinds.Return o) e (reads_none y s p (Unit {0} × IsListed s.position.now))
    each b (inr (inr (inr (inr (inr (inl (x, e))))))) = none (kinds.Goto x) e (reads_none y s p (Unit {0} × IsListed s.position.now))
    each b (inr (inr (inr (inr (inr (inr (inl (o, all, e)))))))) = none (kinds.Write o all) e (reads_none y s p (Unit {0} × IsListed s.position.now))
    each b (inr (inr (inr (inr (inr (inr (inr (o, all, e)))))))) = none (kinds.Read o all) e (reads_none y s p (Unit {0} × IsListed s.position.now))

-- one statement more
pub statement_passed : (y z w : Types) (s : Site) (p q r : Walk) (all : EflStmts) (n : ℕ) (x : EflStmt) (rest : EflStmts) →
    PartsLeft y s p (AllFit all) (λ a. parts_in 0 a all) z q (AllFit (AndStmt x rest)) (λ a. parts_in n a (AndStmt x rest)) → Reads z s q (IsFit x) (λ a. parts_of (into n a) x) w r →
    PartsLeft y s p (AllFit all) (λ a. parts_in 0 a all) w r (AllFit rest) (λ a. parts_in (n + 1) a rest)
statement_passed y z w s p q r all n x rest before reads =
    parts_passed y z w s p q r (AllFit all) (IsFit x) (AllFit rest) (λ a. parts_in 0 a all) (λ a. parts_of (into n a) x) (λ a. parts_in (n + 1) a rest) before reads

-- ---- clauses ----

pub record ClausesLeft (y : Types) (s : Site) (p : Walk) (all : EflCases) (z : Types) (q : Walk) (now : Chosen) (n : ℕ) (rest : EflCases) : Type 0 where
  pub before : List ℤ
  pub seen : Bool
  pub chosen : AreChosen before seen now
  pub left : PartsLeft y s p (CasesFit all) (λ a. clauses_in 0 a [] false all) z q (CasesFit rest) (λ a. clauses_in n a before seen rest)

pub clauses_begun : (y : Types) (s : Site) (p : Walk) (all : EflCases) (now : Chosen) → AreChosen [] false now → ClausesLeft y s p all y p now 0 all
clauses_begun y s p all now none = record { before = []; seen = false; chosen = none; left = parts_begun y s p (CasesFit all) (λ a. clauses_in 0 a [] false all) }

-- one clause more
pub clause_passed : (y z w : Types) (s : Site) (p q m r : Walk) (all : EflCases) (now new : Chosen) (n : ℕ) (zs : List ℤ) (fallback : Bool) (ss : EflStmts) (place : Place) (rest : EflCases)
    (rule : Option TypeRule) → ClausesLeft y s p all z q now n (AndCase zs fallback ss place rest) →
    ((before : List ℤ) (seen : Bool) → AreChosen before seen now → rule ≡ first_rule (clause_faults zs fallback before seen)) →
    ((before : List ℤ) (seen : Bool) → AreChosen before seen now → AreChosen (before ++ zs) (seen || fallback) new) →
    NotesPart place rule q.progress m.progress → m.storage ≡ q.storage → m.firsts ≡ q.firsts → Reads z s m (AllFit ss) (λ a. parts_in 0 (in_list ss (into n a)) ss) w r → ClausesLeft y s p all w r new (n + 1) rest
clause_passed y z w s p q m r all now new n zs fallback ss place rest rule before ruled grows notes stored same body =
    let zs0 = before.before in
    let seen = before.seen in
    let form = Chooses zs fallback zs0 seen in
    let own = part_read z s q m place rule form notes refl (λ us u a is. ruled zs0 seen before.chosen)
    (subst (CountsAt z s form q.storage) (sym stored) (clause_counted z s zs zs0 fallback seen q.storage)) same in
    let one = reads_on z z w s q m r (AllFit ss) (λ a. part a place form ∷ []) (λ a. parts_in 0 (in_list ss (into n a)) ss) (reads_one z s q m (AllFit ss) (λ a. part a place form ∷ []) own) body in
    record {
      before = zs0 ++ zs;
      seen = seen || fallback;
      chosen = grows zs0 seen before.chosen;
      left = parts_passed y z w s p q r (CasesFit all) (AllFit ss) (CasesFit rest) (λ a. clauses_in 0 a [] false all) (λ a. part a place form ∷ parts_in 0 (in_list ss (into n a)) ss)
          (λ a. clauses_in (n + 1) a (zs0 ++ zs) (seen || fallback) rest) before.left one;
    }

pub clauses_ended : (y z : Types) (s : Site) (p q : Walk) (all : EflCases) (now : Chosen) (n : ℕ) → ClausesLeft y s p all z q now n NoCase →
    Reads y s p (CasesFit all) (λ a. clauses_in 0 a [] false all) z q
clauses_ended y z s p q all now n done = parts_ended y z s p q (CasesFit all) (Unit {0}) (λ a. clauses_in 0 a [] false all) done.left

clause_then-is : (c : cases.EflCase) (rest : EflCases) →
    case_then c rest ≡ AndCase (cases.out-EflCase c).tests.items (cases.out-EflCase c).fallback (stmts_of (cases.out-EflCase c).body.items) (cases.out-EflCase c).place rest
clause_then-is c rest =
    let o = cases.out-EflCase c in
    sym (ap (λ x. case_then x rest) (cases.roll-out-EflCase c)) ∙ ap (λ f. f rest) (clause_is o.tests o.fallback o.body o.place)

-- the clauses from one on
pub clauses_next : (list : List cases.EflCase) (i : ℕ) (c : cases.EflCase) → i < length list → c ≡ get_or list i c →
    cases_of (drop i list) ≡ AndCase (cases.out-EflCase c).tests.items (cases.out-EflCase c).fallback (stmts_of (cases.out-EflCase c).body.items) (cases.out-EflCase c).place (cases_of (drop (i + 1) list))
clauses_next list i c lt is = ap cases_of (drop_next list i c lt is) ∙ clause_then-is c (cases_of (drop (i + 1) list))
