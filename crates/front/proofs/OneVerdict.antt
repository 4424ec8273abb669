-- A text has one verdict.
use Rattle.std.proofs.Common.{◌≡◌, List, ◌⊎◌, inl, inr, sym, ◌∙◌, ap, subst}
use Rattle.std.specs.Prelude.{◌↔◌, Result, Ok, Err}
use Rattle.ground.specs.declared.fault.Fault.{Fault}
use Rattle.ground.specs.declared.token.Token.{Token}
use Rattle.ground.specs.declared.token.Dialect.{Dialect}
use Rattle.ground.specs.declared.token.Dialect.TheVariants.{Ratfor, Efl}
use Rattle.grammar.specs.Grammar.{Grammar}
use Rattle.grammar.specs.Limits.{Meter}
use Rattle.grammar.specs.Limits as table
use Rattle.grammar.specs.Answers as answers
use Rattle.macro_define.specs.Expansion.{Stop, GatherState, gathered}
use Rattle.rat_tree.specs.Syntax.{RatProgram}
use Rattle.rat_grammar.specs.Relation as relation
use Rattle.rat_grammar.specs.Answers as ratfor_answers
use Rattle.rat_grammar.specs.Laws as ratfor
use Rattle.efl_tree.specs.Syntax.{EflProgram}
use Rattle.efl_grammar.specs.Answers as efl_answers
use Rattle.efl_grammar.specs.Laws as efl
use Rattle.efl_checks.specs.Answers.{typed_fault}
use Rattle.front.specs.Checked.{Checked, Faulty, Means}
use Rattle.front.specs.Ratfor.{IsJudged}
use Rattle.front.specs.Efl as efl_front
use Rattle.front.specs.Verdict.{Verdict, IsChecked, in_files, IsVerdictOf}
use Rattle.front.specs.Laws.{OneFirstFault, AcceptedHasNone, OneMeaning, OneVerdict}
use Rattle.front.proofs.FirstFaults.{one_fault, no_fault}
use Rattle.front.proofs.ScopeFaults.{one_first, scoped_has_none}
use Rattle.front.proofs.WholeFaults.{one_typed}

-- a text has one first fault, or one tree
record HasOneAnswer {W : Type 0} (First : List Token → Fault → Type 0) (Accepts : List Token → W → Type 0) : Type 0 where
  faults : (ts : List Token) (a b : Fault) → First ts a → First ts b → a ≡ b
  none : (ts : List Token) (w : W) (fault : Fault) → Accepts ts w → First ts fault → ⊥
  trees : (ts : List Token) (v w : W) → Accepts ts v → Accepts ts w → v ≡ w

-- So it comes to one thing, where a tree does.
module _ {W : Type 0} (First : List Token → Fault → Type 0) (Accepts : List Token → W → Type 0) (answer : HasOneAnswer First Accepts) (Comes : W → Checked → Type 0) (one : (w : W) (a b : Checked) → Comes w a → Comes w b → a ≡ b) where
  abbrev IsFound : List Token → Checked → Type 0
  IsFound ts c = ((fault : Fault) × First ts fault × (c ≡ Faulty fault)) ⊎ ((tree : W) × Accepts ts tree × Comes tree c)

  one_found : (ts : List Token) → (a b : Checked) → IsFound ts a → IsFound ts b → a ≡ b
  one_found ts a b (inl h) (inl k) = h.2 ∙ (ap Faulty (answer.faults ts h.0 k.0 h.1 k.1) ∙ sym k.2)
  one_found ts a b (inl h) (inr k) = absurd (answer.none ts k.0 h.0 k.1 h.1)
  one_found ts a b (inr h) (inl k) = absurd (answer.none ts h.0 k.0 h.1 k.1)
  one_found ts a b (inr h) (inr k) = one k.0 a b (subst (λ w. Comes w a) (answer.trees ts h.0 k.0 h.1 k.1) h.2) k.2

-- ---- grammars ----

-- a published grammar answers one thing of a text, where its table answers the same
one_answer : {W T N P V M : Type 0} (Program : List Token → W → Type 0) (g : Grammar Token T N P V) (meter : Meter T P M) (value : W → V) →
    ((ts : List Token) (w : W) → table.IsAccepted g meter ts (value w) ↔ relation.IsAccepted Program g meter ts w) →
    ((ts : List Token) (fault : Fault) → answers.IsFirstFault g meter ts fault ↔ relation.IsFirstFault Program g meter ts fault) →
    HasOneAnswer (relation.IsFirstFault Program g meter) (relation.IsAccepted Program g meter)
one_answer Program g meter value accepted faults = record {
  faults = λ ts a b h k. one_fault g meter ts a b ((faults ts a).1 h) ((faults ts b).1 k);
  none = λ ts tree fault h k. no_fault g meter ts _ fault ((accepted ts tree).1 h) ((faults ts fault).1 k);
  trees = λ ts v w h k. h.only w k.is;
}

one_ratfor : ratfor.AnswersArePublished → HasOneAnswer ratfor_answers.IsFirstFault ratfor_answers.IsAccepted
one_ratfor same = one_answer _ _ _ _ same.accepted same.faults

one_efl : efl.AnswersArePublished → HasOneAnswer efl_answers.IsFirstFault efl_answers.IsAccepted
one_efl same = one_answer _ _ _ _ same.accepted same.faults

-- ---- what comes of a text ----

one_scoped : (tree : EflProgram) (a b : Checked) → efl_front.IsJudged tree a → efl_front.IsJudged tree b → a ≡ b
one_scoped tree a b (inl h) (inl k) = h.2 ∙ (ap Faulty (one_first tree h.0 k.0 h.1 k.1) ∙ sym k.2)
one_scoped tree a b (inl h) (inr k) = absurd (scoped_has_none tree h.0 k.0 h.1)
one_scoped tree a b (inr h) (inl k) = absurd (scoped_has_none tree k.0 h.0 k.1)
one_scoped tree a b (inr h) (inr k) = one_typed tree (typed_fault tree) a b h.1 k.1

module _ (ratfor_same : ratfor.AnswersArePublished) (efl_same : efl.AnswersArePublished) (faults : OneFirstFault) (none : AcceptedHasNone) (meanings : OneMeaning) where
  one_judged : (p : RatProgram) (a b : Checked) → IsJudged p a → IsJudged p b → a ≡ b
  one_judged p (Faulty f) (Faulty g) h k = ap Faulty (faults p f g h k)
  one_judged p (Faulty f) (Means n) h k = absurd (none p f k.0 h)
  one_judged p (Means m) (Faulty g) h k = absurd (none p g h.0 k)
  one_judged p (Means m) (Means n) h k = ap Means (meanings p m n h.0 h.1 k.1)

  one_checked : (d : Dialect) → (ts : List Token) → (a b : Checked) → IsChecked d ts a → IsChecked d ts b → a ≡ b
  one_checked Ratfor ts a b h k = one_found ratfor_answers.IsFirstFault ratfor_answers.IsAccepted (one_ratfor ratfor_same) IsJudged one_judged ts a b h k
  one_checked Efl ts a b h k = one_found efl_answers.IsFirstFault efl_answers.IsAccepted (one_efl efl_same) efl_front.IsJudged one_scoped ts a b h k

  one_of : (d : Dialect) → (told : Result GatherState Stop) → (a b : Verdict) → IsVerdictOf d told a → IsVerdictOf d told b → a ≡ b
  one_of d (Err stop) a b h k = h ∙ sym k
  one_of d (Ok w) a b h k = h.2 ∙ (ap (in_files w.files) (one_checked d w.made.tokens h.0 k.0 h.1 k.1) ∙ sym k.2)

  pub one_verdict : OneVerdict
  one_verdict d name known a b h k = one_of d (gathered d name known) a b h k
