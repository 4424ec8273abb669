-- What a table answers is what is answered by a relation between tokens and trees that has the same programs, for every table.
use Rattle.std.proofs.Common.{◌≡◌, ◌∙◌, inl, inr, suc, ◌++◌, List, refl, sym, ap, subst}
use Rattle.std.specs.Prelude.{◌↔◌, take, Result, Ok, Err}
use Rattle.ground.specs.declared.token.Token.{Token}
use Rattle.ground.specs.declared.fault.Fault.{Fault}
use Rattle.ground.specs.declared.fault.Refusal.{Refusal}
use Rattle.ground.specs.declared.fault.Refusal.TheVariants as refusals
use Rattle.grammar.specs.Grammar.{Grammar, IsProgram}
use Rattle.grammar.specs.Grammar as table
use Rattle.grammar.specs.Limits.{Meter}
use Rattle.grammar.specs.Limits as limits
use Rattle.grammar.specs.Answers as answers
use Rattle.rat_grammar.specs.Relation as relation

-- the table gives a text the trees that the relation has for it, each as one value, and nothing else
pub record HasSame {R T N P V : Type 0} (Program : List Token → R → Type 0) (g : Grammar Token T N P V) (value : R → V) : Type 0 where
  pub tree : (ts : List Token) (c : V) → IsProgram g ts c → (r : R) × (value r ≡ c) × Program ts r
  pub found : (ts : List Token) (r : R) → Program ts r → IsProgram g ts (value r)
  pub one : (r s : R) → value r ≡ value s → r ≡ s

pub program_read : {R T N P V : Type 0} {Program : List Token → R → Type 0} {g : Grammar Token T N P V} {value : R → V} → HasSame Program g value → (ts : List Token) (r : R) →
    IsProgram g ts (value r) → Program ts r
program_read {R} {Program = Program} {value = value} same ts r h =
    let k : (s : R) × (value s ≡ value r) × Program ts s = same.tree ts (value r) h in subst (λ s. Program ts s) (same.one k.0 r k.1) k.2

module _ {R T N P V M : Type 0} (Program : List Token → R → Type 0) (g : Grammar Token T N P V) (meter : Meter T P M) (value : R → V) (same : HasSame Program g value) where
  -- ---- beginnings ----

  begins : (ts : List Token) → table.Begins g ts → relation.Begins Program g meter ts
  begins ts (more, parse) = let r : (r : R) × _ × Program (ts ++ more) r = same.tree (ts ++ more) _ (parse, refl) in (more, r.0, r.2)

  begins_too : (ts : List Token) → relation.Begins Program g meter ts → table.Begins g ts
  begins_too ts (more, r, q) = let c : IsProgram g (ts ++ more) (value r) = same.found (ts ++ more) r q in (more, c.0)

  -- ---- programs ----

  accepted : (ts : List Token) (r : R) → limits.IsAccepted g meter ts (value r) → relation.IsAccepted Program g meter ts r
  accepted ts r h = record {
    is = program_read same ts r ((h.value (value r)).1 refl);
    only = λ s q. same.one r s ((h.value (value s)).0 (same.found ts s q));
    within = h.within;
  }

  accepted_too : (ts : List Token) (r : R) → relation.IsAccepted Program g meter ts r → limits.IsAccepted g meter ts (value r)
  accepted_too ts r h = record {
    value = λ c. (
      λ q. let s : (s : R) × (value s ≡ c) × Program ts s = same.tree ts c q in ap value (h.only s.0 s.2) ∙ s.1,
      λ e. subst (λ z. IsProgram g ts z) e (same.found ts r h.is),
    );
    within = h.within;
  }

  pub are_accepted : (ts : List Token) (r : R) → limits.IsAccepted g meter ts (value r) ↔ relation.IsAccepted Program g meter ts r
  are_accepted ts r = (accepted ts r, accepted_too ts r)

  -- ---- faults ----

  first : (ts : List Token) (fault : Fault) → answers.IsFirstFault g meter ts fault → relation.IsFirstFault Program g meter ts fault
  first ts fault (i, t, here, inl h) =
      subst (λ f. relation.IsFirstFault Program g meter ts f) (sym h.0) (relation.syntax i t here (begins (take i ts) h.1.0) (λ b. h.1.1 (begins_too (take (suc i) ts) b)) h.1.2)
  first ts fault (i, t, here, inr h) =
      subst (λ f. relation.IsFirstFault Program g meter ts f) (sym h.0) (relation.limit i t fault.number here (begins (take (suc i) ts) h.1.0) h.1.1)

  first_too : (ts : List Token) (fault : Fault) → relation.IsFirstFault Program g meter ts fault → answers.IsFirstFault g meter ts fault
  first_too ts fault (relation.syntax i t here some none within) =
      (i, t, here, inl (refl, (begins_too (take i ts) some, (λ b. none (begins (take (suc i) ts) b)), within)))
  first_too ts fault (relation.limit i t k here some passes) = (i, t, here, inr (refl, (begins_too (take (suc i) ts) some, passes)))

  pub are_first : (ts : List Token) (fault : Fault) → answers.IsFirstFault g meter ts fault ↔ relation.IsFirstFault Program g meter ts fault
  are_first ts fault = (first ts fault, first_too ts fault)

  -- ---- answers ----

  -- what the table's parser answers
  pub answered : {W : Type 0} (view : W → R) (ts : List Token) (result : Result W Refusal) → answers.Answers g meter (λ w. value (view w)) ts result → relation.Answers Program g meter view ts result
  answered view ts (Ok w) h = accepted ts (view w) h
  answered view ts (Err (refusals.Fault fault)) h = first ts fault h
  answered view ts (Err refusals.Memory) h = tt
