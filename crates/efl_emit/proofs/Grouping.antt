-- The arguments of an intrinsic function, one after another, by groups.
use Rattle.std.proofs.Common.{◌≡◌, ℕ, suc, zero, ◌+◌, ◌<◌, List, [], ◌∷◌, ◌++◌, map, length, refl, sym, ap, subst, ◌∙◌, arith, inl, inr}
use Rattle.std.proofs.lemmas.List.{length-append}
use Rattle.ground.specs.declared.place.Place.{Place}
use Rattle.ground.specs.declared.value.Kind.TheVariants.{Integer}
use Rattle.f66_tree.specs.declared.expression.Expr.{Expr as AnExpr}
use Rattle.f66_tree.specs.Syntax.{Text, Formula, Formulas, NoFormula, AndFormula, Ref, Item}
use Rattle.f66_tree.specs.Views.{formula_of}
use Rattle.routes.specs.Routes.{Routes, AndRoute}
use Rattle.efl_routes.specs.Expressions.{sets, first, further, gathered}
use Rattle.efl_emit.specs.declared.operand.Evaluated.{Evaluated}
use Rattle.efl_emit.specs.Emitted.{Emission, Emitted}
use Rattle.efl_emit.specs.Names.{temp_of}
use Rattle.efl_emit.specs.Parts.{HasRoom, IsNextGroup, IsOfGroup, IsGathered}
use Rattle.efl_emit.proofs.Emitting.{both_emitted, put_emitted}
use Rattle.efl_emit.proofs.Lists.{before_formulas, before_none, more_formulas}
use Rattle.efl_emit.proofs.Operands.{set_alone}

-- the statement of a group, which has room for m arguments more, and those of the arguments behind it
abbrev pending : Place → Text → Formula → ℕ → List AnExpr → Formulas → Routes → Routes
pending p x t m group es rest = AndRoute (sets p t (Item x (before_formulas (map formula_of group) (first m es)))) (further p x t m es rest)

-- what is emitted so far, and what is left
pub record GatheredSoFar (p : Place) (x : Text) (n : ℕ) (all left : Formulas) (group : List AnExpr) (before now : Emission) : Type 0 where
  pub room : ℕ
  pub full : room + length group ≡ 60
  pub emitted : (made : ℕ → ℕ) (after : Emission) → Emitted made (pending p x (Ref (temp_of Integer n)) room group left) now after → Emitted made (gathered p x (Ref (temp_of Integer n)) all) before after

pub gather_begins : (p : Place) (x : Text) (n : ℕ) (all : Formulas) (a : Emission) → GatheredSoFar p x n all all [] a a
gather_begins p x n all a = record { room = 60; full = refl; emitted = λ made after h. h }

pub none_left : {X : Type 0} (xs : List X) (k : ℕ) → k ≡ length xs → (0 < k → ⊥) → xs ≡ []
none_left [] k long none = refl
none_left (x ∷ xs) k long none = absurd (none (omega (arith, long)))

longer : (group grown : List AnExpr) (e : AnExpr) → grown ≡ group ++ e ∷ [] → length grown ≡ length group + 1
longer group grown e is = ap length is ∙ length-append group (e ∷ [])

gather_stays : {p : Place} {x : Text} {n : ℕ} {all left : Formulas} (group : List AnExpr) {grown : List AnExpr} {a b : Emission} (e : AnExpr) (y : Formula) (room : ℕ) → room + length group ≡ 60 → length group < 60 →
    ((made : ℕ → ℕ) (after : Emission) → Emitted made (pending p x (Ref (temp_of Integer n)) room group (AndFormula y left)) b after → Emitted made (gathered p x (Ref (temp_of Integer n)) all) a after) →
    grown ≡ group ++ e ∷ [] → formula_of e ≡ y → GatheredSoFar p x n all left grown a b
gather_stays group e y zero full lt so_far is same = absurd (omega (full, lt, arith))
gather_stays {p} {x} {n} {all} {left} group {grown} {a} {b} e y (suc m) full lt so_far is same =
    let t = Ref (temp_of Integer n) in
    let one = longer group grown e is in
    record {
      room = m;
      full = omega (full, one, arith);
      emitted = λ made after h. so_far made after (subst (λ fs. Emitted made (λ rest. AndRoute (sets p t (Item x fs)) (further p x t m left rest)) b after) (more_formulas group grown e y (first m left) is same) h);
    }

gather_turns : {p : Place} {x : Text} {n : ℕ} {all left : Formulas} {group more grown : List AnExpr} {a b c : Emission} (e : AnExpr) (y : Formula) (room : ℕ) → room + length group ≡ 60 → IsNextGroup p x n group more b c →
    ((made : ℕ → ℕ) (after : Emission) → Emitted made (pending p x (Ref (temp_of Integer n)) room group (AndFormula y left)) b after → Emitted made (gathered p x (Ref (temp_of Integer n)) all) a after) →
    grown ≡ more ++ e ∷ [] → formula_of e ≡ y → GatheredSoFar p x n all left grown a c
gather_turns e y (suc m) full next so_far is same = absurd (omega (full, next.full, arith))
gather_turns {p} {x} {n} {all} {left} {group} {more} {grown} {a} {b} {c} e y zero full next so_far is same =
    let t = Ref (temp_of Integer n) in
    let one = longer more grown e is in
    let own : length more ≡ 1 = ap length next.begins in
    let parts : before_formulas (map formula_of grown) (first 58 left) ≡ AndFormula t (AndFormula y (first 58 left)) =
    more_formulas more grown e y (first 58 left) is same ∙ ap (λ l. before_formulas (map formula_of l) (AndFormula y (first 58 left))) next.begins ∙ ap (λ v. AndFormula v (AndFormula y (first 58 left))) next.own in
    record {
      room = 58;
      full = omega (one, own, arith);
      emitted = λ made after h.
          so_far made after
          (both_emitted (AndRoute (sets p t (Item x (before_formulas (map formula_of group) NoFormula)))) (λ rest. AndRoute (sets p t (Item x (AndFormula t (AndFormula y (first 58 left))))) (further p x t 58 left rest))
          (subst (λ fs. Emitted made (AndRoute (sets p t (Item x fs))) b c) (sym (before_none (map formula_of group))) (put_emitted p _ next.put))
          (subst (λ fs. Emitted made (λ rest. AndRoute (sets p t (Item x fs)) (further p x t 58 left rest)) c after) parts h));
    }

pub gather_more : {p : Place} {x : Text} {n : ℕ} {all here left : Formulas} {group more grown : List AnExpr} {a b c : Emission} (e : AnExpr) (y : Formula) →
    here ≡ AndFormula y left → GatheredSoFar p x n all here group a b → HasRoom p x n group more b c → grown ≡ more ++ e ∷ [] → formula_of e ≡ y → GatheredSoFar p x n all left grown a c
gather_more {p} {x} {n} {all} {here} {left} {group} {more} {grown} {a} {b} {c} e y is so_far (inl has) longer same =
    let g = subst (λ v. GatheredSoFar p x n all v group a b) is so_far in
    subst (GatheredSoFar p x n all left grown a) (sym has.2) (gather_stays group e y g.room g.full has.0 g.emitted (longer ∙ ap (λ l. l ++ e ∷ []) has.1) same)
gather_more {p} {x} {n} {all} {here} {left} {group} {more} {grown} {a} {b} {c} e y is so_far (inr next) longer same =
    let g = subst (λ v. GatheredSoFar p x n all v group a b) is so_far in
    gather_turns e y g.room g.full next g.emitted longer same

no_more : (p : Place) (x : Text) (n : ℕ) {made : ℕ → ℕ} (group : List AnExpr) {b c : Emission} (m : ℕ) → Emitted made (AndRoute (sets p (Ref (temp_of Integer n)) (Item x (before_formulas (map formula_of group) NoFormula)))) b c →
    Emitted made (pending p x (Ref (temp_of Integer n)) m group NoFormula) b c
no_more p x n group zero h = h
no_more p x n group (suc m) h = h

pub gather_over : {p : Place} {x : Text} {n : ℕ} {all here : Formulas} {group : List AnExpr} {r : Evaluated} {a b c : Emission} → here ≡ NoFormula → GatheredSoFar p x n all here group a b → IsOfGroup p x n group r b c → IsGathered p x n all r a c
gather_over {p} {x} {n} {all} {here} {group} {r} {a} {b} {c} is so_far h =
    let g = subst (λ v. GatheredSoFar p x n all v group a b) is so_far in
    record {
      emitted = λ made. g.emitted made c (no_more p x n group g.room (set_alone n (Item x (before_formulas (map formula_of group) NoFormula)) h refl (sym (ap (Item x) (before_none (map formula_of group))))));
      operand = h.operand;
      next = h.next;
    }
