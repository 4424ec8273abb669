-- Loops and labels that the rules of scopes find are there in the typed tree too.
use Rattle.std.proofs.Common.{◌≡◌, ℕ, zero, suc, ◌+◌, ◌<◌, ◌≤◌, Bool, true, false, cond, List, [], ◌∷◌, ◌++◌, length, Option, Some, None, refl, sym, ap, subst, ◌∙◌, true≢false, inl, inr, arith}
use Rattle.std.specs.Prelude.{◌⊎◌, not, ◌&&◌, ◌||◌, nat_le, filter}
use Rattle.std.specs.Str.{bytes_eq}
use Rattle.std.proofs.lemmas.Bool.{leb-true}
use Rattle.std.proofs.lemmas.List.Folds.{list_any-append}
use Rattle.std.proofs.lemmas.Slice.Eq.{bytes_eq-Decides}
use Rattle.ground.specs.declared.place.Place.{Place}
use Rattle.efl_tree.specs.declared.statement.LoopKind.{LoopKind}
use Rattle.efl_tree.specs.declared.statement.LoopKind.TheVariants as loops
use Rattle.efl_tree.specs.Syntax.{Text, Statement, EflStmts, NoStmt, AndStmt}
use Rattle.efl_scope.specs.Parts.{labels_in}
use Rattle.efl_scope.specs.ScopeRules.{holds, same_loop, is_counted, is_turned, are_around}
use Rattle.efl_program.specs.Typed.{Stmt}
use Rattle.efl_program.specs.Meaning.{same_kind, leaves, turns_one, pred_of, has_own_label, stands}
use Rattle.efl_program.specs.Scoped.{can_on, CanLeave, CanTurn}
use Rattle.efl_typed.specs.Typing.{Context, kind_of, labelled, stmts_from, within}
use Rattle.efl_scope.specs.Parts.{into}

-- ---- booleans ----

pub both : (a b : Bool) → (a && b) ≡ true → (a ≡ true) × (b ≡ true)
both true b h = (refl, h)
both false b h = absurd (true≢false (sym h))

pub neither : (a b : Bool) → (a || b) ≡ false → (a ≡ false) × (b ≡ false)
neither false b h = (refl, h)
neither true b h = absurd (true≢false h)

pub either : (a b : Bool) → (a || b) ≡ true → (a ≡ true) ⊎ (b ≡ true)
either true b h = inl refl
either false b h = inr h

pub denied : (b : Bool) → not b ≡ false → b ≡ true
denied true h = refl
denied false h = absurd (true≢false h)

-- ---- loops ----

same_loops : (j k : LoopKind) → same_loop j k ≡ same_kind j k
same_loops loops.While loops.While = refl
same_loops loops.While loops.For = refl
same_loops loops.While loops.Repeat = refl
same_loops loops.While loops.Do = refl
same_loops loops.While loops.Switch = refl
same_loops loops.For loops.While = refl
same_loops loops.For loops.For = refl
same_loops loops.For loops.Repeat = refl
same_loops loops.For loops.Do = refl
same_loops loops.For loops.Switch = refl
same_loops loops.Repeat loops.While = refl
same_loops loops.Repeat loops.For = refl
same_loops loops.Repeat loops.Repeat = refl
same_loops loops.Repeat loops.Do = refl
same_loops loops.Repeat loops.Switch = refl
same_loops loops.Do loops.While = refl
same_loops loops.Do loops.For = refl
same_loops loops.Do loops.Repeat = refl
same_loops loops.Do loops.Do = refl
same_loops loops.Do loops.Switch = refl
same_loops loops.Switch loops.While = refl
same_loops loops.Switch loops.For = refl
same_loops loops.Switch loops.Repeat = refl
same_loops loops.Switch loops.Do = refl
same_loops loops.Switch loops.Switch = refl

counted_leaves : (o : Option LoopKind) (k : LoopKind) → is_counted o k ≡ leaves o k
counted_leaves None k = refl
counted_leaves (Some j) k = same_loops j k

counted_turns : (o : Option LoopKind) (k : LoopKind) → is_turned o k ≡ turns_one o k
counted_turns o loops.Switch = refl
counted_turns o loops.While = counted_leaves o loops.While
counted_turns o loops.For = counted_leaves o loops.For
counted_turns o loops.Repeat = counted_leaves o loops.Repeat
counted_turns o loops.Do = counted_leaves o loops.Do

-- a loop that is counted, and those around it
can_go : (b : Bool) (n : ℕ) (k : LoopKind) (ks : List LoopKind) (further : ℕ → Type 0) → n < length (cond b (k ∷ ks) ks) → ((m : ℕ) → m < length ks → further m) → can_on b n further
can_go true zero k ks further h f = tt
can_go true (suc n) k ks further h f = f n (omega arith)
can_go false n k ks further h f = f n h

can_leave : (o : Option LoopKind) (ks : List LoopKind) (n : ℕ) → n < length (filter (is_counted o) ks) → CanLeave ks o n
can_leave o [] n h = absurd (omega arith)
can_leave o (k ∷ ks) n h = subst (λ b. can_on b n (CanLeave ks o)) (counted_leaves o k) (can_go (is_counted o k) n k (filter (is_counted o) ks) (CanLeave ks o) h (can_leave o ks))

can_turn : (o : Option LoopKind) (ks : List LoopKind) (n : ℕ) → n < length (filter (is_turned o) ks) → CanTurn ks o n
can_turn o [] n h = absurd (omega arith)
can_turn o (k ∷ ks) n h =
    subst (λ b. can_on b n (CanTurn ks o)) (counted_turns o k) (can_go (is_turned o k) n k (filter (is_turned o) ks) (CanTurn ks o) h (can_turn o ks))

pred_below : (n m : ℕ) → nat_le 1 n ≡ true → nat_le n m ≡ true → pred_of n < m
pred_below zero m h k = absurd (true≢false (sym h))
pred_below (suc n) m h k = let l : suc n ≤ m = leb-true (suc n) m k in omega arith

pred_around : (n : ℕ) (ks : List LoopKind) → not (are_around n ks) ≡ false → pred_of n < length ks
pred_around n ks h = let s = both (nat_le 1 n) (nat_le n (length ks)) (denied (are_around n ks) h) in pred_below n (length ks) s.0 s.1

pub break_found : (o : Option LoopKind) (ks : List LoopKind) (n : ℕ) → not (are_around n (filter (is_counted o) ks)) ≡ false → CanLeave ks o (pred_of n)
break_found o ks n h = can_leave o ks (pred_of n) (pred_around n (filter (is_counted o) ks) h)

pub next_found : (o : Option LoopKind) (ks : List LoopKind) (n : ℕ) → not (are_around n (filter (is_turned o) ks)) ≡ false → CanTurn ks o (pred_of n)
next_found o ks n h = can_turn o ks (pred_of n) (pred_around n (filter (is_turned o) ks) h)

-- ---- labels ----

same_text : (x y : Text) → bytes_eq x y ≡ true → bytes_eq y x ≡ true
same_text x y h = (bytes_eq-Decides y x).1 (sym ((bytes_eq-Decides x y).0 h))

true_or : (a b : Bool) → b ≡ true → (a || b) ≡ true
true_or true b h = refl
true_or false b h = h

or_true : (a b : Bool) → a ≡ true → (a || b) ≡ true
or_true a b h = ap (λ x. x || b) h

own_label : (l : Text) (ls : List Text) (p : Place) (s : Stmt) → holds ls l ≡ true → has_own_label l (labelled ls p s) ≡ true
own_label l [] p s h = absurd (true≢false (sym h))
own_label l (m ∷ ls) p s h = elim (either (bytes_eq l m) (holds ls l) h) [
  | inl e ↦ or_true (bytes_eq m l) _ (same_text l m e)
  | inr k ↦ true_or (bytes_eq m l) _ (own_label l ls p s k)
]

-- a label that stands directly in a list stands in the typed one
pub label_stands : (n : ℕ) (c : Context) (l : Text) (ss : EflStmts) → holds (labels_in ss) l ≡ true → stands l (stmts_from n c ss) ≡ true
label_stands n c l NoStmt h = absurd (true≢false (sym h))
label_stands n c l (AndStmt (Statement ls p k) ss) h = elim (either (holds ls l) (holds (labels_in ss) l) (sym (list_any-append (bytes_eq l) ls (labels_in ss)) ∙ h)) [
  | inl e ↦ or_true _ (stands l (stmts_from (n + 1) c ss)) (own_label l ls p (kind_of (within c (into n c.around)) p k) e)
  | inr e ↦ true_or (has_own_label l (labelled ls p (kind_of (within c (into n c.around)) p k))) _ (label_stands (n + 1) c l ss e)
]

pub label_found : (n : ℕ) (c : Context) (l : Text) (ss : EflStmts) (ls : List Text) (R : Text → Type 0) →
    ((m : Text) → holds ls m ≡ true → R m) → holds (labels_in ss ++ ls) l ≡ true → (stands l (stmts_from n c ss) ≡ true) ⊎ R l
label_found n c l ss ls R f h = elim (either (holds (labels_in ss) l) (holds ls l) (sym (list_any-append (bytes_eq l) (labels_in ss) ls) ∙ h)) [
  | inl e ↦ inl (label_stands n c l ss e)
  | inr e ↦ inr (f l e)
]
