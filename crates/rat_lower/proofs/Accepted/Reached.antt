-- The labels that a part reaches stand directly in the lists around it.
use Rattle.std.proofs.Common.{◌≡◌, ℕ, Bool, true, false, true≢false, List, [], ◌∷◌, ◌⊎◌, inl, inr, Option, Some, None, refl, sym, ap, ◌∙◌}
use Rattle.std.specs.Prelude.{nat_eq, ◌||◌, if◌then◌else◌}
use Rattle.std.specs.List.{list_all}
use Rattle.std.proofs.lemmas.Bool.{ne_eqb, eqb-true, eq-eqb}
use Rattle.f66_tree.specs.Syntax.{Act, Goto, Computed, Sign}
use Rattle.f66_tree.specs.Units.{is_note}
use Rattle.f66_tree.specs.Execution.{has_label}
use Rattle.rat_tree.specs.Syntax.{Command, Empty, Block, If, IfElse, While, For, Repeat, RepeatUntil, Do, Switch, Break, Next, Return, Plain, Labelled, Commands, NoCommand, AndCommand}
use Rattle.rat_tree.specs.Meaning.{has_own_label, stands}
use Rattle.rat_check.specs.Parts.{Statement, Labels, with_label, reaches, target_of, with_labels}
use Rattle.rat_check.specs.Rules.{is_plain, is_simple, finds_labels}
use Rattle.rat_check.proofs.CleanLemmas.{and_true}
use Rattle.rat_lower.specs.Checked.{stands_in, AllStandIn, ActLands, ActLandsIfAny}

-- numbers are compared in either order
pub eq_turned : (a b : ℕ) → nat_eq a b ≡ nat_eq b a
eq_turned a b = by (nat_eq b a) refl
  where
    by : (v : Bool) → nat_eq b a ≡ v → nat_eq a b ≡ v
    by true e = ap (nat_eq a) (eqb-true b a e) ∙ same a
      where
        same : (n : ℕ) → nat_eq n n ≡ true
        same n = eq-eqb n n refl
    by false e = ne_eqb a b (λ is. true≢false (sym (ap (nat_eq b) is ∙ eq-eqb b b refl) ∙ e))

pub or_true : (a b : Bool) → (a || b) ≡ true → (a ≡ true) ⊎ (b ≡ true)
or_true true b e = inl refl
or_true false b e = inr e

right_true : (a b : Bool) → b ≡ true → (a || b) ≡ true
right_true true b e = refl
right_true false b e = e

left_true : (a b : Bool) → a ≡ true → (a || b) ≡ true
left_true a b e = ap (λ v. v || b) e

module _ (m : ℕ) (r : Labels) where
  labelled : (l : Option ℕ) → with_label l r m ≡ true → (has_label m l ≡ true) ⊎ (r m ≡ true)
  labelled None e = inr e
  labelled (Some l) e = by (or_true (nat_eq m l) (r m) e)
    where
      by : (nat_eq m l ≡ true) ⊎ (r m ≡ true) → (nat_eq l m ≡ true) ⊎ (r m ≡ true)
      by (inl h) = inl (eq_turned l m ∙ h)
      by (inr h) = inr h

  plainly : (b : Bool) (l : Option ℕ) → with_label (if b then None else l) r m ≡ true → ((if b then false else has_label m l) ≡ true) ⊎ (r m ≡ true)
  plainly true l e = inr e
  plainly false l e = labelled l e

  targeted : (c : Command) → with_label (target_of c) r m ≡ true → (has_own_label m c ≡ true) ⊎ (r m ≡ true)
  targeted (Plain l p a) e = plainly (is_note a) l e
  targeted (Labelled l p c) e = labelled (Some l) e
  targeted (Empty p) e = inr e
  targeted (Block p ss) e = inr e
  targeted (If p f c) e = inr e
  targeted (IfElse p f c d) e = inr e
  targeted (While p f c) e = inr e
  targeted (For p a f b c) e = inr e
  targeted (Repeat p c) e = inr e
  targeted (RepeatUntil p c f q) e = inr e
  targeted (Do p x i j k c) e = inr e
  targeted (Switch p f cs) e = inr e
  targeted (Break p n) e = inr e
  targeted (Next p n) e = inr e
  targeted (Return p f) e = inr e

in_list : (m : ℕ) (ss : Commands) (r : Labels) → with_labels ss r m ≡ true → (stands m ss ≡ true) ⊎ (r m ≡ true)
in_list m NoCommand r e = inr e
in_list m (AndCommand c ss) r e = by (in_list m ss (with_label (target_of c) r) e)
  where
    first : (has_own_label m c ≡ true) ⊎ (r m ≡ true) → ((has_own_label m c || stands m ss) ≡ true) ⊎ (r m ≡ true)
    first (inl h) = inl (left_true (has_own_label m c) (stands m ss) h)
    first (inr h) = inr h

    by : (stands m ss ≡ true) ⊎ (with_label (target_of c) r m ≡ true) → ((has_own_label m c || stands m ss) ≡ true) ⊎ (r m ≡ true)
    by (inl h) = inl (right_true (has_own_label m c) (stands m ss) h)
    by (inr h) = first (targeted m r c h)

abbrev pub Sees : Labels → List Commands → Type 0
Sees r around = (m : ℕ) → r m ≡ true → stands_in m around ≡ true

-- one list more
pub sees_list : (ss : Commands) (r : Labels) (around : List Commands) → Sees r around → Sees (with_labels ss r) (ss ∷ around)
sees_list ss r around sees m e = by (in_list m ss r e)
  where
    by : (stands m ss ≡ true) ⊎ (r m ≡ true) → (stands m ss || stands_in m around) ≡ true
    by (inl h) = left_true (stands m ss) (stands_in m around) h
    by (inr h) = right_true (stands m ss) (stands_in m around) (sees m h)

module _ (formats r : Labels) (around : List Commands) (sees : Sees r around) where
  all_there : (ls : List ℕ) → list_all r ls ≡ true → AllStandIn ls around
  all_there [] e = tt
  all_there (l ∷ ls) e = let h = and_true (r l) (list_all r ls) e in (sees l h.0, all_there ls h.1)

  pub act_lands : (a : Act) → is_plain a ≡ true → finds_labels formats (reaches r (Statement a)) (Statement a) ≡ true → ActLands around a
  act_lands (Goto l) h found = sees l found
  act_lands (Computed ls x) h found = all_there ls found
  act_lands (Sign e l m n) h found = absurd (true≢false (sym h))
  act_lands _ h found = tt

-- the first and the last part of a `for` jump nowhere
pub step_lands : (around : List Commands) (o : Option Act) → is_simple o ≡ true → ActLandsIfAny around o
step_lands around None h = tt
step_lands around (Some (Goto l)) h = absurd (true≢false (sym h))
step_lands around (Some (Computed ls x)) h = absurd (true≢false (sym h))
step_lands around (Some (Sign e l m n)) h = absurd (true≢false (sym h))
step_lands around (Some _) h = tt
