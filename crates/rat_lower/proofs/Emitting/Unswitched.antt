-- What has no switch does not say which name would hold the values of switches.
use Rattle.std.proofs.Common.{◌≡◌, ℕ, ◌+◌, Bool, true, false, ◌||◌, List, [], ◌∷◌, Some, refl, ap, ◌∙◌}
use Rattle.ground.specs.declared.place.Place.{Place}
use Rattle.f66_tree.specs.Syntax.{Text, Header, Loop, Line, unlabelled_line}
use Rattle.f66_tree.specs.Units.{is_main, name_of}
use Rattle.rat_tree.specs.Syntax.{Command, Empty, Block, If, IfElse, While, For, Repeat, RepeatUntil, Do, Switch, Break, Next, Plain, Labelled, Commands, NoCommand, AndCommand}
use Rattle.rat_tree.specs.Syntax as ratfor_tree
use Rattle.rat_lower.specs.Code.{Rings, jump, here, unless, with_test, with_act, labels, code_of, all_code, has_switch, have_switch, declared_if, end_unless, ends_itself, unit_code}

-- where a part has a switch, the whole has one
pub by_first : (v u : Bool) → v ≡ true → (v || u) ≡ true
by_first v u h = ap (λ b. b || u) h

pub by_second : (v u : Bool) → u ≡ true → (v || u) ≡ true
by_second true u h = refl
by_second false u h = h

module _ (made : ℕ → ℕ) (x y own : Text) where
  mutual
    same_code : (s : Command) → (has_switch s ≡ true → x ≡ y) → (n : ℕ) (ls : Rings) (next : List Line) → code_of made x own s n ls next ≡ code_of made y own s n ls next
    same_code (Empty p) h n ls next = refl
    same_code (Block p ss) h n ls next = same_codes ss h n ls next
    same_code (If p e s) h n ls next = ap (λ c. unless p e (made n) ∷ c) (same_code s h (n + 1) ls (here (made n) p ∷ next))
    same_code (IfElse p e s t) h n ls next =
        let between = λ (c : List Line). jump p (made (n + 1)) ∷ here (made n) p ∷ c in
        let last = here (made (n + 1)) p ∷ next in
        ap (λ c. unless p e (made n) ∷ c)
        (same_code s (λ has. h (by_first (has_switch s) (has_switch t) has)) (n + 2) ls (between (code_of made x own t (n + 2 + labels s) ls last))
        ∙ ap (λ c. code_of made y own s (n + 2) ls (between c)) (same_code t (λ has. h (by_second (has_switch s) (has_switch t) has)) (n + 2 + labels s) ls last))
    same_code (While p e s) h n ls next = ap (λ c. here (made n) p ∷ with_test p (Some e) (made (n + 2)) c) (same_code s h (n + 3) _ _)
    same_code (For p first e step s) h n ls next = ap (λ c. with_act p first (here (made n) p ∷ with_test p e (made (n + 2)) c)) (same_code s h (n + 3) _ _)
    same_code (Repeat p s) h n ls next = ap (λ c. here (made n) p ∷ c) (same_code s h (n + 3) _ _)
    same_code (RepeatUntil p s e q) h n ls next = ap (λ c. here (made n) p ∷ c) (same_code s h (n + 3) _ _)
    same_code (Do p v a b c s) h n ls next = ap (λ k. unlabelled_line p (Loop (made n) v a b c) ∷ k) (same_code s h (n + 2) _ _)
    same_code (Switch p e cs) h n ls next = ap (λ z. code_of made z own (Switch p e cs) n ls next) (h refl)
    same_code (Break p k) h n ls next = refl
    same_code (Next p k) h n ls next = refl
    same_code (ratfor_tree.Return p e) h n ls next = refl
    same_code (Plain l p a) h n ls next = refl
    same_code (Labelled l p s) h n ls next = ap (λ c. here l p ∷ c) (same_code s h n ls next)

    same_codes : (ss : Commands) → (have_switch ss ≡ true → x ≡ y) → (n : ℕ) (ls : Rings) (next : List Line) → all_code made x own ss n ls next ≡ all_code made y own ss n ls next
    same_codes NoCommand h n ls next = refl
    same_codes (AndCommand s ss) h n ls next =
        same_code s (λ has. h (by_first (has_switch s) (have_switch ss) has)) n ls (all_code made x own ss (n + labels s) ls next)
        ∙ ap (λ c. code_of made y own s n ls c) (same_codes ss (λ has. h (by_second (has_switch s) (have_switch ss) has)) (n + labels s) ls next)

  declared : (b : Bool) → (b ≡ true → x ≡ y) → (p : Place) (code : List Line) → declared_if b p x code ≡ declared_if b p y code
  declared true h p code = ap (λ z. declared_if true p z code) (h refl)
  declared false h p code = refl

-- a unit without a switch is the same by any spare name
pub same_unit : (made : ℕ → ℕ) (x y : Text) (header : Header) (first last : Place) (ss : Commands) → (have_switch ss ≡ true → x ≡ y) → unit_code made x header first last ss ≡ unit_code made y header first last ss
same_unit made x y header first last ss h =
    let o = name_of header in
    let end = λ (body : List Line). end_unless (is_main header) (ends_itself header body) last in
    declared made x y o (have_switch ss) h first (all_code made x o ss 0 [] (end (all_code made x o ss 0 [] [])))
    ∙ ap (declared_if (have_switch ss) first y) (same_codes made x y o ss h 0 [] (end (all_code made x o ss 0 [] []))
    ∙ ap (λ body. all_code made y o ss 0 [] (end body)) (same_codes made x y o ss h 0 [] []))
