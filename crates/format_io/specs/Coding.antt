-- Fields as lists of numbers: what tells two formats apart.
use Rattle.std.specs.Prelude.{◌≡◌, ℕ, zero, suc, List, [], ◌∷◌, ◌++◌, map, drop, refl}
use Rattle.std.proofs.Common.{sym, ◌∙◌, ap, append_assoc, append-nil}
use Rattle.std.specs.Coded.{Coded, code_by, coded_list, coded_ℕ}
use Rattle.f66_tree.specs.declared.editing.EditKind.{EditKind}
use Rattle.f66_tree.specs.declared.editing.EditKind.TheVariants.{Whole, Truth, Letter}
use Rattle.f66_tree.specs.Fields.{Step, Takes, Blanks, Chars, Slash, Fields, NoField, Single, Group}

-- a format as a list: each field before what follows, a group's end in its place
pub data Mark : Type 0 where
  Field : ℕ → Step → Mark
  Open : ℕ → Mark
  Close : Mark

abbrev pub marks : Fields → List Mark
marks NoField = []
marks (Single n s fs) = Field n s ∷ marks fs
marks (Group n inside fs) = Open n ∷ (marks inside ++ Close ∷ marks fs)

abbrev pub head_of : List Fields → Fields
head_of [] = NoField
head_of (f ∷ fs) = f

abbrev pub unmarked : List Mark → Fields × List Fields
unmarked [] = (NoField, [])
unmarked (Field n s ∷ is) = (Single n s (unmarked is).0, (unmarked is).1)
unmarked (Open n ∷ is) = (Group n (unmarked is).0 (head_of (unmarked is).1), drop 1 (unmarked is).1)
unmarked (Close ∷ is) = (NoField, (unmarked is).0 ∷ (unmarked is).1)

unmarked-marks : (fs : Fields) (tail : List Mark) → (unmarked tail).0 ≡ NoField → unmarked (marks fs ++ tail) ≡ (fs, (unmarked tail).1)
unmarked-marks NoField tail e = ap (λ u. (u, (unmarked tail).1)) e
unmarked-marks (Single n s fs) tail e = ap (λ p. (Single n s p.0, p.1)) (unmarked-marks fs tail e)
unmarked-marks (Group n inside fs) tail e =
    let behind : List Mark = marks fs ++ tail in
    ap (λ u. let p : Fields × List Fields = unmarked u in (Group n p.0 (head_of p.1), drop 1 p.1)) (append_assoc (marks inside) (Close ∷ marks fs) tail)
    ∙ ap (λ p. (Group n p.0 (head_of p.1), drop 1 p.1)) (unmarked-marks inside (Close ∷ behind) refl)
    ∙ ap (λ p. (Group n inside p.0, p.1)) (unmarked-marks fs tail e)

abbrev pub kind_number : EditKind → ℕ
kind_number Whole = 0
kind_number Truth = 1
kind_number Letter = 2

abbrev pub kind_at : ℕ → EditKind
kind_at zero = Whole
kind_at (suc zero) = Truth
kind_at (suc (suc n)) = Letter

abbrev pub numbers : Mark → List ℕ
numbers Close = []
numbers (Open n) = 0 ∷ n ∷ []
numbers (Field n (Takes k w)) = 1 ∷ n ∷ kind_number k ∷ w ∷ []
numbers (Field n (Blanks b)) = 2 ∷ n ∷ b ∷ []
numbers (Field n (Chars text)) = 3 ∷ n ∷ text
numbers (Field n Slash) = 4 ∷ n ∷ []

abbrev pub first_or : List ℕ → ℕ
first_or [] = 0
first_or (n ∷ ns) = n

abbrev pub mark_of : List ℕ → Mark
mark_of [] = Close
mark_of (zero ∷ ns) = Open (first_or ns)
mark_of (suc zero ∷ ns) = Field (first_or ns) (Takes (kind_at (first_or (drop 1 ns))) (first_or (drop 2 ns)))
mark_of (suc (suc zero) ∷ ns) = Field (first_or ns) (Blanks (first_or (drop 1 ns)))
mark_of (suc (suc (suc zero)) ∷ ns) = Field (first_or ns) (Chars (drop 1 ns))
mark_of (suc (suc (suc (suc k))) ∷ ns) = Field (first_or ns) Slash

mark_back : (m : Mark) → mark_of (numbers m) ≡ m
mark_back Close = refl
mark_back (Open n) = refl
mark_back (Field n (Takes Whole w)) = refl
mark_back (Field n (Takes Truth w)) = refl
mark_back (Field n (Takes Letter w)) = refl
mark_back (Field n (Blanks b)) = refl
mark_back (Field n (Chars text)) = refl
mark_back (Field n Slash) = refl

marks_back : (ms : List Mark) → map mark_of (map numbers ms) ≡ ms
marks_back [] = refl
marks_back (m ∷ ms) = ap (λ v. v ∷ map mark_of (map numbers ms)) (mark_back m) ∙ ap (λ v. m ∷ v) (marks_back ms)

pub fields_back : (fs : Fields) → (unmarked (map mark_of (map numbers (marks fs)))).0 ≡ fs
fields_back fs = ap (λ v. (unmarked v).0) (marks_back (marks fs) ∙ sym (append-nil (marks fs))) ∙ ap (λ p. p.0) (unmarked-marks fs [] refl)

abbrev pub coded_fields : Coded Fields
coded_fields = code_by (List (List ℕ)) (coded_list (coded_list coded_ℕ)) (λ fs. map numbers (marks fs)) (λ is. (unmarked (map mark_of is)).0) fields_back
