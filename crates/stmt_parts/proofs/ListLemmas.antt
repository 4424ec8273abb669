-- Lists that are cut at their first comma, behind what was read.
use Rattle.std.proofs.Common.{◌≡◌, ℕ, ◌+◌, ◌-◌, Bool, length, take, drop, arith, length-drop, Vec, Global, List, [], ◌∷◌, ◌++◌, Option, Some, None, map, refl, sym, ap, ◌∙◌, append_assoc}
use Rattle.std.proofs.lemmas.List.{take_all}
use Rattle.stmt_reader.specs.declared.token.Token.{Token}
use Rattle.stmt_reader.specs.Cutting.{Halves, cut}
use Rattle.stmt_reader.specs.Splitting.{split, with_first, each_of, list_of}
use Rattle.stmt_reader.proofs.ListReads.{split_cut, from_cut}
use Rattle.stmt_parts.specs.Lists.{labels_if, list_if, onto, with_last}

-- the last member
pub list_ends : {A : Type 0} (f : List Token → Option A) (p : Token → Bool) (tokens : List Token) → cut p 0 tokens ≡ None → list_of f p tokens ≡ with_first (f tokens) (Some [])
list_ends f p tokens is = ap (each_of f) (split_cut p tokens 0 ∙ ap (from_cut p tokens) is)

-- a member before others
pub list_goes_on : {A : Type 0} (f : List Token → Option A) (p : Token → Bool) (tokens : List Token) (h : Halves) → cut p 0 tokens ≡ Some h → list_of f p tokens ≡ with_first (f h.0) (list_of f p h.1)
list_goes_on f p tokens h is = ap (each_of f) (split_cut p tokens 0 ∙ ap (from_cut p tokens) is)

-- what comes behind a member that was read, if it was
abbrev pub then_onto : {A : Type 0} → Option (List A) → Option (List A) → Option (List A)
then_onto None rest = None
then_onto (Some before) rest = onto before rest

pub onto_start : {A : Type 0} (rest : Option (List A)) → onto [] rest ≡ rest
onto_start None = refl
onto_start (Some all) = refl

pub onto_last : {A : Type 0} (before : List A) (a : Option A) → with_last before a ≡ onto before (with_first a (Some []))
onto_last before None = refl
onto_last before (Some a) = refl

pub onto_more : {A : Type 0} (before : List A) (a : Option A) (rest : Option (List A)) → then_onto (with_last before a) rest ≡ onto before (with_first a rest)
onto_more before None rest = refl
onto_more before (Some a) None = refl
onto_more before (Some a) (Some all) = ap Some (append_assoc before (a ∷ []) all)

-- the members before, and the last
pub ends_with : {A : Type 0} (f : List Token → Option A) (p : Token → Bool) (before : List A) (tokens : List Token) (a : Option A) → None ≡ cut p 0 tokens → a ≡ f tokens → with_last before a ≡ onto before (list_of f p tokens)
ends_with {A = A} f p before tokens a is read = onto_last before a ∙ ap (λ (o : Option A). onto before (with_first o (Some []))) read ∙ ap (onto before) (sym (list_ends f p tokens (sym is)))

-- the members before, one more, and those behind the comma
pub goes_with : {A : Type 0} (f : List Token → Option A) (p : Token → Bool) (before : List A) (tokens : List Token) (h : Halves) (a : Option A) → Some h ≡ cut p 0 tokens → a ≡ f h.0
    → then_onto (with_last before a) (list_of f p h.1) ≡ onto before (list_of f p tokens)
goes_with {A = A} f p before tokens h a is read =
    onto_more before a (list_of f p h.1) ∙ ap (λ (o : Option A). onto before (with_first o (list_of f p h.1))) read ∙ ap (onto before) (sym (list_goes_on f p tokens h (sym is)))

-- tokens from a place on, as the code has them
pub from_place : (n : ℕ) (tokens : List Token) → take (length tokens - n) (drop n tokens) ≡ drop n tokens
from_place n tokens = take_all (length tokens - n) (drop n tokens) (omega (arith, length-drop n tokens))

pub goes_from : {A : Type 0} (f : List Token → Option A) (p : Token → Bool) (before : List A) (tokens : List Token) (at : ℕ) (a : Option A) → Some (take at tokens, drop (at + 1) tokens) ≡ cut p 0 tokens → a ≡ f (take at tokens)
    → then_onto (with_last before a) (list_of f p (take (length tokens - (at + 1)) (drop (at + 1) tokens))) ≡ onto before (list_of f p tokens)
goes_from {A = A} f p before tokens at a is read =
    ap (λ (rest : List Token). then_onto (with_last before a) (list_of f p rest)) (from_place (at + 1) tokens) ∙ goes_with f p before tokens (take at tokens, drop (at + 1) tokens) a is read

map_same : (ls : List ℕ) → ls ≡ map (λ l. l) ls
map_same [] = refl
map_same (l ∷ ls) = ap (λ (rest : List ℕ). l ∷ rest) (map_same ls)

pub labels_same : (labels : Option (Vec ℕ Global)) → labels_if labels ≡ list_if (λ l. l) labels
labels_same None = refl
labels_same (Some labels) = ap Some (map_same labels.items)
