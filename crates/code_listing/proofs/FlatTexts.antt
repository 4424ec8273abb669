-- The flat code of fields has the text of the fields.
use Rattle.std.specs.Prelude.{◌≡◌, ℕ, suc, Bool, true, false, List, [], ◌∷◌, ◌++◌, refl, codes, Result, Ok, Err, OnOk}
use Rattle.std.proofs.Common.{sym, ◌∙◌, ap, append_assoc, append-nil}
use Rattle.f66_tree.specs.Syntax.{Format}
use Rattle.f66_tree.specs.Fields.{Fields, NoField, Single, Group}
use Rattle.format_io.specs.Places.{Code, Leave, code, size}
use Rattle.stmt_text.specs.Characters.{opening, closing}
use Rattle.stmt_text.specs.Texts.{count_text, fields_text, is_slash, separated, statement_text, step_of_format}
use Rattle.code_listing.specs.FlatText.{Adds, flat_text}

-- where no comma is needed there is none
separated_free : (fs : Fields) (k : List ℕ) → separated true fs k ≡ k
separated_free NoField k = refl
separated_free (Single n s fs) k = refl
separated_free (Group n inside fs) k = refl

-- what follows begins with no field
abbrev Ends : List Code → List ℕ → Type 0
Ends tail k = (free : Bool) → flat_text free tail k ≡ flat_text true tail k

fields_then : (lv : ℕ) (fs : Fields) (free : Bool) (tail : List Code) (k : List ℕ) → Ends tail k
    → flat_text free (code lv fs ++ tail) k ≡ separated free fs (fields_text fs (flat_text true tail k))
fields_then lv NoField free tail k ends = ends free
fields_then lv (Single n s fs) free tail k ends =
    ap (λ v. separated free (Single n s NoField) (step_of_format n s v)) (fields_then lv fs (is_slash s) tail k ends)
fields_then lv (Group n inside fs) free tail k ends =
    let behind : List Code = Leave lv (size inside) ∷ (code lv fs ++ tail) in
    let rest : List ℕ = separated false fs (fields_text fs (flat_text true tail k)) in
    ap (λ v. separated free (Group n NoField NoField) (count_text n (opening ∷ v)))
    (ap (λ v. flat_text true v k) (append_assoc (code (suc lv) inside) (Leave lv (size inside) ∷ code lv fs) tail)
    ∙ fields_then (suc lv) inside true behind k (λ b. refl)
    ∙ separated_free inside (fields_text inside (flat_text true behind k))
    ∙ ap (λ v. fields_text inside (closing ∷ v)) (fields_then lv fs false tail k ends))

flat_fields : (fs : Fields) (cs : List Code) (k : List ℕ) → cs ≡ code 0 fs → flat_text true cs k ≡ fields_text fs k
flat_fields fs cs k e =
    ap (λ v. flat_text true v k) (e ∙ sym (append-nil (code 0 fs)))
    ∙ fields_then 0 fs true [] k (λ b. refl)
    ∙ separated_free fs (fields_text fs k)

-- the word, the fields and the last parenthesis are the whole FORMAT
pub whole_format : {A B : Type 0} (r : Result A B) (fs : Fields) (cs : List Code) (old headed filled new : List ℕ) → cs ≡ code 0 fs
    → Adds old headed (λ k. codes "FORMAT(" ++ k) → Adds headed filled (flat_text true cs) → OnOk r (Adds filled new (λ k. closing ∷ k))
    → OnOk r (new ≡ old ++ statement_text (Format fs))
whole_format (Ok x) fs cs old headed filled new e head fill last =
    sym (append-nil new) ∙ sym (last []) ∙ sym (fill (closing ∷ [])) ∙ ap (λ v. headed ++ v) (flat_fields fs cs (closing ∷ []) e) ∙ sym (head (fields_text fs (closing ∷ [])))
whole_format (Err e) fs cs old headed filled new same head fill last = last
