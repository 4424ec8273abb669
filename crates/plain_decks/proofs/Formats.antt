-- The text of a format before others is its own text and then these, and how many characters it has at most.
use Rattle.std.proofs.Common.{◌≡◌, ◌≤◌, ◌+◌, ℕ, zero, suc, Bool, true, false, true≢false, cond, List, [], ◌∷◌, ◌++◌, length, append_assoc, refl, sym, ap, ◌∙◌, arith}
use Rattle.std.specs.Prelude.{decimal, nat_le, ◌==◌, ◌||◌, ◌&&◌}
use Rattle.std.proofs.lemmas.Bool.{and_parts}
use Rattle.std.proofs.lemmas.Bool.Decides.{nat_tests}
use Rattle.std.proofs.lemmas.Fmt.{length-decimal-le}
use Rattle.std.proofs.lemmas.List.{length-append}
use Rattle.f66_tree.specs.Fields.{Step, Takes, Blanks, Chars, Slash, Fields, NoField, Single, Group}
use Rattle.f66_names.specs.StoreRules.{is_between, is_fit_edit, are_fit, is_sound_format}
use Rattle.stmt_text.specs.Characters.{closing, comma, opening}
use Rattle.stmt_text.specs.Texts.{count_text, step_of_format, separated, is_slash, edit_letter, fields_text}
use Rattle.plain_decks.specs.Few.{width_of_step, width_of_fields}

-- ---- before other text ----

count-append : (n : ℕ) (one : Bool) (m k : List ℕ) → cond one (m ++ k) (decimal n ++ (m ++ k)) ≡ cond one m (decimal n ++ m) ++ k
count-append n true m k = refl
count-append n false m k = sym (append_assoc (decimal n) m k)

step-append : (n : ℕ) (s : Step) (m k : List ℕ) → step_of_format n s (m ++ k) ≡ step_of_format n s m ++ k
step-append n (Takes kind w) m k =
    ap (λ t. count_text n (edit_letter kind ∷ t)) (sym (append_assoc (decimal w) m k)) ∙ count-append n (n == 1) (edit_letter kind ∷ (decimal w ++ m)) k
step-append n (Blanks b) m k = sym (append_assoc (decimal b) (88 ∷ m) k)
step-append n (Chars text) m k = sym (append_assoc (decimal (length text) ++ 72 ∷ text) m k)
step-append n Slash m k = refl

comma-append : (none : Bool) (m k : List ℕ) → cond none (m ++ k) (comma ∷ (m ++ k)) ≡ cond none m (comma ∷ m) ++ k
comma-append true m k = refl
comma-append false m k = refl

separated-append : (beside : Bool) (fs : Fields) (m k : List ℕ) → separated beside fs (m ++ k) ≡ separated beside fs m ++ k
separated-append beside NoField m k = refl
separated-append beside (Single n s rest) m k = comma-append (beside || is_slash s) m k
separated-append beside (Group n inside rest) m k = comma-append beside m k

pub fields_text-append : (fs : Fields) (m k : List ℕ) → fields_text fs (m ++ k) ≡ fields_text fs m ++ k
fields_text-append NoField m k = refl
fields_text-append (Single n s rest) m k =
    ap (λ t. step_of_format n s (separated (is_slash s) rest t)) (fields_text-append rest m k)
    ∙ ap (step_of_format n s) (separated-append (is_slash s) rest (fields_text rest m) k)
    ∙ step-append n s (separated (is_slash s) rest (fields_text rest m)) k
fields_text-append (Group n inside rest) m k =
    ap (λ t. count_text n (opening ∷ fields_text inside (closing ∷ separated false rest t))) (fields_text-append rest m k)
    ∙ ap (λ t. count_text n (opening ∷ fields_text inside (closing ∷ t))) (separated-append false rest (fields_text rest m) k)
    ∙ ap (λ t. count_text n (opening ∷ t)) (fields_text-append inside (closing ∷ separated false rest (fields_text rest m)) k)
    ∙ count-append n (n == 1) (opening ∷ fields_text inside (closing ∷ separated false rest (fields_text rest m))) k

pub length-fields_text : (fs : Fields) (k : List ℕ) → length (fields_text fs k) ≡ length (fields_text fs []) + length k
length-fields_text fs k = ap length (fields_text-append fs [] k) ∙ length-append (fields_text fs []) k

-- ---- of sound formats ----

three_digits : (m n : ℕ) (t : List ℕ) → is_between 1 m n ≡ true → m ≤ 999 → length (decimal n ++ t) ≤ 3 + length t
three_digits m n t h most =
    let both = and_parts (nat_le 1 n) (nat_le n m) h in
    let low : nat_le n m ≡ true = both.1 in
    let within : n ≤ m = grind (arith, nat_tests) in
    omega (arith, length-append (decimal n) t, length-decimal-le 3 n (omega arith) (omega (arith, within, most)) (omega (arith, within, most)))

count_length : (n : ℕ) (one : Bool) (t : List ℕ) → is_between 1 999 n ≡ true → length (cond one t (decimal n ++ t)) ≤ 3 + length t
count_length n true t h = omega arith
count_length n false t h = three_digits 999 n t h (omega arith)

step_length : (n : ℕ) (s : Step) (t : List ℕ) → is_fit_edit n s ≡ true → suc (length (step_of_format n s t)) ≤ width_of_step s + length t
step_length n (Takes kind w) t h =
    let both = and_parts (is_between 1 999 n) (is_between 1 132 w) h in
    omega (arith, count_length n (n == 1) (edit_letter kind ∷ (decimal w ++ t)) both.0, three_digits 132 w t both.1 (omega arith))
step_length n (Blanks m) t h = omega (arith, three_digits 255 m (88 ∷ t) h (omega arith))
step_length n (Chars text) t h = omega (arith, ap length (append_assoc (decimal (length text)) (72 ∷ text) t), three_digits 255 (length text) (72 ∷ (text ++ t)) h (omega arith), length-append text t)
step_length n Slash t h = omega arith

comma_length : (none : Bool) (t : List ℕ) → length (cond none t (comma ∷ t)) ≤ 1 + length t
comma_length true t = omega arith
comma_length false t = omega arith

separated_length : (beside : Bool) (fs : Fields) (t : List ℕ) → length (separated beside fs t) ≤ 1 + length t
separated_length beside NoField t = omega arith
separated_length beside (Single n s rest) t = comma_length (beside || is_slash s) t
separated_length beside (Group n inside rest) t = comma_length beside t

fields_length : (deep : ℕ) (fs : Fields) (t : List ℕ) → are_fit deep fs ≡ true → length (fields_text fs t) ≤ width_of_fields fs + length t
fields_length deep NoField t h = omega arith
fields_length deep (Single n s fs) t h =
    let both = and_parts (is_fit_edit n s) (are_fit deep fs) h in
    omega (arith, step_length n s (separated (is_slash s) fs (fields_text fs t)) both.0, separated_length (is_slash s) fs (fields_text fs t), fields_length deep fs t both.1)
fields_length zero (Group n inside fs) t h = absurd (true≢false (sym h))
fields_length (suc deep) (Group n inside fs) t h =
    let both = and_parts (is_between 1 999 n) (are_fit deep inside && are_fit (suc deep) fs) h in
    let parts = and_parts (are_fit deep inside) (are_fit (suc deep) fs) both.1 in
    let behind : List ℕ = closing ∷ separated false fs (fields_text fs t) in
    omega (arith, count_length n (n == 1) (opening ∷ fields_text inside behind) both.0, fields_length deep inside behind parts.0, separated_length false fs (fields_text fs t), fields_length (suc deep) fs t parts.1)

pub few_fields : (fs : Fields) → is_sound_format fs ≡ true → width_of_fields fs ≤ 1300 → length (fields_text fs []) ≤ 1300
few_fields fs h few = omega (arith, fields_length 2 fs [] h, few)
