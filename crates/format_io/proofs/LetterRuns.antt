-- Edits A1 that come next with nothing between them, and the characters that go by them.
use Rattle.std.specs.Prelude.{◌≡◌, ℕ, zero, suc, ◌+◌, ◌-◌, ◌<◌, ◌≤◌, List, [], ◌∷◌, ◌++◌, refl, pos, Ok, Err, Some, None, length, take, drop, replicate, get_or, slice_get, All, if◌then◌else◌}
use Rattle.std.proofs.Common.{sym, ◌∙◌, ap, subst, arith, append_assoc, append-nil, length-append}
use Rattle.std.proofs.lemmas.List.{length-take-le, take-append-drop, take-append-le, drop-append-le}
use Rattle.std.proofs.lemmas.List.Elements.{All-head, All-tail}
use Rattle.std.proofs.lemmas.Bool.{le-leb}
use Rattle.ground.specs.declared.trap.Trap.TheVariants.{BadCharacter, LongRecord}
use Rattle.f66_tree.specs.declared.editing.EditKind.TheVariants.{Letter}
use Rattle.f66_tree.specs.declared.editing.Way.{Way}
use Rattle.f66_tree.specs.declared.editing.Way.TheVariants.{Reading, Writing}
use Rattle.f66_tree.specs.declared.editing.Mark.{Mark}
use Rattle.f66_tree.specs.declared.editing.Mark.TheVariants.{Between, Due}
use Rattle.f66_tree.specs.Fields.{Step, Takes, Fields}
use Rattle.f66_tree.specs.Fielded.{field, letter_of, letter_at, letter_text}
use Rattle.f66_tree.specs.Turns.{◌>>=◌, extended, hand_at}
use Rattle.format_io.specs.declared.code.Op.TheVariants as ops
use Rattle.format_io.specs.declared.code.Laid.{Laid}
use Rattle.format_io.specs.declared.code.Piece.{Piece}
use Rattle.format_io.specs.Places.{Stand, hand_of, moves_at, visible, format, IsPlan, step_of}
use Rattle.format_io.specs.Answers.{line_in}
use Rattle.format_io.specs.Letters.{IsLetter, PutsLetters, TakesLetters, LettersNext}
use Rattle.format_io.proofs.Plans.{once_more}

-- ---- edits ahead ----

-- k edits of an instruction come before what is behind them
pub once_runs : (p : Laid) (pc past n k : ℕ) (counts : List ℕ) (s : Piece) → IsPlan p → slice_get p.ops.items pc ≡ Some (ops.Once n s) → k ≤ n - past
    → visible (moves_at 0 (format p) pc past counts) ≡ replicate k (step_of s) ++ visible (moves_at 0 (format p) pc (past + k) counts)
once_runs p pc past n zero counts s is e le = ap (λ v. visible (moves_at 0 (format p) pc v counts)) (let f : past ≡ past + 0 = omega arith in f)
once_runs p pc past n (suc k) counts s is e le =
    ap visible (once_more p pc past n counts s is e (omega arith))
    ∙ ap (λ v. step_of s ∷ v) (once_runs p pc (past + 1) n k counts s is e (omega arith))
    ∙ ap (λ v. step_of s ∷ (replicate k (step_of s) ++ visible (moves_at 0 (format p) pc v counts))) (let f : past + 1 + k ≡ past + suc k = omega arith in f)

take_replicate : (k : ℕ) (s : Step) (tail : List Step) → take k (replicate k s ++ tail) ≡ replicate k s
take_replicate zero s tail = refl
take_replicate (suc k) s tail = ap (λ v. s ∷ v) (take_replicate k s tail)

pub taken_ahead : (rest tail : List Step) (k : ℕ) → rest ≡ replicate k (Takes Letter 1) ++ tail → take k rest ≡ replicate k (Takes Letter 1)
taken_ahead rest tail k e = ap (take k) e ∙ take_replicate k (Takes Letter 1) tail

-- ---- characters go out ----

letter_text_is : (c : ℕ) → IsLetter c → letter_text (pos c) ≡ Ok (c ∷ [])
letter_text_is c is = ap (λ b. elim (if b then Some c else None) [ Some d ↦ Ok (d ∷ []) | None ↦ Err BadCharacter ]) is

puts : (cs : List ℕ) (tail cycle : List Step) (line : List ℕ) → All IsLetter cs → length line + length cs ≤ 132
    → PutsLetters cs (hand_at Writing (replicate (length cs) (Takes Letter 1) ++ tail) cycle line Between) (hand_at Writing tail cycle (line ++ cs) Between)
puts [] tail cycle line all room = ap (λ v. hand_at Writing tail cycle v Between) (sym (append-nil line))
puts (c ∷ cs) tail cycle line all room =
    let rest : List Step = replicate (length cs) (Takes Letter 1) ++ tail in (
      hand_at Writing rest cycle line (Due Letter 1),
      hand_at Writing rest cycle (line ++ c ∷ []) Between,
      refl,
      ap (λ r. (r >>= λ text. extended line text) >>= λ l. Ok (hand_at Writing rest cycle l Between)) (letter_text_is c (All-head IsLetter c cs all))
          ∙ ap (λ b. (if b then Ok (line ++ c ∷ []) else Err LongRecord) >>= λ l. Ok (hand_at Writing rest cycle l Between)) (le-leb (length line + 1) 132 (omega arith)),
      subst (λ v. PutsLetters cs (hand_at Writing rest cycle (line ++ c ∷ []) Between) (hand_at Writing tail cycle v Between)) (append_assoc line (c ∷ []) cs)
          (puts cs tail cycle (line ++ c ∷ []) (All-tail IsLetter c cs all) (let f : length (line ++ c ∷ []) ≡ length line + 1 = length-append line (c ∷ []) in omega (arith, f))),
    )

-- ---- characters come in ----

take_none : (n : ℕ) → ◌≡◌ {A = List ℕ} (take n []) []
take_none zero = refl
take_none (suc n) = refl

pub field_next : (n : ℕ) (line : List ℕ) → field (suc n) line ≡ get_or line 0 32 ∷ field n (drop 1 line)
field_next n [] = ap (λ v. replicate v 32) (let e : suc n - 0 ≡ suc n = omega arith in e)
    ∙ ap (λ v. 32 ∷ replicate v 32) (let e : n ≡ n - 0 = omega arith in e) ∙ ap (λ v. 32 ∷ (v ++ replicate (n - 0) 32)) (sym (take_none n))
field_next n (l ∷ ls) = ap (λ v. l ∷ (take n ls ++ replicate v 32)) (let e : suc n - suc (length ls) ≡ n - length ls = omega arith in e)

field_zero : (line : List ℕ) → field 0 line ≡ []
field_zero line = ap (λ v. replicate v 32) (let e : 0 - length line ≡ 0 = omega arith in e)

field_one : (line : List ℕ) → field 1 line ≡ get_or line 0 32 ∷ []
field_one line = field_next 0 line ∙ ap (λ v. get_or line 0 32 ∷ v) (field_zero (drop 1 line))

drop_next : (n : ℕ) (line : List ℕ) → drop n (drop 1 line) ≡ drop (suc n) line
drop_next zero line = refl
drop_next (suc n) [] = refl
drop_next (suc n) (l ∷ ls) = refl

takes : (cs : List ℕ) (tail cycle : List Step) (line : List ℕ) → All IsLetter cs → cs ≡ field (length cs) line
    → TakesLetters cs (hand_at Reading (replicate (length cs) (Takes Letter 1) ++ tail) cycle line Between) (hand_at Reading tail cycle (drop (length cs) line) Between)
takes [] tail cycle line all e = refl
takes (c ∷ cs) tail cycle line all e =
    let rest : List Step = replicate (length cs) (Takes Letter 1) ++ tail in
    let f : c ∷ cs ≡ get_or line 0 32 ∷ field (length cs) (drop 1 line) = e ∙ field_next (length cs) line in (
      hand_at Reading rest cycle line (Due Letter 1),
      hand_at Reading rest cycle (drop 1 line) Between,
      refl,
      ap (λ r. r >>= λ n. Ok (n, hand_at Reading rest cycle (drop 1 line) Between))
          (ap letter_of (field_one line) ∙ ap letter_at (sym (let g : c ≡ get_or line 0 32 = cc in g)) ∙ ap (λ b. if b then Ok (pos c) else Err BadCharacter) (All-head IsLetter c cs all)),
      subst (λ v. TakesLetters cs (hand_at Reading rest cycle (drop 1 line) Between) (hand_at Reading tail cycle v Between)) (drop_next (length cs) line)
          (takes cs tail cycle (drop 1 line) (All-tail IsLetter c cs all) (let g : cs ≡ field (length cs) (drop 1 line) = cc in g)),
    )

-- ---- the hands of an Edit ----

-- behind so many edits of its instruction, with another record in hand
abbrev pub moved : Stand → ℕ → List ℕ → Stand
moved s k line = record s { past = s.past + k; line = line }

next_at : (fs : Fields) (old : Stand) (k n : ℕ) (line : List ℕ) → n ≡ k → LettersNext fs old k → (hand_of fs old).rest ≡ replicate n (Takes Letter 1) ++ (hand_of fs (moved old k line)).rest
next_at fs old k n line e next = next ∙ ap (λ v. replicate v (Takes Letter 1) ++ (hand_of fs (moved old k line)).rest) (sym e)

nothing_moved : (fs : Fields) (old : Stand) (k : ℕ) (line : List ℕ) → k ≡ 0 → line ≡ old.line → hand_of fs old ≡ hand_of fs (moved old k line)
nothing_moved fs old k line e same =
    ap (λ v. hand_of fs (record old { past = v })) (let f : old.past ≡ old.past + k = omega arith in f) ∙ ap (λ v. hand_of fs (moved old k v)) (sym same)

puts_at : (cs : List ℕ) (w : Way) (rest tail cycle : List Step) (line : List ℕ) (m : Mark) → w ≡ Writing → m ≡ Between → rest ≡ replicate (length cs) (Takes Letter 1) ++ tail
    → All IsLetter cs → length line + length cs ≤ 132 → PutsLetters cs (hand_at w rest cycle line m) (hand_at w tail cycle (line ++ cs) m)
puts_at cs w rest tail cycle line m ew em er all room =
    subst (λ u. PutsLetters cs (hand_at u rest cycle line m) (hand_at u tail cycle (line ++ cs) m)) (sym ew)
    (subst (λ u. PutsLetters cs (hand_at Writing rest cycle line u) (hand_at Writing tail cycle (line ++ cs) u)) (sym em)
    (subst (λ u. PutsLetters cs (hand_at Writing u cycle line Between) (hand_at Writing tail cycle (line ++ cs) Between)) (sym er)
    (puts cs tail cycle line all room)))

takes_at : (cs : List ℕ) (w : Way) (rest tail cycle : List Step) (line : List ℕ) (m : Mark) → w ≡ Reading → m ≡ Between → rest ≡ replicate (length cs) (Takes Letter 1) ++ tail
    → All IsLetter cs → cs ≡ field (length cs) line → TakesLetters cs (hand_at w rest cycle line m) (hand_at w tail cycle (drop (length cs) line) m)
takes_at cs w rest tail cycle line m ew em er all e =
    subst (λ u. TakesLetters cs (hand_at u rest cycle line m) (hand_at u tail cycle (drop (length cs) line) m)) (sym ew)
    (subst (λ u. TakesLetters cs (hand_at Reading rest cycle line u) (hand_at Reading tail cycle (drop (length cs) line) u)) (sym em)
    (subst (λ u. TakesLetters cs (hand_at Reading u cycle line Between) (hand_at Reading tail cycle (drop (length cs) line) Between)) (sym er)
    (takes cs tail cycle line all e)))

pub puts_run : (fs : Fields) (old : Stand) (cs : List ℕ) (k : ℕ) → old.way ≡ Writing → (0 < k → old.mark ≡ Between) → LettersNext fs old k
    → length cs ≡ k → All IsLetter cs → (0 < k → length (old.line ++ cs) ≤ 132) → PutsLetters cs (hand_of fs old) (hand_of fs (moved old k (old.line ++ cs)))
puts_run fs old [] k w m next n all room = nothing_moved fs old k (old.line ++ []) (sym n) (append-nil old.line)
puts_run fs old (c ∷ cs) k w m next n all room =
    let some : 0 < k = omega arith in
    let fits : length (old.line ++ c ∷ cs) ≤ 132 = room some in
    let long : length (old.line ++ c ∷ cs) ≡ length old.line + length (c ∷ cs) = length-append old.line (c ∷ cs) in
    puts_at (c ∷ cs) old.way _ _ _ old.line old.mark w (m some) (next_at fs old k (length (c ∷ cs)) (old.line ++ c ∷ cs) n next) all (omega (arith, fits, long))

pub takes_run : (fs : Fields) (old : Stand) (cs : List ℕ) (k : ℕ) → old.way ≡ Reading → (0 < k → old.mark ≡ Between) → LettersNext fs old k
    → length cs ≡ k → All IsLetter cs → cs ≡ field (length cs) old.line → TakesLetters cs (hand_of fs old) (hand_of fs (moved old k (drop (length cs) old.line)))
takes_run fs old [] k w m next n all e = nothing_moved fs old k old.line (sym n) refl
takes_run fs old (c ∷ cs) k w m next n all e =
    takes_at (c ∷ cs) old.way _ _ _ old.line old.mark w (m (omega arith)) (next_at fs old k (length (c ∷ cs)) (drop (length (c ∷ cs)) old.line) n next) all e

abbrev pub edit_at : Way → ℕ → ℕ → List ℕ → List ℕ → List ℕ → Mark → Stand
edit_at w pc past counts output input m = record { way = w; pc = pc; past = past; counts = counts; line = line_in w output input; mark = m }

pub moved_out : (w : Way) (pc past k : ℕ) (counts output new input cs : List ℕ) (m : Mark) (old : Stand) → edit_at w pc past counts output input m ≡ old → old.way ≡ Writing → new ≡ output ++ cs
    → edit_at w pc (past + k) counts new input m ≡ moved old k (old.line ++ cs)
moved_out w pc past k counts output new input cs m old is ew e =
    let here : w ≡ Writing = ap (λ s. s.way) is ∙ ew in
    let grown : line_in w new input ≡ line_in w output input ++ cs
    = ap (λ u. line_in u new input) here ∙ e ∙ ap (λ u. line_in u output input ++ cs) (sym here) in
    ap (λ v. record { way = w; pc = pc; past = past + k; counts = counts; line = v; mark = m }) grown
    ∙ ap (λ s. moved s k (s.line ++ cs)) is

pub moved_in : (w : Way) (pc past k : ℕ) (counts output new input : List ℕ) (m : Mark) (old : Stand) → edit_at w pc past counts output input m ≡ old → old.way ≡ Reading → new ≡ drop k input
    → edit_at w pc (past + k) counts output new m ≡ moved old k (drop k old.line)
moved_in w pc past k counts output new input m old is ew e =
    let here : w ≡ Reading = ap (λ s. s.way) is ∙ ew in
    let behind : line_in w output new ≡ drop k (line_in w output input)
    = ap (λ u. line_in u output new) here ∙ e ∙ ap (λ u. drop k (line_in u output input)) (sym here) in
    ap (λ v. record { way = w; pc = pc; past = past + k; counts = counts; line = v; mark = m }) behind
    ∙ ap (λ s. moved s k (drop k s.line)) is

-- the record in hand of a WRITE, and of a READ
written : (w : Way) (pc past : ℕ) (counts output input : List ℕ) (m : Mark) (old : Stand) → edit_at w pc past counts output input m ≡ old → old.way ≡ Writing → output ≡ old.line
written w pc past counts output input m old is ew = ap (λ u. line_in u output input) (sym (ap (λ s. s.way) is ∙ ew)) ∙ ap (λ s. s.line) is

unread : (w : Way) (pc past : ℕ) (counts output input : List ℕ) (m : Mark) (old : Stand) → edit_at w pc past counts output input m ≡ old → old.way ≡ Reading → input ≡ old.line
unread w pc past counts output input m old is ew = ap (λ u. line_in u output input) (sym (ap (λ s. s.way) is ∙ ew)) ∙ ap (λ s. s.line) is

pub puts_laid : (fs : Fields) (w : Way) (pc past : ℕ) (counts output new input : List ℕ) (m : Mark) (old : Stand) (cs : List ℕ) (k laid : ℕ)
    → edit_at w pc past counts output input m ≡ old → old.way ≡ Writing → k ≤ laid → (0 < laid → old.mark ≡ Between) → ((j : ℕ) → j ≤ laid → LettersNext fs old j)
    → length cs ≡ k → All IsLetter cs → (0 < k → length new ≤ 132) → new ≡ output ++ cs
    → PutsLetters cs (hand_of fs old) (hand_of fs (edit_at w pc (past + k) counts new input m))
puts_laid fs w pc past counts output new input m old cs k laid is ew le between onward n all room e =
    let line_is : output ≡ old.line = written w pc past counts output input m old is ew in
    subst (λ s. PutsLetters cs (hand_of fs old) (hand_of fs s)) (sym (moved_out w pc past k counts output new input cs m old is ew e))
    (puts_run fs old cs k ew (λ lt. between (omega arith)) (onward k le) n all (λ lt. subst (λ v. length v ≤ 132) (e ∙ ap (λ v. v ++ cs) line_is) (room lt)))

pub takes_laid : (fs : Fields) (w : Way) (pc past : ℕ) (counts output new input : List ℕ) (m : Mark) (old : Stand) (cs : List ℕ) (k laid : ℕ)
    → edit_at w pc past counts output input m ≡ old → old.way ≡ Reading → k ≤ laid → (0 < laid → old.mark ≡ Between) → ((j : ℕ) → j ≤ laid → LettersNext fs old j)
    → length cs ≡ k → All IsLetter cs → cs ≡ field k input → new ≡ drop k input
    → TakesLetters cs (hand_of fs old) (hand_of fs (edit_at w pc (past + k) counts output new m))
takes_laid fs w pc past counts output new input m old cs k laid is ew le between onward n all came e =
    let line_is : input ≡ old.line = unread w pc past counts output input m old is ew in
    subst (λ s. TakesLetters cs (hand_of fs old) (hand_of fs s)) (ap (λ v. moved old k (drop v old.line)) n ∙ sym (moved_in w pc past k counts output new input m old is ew e))
    (takes_run fs old cs k ew (λ lt. between (omega arith)) (onward k le) n all (came ∙ ap (field k) line_is ∙ ap (λ v. field v old.line) (sym n)))

-- ---- the front of some bytes ----

pub front_taken : (text : List ℕ) (most k : ℕ) → k ≤ length (take most text) → take k (take most text) ≡ take k text
front_taken text most k le = sym (take-append-le k (take most text) (drop most text) le) ∙ ap (take k) (take-append-drop most text)

pub front_length : (text : List ℕ) (most k : ℕ) → k ≤ length (take most text) → length (take k text) ≡ k
front_length text most k le = ap length (sym (front_taken text most k le)) ∙ length-take-le k (take most text) le

pub front_back : (bytes new cs : List ℕ) (most k : ℕ) → k ≤ length (take most bytes) → new ≡ cs ++ drop k (take most bytes) → new ++ drop most bytes ≡ cs ++ drop k bytes
front_back bytes new cs most k le e =
    ap (λ v. v ++ drop most bytes) e ∙ append_assoc cs (drop k (take most bytes)) (drop most bytes)
    ∙ ap (λ v. cs ++ v) (sym (drop-append-le k (take most bytes) (drop most bytes) le) ∙ ap (drop k) (take-append-drop most bytes))
