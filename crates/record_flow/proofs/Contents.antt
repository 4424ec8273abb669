-- What goes out or comes in leaves the statement going, and integers that come in are in range.
use Rattle.std.specs.Prelude.{◌≡◌, ℕ, zero, suc, ◌≤◌, Bool, true, false, List, [], ◌∷◌, ℤ, pos, unsigned_abs, Result, Ok, Err, Option, Some, None, nat_le, nat_eq, refl, if◌then◌else◌}
use Rattle.std.proofs.Common.{sym, ◌∙◌, ap, subst, arith}
use Rattle.std.proofs.lemmas.Bool.{leb-true, and_parts}
use Rattle.std.specs.Result.{IsErrAnd}
use Rattle.ground.specs.declared.trap.Trap.{Trap}
use Rattle.ground.specs.declared.trap.Trap.TheVariants.{BadCharacter}
use Rattle.ground.specs.Arithmetic.{IsInRange}
use Rattle.ground.specs.Content.{Whole}
use Rattle.f66_tree.specs.declared.editing.EditKind.{EditKind}
use Rattle.f66_tree.specs.declared.editing.EditKind.TheVariants as edits
use Rattle.f66_tree.specs.declared.editing.Mark.{Mark}
use Rattle.f66_tree.specs.declared.editing.Mark.TheVariants.{Between, Due, Complete, Over}
use Rattle.f66_tree.specs.World.{Tape, Move, lifted}
use Rattle.f66_tree.specs.Records.{put as put_content, put_by, handed}
use Rattle.format_io.specs.Answers.{due_of}
use Rattle.record_flow.specs.declared.flow.Break.{Break}
use Rattle.record_flow.specs.declared.flow.Break.TheVariants.{Trapped}
use Rattle.record_flow.specs.Moves.{IsBroken, IsPut}
use Rattle.f66_tree.specs.Fielded.{field, whole_text, truth_text, whole_of, truth_of, letter_of, signed, ranged, signed_value, sign_of, minus, digits_of, unblanked, is_character}
use Rattle.f66_tree.specs.Turns.{Hand, ◌>>=◌, extended, with_letter, is_over, width_of, past, put_text, put_whole, put_truth, put_letter, take_whole, take_truth, take_letter}

abbrev Goes : Result Hand Trap → Type 0
Goes (Ok h) = is_over h.mark ≡ false
Goes (Err e) = Unit {0}

put_goes : (h : Hand) (text : List ℕ) → Goes (put_text h text)
put_goes h text = elim (extended h.line text) as (λ r. Goes (r >>= λ line. Ok (record h { line = line; mark = Between }))) [ Ok line ↦ refl | Err e ↦ tt ]

pub whole_out : (h h1 : Hand) (n : ℤ) → put_whole h n ≡ Ok h1 → is_over h1.mark ≡ false
whole_out h h1 n e = subst Goes e (put_goes h (whole_text (width_of h.mark) n))

pub truth_out : (h h1 : Hand) (b : Bool) → put_truth h b ≡ Ok h1 → is_over h1.mark ≡ false
truth_out h h1 b e = subst Goes e (put_goes h (truth_text (width_of h.mark) b))

pub letter_out : (h h1 : Hand) (n : ℤ) → put_letter h n ≡ Ok h1 → is_over h1.mark ≡ false
letter_out h h1 n e = subst Goes e (elim (with_letter n h.line) as (λ r. Goes (r >>= λ line. Ok (record h { line = line; mark = Between }))) [ Ok line ↦ refl | Err e ↦ tt ])

-- ---- what does not go out ----

abbrev IsWhole : Option EditKind → Type 0
IsWhole (Some edits.Whole) = Unit {0}
IsWhole (Some edits.Truth) = ⊥
IsWhole (Some edits.Letter) = ⊥
IsWhole None = ⊥

put_by_whole : (m : Mark) (h : Hand) (n : ℤ) → due_of m ≡ Some edits.Whole → put_by m (Whole n) h ≡ lifted (put_whole h n)
put_by_whole Between h n e = absurd (subst IsWhole (sym e) tt)
put_by_whole (Due edits.Whole w) h n e = refl
put_by_whole (Due edits.Truth w) h n e = absurd (subst IsWhole (sym e) tt)
put_by_whole (Due edits.Letter w) h n e = absurd (subst IsWhole (sym e) tt)
put_by_whole Complete h n e = absurd (subst IsWhole (sym e) tt)
put_by_whole Over h n e = absurd (subst IsWhole (sym e) tt)

-- an integer that a trap keeps from going out
pub whole_stays : (t new : Tape) (n : ℤ) (e : Trap) → due_of t.hand.mark ≡ Some edits.Whole → put_whole t.hand n ≡ Err e → t.written ≡ new.written
    → IsBroken (put_content (Whole n) t) e new
whole_stays t new n e due said kept = (t, ap (handed t) (put_by_whole t.hand.mark t.hand n due ∙ ap lifted said), kept)

pub put_broken : (r : Result (Unit {0}) Break) (m : Move) (new : Tape) (e : Trap) → IsErrAnd r (λ s. s ≡ Trapped e) → IsBroken m e new → IsPut m r new
put_broken (Ok u) m new e is broken = absurd is
put_broken (Err s) m new e is broken = subst (λ v. IsPut m (Err v) new) (sym is) broken

-- ---- what comes in ----

-- what comes in, and the hand behind its field
abbrev GoesBy : {A : Type 0} → (A → Type 0) → Result (A × Hand) Trap → Type 0
GoesBy P (Ok x) = P x.0 × (is_over x.1.mark ≡ false)
GoesBy P (Err e) = Unit {0}

abbrev Holds : {A : Type 0} → (A → Type 0) → Result A Trap → Type 0
Holds P (Ok x) = P x
Holds P (Err e) = Unit {0}

past_goes : {A : Type 0} (P : A → Type 0) (h : Hand) (r : Result A Trap) → Holds P r → GoesBy P (r >>= λ x. Ok (x, past h))
past_goes P h (Ok x) holds = (holds, refl)
past_goes P h (Err e) holds = tt

minus_abs : (n : ℕ) → unsigned_abs (minus n) ≡ n
minus_abs zero = refl
minus_abs (suc n) = refl

sign_abs : (b : Bool) (n : ℕ) → unsigned_abs (sign_of b n) ≡ n
sign_abs true n = minus_abs n
sign_abs false n = refl

small : (b : Bool) (n : ℕ) → nat_le n 2147483647 ≡ true → IsInRange (sign_of b n)
small b n e = record { magnitude = subst (λ m. m ≤ 2147483647) (sym (sign_abs b n)) (leb-true n 2147483647 e) }

sign_in : (b : Bool) (o : Option ℕ) → Holds IsInRange (ranged (sign_of b) o)
sign_in b None = tt
sign_in b (Some n) = go (nat_le n 2147483647) refl
  where
    go : (v : Bool) → nat_le n 2147483647 ≡ v → Holds IsInRange (signed_value (sign_of b) (if v then Some n else None))
    go true e = small b n e
    go false e = tt

signed_in : (cs : List ℕ) → Holds IsInRange (signed cs)
signed_in [] = small false 0 refl
signed_in (c ∷ cs) = elim (nat_eq c 43) as (λ b. Holds IsInRange (if b then ranged (sign_of false) (digits_of cs) else (if nat_eq c 45 then ranged (sign_of true) (digits_of cs) else ranged (sign_of false) (digits_of (c ∷ cs))))) [
  | true ↦ sign_in false (digits_of cs)
  | false ↦ elim (nat_eq c 45) as (λ b. Holds IsInRange (if b then ranged (sign_of true) (digits_of cs) else ranged (sign_of false) (digits_of (c ∷ cs)))) [ true ↦ sign_in true (digits_of cs) | false ↦ sign_in false (digits_of (c ∷ cs)) ]
]

letter_in : (cs : List ℕ) → Holds IsInRange (letter_of cs)
letter_in [] = tt
letter_in (c ∷ cs) = go (is_character c) refl
  where
    go : (v : Bool) → is_character c ≡ v → Holds IsInRange (if v then Ok (pos c) else Err BadCharacter)
    go true e = record { magnitude = let most = leb-true c 126 (and_parts (nat_le 32 c) (nat_le c 126) e).1 in omega (arith, most) }
    go false e = tt

whole_by : (h h1 : Hand) (n : ℤ) → take_whole h ≡ Ok (n, h1) → IsInRange n × (is_over h1.mark ≡ false)
whole_by h h1 n e = subst (GoesBy IsInRange) e (past_goes IsInRange h (whole_of (field (width_of h.mark) h.line)) (signed_in (unblanked (field (width_of h.mark) h.line))))

letter_by : (h h1 : Hand) (n : ℤ) → take_letter h ≡ Ok (n, h1) → IsInRange n × (is_over h1.mark ≡ false)
letter_by h h1 n e = subst (GoesBy IsInRange) e (past_goes IsInRange h (letter_of (field 1 h.line)) (letter_in (field 1 h.line)))

pub whole_in_range : (h h1 : Hand) (n : ℤ) → take_whole h ≡ Ok (n, h1) → IsInRange n
whole_in_range h h1 n e = (whole_by h h1 n e).0

pub whole_goes : (h h1 : Hand) (n : ℤ) → take_whole h ≡ Ok (n, h1) → is_over h1.mark ≡ false
whole_goes h h1 n e = (whole_by h h1 n e).1

pub letter_in_range : (h h1 : Hand) (n : ℤ) → take_letter h ≡ Ok (n, h1) → IsInRange n
letter_in_range h h1 n e = (letter_by h h1 n e).0

pub letter_goes : (h h1 : Hand) (n : ℤ) → take_letter h ≡ Ok (n, h1) → is_over h1.mark ≡ false
letter_goes h h1 n e = (letter_by h h1 n e).1

any : (r : Result Bool Trap) → Holds (λ b. Unit {0}) r
any (Ok b) = tt
any (Err e) = tt

pub truth_goes : (h h1 : Hand) (b : Bool) → take_truth h ≡ Ok (b, h1) → is_over h1.mark ≡ false
truth_goes h h1 b e = (subst (GoesBy (λ v. Unit {0})) e (past_goes (λ v. Unit {0}) h (truth_of (field (width_of h.mark) h.line)) (any (truth_of (field (width_of h.mark) h.line))))).1
