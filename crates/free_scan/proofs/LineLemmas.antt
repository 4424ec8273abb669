-- The line from a place on, step by step.
use Rattle.std.proofs.Common.{◌≡◌, ℕ, zero, suc, ◌+◌, ◌-◌, ◌<◌, ◌≤◌, true, None, Some, take, if◌then◌else◌, List, [], ◌∷◌, ◌++◌, length, get_or, drop, refl, sym, ◌∙◌, ap, arith, append_assoc, add-zero, length-drop, subst}
use Rattle.std.proofs.lemmas.List.{drop-drop, take_more}
use Rattle.std.proofs.lemmas.List.Elements.{All-push}
use Rattle.free_scan.proofs.StepLemmas.{drop-at}
use Rattle.std.specs.Prelude.{All, Option}
use Rattle.ground.specs.declared.token.Dialect.{Dialect}
use Rattle.free_scan.specs.declared.lines.Character.{Character}
use Rattle.free_scan.specs.declared.lines.Part.{Part}
use Rattle.free_scan.specs.declared.lines.Part.TheVariants.{Ends, Dropped, Joined, Kept}
use Rattle.free_scan.specs.Characters.{is_blank}
use Rattle.free_scan.specs.Lines.{Line, line, part, with_characters, ends_at, last_byte, IsWithin}

-- what the loop keeps: the line from the start is what was read, and then the line from here
pub record IsRead (d : Dialect) (text : List ℕ) (start number at now : ℕ) (cs : List Character) : Type 0 where
  pub same : line d 0 start number (drop start text) ≡ with_characters cs (line d 0 at now (drop at text))
  pub in_text : at ≤ length text
  pub reached : start ≤ at
  pub counted : now ≤ at + 1
  pub numbered : 0 < now
  pub within : All (IsWithin start (length text)) cs

-- the bytes of an earlier part are passed over
pub line-gone : (d : Dialect) (gone at number : ℕ) (bs : List ℕ) → gone ≤ length bs → line d gone at number bs ≡ line d 0 (at + gone) number (drop gone bs)
line-gone d zero at number bs h = ap (λ n. line d 0 n number bs) (sym (add-zero at))
line-gone d (suc gone) at number [] h = absurd (omega arith)
line-gone d (suc gone) at number (b ∷ bs) h =
    let same : at + 1 + gone ≡ at + suc gone = omega arith in
    line-gone d gone (at + 1) number bs (omega arith) ∙ ap (λ n. line d 0 n number (drop gone bs)) same

-- a line by the part that stands at its first byte
abbrev by_part : Dialect → ℕ → ℕ → List ℕ → ℕ → Part → Line
by_part d at number bs b Ends = ends_at (at + 1) (number + 1) true
by_part d at number bs b (Dropped n) = line d n (at + 1) number bs
by_part d at number bs b (Joined n) = line d n (at + 1) (number + 1) bs
by_part d at number bs b (Kept n) = with_characters (record { byte = b; line = number; next = at + 1 } ∷ []) (line d n (at + 1) number bs)

line-part : (d : Dialect) (at number : ℕ) (bs : List ℕ) (b : ℕ) (p : Part) → part d b bs ≡ p → line d 0 at number (b ∷ bs) ≡ by_part d at number bs b p
line-part d at number bs b p e = subst (λ q. line d 0 at number (b ∷ bs) ≡ by_part d at number bs b q) e refl

with_characters-append : (cs : List Character) (c : Character) (l : Line) → with_characters cs (with_characters (c ∷ []) l) ≡ with_characters (cs ++ c ∷ []) l
with_characters-append cs c l = ap (λ (x : List Character). record { characters = x; ending = l.ending }) (sym (append_assoc cs (c ∷ []) l.characters))

module _ (d : Dialect) (text : List ℕ) (start number at now : ℕ) (cs : List Character) (read : IsRead d text start number at now cs) (h : at < length text) where
  -- where a part takes n bytes more, the line goes on behind them
  further : (n other : ℕ) → n + (at + 1) ≤ length text → line d n (at + 1) other (drop (at + 1) text) ≡ line d 0 (at + (1 + n)) other (drop (at + (1 + n)) text)
  further n other fits =
      let same : at + 1 + n ≡ at + (1 + n) = omega arith in
      line-gone d n (at + 1) other (drop (at + 1) text) (omega (arith, length-drop (at + 1) text))
      ∙ ap (line d 0 (at + 1 + n) other) (drop-drop n (at + 1) text)
      ∙ ap (λ m. line d 0 m other (drop m text)) same

  -- the line from here, by the part that stands here
  here : (p : Part) → part d (get_or text at 0) (drop (at + 1) text) ≡ p → line d 0 start number (drop start text) ≡ with_characters cs (by_part d at now (drop (at + 1) text) (get_or text at 0) p)
  here p e = read.same ∙ ap (with_characters cs) (ap (line d 0 at now) (drop-at text at 0 h) ∙ line-part d at now (drop (at + 1) text) (get_or text at 0) p e)

  pub read-dropped : (n : ℕ) → part d (get_or text at 0) (drop (at + 1) text) ≡ Dropped n → n + (at + 1) ≤ length text → IsRead d text start number (at + (1 + n)) now cs
  read-dropped n e fits = record {
    same = here (Dropped n) e ∙ ap (with_characters cs) (further n now fits);
    in_text = omega arith;
    reached = omega (arith, read.reached);
    counted = omega (arith, read.counted);
    numbered = omega (arith, read.numbered);
    within = read.within;
  }

  pub read-joined : (n : ℕ) → part d (get_or text at 0) (drop (at + 1) text) ≡ Joined n → n + (at + 1) ≤ length text → IsRead d text start number (at + (1 + n)) (now + 1) cs
  read-joined n e fits = record {
    same = here (Joined n) e ∙ ap (with_characters cs) (further n (now + 1) fits);
    in_text = omega arith;
    reached = omega (arith, read.reached);
    counted = omega (arith, read.counted);
    numbered = omega (arith, read.numbered);
    within = read.within;
  }

  pub read-kept : (n : ℕ) → part d (get_or text at 0) (drop (at + 1) text) ≡ Kept n → n + (at + 1) ≤ length text
      → IsRead d text start number (at + (1 + n)) now (cs ++ record { byte = get_or text at 0; line = now; next = at + 1 } ∷ [])
  read-kept n e fits = record {
    same = here (Kept n) e ∙ ap (λ l. with_characters cs (with_characters (record { byte = get_or text at 0; line = now; next = at + 1 } ∷ []) l)) (further n now fits) ∙ with_characters-append cs (record { byte = get_or text at 0; line = now; next = at + 1 }) (line d 0 (at + (1 + n)) now (drop (at + (1 + n)) text));
    in_text = omega arith;
    reached = omega (arith, read.reached);
    counted = omega (arith, read.counted);
    numbered = omega (arith, read.numbered);
    within = All-push (IsWithin start (length text)) cs _ read.within (record { after_start = omega (arith, read.reached); in_text = omega arith; counted = read.counted; numbered = read.numbered });
  }

-- of characters and one more, that one is the last that isn't blank, or it doesn't count
last_byte_push : (found : Option ℕ) (cs : List Character) (c : Character) → last_byte found (cs ++ c ∷ []) ≡ (if is_blank c.byte then last_byte found cs else Some c.byte)
last_byte_push found [] c = refl
last_byte_push found (x ∷ cs) c = last_byte_push (if is_blank x.byte then found else Some x.byte) cs c

-- the same of the first characters of a line
pub last_byte_take : (cs : List Character) (n : ℕ) (other : Character) → 0 < n → n ≤ length cs
    → last_byte None (take n cs) ≡ (if is_blank (get_or cs (n - 1) other).byte then last_byte None (take (n - 1) cs) else Some (get_or cs (n - 1) other).byte)
last_byte_take cs n other some h =
    let on : n - 1 + 1 ≡ n = omega arith in
    ap (λ m. last_byte None (take m cs)) (sym on)
    ∙ ap (last_byte None) (take_more cs (n - 1) other (omega arith))
    ∙ last_byte_push None (take (n - 1) cs) (get_or cs (n - 1) other)
