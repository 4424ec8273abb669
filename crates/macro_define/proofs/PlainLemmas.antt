-- Tokens that stand for themselves, one after another, and what they make.
use Rattle.std.proofs.Common.{◌≡◌, ℕ, suc, ◌+◌, ◌-◌, ◌<◌, ◌≤◌, Bool, false, true, List, [], ◌∷◌, ◌++◌, length, drop, get_or, refl, sym, ap, ◌∙◌, subst, arith, append_assoc, Ok, Err, Some, None}
use Rattle.std.specs.Prelude.{Option, Result, ◌==◌, if◌then◌else◌}
use Rattle.std.proofs.lemmas.List.{append-nil, length-append}
use Rattle.free_scan.proofs.StepLemmas.{drop-at}
use Rattle.ground.specs.declared.fault.Fault.{Fault}
use Rattle.ground.specs.declared.place.Place.{Place}
use Rattle.ground.specs.declared.token.Dialect.{Dialect}
use Rattle.ground.specs.declared.token.Token.{Token}
use Rattle.ground.specs.Faults.{limit_at}
use Rattle.macro_define.specs.Defines.{ends_line, first_word}
use Rattle.macro_define.specs.Expansion.{GatherState, Stop, from_tokens, in_file, is_text_end, part, plain_token, with_made}
use Rattle.macro_define.specs.Macros.{Macros, macro_of, replaced, token_made}
use Rattle.macro_define.specs.Made.{Made, and_then, put}
use Rattle.macro_define.specs.Plain.{ArePassed, ArePlain, IsPlain, begins_behind, with_all}
use Rattle.macro_define.proofs.FileLemmas.{tokens-next}

-- whether a line begins behind tokens is told by the last of them
pub begins_last : (begins : Bool) (ts : List Token) (other : Token) → 0 < length ts → begins_behind begins ts ≡ ends_line (get_or ts (length ts - 1) other).kind
begins_last begins [] other h = absurd (omega arith)
begins_last begins (t ∷ []) other h = refl
begins_last begins (t ∷ u ∷ ts) other h =
    let at : length (t ∷ u ∷ ts) - 1 ≡ suc (length (u ∷ ts) - 1) = omega arith in
    begins_last (ends_line t.kind) (u ∷ ts) other (omega arith) ∙ ap (λ n. ends_line (get_or (t ∷ u ∷ ts) n other).kind) (sym at)

begins_append : (begins : Bool) (ts us : List Token) → begins_behind begins (ts ++ us) ≡ begins_behind (begins_behind begins ts) us
begins_append begins [] us = refl
begins_append begins (t ∷ ts) us = begins_append (ends_line t.kind) ts us

plain_append : (d : Dialect) (macros : Macros) (begins : Bool) (ts us : List Token) → ArePlain d macros begins ts → ArePlain d macros (begins_behind begins ts) us → ArePlain d macros begins (ts ++ us)
plain_append d macros begins [] us h k = k
plain_append d macros begins (t ∷ ts) us h k = (h.0, plain_append d macros (ends_line t.kind) ts us h.1 k)

-- the tokens from one on, of which that is plain and so are those behind it
pub plain_next : (d : Dialect) (macros : Macros) (begins : Bool) (ts : List Token) (i : ℕ) (t : Token) → i < length ts → t ≡ get_or ts i t → IsPlain d macros begins t.kind
    → ArePlain d macros (ends_line t.kind) (drop (i + 1) ts) → ArePlain d macros begins (drop i ts)
plain_next d macros begins ts i t h is one more =
    let here : drop i ts ≡ t ∷ drop (i + 1) ts = drop-at ts i t h ∙ ap (λ u. u ∷ drop (i + 1) ts) (sym is) in
    subst (ArePlain d macros begins) (sym here) (one, more)

all_of_none : (m : Made) → m ≡ with_all [] m
all_of_none m =
    let tokens : m.tokens ≡ m.tokens ++ [] = sym (append-nil m.tokens) in
    let left : m.left ≡ m.left - 0 = omega arith in
    λ i. record { tokens = tokens i; left = left i }

all_append : (m : Made) (ts us : List Token) → with_all us (with_all ts m) ≡ with_all (ts ++ us) m
all_append m ts us =
    let tokens : (m.tokens ++ ts) ++ us ≡ m.tokens ++ (ts ++ us) = append_assoc m.tokens ts us in
    let many : length (ts ++ us) ≡ length ts + length us = length-append ts us in
    let left : m.left - length ts - length us ≡ m.left - length (ts ++ us) = omega (arith, many) in
    λ i. record { tokens = tokens i; left = left i }

-- what is left behind some tokens is as long as all of them but for these
pub shorter : (before passed after : List Token) → before ≡ passed ++ after → length after ≤ length before - length passed
shorter before passed after e =
    let many : length before ≡ length passed + length after = ap length e ∙ length-append passed after in
    omega (arith, many)

module _ (d : Dialect) (macros : Macros) (begins : Bool) (before : List Token) (old : Made) where
  -- where none was put
  pub nothing_passed : (after : List Token) → before ≡ after → ArePassed d macros begins before after old old begins
  nothing_passed after e = record { passed = []; same = e; plain = tt; fits = omega arith; put = all_of_none old; behind = refl }

  -- at first none have been put
  pub none_passed : (line rest : List Token) → before ≡ line ++ rest → ArePassed d macros begins before (line ++ rest) old old begins
  none_passed line rest e = nothing_passed (line ++ rest) e

  -- and then those of a line more
  pub more_passed : (line rest next : List Token) (mid new : Made) (later behind : Bool) → ArePassed d macros begins before (line ++ rest) old mid later → ArePlain d macros later line
      → length line ≤ mid.left → new ≡ with_all line mid → rest ≡ next → behind ≡ begins_behind later line → ArePassed d macros begins before next old new behind
  more_passed line rest next mid new later behind p plain few put on is =
      let left : mid.left ≡ old.left - length p.passed = ap (λ (m : Made). m.left) p.put in
      let many : length (p.passed ++ line) ≡ length p.passed + length line = length-append p.passed line in
      let fits = p.fits in
      record {
        passed = p.passed ++ line;
        same = p.same ∙ sym (append_assoc p.passed line rest) ∙ ap (λ ts. (p.passed ++ line) ++ ts) on;
        plain = plain_append d macros begins p.passed line p.plain (subst (λ b. ArePlain d macros b line) p.behind plain);
        fits = omega (arith, left, many, fits, few);
        put = put ∙ ap (with_all line) p.put ∙ all_append old p.passed line;
        behind = is ∙ ap (λ b. begins_behind b line) p.behind ∙ sym (begins_append begins p.passed line);
      }

module _ (include : Place → List ℕ → GatherState → Result GatherState Stop) (d : Dialect) (outermost : Bool) (name : List ℕ) where
  not_last : (b : Bool) (t : Token) (w : GatherState) → is_text_end t.kind ≡ false → plain_token d b name t w ≡ in_file name w.answers (with_made w (token_made d w.macros t w.made))
  not_last true t w e = refl
  not_last false t w e = ap (λ c. if c then Ok w else in_file name w.answers (with_made w (token_made d w.macros t w.made))) e

  itself : (t : Token) (macros : Macros) (m : Made) → macro_of d macros t.kind ≡ None → 0 < m.left → token_made d macros t m ≡ Ok (with_all (t ∷ []) m)
  itself t macros m unnamed some =
      let left : (m.left == 0) ≡ false = grind (arith, some) in
      ap (λ o. elim o [ Some n ↦ replaced d macros t.place (length macros) [] n m | None ↦ put t m ]) unnamed
      ∙ ap (λ b. if b then Err (limit_at t.place 2) else Ok (with_all (t ∷ []) m)) left

  plain_part : (begins : Bool) (t : Token) (ts : List Token) (w : GatherState) → IsPlain d w.macros begins t.kind → 0 < w.made.left
      → part include d outermost name (first_word begins t.kind) t ts w ≡ Ok (ts, record w { made = with_all (t ∷ []) w.made })
  plain_part begins t ts w p some =
      ap (λ f. part include d outermost name f t ts w) p.other
      ∙ ap (λ r. and_then r (λ v. Ok (ts, v))) (not_last outermost t w p.goes_on ∙ ap (λ r. in_file name w.answers (with_made w r)) (itself t w.macros w.made p.unnamed some))

  pass_all : (xs ts : List Token) (n : ℕ) (begins : Bool) (fault : Option Fault) (w : GatherState) → ArePlain d w.macros begins xs → length xs ≤ w.made.left → length (xs ++ ts) ≤ n
      → from_tokens include d outermost name n begins (xs ++ ts) fault w ≡ from_tokens include d outermost name (n - length xs) (begins_behind begins xs) ts fault (record w { made = with_all xs w.made })
  pass_all [] ts n begins fault w plain few fits =
      let same : n ≡ n - 0 = omega arith in
      ap (λ k. from_tokens include d outermost name k begins ts fault w) same
      ∙ ap (λ m. from_tokens include d outermost name (n - 0) begins ts fault (record w { made = m })) (all_of_none w.made)
  pass_all (x ∷ xs) ts n begins fault w plain few fits =
      let next : GatherState = record w { made = with_all (x ∷ []) w.made } in
      let less : n - 1 - length xs ≡ n - length (x ∷ xs) = omega arith in
      let later = begins_behind (ends_line x.kind) xs in
      tokens-next include d outermost name n begins x (xs ++ ts) fault w fits
      ∙ ap (λ r. and_then r (λ p. from_tokens include d outermost name (n - 1) (ends_line x.kind) p.0 fault p.1)) (plain_part begins x (xs ++ ts) w plain.0 (omega (arith, few)))
      ∙ pass_all xs ts (n - 1) (ends_line x.kind) fault next plain.1 (omega (arith, few)) (omega (arith, fits))
      ∙ ap (λ k. from_tokens include d outermost name k later ts fault (record w { made = with_all xs next.made })) less
      ∙ ap (λ m. from_tokens include d outermost name (n - length (x ∷ xs)) later ts fault (record w { made = m })) (all_append w.made (x ∷ []) xs)

  -- what tokens make, of which the first were passed
  pub pass : (n : ℕ) (begins later : Bool) (before after : List Token) (fault : Option Fault) (w v : GatherState) (p : ArePassed d w.macros begins before after w.made v.made later)
      → v ≡ record w { made = v.made } → length before ≤ n
      → from_tokens include d outermost name n begins before fault w ≡ from_tokens include d outermost name (n - length p.passed) later after fault v
  pass n begins later before after fault w v p same fits =
      let k = n - length p.passed in
      ap (λ ts. from_tokens include d outermost name n begins ts fault w) p.same
      ∙ pass_all p.passed after n begins fault w p.plain p.fits (subst (λ ts. length ts ≤ n) p.same fits)
      ∙ ap (λ b. from_tokens include d outermost name k b after fault (record w { made = with_all p.passed w.made })) (sym p.behind)
      ∙ ap (λ m. from_tokens include d outermost name k later after fault (record w { made = m })) (sym p.put)
      ∙ ap (from_tokens include d outermost name k later after fault) (sym same)
